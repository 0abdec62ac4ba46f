-- With words of another length only the refusal is judged; else the library answers.
use Rattle.run.specs.Starting.{fresh_record, dilation_refusals}
use Rattle.harness.proofs.RunAnswers.{start_other}
use Rattle.harness.proofs.runs.start_on_canvas.Goals as goal

pub returns-then-words-ne-RECORD_WORDS : goal.returns-then-words-ne-RECORD_WORDS
returns-then-words-ne-RECORD_WORDS c =
    let args = c.args in
    start_other (dilation_refusals args.width args.height args.sheet.now args.side args.cells.now args.cap args.levels.now) tt
    (fresh_record args.kind args.edge args.width args.height args.cap args.side args.cells.now) args.sheet.now args.levels.now
    args.words.now tt c.if-words-ne-RECORD_WORDS.true c.at_latest.ensures (rw c.input_of-input.ensures at c.check_dilation.ensures)
