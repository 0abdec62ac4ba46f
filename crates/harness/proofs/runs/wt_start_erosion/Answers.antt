-- With words of another length only the refusal is judged; else the library answers.
use Rattle.run.specs.declared.kinds.Kind.TheVariants.{Eroding}
use Rattle.run.specs.Starting.{start_record, erosion_refusals}
use Rattle.harness.proofs.RunAnswers.{start_other}
use Rattle.harness.proofs.runs.wt_start_erosion.Goals as goal

pub returns-then-words-ne-RECORD_WORDS : goal.returns-then-words-ne-RECORD_WORDS
returns-then-words-ne-RECORD_WORDS c =
    let args = c.args in
    start_other (erosion_refusals args.width args.height args.sheet.now args.side args.cells.now args.levels.now) tt
    (start_record Eroding args.width args.height 0 args.side args.cells.now) args.sheet.now args.levels.now args.words.now tt
    c.if-words-ne-RECORD_WORDS.true c.at_latest.ensures (rw c.input_of-input.ensures at c.check_erosion.ensures)
