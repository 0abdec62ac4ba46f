-- With an answer slice of another length only the sheet is judged, since whatever the room is, 11 is left; else the library
-- answers.
use Rattle.harness.proofs.FileAnswers.{write_other}
use Rattle.harness.proofs.files.wt_write_pbm.Goals as goal

pub returns-then-answer-ne1 : goal.returns-then-answer-ne1
returns-then-answer-ne1 c =
    let args = c.args in
    write_other args.width args.height args.sheet.now args.out.now args.answer.now c.if-answer-ne1.true c.at_latest.ensures
    c.check_sheet.ensures
