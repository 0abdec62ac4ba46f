-- The words are read first; with an answer slice of another length only the refusal is judged; else the library answers.
use Rattle.harness.proofs.WordLaws.{record_read}
use Rattle.harness.proofs.FileAnswers.{picture_other, picture_answers}
use Rattle.harness.proofs.files.wt_write_pgm.Goals as goal

pub returns-then-answer-ne1 : goal.returns-then-answer-ne1
returns-then-answer-ne1 c =
    let args = c.args in
    let h = record_read args.words.now c.in-Some.run' c.in-Some.ensures in
    picture_other args.words.now args.levels.now args.out.now args.answer.now h.0 c.in-Some.run' h.1 c.if-answer-ne1.true
    c.at_latest.ensures c.check_pgm.ensures.0

pub returns : goal.returns
returns c =
    let args = c.args in
    let h = record_read args.words.now c.in-Some.run' c.in-Some.ensures in
    rw c.answer_value.ensures.0 (picture_answers args.words.now args.levels.now args.out.now args.answer.now h.0 c.in-Some.run' h.1
    c.if-answer-ne1.false _ _ c.write_pgm.new.out c.write_pgm.ensures c.answer_value.new.answer c.answer_value.ensures.1)
