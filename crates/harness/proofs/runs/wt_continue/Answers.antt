-- The words are read first; with an answer slice of another length only the refusal is judged, so that nothing is written; else
-- the library answers.
use Rattle.harness.proofs.WordLaws.{record_read, record_length}
use Rattle.harness.proofs.RunAnswers.{flagged, continue_other, continue_refuses, continue_accepts}
use Rattle.harness.proofs.runs.wt_continue.Goals as goal

pub returns-then-answer-ne2 : goal.returns-then-answer-ne2
returns-then-answer-ne2 c =
    let args = c.args in
    let h = record_read args.words.now c.in-Some.run' c.in-Some.ensures in
    continue_other args.words.now args.levels.now args.allowance args.answer.now h.0 c.in-Some.run' h.1 c.if-answer-ne2.true
    c.at_latest.ensures c.check_continue-judged.ensures.0

pub write_record-requires : goal.write_record-requires
write_record-requires c =
    record_length c.args.words.now (record_read c.args.words.now c.in-Some.run' c.in-Some.ensures).0

pub returns-in-Ok : goal.returns-in-Ok
returns-in-Ok c =
    let args = c.args in
    let worked = c.in-Ok.worked in
    let h = record_read args.words.now c.in-Some.run' c.in-Some.ensures in
    continue_accepts args.words.now args.levels.now args.allowance args.answer.now h.0 c.in-Some.run' h.1 c.if-answer-ne2.false
    worked c.continue_run.new.levels c.in-Ok.ensures c.write_record.new.words c.write_record.ensures c.from.result (flagged worked.done c.from.result c.from.ensures)

pub returns-in-Err : goal.returns-in-Err
returns-in-Err c =
    let args = c.args in
    let h = record_read args.words.now c.in-Some.run' c.in-Some.ensures in
    rw c.number.ensures (continue_refuses args.words.now args.levels.now args.allowance args.answer.now h.0 c.in-Some.run' h.1
    c.if-answer-ne2.false c.in-Err.refusal c.continue_run.new.levels c.in-Err.ensures)
