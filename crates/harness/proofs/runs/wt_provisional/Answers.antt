-- The words are read first; with an answer slice of another length only the refusal is judged; else the library answers.
use Rattle.harness.proofs.WordLaws.{record_read}
use Rattle.harness.proofs.RunAnswers.{flagged, look_other, look_refuses, look_accepts}
use Rattle.harness.proofs.runs.wt_provisional.Goals as goal

pub returns-then-state-ne1 : goal.returns-then-state-ne1
returns-then-state-ne1 c =
    let args = c.args in
    let h = record_read args.words.now c.in-Some.run' c.in-Some.ensures in
    look_other args.words.now args.levels.now args.size args.out.now args.state.now h.0 c.in-Some.run' h.1 c.if-state-ne1.true
    c.at_latest.ensures c.check_provisional-judged.ensures.0

pub returns-in-Ok : goal.returns-in-Ok
returns-in-Ok c =
    let args = c.args in
    let h = record_read args.words.now c.in-Some.run' c.in-Some.ensures in
    look_accepts args.words.now args.levels.now args.size args.out.now args.state.now h.0 c.in-Some.run' h.1 c.if-state-ne1.false
    c.in-Ok.done c.provisional.new.out c.in-Ok.ensures c.from.result (flagged c.in-Ok.done c.from.result c.from.ensures)

pub returns-in-Err : goal.returns-in-Err
returns-in-Err c =
    let args = c.args in
    let h = record_read args.words.now c.in-Some.run' c.in-Some.ensures in
    rw c.number.ensures (look_refuses args.words.now args.levels.now args.size args.out.now args.state.now h.0 c.in-Some.run' h.1
    c.if-state-ne1.false c.in-Err.refusal c.provisional.new.out c.in-Err.ensures)
