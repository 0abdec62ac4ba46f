-- The words are read, and the library answers.
use Rattle.harness.proofs.WordLaws.{record_read}
use Rattle.harness.proofs.AnswerLaws.{record_answers}
use Rattle.harness.proofs.runs.wt_threshold.Goals as goal

pub returns : goal.returns
returns c =
    let h = record_read c.args.words.now c.in-Some.run' c.in-Some.ensures in
    rw c.number.ensures (record_answers c.args.words.now h.0 (rw h.1 at c.threshold.ensures))
