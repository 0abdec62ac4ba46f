-- One continue by 8,192 rows is accepted and works all that are due.
use Rattle.filters.proofs.BackSteps.{finish_accepted, finish_rows}
use Rattle.filters.proofs.Refusing.{has_value}
use Rattle.filters.proofs.back.finish.Goals as goal

pub unwrap-requires : goal.unwrap-requires
unwrap-requires c =
    let args = c.args in
    let pre = c.requires in
    has_value c.continue_run.result (finish_accepted args.sound.run args.sound.taken pre.0 args.levels.now pre.1 c.continue_run.ensures)

pub returns : goal.returns
returns c =
    let args = c.args in
    let pre = c.requires in
    finish_rows args.sound.run args.sound.taken pre.0 args.levels.now pre.1 (rw c.unwrap.ensures at c.continue_run.ensures)
