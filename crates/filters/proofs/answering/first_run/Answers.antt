-- A started run may be finished.
use Rattle.filters.proofs.FirstRuns.{first_taken, first_fresh, first_finished}
use Rattle.filters.proofs.answering.first_run.Goals as goal

pub invariant_of-sound : goal.invariant_of-sound
invariant_of-sound c =
    let args = c.args in
    record {
      taken = first_taken args.input args.sheet.now args.bytes.now args.levels.now args.plan c.requires
          c.start_run-run.ensures;
    }

pub finish-requires : goal.finish-requires
finish-requires c =
    let args = c.args in
    first_fresh args.input args.sheet.now args.bytes.now args.levels.now args.plan c.requires
    c.start_run-run.ensures

pub returns : goal.returns
returns c =
    let args = c.args in
    first_finished args.input args.sheet.now args.bytes.now args.levels.now args.plan c.requires
    c.start_run-run.ensures c.finish.ensures
