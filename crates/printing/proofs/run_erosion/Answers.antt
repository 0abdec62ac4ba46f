-- Each call is accepted, and gives what the next one goes on with.
use Rattle.std.proofs.Common.{◌≡◌}
use Rattle.run.specs.Records.{due}
use Rattle.run.specs.Starting.{start_levels}
use Rattle.run.specs.Continuing.{with_rows}
use Rattle.run.specs.Demand2.{finished}
use Rattle.printing.specs.Printing.{cross_run}
use Rattle.printing.proofs.RefusedLaws.{taken}
use Rattle.printing.proofs.CrossLaws.{start_gives, continue_gives, collect_gives}
use Rattle.printing.proofs.run_erosion.Goals as goal
use Rattle.printing.proofs.run_erosion.Goals.{After-unwrap-begun, After-unwrap-continued}

-- the run that was started, and the run that is finished
started : (c : After-unwrap-begun) → let run = cross_run c.args.frame.width c.args.frame.height in
    ((c.unwrap-begun.result ≡ run) × (c.start_erosion.new.levels ≡ start_levels run c.args.sheet.now))
started c =
    (start_gives c.args.frame.width c.args.frame.height c.args.sheet.now c.requires.0 c.args.levels.now c.requires.1.0
    (rw c.unwrap-begun.ensures at c.start_erosion.ensures)).1

whole : (c : After-unwrap-continued) → let run = cross_run c.args.frame.width c.args.frame.height in
    ((c.unwrap-continued.result.run ≡ with_rows run (due run)) ×
    (c.continue_run.new.levels ≡ finished run (start_levels run c.args.sheet.now)))
whole c =
    let s = (start_gives c.args.frame.width c.args.frame.height c.args.sheet.now c.requires.0 c.args.levels.now c.requires.1.0
    (rw c.unwrap-begun.ensures at c.start_erosion.ensures)).1 in
    (continue_gives c.args.frame.width c.args.frame.height c.args.sheet.now c.requires.0 s
    (rw c.unwrap-continued.ensures at c.continue_run.ensures)).1

pub unwrap-begun-requires : goal.unwrap-begun-requires
unwrap-begun-requires c =
    taken c.start_erosion.result (start_gives c.args.frame.width c.args.frame.height c.args.sheet.now c.requires.0 c.args.levels.now
    c.requires.1.0 c.start_erosion.ensures).0

pub unwrap-continued-requires : goal.unwrap-continued-requires
unwrap-continued-requires c =
    let s = started (goal.at.unwrap-continued-requires c).After-unwrap-begun in
    taken c.continue_run.result (continue_gives c.args.frame.width c.args.frame.height c.args.sheet.now c.requires.0 s
    c.continue_run.ensures).0

pub unwrap-requires : goal.unwrap-requires
unwrap-requires c =
    let w = whole (goal.at.unwrap-requires c).After-unwrap-continued in
    taken c.collect.result (collect_gives c.args.frame.width c.args.frame.height c.args.sheet.now c.requires.0 w
    c.args.collected.now c.requires.1.1 c.collect.ensures).0

pub returns : goal.returns
returns c =
    let w = whole (goal.at.returns c).After-unwrap-continued in (
      w.0,
      (collect_gives c.args.frame.width c.args.frame.height c.args.sheet.now c.requires.0 w c.args.collected.now c.requires.1.1
          c.collect.ensures).1,
    )
