use Rattle.filters.proofs.StoreLaws.{storing_start, storing_turn, storing_end}
use Rattle.maps.specs.Raising.{raised}
use native.Mathlib.Omega.{arith}
use mathlib.Core.Path.{ap, ◌∙◌}
use Rattle.maps.proofs.raise_row.Goals as goal

pub loop-i-init : goal.loop-i-init
loop-i-init c = storing_start c.requires

pub loop-i-preserved : goal.loop-i-preserved
loop-i-preserved c =
    let P = c.loop-i.invariant in
    storing_turn P (omega arith) (c.raised_level.ensures ∙ ap (raised c.args.most _) (P.rest c.loop-i.i (omega arith)))

pub returns : goal.returns
returns c = storing_end c.loop-i.invariant (omega arith)
