-- A side that passed reaches at most 3.
use Rattle.element.proofs.ElementLaws.{side_bounds}
use Rattle.run.proofs.RecordLaws.{margin_small}
use native.Mathlib.Omega.{arith}
use mathlib.Core.Path.{refl}
use Rattle.run.proofs.records.margin_of.Goals as goal

pub overflow_sub-result : goal.overflow_sub-result
overflow_sub-result c = let b = side_bounds c.args.side c.requires.0 in omega arith

pub overflow_mul-result : goal.overflow_mul-result
overflow_mul-result c = let m = margin_small c.args.cap c.args.side c.requires.0 c.requires.1 in omega arith

pub returns : goal.returns
returns c = (refl, margin_small c.args.cap c.args.side c.requires.0 c.requires.1)
