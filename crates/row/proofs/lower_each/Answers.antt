use native.Mathlib.Omega.{arith}
use Prim.Native.Nat.{ℕ}
use mathlib.Core.Logic.{◌≢◌}
use mathlib.Core.Path.{◌∙◌}
use borrow.Author.Count.{below_more}
use lib.Seq.{get_or-set_same, get_or-set_other}
use Rattle.row.proofs.lower_each.Goals as goal

pub loop-i-preserved : goal.loop-i-preserved
loop-i-preserved g c =
    let loop = c.loop-i in
    let other : (k : ℕ) → k ≢ loop.i → _ = λ k h. get_or-set_other loop.levels loop.i k c.min.result 0 h in
    let same = get_or-set_same loop.levels loop.i c.min.result 0 (omega arith) in
    let left = loop.invariant.left loop.i (omega arith) in
    record {
      lowered = below_more _ _
          (λ k h. let was = loop.invariant.lowered k h in (was.0, was.1, other k (λ e. omega arith) ∙ was.2))
          (c.offer.result, c.offer.ensures, omega (arith, same, left, c.min.ensures, c.saturating_add.ensures));
      left = λ k h. other k (λ e. omega arith) ∙ loop.invariant.left k (omega arith);
    }

pub returns : goal.returns
returns g c = λ i h. c.loop-i.invariant.lowered i (omega arith)
