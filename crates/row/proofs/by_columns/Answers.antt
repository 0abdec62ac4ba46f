-- The three calls are the passes of the three stretches of the row, which join.
use borrow.Author.Rules.{rules}
use mathlib.Core.Path.{refl, ◌∙◌, ap}
use Prim.Native.Nat.{ℕ, ◌+◌, min}
use lib.ListN.{length, get_or}
use Rattle.row.proofs.Columns.{by_slices}
use Rattle.row.proofs.Pass.{pass_offered}
use Rattle.row.proofs.by_columns.Goals as goal

pub returns : goal.returns
returns c =
    let worked = c.args.worked.now in
    let partners = c.args.partners.now in
    let narrow = λ (n : ℕ). min n (length worked) in
    let left = pass_offered _ (λ j. c.args.beyond) _ _ c.lower_each.auto.levels (λ i level h p. search rules) c.lower_each.ensures in
    let between = pass_offered _ (λ j. get_or partners (c.min-right.result + j) 0) _ _ c.lower_each-2.auto.levels (λ i level h p. search rules) c.lower_each-2.ensures in
    let right = pass_offered _ (λ j. c.args.beyond) _ _ c.lower_each-3.auto.levels (λ i level h p. search rules) c.lower_each-3.ensures in
    by_slices worked partners c.args.across c.args.beyond c.min-left.result c.min-right.result c.requires
    (c.min-left.ensures ∙ ap narrow c.saturating_sub.ensures) (c.min-right.ensures ∙ ap narrow c.saturating_sub-2.ensures)
    _ _ _ left _ refl between _ refl _ refl right
