-- The three ways out are the three cases of a cell: not set, its row in the area, its row beyond it.
use native.Mathlib.Omega.{arith}
use borrow.Author.Rules.{rules}
use Rattle.row.proofs.Pass.{pass_offered}
use Prim.Native.Nat.{ℕ, ◌+◌, ◌-◌, ◌/◌, ◌*◌, ◌≤◌}
use mathlib.Core.Bool.{true, ◌&&◌}
use mathlib.Core.Path.{◌≡◌, refl, sym, ◌∙◌}
use lib.ListN.{length}
use Rattle.std.proofs.lemmas.Bool.Decides.{nat_tests}
use Rattle.std.specs.Ordering.{is_le, is_lt, nat_cmp}
use Rattle.row.specs.RowRule.{cell_number, within}
use Rattle.row.proofs.Least.{pass_unset, pass_beyond, pass_in, row_inside}
use Rattle.row.proofs.by_cell.Goals as goal

in_range : (n p : ℕ) → within n p ≡ (is_le (nat_cmp 3 p) && is_lt (nat_cmp p (n + 3)))
unfolding within
in_range n p = grind (arith, nat_tests)

pub returns-then-area-k-eq0 : goal.returns-then-area-k-eq0
unfolding cell_number
returns-then-area-k-eq0 c =
    pass_unset c.args.area.now c.args.row c.args.k c.args.part.now c.args.worked.now c.if-area-k-eq0.true
    (λ i. omega (arith, c.type_inv.worked i))

pub returns-then-contains : goal.returns-then-contains
unfolding cell_number
returns-then-contains c =
    let area = c.args.area.now in
    let met = c.args.row + c.args.k / 7 in
    let from = (met - 3) * area.width in
    let inside : within area.height met ≡ true = in_range _ _ ∙ sym c.contains.ensures.value ∙ c.if-contains.true in
    let room : from + area.width ≤ length c.args.part.now = omega (arith, row_inside area.width area.height met inside) in
    let n : from + area.width - from ≡ area.width = omega arith in
    pass_in area c.args.row c.args.k c.args.part.now c.args.worked.now from c.by_columns.new.worked c.if-area-k-eq0.false inside refl
    room (rw (n, c.requires.1.1.0) at c.by_columns.ensures)

pub returns-else-contains : goal.returns-else-contains
unfolding cell_number
returns-else-contains c =
    let lowered = pass_offered _ (λ j. c.args.area.now.beyond) _ _ c.lower_each.auto.levels (λ i level h p. search rules) c.lower_each.ensures in
    pass_beyond c.args.area.now c.args.row c.args.k c.args.part.now c.args.worked.now c.lower_each.new.levels c.if-area-k-eq0.false
    (in_range _ _ ∙ sym c.contains.ensures.value ∙ c.if-contains.false) (rw c.requires.1.1.0 at lowered)
