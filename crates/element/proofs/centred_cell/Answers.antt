-- A place that is held lies in the square; there a cell is one of the side times side bytes.
use Rattle.std.proofs.Common.{arith, sym, ◌∙◌}
use Rattle.element.proofs.ElementLaws.{side_bounds, held_entry, cell_in, cell_row_out, cell_column_out}
use Rattle.element.proofs.centred_cell.Goals as goal
use Rattle.element.proofs.centred_cell.Goals.{else-is_held-via-then-is_held+else-is_held-2, else-is_held-via-else-is_held}

pub overflow_sub-before : goal.overflow_sub-before
overflow_sub-before c = omega (arith, side_bounds c.args.side c.requires.0)

pub overflow_sub-before-then-is_held-2 : goal.overflow_sub-before-then-is_held-2
overflow_sub-before-then-is_held-2 c = omega (arith, side_bounds c.args.side c.requires.0)

pub overflow_sub-result : goal.overflow_sub-result
overflow_sub-result c = omega (
  arith,
  held_entry c.args.side c.args.row c.args.col c.requires.0 (sym c.is_held.ensures ∙ c.if-is_held.true)
      (sym c.is_held-then-is_held.ensures ∙ c.if-is_held-2.true),
)

pub overflow_mul-result : goal.overflow_mul-result
overflow_mul-result c = omega (
  arith,
  held_entry c.args.side c.args.row c.args.col c.requires.0 (sym c.is_held.ensures ∙ c.if-is_held.true)
      (sym c.is_held-then-is_held.ensures ∙ c.if-is_held-2.true),
)

pub overflow_sub-result-then-is_held-2 : goal.overflow_sub-result-then-is_held-2
overflow_sub-result-then-is_held-2 c = omega (
  arith,
  held_entry c.args.side c.args.row c.args.col c.requires.0 (sym c.is_held.ensures ∙ c.if-is_held.true)
      (sym c.is_held-then-is_held.ensures ∙ c.if-is_held-2.true),
)

pub overflow_add-result : goal.overflow_add-result
overflow_add-result c = omega (
  arith,
  held_entry c.args.side c.args.row c.args.col c.requires.0 (sym c.is_held.ensures ∙ c.if-is_held.true)
      (sym c.is_held-then-is_held.ensures ∙ c.if-is_held-2.true),
)

pub bounds-bytes-row : goal.bounds-bytes-row
bounds-bytes-row c = omega (
  arith,
  held_entry c.args.side c.args.row c.args.col c.requires.0 (sym c.is_held.ensures ∙ c.if-is_held.true)
      (sym c.is_held-then-is_held.ensures ∙ c.if-is_held-2.true),
)

pub returns-then-is_held-2 : goal.returns-then-is_held-2
returns-then-is_held-2 c =
    sym (cell_in _ _ _ _ (sym c.is_held.ensures ∙ c.if-is_held.true) (sym c.is_held-then-is_held.ensures ∙ c.if-is_held-2.true))

pub returns-else-is_held : goal.returns-else-is_held
returns-else-is_held c = elim c.else-is_held.branch [
  | else-is_held-via-then-is_held+else-is_held-2 w ↦
      sym (cell_column_out _ _ _ _ (sym w.is_held-then-is_held.ensures ∙ w.if-is_held-2.false))
  | else-is_held-via-else-is_held w ↦ sym (cell_row_out _ _ _ _ (sym c.is_held.ensures ∙ w.if-is_held.false))
]
