-- A side that passed is at most 7, so its square is small.
use Rattle.std.proofs.Common.{arith, sym, ◌∙◌}
use Rattle.element.proofs.ElementLaws.{side_bounds, square_small, centre_entry}
use Rattle.element.proofs.check_element.Goals as goal

pub overflow_mul-side : goal.overflow_mul-side
overflow_mul-side c =
    let b = side_bounds c.args.side (sym c.is_side.ensures ∙ c.if-not-is_side.false) in
    omega (arith, square_small c.args.side b.1.0)

pub overflow_sub-side : goal.overflow_sub-side
overflow_sub-side c = omega (arith, centre_entry _ (sym c.is_side.ensures ∙ c.if-not-is_side.false))

pub overflow_sub-side-2 : goal.overflow_sub-side-2
overflow_sub-side-2 c = omega (arith, centre_entry _ (sym c.is_side.ensures ∙ c.if-not-is_side.false))

pub bounds-bytes-side : goal.bounds-bytes-side
bounds-bytes-side c = omega (arith, centre_entry _ (sym c.is_side.ensures ∙ c.if-not-is_side.false))
