-- An element as it is given: a side, and side times side bytes row by row, the origin at the centre.
use Rattle.std.specs.Prelude.{ℕ, ◌+◌, ◌*◌, Bool, not, cond, ◌&&◌, ◌||◌, List, [], ◌∷◌, eqb, length, get_or}
use Rattle.basics.specs.Bounds.{any_above}
use Rattle.basics.specs.Refusals.{Refusal}
use Rattle.grid.specs.Sets.{PointSet}
use Rattle.grid.specs.Figures.{element, reach}

abbrev pub byte_at : ℕ → List ℕ → ℕ → ℕ → ℕ
byte_at side bytes row col = get_or bytes (row * side + col) 0

-- the set that it means
abbrev pub element_set : ℕ → List ℕ → PointSet
element_set side bytes = element side (byte_at side bytes)

-- when it is refused
unfoldable pub is_side : ℕ → Bool
is_side side = eqb side 1 || eqb side 3 || eqb side 5 || eqb side 7

unfoldable pub count_set : List ℕ → ℕ
count_set [] = 0
count_set (byte ∷ rest) = cond (eqb byte 0) 0 1 + count_set rest

abbrev pub element_refusals : ℕ → List ℕ → List Refusal
element_refusals side bytes =
    (4, not (is_side side && eqb (length bytes) (side * side))) ∷
    (5, any_above 1 bytes) ∷
    (6, eqb (byte_at side bytes (reach side) (reach side)) 0) ∷
    (7, eqb (count_set bytes) 1) ∷ []
