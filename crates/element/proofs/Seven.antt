-- Seven rows of seven cells, filled in reading order: a loop over the rows, and one over a row's cells.
use Prim.Native.Nat.{ℕ, ◌+◌, ◌*◌, ◌≤◌, ◌<◌}
use native.Mathlib.Omega.{arith}
use mathlib.Core.Path.{◌≡◌}
use mathlib.Core.List.{List, []}
use lib.ListN.{length, get_or}
use Rattle.basics.proofs.TableLaws.{table_is}
use Rattle.element.specs.Cells.{cell_at, seven_by_seven}

-- the cells before column col of row row, in reading order, are f's
pub record Filled (f : ℕ → ℕ → ℕ) (row col : ℕ) (out : List (List ℕ)) : Type 0 where
  pub rows : length out ≡ 7
  pub long : (i : ℕ) → i < 7 → length (get_or out i []) ≡ 7
  pub done : (i j : ℕ) → i < 7 → j < 7 → i * 7 + j < row * 7 + col → cell_at out i j ≡ f i j

pub filled_end : (f : ℕ → ℕ → ℕ) (row : ℕ) (out : List (List ℕ)) → Filled f row 0 out → 7 ≤ row → out ≡ seven_by_seven f
unfolding seven_by_seven
filled_end f row out h all =
    table_is _ 7 [] out h.rows
    (λ i a. table_is _ 7 0 (get_or out i []) (h.long i a) (λ j b. h.done i j a b (omega arith)))
