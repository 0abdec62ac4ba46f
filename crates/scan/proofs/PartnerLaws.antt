-- The partners that seven rows of seven cells mean: of cells 0 and 1 they are the element of side 7.
-- Cell k stands in row k / 7 and column k % 7; all else is moving a 3 across an equation.
use mathlib.Core.Path.{◌≡◌, sym, ◌∙◌, ap, ap₂}
use mathlib.Core.List.{List, []}
use Prim.Native.Nat.{ℕ, ◌+◌, ◌*◌, ◌/◌, ◌%◌, ◌≤◌, ◌<◌}
use native.Mathlib.Omega.{arith}
use lib.ListN.{get_or}
use lib.IntN.{pos, -ℤ-+ℤ_cancel}
use Rattle.grid.specs.Points.{at, ◌⊕◌, neg}
use Rattle.grid.specs.Sets.{◌⊆◌, ◌≈◌}
use Rattle.grid.specs.Figures.{element}
use Rattle.grid.proofs.PointLaws.{⊕-cancel}
use Rattle.row.specs.RowRule.{cell_number}
use Rattle.scan.specs.Look.{partners}
use Rattle.scan.proofs.LookLaws.{spot}

-- the cell at a row and a column
abbrev pub cell : List (List ℕ) → ℕ → ℕ → ℕ
cell cells i j = get_or (get_or cells i []) j 0

pub partners_element : (cells : List (List ℕ)) → ((i j : ℕ) → i < 7 → j < 7 → cell cells i j ≤ 1)
    → partners cells ≈ element 7 (cell cells)
unfolding cell_number
partners_element cells small = (to, fro)
  where
    to : partners cells ⊆ element 7 (cell cells)
    to b (k, l, n, e) =
        let h = small (k / 7) (k % 7) (omega arith) (omega arith) in (
          k / 7,
          k % 7,
          omega arith,
          omega arith,
          omega arith,
          ap (λ p. p ⊕ spot 3 3) e ∙ ap₂ at (-ℤ-+ℤ_cancel (pos (k / 7)) (pos 3)) (-ℤ-+ℤ_cancel (pos (k % 7)) (pos 3)),
        )

    fro : element 7 (cell cells) ⊆ partners cells
    fro b (i, j, a, c, one, e) =
        let r : (i * 7 + j) / 7 ≡ i = omega arith in
        let s : (i * 7 + j) % 7 ≡ j = omega arith in (
          i * 7 + j,
          omega arith,
          (λ z. let f = ap₂ (cell cells) r s in omega arith),
          sym (⊕-cancel b (spot 3 3)) ∙ ap (λ p. p ⊕ neg (spot 3 3)) e
              ∙ ap₂ (λ (i j : ℕ). spot i j ⊕ neg (spot 3 3)) (sym r) (sym s),
        )
