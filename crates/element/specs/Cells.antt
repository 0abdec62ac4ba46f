-- An element inside the library: seven rows of seven cells, smaller ones centred; and the flat row of 49 that a record keeps.
use Rattle.std.specs.Prelude.{ℕ, ◌+◌, ◌-◌, ◌*◌, Bool, cond, ◌&&◌, List, [], leb, ltb, get_or}
use Rattle.basics.specs.Tables.{table, raster}
use Rattle.grid.specs.Sets.{PointSet}
use Rattle.grid.specs.Figures.{element, reach}
use Rattle.element.specs.Elements.{byte_at}

abbrev pub cell_at : List (List ℕ) → ℕ → ℕ → ℕ
cell_at cells row col = get_or (get_or cells row []) col 0

-- the set that the cells mean
abbrev pub set_of_cells : List (List ℕ) → PointSet
set_of_cells cells = element 7 (cell_at cells)

unfoldable pub seven_by_seven : (ℕ → ℕ → ℕ) → List (List ℕ)
seven_by_seven cell = table 7 (λ row. table 7 (λ col. cell row col))

-- place p of seven is one of the side's places, centred among the seven
unfoldable pub is_held : ℕ → ℕ → Bool
is_held side p = leb (3 - reach side) p && ltb p (3 - reach side + side)

unfoldable pub centred_cell : ℕ → List ℕ → ℕ → ℕ → ℕ
centred_cell side bytes row col =
    cond (is_held side row && is_held side col) (byte_at side bytes (row - (3 - reach side)) (col - (3 - reach side))) 0

unfoldable pub centred : ℕ → List ℕ → List (List ℕ)
centred side bytes = seven_by_seven (centred_cell side bytes)

-- turned about the centre
unfoldable pub turned : List (List ℕ) → List (List ℕ)
turned cells = seven_by_seven (λ row col. cell_at cells (6 - row) (6 - col))

-- the flat row, and back
unfoldable pub flat : List (List ℕ) → List ℕ
flat cells = raster 7 7 (cell_at cells)

unfoldable pub unflat : List ℕ → List (List ℕ)
unflat cells = seven_by_seven (λ row col. get_or cells (row * 7 + col) 0)
