-- The example of docs/RULES.md: for the full 3 by 3 sheet the program prints exactly these bytes, by computing. And two inputs
-- that it refuses.
use mathlib.Core.Path.{◌≡◌, refl}
use mathlib.Core.List.{[], ◌∷◌, ◌++◌}
use Rattle.basics.specs.Tables.{table, raster}
use Rattle.decimal.specs.Numbers.{is_digit, value_from, digit_run, digits, digits_in}
use Rattle.element.specs.Cells.{seven_by_seven, is_held, centred_cell, centred, flat, unflat}
use Rattle.sheet.specs.Sheets.{pixel, byte_packed, packed, is_side_out}
use Rattle.row.specs.RowRule.{cell_number, within, level_at, partner, least, first_met, lowered, point_rule, place, columns, row_rule}
use Rattle.scan.specs.Scan.{scan_row, scan_rows}
use Rattle.run.specs.Starting.{framed, start_area}
use Rattle.run.specs.Pictures.{collected}
use Rattle.pbm.specs.Header.{is_white, run, field, begins_p4, header}
use Rattle.pbm.specs.Pbm.{cleared}
use Rattle.pgm.specs.PgmText.{pgm_header, stays, parting, column_after, level_row, frame_row, levels_text, pgm_text}
use Rattle.printing.specs.Printing.{refused_text, sheet_text, printed}

-- P2; # rows 6 of 6; 3 3; 3; 1 1 1; 1 2 1; 1 1 1
full_sheet : printed (80 ∷ 52 ∷ 10 ∷ 51 ∷ 32 ∷ 51 ∷ 10 ∷ 224 ∷ 224 ∷ 224 ∷ []) ≡ (80 ∷ 50 ∷ 10 ∷ []) ++
    (35 ∷ 32 ∷ 114 ∷ 111 ∷ 119 ∷ 115 ∷ 32 ∷ 54 ∷ 32 ∷ 111 ∷ 102 ∷ 32 ∷ 54 ∷ 10 ∷ []) ++ (51 ∷ 32 ∷ 51 ∷ 10 ∷ []) ++
    (51 ∷ 10 ∷ []) ++ (49 ∷ 32 ∷ 49 ∷ 32 ∷ 49 ∷ 10 ∷ []) ++ (49 ∷ 32 ∷ 50 ∷ 32 ∷ 49 ∷ 10 ∷ []) ++
    (49 ∷ 32 ∷ 49 ∷ 32 ∷ 49 ∷ 10 ∷ [])
unfolding printed sheet_text is_digit value_from digit_run digits digits_in is_white run field begins_p4 header is_side_out cleared
    table raster pixel byte_packed packed seven_by_seven is_held centred_cell centred flat unflat cell_number within level_at partner
    least first_met lowered point_rule place columns row_rule scan_row scan_rows framed start_area collected pgm_text pgm_header
    levels_text frame_row level_row parting column_after stays
full_sheet = refl

-- "P5" earns 21; a raster short by a byte earns 23
other_magic : printed (80 ∷ 53 ∷ 10 ∷ []) ≡ 114 ∷ 101 ∷ 102 ∷ 117 ∷ 115 ∷ 101 ∷ 100 ∷ 32 ∷ 50 ∷ 49 ∷ 10 ∷ []
unfolding printed refused_text begins_p4 header digits digits_in
other_magic = refl

short_raster : printed (80 ∷ 52 ∷ 10 ∷ 51 ∷ 32 ∷ 51 ∷ 10 ∷ 224 ∷ 224 ∷ []) ≡ 114 ∷ 101 ∷ 102 ∷ 117 ∷ 115 ∷ 101 ∷ 100 ∷ 32 ∷ 50 ∷
    51 ∷ 10 ∷ []
unfolding printed refused_text is_digit value_from digit_run is_white run field begins_p4 header is_side_out digits digits_in
short_raster = refl
