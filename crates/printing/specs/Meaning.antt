-- What a printed picture means.
use Rattle.std.specs.Prelude.{ℕ, ◌+◌, ◌*◌, ◌≤◌, ◌<◌, max, ◌≡◌, List, length}
use Rattle.basics.specs.Refusals.{first}
use Rattle.grid.specs.Levels.{IsErosionLevel}
use Rattle.element.specs.Elements.{element_set}
use Rattle.sheet.specs.Sheets.{foreground}
use Rattle.sheet.specs.Means.{LevelsMean}
use Rattle.pbm.specs.Header.{whole, header}
use Rattle.pgm.specs.PgmText.{pgm_text}
use Rattle.printing.specs.Printing.{input_end, most_pixels, cross, file_refusals, printed}

-- for a sound file within the limits the levels printed are the erosion levels of the file's foreground by the cross, all of its
-- rows done
abbrev pub PrintedLevels : Type 0
PrintedLevels =
    (input : List ℕ) (width height : ℕ) (raster : List ℕ) → length input < input_end → header input ≡ whole width height raster
    → first (file_refusals input) ≡ 0 → width * height ≤ most_pixels →
    (levels : List ℕ) × (length levels ≡ height * width) ×
    (printed input ≡ pgm_text width height (max width height) (height + height) (height + height) levels) ×
    LevelsMean width height (IsErosionLevel (foreground width height raster) (element_set 3 cross)) levels
