-- What holds of every outcome that the contract of dilating by a map allows.
use Rattle.std.specs.Prelude.{ℕ, ◌≤◌, ◌<◌, ◌≡◌, List, length, replicate}
use Rattle.basics.specs.Tables.{raster}
use Rattle.grid.specs.Starred.{drawn, pair}
use Rattle.grid.specs.Sizes.{two_points, their_sizes, their_points}
use Rattle.sheet.specs.Sheets.{pixel, packed}
use Rattle.sheet.specs.SamePixels.{SamePixels}
use Rattle.run.specs.declared.Record.{Record}
use Rattle.run.specs.Starting.{StartsDilation}
use Rattle.run.specs.Pictures.{thresholded}
use Rattle.run.specs.Demand2.{finished}
use Rattle.run.specs.declared.Input.{Input}
use Rattle.filters.specs.Filters.{frame_size, closing_size, sheet_size}
use Rattle.maps.specs.Maps.{Buffers, size_in, DilatesByMap}

-- ONE SIZE FOR ALL: wherever a dilation with the cap R is started, a map that is n everywhere, for any n up to R, is accepted, and
-- gives the sheet that thresholding the finished run at n gives
abbrev pub OneSizeIsPlain : Type 0
OneSizeIsPlain =
    (input : Input) (sheet bytes : List ℕ) (cap : ℕ) (levels : List ℕ) (r : Record) (start : List ℕ)
    → StartsDilation input.width input.height sheet input.side bytes cap levels 0 (r, start)
    → (n : ℕ) → n ≤ cap → (lent : Buffers) → length lent.work ≡ length levels → length lent.out ≡ sheet_size input
    → (number : ℕ) (after : Buffers) → DilatesByMap input sheet bytes cap (replicate (frame_size input) n) lent number after
    → (number ≡ 0) × (after.out ≡ thresholded r (finished r start) n)

-- ONLY PIXELS, AND SIZES AT FOREGROUND POINTS, COUNT: other padding bits and other sizes at background points change nothing
abbrev pub SameSizes : Input → List ℕ → List ℕ → List ℕ → Type 0
SameSizes input sheet one other = (row col : ℕ) → row < input.height → col < input.width
    → pixel input.width sheet row col ≡ 1 → size_in input.width one row col ≡ size_in input.width other row col

abbrev pub OnlyForegroundCounts : Type 0
OnlyForegroundCounts =
    (input : Input) (sheet other : List ℕ) → length sheet ≡ length other → SamePixels input.width input.height sheet other
    → (map also : List ℕ) → length map ≡ length also → SameSizes input sheet map also
    → (bytes : List ℕ) (cap : ℕ) (lent : Buffers) (m n : ℕ) (x y : Buffers)
    → DilatesByMap input sheet bytes cap map lent m x → DilatesByMap input other bytes cap also lent n y → (m ≡ n) × (x ≡ y)

-- THE WORKED EXAMPLE, through the contract
abbrev pub row_of_seven : Input
row_of_seven = record { width = 7; height = 1; side = 3 }

abbrev pub TwoSizesGiven : Type 0
TwoSizesGiven =
    (lent : Buffers) → length lent.work ≡ closing_size row_of_seven 1 → length lent.out ≡ sheet_size row_of_seven
    → (number : ℕ) (after : Buffers)
    → DilatesByMap row_of_seven (packed 7 1 (drawn two_points)) (raster 3 3 (drawn pair)) 1 (raster 7 1 (drawn their_sizes)) lent
    number after
    → (number ≡ 0) × (after.out ≡ packed 7 1 (drawn their_points))
