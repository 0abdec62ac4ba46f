-- The picture of a sound file shows the erosion levels of its foreground: what the finished run means, carried from the cleared
-- sheet to the raster, which has the same pixels.
use Prim.Native.Nat.{ℕ, ◌+◌, ◌*◌, max}
use native.Mathlib.Omega.{arith}
use mathlib.Core.Path.{◌≡◌, sym, ap, ◌∙◌}
use mathlib.Core.List.{List}
use lib.IntN.{pos}
use lib.ListN.{get_or}
use Rattle.grid.specs.Points.{at}
use Rattle.grid.specs.Sets.{◌≈◌}
use Rattle.grid.specs.Levels.{IsErosionLevel}
use Rattle.grid.specs.Starred.{erosion_levels}
use Rattle.grid.proofs.SameSets.{answer_same}
use Rattle.element.specs.Elements.{element_set}
use Rattle.sheet.specs.Sheets.{foreground}
use Rattle.sheet.specs.Means.{LevelsMean}
use Rattle.sheet.proofs.SamePixelsLaws.{same_set}
use Rattle.run.specs.Records.{due}
use Rattle.run.specs.Starting.{start_levels}
use Rattle.run.specs.Demand2.{finished}
use Rattle.run.proofs.Demand2.{every_picture}
use Rattle.pbm.specs.Pbm.{cleared}
use Rattle.pbm.proofs.PackingLaws.{pixel_cleared}
use Rattle.pgm.specs.PgmText.{pgm_text}
use Rattle.pgm.proofs.Released.{collected_length}
use Rattle.printing.specs.Printing.{cross, cross_run, cross_levels, sound_text}
use Rattle.printing.specs.Steps.{SoundSheet}
use Rattle.printing.specs.Meaning.{PrintedLevels}
use Rattle.printing.proofs.CrossLaws.{cross_started}
use Rattle.printing.proofs.PageLaws.{few}
use Rattle.printing.proofs.InputLaws.{file_sound, sheet_sound}

-- padding is no foreground
cleared_same : (width height : ℕ) (raster : List ℕ)
    → foreground width height (cleared width height raster) ≈ foreground width height raster
cleared_same width height raster =
    same_set width height (cleared width height raster) raster (pixel_cleared width height raster)

-- the levels that the program collects mean what they should
levels_mean : (width height : ℕ) (sheet : List ℕ) → SoundSheet width height sheet
    → LevelsMean width height (IsErosionLevel (foreground width height sheet) (element_set 3 cross))
    (cross_levels width height sheet)
unfolding cross_started
levels_mean width height sheet s =
    (every_picture (cross_run width height) (start_levels (cross_run width height) sheet) (cross_started width height sheet s)
    ).collecting

-- THE THEOREM
pub printed_levels : PrintedLevels
printed_levels input width height raster small e good l =
    let sheet = cleared width height raster in
    let levels = cross_levels width height sheet in
    let all_rows : due (cross_run width height) ≡ height + height = omega arith in
    let s = sheet_sound input good width height raster e in (
      levels,
      collected_length (cross_run width height) (finished (cross_run width height) (start_levels (cross_run width height) sheet)),
      sym (file_sound input small good) ∙ ap sound_text e ∙ sym (few width height sheet l)
          ∙ ap (λ n. pgm_text width height (max width height) n n levels) all_rows,
      (λ row col a b. answer_same (cleared_same width height raster) (
        (λ x h. h),
        (λ x h. h),
      ) erosion_levels (at (pos row) (pos col))
          (get_or levels (row * width + col) 0) (levels_mean width height sheet s row col a b)),
    )
