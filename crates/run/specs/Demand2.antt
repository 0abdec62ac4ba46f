-- Demand 2 for erosion and dilation: what the picture of a finished run means.
use Rattle.std.specs.Prelude.{ℕ, ◌≤◌, List}
use Rattle.grid.specs.Points.{Point}
use Rattle.grid.specs.Sets.{PointSet, eroded, dilated}
use Rattle.grid.specs.Levels.{IsErosionLevel, IsDilationLevel, IsErosionLevelUpTo}
use Rattle.grid.specs.Crops.{uncropped}
use Rattle.element.specs.Elements.{element_set}
use Rattle.sheet.specs.Sheets.{foreground}
use Rattle.sheet.specs.Means.{LevelsMean, SheetMeans}
use Rattle.scan.specs.Scan.{scan_rows}
use Rattle.run.specs.declared.Record.{Record}
use Rattle.run.specs.Kinds.{size_limit}
use Rattle.run.specs.Records.{area_of, due}
use Rattle.run.specs.Pictures.{collected, thresholded}
use Rattle.run.specs.Series.{Started, erosion, dilation, cropped}

-- the levels after all rows
abbrev pub finished : Record → List ℕ → List ℕ
finished r levels = scan_rows (area_of r) 0 (due r) levels

-- a cropped sheet's set, with all points beyond its frame
abbrev pub larger : ℕ → ℕ → List ℕ → PointSet
larger width height sheet = uncropped width height (foreground width height sheet)

-- the picture that a started run is to give: the level of each point, and the set held at a size
abbrev pub RightLevel : {r : Record} {levels : List ℕ} → Started r levels → Point → ℕ → Type 0
RightLevel (erosion width height sheet side bytes lent _) = IsErosionLevel (foreground width height sheet) (element_set side bytes)
RightLevel (dilation width height sheet side bytes cap lent _) =
    IsDilationLevel cap (foreground width height sheet) (element_set side bytes)
RightLevel (cropped width height sheet side bytes cap lent _) =
    IsErosionLevelUpTo cap (larger width height sheet) (element_set side bytes)

abbrev pub RightSet : {r : Record} {levels : List ℕ} → Started r levels → ℕ → PointSet
RightSet (erosion width height sheet side bytes lent _) n = eroded (foreground width height sheet) (element_set side bytes) n
RightSet (dilation width height sheet side bytes cap lent _) n = dilated (foreground width height sheet) (element_set side bytes) n
RightSet (cropped width height sheet side bytes cap lent _) n = eroded (larger width height sheet) (element_set side bytes) n

-- collected, the levels of a finished run are the right ones; thresholded at a size in its range, they are the right set
pub record PictureRight {r : Record} {levels : List ℕ} (started : Started r levels) : Type 0 where
  pub collecting : LevelsMean r.width r.height (RightLevel started) (collected r (finished r levels))
  pub thresholding : (n : ℕ) → n ≤ size_limit r
      → SheetMeans r.width r.height (RightSet started n) (thresholded r (finished r levels) n)

abbrev pub EveryPicture : Type 0
EveryPicture = (r : Record) (levels : List ℕ) (started : Started r levels) → PictureRight started
