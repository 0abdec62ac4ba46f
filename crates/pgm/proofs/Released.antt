-- Of which runs a picture is written. What the collected levels mean bounds them: eroding by the larger side of the frame leads
-- out of it, so no erosion level is above that side; a dilation level is at most R + 1 by its cap, and a crop's at most R or
-- 65,535. The rest are the list's refusals, judged one after the other.
use Prim.Native.Nat.{ℕ, zero, suc, ◌+◌, ◌*◌, ◌/◌, ◌%◌, ◌≤◌, ◌<◌, max}
use native.Mathlib.Omega.{arith}
use mathlib.Core.Path.{◌≡◌, refl, sym, ap, subst, ◌∙◌}
use mathlib.Core.Bool.{false, true≢false}
use mathlib.Core.Logic.{inl, inr}
use mathlib.Core.List.{List}
use lib.IntN.{pos}
use lib.ListN.{length, get_or}
use Rattle.basics.specs.Bounds.{any_above}
use Rattle.basics.proofs.Arithmetic.{entry_of, row_below, column_below}
use Rattle.basics.proofs.BoundLaws.{none_above}
use Rattle.basics.proofs.TableLaws.{length-raster}
use Rattle.grid.specs.Points.{Point, at}
use Rattle.grid.specs.Levels.{IsErosionLevel}
use Rattle.grid.proofs.ReachLaws.{figure_in}
use Rattle.grid.proofs.Existence.{eroded_bound}
use Rattle.element.specs.Elements.{element_set}
use Rattle.element.proofs.Accepted.{Accepted, accepted_origin, accepted_other}
use Rattle.sheet.specs.Sheets.{pixel, foreground}
use Rattle.run.specs.declared.Record.{Record}
use Rattle.run.specs.Kinds.{collected_level}
use Rattle.run.specs.Records.{due}
use Rattle.run.specs.Continuing.{with_rows}
use Rattle.run.specs.Pictures.{frame_level, collected}
use Rattle.run.specs.Series.{Started, erosion, dilation, cropped}
use Rattle.run.specs.Demand2.{finished, RightLevel}
use Rattle.run.proofs.Starts.{judged, erosion_taken, dilation_taken}
use Rattle.run.proofs.Started.{started_sound}
use Rattle.run.proofs.Demand2.{every_picture}
use Rattle.pgm.specs.WritePgm.{maximum}
use Rattle.pgm.specs.Released.{LevelsWithin, PgmUnfinishedRefused, PgmNoneReleased, PgmReleased}
use Rattle.pgm.proofs.FinishedLaws.{refuse_rows, accept_picture, picture_accepted}

-- NO LEVEL IS ABOVE THE MAXIMUM
level_bound : (width height : ℕ) (sheet : List ℕ) (side : ℕ) (bytes : List ℕ) → Accepted side bytes → (x : Point) (m : ℕ)
    → IsErosionLevel (foreground width height sheet) (element_set side bytes) x m → m ≤ max width height
level_bound width height sheet side bytes given x zero level = omega arith
level_bound width height sheet side bytes given x (suc k) level =
    let other = accepted_other side bytes given in
    let l = eroded_bound width height (foreground width height sheet) (element_set side bytes)
    (figure_in width height (pixel width sheet)) other.0 other.1 other.2 (accepted_origin side bytes given) k x
    (level.holds k refl) in
    omega arith

pub collected_length : (r : Record) (levels : List ℕ) → length (collected r levels) ≡ r.height * r.width
unfolding collected
collected_length r levels =
    length-raster r.width r.height (λ row col. collected_level r (frame_level r levels row col))

-- a bound at each point of the frame is one of all the levels
points_within : (width height limit : ℕ) (levels : List ℕ) → length levels ≡ height * width
    → ((row col : ℕ) → row < height → col < width → get_or levels (row * width + col) 0 ≤ limit) → any_above limit levels ≡ false
points_within width height limit levels size h =
    none_above limit levels (λ k l.
    let b : k < height * width = omega arith in
    subst (λ i. get_or levels i 0 ≤ limit) (entry_of width k)
    (h (k / width) (k % width) (row_below width height k b) (column_below width height k b)))

right_within : {r : Record} {levels : List ℕ} (started : Started r levels) (x : Point) (m : ℕ) → RightLevel started x m
    → m ≤ maximum r
right_within (erosion width height sheet side bytes lent a) x m level =
    let given = (judged width height sheet side bytes
    (erosion_taken width height sheet side bytes lent (sym a.refusal)).0).element in
    let e = ap (λ t. maximum t.0) (a.accepted refl) in
    let l = level_bound width height sheet side bytes given x m level in
    omega arith
right_within (dilation width height sheet side bytes cap lent a) x m level =
    let e = ap (λ t. maximum t.0) (a.accepted refl) in
    let l = level.capped in
    omega arith
right_within (cropped width height sheet side bytes cap lent a) x m (inl level) =
    let e = ap (λ t. maximum t.0) (a.accepted refl) in
    let l = level.0 in
    let small = (dilation_taken width height sheet side bytes cap lent (sym a.refusal)).1 in
    omega arith
right_within (cropped width height sheet side bytes cap lent a) x m (inr level) =
    let e = ap (λ t. maximum t.0) (a.accepted refl) in
    let l = level.0 in
    omega arith

pub levels_within : LevelsWithin
levels_within r levels started =
    let mean = (every_picture r levels started).collecting in
    points_within r.width r.height (maximum r) (collected r (finished r levels)) (collected_length r (finished r levels))
    (λ row col p q. right_within started (at (pos row) (pos col)) _ (mean row col p q))

-- AN UNFINISHED RUN
pub pgm_unfinished_refused : PgmUnfinishedRefused
pgm_unfinished_refused r e levels out z = true≢false (sym (picture_accepted r levels out z).3 ∙ e)

pub pgm_none_released : PgmNoneReleased
pgm_none_released r levels started n l lent out size within room =
    sym (refuse_rows (with_rows r n) lent out (started_sound r levels started n (omega arith)) refl refl within size refl room
    (λ e. omega arith))

-- A FINISHED RUN
pub pgm_released : PgmReleased
pgm_released r levels started out room =
    let whole = with_rows r (due r) in
    let given = collected r (finished r levels) in
    sym (accept_picture whole given out (started_sound r levels started (due r) (omega arith)) refl refl
    (levels_within r levels started) (collected_length r (finished r levels)) refl room refl)
