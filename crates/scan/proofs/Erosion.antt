-- The scan finds the erosion level of every point.
-- Every point is live, for beyond the area the levels are 0. A walk that leaves A bounds the level (nothing larger fits), and the
-- walk that the level comes from ends outside A (the next larger does not fit).
-- No level stays at 65,535: as many steps as the larger side, by a point of K other than the origin, lead out of the frame.
use mathlib.Core.Path.{◌≡◌, ◌∙◌, subst}
use mathlib.Core.Logic.{inr}
use mathlib.Core.List.{List}
use Prim.Native.Nat.{ℕ, suc, ◌+◌, ◌*◌, ◌≤◌, ◌<◌, max}
use native.Mathlib.Decide.{dec_lt}
use native.Mathlib.Omega.{arith}
use lib.ListN.{get_or}
use Rattle.grid.specs.Points.{Point, origin, ◌⊕◌}
use Rattle.grid.specs.Sets.{PointSet, eroded}
use Rattle.grid.specs.Levels.{IsErosionLevel}
use Rattle.grid.specs.Figures.{frame}
use Rattle.grid.proofs.SetLaws.{fold_grows}
use Rattle.grid.proofs.ReachLaws.{times, times_fold, leaves}
use Rattle.grid.proofs.Searches.{frame_decided}
use Rattle.row.specs.declared.Area.{Area}
use Rattle.row.specs.RowRule.{none}
use Rattle.scan.specs.Look.{look, full_scan}
use Rattle.scan.specs.Starts.{ErosionStart}
use Rattle.scan.proofs.GridScans.{GridScan, same_partners, grid_sound, grid_bound}
use Rattle.scan.proofs.LookLaws.{spot, look_inside, look_beyond, look_all}
use Rattle.scan.proofs.Passes.{Live}
use Rattle.scan.proofs.Raster.{area_scan}

-- on the grid: a scan of levels that start with `top` on A and 0 elsewhere
module _ {top : ℕ} {Live A K : PointSet} {S W : Point → ℕ} (g : GridScan top Live K S W) (live : (x : Point) → Live x)
    (o : K origin)
    (decide : (x : Point) → Dec (A x)) (on : (x : Point) → A x → S x ≡ top) (off : (x : Point) → ¬ A x → S x ≡ 0) where
  pub erosion_level : (x : Point) → W x < top → IsErosionLevel A K x (W x)
  erosion_level x small = record { holds = holds; above = above }
    where
      holds : (k : ℕ) → W x ≡ suc k → eroded A K k x
      holds k e b h = cases (decide (x ⊕ b))
        where
          cases : Dec (A (x ⊕ b)) → A (x ⊕ b)
          cases (yes a) = a
          cases (no n) = absurd (let l = grid_bound g k b x h (λ j y l w. live y) in let z = off (x ⊕ b) n in omega arith)

      above : (j : ℕ) → eroded A K j x → j < W x
      above j h = cases (dec_lt j (W x))
        where
          cases : Dec (j < W x) → j < W x
          cases (yes l) = l
          cases (no n) =
              let (m, b, hb, e) = grid_sound g x small in
              let t = on (x ⊕ b) (h b (fold_grows K o m j (omega arith) b hb)) in
              omega arith

module _ {area : Area} {A K : PointSet} {start : List ℕ} (given : ErosionStart area A K start) where
  abbrev final : List ℕ
  final = full_scan area start

  scanned : GridScan none (Live area) K (look area start) (look area final)
  scanned = same_partners given.partners_are (area_scan area start given.size)

  live : (x : Point) → Live area x
  live x = inr given.zero_beyond

  beyond : (x : Point) → ¬ frame area.width area.height x → look area start x ≡ 0
  beyond x out = look_beyond area start x out ∙ given.zero_beyond

  on : (x : Point) → A x → look area start x ≡ none
  on = look_all area start A none given.on (λ x out a. absurd (out (given.inside x a)))

  off : (x : Point) → ¬ A x → look area start x ≡ 0
  off = look_all area start (λ x. ¬ A x) 0 given.off (λ x out n. given.zero_beyond)

  -- no level is more than the larger side
  pub erosion_small : (x : Point) → look area final x ≤ max area.width area.height
  erosion_small x = cases (frame_decided area.width area.height x)
    where
      b : Point
      b = given.other

      cases : Dec (frame area.width area.height x) → look area final x ≤ max area.width area.height
      cases (yes i) =
          let n = max area.width area.height in
          let l = grid_bound scanned n (times n b) x (times_fold K b given.has_other n) (λ j y l w. live y) in
          let z = beyond (x ⊕ times n b) (leaves area.width area.height b x given.not_origin i) in
          omega arith
      cases (no out) = let z : look area final x ≡ 0 = look_beyond area final x out ∙ given.zero_beyond in omega arith

  -- THE EROSION THEOREM
  pub erosion_scan : (x : Point) → IsErosionLevel A K x (look area final x)
  erosion_scan x = erosion_level scanned live given.has_origin given.decide on off x
      (let l = erosion_small x in let a = given.narrow in let b = given.low in omega arith)

  -- read off the list
  pub erosion_at : (row col : ℕ) → row < area.height → col < area.width
      → IsErosionLevel A K (spot row col) (get_or final (row * area.width + col) 0)
  erosion_at row col a b =
      subst (IsErosionLevel A K (spot row col)) (look_inside area final row col a b) (erosion_scan (spot row col))
