-- An opening needs no canvas: after the eroded set is scanned back on the frame itself, the levels 1 to n + 1 stand exactly
-- where opening by n holds.
-- A walk of at most n steps that ends in the eroded set has all its points in A, for the element has the origin; so they lie in
-- the frame, where every point is live.
use mathlib.Core.Path.{◌≡◌, sym, subst}
use mathlib.Core.Logic.{◌↔◌, inl}
use mathlib.Core.List.{List}
use Prim.Native.Nat.{ℕ, suc, ◌+◌, ◌*◌, ◌≤◌, ◌<◌}
use native.Mathlib.Decide.{dec_le}
use native.Mathlib.Nat.{le_refl}
use native.Mathlib.Omega.{arith}
use lib.ListN.{length, get_or}
use Rattle.grid.specs.Points.{Point, origin, neg}
use Rattle.grid.specs.Sets.{PointSet, reflect, eroded, dilated, opened, ◌⊆◌, ◌≈◌}
use Rattle.grid.specs.Levels.{IsDilationLevel}
use Rattle.grid.specs.Figures.{frame}
use Rattle.grid.proofs.PointLaws.{⊕-origin, ⊕-move}
use Rattle.grid.proofs.SetLaws.{fold_origin, fold_grows, fold_reflect}
use Rattle.grid.proofs.LevelLaws.{dilation_iff}
use Rattle.row.specs.declared.Area.{Area}
use Rattle.row.specs.RowRule.{none}
use Rattle.scan.specs.Look.{look, full_scan, cap, partners}
use Rattle.scan.proofs.Walks.{Walk}
use Rattle.scan.proofs.GridScans.{GridScan, Step, walk→fold, same_partners}
use Rattle.scan.proofs.LookLaws.{spot, look_inside, look_all}
use Rattle.scan.proofs.Passes.{Live}
use Rattle.scan.proofs.Raster.{area_scan}
use Rattle.scan.proofs.Dilation.{cap_low, cap_high, dilation_level}

-- a level from 1 to n + 1 is not changed by a cap at n or above
pub cap_held : (R n level : ℕ) → n ≤ R → ((0 < cap R level) × (cap R level ≤ suc n)) ↔ ((0 < level) × (level ≤ suc n))
cap_held R n level l = cases (dec_le level (suc R))
  where
    cases : Dec (level ≤ suc R) → ((0 < cap R level) × (cap R level ≤ suc n)) ↔ ((0 < level) × (level ≤ suc n))
    cases (yes h) = rw (cap_low R level h) ((λ p. p), (λ p. p))
    cases (no h) = rw (cap_high R level (omega arith)) (
      (λ p. absurd (let z = p.0 in omega arith)),
      (λ p. absurd (let z = p.1 in omega arith)),
    )

-- so dilating by n holds a point exactly where its scanned level is 1 to n + 1
pub dilated_held : (A K : PointSet) (x : Point) (R n level : ℕ) → K origin → IsDilationLevel R A K x (cap R level) → n ≤ R
    → dilated A K n x ↔ ((0 < level) × (level ≤ suc n))
dilated_held A K x R n level o h l =
    let i = dilation_iff A K x o h n l in
    let c = cap_held R n level l in
    ((λ d. c.0 (i.0 d)), (λ p. i.1 (c.1 p)))

-- 1 on A eroded by n and 65,535 elsewhere on the frame and beyond; the partners are K turned about
pub record OpeningStart (area : Area) (A K : PointSet) (n : ℕ) (start : List ℕ) : Type 0 where
  pub none_beyond : area.beyond ≡ none
  pub partners_are : partners area.cells ≈ reflect K
  pub has_origin : K origin
  pub size_fits : suc n < none
  pub decide : (x : Point) → Dec (eroded A K n x)
  pub inside : A ⊆ frame area.width area.height
  pub size : length start ≡ area.height * area.width
  pub on : (row col : ℕ) → row < area.height → col < area.width → eroded A K n (spot row col)
      → get_or start (row * area.width + col) 0 ≡ 1
  pub off : (row col : ℕ) → row < area.height → col < area.width → ¬ eroded A K n (spot row col)
      → get_or start (row * area.width + col) 0 ≡ none

module _ {area : Area} {A K : PointSet} {n : ℕ} {start : List ℕ} (given : OpeningStart area A K n start) where
  abbrev final : List ℕ
  final = full_scan area start

  scanned : GridScan none (Live area) (reflect K) (look area start) (look area final)
  scanned = same_partners given.partners_are (area_scan area start given.size)

  near : (j : ℕ) (y a : Point) → eroded A K n a → j ≤ n → Walk (Step (reflect K)) j y a → Live area y
  near j y a h l w =
      let (b, hb, q) = walk→fold w in
      let back = fold_grows K given.has_origin j n l (neg b) ((fold_reflect K j).0 b hb) in
      inl (given.inside y (subst A (sym (⊕-move a y b q)) (h (neg b) back)))

  -- the eroded set is a part of A
  eroded_in : (x : Point) → eroded A K n x → frame area.width area.height x
  eroded_in x h = given.inside x (subst A (⊕-origin x) (h origin (fold_origin K given.has_origin n)))

  on : (x : Point) → eroded A K n x → look area start x ≡ 1
  on = look_all area start (eroded A K n) 1 given.on (λ x out h. absurd (out (eroded_in x h)))

  off : (x : Point) → ¬ eroded A K n x → look area start x ≡ none
  off = look_all area start (λ x. ¬ eroded A K n x) none given.off (λ x out h. given.none_beyond)

  opening_scan : (x : Point) → IsDilationLevel n (eroded A K n) K x (cap n (look area final x))
  opening_scan = dilation_level K scanned near given.decide on off given.size_fits

  -- THE OPENING THEOREM, read off the list
  pub opening_at : (row col : ℕ) → row < area.height → col < area.width
      → opened A K n (spot row col) ↔
      ((0 < get_or final (row * area.width + col) 0) × (get_or final (row * area.width + col) 0 ≤ suc n))
  opening_at row col a b =
      subst (λ l. opened A K n (spot row col) ↔ ((0 < l) × (l ≤ suc n))) (look_inside area final row col a b)
      (dilated_held (eroded A K n) K (spot row col) n n (look area final (spot row col)) given.has_origin
      (opening_scan (spot row col)) (le_refl n))
