-- What the scan finds where each point of A starts with a level of its own: the least of these, with one more for each step from
-- there. Where all start with 1 it is the dilation level, up to the cap; where a starts with R + 1 - S(a), it is at most R + 1
-- exactly on A dilated by the sizes S.
-- The partners are the element turned about, so a walk leads from a point back to a point of A. A walk of at most R steps that
-- ends in the frame stays on the canvas, where every point is live: its points are near its end, by how far the folds reach.
-- On the canvas everything is A moved by the margin; what is found does not change when set and point are moved together.
use mathlib.Core.Path.{◌≡◌, refl, sym, ◌∙◌, ap, ap₂, subst, subst₂}
use mathlib.Core.Logic.{◌↔◌, inl, inr}
use mathlib.Core.List.{List}
use Prim.Native.Nat.{ℕ, suc, ◌+◌, ◌*◌, ◌-◌, ◌≤◌, ◌<◌}
use native.Mathlib.Nat.{mul-le-mul_right}
use native.Mathlib.Decide.{dec_le}
use native.Mathlib.Omega.{arith}
use lib.Dec.{leb, leb→le, le→leb}
use lib.ListN.{get_or}
use lib.IntN.{ℤ, pos, negsuc, ◌+ℤ◌, nat_abs, +ℤ-neg_ℤ_cancel}
use Rattle.grid.specs.Points.{Point, at, origin, ◌⊕◌, neg}
use Rattle.grid.specs.Sets.{PointSet, translate, reflect, fold, dilated}
use Rattle.grid.specs.Levels.{IsDilationLevel}
use Rattle.grid.specs.Sizes.{dilated_by_sizes}
use Rattle.grid.proofs.PointLaws.{⊕-assoc, ⊕-comm, ⊕-cancel, ⊖_cancel, ⊕-move, neg_neg}
use Rattle.grid.proofs.SetLaws.{fold_grows, fold_reflect}
use Rattle.grid.proofs.ReachLaws.{fold_reach}
use Rattle.row.specs.declared.Area.{Area}
use Rattle.row.specs.RowRule.{none}
use Rattle.scan.specs.Look.{look, full_scan, cap}
use Rattle.scan.specs.Starts.{OwnStart, DilationStart}
use Rattle.scan.proofs.Walks.{Walk, stop}
use Rattle.scan.proofs.GridScans.{GridScan, Step, walk→fold, same_partners, grid_sound, grid_bound}
use Rattle.scan.proofs.LookLaws.{spot, look_inside, look_all, cond_true, cond_false}
use Rattle.scan.proofs.Passes.{Live}
use Rattle.scan.proofs.Raster.{area_scan}

pub cap_low : (R level : ℕ) → level ≤ suc R → cap R level ≡ level
unfolding cap
cap_low R level h = cond_true (leb level (suc R)) level 0 (le→leb level (suc R) h)

pub cap_high : (R level : ℕ) → suc R < level → cap R level ≡ 0
unfolding cap
cap_high R level h = cond_false (leb level (suc R)) level 0 (λ t. let l = leb→le level (suc R) t in omega arith)

-- a level that comes from a point of A, below `top`, and is no more than any that R steps or fewer would give
pub record Found (top R : ℕ) (A K : PointSet) (own : Point → ℕ) (x : Point) (level : ℕ) : Type 0 where
  pub from : level < top → (a : Point) × A a × (k : ℕ) × translate (fold K k) a x × (level ≡ k + own a)
  pub least : (a : Point) → A a → (k : ℕ) → k ≤ R → translate (fold K k) a x → level ≤ k + own a

-- on the grid: a scan of levels that start with their own on A and `top` elsewhere
module _ (K : PointSet) (own : Point → ℕ) {top R : ℕ} {Live A : PointSet} {S W : Point → ℕ} (g : GridScan top Live (reflect K) S W)
    (near : (j : ℕ) (y a : Point) → A a → j ≤ R → Walk (Step (reflect K)) j y a → Live y)
    (decide : (x : Point) → Dec (A x)) (on : (x : Point) → A x → S x ≡ own x) (off : (x : Point) → ¬ A x → S x ≡ top) where
  found : (x : Point) → Found top R A K own x (W x)
  found x = record { from = from; least = least }
    where
      from : W x < top → (a : Point) × A a × (k : ℕ) × translate (fold K k) a x × (W x ≡ k + own a)
      from l = let (n, b, hb, e) = grid_sound g x l in cases n b hb e (decide (x ⊕ b))
        where
          cases : (n : ℕ) (b : Point) → fold (reflect K) n b → W x ≡ n + S (x ⊕ b) → Dec (A (x ⊕ b))
              → (a : Point) × A a × (k : ℕ) × translate (fold K k) a x × (W x ≡ k + own a)
          cases n b hb e (yes h) = (
            x ⊕ b,
            h,
            n,
            (neg b, (fold_reflect K n).0 b hb, sym (⊕-cancel x b) ∙ ⊕-comm (x ⊕ b) (neg b)),
            e ∙ ap (λ m. n + m) (on (x ⊕ b) h),
          )
          cases n b hb e (no f) = absurd (let s = off (x ⊕ b) f in omega arith)

      least : (a : Point) → A a → (k : ℕ) → k ≤ R → translate (fold K k) a x → W x ≤ k + own a
      least a ha k l (b, hb, e) =
          let end : x ⊕ neg b ≡ a = sym (⊕-move x a b (e ∙ ⊕-comm b a)) in
          let h = (fold_reflect K k).1 (neg b) (subst (fold K k) (sym (neg_neg b)) hb) in
          let bound = grid_bound g k (neg b) x h
          (λ i y m w. near i y a ha (omega arith) (subst (λ z. Walk (Step (reflect K)) i y z) end w)) in
          let s = ap S end ∙ on a ha in
          omega arith

-- set, levels and point moved together
found_move : (top R : ℕ) (A K : PointSet) (own : Point → ℕ) (c x : Point) (level : ℕ)
    → Found top R (λ p. A (p ⊕ c)) K (λ p. own (p ⊕ c)) x level → Found top R A K own (x ⊕ c) level
found_move top R A K own c x level p = record {
  from = λ l. let (a, ha, k, (b, hb, e), q) = p.from l in
      (a ⊕ c, ha, k, (b, hb, ap (λ z. z ⊕ c) e ∙ ⊕-assoc b a c), q);
  least = λ a ha k l (b, hb, e).
      let same = ⊖_cancel a c in
      let bound = p.least (a ⊕ neg c) (subst A (sym same) ha) k l
      (b, hb, sym (⊕-cancel x c) ∙ ap (λ z. z ⊕ neg c) e ∙ ⊕-assoc b a (neg c)) in
      let s = ap own same in
      omega arith;
}

module _ {top R : ℕ} {A K : PointSet} {x : Point} {level : ℕ} (fits : suc R < top) where
  -- ALL START WITH 1: the dilation level
  found_level : Found top R A K (λ a. 1) x level → IsDilationLevel R A K x (cap R level)
  found_level found = cases (dec_le level (suc R))
    where
      within : (j : ℕ) → j ≤ R → dilated A K j x → level ≤ suc j
      within j l (a, b, ha, hb, e) = let w = found.least a ha j l (b, hb, e ∙ ⊕-comm a b) in omega arith

      cases : Dec (level ≤ suc R) → IsDilationLevel R A K x (cap R level)
      cases (yes l) =
          let (a, ha, n, (b, hb, e), q) = found.from (omega arith) in
          rw (cap_low R level l) (record {
            capped = l;
            holds = λ k f. subst (λ m. dilated A K m x) (let q : n ≡ k = omega arith in q) (a, b, ha, hb, e ∙ ⊕-comm b a);
            below = λ j m d. let w = within j m d in (omega arith, w);
          })
      cases (no f) =
          rw (cap_high R level (omega arith)) (record {
            capped = omega arith;
            holds = λ k q. absurd (omega arith);
            below = λ j m d. let w = within j m d in absurd (omega arith);
          })

  -- A POINT a STARTS WITH R + 1 - S(a): the set dilated by the sizes S, none of them above R
  pub found_by_sizes : (S : Point → ℕ) → K origin → ((a : Point) → A a → S a ≤ R)
      → Found top R A K (λ a. suc R - S a) x level → dilated_by_sizes A S K x ↔ ((0 < level) × (level ≤ suc R))
  found_by_sizes S o small found = (reached, back)
    where
      reached : dilated_by_sizes A S K x → (0 < level) × (level ≤ suc R)
      reached (a, ha, t) =
          let s = small a ha in
          let w = found.least a ha (S a) s t in
          let (a', ha', k, t', q) = found.from (omega arith) in
          let s' = small a' ha' in
          (omega arith, omega arith)

      back : (0 < level) × (level ≤ suc R) → dilated_by_sizes A S K x
      back (some, l) =
          let (a, ha, k, (b, hb, e), q) = found.from (omega arith) in
          let s = small a ha in
          (a, ha, (b, fold_grows K o k (S a) (omega arith) b hb, e))

-- so on the grid, where all start with 1
module _ (K : PointSet) {top R : ℕ} {Live A : PointSet} {S W : Point → ℕ} (g : GridScan top Live (reflect K) S W)
    (near : (j : ℕ) (y a : Point) → A a → j ≤ R → Walk (Step (reflect K)) j y a → Live y)
    (decide : (x : Point) → Dec (A x)) (on : (x : Point) → A x → S x ≡ 1) (off : (x : Point) → ¬ A x → S x ≡ top)
    (fits : suc R < top) where
  pub dilation_level : (x : Point) → IsDilationLevel R A K x (cap R (W x))
  dilation_level x = found_level fits (found K (λ a. 1) g near decide on off x)

-- a coordinate of the frame, shifted by the margin and by no more than the margin again, lies on the canvas
on_side : (margin side u : ℕ) (d : ℤ) → u < side → nat_abs d ≤ margin
    → (v : ℕ) × (v < side + 2 * margin) × (pos (u + margin) +ℤ d ≡ pos v)
on_side margin side u (pos c) l h = (u + margin + c, omega arith, refl)
on_side margin side u (negsuc c) l h =
    let v = u + margin - suc c in
    let e : u + margin ≡ v + suc c = omega arith in
    (v, omega arith, ap (λ n. pos n +ℤ negsuc c) e ∙ +ℤ-neg_ℤ_cancel (pos v) (pos (suc c)))

module _ {area : Area} {width height R r : ℕ} {A K : PointSet} {own : Point → ℕ} {start : List ℕ}
    (given : OwnStart area width height R r A K own start) where
  abbrev margin : ℕ
  margin = R * r

  abbrev corner : Point
  corner = neg (spot margin margin)

  -- A as it lies on the canvas
  abbrev Moved : PointSet
  Moved p = A (p ⊕ corner)

  abbrev final : List ℕ
  final = full_scan area start

  scanned : GridScan none (Live area) (reflect K) (look area start) (look area final)
  scanned = same_partners given.partners_are (area_scan area start given.size)

  -- a walk of at most R steps that ends in A stays on the canvas
  near : (j : ℕ) (y a : Point) → Moved a → j ≤ R → Walk (Step (reflect K)) j y a → Live area y
  near j y a ha l w =
      let (row, col, i, k, e) = given.inside (a ⊕ corner) ha in
      let (b, hb, q) = walk→fold w in
      let h = (fold_reflect K j).0 b hb in
      let far : j * r ≤ margin = mul-le-mul_right r l in
      let v = fold_reach K (λ p. p.row) r refl (λ p q. refl) given.row_reach j (neg b) h in
      let u = fold_reach K (λ p. p.col) r refl (λ p q. refl) given.col_reach j (neg b) h in
      let (row', i', f) = on_side margin height row (neg b).row i (omega arith) in
      let (col', k', g) = on_side margin width col (neg b).col k (omega arith) in
      let cw = given.canvas_width in
      let ch = given.canvas_height in
      let at_end : a ≡ spot (row + margin) (col + margin) = sym (⊖_cancel a (spot margin margin))
      ∙ ap (λ p. p ⊕ spot margin margin) e in
      inl (row', col', omega arith, omega arith, ⊕-move a y b q ∙ ap (λ p. p ⊕ neg b) at_end ∙ ap₂ at f g)

  -- A lies on the canvas
  on : (x : Point) → Moved x → look area start x ≡ own (x ⊕ corner)
  on x h = cases (near 0 x x h (omega arith) stop)
    where
      cases : Live area x → look area start x ≡ own (x ⊕ corner)
      cases (inl (row, col, a, b, e)) =
          ap (look area start) e ∙ look_inside area start row col a b ∙ given.on row col a b (subst Moved e h)
          ∙ ap (λ p. own (p ⊕ corner)) (sym e)
      cases (inr z) = absurd (let f = given.none_beyond in omega arith)

  off : (x : Point) → ¬ Moved x → look area start x ≡ none
  off = look_all area start (λ x. ¬ Moved x) none given.off (λ x out n. given.none_beyond)

  -- THE SCAN THEOREM, x a point as it lies on the canvas
  found_scan : (x : Point) → Found none R A K own (x ⊕ corner) (look area final x)
  found_scan x = found_move none R A K own corner x (look area final x)
      (found K (λ p. own (p ⊕ corner)) scanned near (λ p. given.decide (p ⊕ corner)) on off x)

  -- read off the list, at the points of the frame
  pub found_frame : (row col : ℕ) → row < height → col < width
      → Found none R A K own (spot row col) (get_or final ((row + margin) * area.width + (col + margin)) 0)
  found_frame row col a b =
      let cw = given.canvas_width in
      let ch = given.canvas_height in
      subst₂ (Found none R A K own) (⊕-cancel (spot row col) (spot margin margin))
      (look_inside area final (row + margin) (col + margin) (omega arith) (omega arith))
      (found_scan (spot (row + margin) (col + margin)))

-- THE DILATION THEOREM, at every point of the canvas and read off at those of the frame
module _ {area : Area} {width height R r : ℕ} {A K : PointSet} {start : List ℕ}
    (given : DilationStart area width height R r A K start) where
  pub dilation_scan : (x : Point) → IsDilationLevel R A K (x ⊕ neg (spot (R * r) (R * r))) (cap R (look area (full_scan area start) x))
  dilation_scan x = found_level given.cap_fits (found_scan given x)

  pub dilation_frame : (row col : ℕ) → row < height → col < width
      → IsDilationLevel R A K (spot row col) (cap R (get_or (full_scan area start) ((row + R * r) * area.width + (col + R * r)) 0))
  dilation_frame row col a b = found_level given.cap_fits (found_frame given row col a b)
