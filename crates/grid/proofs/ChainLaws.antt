-- Chains of openings and of closings fold into one, and do so clipped to the frame.
-- An opening grows with its set, lies in it, changes nothing when repeated, and gives less the larger its size: that is all a
-- chain needs. Of a closing the same holds with every inclusion turned about, so one law over the order serves both.
-- A set that lies in the frame is not changed by clipping.
use mathlib.Core.Path.{◌≡◌, refl, sym, subst}
use Prim.Native.Nat.{ℕ, ◌≤◌, max}
use native.Mathlib.Decide.{dec_le}
use native.Mathlib.Omega.{arith}
use Rattle.grid.specs.Sets.{PointSet, fold, dilated, opened, closed, ◌⊆◌, ◌≈◌}
use Rattle.grid.specs.Figures.{frame, element}
use Rattle.grid.specs.Starred.{clipped}
use Rattle.grid.specs.Chains.{OpeningsFold, ClosingsFold, OpeningsStay, ClippedOpeningsFold, ClippedClosingsFold}
use Rattle.grid.proofs.SetLaws.{dilate_parts, erode_parts, opened_shrinks, closed_grows}
use Rattle.grid.proofs.SameSets.{itself, and_so, opened_same, closed_same}
use Rattle.grid.proofs.StayLaws.{closings_stay}

-- ONE LAW over an order of sets, and a filter that goes down by it
module _ (Below : PointSet → PointSet → Type 0) (through : (A B C : PointSet) → Below A B → Below B C → Below A C)
    (F : PointSet → ℕ → PointSet) (grows : (A B : PointSet) (n : ℕ) → Below A B → Below (F A n) (F B n))
    (within : (A : PointSet) (n : ℕ) → Below (F A n) A) (again : (A : PointSet) (n : ℕ) → Below (F A n) (F (F A n) n))
    (falls : (A : PointSet) (m n : ℕ) → m ≤ n → Below (F A n) (F A m)) where
  chain : (A : PointSet) (n m : ℕ) → Below (F (F A n) m) (F A (max n m)) × Below (F A (max n m)) (F (F A n) m)
  chain A n m = go (dec_le n m)
    where
      go : Dec (n ≤ m) → Below (F (F A n) m) (F A (max n m)) × Below (F A (max n m)) (F (F A n) m)
      go (yes l) =
          let larger : max n m ≡ m = omega arith in
          rw larger (grows (F A n) A m (within A n), through _ _ _ (again A m) (grows (F A m) (F A n) m (falls A n m l)))
      go (no f) =
          let larger : max n m ≡ n = omega arith in
          rw larger (within (F A n) m, through _ _ _ (again A n) (falls (F A n) m n (omega arith)))

pub openings_stay : OpeningsStay
openings_stay A K n x (a, b, ha, hb, e) = subst A (sym e) (ha b hb)

pub openings_fold : OpeningsFold
openings_fold A K =
    chain ◌⊆◌ (λ A B C f g x h. g x (f x h)) (λ A. opened A K)
    (λ A B n f. dilate_parts (erode_parts A B (fold K n) (fold K n) f (λ b h. h)) (λ b h. h))
    (λ A n. openings_stay A K n)
    (λ A n x (a, b, ha, hb, e). (a, b, (λ c hc. (a, c, ha, hc, refl)), hb, e))
    (λ A m n l. opened_shrinks A K m n l) A

pub closings_fold : ClosingsFold
closings_fold A K n m =
    let turned = chain (λ A B. B ⊆ A) (λ A B C f g x h. f x (g x h)) (λ A. closed A K)
    (λ A B n f. erode_parts (dilated B K n) (dilated A K n) (fold K n) (fold K n) (dilate_parts f (λ b h. h)) (λ b h. h))
    (λ A n x h b hb. (x, b, h, hb, refl))
    (λ A n x h b hb. let (a, c, ha, hc, e) = h b hb in subst (dilated A K n) (sym e) (ha c hc))
    (λ A m n l. closed_grows A K m n l) A n m in
    (turned.1, turned.0)

-- CLIPPED TO THE FRAME
unchanged : (width height : ℕ) (A : PointSet) → A ⊆ frame width height → clipped width height A ≈ A
unchanged width height A inside = ((λ x h. h.0), (λ x h. (h, inside x h)))

pub clipped_openings_fold : ClippedOpeningsFold
clipped_openings_fold width height A K inside n m =
    let stay : opened A K n ⊆ frame width height = λ x h. inside x (openings_stay A K n x h) in
    and_so (opened_same (unchanged width height (opened A K n) stay) (itself K) m) (openings_fold A K n m)

pub clipped_closings_fold : ClippedClosingsFold
clipped_closings_fold width height A inside side cell b has n m =
    let K = element side cell in
    let stay = closings_stay width height A inside side cell b has n in
    and_so (closed_same (unchanged width height (closed A K n) stay) (itself K) m) (closings_fold A K n m)
