-- A cropped sheet is eroded by dilating its background: the duality, and the erosion level read off the dilation level.
-- A step b of nK from x to a point a of the background is the step -b from a to x, and the steps -b are the folds of K reflected.
-- So the first size that reaches x is the first that loses it, and x is held at exactly the sizes before.
use mathlib.Core.Path.{refl, sym, subst}
use mathlib.Core.Logic.{inl, inr}
use Prim.Native.Nat.{ℕ, suc, ◌≤◌, ◌<◌}
use native.Mathlib.Decide.{dec_lt}
use native.Mathlib.Omega.{arith}
use Rattle.grid.specs.Points.{Point, origin, ◌⊕◌, neg}
use Rattle.grid.specs.Sets.{PointSet, reflect, fold, eroded, dilated}
use Rattle.grid.specs.Levels.{IsErosionLevel, IsDilationLevel}
use Rattle.grid.specs.Crops.{uncropped, background, Duality}
use Rattle.grid.proofs.PointLaws.{⊕-cancel, ⊕-move, neg_neg}
use Rattle.grid.proofs.SetLaws.{fold_reflect, dilated_grows}
use Rattle.grid.proofs.Searches.{Decided}

-- the background is what the uncropped set lacks
module _ (width height : ℕ) (A : PointSet) (y : Point) where
  not_background : uncropped width height A y → ¬ background width height A y
  not_background (inl a) b = b.1 a
  not_background (inr f) b = f b.0

  in_uncropped : Dec (A y) → ¬ background width height A y → uncropped width height A y
  in_uncropped (yes a) n = inl a
  in_uncropped (no m) n = inr (λ f. n (f, m))

pub duality : Duality
duality width height A K d n x = (kept, unreached)
  where
    kept : eroded (uncropped width height A) K n x → ¬ dilated (background width height A) (reflect K) n x
    kept h (a, b, ha, hb, e) =
        not_background width height A a
        (subst (uncropped width height A) (sym (⊕-move x a b e)) (h (neg b) ((fold_reflect K n).0 b hb))) ha

    unreached : ¬ dilated (background width height A) (reflect K) n x → eroded (uncropped width height A) K n x
    unreached f b hb =
        in_uncropped width height A (x ⊕ b) (d (x ⊕ b))
        (λ ha. f
        (x ⊕ b, neg b, ha, (fold_reflect K n).1 (neg b) (subst (fold K n) (sym (neg_neg b)) hb), sym (⊕-cancel x b)))

-- the erosion level of a point is one less than the level at which the background reaches it; unreached, it is held up to the cap
module _ (width height : ℕ) (A K : PointSet) (d : Decided A) {R : ℕ} (x : Point) where
  pub crop_level : K origin → {k : ℕ} → IsDilationLevel R (background width height A) (reflect K) x (suc k)
      → (k ≤ R) × IsErosionLevel (uncropped width height A) K x k
  crop_level o {k} p = (
    (let c = p.capped in omega arith),
    record {
      holds = λ i e. (duality width height A K d i x).1 (λ h.
          let c = p.capped in let l = (p.below i (omega arith) h).1 in absurd (omega arith));
      above = λ j h. above j h (dec_lt j k);
    },
  )
    where
      above : (j : ℕ) → eroded (uncropped width height A) K j x → Dec (j < k) → j < k
      above j h (yes l) = l
      above j h (no f) = absurd ((duality width height A K d j x).0 h
          (dilated_grows (background width height A) (reflect K) o k j (omega arith) x (p.holds k refl)))

  pub crop_held : IsDilationLevel R (background width height A) (reflect K) x 0 → eroded (uncropped width height A) K R x
  crop_held p = (duality width height A K d R x).1 (λ h. let l = (p.below R (omega arith) h).0 in absurd (omega arith))
