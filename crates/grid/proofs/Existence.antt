-- Every level exists, for every sheet and every element that has the centre and another point.
-- A largest level exists since n steps along that other point lead out of the frame once n reaches the larger side.
use mathlib.Core.Path.{◌≡◌, refl, subst}
use mathlib.Core.Logic.{◌≢◌, ◌⊎◌, inl, inr}
use Prim.Native.Nat.{ℕ, zero, suc, ◌≤◌, ◌<◌, max}
use native.Mathlib.Decide.{ℕ_discrete, dec_le, dec_lt}
use native.Mathlib.Omega.{arith}
use Rattle.grid.specs.Points.{Point, origin, ◌⊕◌}
use Rattle.grid.specs.Sets.{PointSet, eroded, dilated, opened, closed, ◌⊆◌}
use Rattle.grid.specs.Levels.{IsLast, IsFirst, IsErosionLevel, IsOpeningLevel, IsDilationLevel, IsClosingLevel}
use Rattle.grid.specs.Levels.{more_than_cap, IsErosionLevelUpTo}
use Rattle.grid.specs.Figures.{frame, figure, element}
use Rattle.grid.specs.Crops.{uncropped}
use Rattle.grid.proofs.PointLaws.{⊕-origin}
use Rattle.grid.proofs.SetLaws.{fold_origin, eroded_shrinks}
use Rattle.grid.proofs.ReachLaws.{figure_in, times, times_fold, leaves}
use Rattle.grid.proofs.Searches.{eroded_decided, dilated_decided, opened_decided, closed_decided, figure_decided}
use Rattle.grid.proofs.Searches.{element_searched, uncropped_decided, Decided, Searched}

module _ (width height : ℕ) (A K : PointSet) (inside : A ⊆ frame width height) (b : Point) (kb : K b) (ne : b ≢ origin) where
  -- a size that erosion or opening holds anywhere is below the larger side
  pub eroded_bound : K origin → (n : ℕ) (x : Point) → eroded A K n x → n < max width height
  eroded_bound o n x h = go (dec_lt n (max width height))
    where
      go : Dec (n < max width height) → n < max width height
      go (yes l) = l
      go (no f) =
          let m = max width height in
          let g = eroded_shrinks A K o m n (omega arith) x h in
          absurd (leaves width height b x ne (inside x (subst A (⊕-origin x) (h origin (fold_origin K o n))))
          (inside (x ⊕ times m b) (g (times m b) (times_fold K b kb m))))

  pub opened_bound : K origin → (n : ℕ) (x : Point) → opened A K n x → n < max width height
  opened_bound o n x h = eroded_bound o n h.0 h.2

-- the largest size below a bound, and the least up to a cap
pub last_exists : (F : ℕ → Type 0) → ((n : ℕ) → Dec (F n)) → (bound : ℕ) → ((j : ℕ) → F j → j < bound)
    → (m : ℕ) × IsLast F m × (m ≤ bound)
last_exists F d zero f = (zero, record { holds = λ k e. absurd (omega arith); above = f }, omega arith)
last_exists F d (suc b) f = go (d b) (λ g. last_exists F d b g)
  where
    go : Dec (F b) → (((j : ℕ) → F j → j < b) → (m : ℕ) × IsLast F m × (m ≤ b)) → (m : ℕ) × IsLast F m × (m ≤ suc b)
    go (yes h) rest = (suc b, record { holds = λ k e. subst F (let q : b ≡ k = omega arith in q) h; above = f }, omega arith)
    go (no n) rest =
        let r = rest (λ j h. let l = f j h in let q : j ≢ b = λ e. n (subst F e h) in omega arith) in
        (r.0, r.1, (let l = r.2 in omega arith))

pub first_exists : (F : ℕ → Type 0) → ((n : ℕ) → Dec (F n)) → (R : ℕ) → (m : ℕ) × IsFirst R F m
first_exists F d R = found (least (suc R))
  where
    Least : ℕ → Type 0
    Least n = (k : ℕ) × (k < n) × F k × ((j : ℕ) → F j → k ≤ j)

    None : ℕ → Type 0
    None n = (j : ℕ) → j < n → ¬ F j

    more : (n : ℕ) → Least n ⊎ None n → Dec (F n) → Least (suc n) ⊎ None (suc n)
    more n (inl h) q = inl (h.0, (let l = h.1 in omega arith), h.2, h.3)
    more n (inr z) (yes h) = inl (n, omega arith, h, λ j g. go j g (dec_le n j))
      where
        go : (j : ℕ) → F j → Dec (n ≤ j) → n ≤ j
        go j g (yes l) = l
        go j g (no f) = absurd (z j (omega arith) g)
    more n (inr z) (no f) = inr (λ j l. go j l (ℕ_discrete j n))
      where
        go : (j : ℕ) → j < suc n → Dec (j ≡ n) → ¬ F j
        go j l (yes e) = λ g. f (subst F e g)
        go j l (no e) = z j (omega arith)

    least : (n : ℕ) → Least n ⊎ None n
    least zero = inr (λ j l. absurd (omega arith))
    least (suc n) = more n (least n) (d n)

    found : Least (suc R) ⊎ None (suc R) → (m : ℕ) × IsFirst R F m
    found (inl h) =
        let l = h.1 in (
          suc h.0,
          record {
            capped = omega arith;
            holds = λ k e. subst F (let q : h.0 ≡ k = omega arith in q) h.2;
            below = λ j c g. (omega arith, (let q = h.3 j g in omega arith));
          },
        )
    found (inr z) = (
      zero,
      record {
        capped = omega arith;
        holds = λ k e. absurd (omega arith);
        below = λ j c g. absurd (z j (omega arith) g);
      },
    )

-- the level up to a cap: either the cap's size holds, or the sizes that hold are all below the cap
pub up_to_exists : {A K : PointSet} → Decided A → Searched K → K origin → (R : ℕ) (x : Point)
    → (m : ℕ) × IsErosionLevelUpTo R A K x m
up_to_exists {A} {K} d s o R x = go (eroded_decided d s R x)
  where
    bound : ¬ eroded A K R x → (j : ℕ) → eroded A K j x → Dec (j < R) → j < R
    bound n j h (yes l) = l
    bound n j h (no f) = absurd (n (eroded_shrinks A K o R j (omega arith) x h))

    go : Dec (eroded A K R x) → (m : ℕ) × IsErosionLevelUpTo R A K x m
    go (yes h) = (more_than_cap, inr (refl, h))
    go (no n) =
        let r = last_exists (λ j. eroded A K j x) (λ j. eroded_decided d s j x) R (λ j h. bound n j h (dec_lt j R)) in
        (r.0, inl (r.2, r.1))

-- for every sheet and every element with its centre set and not alone
module _ (width height : ℕ) (pixel : ℕ → ℕ → ℕ) (side : ℕ) (cell : ℕ → ℕ → ℕ) where
  abbrev A : PointSet
  A = figure width height pixel

  abbrev K : PointSet
  K = element side cell

  module _ (o : K origin) (b : Point) (kb : K b) (ne : b ≢ origin) where
    pub erosion_level_exists : (x : Point) → (m : ℕ) × IsErosionLevel A K x m × (m ≤ max width height)
    erosion_level_exists x =
        last_exists (λ n. eroded A K n x)
        (λ n. eroded_decided (figure_decided width height pixel) (element_searched side cell) n x) (max width height)
        (λ n h. eroded_bound width height A K (figure_in width height pixel) b kb ne o n x h)

    pub opening_level_exists : (x : Point) → (m : ℕ) × IsOpeningLevel A K x m × (m ≤ max width height)
    opening_level_exists x =
        last_exists (λ n. opened A K n x)
        (λ n. opened_decided (figure_decided width height pixel) (element_searched side cell) n x) (max width height)
        (λ n h. opened_bound width height A K (figure_in width height pixel) b kb ne o n x h)

  pub dilation_level_exists : (R : ℕ) (x : Point) → (m : ℕ) × IsDilationLevel R A K x m
  dilation_level_exists R x =
      first_exists (λ n. dilated A K n x)
      (λ n. dilated_decided (figure_decided width height pixel) (element_searched side cell) n x) R

  pub closing_level_exists : (R : ℕ) (x : Point) → (m : ℕ) × IsClosingLevel R A K x m
  closing_level_exists R x =
      first_exists (λ n. closed A K n x)
      (λ n. closed_decided (figure_decided width height pixel) (element_searched side cell) n x) R

  -- the sheet cropped, where the centre may be alone
  pub cropped_level_exists : K origin → (R : ℕ) (x : Point) → (m : ℕ) × IsErosionLevelUpTo R (uncropped width height A) K x m
  cropped_level_exists o =
      up_to_exists (uncropped_decided width height (figure_decided width height pixel)) (element_searched side cell) o
