-- The same set and the same element give the same sizes, the same levels and the same answers, however the two are written down.
-- nK grows with K, by induction on n; the rest follows since erosion and dilation grow or shrink with each of their sets.
use mathlib.Core.Logic.{inl, inr, ◌↔◌}
use Prim.Native.Nat.{ℕ, zero, suc}
use Rattle.grid.specs.Points.{Point}
use Rattle.grid.specs.Sets.{PointSet, fold, eroded, dilated, opened, closed, ◌⊆◌, ◌≈◌}
use Rattle.grid.specs.Levels.{IsLast, IsFirst, IsErosionLevelUpTo}
use Rattle.grid.specs.Crops.{uncropped}
use Rattle.grid.specs.Starred.{Question, erosion_levels, opening_levels, dilation_levels, closing_levels, eroded_by, opened_by}
use Rattle.grid.specs.Starred.{cropped_levels, IsPixel, IsAnswer}
use Rattle.grid.proofs.SetLaws.{dilate_parts, erode_parts}

-- being the same: of a set and itself, and from one pair on to the next
pub itself : (A : PointSet) → A ≈ A
itself A = ((λ x h. h), (λ x h. h))

pub and_so : {A B C : PointSet} → A ≈ B → B ≈ C → A ≈ C
and_so f g = ((λ x h. g.0 x (f.0 x h)), (λ x h. f.1 x (g.1 x h)))

pub fold_parts : (K L : PointSet) → K ⊆ L → (n : ℕ) → fold K n ⊆ fold L n
fold_parts K L part zero = λ x h. h
fold_parts K L part (suc n) = dilate_parts part (fold_parts K L part n)

eroded_parts : (A B K L : PointSet) → A ⊆ B → L ⊆ K → (n : ℕ) → eroded A K n ⊆ eroded B L n
eroded_parts A B K L part smaller n = erode_parts A B (fold K n) (fold L n) part (fold_parts L K smaller n)

dilated_parts : (A B K L : PointSet) → A ⊆ B → K ⊆ L → (n : ℕ) → dilated A K n ⊆ dilated B L n
dilated_parts A B K L part larger n = dilate_parts part (fold_parts K L larger n)

-- THE FOUR SETS
module _ {A B K L : PointSet} (same : A ≈ B) (alike : K ≈ L) (n : ℕ) where
  pub eroded_same : eroded A K n ≈ eroded B L n
  eroded_same = (eroded_parts A B K L same.0 alike.1 n, eroded_parts B A L K same.1 alike.0 n)

  pub dilated_same : dilated A K n ≈ dilated B L n
  dilated_same = (dilated_parts A B K L same.0 alike.0 n, dilated_parts B A L K same.1 alike.1 n)

-- a sheet cropped
uncropped_parts : (width height : ℕ) (A B : PointSet) → A ⊆ B → uncropped width height A ⊆ uncropped width height B
uncropped_parts width height A B part x (inl a) = inl (part x a)
uncropped_parts width height A B part x (inr f) = inr f

pub uncropped_same : (width height : ℕ) {A B : PointSet} → A ≈ B → uncropped width height A ≈ uncropped width height B
uncropped_same width height {A} {B} same =
    (uncropped_parts width height A B same.0, uncropped_parts width height B A same.1)

module _ {A B K L : PointSet} (same : A ≈ B) (alike : K ≈ L) (n : ℕ) where
  pub opened_same : opened A K n ≈ opened B L n
  opened_same = dilated_same (eroded_same same alike n) alike n

  pub closed_same : closed A K n ≈ closed B L n
  closed_same = eroded_same (dilated_same same alike n) alike n

-- a level, and a pixel, of two properties that hold of the same sizes
last_same : {F G : ℕ → Type 0} {m : ℕ} → ((n : ℕ) → F n ↔ G n) → IsLast F m → IsLast G m
last_same same p = record { holds = λ k e. (same k).0 (p.holds k e); above = λ j g. p.above j ((same j).1 g) }

first_same : {R : ℕ} {F G : ℕ → Type 0} {m : ℕ} → ((n : ℕ) → F n ↔ G n) → IsFirst R F m → IsFirst R G m
first_same same p = record {
  capped = p.capped;
  holds = λ k e. (same k).0 (p.holds k e);
  below = λ j l g. p.below j l ((same j).1 g);
}

pixel_same : {P Q : Type 0} {v : ℕ} → P ↔ Q → IsPixel P v → IsPixel Q v
pixel_same same (inl p) = inl (p.0, same.0 p.1)
pixel_same same (inr p) = inr (p.0, λ q. p.1 (same.1 q))

up_to_same : {A B K L : PointSet} {R m : ℕ} → A ≈ B → K ≈ L → (x : Point) → IsErosionLevelUpTo R A K x m
    → IsErosionLevelUpTo R B L x m
up_to_same same alike x (inl (l, p)) = inl (l, last_same (λ n. let e = eroded_same same alike n in (e.0 x, e.1 x)) p)
up_to_same {R = R} same alike x (inr (e, h)) = inr (e, (eroded_same same alike R).0 x h)

-- EVERY ANSWER
pub answer_same : {A B K L : PointSet} → A ≈ B → K ≈ L → (q : Question) (x : Point) (v : ℕ) → IsAnswer q A K x v
    → IsAnswer q B L x v
answer_same same alike erosion_levels x v = last_same (λ n. let e = eroded_same same alike n in (e.0 x, e.1 x))
answer_same same alike opening_levels x v = last_same (λ n. let e = opened_same same alike n in (e.0 x, e.1 x))
answer_same same alike (dilation_levels R) x v = first_same (λ n. let e = dilated_same same alike n in (e.0 x, e.1 x))
answer_same same alike (closing_levels R) x v = first_same (λ n. let e = closed_same same alike n in (e.0 x, e.1 x))
answer_same same alike (eroded_by n) x v = let e = eroded_same same alike n in pixel_same (e.0 x, e.1 x)
answer_same same alike (opened_by n) x v = let e = opened_same same alike n in pixel_same (e.0 x, e.1 x)
answer_same same alike (cropped_levels width height R) x v = up_to_same (uncropped_same width height same) alike x
