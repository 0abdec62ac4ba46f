-- The starred cases hold of the definitions, by one test that is computed over the whole starred_cases.
-- A level is tested by two sizes alone: the one that it names is held and the next is not (or the one before, for dilation and
-- closing), since the sets shrink or grow with the size; a level above its cap by the cap's size alone.
use mathlib.Core.Path.{◌≡◌, refl, subst}
use mathlib.Core.Logic.{◌⊎◌, inl, inr}
use mathlib.Core.List.{List, [], ◌∷◌}
use Prim.Native.Nat.{ℕ, zero, suc, ◌-◌, ◌≤◌, ◌<◌}
use native.Mathlib.Decide.{ℕ_discrete, dec_le, dec_lt}
use native.Mathlib.Omega.{arith}
use lib.IntN.{pos}
use Rattle.grid.specs.Points.{Point, at, origin, ◌⊕◌}
use Rattle.grid.specs.Sets.{PointSet, eroded, dilated, opened, closed}
use Rattle.grid.specs.Levels.{IsLast, IsFirst, more_than_cap, IsErosionLevelUpTo}
use Rattle.grid.specs.Figures.{reach}
use Rattle.grid.specs.Crops.{uncropped}
use Rattle.grid.specs.Starred.{drawn, Question, erosion_levels, opening_levels, dilation_levels, closing_levels, eroded_by}
use Rattle.grid.specs.Starred.{opened_by, IsPixel, IsAnswer, Case, figure_of, shape_of, AllHold, starred_cases, hook, clipped}
use Rattle.grid.specs.Starred.{cropped_levels, pair, pair_reflected, PairReflects, ClippingMisses}
use Rattle.grid.proofs.SetLaws.{eroded_shrinks, dilated_grows, opened_shrinks, closed_grows}
use Rattle.grid.proofs.FigureLaws.{element_reflect}
use Rattle.grid.proofs.Searches.{Yes, by_test, Decided, Searched, all_below, any_below, not_dec, both_dec, either_dec}
use Rattle.grid.proofs.Searches.{implies_dec, same_dec, origin_searched, dilate_searched, fold_searched, moved_searched}
use Rattle.grid.proofs.Searches.{erode_decided, dilate_decided, eroded_decided, dilated_decided, opened_decided}
use Rattle.grid.proofs.Searches.{closed_decided, figure_decided, figure_searched, frame_decided, uncropped_decided, element_searched}

-- the two sizes that show a level
LastAt : (ℕ → Type 0) → ℕ → Type 0
LastAt F zero = ¬ F zero
LastAt F (suc k) = F k × ¬ F (suc k)

FirstAt : ℕ → (ℕ → Type 0) → ℕ → Type 0
FirstAt R F zero = ¬ F R
FirstAt R F (suc zero) = F zero
FirstAt R F (suc (suc k)) = (suc k ≤ R) × (F (suc k) × ¬ F k)

module _ (F : ℕ → Type 0) where
  last_at : ((i j : ℕ) → i ≤ j → F j → F i) → (m : ℕ) → LastAt F m → IsLast F m
  unfolding LastAt
  last_at falls zero n = record { holds = λ k e. absurd (omega arith); above = λ j h. absurd (n (falls zero j (omega arith) h)) }
  last_at falls (suc m) p =
      record { holds = λ k e. subst F (let q : m ≡ k = omega arith in q) p.0; above = λ j h. above j h (dec_lt j (suc m)) }
    where
      above : (j : ℕ) → F j → Dec (j < suc m) → j < suc m
      above j h (yes l) = l
      above j h (no f) = absurd (p.1 (falls (suc m) j (omega arith) h))

  first_at : ((i j : ℕ) → i ≤ j → F i → F j) → (R m : ℕ) → FirstAt R F m → IsFirst R F m
  unfolding FirstAt
  first_at grows R zero n =
      record { capped = omega arith; holds = λ k e. absurd (omega arith); below = λ j l h. absurd (n (grows j R l h)) }
  first_at grows R (suc zero) h =
      record {
        capped = omega arith;
        holds = λ k e. subst F (let q : zero ≡ k = omega arith in q) h;
        below = λ j l g. (omega arith, omega arith);
      }
  first_at grows R (suc (suc m)) p =
      let c = p.0 in
      record {
        capped = omega arith;
        holds = λ k e. subst F (let q : suc m ≡ k = omega arith in q) p.1.0;
        below = λ j l h. (omega arith, below j h (dec_lt m j));
      }
    where
      below : (j : ℕ) → F j → Dec (m < j) → suc (suc m) ≤ suc j
      below j h (yes l) = omega arith
      below j h (no f) = absurd (p.1.1 (grows j m (omega arith) h))

  last_at_dec : ((n : ℕ) → Dec (F n)) → (m : ℕ) → Dec (LastAt F m)
  unfolding LastAt
  last_at_dec d zero = not_dec (d zero)
  last_at_dec d (suc k) = both_dec (d k) (not_dec (d (suc k)))

  first_at_dec : ((n : ℕ) → Dec (F n)) → (R m : ℕ) → Dec (FirstAt R F m)
  unfolding FirstAt
  first_at_dec d R zero = not_dec (d R)
  first_at_dec d R (suc zero) = d zero
  first_at_dec d R (suc (suc k)) = both_dec (dec_le (suc k) R) (both_dec (d (suc k)) (not_dec (d k)))

-- the same up to a cap: the two sizes, or the cap's size where the value says more
UpToAt : ℕ → PointSet → PointSet → Point → ℕ → Type 0
UpToAt R A K x v = ((v ≤ R) × LastAt (λ n. eroded A K n x) v) ⊎ ((v ≡ more_than_cap) × eroded A K R x)

module _ (R : ℕ) (A K : PointSet) (x : Point) (v : ℕ) where
  up_to_at : K origin → UpToAt R A K x v → IsErosionLevelUpTo R A K x v
  unfolding UpToAt
  up_to_at o (inl t) = inl (t.0, last_at (λ n. eroded A K n x) (λ i j l. eroded_shrinks A K o i j l x) v t.1)
  up_to_at o (inr t) = inr t

  up_to_at_dec : Decided A → Searched K → Dec (UpToAt R A K x v)
  unfolding UpToAt
  up_to_at_dec d s =
      either_dec (both_dec (dec_le v R) (last_at_dec (λ n. eroded A K n x) (λ n. eroded_decided d s n x) v))
      (both_dec (ℕ_discrete v more_than_cap) (eroded_decided d s R x))

-- what is tested at a point, and that it shows the answer
Tested : Question → PointSet → PointSet → Point → ℕ → Type 0
Tested erosion_levels A K x v = LastAt (λ n. eroded A K n x) v
Tested opening_levels A K x v = LastAt (λ n. opened A K n x) v
Tested (dilation_levels R) A K x v = FirstAt R (λ n. dilated A K n x) v
Tested (closing_levels R) A K x v = FirstAt R (λ n. closed A K n x) v
Tested (eroded_by n) A K x v = IsPixel (eroded A K n x) v
Tested (opened_by n) A K x v = IsPixel (opened A K n x) v
Tested (cropped_levels width height R) A K x v = UpToAt R (uncropped width height A) K x v

unfoldable pub pixel_dec : (P : Type 0) → Dec P → (v : ℕ) → Dec (IsPixel P v)
pixel_dec P (yes p) v = same_dec (λ e. inl (e, p)) one (ℕ_discrete v 1)
  where
    one : IsPixel P v → v ≡ 1
    one (inl h) = h.0
    one (inr h) = absurd (h.1 p)
pixel_dec P (no n) v = same_dec (λ e. inr (e, n)) none (ℕ_discrete v 0)
  where
    none : IsPixel P v → v ≡ 0
    none (inl h) = absurd (n h.1)
    none (inr h) = h.0

module _ (A K : PointSet) (x : Point) (v : ℕ) where
  answered : (q : Question) → K origin → Tested q A K x v → IsAnswer q A K x v
  unfolding Tested
  answered erosion_levels o t = last_at (λ n. eroded A K n x) (λ i j l. eroded_shrinks A K o i j l x) v t
  answered opening_levels o t = last_at (λ n. opened A K n x) (λ i j l. opened_shrinks A K i j l x) v t
  answered (dilation_levels R) o t = first_at (λ n. dilated A K n x) (λ i j l. dilated_grows A K o i j l x) R v t
  answered (closing_levels R) o t = first_at (λ n. closed A K n x) (λ i j l. closed_grows A K i j l x) R v t
  answered (eroded_by n) o t = t
  answered (opened_by n) o t = t
  answered (cropped_levels width height R) o t = up_to_at R (uncropped width height A) K x v o t

  tested_dec : (q : Question) → Decided A → Searched K → Dec (Tested q A K x v)
  unfolding Tested
  tested_dec erosion_levels d s = last_at_dec (λ n. eroded A K n x) (λ n. eroded_decided d s n x) v
  tested_dec opening_levels d s = last_at_dec (λ n. opened A K n x) (λ n. opened_decided d s n x) v
  tested_dec (dilation_levels R) d s = first_at_dec (λ n. dilated A K n x) (λ n. dilated_decided d s n x) R v
  tested_dec (closing_levels R) d s = first_at_dec (λ n. closed A K n x) (λ n. closed_decided d s n x) R v
  tested_dec (eroded_by n) d s = pixel_dec (eroded A K n x) (eroded_decided d s n x) v
  tested_dec (opened_by n) d s = pixel_dec (opened A K n x) (opened_decided d s n x) v
  tested_dec (cropped_levels width height R) d s =
      up_to_at_dec R (uncropped width height A) K x v (uncropped_decided width height d) s

-- the whole starred_cases
CaseTested : Case → Type 0
CaseTested c = shape_of c origin ×
    ((row : ℕ) → row < c.height → (col : ℕ) → col < c.width
    → Tested c.question (figure_of c) (shape_of c) (at (pos row) (pos col)) (drawn c.expected row col))

AllTested : List Case → Type 0
AllTested [] = Unit {0}
AllTested (c ∷ cases) = CaseTested c × AllTested cases

all_hold : (cases : List Case) → AllTested cases → AllHold cases
unfolding AllTested CaseTested
all_hold [] t = tt
all_hold (c ∷ cases) t = (
  (λ row a col b. answered (figure_of c) (shape_of c) (at (pos row) (pos col)) (drawn c.expected row col) c.question
      t.0.0 (t.0.1 row a col b)),
  all_hold cases t.1,
)

case_dec : (c : Case) → Dec (CaseTested c)
unfolding CaseTested
case_dec c =
    both_dec (figure_decided 3 3 (drawn c.shape) (origin ⊕ at (pos (reach 3)) (pos (reach 3))))
    (all_below c.height (λ row. (col : ℕ) → col < c.width
    → Tested c.question (figure_of c) (shape_of c) (at (pos row) (pos col)) (drawn c.expected row col))
    (λ row. all_below c.width
    (λ col. Tested c.question (figure_of c) (shape_of c) (at (pos row) (pos col)) (drawn c.expected row col))
    (λ col. tested_dec (figure_of c) (shape_of c) (at (pos row) (pos col)) (drawn c.expected row col) c.question
    (figure_decided c.width c.height (drawn c.sheet)) (element_searched 3 (drawn c.shape)))))

all_dec : (cases : List Case) → Dec (AllTested cases)
unfolding AllTested
all_dec [] = yes tt
all_dec (c ∷ cases) = both_dec (case_dec c) (all_dec cases)

-- what the tests compute with
table_tested : AllTested starred_cases
unfolding Yes all_dec AllTested case_dec CaseTested tested_dec Tested pixel_dec LastAt FirstAt UpToAt last_at_dec first_at_dec
    up_to_at_dec all_below any_below not_dec both_dec either_dec implies_dec same_dec origin_searched dilate_searched
    fold_searched moved_searched erode_decided dilate_decided eroded_decided dilated_decided opened_decided closed_decided
    figure_decided figure_searched frame_decided uncropped_decided element_searched ℕ_discrete dec_le dec_lt
table_tested = by_test (all_dec starred_cases) tt

-- THE CLAIM: every starred case holds of the definitions
pub starred : AllHold starred_cases
starred = all_hold starred_cases table_tested

-- and clipping at each step is not dilating by 2
clipped_decided : {A : PointSet} → Decided A → Decided (clipped 1 2 A)
clipped_decided d x = both_dec (d x) (frame_decided 1 2 x)

misses_dec : Dec ClippingMisses
misses_dec =
    let A = figure_decided 1 2 (drawn ((1 ∷ []) ∷ (0 ∷ []) ∷ [])) in
    let K = element_searched 3 (drawn hook) in
    both_dec (dilated_decided A K 2 (at (pos 1) (pos 0)))
    (not_dec (clipped_decided (dilate_decided (clipped_decided (dilate_decided A K)) K) (at (pos 1) (pos 0))))

pub clipping_misses : ClippingMisses
unfolding Yes misses_dec clipped_decided any_below not_dec both_dec same_dec origin_searched dilate_searched fold_searched
    moved_searched dilate_decided dilated_decided frame_decided figure_decided figure_searched element_searched ℕ_discrete
    dec_lt
clipping_misses = by_test misses_dec tt

-- case 3's drawing is case 2's read across the centre
across_dec : Dec ((row : ℕ) → row < 3 → (col : ℕ) → col < 3 → drawn pair_reflected row col ≡ drawn pair (2 - row) (2 - col))
across_dec = all_below 3 (λ row. (col : ℕ) → col < 3 → drawn pair_reflected row col ≡ drawn pair (2 - row) (2 - col))
    (λ row. all_below 3 (λ col. drawn pair_reflected row col ≡ drawn pair (2 - row) (2 - col))
    (λ col. ℕ_discrete (drawn pair_reflected row col) (drawn pair (2 - row) (2 - col))))

drawn_across : (row : ℕ) → row < 3 → (col : ℕ) → col < 3 → drawn pair_reflected row col ≡ drawn pair (2 - row) (2 - col)
unfolding Yes across_dec all_below ℕ_discrete dec_lt
drawn_across = by_test across_dec tt

pub pair_reflects : PairReflects
pair_reflects = element_reflect 3 refl (drawn pair) (drawn pair_reflected) (λ row col a b. drawn_across row a col b)
