-- Laws of sets dilated by sizes: one size for all, the same sets and sizes, and the worked example by a computed test.
-- Each is a regrouping of who is moved by what.
use mathlib.Core.Path.{◌≡◌, sym, ◌∙◌, ap, ap₂, subst}
use Prim.Native.Nat.{ℕ, ◌<◌}
use native.Mathlib.Decide.{ℕ_discrete, dec_lt}
use lib.IntN.{ℤ, pos, negsuc, pos-ne-negsuc}
use Rattle.grid.specs.Points.{Point, at, ◌⊕◌}
use Rattle.grid.specs.Sets.{PointSet, fold, ◌≈◌}
use Rattle.grid.specs.Figures.{figure, element}
use Rattle.grid.specs.Starred.{drawn, IsPixel, pair}
use Rattle.grid.specs.Sizes.{dilated_by_sizes, sizes_of, OneSizeDilates, two_points, their_sizes, their_points, TwoSizes}
use Rattle.grid.proofs.PointLaws.{⊕-comm, pos_inj, negsuc_inj}
use Rattle.grid.proofs.SameSets.{fold_parts}
use Rattle.grid.proofs.Searches.{Yes, by_test, Decided, Searched, all_below, any_below, both_dec, same_dec, implies_dec}
use Rattle.grid.proofs.Searches.{origin_searched, dilate_searched, fold_searched, moved_searched}
use Rattle.grid.proofs.Searches.{figure_searched, element_searched}
use Rattle.grid.proofs.Starred.{pixel_dec}

pub one_size_dilates : OneSizeDilates
one_size_dilates A K S n one = (
  (λ x (a, ha, (b, hb, e)). (a, b, ha, subst (λ m. fold K m b) (one a ha) hb, e ∙ ⊕-comm b a)),
  (λ x (a, b, ha, hb, e). (a, ha, (b, subst (λ m. fold K m b) (sym (one a ha)) hb, e ∙ ⊕-comm a b))),
)

-- the same points with the same sizes, and the same element
pub by_sizes_same : {A B K L : PointSet} (S T : Point → ℕ) → A ≈ B → ((a : Point) → A a → S a ≡ T a) → K ≈ L
    → dilated_by_sizes A S K ≈ dilated_by_sizes B T L
by_sizes_same {A} {B} {K} {L} S T same sizes alike = (
  (λ x (a, ha, (b, hb, e)). (a, same.0 a ha, (b, fold_parts K L alike.0 (T a) b (subst (λ n. fold K n b) (sizes a ha) hb), e))),
  (λ x (a, ha, (b, hb, e)). let h = same.1 a ha in
      (a, h, (b, subst (λ n. fold K n b) (sym (sizes a h)) (fold_parts L K alike.1 (T a) b hb), e))),
)

-- the worked example, computed
integer_dec : (m n : ℤ) → Dec (m ≡ n)
integer_dec (pos m) (pos n) = same_dec (ap (λ (k : ℕ). pos k)) pos_inj (ℕ_discrete m n)
integer_dec (pos m) (negsuc n) = no (pos-ne-negsuc m n)
integer_dec (negsuc m) (pos n) = no (λ e. pos-ne-negsuc n m (sym e))
integer_dec (negsuc m) (negsuc n) = same_dec (ap (λ (k : ℕ). negsuc k)) negsuc_inj (ℕ_discrete m n)

point_dec : (x y : Point) → Dec (x ≡ y)
point_dec x y = same_dec (λ e. ap₂ at e.0 e.1) (λ e. (ap (λ p. p.row) e, ap (λ p. p.col) e))
    (both_dec (integer_dec x.row y.row) (integer_dec x.col y.col))

by_sizes_decided : {A K : PointSet} (S : Point → ℕ) → Searched A → Searched K → Decided (dilated_by_sizes A S K)
by_sizes_decided {A} {K} S s t x =
    s.any (λ a. (b : Point) × fold K (S a) b × (x ≡ b ⊕ a))
    (λ a. (fold_searched K t (S a)).any (λ b. x ≡ b ⊕ a) (λ b. point_dec x (b ⊕ a)))

sizes_dec : Dec TwoSizes
sizes_dec =
    let Right : ℕ → ℕ → Type 0 = λ row col. IsPixel (dilated_by_sizes (figure 7 1 (drawn two_points)) (sizes_of (drawn their_sizes))
    (element 3 (drawn pair)) (at (pos row) (pos col))) (drawn their_points row col) in
    all_below 1 (λ row. (col : ℕ) → col < 7 → Right row col) (λ row. all_below 7 (Right row)
    (λ col. pixel_dec _ (by_sizes_decided (sizes_of (drawn their_sizes)) (figure_searched 7 1 (drawn two_points))
    (element_searched 3 (drawn pair)) (at (pos row) (pos col))) (drawn their_points row col)))

pub two_sizes : TwoSizes
unfolding Yes sizes_dec by_sizes_decided point_dec pixel_dec all_below any_below both_dec same_dec implies_dec origin_searched
    dilate_searched fold_searched moved_searched figure_searched element_searched ℕ_discrete dec_lt integer_dec
two_sizes = by_test sizes_dec tt
