-- The sets that a sheet and an element give can be searched, so each question about sizes and levels has an answer.
-- A set can be searched where "all of its points" and "one of its points" can be decided; sums of such sets can be searched
-- again.
use mathlib.Core.Path.{◌≡◌, refl, sym, ◌∙◌, ap, ap₂, subst}
use mathlib.Core.Logic.{◌⊎◌, inl, inr, ⊎_elim}
use Prim.Native.Nat.{ℕ, zero, suc, ◌<◌}
use native.Mathlib.Decide.{ℕ_discrete, dec_lt}
use native.Mathlib.Omega.{arith}
use lib.IntN.{ℤ, pos, negsuc, pos-ne-negsuc}
use Rattle.grid.specs.Points.{Point, at, origin, ◌⊕◌, neg}
use Rattle.grid.specs.Sets.{PointSet, dilate, erode, fold, eroded, dilated, opened, closed}
use Rattle.grid.specs.Figures.{frame, figure, element, reach}
use Rattle.grid.specs.Crops.{uncropped, background}
use Rattle.grid.proofs.PointLaws.{⊕-move, ⊕-cancel, ⊖_cancel, pos_inj}

-- every number below n; one of them
unfoldable pub all_below : (n : ℕ) (P : ℕ → Type 0) → ((k : ℕ) → Dec (P k)) → Dec ((k : ℕ) → k < n → P k)
all_below zero P d = yes (λ k l. absurd (omega arith))
all_below (suc n) P d = more (all_below n P d) (d n)
  where
    last : ((k : ℕ) → k < n → P k) → P n → (k : ℕ) → k < suc n → Dec (k ≡ n) → P k
    last f p k l (yes e) = subst P (sym e) p
    last f p k l (no e) = f k (omega arith)

    more : Dec ((k : ℕ) → k < n → P k) → Dec (P n) → Dec ((k : ℕ) → k < suc n → P k)
    more (yes f) (yes p) = yes (λ k l. last f p k l (ℕ_discrete k n))
    more (yes f) (no m) = no (λ g. m (g n (omega arith)))
    more (no m) q = no (λ g. m (λ k l. g k (omega arith)))

unfoldable pub any_below : (n : ℕ) (P : ℕ → Type 0) → ((k : ℕ) → Dec (P k)) → Dec ((k : ℕ) × (k < n) × P k)
any_below zero P d = no (λ h. absurd (let l = h.1 in omega arith))
any_below (suc n) P d = more (any_below n P d) (d n)
  where
    last : ¬ ((k : ℕ) × (k < n) × P k) → ¬ P n → (h : (k : ℕ) × (k < suc n) × P k) → Dec (h.0 ≡ n) → ⊥
    last f m h (yes e) = m (subst P e h.2)
    last f m h (no e) = f (h.0, (let l = h.1 in omega arith), h.2)

    more : Dec ((k : ℕ) × (k < n) × P k) → Dec (P n) → Dec ((k : ℕ) × (k < suc n) × P k)
    more (yes h) q = yes (h.0, (let l = h.1 in omega arith), h.2)
    more (no f) (yes p) = yes (n, omega arith, p)
    more (no f) (no m) = no (λ h. last f m h (ℕ_discrete h.0 n))

unfoldable pub not_dec : {P : Type 0} → Dec P → Dec (¬ P)
not_dec (yes p) = no (λ n. n p)
not_dec (no n) = yes n

unfoldable pub both_dec : {P Q : Type 0} → Dec P → Dec Q → Dec (P × Q)
both_dec (yes p) (yes q) = yes (p, q)
both_dec (yes p) (no n) = no (λ h. n h.1)
both_dec (no n) q = no (λ h. n h.0)

unfoldable pub either_dec : {P Q : Type 0} → Dec P → Dec Q → Dec (P ⊎ Q)
either_dec (yes p) q = yes (inl p)
either_dec (no n) (yes q) = yes (inr q)
either_dec (no n) (no m) = no (⊎_elim n m)

unfoldable pub implies_dec : {P Q : Type 0} → Dec P → Dec Q → Dec (P → Q)
implies_dec (yes p) (yes q) = yes (λ _. q)
implies_dec (yes p) (no n) = no (λ f. n (f p))
implies_dec (no n) q = yes (λ p. absurd (n p))

unfoldable pub same_dec : {P Q : Type 0} → (P → Q) → (Q → P) → Dec P → Dec Q
same_dec f g (yes p) = yes (f p)
same_dec f g (no n) = no (λ q. n (g q))

-- what is decided with a yes holds
unfoldable pub Yes : {P : Type 0} → Dec P → Type 0
Yes (yes p) = Unit {0}
Yes (no n) = ⊥

pub by_test : {P : Type 0} (d : Dec P) → Yes d → P
unfolding Yes
by_test (yes p) t = p
by_test (no n) t = absurd t

abbrev pub Decided : PointSet → Type 0
Decided A = (x : Point) → Dec (A x)

pub record Searched (B : PointSet) : Type 1 where
  pub all : (P : PointSet) → Decided P → Dec ((b : Point) → B b → P b)
  pub any : (P : PointSet) → Decided P → Dec ((b : Point) × B b × P b)

unfoldable pub origin_searched : Searched (λ x. x ≡ origin)
origin_searched =
    record {
      all = λ P d. same_dec (λ p b e. subst P (sym e) p) (λ f. f origin refl) (d origin);
      any = λ P d. same_dec (λ p. (origin, refl, p)) (λ h. subst P h.1 h.2) (d origin);
    }

unfoldable pub dilate_searched : {A B : PointSet} → Searched A → Searched B → Searched (dilate A B)
dilate_searched {A} {B} s t =
    record {
      all = λ P d.
          same_dec (λ f x h. subst P (sym h.4) (f h.0 h.2 h.1 h.3)) (λ f a ha b hb. f (a ⊕ b) (a, b, ha, hb, refl))
          (s.all (λ a. (b : Point) → B b → P (a ⊕ b)) (λ a. t.all (λ b. P (a ⊕ b)) (λ b. d (a ⊕ b))));
      any = λ P d.
          same_dec (λ h. (h.0 ⊕ h.2.0, (h.0, h.2.0, h.1, h.2.1, refl), h.2.2))
          (λ h. (h.1.0, h.1.2, (h.1.1, h.1.3, subst P h.1.4 h.2)))
          (s.any (λ a. (b : Point) × B b × P (a ⊕ b)) (λ a. t.any (λ b. P (a ⊕ b)) (λ b. d (a ⊕ b))));
    }

unfoldable pub fold_searched : (K : PointSet) → Searched K → (n : ℕ) → Searched (fold K n)
fold_searched K s zero = origin_searched
fold_searched K s (suc n) = dilate_searched s (fold_searched K s n)

-- a set moved about can be searched as the set
unfoldable pub moved_searched : {A : PointSet} → Searched A → (c : Point) → Searched (λ b. A (b ⊕ c))
moved_searched {A} s c =
    record {
      all = λ P d.
          same_dec (λ f b h. subst P (⊕-cancel b c) (f (b ⊕ c) h)) (λ f p h. f (p ⊕ neg c) (subst A (sym (⊖_cancel p c)) h))
          (s.all (λ p. P (p ⊕ neg c)) (λ p. d (p ⊕ neg c)));
      any = λ P d.
          same_dec (λ h. (h.0 ⊕ neg c, subst A (sym (⊖_cancel h.0 c)) h.1, h.2))
          (λ h. (h.0 ⊕ c, h.1, subst P (sym (⊕-cancel h.0 c)) h.2))
          (s.any (λ p. P (p ⊕ neg c)) (λ p. d (p ⊕ neg c)));
    }

-- what is decided of A and searched in B decides erosion and dilation
unfoldable pub erode_decided : {A B : PointSet} → Decided A → Searched B → Decided (erode A B)
erode_decided {A} d s x = s.all (λ b. A (x ⊕ b)) (λ b. d (x ⊕ b))

unfoldable pub dilate_decided : {A B : PointSet} → Decided A → Searched B → Decided (dilate A B)
dilate_decided {A} d s x =
    same_dec (λ h. (x ⊕ neg h.0, h.0, h.2, h.1, sym (⊖_cancel x h.0)))
    (λ h. (h.1, h.3, subst A (⊕-move x h.0 h.1 h.4) h.2))
    (s.any (λ b. A (x ⊕ neg b)) (λ b. d (x ⊕ neg b)))

module _ {A K : PointSet} (d : Decided A) (s : Searched K) (n : ℕ) where
  unfoldable pub eroded_decided : Decided (eroded A K n)
  eroded_decided = erode_decided d (fold_searched K s n)

  unfoldable pub dilated_decided : Decided (dilated A K n)
  dilated_decided = dilate_decided d (fold_searched K s n)

  unfoldable pub opened_decided : Decided (opened A K n)
  opened_decided = dilate_decided eroded_decided (fold_searched K s n)

  unfoldable pub closed_decided : Decided (closed A K n)
  closed_decided = erode_decided dilated_decided (fold_searched K s n)

-- sheets and elements can be decided and searched, cell by cell
module _ (width height : ℕ) (cell : ℕ → ℕ → ℕ) where
  unfoldable pub figure_decided : Decided (figure width height cell)
  figure_decided x = go x.row x.col
    where
      test : (r c : ℕ) → Dec (r < height) → Dec (c < width) → Dec (cell r c ≡ 1)
          → Dec (figure width height cell (at (pos r) (pos c)))
      test r c (yes a) (yes b) (yes e) = yes (r, c, a, b, e, refl)
      test r c (yes a) (yes b) (no n) =
          no (λ h. n (ap₂ cell (pos_inj (ap (λ p. p.row) h.5)) (pos_inj (ap (λ p. p.col) h.5)) ∙ h.4))
      test r c (yes a) (no n) e = no (λ h. n (let i = pos_inj (ap (λ p. p.col) h.5) in let l = h.3 in omega arith))
      test r c (no n) b e = no (λ h. n (let i = pos_inj (ap (λ p. p.row) h.5) in let l = h.2 in omega arith))

      go : (r c : ℤ) → Dec (figure width height cell (at r c))
      go (pos r) (pos c) = test r c (dec_lt r height) (dec_lt c width) (ℕ_discrete (cell r c) 1)
      go (pos r) (negsuc c) = no (λ h. pos-ne-negsuc h.1 c (sym (ap (λ p. p.col) h.5)))
      go (negsuc r) c = no (λ h. pos-ne-negsuc h.0 r (sym (ap (λ p. p.row) h.5)))

  unfoldable pub figure_searched : Searched (figure width height cell)
  figure_searched =
      record {
        all = λ P d.
            same_dec (λ f x h. subst P (sym h.5) (f h.0 h.2 h.1 h.3 h.4))
            (λ f r a c b e. f (at (pos r) (pos c)) (r, c, a, b, e, refl))
            (all_below height (λ r. (c : ℕ) → c < width → cell r c ≡ 1 → P (at (pos r) (pos c)))
            (λ r. all_below width (λ c. cell r c ≡ 1 → P (at (pos r) (pos c)))
            (λ c. implies_dec (ℕ_discrete (cell r c) 1) (d (at (pos r) (pos c))))));
        any = λ P d.
            same_dec (λ h. let g = h.2 in (at (pos h.0) (pos g.0), (h.0, g.0, h.1, g.1, g.2.0, refl), g.2.1))
            (λ h. let g = h.1 in (g.0, g.2, (g.1, g.3, (g.4, subst P g.5 h.2))))
            (any_below height (λ r. (c : ℕ) × (c < width) × ((cell r c ≡ 1) × P (at (pos r) (pos c))))
            (λ r. any_below width (λ c. (cell r c ≡ 1) × P (at (pos r) (pos c)))
            (λ c. both_dec (ℕ_discrete (cell r c) 1) (d (at (pos r) (pos c))))));
      }

unfoldable pub frame_decided : (width height : ℕ) → Decided (frame width height)
frame_decided width height x =
    same_dec (λ h. (h.0, h.1, h.2, h.3, h.5)) (λ h. (h.0, h.1, h.2, h.3, refl, h.4))
    (figure_decided width height (λ row col. 1) x)

module _ (width height : ℕ) {A : PointSet} (d : Decided A) where
  unfoldable pub uncropped_decided : Decided (uncropped width height A)
  uncropped_decided x = either_dec (d x) (not_dec (frame_decided width height x))

  unfoldable pub background_decided : Decided (background width height A)
  background_decided x = both_dec (frame_decided width height x) (not_dec (d x))

unfoldable pub element_searched : (side : ℕ) (cell : ℕ → ℕ → ℕ) → Searched (element side cell)
element_searched side cell = moved_searched (figure_searched side side cell) (at (pos (reach side)) (pos (reach side)))
