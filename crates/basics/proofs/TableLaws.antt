-- Laws of tables, and of buffers that a loop fills from the front, one store a turn.
use Prim.Native.Nat.{ℕ, zero, suc, ◌+◌, ◌*◌, ◌/◌, ◌%◌, ◌≤◌, ◌<◌}
use native.Mathlib.Nat.{le_of_eq}
use native.Mathlib.Numerals.{add-one}
use native.Mathlib.Decide.{ℕ_discrete}
use native.Mathlib.Omega.{arith}
use mathlib.Core.List.{List, [], ◌∷◌, ◌++◌, append_assoc}
use mathlib.Core.Path.{◌≡◌, refl, sym, ap, ap₂, ◌∙◌}
use lib.ListN.{length, get_or, take, drop, set, length-set, length-append, length-drop, get_or-append}
use lib.Seq.{take-suc-set, take_all, get_or_at, drop-cons, set_at, ext_get_or}
use Rattle.basics.specs.Tables.{table, raster, filled}
use Rattle.basics.proofs.Arithmetic.{row_of, column_of, row_below, column_below, entry_of, entry_below}

module _ {A : Type 0} (f : ℕ → A) where
  pub length-table : (n : ℕ) → length (table n f) ≡ n
  unfolding table
  length-table zero = refl
  length-table (suc n) = length-append (table n f) (f n ∷ []) ∙ ap (λ m. m + 1) (length-table n) ∙ add-one n

  pub get_or-table : (n k : ℕ) (d : A) → k < n → get_or (table n f) k d ≡ f k
  unfolding table
  get_or-table zero k d l = absurd (omega arith)
  get_or-table (suc n) k d l = go (ℕ_discrete k n) (get_or-table n k d)
    where
      go : Dec (k ≡ n) → (k < n → get_or (table n f) k d ≡ f k) → get_or (table n f ++ (f n ∷ [])) k d ≡ f k
      go (yes e) ih = rw e (get_or_at (table n f) (f n) [] d n (length-table n))
      go (no m) ih = let s = length-table n in get_or-append (table n f) (f n ∷ []) d k (omega arith) ∙ ih (omega arith)

  -- a list with f's entries is f's table
  pub table_is : (n : ℕ) (d : A) (l : List A) → length l ≡ n → ((k : ℕ) → k < n → get_or l k d ≡ f k) → l ≡ table n f
  table_is n d l s h = ext_get_or d l (table n f) (s ∙ sym (length-table n))
      (λ k b. h k (omega arith) ∙ sym (get_or-table n k d (omega arith)))

  -- a loop that fills a buffer: no turn yet, one turn more, all of it
  pub filled_none : (buffer : List A) → filled 0 f buffer ≡ buffer
  unfolding filled table
  filled_none buffer = refl

  pub filled_more : (i : ℕ) (buffer now : List A) (v : A) → i < length buffer → now ≡ filled i f buffer → v ≡ f i
      → set now i v ≡ filled (i + 1) f buffer
  unfolding filled table
  filled_more i buffer now v l e q =
      rw (e, q, drop-cons buffer i v l)
      (set_at (table i f) (get_or buffer i v) (drop (suc i) buffer) (f i) i (length-table i)
      ∙ sym (append_assoc (table i f) (f i ∷ []) (drop (suc i) buffer)) ∙ ap (λ n. table n f ++ drop n buffer) (sym (add-one i)))

  pub length-filled : (n : ℕ) (buffer : List A) → n ≤ length buffer → length (filled n f buffer) ≡ length buffer
  unfolding filled
  length-filled n buffer l = let e = length-append (table n f) (drop n buffer) in let t = length-table n in
      let d = length-drop n buffer in omega arith

-- a loop that fills a whole array of n entries: the first i are f's
pub record Filling {A : Type 0} (n : ℕ) (f : ℕ → A) (i : ℕ) (out : List A) : Type 0 where
  pub below : i ≤ n
  pub size : length out ≡ n
  pub front : take i out ≡ table i f

module _ {A : Type 0} (n : ℕ) (f : ℕ → A) where
  pub filling_start : (out : List A) → length out ≡ n → Filling n f 0 out
  unfolding table
  filling_start out s = record { below = omega arith; size = s; front = refl }

  pub filling_turn : (i : ℕ) (out : List A) (v : A) → Filling n f i out → i < n → v ≡ f i → Filling n f (i + 1) (set out i v)
  unfolding table
  filling_turn i out v h l e =
      let s = h.size in
      record {
        below = omega arith;
        size = length-set out i v ∙ s;
        front = rw (add-one, take-suc-set out i v (let q : i < length out = omega arith in q), h.front, e);
      }

  pub filling_end : (i : ℕ) (out : List A) → Filling n f i out → n ≤ i → out ≡ table n f
  filling_end i out h l =
      let b = h.below in
      let e : i ≡ n = omega arith in
      sym (take_all n out (le_of_eq h.size)) ∙ (rw e at h.front)

-- two tables are the same where their entries are
pub table_same : {A : Type 0} (f g : ℕ → A) (n : ℕ) → ((k : ℕ) → k < n → f k ≡ g k) → table n f ≡ table n g
unfolding table
table_same f g zero h = refl
table_same f g (suc n) h = ap₂ (λ l a. l ++ (a ∷ [])) (table_same f g n (λ k l. h k (omega arith))) (h n (omega arith))

module _ {A : Type 0} (w h : ℕ) (f : ℕ → ℕ → A) where
  pub length-raster : length (raster w h f) ≡ h * w
  unfolding raster
  length-raster = length-table (λ k. f (k / w) (k % w)) (h * w)

  pub get_or-raster : (i j : ℕ) (d : A) → i < h → j < w → get_or (raster w h f) (i * w + j) d ≡ f i j
  unfolding raster
  get_or-raster i j d a b =
      get_or-table (λ k. f (k / w) (k % w)) (h * w) (i * w + j) d (entry_below w h i j a b) ∙ rw (row_of w i j b, column_of w i j b)

  -- a list with these entries, row by row, is the raster
  pub raster_is : (d : A) (l : List A) → length l ≡ h * w → ((i j : ℕ) → i < h → j < w → get_or l (i * w + j) d ≡ f i j)
      → l ≡ raster w h f
  unfolding raster
  raster_is d l s e =
      table_is (λ k. f (k / w) (k % w)) (h * w) d l s
      (λ k b. ap (λ n. get_or l n d) (sym (entry_of w k)) ∙ e (k / w) (k % w) (row_below w h k b) (column_below w h k b))

pub raster_same : {A : Type 0} (w h : ℕ) (f g : ℕ → ℕ → A) → ((i j : ℕ) → i < h → j < w → f i j ≡ g i j)
    → raster w h f ≡ raster w h g
unfolding raster
raster_same w h f g e =
    table_same (λ k. f (k / w) (k % w)) (λ k. g (k / w) (k % w)) (h * w)
    (λ k l. e (k / w) (k % w) (row_below w h k l) (column_below w h k l))
