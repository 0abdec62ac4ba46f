-- The partners that a cell leads to in one row: the columns whose partner is beyond the left edge, those that have one in the
-- row, those whose partner is beyond the right edge.
-- Each of the three stretches is a pass by the partners' levels, and the three join.
use Prim.Native.Nat.{ℕ, ◌+◌, ◌-◌, ◌≤◌, ◌<◌, min}
use native.Mathlib.Nat.{zero-add}
use native.Mathlib.Omega.{arith}
use mathlib.Core.Bool.{true, false}
use mathlib.Core.Logic.{◌⊎◌, inl, inr}
use mathlib.Core.List.{List}
use mathlib.Core.Path.{◌≡◌, sym, ap}
use lib.ListN.{length, get_or}
use borrow.Author.Tests.{lt-ltb, le-ltb, le-leb, lt-leb}
use borrow.Rule.Slice.PartMut.{mid_of, put_mid}
use Rattle.row.specs.RowRule.{more, within}
use Rattle.row.specs.Passes.{Pass, column_at}
use Rattle.row.proofs.Pass.{pass_as, pass_join, pass_part}

pub within_in : (n p : ℕ) → 3 ≤ p → p < n + 3 → within n p ≡ true
unfolding within
within_in n p h k = simp (le-leb _ _ h, lt-ltb _ _ k)

pub within_out : (n p : ℕ) → (p < 3) ⊎ (n + 3 ≤ p) → within n p ≡ false
unfolding within
within_out n p (inl h) = simp (lt-leb _ _ h)
within_out n p (inr h) =
    let k : 3 ≤ p = omega arith in
    simp (le-leb _ _ k, le-ltb _ _ h)

module _ (width from beyond : ℕ) (levels : List ℕ) where
  pub column_in : (x : ℕ) → 3 ≤ x → x < width + 3 → column_at width from beyond levels x ≡ get_or levels (from + (x - 3)) 0
  unfolding column_at
  column_in x h k = rw (within_in width x h k)

  pub column_out : (x : ℕ) → (x < 3) ⊎ (width + 3 ≤ x) → column_at width from beyond levels x ≡ beyond
  unfolding column_at
  column_out x h = rw (within_out width x h)

-- where the three stretches of a row of width columns lie
module _ (width across left right n : ℕ) (l : left ≡ min (3 - across) width) (r : right ≡ min (across - 3) width) where
  whole : n ≡ width - left - right → left + n + right ≡ width
  whole m = omega arith

  over_left : (j : ℕ) → j < left → j + across < 3
  over_left j h = omega arith

  between : left + n + right ≡ width → (j : ℕ) → j < n → left + across ≡ right + 3
  between all j h = omega arith

  over_right : left + n + right ≡ width → (j : ℕ) → j < right → width + 3 ≤ left + n + j + across
  over_right all j h = omega arith

module _ (width from beyond across : ℕ) (levels worked : List ℕ) where
  joined : (left right n : ℕ) (one two three : List ℕ) → left + n + right ≡ width →
      ((j : ℕ) → j < left → j + across < 3) → ((j : ℕ) → j < n → left + across ≡ right + 3)
      → ((j : ℕ) → j < right → width + 3 ≤ left + n + j + across) →
      Pass 0 left (λ j. more beyond) worked one → Pass left n (λ j. more (get_or levels (from + right + j) 0)) one two
      → Pass (left + n) right (λ j. more beyond) two three →
      Pass 0 width (λ col. more (column_at width from beyond levels (col + across))) worked three
  joined left right n one two three all low same high P Q R =
      let f : ℕ → ℕ = λ col. more (column_at width from beyond levels (col + across)) in
      let P' : Pass 0 left f worked one =
      pass_as 0 left worked (λ j. more beyond) f one
      (λ j h. ap more (sym (column_out width from beyond levels (j + across) (inl (low j h))))) P in
      let Q' : Pass left n (λ j. f (left + j)) one two =
      pass_as left n one (λ j. more (get_or levels (from + right + j) 0)) (λ j. f (left + j)) two
      (λ j h.
      let s : left + across ≡ right + 3 = same j h in
      let e : from + right + j ≡ from + (left + j + across - 3) = omega arith in
      ap more (rw e (sym (column_in width from beyond levels (left + j + across) (omega arith) (omega arith)))))
      Q in
      let R' : Pass (left + n) right (λ j. f (left + n + j)) two three =
      pass_as (left + n) right two (λ j. more beyond) (λ j. f (left + n + j)) three
      (λ j h. ap more (sym (column_out width from beyond levels (left + n + j + across) (inr (high j h))))) R in
      let first : ◌≡◌ {A = ℕ} (0 + left) left = zero-add left in
      let second : ◌≡◌ {A = ℕ} (0 + (left + n)) (left + n) = zero-add (left + n) in
      rw all at (pass_join 0 f worked (left + n) right two three (pass_join 0 f worked left n one two P' (rw first Q'))
      (rw second R'))

  pub by_stretches : (left right n : ℕ) (one two three : List ℕ) → left ≡ min (3 - across) width → right ≡ min (across - 3) width
      → n ≡ width - left - right →
      Pass 0 left (λ j. more beyond) worked one → Pass left n (λ j. more (get_or levels (from + right + j) 0)) one two
      → Pass (left + n) right (λ j. more beyond) two three →
      Pass 0 width (λ col. more (column_at width from beyond levels (col + across))) worked three
  by_stretches left right n one two three l r m P Q R =
      let all : left + n + right ≡ width = whole width across left right n l r m in
      joined left right n one two three all (over_left width across left right n l r) (between width across left right n l r all)
      (over_right width across left right n l r all) P Q R

-- the same, where each stretch is lent in turn, and the row with the partners beside it
module _ (worked partners : List ℕ) (across beyond left right : ℕ) (same : length partners ≡ length worked)
    (l : left ≡ min (3 - across) (length worked)) (r : right ≡ min (across - 3) (length worked)) where
  -- the columns whose partner is in the row
  abbrev n : ℕ
  n = length worked - right - left

  pub by_slices : (one two three : List ℕ) → Pass 0 (length (mid_of 0 left worked)) (λ j. more beyond) (mid_of 0 left worked) one →
      (first : List ℕ) → first ≡ put_mid 0 left worked one →
      Pass 0 (length (mid_of left n first)) (λ j. more (get_or partners (right + j) 0))
      (mid_of left n first) two →
      (second : List ℕ) → second ≡ put_mid left n first two →
      (k : ℕ) → k ≡ length second - (length worked - right) →
      Pass 0 (length (mid_of (length worked - right) k second)) (λ j. more beyond) (mid_of (length worked - right) k second) three →
      Pass 0 (length worked) (λ col. more (column_at (length worked) 0 beyond partners (col + across))) worked
      (put_mid (length worked - right) k second three)
  by_slices one two three P first f Q second s k e R =
      let A : Pass 0 left (λ j. more beyond) worked first = rw f (pass_part 0 left _ worked one (omega arith) P) in
      let B : Pass left n (λ j. more (get_or partners (right + j) 0)) first second =
      rw s (pass_part left n _ first two (omega (arith, A.size)) Q) in
      let C : Pass (length worked - right) k (λ j. more beyond) second (put_mid (length worked - right) k second three) =
      pass_part (length worked - right) k _ second three (omega (arith, A.size, B.size)) R in
      by_stretches (length worked) 0 beyond across partners worked left right n first second _ l r (omega arith) A
      (rw zero-add B)
      (moved (omega arith) (omega (arith, A.size, B.size)) C)
    where
      moved : {at at' m m' : ℕ} {levels after : List ℕ} → at ≡ at' → m ≡ m' → Pass at m (λ j. more beyond) levels after
          → Pass at' m' (λ j. more beyond) levels after
      moved p q S = rw (← p, ← q) S
