-- Laws of digits. All of `digits` goes by two equations, for n below 10 and from 10 on, and one induction: from n / 10 to n.
use Prim.Native.Nat.{ℕ, zero, suc, ◌+◌, ◌-◌, ◌*◌, ◌/◌, ◌%◌, ◌^◌, ◌≤◌, ◌<◌, min}
use native.Mathlib.Nat.{pow-succ'}
use native.Mathlib.Decide.{dec_lt}
use native.Mathlib.Omega.{arith}
use mathlib.Core.Path.{◌≡◌, refl, sym, ap, ◌∙◌}
use mathlib.Core.Bool.{Bool, true, false, ◌&&◌, false≢true}
use mathlib.Core.Logic.{◌≢◌}
use mathlib.Core.List.{List, [], ◌∷◌, ◌++◌}
use lib.Dec.{leb}
use lib.ListN.{length, get_or, take, drop, length-append, get_or-append}
use lib.Seq.{drop_at, length-take-le}
use borrow.Author.Tests.{lt-ltb, le-ltb, leb-true, le-leb, lt-leb}
use Rattle.decimal.specs.Numbers.{is_digit, digits_only, value_from, value, digits_in, digits, digit_run, written}

-- the steps do not matter, as long as there are n
steps_same : (a b n : ℕ) → n ≤ a → n ≤ b → digits_in a n ≡ digits_in b n
unfolding digits_in
steps_same zero zero n l h = refl
steps_same zero (suc b) n l h = rw (lt-ltb n 10 (omega arith)) (let z : n ≡ 0 = omega arith in rw z)
steps_same (suc a) zero n l h = rw (lt-ltb n 10 (omega arith)) (let z : n ≡ 0 = omega arith in rw z)
steps_same (suc a) (suc b) n l h = go (dec_lt n 10) (steps_same a b (n / 10))
  where
    go : Dec (n < 10) → (n / 10 ≤ a → n / 10 ≤ b → digits_in a (n / 10) ≡ digits_in b (n / 10))
        → digits_in (suc a) n ≡ digits_in (suc b) n
    go (yes s) ih = rw (lt-ltb n 10 s)
    go (no s) ih = rw (le-ltb n 10 (omega arith), ih (omega arith) (omega arith))

-- the two equations
pub digits_one : (n : ℕ) → n < 10 → digits n ≡ (48 + n) ∷ []
unfolding digits digits_in
digits_one zero l = refl
digits_one (suc n) l = rw (lt-ltb (suc n) 10 l)

pub digits_more : (n : ℕ) → 10 ≤ n → digits n ≡ digits (n / 10) ++ ((48 + n % 10) ∷ [])
unfolding digits digits_in
digits_more zero l = absurd (omega arith)
digits_more (suc n) l = rw (le-ltb (suc n) 10 l, steps_same n (suc n / 10) (suc n / 10) (omega arith) (omega arith))

-- the induction
pub by_tens : (P : ℕ → Type 0) → ((n : ℕ) → n < 10 → P n) → ((n : ℕ) → 10 ≤ n → P (n / 10) → P n) → (n : ℕ) → P n
by_tens P one more n = go n n (omega arith)
  where
    go : (steps n : ℕ) → n ≤ steps → P n
    go zero n l = one n (omega arith)
    go (suc steps) n l = pick (dec_lt n 10) (go steps (n / 10))
      where
        pick : Dec (n < 10) → (n / 10 ≤ steps → P (n / 10)) → P n
        pick (yes s) ih = one n s
        pick (no s) ih = more n (omega arith) (ih (omega arith))

-- what a digit is
module _ (byte : ℕ) where
  pub digit_low : byte < 48 → false ≡ is_digit byte
  unfolding is_digit
  digit_low l = rw (lt-leb 48 byte l)

  pub digit_high : 48 ≤ byte → leb byte 57 ≡ is_digit byte
  unfolding is_digit
  digit_high l = rw (le-leb 48 byte l)

  pub digit_in : 48 ≤ byte → byte ≤ 57 → is_digit byte ≡ true
  digit_in l h = sym (digit_high l) ∙ le-leb byte 57 h

  pub digit_bounds : is_digit byte ≡ true → (48 ≤ byte) × (byte ≤ 57)
  digit_bounds e = go (dec_lt byte 48)
    where
      go : Dec (byte < 48) → (48 ≤ byte) × (byte ≤ 57)
      go (yes l) = absurd (false≢true (digit_low l ∙ e))
      go (no l) = let h : 48 ≤ byte = omega arith in (h, leb-true byte 57 (digit_high h ∙ e))

-- rows of digits
both : (a b : Bool) → a && b ≡ true → (a ≡ true) × (b ≡ true)
both true b e = (refl, e)
both false b e = absurd (false≢true e)

all_append : (xs ys : List ℕ) → digits_only xs ≡ true → digits_only ys ≡ true → digits_only (xs ++ ys) ≡ true
unfolding digits_only
all_append [] ys e f = f
all_append (byte ∷ xs) ys e f = let p = both (is_digit byte) (digits_only xs) e in rw p.0 (all_append xs ys p.1 f)

all_at : (row : List ℕ) (i : ℕ) → digits_only row ≡ true → i < length row → is_digit (get_or row i 0) ≡ true
unfolding digits_only
all_at [] i e l = absurd (omega arith)
all_at (byte ∷ row) zero e l = (both (is_digit byte) (digits_only row) e).0
all_at (byte ∷ row) (suc i) e l = all_at row i (both (is_digit byte) (digits_only row) e).1 (omega arith)

pub value_append : (before : ℕ) (xs ys : List ℕ) → value_from before (xs ++ ys) ≡ value_from (value_from before xs) ys
unfolding value_from
value_append before [] ys = refl
value_append before (byte ∷ xs) ys = value_append (before * 10 + (byte - 48)) xs ys

-- THE LAWS OF THE DIGITS OF A NUMBER: they mean it, they are digits, at least one, and no
-- zero stands in front of a number above 0
pub value_digits : (n : ℕ) → value (digits n) ≡ n
unfolding value_from
value_digits = by_tens (λ n. value (digits n) ≡ n) one more
  where
    one : (n : ℕ) → n < 10 → value (digits n) ≡ n
    one n l = rw (digits_one n l) (omega arith)

    more : (n : ℕ) → 10 ≤ n → value (digits (n / 10)) ≡ n / 10 → value (digits n) ≡ n
    more n l ih = rw (digits_more n l, value_append, ih) (omega arith)

pub digits_all : (n : ℕ) → digits_only (digits n) ≡ true
unfolding digits_only
digits_all = by_tens (λ n. digits_only (digits n) ≡ true) one more
  where
    one : (n : ℕ) → n < 10 → digits_only (digits n) ≡ true
    one n l = rw (digits_one n l, digit_in (48 + n) (omega arith) (omega arith))

    more : (n : ℕ) → 10 ≤ n → digits_only (digits (n / 10)) ≡ true → digits_only (digits n) ≡ true
    more n l ih = rw (digits_more n l)
        (all_append (digits (n / 10)) ((48 + n % 10) ∷ []) ih (rw (digit_in (48 + n % 10) (omega arith) (omega arith))))

pub digits_digit : (n i : ℕ) → i < length (digits n) → is_digit (get_or (digits n) i 0) ≡ true
digits_digit n i l = all_at (digits n) i (digits_all n) l

pub length_one : (n : ℕ) → n < 10 → length (digits n) ≡ 1
length_one n l = rw (digits_one n l)

pub length_more : (n : ℕ) → 10 ≤ n → length (digits n) ≡ length (digits (n / 10)) + 1
length_more n l = rw (digits_more n l, length-append)

pub digits_some : (n : ℕ) → 0 < length (digits n)
digits_some n = go (dec_lt n 10)
  where
    go : Dec (n < 10) → 0 < length (digits n)
    go (yes l) = let e = length_one n l in omega arith
    go (no l) = let e = length_more n (omega arith) in omega arith

pub digits_front : (n : ℕ) → 0 < n → get_or (digits n) 0 0 ≢ 48
digits_front = by_tens (λ n. 0 < n → get_or (digits n) 0 0 ≢ 48) one more
  where
    one : (n : ℕ) → n < 10 → 0 < n → get_or (digits n) 0 0 ≢ 48
    one n l p = rw (digits_one n l) (λ e. omega arith)

    more : (n : ℕ) → 10 ≤ n → (0 < n / 10 → get_or (digits (n / 10)) 0 0 ≢ 48) → 0 < n → get_or (digits n) 0 0 ≢ 48
    more n l ih p =
        rw (digits_more n l, get_or-append (digits (n / 10)) ((48 + n % 10) ∷ []) 0 0 (digits_some (n / 10))) (ih (omega arith))

-- a number below 10 ^ k has at most k digits
pub length_below : (k n : ℕ) → 0 < k → n < 10 ^ k → length (digits n) ≤ k
length_below zero n p l = absurd (omega arith)
length_below (suc zero) n p l = let e = length_one n l in omega arith
length_below (suc (suc k)) n p l = go (dec_lt n 10) (length_below (suc k) (n / 10) (omega arith))
  where
    go : Dec (n < 10) → (n / 10 < 10 ^ suc k → length (digits (n / 10)) ≤ suc k) → length (digits n) ≤ suc (suc k)
    go (yes s) ih = let e = length_one n s in omega arith
    go (no s) ih =
        let q : n < 10 * 10 ^ suc k = rw pow-succ' at l in
        let h = ih (omega arith) in
        let e = length_more n (omega arith) in
        omega arith

-- the run at the front of a list ends where the list does, and at a byte that is no digit
pub run_end : digit_run [] ≡ []
unfolding digit_run
run_end = refl

pub run_stops : (byte : ℕ) (rest : List ℕ) → is_digit byte ≡ false → digit_run (byte ∷ rest) ≡ []
unfolding digit_run
run_stops byte rest e = rw e

pub run_more : (byte : ℕ) (rest : List ℕ) → is_digit byte ≡ true → digit_run (byte ∷ rest) ≡ byte ∷ digit_run rest
unfolding digit_run
run_more byte rest e = rw e

pub run_append : (row rest : List ℕ) → digits_only row ≡ true → digit_run rest ≡ [] → digit_run (row ++ rest) ≡ row
unfolding digits_only digit_run
run_append [] rest e s = s
run_append (byte ∷ row) rest e s = let p = both (is_digit byte) (digits_only row) e in rw (p.0, run_append row rest p.1 s)

pub run_digits : (n : ℕ) (rest : List ℕ) → digit_run rest ≡ [] → digit_run (digits n ++ rest) ≡ digits n
run_digits n rest s = run_append (digits n) rest (digits_all n) s

-- what was written stands in the buffer, and the rest of it is as it was
module _ (n at : ℕ) (buffer : List ℕ) (fits : at + length (digits n) ≤ length buffer) where
  before_length : length (take at buffer) ≡ at
  before_length = length-take-le at buffer (omega arith)

  pub written_from : drop at (written n at buffer) ≡ digits n ++ drop (at + length (digits n)) buffer
  written_from = drop_at (take at buffer) (digits n ++ drop (at + length (digits n)) buffer) at before_length

  -- THE ROUND TRIP: where a number was written, and the list ends or goes on with no digit, its digits are read, it is their
  -- value, and the place after them is the place after the number
  module _ (stops : digit_run (drop (at + length (digits n)) buffer) ≡ []) where
    pub round_trip_run : digit_run (drop at (written n at buffer)) ≡ digits n
    round_trip_run = ap digit_run written_from ∙ run_digits n (drop (at + length (digits n)) buffer) stops

    pub round_trip_value : (limit : ℕ) → n ≤ limit → min (value (digit_run (drop at (written n at buffer)))) limit ≡ n
    round_trip_value limit l = let e = ap value round_trip_run ∙ value_digits n in omega arith

    pub round_trip_next : at + length (digit_run (drop at (written n at buffer))) ≡ at + length (digits n)
    round_trip_next = ap (λ row. at + length row) round_trip_run
