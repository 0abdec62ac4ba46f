-- What counting, writing and reading rest on: the digits of n are as many as the power of ten below it says; written from the last
-- on, those of what is left stand before those written; and what was read is the value of the run so far, or the limit.
use Prim.Native.Nat.{ℕ, zero, suc, ◌+◌, ◌-◌, ◌*◌, ◌/◌, ◌%◌, ◌^◌, ◌≤◌, ◌<◌, min}
use native.Mathlib.Nat.{pow-succ', one-le-pow}
use native.Mathlib.Decide.{dec_lt}
use native.Mathlib.Omega.{arith}
use mathlib.Core.Path.{◌≡◌, refl, sym, ap, ◌∙◌}
use mathlib.Core.Bool.{cond}
use mathlib.Core.List.{List, [], ◌∷◌, ◌++◌, append_assoc}
use lib.ListN.{length, get_or, take, drop, set, length-set}
use lib.Seq.{drop-cons, drop-set-lt, get_or-set_same}
use Rattle.std.proofs.lemmas.List.{take_more}
use Rattle.std.proofs.lemmas.List.Folds.{length-prefix_len}
use Rattle.std.proofs.lemmas.List.Sums.{take_while-cons}
use Rattle.std.specs.Char.{is_ascii_digit}
use Rattle.std.specs.List.{prefix_len}
use Rattle.std.proofs.Common.{Option, None, Some, IfNone, IfSome, unwrap_or}
use Rattle.decimal.specs.Numbers.{is_digit, value_from, value, digits, digit_run, written}
use Rattle.decimal.proofs.NumberLaws.{by_tens, digits_one, digits_more, length_one, length_more, digits_some, value_append}

-- counting
length_between : (k n : ℕ) → 10 ^ k ≤ n → n < 10 * 10 ^ k → length (digits n) ≡ k + 1
length_between zero n low high = length_one n (omega arith)
length_between (suc k) n low high =
    let e : 10 ^ suc k ≡ 10 * 10 ^ k = pow-succ' 10 k in
    let p : 1 ≤ 10 ^ k = one-le-pow k 10 (omega arith) in
    let m = length_more n (omega arith) in
    let ih = length_between k (n / 10) (omega arith) (omega arith) in
    omega arith

pub count_is : (n : ℕ) (power : Option ℕ) → IfNone power (n ≡ 0) → IfSome power (λ k. 10 ^ k ≤ n)
    → IfSome power (λ k. n < 10 * 10 ^ k) → unwrap_or power 0 + 1 ≡ length (digits n)
count_is n None none low high = let m = length_one n (omega arith) in omega arith
count_is n (Some k) none low high = let m = length_between k n low high in omega arith

-- writing: the last k digits of a number
unfoldable pub last_digits : ℕ → ℕ → List ℕ
last_digits zero n = []
last_digits (suc k) n = last_digits k (n / 10) ++ ((48 + n % 10) ∷ [])

last_all : (n : ℕ) → last_digits (length (digits n)) n ≡ digits n
unfolding last_digits
last_all = by_tens (λ n. last_digits (length (digits n)) n ≡ digits n) one more
  where
    one : (n : ℕ) → n < 10 → last_digits (length (digits n)) n ≡ digits n
    one n l = let e : n % 10 ≡ n = omega arith in rw (length_one n l, digits_one n l, e)

    more : (n : ℕ) → 10 ≤ n → last_digits (length (digits (n / 10))) (n / 10) ≡ digits (n / 10)
        → last_digits (length (digits n)) n ≡ digits n
    more n l ih =
        let e : length (digits n) ≡ suc (length (digits (n / 10))) = let m = length_more n l in omega arith in
        rw e (ap (λ row. row ++ ((48 + n % 10) ∷ [])) ih ∙ sym (digits_more n l))

-- what is written stands from i on, and with the digits before it of what is left it makes the whole
abbrev pub Writing : ℕ → List ℕ → ℕ → ℕ → List ℕ → Type 0
Writing n buffer left i out = last_digits i left ++ drop i out ≡ digits n ++ drop (length (digits n)) buffer

drop-set : (out : List ℕ) (j v : ℕ) → j < length out → drop j (set out j v) ≡ v ∷ drop (suc j) out
drop-set out j v l =
    let q : j < length (set out j v) = let s = length-set out j v in omega arith in
    drop-cons (set out j v) j 0 q ∙ rw (get_or-set_same out j v 0 l, drop-set-lt (suc j) out j v (omega arith))

pub writing_start : (n : ℕ) (buffer : List ℕ) (i : ℕ) → i ≡ length (digits n) → Writing n buffer n i buffer
writing_start n buffer i e = rw (e, last_all n)

pub writing_turn : (n : ℕ) (buffer : List ℕ) (left i : ℕ) (out : List ℕ) → Writing n buffer left i out → 0 < i → i ≤ length out
    → (byte : ℕ) → byte ≡ 48 + left % 10 → Writing n buffer (left / 10) (i - 1) (set out (i - 1) byte)
unfolding last_digits
writing_turn n buffer left i out h l m byte e =
    let j = i - 1 in
    let q : suc j ≡ i = omega arith in
    let d : drop j (set out j byte) ≡ (48 + left % 10) ∷ drop i out = drop-set out j byte (omega arith) ∙ rw (q, e) in
    ap (λ tail. last_digits j (left / 10) ++ tail) d
    ∙ sym (append_assoc (last_digits j (left / 10)) ((48 + left % 10) ∷ []) (drop i out))
    ∙ ap (λ k. last_digits k left ++ drop i out) q
    ∙ h

pub writing_end : (n : ℕ) (buffer : List ℕ) (left i : ℕ) (out : List ℕ) → Writing n buffer left i out → i ≤ 0
    → out ≡ written n 0 buffer
unfolding last_digits
writing_end n buffer left i out h l =
    let e : i ≡ 0 = omega arith in
    rw e at h ∙ ap (λ k. digits n ++ drop k buffer) (let z : length (digits n) ≡ 0 + length (digits n) = omega arith in z)

-- as many digits are left as there are places before i
pub record Left (n : ℕ) (buffer : List ℕ) (left i : ℕ) (out : List ℕ) : Type 0 where
  pub places : i ≡ length (digits left)
  pub whole : Writing n buffer left i out

pub left_start : (n : ℕ) (buffer : List ℕ) (i : ℕ) → i ≡ length (digits n) → Left n buffer n i buffer
left_start n buffer i e = record { places = e; whole = writing_start n buffer i e }

module _ {n : ℕ} {buffer : List ℕ} {left i : ℕ} {out : List ℕ} (h : Left n buffer left i out) where
  left_more : 1 < i → Dec (left < 10) → 10 ≤ left
  left_more l (yes a) = let one = length_one left a in let e = h.places in absurd (omega arith)
  left_more l (no a) = omega arith

  pub left_turn : 1 < i → i ≤ length out → (byte : ℕ) → byte ≡ 48 + left % 10
      → Left n buffer (left / 10) (i - 1) (set out (i - 1) byte)
  left_turn l m byte e =
      let more = length_more left (left_more l (dec_lt left 10)) in
      let p = h.places in
      record { places = omega arith; whole = writing_turn n buffer left i out h.whole (omega arith) m byte e }

  -- the first digit is what is left
  left_one : i ≤ 1 → Dec (left < 10) → left < 10
  left_one l (yes a) = a
  left_one l (no a) =
      let more = length_more left (omega arith) in
      let some = digits_some (left / 10) in
      let e = h.places in
      absurd (omega arith)

  pub left_digit : i ≤ 1 → left < 10
  left_digit l = left_one l (dec_lt left 10)

  pub left_end : i ≤ 1 → 0 < length out → (byte : ℕ) → byte ≡ 48 + left → set out 0 byte ≡ written n 0 buffer
  left_end l room byte e =
      let small = left_digit l in
      let some = digits_some left in
      let p = h.places in
      let first : 0 ≡ i - 1 = omega arith in
      let digit : byte ≡ 48 + left % 10 = omega arith in
      ap (λ k. set out k byte) first
      ∙ writing_end n buffer (left / 10) (i - 1) (set out (i - 1) byte)
      (writing_turn n buffer left i out h.whole (omega arith) (omega arith) byte digit) (omega arith)

-- reading: the bytes up to the first that is no digit are the run
taken_is : (row : List ℕ) → take (prefix_len is_ascii_digit row) row ≡ digit_run row
unfolding digit_run is_digit
taken_is [] = refl
taken_is (byte ∷ row) = take_while-cons is_ascii_digit byte row ∙ ap (λ r. cond (is_digit byte) (byte ∷ r) []) (taken_is row)

pub run_counted : (row : List ℕ) (count : ℕ) → count ≡ length (take (prefix_len is_ascii_digit row) row)
    → (count ≡ length (digit_run row)) × (take count row ≡ digit_run row)
run_counted row count e = (
  e ∙ ap length (taken_is row),
  ap (λ n. take n row) (e ∙ length-prefix_len is_ascii_digit row) ∙ taken_is row,
)

-- a number above the limit stays above it
pub value_turn : (row : List ℕ) (i limit sum : ℕ) → i < length row → sum ≡ min (value (take i row)) limit
    → min (sum * 10 + (get_or row i 0 - 48)) limit ≡ min (value (take (i + 1) row)) limit
unfolding value_from
value_turn row i limit sum l e = rw (take_more row i 0 l, value_append 0 (take i row) (get_or row i 0 ∷ [])) (omega arith)
