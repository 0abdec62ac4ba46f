-- Texts written one after the other make one text: each is written to the front of what the one before left of the buffer.
use Prim.Native.Nat.{ℕ, ◌+◌, ◌-◌, ◌≤◌, ◌<◌}
use native.Mathlib.Numerals.{add-one}
use native.Mathlib.Omega.{arith}
use mathlib.Core.Path.{◌≡◌, refl, sym, ap, ap₂, ◌∙◌}
use mathlib.Core.List.{List, [], ◌∷◌, ◌++◌, append-nil, append_assoc}
use lib.ListN.{length, take, drop, set, length-append, length-drop, drop_of_length-le}
use lib.Seq.{take_all, drop_at, drop-drop, take-append_seam, set_split}
use borrow.Rule.Slice.PartMut.{put_mid}
use Rattle.decimal.specs.Numbers.{digits, written}
use Rattle.text.specs.Writing.{begun, Wrote}

module _ (text buffer : List ℕ) where
  pub length_begun : length text ≤ length buffer → length (begun text buffer) ≡ length buffer
  unfolding begun
  length_begun l = let e = length-append text (drop (length text) buffer) in let d = length-drop (length text) buffer in
      omega arith

  pub take_begun : take (length text) (begun text buffer) ≡ text
  unfolding begun
  take_begun = take-append_seam text (drop (length text) buffer)

  drop_begun : drop (length text) (begun text buffer) ≡ drop (length text) buffer
  unfolding begun
  drop_begun = drop_at text (drop (length text) buffer) (length text) refl

  -- a text at the front of what the first left
  begun_twice : (more : List ℕ) → text ++ begun more (drop (length text) buffer) ≡ begun (text ++ more) buffer
  unfolding begun
  begun_twice more =
      let same : length text + length more ≡ length (text ++ more) = sym (length-append text more) in
      sym (append_assoc text more (drop (length more) (drop (length text) buffer)))
      ∙ ap (λ rest. (text ++ more) ++ rest)
      (drop-drop (length more) (length text) buffer ∙ ap (λ n. drop n buffer) same)

-- what is lent as `[at..]` is the list from there on
pub part_is : (at : ℕ) (xs : List ℕ) → take (length xs - at) (drop at xs) ≡ drop at xs
part_is at xs = let d = length-drop at xs in take_all (length xs - at) (drop at xs) (omega arith)

-- when it is back, the list ends with it
part_back : (at : ℕ) (xs part : List ℕ) → put_mid at (length xs - at) xs part ≡ take at xs ++ part
part_back at xs part =
    let d = length-drop at xs in
    let none : drop (length xs - at) (drop at xs) ≡ [] = drop_of_length-le (drop at xs)
    (let l : length (drop at xs) ≤ length xs - at = omega arith in l) in
    rw (none, append-nil part)

-- what stands, and what is left after it
wrote_front : (xs a b : List ℕ) (m : ℕ) → Wrote xs a b m → (take m b ≡ xs) × (drop m b ≡ drop (length xs) a)
wrote_front xs a b m p = (ap₂ take p.0 p.1 ∙ take_begun xs a, ap₂ drop p.0 p.1 ∙ drop_begun xs a)

-- one text after the other
pub wrote_both : (xs ys : List ℕ) (a b part : List ℕ) (m n : ℕ) → Wrote xs a b m → Wrote ys (take (length b - m) (drop m b)) part n
    → Wrote (xs ++ ys) a (put_mid m (length b - m) b part) (m + n)
wrote_both xs ys a b part m n p q =
    let s = length-append xs ys in
    let e = p.0 in
    let f = q.0 in
    let g = wrote_front xs a b m p in (
      omega arith,
      part_back m b part ∙ ap₂ (λ x y. x ++ y) g.0 (q.1 ∙ ap (begun ys) (part_is m b ∙ g.1)) ∙ begun_twice xs a ys,
    )

-- and a single byte
pub wrote_byte : (xs : List ℕ) (byte : ℕ) (a b : List ℕ) (m : ℕ) → Wrote xs a b m → m < length b
    → Wrote (xs ++ (byte ∷ [])) a (set b m byte) (m + 1)
unfolding begun
wrote_byte xs byte a b m p l =
    let s = length-append xs (byte ∷ []) in
    let e = p.0 in
    let g = wrote_front xs a b m p in (
      omega arith,
      set_split b m byte l
          ∙ ap₂ (λ x y. x ++ (byte ∷ y)) g.0 (ap (λ n. drop n b) (sym (add-one m)) ∙ sym (drop-drop 1 m b) ∙ ap (drop 1) g.1)
          ∙ begun_twice xs a (byte ∷ []),
    )

-- where there is room for two texts, there is room for the first, and after it for the second
module _ (xs ys : List ℕ) (a : List ℕ) (fits : length (xs ++ ys) ≤ length a) where
  pub room_first : length xs ≤ length a
  room_first = let s = length-append xs ys in omega arith

  pub room_second : (b : List ℕ) (m : ℕ) → Wrote xs a b m → length ys ≤ length (take (length b - m) (drop m b))
  room_second b m p =
      let s = length-append xs ys in
      let e = p.0 in
      let l = ap length p.1 ∙ length_begun xs a room_first in
      let r = ap length (part_is m b) ∙ length-drop m b in
      omega arith

-- what is left begins within the buffer
pub wrote_within : (text a b : List ℕ) (n : ℕ) → length text ≤ length a → Wrote text a b n → n ≤ length b
wrote_within text a b n fits p = let e = p.0 in let l = ap length p.1 ∙ length_begun text a fits in omega arith

-- nothing yet
pub wrote_none : (a : List ℕ) → Wrote [] a a 0
unfolding begun
wrote_none a = (refl, refl)

-- a number, by decimal's contract
pub wrote_number : (n : ℕ) (a b : List ℕ) (size : ℕ) → (size ≡ length (digits n)) × (b ≡ written n 0 a) → Wrote (digits n) a b size
unfolding begun
wrote_number n a b size e =
    (e.0, e.1 ∙ ap (λ k. digits n ++ drop k a) (let z : 0 + length (digits n) ≡ length (digits n) = omega arith in z))

-- the same text written otherwise
pub wrote_as : (xs ys a b : List ℕ) (n : ℕ) → xs ≡ ys → Wrote xs a b n → Wrote ys a b n
wrote_as xs ys a b n e p = rw (← e) p

-- a byte stored before a text
pub wrote_before : (byte : ℕ) (text a part : List ℕ) (n : ℕ) → 0 < length a → Wrote text (take (length a - 1) (drop 1 a)) part n
    → Wrote (byte ∷ text) a (set (put_mid 1 (length a - 1) a part) 0 byte) (1 + n)
unfolding begun
wrote_before byte text [] part n l p = absurd (omega arith)
wrote_before byte text (x ∷ rest) part n l p =
    let e = p.0 in (
      omega arith,
      ap (λ whole. set whole 0 byte) (part_back 1 (x ∷ rest) part)
          ∙ ap (λ tail. byte ∷ tail) (p.1 ∙ ap (begun text) (part_is 1 (x ∷ rest))),
    )
