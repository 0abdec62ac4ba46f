-- A packed byte is the sum of eight bits by their weights, so it is known where its eight bits are; and it is their binary
-- number, so it may be formed bit by bit.
use Prim.Native.Nat.{ℕ, zero, suc, ◌+◌, ◌*◌, ◌^◌, ◌≤◌, ◌<◌}
use native.Mathlib.Nat.{pow-succ', pow-le-pow_right}
use native.Mathlib.Decide.{dec_lt}
use native.Mathlib.Omega.{arith}
use mathlib.Core.Path.{◌≡◌, refl, sym, ap, ◌∙◌}
use mathlib.Core.Bool.{cond}
use lib.Dec.{ltb}
use borrow.Author.Tests.{lt-ltb, le-ltb}
use Rattle.sheet.specs.Sheets.{byte_packed}

-- eight bits by their weights
abbrev pub weigh : (ℕ → ℕ) → ℕ
weigh at = 128 * at 0 + 64 * at 1 + 32 * at 2 + 16 * at 3 + 8 * at 4 + 4 * at 5 + 2 * at 6 + at 7

-- a byte whose eight bits are known
pub packed_weigh : (width : ℕ) (pixels : ℕ → ℕ) (k : ℕ) (at : ℕ → ℕ)
    → ((i : ℕ) → i < 8 → cond (ltb (k * 8 + i) width) (pixels (k * 8 + i)) 0 ≡ at i)
    → byte_packed width pixels k ≡ weigh at
unfolding byte_packed
packed_weigh width pixels k at e =
    rw (
      e 0 (omega arith),
      e 1 (omega arith),
      e 2 (omega arith),
      e 3 (omega arith),
      e 4 (omega arith),
      e 5 (omega arith),
      e 6 (omega arith),
      e 7 (omega arith),
    )

-- the byte of eight pixels
pub packed_eight : (pixels : ℕ → ℕ) → byte_packed 8 pixels 0 ≡ weigh pixels
unfolding byte_packed
packed_eight pixels = refl

-- a byte of a row is that of eight pixels which are the row's, and 0 past its end
module _ (width : ℕ) (pixels : ℕ → ℕ) (k : ℕ) (eight : ℕ → ℕ) where
  pub packed_as : ((i : ℕ) → i < 8 → k * 8 + i < width → eight i ≡ pixels (k * 8 + i))
      → ((i : ℕ) → i < 8 → width ≤ k * 8 + i → eight i ≡ 0) → byte_packed 8 eight 0 ≡ byte_packed width pixels k
  packed_as within past = packed_eight eight ∙ sym (packed_weigh width pixels k eight (λ i l. go i l (dec_lt (k * 8 + i) width)))
    where
      go : (i : ℕ) → i < 8 → Dec (k * 8 + i < width) → cond (ltb (k * 8 + i) width) (pixels (k * 8 + i)) 0 ≡ eight i
      go i l (yes h) = rw (lt-ltb (k * 8 + i) width h) (sym (within i l h))
      go i l (no h) = rw (le-ltb (k * 8 + i) width (omega arith)) (sym (past i l (omega arith)))

-- the first i of some bits, read as a binary number
pub front : (ℕ → ℕ) → ℕ → ℕ
front bits zero = 0
front bits (suc i) = 2 * front bits i + bits i

module _ (bits : ℕ → ℕ) where
  pub front_none : 0 ≡ front bits 0
  unfolding front
  front_none = refl

  front_next : (i : ℕ) → 2 * front bits i + bits i ≡ front bits (suc i)
  unfolding front
  front_next i = refl

  pub front_turn : (i : ℕ) → 2 * front bits i + bits i ≡ front bits (i + 1)
  front_turn i = front_next i ∙ ap (front bits) (let e : suc i ≡ i + 1 = omega arith in e)

  -- eight of them fit a byte
  pub front_fits : ((i : ℕ) → bits i ≤ 1) → (i : ℕ) → i < 8 → 2 * front bits i + bits i ≤ 255
  front_fits binary i l =
      let s = go i in
      let b = binary i in
      let p = pow-le-pow_right {n = 2} (omega arith) {i = i} {j = 7} (omega arith) in
      omega arith
    where
      go : (i : ℕ) → front bits i < 2 ^ i
      go zero = let e = front_none in omega arith
      go (suc i) = let s = go i in let e = front_next i in let b = binary i in let p = pow-succ' 2 i in omega arith

  -- and all eight are the packed byte
  pub front_eight : front bits 8 ≡ byte_packed 8 bits 0
  unfolding front
  front_eight = let e = packed_eight bits in omega arith
