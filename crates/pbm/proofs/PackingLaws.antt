-- A row's bytes are copied as they are, all but the last, whose padding bits are shifted off. A byte is the sum of
-- its bits by their weights, so without its lowest bits it is the sum of the others: omega shows it for each of the eight numbers
-- of bits that a last byte can keep.
use Prim.Native.Nat.{ℕ, zero, suc, ◌+◌, ◌-◌, ◌*◌, ◌/◌, ◌%◌, ◌^◌, ◌≤◌, ◌<◌, min}
use native.Mathlib.Nat.{div-div-eq-div-mul, div-add-mod}
use native.Mathlib.Decide.{dec_lt}
use native.Mathlib.Omega.{arith}
use mathlib.Core.Path.{◌≡◌, ◌∙◌}
use mathlib.Core.Bool.{cond}
use mathlib.Core.List.{List}
use lib.Dec.{ltb}
use lib.ListN.{length, get_or}
use borrow.Author.Tests.{lt-ltb, le-ltb}
use Rattle.sheet.specs.Sheets.{row_bytes, bit, pixel, byte_packed}
use Rattle.sheet.specs.SamePixels.{SamePixels}
use Rattle.sheet.proofs.ByteLaws.{weigh, packed_weigh}
use Rattle.sheet.proofs.PixelLaws.{length-packed}
use Rattle.sheet.proofs.SamePixelsLaws.{same_packed, clearing_keeps}
use Rattle.pbm.specs.Pbm.{cleared}

-- the bits of a byte that are below `kept`
abbrev kept_bits : ℕ → ℕ → ℕ → ℕ
kept_bits byte kept i = cond (ltb i kept) (bit byte i) 0

-- eight halves in a row, each twice the next and a bit: without its lowest bits, a number is the sum of the others by their
-- weights
abbrev Sums : (n h₁ h₂ h₃ h₄ h₅ h₆ h₇ a b c d e f g h : ℕ) → Type 0
Sums n h₁ h₂ h₃ h₄ h₅ h₆ h₇ a b c d e f g h =
    (128 * a ≡ 128 * h₇) × (128 * a + 64 * b ≡ 64 * h₆) × (128 * a + 64 * b + 32 * c ≡ 32 * h₅) ×
    (128 * a + 64 * b + 32 * c + 16 * d ≡ 16 * h₄)
    × (128 * a + 64 * b + 32 * c + 16 * d + 8 * e ≡ 8 * h₃) ×
    (128 * a + 64 * b + 32 * c + 16 * d + 8 * e + 4 * f ≡ 4 * h₂)
    × (128 * a + 64 * b + 32 * c + 16 * d + 8 * e + 4 * f + 2 * g ≡ 2 * h₁) ×
    (128 * a + 64 * b + 32 * c + 16 * d + 8 * e + 4 * f + 2 * g + h ≡ n)

sums : (n h₁ h₂ h₃ h₄ h₅ h₆ h₇ a b c d e f g h : ℕ) → n ≡ 2 * h₁ + h → h₁ ≡ 2 * h₂ + g → h₂ ≡ 2 * h₃ + f
    → h₃ ≡ 2 * h₄ + e
    → h₄ ≡ 2 * h₅ + d → h₅ ≡ 2 * h₆ + c → h₆ ≡ 2 * h₇ + b → h₇ ≡ a
    → Sums n h₁ h₂ h₃ h₄ h₅ h₆ h₇ a b c d e f g h
sums n h₁ h₂ h₃ h₄ h₅ h₆ h₇ a b c d e f g h p q r s t u v w =
    (omega arith, omega arith, omega arith, omega arith, omega arith, omega arith, omega arith, omega arith)

module _ (byte : ℕ) (small : byte < 256) where
  half : (n : ℕ) → byte / n ≡ 2 * (byte / (n * 2)) + byte / n % 2
  half n = let e = div-div-eq-div-mul byte n 2 in omega arith

  -- 2 ^ p times the p-th half is the byte without its lowest p bits
  less : (n m : ℕ) → m ≡ n * (byte / n) → m ≡ byte - byte % n
  less n m e = let d = div-add-mod byte n in omega arith

  weights : Sums byte (byte / 2) (byte / 4) (byte / 8) (byte / 16) (byte / 32) (byte / 64) (byte / 128) (bit byte 0)
      (bit byte 1)
      (bit byte 2) (bit byte 3) (bit byte 4) (bit byte 5) (bit byte 6) (bit byte 7)
  weights =
      sums byte (byte / 2) (byte / 4) (byte / 8) (byte / 16) (byte / 32) (byte / 64) (byte / 128) _ _ _ _ _ _ _ _
      (omega arith) (half 2) (half 4) (half 8) (half 16) (half 32) (half 64) (omega arith)

  kept_sum : (kept : ℕ) → 1 ≤ kept → kept ≤ 8 → weigh (kept_bits byte kept) ≡ byte - byte % 2 ^ (8 - kept)
  kept_sum zero l h = absurd (omega arith)
  kept_sum (suc zero) l h = let s = weights.0 in less 128 (weigh (kept_bits byte 1)) (omega arith)
  kept_sum (suc (suc zero)) l h = let s = weights.1 in less 64 (weigh (kept_bits byte 2)) (omega arith)
  kept_sum (suc (suc (suc zero))) l h = let s = weights.2 in less 32 (weigh (kept_bits byte 3)) (omega arith)
  kept_sum (suc (suc (suc (suc zero)))) l h = let s = weights.3 in less 16 (weigh (kept_bits byte 4)) (omega arith)
  kept_sum (suc (suc (suc (suc (suc zero))))) l h = let s = weights.4 in less 8 (weigh (kept_bits byte 5)) (omega arith)
  kept_sum (suc (suc (suc (suc (suc (suc zero)))))) l h = let s = weights.5 in
      less 4 (weigh (kept_bits byte 6)) (omega arith)
  kept_sum (suc (suc (suc (suc (suc (suc (suc zero))))))) l h = let s = weights.6 in
      less 2 (weigh (kept_bits byte 7)) (omega arith)
  kept_sum (suc (suc (suc (suc (suc (suc (suc (suc zero)))))))) l h = let s = weights.7 in
      less 1 (weigh (kept_bits byte 8)) (omega arith)
  kept_sum (suc (suc (suc (suc (suc (suc (suc (suc (suc k))))))))) l h = absurd (omega arith)

-- a byte of the packed sheet is that of the raster, without the bits beyond the frame
module _ (width : ℕ) (raster : List ℕ) (row k kept : ℕ) (in_row : k < row_bytes width)
    (bits : kept ≡ min (width - k * 8) 8) where
  bit_kept : (byte : ℕ) → byte ≡ get_or raster (row * row_bytes width + k) 0 → (i : ℕ) → i < 8
      → cond (ltb (k * 8 + i) width) (pixel width raster row (k * 8 + i)) 0 ≡ kept_bits byte kept i
  unfolding pixel
  bit_kept byte e i l = go (dec_lt i kept)
    where
      go : Dec (i < kept) → cond (ltb (k * 8 + i) width)
          (bit (get_or raster (row * row_bytes width + (k * 8 + i) / 8) 0) ((k * 8 + i) % 8)) 0 ≡ kept_bits byte kept i
      go (yes b) =
          let q : (k * 8 + i) / 8 ≡ k = omega arith in
          let r : (k * 8 + i) % 8 ≡ i = omega arith in
          rw (lt-ltb (k * 8 + i) width (omega arith), lt-ltb i kept b, q, r, e)
      go (no b) = rw (le-ltb (k * 8 + i) width (omega arith), le-ltb i kept (omega arith))

  pub packed_byte : (byte : ℕ) → byte ≡ get_or raster (row * row_bytes width + k) 0 → byte < 256
      → byte_packed width (pixel width raster row) k ≡ byte - byte % 2 ^ (8 - kept)
  packed_byte byte e b = packed_weigh width (pixel width raster row) k (kept_bits byte kept) (bit_kept byte e)
      ∙ kept_sum byte b kept (omega arith) (omega arith)

-- THE CLEARED SHEET is as long as its raster and has its pixels, and sheets with the same pixels are cleared alike
pub cleared_same : (width height : ℕ) (one other : List ℕ) → SamePixels width height one other
    → cleared width height one ≡ cleared width height other
unfolding cleared
cleared_same width height one other same = same_packed width height one other same

module _ (width height : ℕ) (sheet : List ℕ) where
  pub length_cleared : length (cleared width height sheet) ≡ height * row_bytes width
  unfolding cleared
  length_cleared = length-packed width height (pixel width sheet)

  pub pixel_cleared : SamePixels width height (cleared width height sheet) sheet
  unfolding cleared
  pixel_cleared = clearing_keeps width height sheet

  pub cleared_twice : cleared width height (cleared width height sheet) ≡ cleared width height sheet
  cleared_twice = cleared_same width height (cleared width height sheet) sheet pixel_cleared
