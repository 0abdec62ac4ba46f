-- Pixels: that a packed sheet has the pixels it was packed from, and that nothing but its pixels is in it.
-- A packed byte is a sum of eight bits by their weights, so each bit is found by dividing by its weight; omega does each of the
-- eight places.
use Prim.Native.Nat.{ℕ, zero, suc, ◌+◌, ◌*◌, ◌/◌, ◌%◌, ◌≤◌, ◌<◌}
use native.Mathlib.Omega.{arith}
use mathlib.Core.Path.{◌≡◌, refl, sym, ap, ◌∙◌}
use mathlib.Core.Bool.{Bool, true, false, cond}
use mathlib.Core.List.{List}
use lib.Dec.{ltb}
use lib.ListN.{length}
use borrow.Author.Tests.{lt-ltb, ltb-true}
use Rattle.basics.proofs.TableLaws.{length-raster, get_or-raster, raster_same}
use Rattle.grid.specs.Sets.{◌≈◌}
use Rattle.grid.specs.Figures.{figure}
use Rattle.grid.proofs.FigureLaws.{figure_same}
use Rattle.sheet.specs.Sheets.{row_bytes, bit, pixel, foreground, byte_packed, packed}

pub pixel_binary : (width : ℕ) (bytes : List ℕ) (row col : ℕ) → pixel width bytes row col ≤ 1
unfolding pixel
pixel_binary width bytes row col = omega arith

-- the eight bits of a weighted sum
sum_bit : (a b c d e f g h : ℕ) → a ≤ 1 → b ≤ 1 → c ≤ 1 → d ≤ 1 → e ≤ 1 → f ≤ 1 → g ≤ 1 → h ≤ 1
    → let s = 128 * a + 64 * b + 32 * c + 16 * d + 8 * e + 4 * f + 2 * g + h in
    (bit s 0 ≡ a) × (bit s 1 ≡ b) × (bit s 2 ≡ c) × (bit s 3 ≡ d) × (bit s 4 ≡ e) × (bit s 5 ≡ f) × (bit s 6 ≡ g) × (bit s 7 ≡ h)
sum_bit a b c d e f g h p q r s t u v w =
    (omega arith, omega arith, omega arith, omega arith, omega arith, omega arith, omega arith, omega arith)

-- one of eight
eight : (P : ℕ → Type 0) → P 0 → P 1 → P 2 → P 3 → P 4 → P 5 → P 6 → P 7 → (i : ℕ) → i < 8 → P i
eight P a b c d e f g h zero l = a
eight P a b c d e f g h (suc zero) l = b
eight P a b c d e f g h (suc (suc zero)) l = c
eight P a b c d e f g h (suc (suc (suc zero))) l = d
eight P a b c d e f g h (suc (suc (suc (suc zero)))) l = e
eight P a b c d e f g h (suc (suc (suc (suc (suc zero))))) l = f
eight P a b c d e f g h (suc (suc (suc (suc (suc (suc zero)))))) l = g
eight P a b c d e f g h (suc (suc (suc (suc (suc (suc (suc zero))))))) l = h
eight P a b c d e f g h (suc (suc (suc (suc (suc (suc (suc (suc i)))))))) l = absurd (omega arith)

module _ (width : ℕ) (pixels : ℕ → ℕ) (binary : (col : ℕ) → col < width → pixels col ≤ 1) where
  -- a bit of a packed byte, padding 0
  bit_of : ℕ → ℕ → ℕ
  bit_of k i = cond (ltb (k * 8 + i) width) (pixels (k * 8 + i)) 0

  small : (k i : ℕ) → bit_of k i ≤ 1
  unfolding bit_of
  small k i = go (ltb (k * 8 + i) width) refl
    where
      go : (t : Bool) → ltb (k * 8 + i) width ≡ t → cond t (pixels (k * 8 + i)) 0 ≤ 1
      go true e = binary (k * 8 + i) (ltb-true (k * 8 + i) width e)
      go false e = omega arith

  bit_packed : (k i : ℕ) → i < 8 → bit (byte_packed width pixels k) i ≡ bit_of k i
  unfolding byte_packed bit_of
  bit_packed k i l =
      let s = sum_bit (bit_of k 0) (bit_of k 1) (bit_of k 2) (bit_of k 3) (bit_of k 4) (bit_of k 5) (bit_of k 6) (bit_of k 7) (small k 0)
      (small k 1) (small k 2) (small k 3) (small k 4) (small k 5) (small k 6) (small k 7) in
      eight (λ i. bit (byte_packed width pixels k) i ≡ bit_of k i) s.0 s.1 s.2 s.3 s.4 s.5 s.6 s.7 i l

  bit_at : (col : ℕ) → col < width → bit_of (col / 8) (col % 8) ≡ pixels col
  unfolding bit_of
  bit_at col l = let e : col / 8 * 8 + col % 8 ≡ col = omega arith in rw (e, lt-ltb col width l)

module _ (width height : ℕ) (pixels : ℕ → ℕ → ℕ) where
  pub length-packed : length (packed width height pixels) ≡ height * row_bytes width
  unfolding packed
  length-packed = length-raster (row_bytes width) height (λ row k. byte_packed width (pixels row) k)

  -- A PACKED SHEET HAS THE PIXELS IT WAS PACKED FROM
  pub pixel-packed : ((row col : ℕ) → row < height → col < width → pixels row col ≤ 1) → (row col : ℕ) → row < height
      → col < width → pixel width (packed width height pixels) row col ≡ pixels row col
  unfolding pixel packed
  pixel-packed binary row col a b =
      ap (λ byte. bit byte (col % 8))
      (get_or-raster (row_bytes width) height (λ row k. byte_packed width (pixels row) k) row (col / 8) 0 a (omega arith))
      ∙ bit_packed width (pixels row) (λ c l. binary row c a l) (col / 8) (col % 8) (omega arith)
      ∙ bit_at width (pixels row) (λ c l. binary row c a l) col b

  -- and so means the set that they draw
  pub packed_means : ((row col : ℕ) → row < height → col < width → pixels row col ≤ 1)
      → foreground width height (packed width height pixels) ≈ figure width height pixels
  packed_means binary = (
    figure_same width height (pixel width (packed width height pixels)) pixels
        (λ row col a b v. sym (pixel-packed binary row col a b) ∙ v),
    figure_same width height pixels (pixel width (packed width height pixels))
        (λ row col a b v. pixel-packed binary row col a b ∙ v),
  )

-- NOTHING BUT THE PIXELS OF THE FRAME IS IN A PACKED SHEET
module _ (width : ℕ) (f g : ℕ → ℕ) (same : (col : ℕ) → col < width → f col ≡ g col) where
  bit_same : (col : ℕ) → cond (ltb col width) (f col) 0 ≡ cond (ltb col width) (g col) 0
  bit_same col = go (ltb col width) refl
    where
      go : (t : Bool) → ltb col width ≡ t → cond t (f col) 0 ≡ cond t (g col) 0
      go true e = same col (ltb-true col width e)
      go false e = refl

  byte_same : (k : ℕ) → byte_packed width f k ≡ byte_packed width g k
  unfolding byte_packed
  byte_same k = simp bit_same

pub packed_same : (width height : ℕ) (f g : ℕ → ℕ → ℕ) → ((row col : ℕ) → row < height → col < width → f row col ≡ g row col)
    → packed width height f ≡ packed width height g
unfolding packed
packed_same width height f g same =
    raster_same (row_bytes width) height (λ row k. byte_packed width (f row) k) (λ row k. byte_packed width (g row) k)
    (λ row k a b. byte_same width (f row) (g row) (λ col l. same row col a l) k)
