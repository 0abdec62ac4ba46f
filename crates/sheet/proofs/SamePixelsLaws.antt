-- PADDING BITS CHANGE NOTHING. Sheets that differ in padding bits only have the same pixels, since a pixel's bit stands above
-- them; sheets with the same pixels mean the same set, are packed alike, and a sheet packed anew has the pixels that it had.
use Prim.Native.Nat.{ℕ, zero, suc, ◌+◌, ◌-◌, ◌/◌, ◌%◌, ◌^◌}
use native.Mathlib.Nat.{add-zero, add-suc, pow-suc, div-div-eq-div-mul}
use native.Mathlib.Omega.{arith}
use mathlib.Core.Path.{◌≡◌, sym, ap, ◌∙◌}
use mathlib.Core.List.{List}
use lib.ListN.{length}
use Rattle.grid.specs.Sets.{◌≈◌}
use Rattle.grid.proofs.FigureLaws.{figure_same}
use Rattle.sheet.specs.Sheets.{pixel, foreground, sheet_refusals, packed}
use Rattle.sheet.specs.SamePixels.{SamePixels, SameButPadding, padding_bits}
use Rattle.sheet.proofs.PixelLaws.{pixel_binary, pixel-packed, packed_same}

-- numbers that agree above their p lowest bits agree above more
above_more : (p q x y : ℕ) → x / 2 ^ p ≡ y / 2 ^ p → x / 2 ^ (p + q) ≡ y / 2 ^ (p + q)
above_more p zero x y e = rw add-zero e
above_more p (suc q) x y e = halved x ∙ ap (λ n. n / 2) (above_more p q x y e) ∙ sym (halved y)
  where
    halved : (n : ℕ) → n / 2 ^ (p + suc q) ≡ n / 2 ^ (p + q) / 2
    halved n = rw (add-suc, pow-suc) (sym (div-div-eq-div-mul n (2 ^ (p + q)) 2))

module _ (width height : ℕ) (one other : List ℕ) where
  pub padding_ignored : SameButPadding width height one other → SamePixels width height one other
  unfolding pixel
  padding_ignored same row col a b =
      let p = padding_bits width (col / 8) in
      let q = 7 - col % 8 - p in
      let e : p + q ≡ 7 - col % 8 = omega arith in
      ap (λ n. n % 2) (rw e at (above_more p q _ _ (same row (col / 8) a (omega arith))))

  -- refusals go by the length alone
  pub same_refusals : length one ≡ length other → sheet_refusals width height one ≡ sheet_refusals width height other
  same_refusals e = rw e

  module _ (same : SamePixels width height one other) where
    pub same_set : foreground width height one ≈ foreground width height other
    same_set = (
      figure_same width height (pixel width one) (pixel width other) (λ row col a b v. sym (same row col a b) ∙ v),
      figure_same width height (pixel width other) (pixel width one) (λ row col a b v. same row col a b ∙ v),
    )

    pub same_packed : packed width height (pixel width one) ≡ packed width height (pixel width other)
    same_packed = packed_same width height (pixel width one) (pixel width other) same

module _ (width height : ℕ) (sheet : List ℕ) where
  -- packed anew, its padding cleared
  pub clearing_keeps : SamePixels width height (packed width height (pixel width sheet)) sheet
  clearing_keeps = pixel-packed width height (pixel width sheet) (λ row col _ _. pixel_binary width sheet row col)

-- and so sheets that are cleared to one have the same pixels
pub cleared_alike : (width height : ℕ) (one other : List ℕ)
    → packed width height (pixel width one) ≡ packed width height (pixel width other) → SamePixels width height one other
cleared_alike width height one other e row col a b =
    sym (clearing_keeps width height one row col a b) ∙ ap (λ sheet. pixel width sheet row col) e
    ∙ clearing_keeps width height other row col a b
