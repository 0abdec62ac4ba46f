-- Two sheets of one frame: the same pixels, and the same bytes but for the padding.
use Rattle.std.specs.Prelude.{ℕ, ◌+◌, ◌-◌, ◌*◌, ◌/◌, ◌^◌, ◌<◌, ◌≡◌, List, get_or}
use Rattle.sheet.specs.Sheets.{row_bytes, pixel}

abbrev pub SamePixels : ℕ → ℕ → List ℕ → List ℕ → Type 0
SamePixels width height one other = (row col : ℕ) → row < height → col < width
    → pixel width one row col ≡ pixel width other row col

-- how many bits of byte k of a row are padding: those beyond the width, the lowest ones
abbrev pub padding_bits : ℕ → ℕ → ℕ
padding_bits width k = (k + 1) * 8 - width

-- each byte is the same above its padding bits
abbrev pub SameButPadding : ℕ → ℕ → List ℕ → List ℕ → Type 0
SameButPadding width height one other = (row k : ℕ) → row < height → k < row_bytes width →
    let place = row * row_bytes width + k in
    get_or one place 0 / 2 ^ padding_bits width k ≡ get_or other place 0 / 2 ^ padding_bits width k
