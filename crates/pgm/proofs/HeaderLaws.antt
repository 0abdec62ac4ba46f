-- The pieces in which the header is written make the header: only the brackets differ.
use Prim.Native.Nat.{ℕ}
use mathlib.Core.Path.{◌≡◌}
use mathlib.Core.List.{List, [], ◌∷◌, ◌++◌, append_assoc}
use Rattle.decimal.specs.Numbers.{digits}
use Rattle.pgm.specs.declared.Header.{Header}
use Rattle.pgm.specs.PgmText.{pgm_header}
use Rattle.pgm.specs.Writing.{header_text}

-- the magic number; the end of its line, and the remark; the sides; the maximum; and the end of its line
abbrev pub header_pieces : List ℕ → Header → List ℕ
header_pieces magic header =
    (((magic
    ++ (((10 ∷ 35 ∷ 32 ∷ 114 ∷ 111 ∷ 119 ∷ 115 ∷ 32 ∷ []) ++ digits header.done)
    ++ ((32 ∷ 111 ∷ 102 ∷ 32 ∷ []) ++ digits header.due)))
    ++ ((10 ∷ digits header.width) ++ (32 ∷ digits header.height)))
    ++ (10 ∷ digits header.maximum))
    ++ (10 ∷ [])

pub header_made : (magic : List ℕ) (header : Header) → header_pieces magic header ≡ header_text magic header
unfolding pgm_header
header_made magic header = simp append_assoc
