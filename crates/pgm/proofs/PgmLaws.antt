-- THE LAWS OF THE TEXT: its lines are what the rule for plain PGM says. Beside these: no line ends early (FillLaws), the levels
-- are read back (WordLaws), the text is short (SizeLaws).
use Prim.Native.Nat.{ℕ, suc, ◌-◌, ◌<◌}
use native.Mathlib.Omega.{arith}
use mathlib.Core.Path.{◌≡◌, refl, ap, ◌∙◌}
use mathlib.Core.List.{List, [], ◌∷◌, ◌++◌}
use lib.ListN.{length, get_or, take, drop, length-append}
use Rattle.decimal.specs.Numbers.{digits}
use Rattle.pgm.specs.Lines.{Every, none, more, ends_line, lines, unlines, ShortLine}
use Rattle.pgm.specs.PgmText.{rows_remark, pgm_header, plain_magic, frame_row, levels_text, pgm_text}
use Rattle.pgm.specs.Writing.{Small, SmallNumbers, Picture}
use Rattle.pgm.proofs.LineLaws.{Unbroken, Lined, every_take, every_drop, lined_append, lined_lines, lined_back}
use Rattle.pgm.proofs.LineLaws.{lined_apart, lined_last}
use Rattle.pgm.proofs.LevelLines.{row_lined, levels_lined, header_lined, header_lines_lem}
use Rattle.pgm.proofs.SizeLaws.{header_small, header_size, row_some}

magic_unbroken : Unbroken plain_magic
unfolding ends_line
magic_unbroken = more refl (more refl none)

magic_short : ShortLine plain_magic
magic_short = record { some = omega arith; short = omega arith; closed = λ e. omega arith }

-- a frame row ends with LF
pub row_ends : (row : List ℕ) → Small row → 0 < length row → get_or (frame_row row) (length (frame_row row) - 1) 0 ≡ 10
row_ends row h l = lined_last (row_lined h) (row_some row l)

-- each frame row begins a line: the lines are those of the first row, and then those of the others
pub row_begins_line : (width height : ℕ) (levels : List ℕ) → Small levels
    → lines (levels_text width (suc height) levels) ≡ lines (frame_row (take width levels)) ++
    lines (levels_text width height (drop width levels))
unfolding levels_text
row_begins_line width height levels h =
    lined_apart (row_lined (every_take width h)) (levels_lined width height (every_drop width h))

module _ (width height : ℕ) (levels : List ℕ) (h : Small levels) where
  pub levels_lines : Every ShortLine (lines (levels_text width height levels))
  levels_lines = lined_lines (levels_lined width height h)

module _ (width height maximum done due : ℕ) (levels : List ℕ) (h : Picture width height maximum done due levels)
    (small : Small levels) where
  abbrev header : List ℕ
  header = pgm_header plain_magic done due width height maximum

  abbrev text : List ℕ
  text = pgm_text width height maximum done due levels

  numbers : SmallNumbers done due width height maximum
  numbers = header_small width height maximum done due levels h

  header_made : Lined header
  header_made = header_lined done due width height maximum numbers plain_magic magic_unbroken magic_short

  made : Lined text
  unfolding pgm_text
  made = lined_append header_made (levels_lined width height small)

  -- the lines: the four of the header, and then those of the levels
  pub text_parts : lines text
      ≡ (plain_magic ∷ rows_remark done due ∷ (digits width ++ (32 ∷ digits height)) ∷ digits maximum ∷ []) ++
      lines (levels_text width height levels)
  unfolding pgm_text
  text_parts =
      lined_apart header_made (levels_lined width height small)
      ∙ ap (λ first. first ++ lines (levels_text width height levels))
      (header_lines_lem done due width height maximum numbers plain_magic magic_unbroken magic_short)

  -- no line is empty or too long, and none ends in a blank
  pub text_lines : Every ShortLine (lines text)
  text_lines = lined_lines made

  -- every line ends with LF: the lines with their ends are the text, and LF is its last byte
  pub text_back : unlines (lines text) ≡ text
  text_back = lined_back made

  pub text_last : get_or text (length text - 1) 0 ≡ 10
  unfolding pgm_text
  text_last =
      lined_last made
      (let a = length-append header (levels_text width height levels) in
      let s = header_size plain_magic done due width height maximum in omega arith)
