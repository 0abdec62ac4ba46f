-- The words of the levels' text are the levels' digits, each up to the one byte that follows it.
use Prim.Native.Nat.{ℕ, zero, suc, ◌*◌, ◌≤◌}
use native.Mathlib.Omega.{arith}
use mathlib.Core.Path.{◌≡◌, refl, ap, ap₂, ◌∙◌}
use mathlib.Core.Bool.{Bool, true, false, cond}
use mathlib.Core.List.{List, [], ◌∷◌, ◌++◌, append_assoc, map}
use borrow.Author.Tests.{ne_eqb}
use lib.ListN.{length, get_or, take, drop, take-append-drop}
use Rattle.decimal.specs.Numbers.{digits, value}
use Rattle.decimal.proofs.NumberLaws.{value_digits}
use Rattle.pgm.specs.Lines.{Every, cut, ends_word, words}
use Rattle.pgm.specs.PgmText.{stays, parting, column_after, level_row, frame_row, levels_text}
use Rattle.pgm.proofs.LineLaws.{every_of, cut_piece}
use Rattle.pgm.proofs.LevelLines.{digit_range}
use Rattle.pgm.proofs.SizeLaws.{rows_left}

goes_on : (byte : ℕ) → (48 ≤ byte) × (byte ≤ 57) → ends_word byte ≡ false
unfolding ends_word
goes_on byte r = rw (ne_eqb byte 32 (λ e. omega arith), ne_eqb byte 10 (λ e. omega arith))

digits_whole : (n : ℕ) → Every (λ byte. ends_word byte ≡ false) (digits n)
digits_whole n = every_of 0 (digits n) (λ i l. goes_on (get_or (digits n) i 0) (digit_range n i l))

parting_ends : (column size : ℕ) → ends_word (parting column size) ≡ true
unfolding parting ends_word
parting_ends column size = go (stays column size)
  where
    go : (b : Bool) → ends_word (cond b 32 10) ≡ true
    go true = refl
    go false = refl

-- a number and what follows it in its frame row, before any other text
rest_words : (n column : ℕ) (rest text : List ℕ)
    → words (digits n ++ (level_row column rest ++ text)) ≡ digits n ∷ (map digits rest ++ words text)
unfolding level_row ends_word
rest_words n column [] text = cut_piece ends_word 10 text (digits_whole n) refl
rest_words n column (next ∷ rest) text =
    let size = length (digits next) in
    let row = level_row (column_after column size) rest in
    cut_piece ends_word (parting column size) ((digits next ++ row) ++ text) (digits_whole n) (parting_ends column size)
    ∙ ap (λ left. digits n ∷ words left) (append_assoc (digits next) row text)
    ∙ ap (λ left. digits n ∷ left) (rest_words next (column_after column size) rest text)

row_words : (row text : List ℕ) → words (frame_row row ++ text) ≡ map digits row ++ words text
unfolding frame_row
row_words [] text = refl
row_words (n ∷ rest) text =
    ap words (append_assoc (digits n) (level_row (length (digits n)) rest) text) ∙ rest_words n (length (digits n)) rest text

map-append : (xs ys : List ℕ) → map digits xs ++ map digits ys ≡ map digits (xs ++ ys)
map-append [] ys = refl
map-append (x ∷ xs) ys = ap (λ rest. digits x ∷ rest) (map-append xs ys)

-- THE WORDS ARE THE LEVELS, in order, one byte between each two
pub levels_words : (width height : ℕ) (levels : List ℕ) → length levels ≡ height * width
    → words (levels_text width height levels) ≡ map digits levels
unfolding levels_text cut
levels_words width zero [] e = refl
levels_words width zero (level ∷ levels) e = absurd (omega arith)
levels_words width (suc height) levels e =
    row_words (take width levels) (levels_text width height (drop width levels))
    ∙ ap (λ rest. map digits (take width levels) ++ rest)
    (levels_words width height (drop width levels) (rows_left width height levels e))
    ∙ map-append (take width levels) (drop width levels)
    ∙ ap (map digits) (take-append-drop width levels)

values_back : (levels : List ℕ) → map value (map digits levels) ≡ levels
values_back [] = refl
values_back (level ∷ levels) = ap₂ (λ n rest. n ∷ rest) (value_digits level) (values_back levels)

-- so the levels are read back
pub levels_back : (width height : ℕ) (levels : List ℕ) → length levels ≡ height * width
    → map value (words (levels_text width height levels)) ≡ levels
levels_back width height levels e = ap (map value) (levels_words width height levels e) ∙ values_back levels
