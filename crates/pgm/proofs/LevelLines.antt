-- The lines of the text. Each line ends in a number, so in no blank, and within a frame row a number goes on only where the line
-- stays short.
use Prim.Native.Nat.{ℕ, zero, suc, ◌+◌, ◌-◌, ◌≤◌, ◌<◌}
use native.Mathlib.Omega.{arith}
use mathlib.Core.Path.{◌≡◌, refl, sym, ap, ap₂, ◌∙◌}
use mathlib.Core.Bool.{Bool, true, false}
use mathlib.Core.Logic.{◌≢◌}
use mathlib.Core.List.{List, [], ◌∷◌, ◌++◌, append_assoc}
use borrow.Author.Tests.{leb-true, ne_eqb}
use lib.ListN.{length, get_or, length-append}
use lib.Seq.{get_or-append-add}
use Rattle.decimal.specs.Numbers.{digits}
use Rattle.decimal.proofs.NumberLaws.{digits_digit, digits_some, digit_bounds}
use Rattle.pgm.specs.Lines.{line_width, Every, none, more, ends_line, lines, unlines, ShortLine}
use Rattle.pgm.specs.PgmText.{rows_remark, pgm_header, stays, level_row, frame_row, levels_text}
use Rattle.pgm.specs.Writing.{level_end, Small, SmallNumbers}
use Rattle.pgm.proofs.LineLaws.{Unbroken, every_append, every_take, every_drop, every_of, Lined, lines_unlines, lined_none}
use Rattle.pgm.proofs.LineLaws.{lined_more, lined_as, lined_append}
use Rattle.pgm.proofs.RowLaws.{parting_stays, parting_begins, after_stays, after_begins}
use Rattle.pgm.proofs.SizeLaws.{five}

-- a number
module _ (n i : ℕ) (l : i < length (digits n)) where
  pub digit_range : (48 ≤ get_or (digits n) i 0) × (get_or (digits n) i 0 ≤ 57)
  digit_range = digit_bounds (get_or (digits n) i 0) (digits_digit n i l)

  digit_goes_on : ends_line (get_or (digits n) i 0) ≡ false
  unfolding ends_line
  digit_goes_on = let r = digit_range in ne_eqb (get_or (digits n) i 0) 10 (λ e. omega arith)

pub digits_unbroken : (n : ℕ) → Unbroken (digits n)
digits_unbroken n = every_of 0 (digits n) (λ i l. digit_goes_on n i l)

-- a line that ends in a number
ends_in_number : (front : List ℕ) (n : ℕ) → get_or (front ++ digits n) (length (front ++ digits n) - 1) 0 ≢ 32
ends_in_number front n e =
    let s = digits_some n in
    let a = length-append front (digits n) in
    let i = length (digits n) - 1 in
    let p : length (front ++ digits n) - 1 ≡ length front + i = omega arith in
    let q = get_or-append-add front (digits n) i 0 in
    let f = sym q ∙ sym (ap (λ k. get_or (front ++ digits n) k 0) p) ∙ e in
    let r = digit_range n i (omega arith) in
    omega arith

number_line : (front : List ℕ) (n : ℕ) → length front + length (digits n) ≤ line_width → ShortLine (front ++ digits n)
number_line front n l =
    let s = digits_some n in
    let a = length-append front (digits n) in
    record { some = omega arith; short = omega arith; closed = ends_in_number front n }

short_number : (n : ℕ) → n < level_end → ShortLine (digits n)
short_number n l = let f = five n l in number_line [] n (omega arith)

-- a number that stays on the line begun, and one that begins the next
module _ (begun : List ℕ) (n : ℕ) (rest : List ℕ) where
  abbrev longer : List ℕ
  longer = begun ++ (32 ∷ digits n)

  pub text_stays : stays (length begun) (length (digits n)) ≡ true
      → (begun ++ (32 ∷ digits n)) ++ level_row (length (begun ++ (32 ∷ digits n))) rest ≡ begun ++
      level_row (length begun) (n ∷ rest)
  unfolding level_row
  text_stays e =
      let k : length longer ≡ length begun + 1 + length (digits n) = let a = length-append begun (32 ∷ digits n) in omega arith in
      append_assoc begun (32 ∷ digits n) (level_row (length longer) rest)
      ∙ ap₂ (λ byte column. begun ++ (byte ∷ (digits n ++ level_row column rest)))
      (parting_stays (length begun) (length (digits n)) e) (k ∙ after_stays (length begun) (length (digits n)) e)

  pub text_begins : stays (length begun) (length (digits n)) ≡ false
      → begun ++ (10 ∷ (digits n ++ level_row (length (digits n)) rest)) ≡ begun ++ level_row (length begun) (n ∷ rest)
  unfolding level_row
  text_begins e =
      ap₂ (λ byte column. begun ++ (byte ∷ (digits n ++ level_row column rest)))
      (parting_begins (length begun) (length (digits n)) e) (after_begins (length begun) (length (digits n)) e)

  pub longer_unbroken : Unbroken begun → Unbroken (begun ++ (32 ∷ digits n))
  unfolding ends_line
  longer_unbroken u = every_append u (more refl (digits_unbroken n))

  longer_short : stays (length begun) (length (digits n)) ≡ true → ShortLine longer
  unfolding stays
  longer_short e =
      let l = leb-true (length begun + 1 + length (digits n)) line_width e in
      let a = length-append begun (32 ∷ []) in
      rw append_assoc at (number_line (begun ++ (32 ∷ [])) n (omega arith))

-- the rest of a frame row after a line begun
rest_lined : (begun : List ℕ) {rest : List ℕ} → Unbroken begun → ShortLine begun → Small rest
    → Lined (begun ++ level_row (length begun) rest)
unfolding level_row
rest_lined begun u s none = lined_more begun [] u s lined_none
rest_lined begun {rest = n ∷ rest} u s (more l h) =
    go (stays (length begun) (length (digits n))) refl (λ v t. rest_lined (begun ++ (32 ∷ digits n)) v t h)
    (λ v t. rest_lined (digits n) v t h)
  where
    go : (b : Bool) → stays (length begun) (length (digits n)) ≡ b
        → (Unbroken (longer begun n rest) → ShortLine (longer begun n rest)
        → Lined (longer begun n rest ++ level_row (length (longer begun n rest)) rest))
        → (Unbroken (digits n) → ShortLine (digits n) → Lined (digits n ++ level_row (length (digits n)) rest))
        → Lined (begun ++ level_row (length begun) (n ∷ rest))
    go true e on next = lined_as (text_stays begun n rest e) (on (longer_unbroken begun n rest u) (longer_short begun n rest e))
    go false e on next =
        lined_as (text_begins begun n rest e)
        (lined_more begun (digits n ++ level_row (length (digits n)) rest) u s (next (digits_unbroken n) (short_number n l)))

pub row_lined : {row : List ℕ} → Small row → Lined (frame_row row)
unfolding frame_row
row_lined none = lined_none
row_lined {row = n ∷ rest} (more l h) = rest_lined (digits n) (digits_unbroken n) (short_number n l) h

pub levels_lined : (width height : ℕ) {levels : List ℕ} → Small levels → Lined (levels_text width height levels)
unfolding levels_text
levels_lined width zero h = lined_none
levels_lined width (suc height) h = lined_append (row_lined (every_take width h)) (levels_lined width height (every_drop width h))

-- the header is four lines, whatever line its magic number is
module _ (done due width height maximum : ℕ) (s : SmallNumbers done due width height maximum) where
  remark_line : (Unbroken (rows_remark done due)) × ShortLine (rows_remark done due)
  unfolding ends_line
  remark_line =
      let a = five done s.small_done in
      let b = five due s.small_due in
      let word : List ℕ = 35 ∷ 32 ∷ 114 ∷ 111 ∷ 119 ∷ 115 ∷ 32 ∷ [] in
      let front : List ℕ = word ++ (digits done ++ (32 ∷ 111 ∷ 102 ∷ 32 ∷ [])) in
      let f = length-append (digits done) (32 ∷ 111 ∷ 102 ∷ 32 ∷ []) in
      let n = number_line front due (omega arith) in (
        every_append (more refl (more refl (more refl (more refl (more refl (more refl (more refl none)))))))
            (every_append (digits_unbroken done) (more refl (more refl (more refl (more refl (digits_unbroken due)))))),
        (rw (append_assoc (digits done) (32 ∷ 111 ∷ 102 ∷ 32 ∷ []) (digits due)) at n),
      )

  sides_line : (Unbroken (digits width ++ (32 ∷ digits height))) × ShortLine (digits width ++ (32 ∷ digits height))
  unfolding ends_line
  sides_line =
      let a = five width s.small_width in
      let b = five height s.small_height in
      let f = length-append (digits width) (32 ∷ []) in (
        every_append (digits_unbroken width) (more refl (digits_unbroken height)),
        (rw append_assoc at (number_line (digits width ++ (32 ∷ [])) height (omega arith))),
      )

  abbrev header_lines : List ℕ → List (List ℕ)
  header_lines magic = magic ∷ rows_remark done due ∷ (digits width ++ (32 ∷ digits height)) ∷ digits maximum ∷ []

  header_unlines : (magic : List ℕ) → pgm_header magic done due width height maximum ≡ unlines (header_lines magic)
  unfolding pgm_header unlines
  header_unlines magic = simp append_assoc

  module _ (magic : List ℕ) (u : Unbroken magic) (m : ShortLine magic) where
    header_unbroken : Every Unbroken (header_lines magic)
    header_unbroken = more u (more remark_line.0 (more sides_line.0 (more (digits_unbroken maximum) none)))

    pub header_lined : Lined (pgm_header magic done due width height maximum)
    header_lined = record {
      list = header_lines magic;
      is = header_unlines magic;
      unbroken_line = header_unbroken;
      short = more m (more remark_line.1 (more sides_line.1 (more (short_number maximum s.small_maximum) none)));
    }

    pub header_lines_lem : lines (pgm_header magic done due width height maximum) ≡ magic ∷ rows_remark done due ∷
        (digits width ++ (32 ∷ digits height)) ∷ digits maximum ∷ []
    header_lines_lem = ap lines (header_unlines magic) ∙ lines_unlines header_unbroken
