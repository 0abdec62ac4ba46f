-- How long the text is: one byte follows each number, a blank or the end of a line, so that the length does not depend on where
-- the lines end.
use Prim.Native.Nat.{ℕ, zero, suc, ◌+◌, ◌*◌, ◌≤◌, ◌<◌}
use native.Mathlib.Nat.{suc-mul, mul-le-mul}
use native.Mathlib.Omega.{arith}
use mathlib.Core.Path.{◌≡◌, refl, ap}
use mathlib.Core.Bool.{false}
use mathlib.Core.List.{List, [], ◌∷◌, ◌++◌}
use lib.Dec.{ltb}
use lib.ListN.{length, get_or, take, drop, length-append, length-drop, take-append-drop}
use Rattle.std.proofs.lemmas.List.{at_drop_more, at_drop_all}
use borrow.Author.Tests.{ltb-false}
use Rattle.basics.specs.Bounds.{any_above}
use Rattle.basics.specs.Limits.{longest_side}
use Rattle.basics.proofs.BoundLaws.{neither}
use Rattle.decimal.specs.Numbers.{digits}
use Rattle.decimal.proofs.NumberLaws.{length_below}
use Rattle.pgm.specs.Lines.{none, more}
use Rattle.pgm.specs.PgmText.{pgm_header, plain_magic, column_after, level_row, frame_row, levels_text, pgm_text}
use Rattle.pgm.specs.Writing.{levels_size, level_end, Small, SmallNumbers, Picture}

-- a number of 16 bits has at most five digits
pub five : (n : ℕ) → n < level_end → length (digits n) ≤ 5
five n l = length_below 5 n (omega arith) (let m : n < 100000 = omega arith in m)

-- the header
pub header_size : (magic : List ℕ) (done due width height maximum : ℕ)
    → length (pgm_header magic done due width height maximum)
    ≡ length magic + 16 + length (digits done) + length (digits due) + length (digits width) + length (digits height) + length
    (digits maximum)
unfolding pgm_header
header_size magic done due width height maximum = simp length-append (omega arith)

pub header_bound : (done due width height maximum : ℕ) → SmallNumbers done due width height maximum
    → length (digits done) + length (digits due) + length (digits width) + length (digits height) + length (digits maximum) ≤ 25
header_bound done due width height maximum s =
    let a = five done s.small_done in
    let b = five due s.small_due in
    let c = five width s.small_width in
    let d = five height s.small_height in
    let e = five maximum s.small_maximum in
    omega arith

pub header_short : (done due width height maximum : ℕ) → SmallNumbers done due width height maximum
    → length (pgm_header plain_magic done due width height maximum) ≤ 43
header_short done due width height maximum s =
    let b = header_bound done due width height maximum s in
    let e = header_size plain_magic done due width height maximum in
    omega arith

-- the levels
row_size : (column : ℕ) (row : List ℕ) → length (level_row column row) ≡ levels_size row + 1
unfolding level_row levels_size
row_size column [] = refl
row_size column (level ∷ rest) =
    let n = length (digits level) in
    let a = length-append (digits level) (level_row (column_after column n) rest) in
    let b = row_size (column_after column n) rest in
    omega arith

frame_size_lem : (row : List ℕ) → length (frame_row row) ≡ levels_size row
unfolding frame_row levels_size
frame_size_lem [] = refl
frame_size_lem (level ∷ rest) =
    let a = length-append (digits level) (level_row (length (digits level)) rest) in
    let b = row_size (length (digits level)) rest in
    omega arith

pub row_some : (row : List ℕ) → 0 < length row → 0 < length (frame_row row)
unfolding levels_size
row_some [] l = absurd (omega arith)
row_some (level ∷ rest) l = let e = frame_size_lem (level ∷ rest) in omega arith

size_append : (xs ys : List ℕ) → levels_size (xs ++ ys) ≡ levels_size xs + levels_size ys
unfolding levels_size
size_append [] ys = omega arith
size_append (level ∷ xs) ys = let e = size_append xs ys in omega arith

-- a row taken off the front leaves a row less
pub rows_left : (width height : ℕ) (levels : List ℕ) → length levels ≡ suc height * width
    → length (drop width levels) ≡ height * width
rows_left width height levels e = let m = suc-mul height width in let d = length-drop width levels in omega arith

pub levels_size_lem : (width height : ℕ) (levels : List ℕ) → length levels ≡ height * width
    → length (levels_text width height levels) ≡ levels_size levels
unfolding levels_text levels_size
levels_size_lem width zero [] e = refl
levels_size_lem width zero (level ∷ levels) e = absurd (omega arith)
levels_size_lem width (suc height) levels e =
    let row = take width levels in
    let rest = drop width levels in
    let a = length-append (frame_row row) (levels_text width height rest) in
    let b = frame_size_lem row in
    let c = levels_size_lem width height rest (rows_left width height levels e) in
    let d = size_append row rest in
    let s = ap levels_size (take-append-drop width levels) in
    omega arith

-- levels within a limit of 16 bits are small
pub within_small : (limit : ℕ) → limit < level_end → (levels : List ℕ) → any_above limit levels ≡ false → Small levels
unfolding any_above
within_small limit l [] e = none
within_small limit l (level ∷ rest) e =
    let h = neither (ltb limit level) (any_above limit rest) e in
    let a = ltb-false limit level h.0 in
    more {x = level} (omega arith) (within_small limit l rest h.1)

pub size_bound : (levels : List ℕ) → Small levels → levels_size levels ≤ 6 * length levels
unfolding levels_size
size_bound [] none = omega arith
size_bound (level ∷ levels) (more l h) = let f = five level l in let ih = size_bound levels h in omega arith

-- the whole
module _ (width height maximum done due : ℕ) (levels : List ℕ) (h : Picture width height maximum done due levels) where
  pub header_small : SmallNumbers done due width height maximum
  header_small =
      let w = h.width_most in
      let t = h.height_most in
      record {
        small_done = h.small_done;
        small_due = h.small_due;
        small_width = omega arith;
        small_height = omega arith;
        small_maximum = h.small_maximum;
      }

  pub levels_few : length levels ≤ longest_side * longest_side
  levels_few = let m : height * width ≤ longest_side * longest_side = mul-le-mul h.height_most h.width_most in let s = h.size in
      omega arith

  pub text_size : length (pgm_text width height maximum done due levels)
      ≡ length (pgm_header plain_magic done due width height maximum) + levels_size levels
  unfolding pgm_text
  text_size =
      let a = length-append (pgm_header plain_magic done due width height maximum) (levels_text width height levels) in
      let b = levels_size_lem width height levels h.size in
      omega arith

  -- THE TEXT IS SHORT: six bytes for each pixel, and at most 43 for the header
  pub text_bound : Small levels → length (pgm_text width height maximum done due levels) ≤ 43 + 6 * (height * width)
  text_bound l =
      let a = text_size in
      let b = header_short done due width height maximum header_small in
      let d = size_bound levels l in
      let s = h.size in
      omega arith

-- summing up the levels' text
pub record Summing (levels : List ℕ) (sum i : ℕ) : Type 0 where
  pub whole : sum + levels_size (drop i levels) ≡ levels_size levels
  pub bounded : sum ≤ 6 * i

module _ {levels : List ℕ} {sum i : ℕ} (h : Summing levels sum i) where
  pub summing_turn : (level count : ℕ) → i < length levels → level ≡ get_or levels i 0 → level < level_end
      → count ≡ length (digits level) → (count ≤ 5) × Summing levels (sum + (count + 1)) (i + 1)
  unfolding levels_size
  summing_turn level count l e small n =
      let f = five level small in
      let b = h.bounded in
      let w = h.whole in
      let s = at_drop_more levels_size levels i 0 l in
      let d = ap (λ x. length (digits x)) e in
      (omega arith, record { whole = omega arith; bounded = omega arith })

  pub summing_end : length levels ≤ i → sum ≡ levels_size levels
  unfolding levels_size
  summing_end l = let s = at_drop_all levels_size levels i l in let w = h.whole in omega arith
