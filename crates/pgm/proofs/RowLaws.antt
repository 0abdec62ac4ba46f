-- How a frame row is written: the loop over its rest keeps the text so far in the buffer, and with what is left it makes the
-- whole.
use Prim.Native.Nat.{ℕ, ◌+◌, ◌-◌, ◌≤◌, ◌<◌}
use native.Mathlib.Numerals.{add-one}
use native.Mathlib.Omega.{arith}
use mathlib.Core.Path.{◌≡◌, refl, sym, ap, ap₂, ◌∙◌}
use mathlib.Core.Bool.{Bool, true, false, cond}
use mathlib.Core.List.{List, [], ◌∷◌, ◌++◌, append_assoc}
use lib.Dec.{leb}
use lib.ListN.{length, get_or, take, drop, set, length-append, length-drop, drop_of_length-le}
use lib.Seq.{take_all, drop-cons}
use borrow.Author.Tests.{leb-true}
use borrow.Rule.Slice.PartMut.{put_mid}
use Rattle.decimal.specs.Numbers.{digits}
use Rattle.decimal.proofs.NumberLaws.{length_below}
use Rattle.pgm.specs.Lines.{line_width}
use Rattle.pgm.specs.PgmText.{stays, parting, column_after, level_row, frame_row}
use Rattle.pgm.specs.Writing.{level_end}
use Rattle.text.specs.Writing.{Wrote}
use Rattle.text.proofs.WroteLaws.{part_is, wrote_none, wrote_byte, wrote_as, wrote_both, room_first, room_second}

-- where a number goes
module _ (column size : ℕ) where
  pub parting_stays : stays column size ≡ true → 32 ≡ parting column size
  unfolding parting
  parting_stays e = rw e

  pub parting_begins : stays column size ≡ false → 10 ≡ parting column size
  unfolding parting
  parting_begins e = rw e

  pub after_stays : stays column size ≡ true → column + 1 + size ≡ column_after column size
  unfolding column_after
  after_stays e = rw e

  pub after_begins : stays column size ≡ false → size ≡ column_after column size
  unfolding column_after
  after_begins e = rw e

-- a number leaves its line at most a blank and its own digits longer
pub after_bounded : (column size : ℕ) → column_after column size ≤ column + 1 + size
unfolding column_after
after_bounded column size = go (stays column size)
  where
    go : (b : Bool) → cond b (column + 1 + size) size ≤ column + 1 + size
    go true = omega arith
    go false = omega arith

-- a number of five digits or less leaves its line within its width
after_within : (column size : ℕ) → size ≤ 5 → column_after column size ≤ line_width
unfolding column_after stays
after_within column size small = go (leb (column + 1 + size) line_width) refl
  where
    go : (b : Bool) → leb (column + 1 + size) line_width ≡ b → cond b (column + 1 + size) size ≤ line_width
    go true e = leb-true (column + 1 + size) line_width e
    go false e = omega arith

-- the rest of a frame row
pub record RestWriting (rest : List ℕ) (start : ℕ) (buffer : List ℕ) (end column i : ℕ) (out : List ℕ) : Type 0 where
  pub text : List ℕ
  pub wrote : Wrote text buffer out end
  pub whole : text ++ level_row column (drop i rest) ≡ level_row start rest
  pub bounded : column ≤ line_width

pub rest_start : (rest : List ℕ) (start : ℕ) (buffer : List ℕ) → start ≤ line_width → RestWriting rest start buffer 0 start 0 buffer
rest_start rest start buffer l = record { text = []; wrote = wrote_none buffer; whole = refl; bounded = l }

module _ {rest : List ℕ} {start : ℕ} {buffer : List ℕ} {end column i : ℕ} {out : List ℕ}
    (h : RestWriting rest start buffer end column i out) (fits : length (level_row start rest) ≤ length buffer) where
  -- what stands is a part of the whole
  pub rest_within : end ≤ length (level_row start rest)
  rest_within =
      let e = h.wrote.0 in
      let w = ap length h.whole in let a = length-append h.text (level_row column (drop i rest)) in omega arith

  room : (left : List ℕ) → h.text ++ left ≡ level_row start rest → length left ≤ length (take (length out - end) (drop end out))
  room left w = room_second h.text left buffer (let e = ap length w in omega arith) out end h.wrote

  abbrev here : ℕ
  here = get_or rest i 0

  abbrev step : List ℕ
  step = parting column (length (digits here)) ∷ digits here

  abbrev left : List ℕ
  left = level_row (column_after column (length (digits here))) (drop (i + 1) rest)

  split : i < length rest → (h.text ++ step) ++ left ≡ level_row start rest
  unfolding level_row
  split l =
      let d : drop i rest ≡ here ∷ drop (i + 1) rest = drop-cons rest i 0 l ∙ ap (λ n. here ∷ drop n rest) (sym (add-one i)) in
      append_assoc h.text step left
      ∙ ap (λ left. h.text ++ level_row column left) (sym d)
      ∙ h.whole

  pub rest_room : (level : ℕ) → level ≡ get_or rest i 0 → i < length rest
      → 1 + length (digits level) ≤ length (take (length out - end) (drop end out))
  rest_room level q l =
      let n = ap (λ k. length (digits k)) q in
      let r = room (step ++ left) (sym (append_assoc h.text step left) ∙ split l) in
      let a = length-append step left in
      omega arith

  pub rest_turn : (level : ℕ) (part : List ℕ) (size after : ℕ) → level ≡ get_or rest i 0 → level < level_end → i < length rest
      → Wrote (parting column (length (digits level)) ∷ digits level) (take (length out - end) (drop end out)) part size
      → after ≡ column_after column (size - 1)
      → RestWriting rest start buffer (end + size) after (i + 1) (put_mid end (length out - end) out part)
  rest_turn level part size after q small l w e =
      let p = wrote_as (parting column (length (digits level)) ∷ digits level) step _ _ _
      (ap (λ k. parting column (length (digits k)) ∷ digits k) q) w in
      let n = p.0 in
      let five : length (digits here) ≤ 5 = length_below 5 here (omega arith) (omega arith) in
      let f : after ≡ column_after column (length (digits here)) =
      e ∙ ap (column_after column) (let m : size - 1 ≡ length (digits here) = omega arith in m) in
      let b = after_within column (length (digits here)) five in
      record {
        text = h.text ++ step;
        wrote = wrote_both h.text step buffer out part end size h.wrote p;
        whole = ap (λ k. (h.text ++ step) ++ level_row k (drop (i + 1) rest)) f ∙ split l;
        bounded = omega arith;
      }

  last_split : length rest ≤ i → h.text ++ (10 ∷ []) ≡ level_row start rest
  unfolding level_row
  last_split l = ap (λ left. h.text ++ level_row column left) (sym (drop_of_length-le rest l)) ∙ h.whole

  pub rest_last : length rest ≤ i → end < length out
  rest_last l = let r = room (10 ∷ []) (last_split l) in let a = ap length (part_is end out) in let d = length-drop end out in
      omega arith

  pub rest_end : length rest ≤ i → Wrote (level_row start rest) buffer (set out end 10) (end + 1)
  rest_end l =
      wrote_as (h.text ++ (10 ∷ [])) (level_row start rest) _ _ _ (last_split l)
      (wrote_byte h.text 10 buffer out end h.wrote (rest_last l))

-- a frame row is its first number and the rest
row_split : (row : List ℕ) (level : ℕ) → 0 < length row → level ≡ get_or row 0 0
    → digits level ++ level_row (length (digits level)) (take (length row - 1) (drop 1 row)) ≡ frame_row row
unfolding frame_row
row_split [] level l e = absurd (omega arith)
row_split (first ∷ rest) level l e =
    let n : length rest ≤ length (first ∷ rest) - 1 = omega arith in
    ap₂ (λ k left. digits k ++ level_row (length (digits k)) left) e (take_all (length (first ∷ rest) - 1) rest n)

module _ (row : List ℕ) (level : ℕ) (buffer : List ℕ) (some : 0 < length row) (first : level ≡ get_or row 0 0)
    (fits : length (frame_row row) ≤ length buffer) where
  abbrev later : List ℕ
  later = take (length row - 1) (drop 1 row)

  row_room : length (digits level ++ level_row (length (digits level)) later) ≤ length buffer
  row_room = let e = ap length (row_split row level some first) in omega arith

  pub row_first : length (digits level) ≤ length buffer
  row_first = room_first (digits level) (level_row (length (digits level)) later) buffer row_room

  module _ (b : List ℕ) (m : ℕ) (p : Wrote (digits level) buffer b m) where
    pub row_rest : level < level_end
        → (m ≤ line_width) × (length (level_row m later) ≤ length (take (length b - m) (drop m b)))
    row_rest small =
        let five : length (digits level) ≤ 5 = length_below 5 level (omega arith) (omega arith) in
        let e = p.0 in (
          omega arith,
          rw e (rw e at (room_second (digits level) (level_row (length (digits level)) later) buffer row_room b m p)),
        )

    pub row_wrote : (part : List ℕ) (n : ℕ) → Wrote (level_row m later) (take (length b - m) (drop m b)) part n
        → Wrote (frame_row row) buffer (put_mid m (length b - m) b part) (m + n)
    row_wrote part n q =
        wrote_as (digits level ++ level_row (length (digits level)) later) (frame_row row) _ _ _ (row_split row level some first)
        (wrote_both (digits level) (level_row (length (digits level)) later) buffer b part m n p
        (wrote_as (level_row m later) (level_row (length (digits level)) later) _ _ _ (ap (λ k. level_row k later) p.0) q))
