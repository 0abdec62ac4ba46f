-- What the loop over the frame rows keeps: the rows so far stand in the buffer, and with those left they make the whole.
use Prim.Native.Nat.{ℕ, zero, suc, ◌+◌, ◌-◌, ◌*◌, ◌≤◌, ◌<◌}
use native.Mathlib.Nat.{suc-mul}
use native.Mathlib.Omega.{arith}
use mathlib.Core.Path.{◌≡◌, sym, ap, ap₂, ◌∙◌}
use mathlib.Core.List.{List, [], ◌++◌, append_assoc, append-nil}
use lib.ListN.{length, take, drop, length-append}
use lib.Seq.{take_at, drop_at}
use borrow.Rule.Slice.PartMut.{put_mid}
use Rattle.pgm.specs.PgmText.{frame_row, levels_text}
use Rattle.text.specs.Writing.{Wrote}
use Rattle.text.proofs.WroteLaws.{wrote_none, wrote_both, wrote_as, room_second}

pub record LevelsWriting (width height : ℕ) (levels : List ℕ) (buffer : List ℕ) (size : ℕ) (rest : List ℕ) (end : ℕ)
    (out : List ℕ) : Type 0 where
  pub text : List ℕ
  pub rows : ℕ
  pub wide : size ≡ width
  pub left : length rest ≡ rows * width
  pub wrote : Wrote text buffer out end
  pub whole : text ++ levels_text width rows rest ≡ levels_text width height levels

pub levels_start : (width height : ℕ) (levels buffer : List ℕ) (size : ℕ) (rest : List ℕ) → size ≡ width
    → length levels ≡ height * width → rest ≡ levels → LevelsWriting width height levels buffer size rest 0 buffer
levels_start width height levels buffer size rest s l e = record {
  text = [];
  rows = height;
  wide = s;
  left = ap length e ∙ l;
  wrote = wrote_none buffer;
  whole = ap (levels_text width height) e;
}

module _ {width height : ℕ} {levels : List ℕ} {buffer : List ℕ} {size : ℕ} {rest : List ℕ} {end : ℕ} {out : List ℕ}
    (h : LevelsWriting width height levels buffer size rest end out) (some : 0 < width)
    (fits : length (levels_text width height levels) ≤ length buffer) where
  -- what stands is a part of the whole
  pub levels_within : end ≤ length (levels_text width height levels)
  levels_within =
      let e = h.wrote.0 in
      let w = ap length h.whole in let a = length-append h.text (levels_text width h.rows rest) in omega arith

  -- the next row has room, and leaves a row less
  module _ (row after : List ℕ) (e : rest ≡ row ++ after) (l : length row ≡ size) where
    one_more : (rows : ℕ) → length rest ≡ rows * width → rows ≡ suc (rows - 1)
    one_more zero q = absurd (let a = ap length e in let b = length-append row after in let w = h.wide in omega arith)
    one_more (suc rows) q = omega arith

    split : (h.text ++ frame_row row) ++ levels_text width (h.rows - 1) after ≡ levels_text width height levels
    unfolding levels_text
    split =
        let n : length row ≡ width = l ∙ h.wide in
        append_assoc h.text (frame_row row) (levels_text width (h.rows - 1) after)
        ∙ ap₂ (λ here later. h.text ++ (frame_row here ++ levels_text width (h.rows - 1) later))
        (sym (ap (take width) e ∙ take_at row after width n)) (sym (ap (drop width) e ∙ drop_at row after width n))
        ∙ ap (λ rows. h.text ++ levels_text width rows rest) (sym (one_more h.rows h.left))
        ∙ h.whole

    pub levels_room : (0 < length row) × (length (frame_row row) ≤ length (take (length out - end) (drop end out)))
    levels_room =
        let w = h.wide in
        let left = levels_text width (h.rows - 1) after in
        let e = sym (append_assoc h.text (frame_row row) left) ∙ split in
        let r = room_second h.text (frame_row row ++ left) buffer (let k = ap length e in omega arith) out end h.wrote in
        let a = length-append (frame_row row) left in
        (omega arith, omega arith)

    pub levels_turn : (part : List ℕ) (n same : ℕ) → same ≡ size
        → Wrote (frame_row row) (take (length out - end) (drop end out)) part n
        → LevelsWriting width height levels buffer same after (end + n) (put_mid end (length out - end) out part)
    levels_turn part n same s p = record {
      text = h.text ++ frame_row row;
      rows = h.rows - 1;
      wide = s ∙ h.wide;
      left =
          let m = suc-mul (h.rows - 1) width in
          let r = ap (λ n. n * width) (one_more h.rows h.left) in
          let a = ap length e in
          let b = length-append row after in
          let w = h.wide in
          let k = h.left in
          omega arith;
      wrote = wrote_both h.text (frame_row row) buffer out part end n h.wrote p;
      whole = split;
    }

  pub levels_end : length rest < size → Wrote (levels_text width height levels) buffer out end
  unfolding levels_text
  levels_end l = wrote_as h.text (levels_text width height levels) _ _ _ (none h.rows h.left ∙ h.whole) h.wrote
    where
      none : (rows : ℕ) → length rest ≡ rows * width → h.text ≡ h.text ++ levels_text width rows rest
      none zero q = sym (append-nil h.text)
      none (suc rows) q = absurd (let m = suc-mul rows width in let w = h.wide in omega arith)
