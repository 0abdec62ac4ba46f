-- Round trips, of the contracts alone. A written text is laid out as a header and its raster, so reading finds the frame and the
-- cleared sheet, which has the pixels of the sheet. Clearing again changes nothing, so what was read is written as the text of
-- the raster that the file had; and sheets with the same pixels are cleared to one, so they are written alike.
use Prim.Native.Nat.{ℕ, ◌*◌, ◌≤◌}
use native.Mathlib.Omega.{arith}
use mathlib.Core.Path.{◌≡◌, refl, sym, ap, ap₂, subst, ◌∙◌}
use mathlib.Core.Logic.{◌≢◌}
use mathlib.Core.Bool.{true}
use mathlib.Core.List.{List, [], ◌∷◌, ◌++◌, append_assoc}
use lib.ListN.{length, take}
use borrow.Author.Tests.{le-ltb}
use Rattle.basics.specs.Refusals.{Refusal, first, Answers}
use Rattle.basics.proofs.RefusalLaws.{first_accepted, first_both}
use Rattle.decimal.specs.Numbers.{digits}
use Rattle.decimal.proofs.NumberLaws.{value_digits, digits_all, digits_some}
use Rattle.sheet.specs.Sheets.{row_bytes, pixel, frame_refusals, sheet_refusals}
use Rattle.sheet.specs.SamePixels.{SamePixels}
use Rattle.sheet.proofs.FrameLaws.{accept_sheet, sheet_accepted}
use Rattle.sheet.proofs.SamePixelsLaws.{same_refusals}
use Rattle.text.specs.Writing.{begun}
use Rattle.text.proofs.WroteLaws.{take_begun}
use Rattle.pbm.specs.Header.{is_white, all, begins_p4, Header, broken, whole, header, Layout}
use Rattle.pbm.specs.Pbm.{cleared, room_refusals, read_refusals, read_answer, ReadsPbm, pbm_header, pbm_text, write_refusals}
use Rattle.pbm.specs.Pbm.{WritesPbm}
use Rattle.pbm.specs.RoundTrips.{sheet_in, WriteThenRead, ReadThenWrite, WrittenAlike}
use Rattle.pbm.proofs.RunLaws.{all_digits}
use Rattle.pbm.proofs.LayoutLaws.{layout_whole, p4_begins}
use Rattle.pbm.proofs.PackingLaws.{length_cleared, pixel_cleared, cleared_same, cleared_twice}
use Rattle.pbm.proofs.Reading.{raster_exact, whole_accepted, WasRead, was_read, sheet_read}
use Rattle.pbm.proofs.Writing.{write_unique}

module _ (width height : ℕ) (sheet : List ℕ) where
  -- a written text is laid out as a file is
  text_layout : Layout (pbm_text width height sheet) width height (cleared width height sheet)
  unfolding pbm_text pbm_header all is_white
  text_layout = record {
    white₁ = 10 ∷ [];
    width_digits = digits width;
    white₂ = 32 ∷ [];
    height_digits = digits height;
    white₃ = 10;
    bytes = simp append_assoc;
    some = (λ z. (let l = ap length z in omega arith), some width, λ z. (let l = ap length z in omega arith), some height);
    white = (refl, refl, refl);
    digits = (sym (all_digits (digits width)) ∙ digits_all width, sym (all_digits (digits height)) ∙ digits_all height);
    values = (sym (value_digits width), sym (value_digits height));
  }
    where
      some : (n : ℕ) → digits n ≢ []
      some n z = let l = ap length z in let d = digits_some n in omega arith

  text_header : header (pbm_text width height sheet) ≡ whole width height (cleared width height sheet)
  text_header = layout_whole (pbm_text width height sheet) width height (cleared width height sheet) text_layout

  text_begins : begins_p4 (pbm_text width height sheet) ≡ true
  unfolding pbm_text pbm_header
  text_begins = p4_begins _

  module _ (out : List ℕ) (f : first (frame_refusals width height) ≡ 0) (room : height * row_bytes width ≤ length out) where
    -- with room for the raster, the text is accepted
    text_accepted : first (read_refusals (pbm_text width height sheet) out) ≡ 0
    text_accepted =
        let n = length_cleared width height sheet in
        whole_accepted (pbm_text width height sheet) out text_begins text_header f
        (sym (raster_exact width height (cleared width height sheet) n)) (omega arith)

    -- and reading it gives the frame and the cleared sheet
    read_text : (number width' height' : ℕ) (after : List ℕ)
        → ReadsPbm (pbm_text width height sheet) out number width' height' after
        → (number ≡ 0) × (width' ≡ width) × (height' ≡ height) ×
        (take (height * row_bytes width) after ≡ cleared width height sheet)
    read_text number width' height' after r =
        let z = r.refusal ∙ text_accepted in
        let a = r.accepted z ∙ ap (λ h. read_answer h out) text_header in
        let b : after ≡ begun (cleared width height sheet) out = ap (λ (t : ℕ × ℕ × List ℕ). t.2) a
        ∙ ap (λ raster. begun raster out) (cleared_twice width height sheet) in (
          z,
          ap (λ (t : ℕ × ℕ × List ℕ). t.0) a,
          ap (λ (t : ℕ × ℕ × List ℕ). t.1) a,
          ap₂ take (sym (length_cleared width height sheet)) b ∙ take_begun (cleared width height sheet) out,
        )

  -- an accepted sheet is written as its text, where there is room
  write_text : (room : List ℕ) → first (sheet_refusals width height sheet) ≡ 0
      → length (pbm_text width height sheet) ≤ length room
      → (number size : ℕ) (after : List ℕ) → WritesPbm width height sheet room number size after
      → (number ≡ 0) × (take size after ≡ pbm_text width height sheet)
  write_text room s l number size after w =
      let q : first (write_refusals width height sheet room) ≡ 0 =
      first_accepted (sheet_refusals width height sheet) (room_refusals (length (pbm_text width height sheet)) room) tt s
      ∙ rw (le-ltb (length room) (length (pbm_text width height sheet)) l) in
      let z = w.refusal ∙ q in
      let a = w.accepted z in
      (z, ap (λ (t : ℕ × List ℕ). take t.0 t.1) a ∙ take_begun (pbm_text width height sheet) room)

-- clearing changes nothing of what is written
text_again : (width height : ℕ) (sheet : List ℕ) → pbm_text width height (cleared width height sheet) ≡ pbm_text width height sheet
unfolding pbm_text
text_again width height sheet = ap (λ raster. pbm_header width height ++ raster) (cleared_twice width height sheet)

-- WRITING AND THEN READING
pub write_then_read : WriteThenRead
write_then_read width height sheet room size written w out enough number width' height' after r =
    let s = (first_both (sheet_refusals width height sheet) (room_refusals (length (pbm_text width height sheet)) room) tt
    (sym w.refusal)).0 in
    let file : take size written ≡ pbm_text width height sheet = ap (λ (t : ℕ × List ℕ). take t.0 t.1) (w.accepted refl)
    ∙ take_begun (pbm_text width height sheet) room in
    let t = read_text width height sheet out (sheet_accepted width height sheet s).0 enough number width' height' after
    (rw file at r) in (
      t.0,
      t.1,
      t.2,
      λ row col a b. ap (λ bytes. pixel width bytes row col) t.3 ∙ pixel_cleared width height sheet row col a b,
    )

-- READING AND THEN WRITING
module _ (file out : List ℕ) (width height : ℕ) (after : List ℕ) (r : WasRead file out width height after) where
  rewritten : (room : List ℕ) → length (pbm_text width height r.raster) ≤ length room → (number size : ℕ) (written : List ℕ)
      → WritesPbm width height (sheet_in width height after) room number size written
      → (number ≡ 0) × (take size written ≡ pbm_text width height r.raster)
  rewritten room l number size written w =
      let sheet = cleared width height r.raster in
      let s = sym (accept_sheet width height sheet r.frame_accepted (length_cleared width height r.raster)) in
      let e = text_again width height r.raster in
      let n = ap length e in
      let v : WritesPbm width height sheet room number size written = rw (sheet_read r) at w in
      let t = write_text width height sheet room s (omega arith) number size written v in
      (t.0, t.1 ∙ e)

  -- a file in the writer's layout is the text of its own raster
  text_of : Header → List ℕ
  text_of broken = []
  text_of (whole w h raster) = pbm_text w h raster

  same_file : (width' height' : ℕ) (sheet : List ℕ) → file ≡ pbm_text width' height' sheet
      → pbm_text width height r.raster ≡ file
  unfolding text_of
  same_file width' height' sheet e =
      ap text_of (sym r.header_is ∙ ap header e ∙ text_header width' height' sheet) ∙ text_again width' height' sheet ∙ sym e

pub read_then_write : ReadThenWrite
read_then_write file out width height after a =
    let r = was_read a in (
      r.raster,
      r.header_is,
      λ room l number size written w. (
        (rewritten file out width height after r room l number size written w).0,
        (rewritten file out width height after r room l number size written w).1,
        λ width' height' sheet e. (rewritten file out width height after r room l number size written w).1
            ∙ same_file file out width height after r width' height' sheet e,
      ),
    )

-- PADDING BITS CHANGE NOTHING: the two sheets have the same refusals and the same text
same_text : (width height : ℕ) (one other : List ℕ) → SamePixels width height one other
    → pbm_text width height one ≡ pbm_text width height other
unfolding pbm_text
same_text width height one other same = ap (λ raster. pbm_header width height ++ raster)
    (cleared_same width height one other same)

pub written_alike : WrittenAlike
written_alike width height one other size_same same out m n size size' x y a b =
    let text = same_text width height one other same in
    let refusals = same_refusals width height one other size_same in
    let c : WritesPbm width height other out m size x = subst (λ (p : List Refusal × List ℕ).
    Answers {A = ℕ × List ℕ} (p.0 ++ room_refusals (length p.1) out) (0, out)
    (λ answer. answer ≡ (length p.1, begun p.1 out)) m (size, x)) (λ i. (refusals i, text i)) a in
    let u = write_unique width height other out m n size size' x y c b in
    (u.0, ap (λ (t : ℕ × List ℕ). t.0) u.1, ap (λ (t : ℕ × List ℕ). t.1) u.1)
