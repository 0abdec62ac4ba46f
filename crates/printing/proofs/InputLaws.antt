-- What an input is found to be. The room lent to the reader is never short, for the raster is a part of the input; so the
-- reader's refusals are the file's.
-- Where it refuses nothing, the header is whole, and the front of the room is the sheet.
use Prim.Native.Nat.{ℕ, ◌*◌, ◌≤◌, ◌<◌}
use native.Mathlib.Omega.{arith}
use mathlib.Core.Path.{◌≡◌, refl, sym, ap, subst, ◌∙◌}
use mathlib.Core.Logic.{◌≢◌}
use mathlib.Core.Bool.{Bool, false, not}
use mathlib.Core.List.{List, [], ◌∷◌, ◌++◌, append_assoc}
use lib.ListN.{length, take, length-append}
use borrow.Author.Tests.{le-leb, lt-leb, eq-eqb, ne_eqb, le-ltb}
use Rattle.basics.specs.Limits.{longest_side}
use Rattle.basics.specs.Refusals.{Refusal, first}
use Rattle.basics.proofs.RefusalLaws.{first_both, passed, first_idle}
use Rattle.sheet.specs.Sheets.{row_bytes, frame_refusals}
use Rattle.sheet.proofs.FrameLaws.{frame_sides, accept_sheet}
use Rattle.pbm.specs.Header.{Header, broken, whole, begins_p4, header}
use Rattle.pbm.specs.Pbm.{cleared, is_broken, frame_of, header_refusals, raster_refusals, body_refusals, read_refusals, ReadsPbm}
use Rattle.pbm.proofs.PackingLaws.{length_cleared}
use Rattle.text.proofs.WroteLaws.{length_begun}
use Rattle.pbm.proofs.LayoutLaws.{whole_layout}
use Rattle.pbm.proofs.Reading.{was_read, sheet_read}
use Rattle.printing.specs.Printing.{input_end, refused_text, sheet_text, raster_of, file_refusals, sound_text, printed}
use Rattle.printing.specs.Steps.{SoundSheet}

-- WHAT IS PRINTED, by cases
module _ (input : List ℕ) where
  pub too_long : input_end ≤ length input → refused_text 10 ≡ printed input
  unfolding printed
  too_long l = rw (le-leb input_end (length input) l)

  module _ (small : length input < input_end) where
    file_refused : (number : ℕ) → number ≢ 0 → number ≡ first (file_refusals input) → refused_text number ≡ printed input
    unfolding printed
    file_refused number n e =
        rw (lt-leb input_end (length input) small, ne_eqb (first (file_refusals input)) 0 (λ z. n (e ∙ z))) (ap refused_text e)

    pub file_sound : first (file_refusals input) ≡ 0 → sound_text (header input) ≡ printed input
    unfolding printed
    file_sound z = rw (lt-leb input_end (length input) small, eq-eqb (first (file_refusals input)) 0 z)

-- the raster is a part of the file
raster_within : (file : List ℕ) (width height : ℕ) (raster : List ℕ) → header file ≡ whole width height raster
    → length raster ≤ length file
raster_within file width height raster e =
    let y = whole_layout file width height raster e in
    let b = ap length y.bytes in
    let last : List ℕ = y.white₃ ∷ raster in
    let third = y.height_digits ++ last in
    let second = y.white₂ ++ third in
    let first = y.width_digits ++ second in
    let p = length-append y.white₁ first in
    let q = length-append y.width_digits second in
    let r = length-append y.white₂ third in
    let s = length-append y.height_digits last in
    omega arith

room_idle : (front : List Refusal) (room : List ℕ) (h : Header)
    → ((width height : ℕ) (raster : List ℕ) → h ≡ whole width height raster → length raster ≤ length room)
    → first (front ++ body_refusals h room) ≡ first (front ++ raster_of h)
room_idle front room broken fits = refl
room_idle front room (whole width height raster) fits =
    ap (λ (t : Bool). first (front ++ (raster_refusals width height raster ++ (11, t) ∷ [])))
    (le-ltb (length room) (length raster) (fits width height raster refl))
    ∙ ap first (sym (append_assoc front (raster_refusals width height raster) ((11, false) ∷ [])))
    ∙ first_idle 11 (front ++ raster_refusals width height raster)

-- a file without refusals whose header is whole: its sheet
module _ (input : List ℕ) (none : first (file_refusals input) ≡ 0) where
  unbroken : (is_broken (header input) ≡ false) × (first (frame_of (header input) ++ raster_of (header input)) ≡ 0)
  unbroken =
      let rest = frame_of (header input) ++ raster_of (header input) in
      passed 22 (is_broken (header input)) rest (λ n. omega arith)
      (passed 21 (not (begins_p4 input)) ((22, is_broken (header input)) ∷ rest) (λ n. omega arith) none).1

  module _ (width height : ℕ) (raster : List ℕ) (e : header input ≡ whole width height raster) where
    parts : (first (frame_refusals width height) ≡ 0) × (first (raster_refusals width height raster) ≡ 0)
    parts = first_both (frame_refusals width height) (raster_refusals width height raster) tt
        (sym (ap (λ h. first (frame_of h ++ raster_of h)) e) ∙ unbroken.1)

    pub sheet_sound : SoundSheet width height (cleared width height raster)
    sheet_sound = sym (accept_sheet width height (cleared width height raster) parts.0 (length_cleared width height raster))

-- WHAT WAS READ: a sheet of `size` bytes at the front of the room
pub record Found (input : List ℕ) (width height size : ℕ) (room : List ℕ) : Type 0 where
  pub width_most : width ≤ longest_side
  pub few : size ≤ input_end
  pub fits : size ≤ length room
  pub sound : SoundSheet width height (take size room)
  pub text : sheet_text width height (take size room) ≡ printed input

module _ (input room : List ℕ) (small : length input < input_end) (space : input_end ≤ length room) where
  same_refusals : first (read_refusals input room) ≡ first (file_refusals input)
  same_refusals = room_idle (header_refusals input) room (header input)
      (λ width height raster e. let w = raster_within input width height raster e in omega arith)

  module _ {number width height : ℕ} {after : List ℕ} (a : ReadsPbm input room number width height after) where
    number_is : number ≡ first (file_refusals input)
    number_is = a.refusal ∙ same_refusals

    pub read_refused : number ≢ 0 → refused_text number ≡ printed input
    read_refused n = file_refused input small number n number_is

    module _ (z : number ≡ 0) where
      found : Found input width height (height * row_bytes width) after
      found =
          let r = was_read (subst (λ n. ReadsPbm input room n width height after) z a) in
          let sheet = cleared width height r.raster in
          let good = sym number_is ∙ z in
          let size = r.size in
          let within = raster_within input width height r.raster r.header_is in
          let same = length_cleared width height r.raster in
          let long = ap length r.sheet ∙ length_begun sheet room (omega arith) in
          let front = sheet_read r in
          record {
            width_most = (frame_sides width height r.frame_accepted).0.1;
            few = omega arith;
            fits = omega arith;
            sound = subst (SoundSheet width height) (sym front) (sheet_sound input good width height r.raster r.header_is);
            text = ap (sheet_text width height) front ∙ sym (ap sound_text r.header_is) ∙ file_sound input small good;
          }

      -- the row's bytes as they were counted
      pub read_found : {row : ℕ} → row ≡ row_bytes width → Found input width height (height * row) after
      read_found e = subst (λ n. Found input width height (height * n) after) (sym e) found
