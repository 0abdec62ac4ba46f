-- The answers of the calls on files at the boundary, each from the tests that led to it and from the library's answer.
use Prim.Native.Nat.{ℕ, ◌*◌}
use mathlib.Core.Path.{◌≡◌, ap, ◌∙◌}
use mathlib.Core.Bool.{Bool, true, false, not}
use mathlib.Core.Logic.{◌≢◌}
use mathlib.Core.List.{List, [], ◌∷◌, ◌++◌}
use lib.Dec.{eqb, ltb}
use lib.ListN.{length, set}
use borrow.Author.Tests.{eq-eqb, ne_eqb}
use Rattle.basics.specs.Bounds.{any_above}
use Rattle.basics.specs.Refusals.{Refusal, first}
use Rattle.basics.proofs.RefusalLaws.{refuses}
use Rattle.sheet.specs.Sheets.{sheet_refusals, frame_refusals}
use Rattle.run.specs.declared.Record.{Record}
use Rattle.run.specs.Records.{record_bad}
use Rattle.run.specs.Continuing.{is_done}
use Rattle.pbm.specs.Header.{Header, broken, whole, begins_p4, header}
use Rattle.pbm.specs.Pbm.{pbm_text, is_broken, frame_of, body_refusals, raster_refusals, ReadsPbm}
use Rattle.pgm.specs.WritePgm.{maximum, picture, pgm_refusals, WritesPgm}
use Rattle.harness.specs.Boundary.{record_of, holds_no_record, answer_refusal, answered, at_latest}
use Rattle.harness.specs.Files.{picture_refusals, framed, writes_refusals, ReadsSheet, WritesSheet, WritesPicture}
use Rattle.harness.proofs.AnswerLaws.{latest_refuses, carried_answer, answer_fits, room_same}
use Rattle.harness.proofs.AnswerLaws.{room_some, slice_answers, two_stored}

-- WRITING PBM
module _ (width height : ℕ) (sheet out answer : List ℕ) where
  pub write_other : length answer ≢ 1 → {number n : ℕ} → number ≡ at_latest n → n ≡ first (sheet_refusals width height sheet)
      → WritesSheet width height sheet out answer number (out, answer)
  write_other a e f =
      latest_refuses (sheet_refusals width height sheet) [] tt tt tt (writes_refusals width height sheet out answer)
      (rw (ne_eqb (length answer) 1 a)
      (room_same (sheet_refusals width height sheet) tt (ltb (length out) (length (pbm_text width height sheet))))) e f

-- READING PBM
-- the header's and the raster's refusals, by the header that was found
abbrev judged : Bool → Header → List Refusal
judged b broken = (21, not b) ∷ (22, true) ∷ []
judged b (whole width height raster) = (21, not b) ∷ (22, false) ∷
    (frame_refusals width height ++ raster_refusals width height raster)

module _ (file out frame : List ℕ) where
  module _ (a : length frame ≢ 2) (room : List ℕ) (n width height : ℕ) (after : List ℕ)
      (p : ReadsPbm file room n width height after) where
    pub read_other_refuses : n ≢ 0 → ReadsSheet file out frame n (out, frame)
    read_other_refuses z = refuses n z (rw (ne_eqb (length frame) 2 a) (go (begins_p4 file) (header file) p.refusal))
      where
        go : (b : Bool) (h : Header) → n ≡ first (((21, not b) ∷ (22, is_broken h) ∷ frame_of h) ++ body_refusals h room)
            → n ≡ first ((((21, not b) ∷ (22, is_broken h) ∷ frame_of h) ++ body_refusals h out) ++ (11, true) ∷ [])
        go true broken e = e
        go false broken e = e
        go b (whole w l raster) e =
            room_some (judged b (whole w l raster)) tt (ltb (length out) (length raster))
            (ltb (length room) (length raster)) n z e

  module _ (a : length frame ≡ 2) (n width height : ℕ) (after : List ℕ) (p : ReadsPbm file out n width height after) where
    fits : (h : Header) (b : Bool)
        → first ((((21, not b) ∷ (22, is_broken h) ∷ frame_of h) ++ body_refusals h out) ++ answer_refusal 2 frame ∷ [])
        ≡ first (((21, not b) ∷ (22, is_broken h) ∷ frame_of h) ++ body_refusals h out)
    fits broken b = answer_fits (judged b broken) tt 2 frame a
    fits (whole w l raster) b =
        answer_fits (judged b (whole w l raster) ++ (11, ltb (length out) (length raster)) ∷ []) tt 2 frame a

    pub read_accepts : n ≡ 0 → ReadsSheet file out frame 0 (after, set (set frame 0 width) 1 height)
    read_accepts z = carried_answer p (fits (header file) (begins_p4 file)) z (
      after,
      set (set frame 0 width) 1 height,
    ) (λ q. rw (two_stored frame width height a) (ap framed q))

-- WRITING PGM
module _ (words levels out answer : List ℕ) where
  module _ (h : holds_no_record words ≡ false) (run : Record) (q : run ≡ record_of words) where
    pub picture_other : length answer ≢ 1 → {number n : ℕ} → number ≡ at_latest n → n ≡ first (pgm_refusals run levels out)
        → WritesPicture words levels out answer number (out, answer)
    picture_other a e f =
        let r = record_of words in
        latest_refuses ((1, record_bad r) ∷ (8, any_above (maximum r) levels) ∷
        (10, not (eqb (length levels) (r.height * r.width))) ∷ (11, ltb (length out) (length (picture r levels))) ∷ [])
        ((13, not (is_done r)) ∷ []) tt tt tt
        (picture_refusals words levels out answer) (rw (h, ne_eqb (length answer) 1 a)) e
        (f ∙ ap (λ x. first (pgm_refusals x levels out)) q)

    module _ (a : length answer ≡ 1) (n size : ℕ) (after : List ℕ) (p : WritesPgm run levels out n (size, after)) where
      picture_fits : first (picture_refusals words levels out answer) ≡ first (pgm_refusals (record_of words) levels out)
      picture_fits = rw (h, eq-eqb (length answer) 1 a)

      pub picture_answers : (next : List ℕ) → next ≡ answered n (size ∷ []) answer
          → WritesPicture words levels out answer n (after, next)
      picture_answers next e = slice_answers (λ length. length ∷ []) answer next (rw q at p) picture_fits e
