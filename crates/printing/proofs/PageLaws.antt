-- The picture of a sheet of few enough pixels is written: its levels are within the maximum, as a finished run's always are,
-- and its text fits into the room. A sheet of more pixels is refused.
use Prim.Native.Nat.{ℕ, ◌*◌, ◌≤◌, ◌<◌}
use native.Mathlib.Nat.{mul_comm, mul-le-mul}
use native.Mathlib.Omega.{arith}
use mathlib.Core.Path.{◌≡◌, sym, subst, ◌∙◌}
use mathlib.Core.List.{List}
use lib.ListN.{length}
use borrow.Author.Tests.{lt-ltb, le-ltb}
use Rattle.std.specs.Prelude.{Result}
use Rattle.basics.specs.declared.refusal.Refusal.{Refusal}
use Rattle.basics.specs.Refusals.{number, value_or}
use Rattle.run.proofs.Started.{started_sound}
use Rattle.basics.specs.Limits.{longest_side}
use Rattle.sheet.proofs.FrameLaws.{frame_sides, sheet_accepted}
use Rattle.text.specs.Writing.{begun}
use Rattle.text.proofs.WroteLaws.{length_begun, take_begun}
use Rattle.run.specs.declared.Record.{Record}
use Rattle.run.specs.Records.{due}
use Rattle.run.specs.Starting.{start_levels}
use Rattle.run.specs.Continuing.{with_rows}
use Rattle.run.specs.Demand2.{finished}
use Rattle.pgm.specs.WritePgm.{picture, WritesPgm}
use Rattle.pgm.proofs.FinishedLaws.{picture_short}
use Rattle.pgm.proofs.Released.{collected_length, levels_within, pgm_released}
use Rattle.printing.specs.Printing.{most_pixels, text_room, refused_text, cross_run, cross_levels, sheet_text}
use Rattle.printing.specs.Steps.{Prints, PrintsOr, SoundSheet}
use Rattle.printing.proofs.RefusedLaws.{prints_taken}
use Rattle.printing.proofs.CrossLaws.{cross_started}

-- a text at the front of a buffer that has room for it
front_prints : (text buffer : List ℕ) → length text ≤ length buffer → Prints text (length text) (begun text buffer)
front_prints text buffer l = let a = length_begun text buffer l in (omega arith, take_begun text buffer)

module _ (width height : ℕ) (sheet : List ℕ) where
  pub too_many : most_pixels < width * height → refused_text 10 ≡ sheet_text width height sheet
  unfolding sheet_text
  too_many l = rw (lt-ltb most_pixels (width * height) l)

  abbrev whole : Record
  whole = with_rows (cross_run width height) (due (cross_run width height))

  abbrev start : List ℕ
  start = start_levels (cross_run width height) sheet

  abbrev levels : List ℕ
  levels = cross_levels width height sheet

  pub few : width * height ≤ most_pixels → picture whole levels ≡ sheet_text width height sheet
  unfolding sheet_text
  few l = rw (le-ltb most_pixels (width * height) l)

  module _ (s : SoundSheet width height sheet) (l : width * height ≤ most_pixels) where
    text_short : length (picture whole levels) ≤ text_room
    text_short =
        let started = cross_started width height sheet s in
        let sound = started_sound (cross_run width height) start started (due whole) (omega arith) in
        let b = picture_short whole levels sound
        (collected_length (cross_run width height) (finished (cross_run width height) start))
        (levels_within (cross_run width height) start started) in
        let c = mul_comm width height in
        omega arith

    module _ (out : List ℕ) (room : text_room ≤ length out) where
      fits : length (picture whole levels) ≤ length out
      fits = let t = text_short in omega arith

      pub picture_prints : {r : Record} {collected : List ℕ} → (r ≡ whole) × (collected ≡ levels)
          → (result : Result ℕ Refusal) (after : List ℕ) → WritesPgm r collected out (number result) (value_or 0 result, after)
          → PrintsOr (sheet_text width height sheet) result out after
      picture_prints {r} {collected} e result after b =
          let a = subst (λ x. WritesPgm x levels out (number result) (value_or 0 result, after)) e.0
          (subst (λ x. WritesPgm r x out (number result) (value_or 0 result, after)) e.1 b) in
          let z = a.refusal ∙ pgm_released (cross_run width height) start (cross_started width height sheet s) out fits in
          let p = front_prints (picture whole levels) out fits in
          let q = subst (λ x. Prints (picture whole levels) x.0 x.1) (sym (a.accepted z)) p in
          prints_taken _ out after result z (q.0, q.1 ∙ few l)

-- the pixels of a sound sheet
pub pixels_fit : (width height : ℕ) (sheet : List ℕ) → SoundSheet width height sheet → width * height ≤ longest_side * longest_side
pixels_fit width height sheet s =
    let f = frame_sides width height (sheet_accepted width height sheet s).0 in
    mul-le-mul f.0.1 f.1.1
