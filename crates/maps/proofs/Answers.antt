-- The start levels are what the scan theorem asks, so the finished levels are at most R + 1 exactly on the foreground dilated by its
-- sizes; and the sheet packed of these is the answer.
use Prim.Native.Nat.{ℕ, suc, ◌+◌, ◌-◌, ◌*◌, ◌≤◌, ◌<◌}
use native.Mathlib.Nat.{le_refl}
use native.Mathlib.Omega.{arith}
use mathlib.Core.Path.{◌≡◌, refl, sym, ap, ◌∙◌}
use mathlib.Core.Bool.{Bool, true, false, cond}
use mathlib.Core.List.{List}
use lib.ListN.{length, get_or, replicate}
use borrow.Author.Tests.{eq-eqb, le-ltb}
use Rattle.basics.specs.Limits.{highest_cap}
use Rattle.basics.specs.Refusals.{first}
use Rattle.basics.proofs.RefusalLaws.{accepts}
use Rattle.grid.specs.Points.{Point}
use Rattle.grid.specs.Sizes.{dilated_by_sizes}
use Rattle.grid.specs.Figures.{reach}
use Rattle.grid.proofs.ReachLaws.{figure_in}
use Rattle.element.proofs.Accepted.{accepted_origin}
use Rattle.sheet.specs.Sheets.{pixel, row_bytes}
use Rattle.row.specs.RowRule.{none}
use Rattle.scan.specs.Starts.{OwnStart, DilationStart, on_canvas}
use Rattle.scan.proofs.Dilation.{found_frame, found_by_sizes}
use Rattle.scan.proofs.ScanLaws.{rows_length}
use Rattle.run.specs.declared.Record.{Record}
use Rattle.run.specs.Records.{area_width, area_height, area_of, due, margin, foreign, record_bad}
use Rattle.run.specs.Starting.{start_levels, framed, dilation_refusals, StartsDilation}
use Rattle.run.specs.Kinds.{is_held_at}
use Rattle.run.specs.Provisional.{provisional_refusals}
use Rattle.run.specs.Series.{dilation}
use Rattle.run.specs.Pictures.{frame_level, thresholded}
use Rattle.run.specs.Demand2.{finished}
use Rattle.run.proofs.Demand2.{dilation_start}
use Rattle.run.proofs.LevelLaws.{range_iff}
use Rattle.run.proofs.PictureAnswers.{view_accepted}
use Rattle.run.proofs.RecordLaws.{sound, bad_rows}
use Rattle.run.proofs.Started.{IsStart, is_start}
use Rattle.run.proofs.StartLevels.{framed_on, place_is}
use Rattle.run.proofs.Starts.{Judged, judged, dilation_taken, canvas_taken}
use Rattle.run.specs.declared.Input.{Input}
use Rattle.filters.specs.Filters.{IsSheet, foreground_of, element_of}
use Rattle.filters.proofs.SheetAnswers.{tested_sheet}
use Rattle.maps.specs.Maps.{Buffers, size_in, size_of, map_refusals, DilatesByMap}
use Rattle.maps.specs.Raising.{raised, map_record, StartsByMap, Finishes}
use Rattle.maps.proofs.SeenLaws.{sizes_small}
use Rattle.maps.proofs.Refusing.{Taken, taken}

-- a dilation that starts, and its levels
module _ (input : Input) (sheet bytes : List ℕ) (cap : ℕ) (lent : List ℕ)
    (z : first (dilation_refusals input.width input.height sheet input.side bytes cap lent) ≡ 0) where
  abbrev r : Record
  r = map_record input bytes cap

  pub input_judged : Judged input.width input.height sheet input.side bytes
  input_judged = judged input.width input.height sheet input.side bytes
      (dilation_taken input.width input.height sheet input.side bytes cap lent z).0

  pub cap_small : cap ≤ highest_cap
  cap_small = (dilation_taken input.width input.height sheet input.side bytes cap lent z).1

  pub is_started : IsStart r (start_levels r sheet)
  is_started = is_start (dilation input.width input.height sheet input.side bytes cap lent (accepts _ z refl))

  abbrev plain : DilationStart (area_of r) input.width input.height cap (reach input.side) (foreground_of input sheet)
      (element_of input bytes) (start_levels r sheet)
  plain = dilation_start input.width input.height sheet input.side bytes input_judged.element cap
      (sound r is_started.taken)

  -- what the start answers is a record that a start could give
  pub start_taken : {number : ℕ} {run : Record} {levels : List ℕ}
      → StartsDilation input.width input.height sheet input.side bytes cap lent number (run, levels) → foreign run ≡ false
  start_taken a = rw (ap (λ t. t.0) (a.accepted (a.refusal ∙ z))) is_started.taken

  -- what the start gives, with the levels raised by a map
  module _ (map : List ℕ) {run : Record} {levels : List ℕ} (s : StartsByMap input sheet bytes cap map run levels) where
    abbrev own : Point → ℕ
    own a = suc cap - size_of input map a

    on : (row col : ℕ) → row < area_height r → col < area_width r → foreground_of input sheet (on_canvas (margin r) row col)
        → get_or levels (row * area_width r + col) 0 ≡ own (on_canvas (margin r) row col)
    on row col a b h =
        let f = framed_on input.width input.height (margin r) sheet row col
        (figure_in input.width input.height (pixel input.width sheet) _ h) in
        s.start.level row col b ∙ rw (f, plain.on row col a b h)
        (sym (ap own (place_is input.width input.height (margin r) sheet row col f)))

    off : (row col : ℕ) → row < area_height r → col < area_width r → ¬ foreground_of input sheet (on_canvas (margin r) row col)
        → get_or levels (row * area_width r + col) 0 ≡ none
    off row col a b n =
        s.start.level row col b ∙ rw (plain.off row col a b n) (go (framed input.width input.height (margin r) row col)
        (size_in input.width map (row - margin r) (col - margin r)))
      where
        go : (t : Bool) (size : ℕ) → cond t (raised (suc cap) size none) none ≡ none
        go true size = refl
        go false size = refl

    own_start : OwnStart (area_of r) input.width input.height cap (reach input.side) (foreground_of input sheet)
        (element_of input bytes) own levels
    own_start = record {
      canvas_width = plain.canvas_width;
      canvas_height = plain.canvas_height;
      none_beyond = plain.none_beyond;
      partners_are = plain.partners_are;
      row_reach = plain.row_reach;
      col_reach = plain.col_reach;
      cap_fits = plain.cap_fits;
      decide = plain.decide;
      inside = plain.inside;
      size = s.start.size ∙ plain.size;
      on = on;
      off = off;
    }

    -- THE SHEET at the cap is the foreground dilated by its sizes, where none is above the cap
    pub map_sheet : ((a : Point) → foreground_of input sheet a → size_of input map a ≤ cap) → (out : List ℕ)
        → out ≡ thresholded r (finished r levels) cap
        → IsSheet input.width input.height
        (dilated_by_sizes (foreground_of input sheet) (size_of input map) (element_of input bytes)) out
    unfolding thresholded
    map_sheet small out e =
        tested_sheet input.width input.height _ (λ row col. is_held_at r cap (frame_level r (finished r levels) row col)) out e
        (λ row col a b.
        let i = found_by_sizes own_start.cap_fits (size_of input map)
        (accepted_origin input.side bytes input_judged.element) small (found_frame own_start row col a b) in
        let q = range_iff cap (frame_level r (finished r levels) row col) in
        ((λ h. q.0 (i.0 h)), (λ t. i.1 (q.1 t))))

    -- such a run may be finished
    pub map_finishes : (out : List ℕ) → length out ≡ input.height * row_bytes input.width → Finishes run levels out
    map_finishes out room = rw s.run (record {
      taken = is_started.taken;
      fresh = is_started.fresh;
      size = s.start.size ∙ is_started.size;
      cap_held = le_refl cap;
      room = room;
    })

-- packing what a finished run holds at its cap
pub pack_ready : {r : Record} {levels out scanned : List ℕ} → Finishes r levels out → scanned ≡ finished r levels
    → first (provisional_refusals r scanned r.cap out) ≡ 0
pack_ready {r} {levels} {out} given e =
    let long : length (finished r levels) ≡ area_height r * area_width r = rows_length (area_of r) 0 (due r) levels ∙ given.size in
    let sound : record_bad r ≡ false = sym (bad_rows r given.taken (due r) refl)
    ∙ le-ltb (due r) r.rows (let f = given.fresh in omega arith) in
    rw (e, sound)
    (sym (view_accepted r (finished r levels) r.cap (length out) (r.height * row_bytes r.width) given.cap_held
    (rw (eq-eqb (length (finished r levels)) (area_height r * area_width r) long)) given.room))

-- THE ANSWER
module _ (input : Input) (sheet bytes : List ℕ) (cap : ℕ) (map : List ℕ) (lent : Buffers)
    (z : first (map_refusals input sheet bytes cap map lent) ≡ 0) where
  abbrev pub fit : Taken input sheet bytes cap map lent
  fit = taken input sheet bytes cap map lent z

  pub map_answered : {run : Record} {levels : List ℕ} → StartsByMap input sheet bytes cap map run levels
      → (after : Buffers) → after.work ≡ replicate (length levels) 0
      → after.out ≡ thresholded run (finished run levels) run.cap → DilatesByMap input sheet bytes cap map lent 0 after
  map_answered {run} {levels} s after w o =
      accepts after z (
        w ∙ ap (λ n. replicate n 0) long,
        map_sheet input sheet bytes cap lent.work fit.begins map s (sizes_small input sheet map cap fit.none_large)
            after.out (o ∙ ap (λ r. thresholded r (finished r levels) r.cap) s.run),
      )
    where
      long : length levels ≡ length lent.work
      long = s.start.size ∙ (is_started input sheet bytes cap lent.work fit.begins).size
          ∙ sym (canvas_taken input.width input.height cap input.side (length lent.work)
          (dilation_taken input.width input.height sheet input.side bytes cap lent.work fit.begins).2).2
