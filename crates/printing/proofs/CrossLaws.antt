-- None of the calls of the program's run refuses: the cross is an accepted element, the buffers have the frame's size, and one
-- allowance of 8,192 covers all rows of any frame.
use Prim.Native.Nat.{ℕ, ◌+◌, ◌-◌, ◌*◌, min}
use native.Mathlib.Omega.{arith}
use mathlib.Core.Path.{◌≡◌, refl, sym, ap, subst, ◌∙◌}
use mathlib.Core.Bool.{Bool, false}
use mathlib.Core.List.{List}
use lib.ListN.{length, replicate, length-replicate}
use borrow.Author.Tests.{eq-eqb}
use Rattle.basics.specs.Bounds.{any_above}
use Rattle.basics.specs.Limits.{most_rows}
use Rattle.basics.specs.Refusals.{first}
use Rattle.basics.proofs.RefusalLaws.{first_accepted, accepts}
use Rattle.element.specs.Elements.{is_side, count_set, element_refusals}
use Rattle.sheet.specs.Sheets.{sheet_refusals}
use Rattle.sheet.proofs.FrameLaws.{frame_sides, sheet_accepted}
use Rattle.scan.specs.Scan.{scan_rows}
use Rattle.scan.proofs.ScanLaws.{rows_length}
use Rattle.run.specs.declared.Record.{Record}
use Rattle.run.specs.Records.{area_width, area_height, area_of, due}
use Rattle.run.specs.Starting.{start_levels, erosion_refusals, StartsErosion}
use Rattle.run.specs.Continuing.{levels_wrong, with_rows, Continues}
use Rattle.run.specs.Pictures.{collected, collect_refusals, Collects}
use Rattle.run.specs.Series.{Started, erosion}
use Rattle.run.specs.Demand2.{finished}
use Rattle.run.proofs.Starts.{erosion_fits}
use Rattle.run.proofs.Started.{is_start, started_sound}
use Rattle.run.proofs.ContinueLaws.{continue_accept}
use Rattle.printing.specs.Printing.{cross, cross_run, cross_levels}
use Rattle.printing.specs.Steps.{SoundSheet}

cross_accepted : first (element_refusals 3 cross) ≡ 0
unfolding is_side any_above count_set
cross_accepted = refl

module _ (width height : ℕ) (sheet : List ℕ) (s : SoundSheet width height sheet) where
  abbrev run : Record
  run = cross_run width height

  abbrev start : List ℕ
  start = start_levels run sheet

  -- STARTING
  module _ (lent : List ℕ) (l : length lent ≡ height * width) where
    start_accepted : first (erosion_refusals width height sheet 3 cross lent) ≡ 0
    start_accepted = sym (erosion_fits width height sheet 3 cross lent
        (first_accepted (sheet_refusals width height sheet) (element_refusals 3 cross) tt s ∙ cross_accepted) l)

    pub starts : StartsErosion width height sheet 3 cross lent 0 (run, start)
    starts = accepts (run, start) start_accepted refl

    pub start_gives : {number : ℕ} {r : Record} {after : List ℕ} → StartsErosion width height sheet 3 cross lent number (r, after)
        → (number ≡ 0) × ((r ≡ run) × (after ≡ start))
    start_gives a =
        let z = a.refusal ∙ start_accepted in let q = a.accepted z in (z, (ap (λ t. t.0) q, ap (λ t. t.1) q))

  unfoldable pub cross_started : Started run start
  cross_started = erosion width height sheet 3 cross (replicate (height * width) 0)
      (starts (replicate (height * width) 0) (length-replicate (height * width) 0))

  levels_right : (levels : List ℕ) → length levels ≡ length start → levels_wrong run levels ≡ false
  levels_right levels e = rw (eq-eqb (length levels) (area_height run * area_width run) (e ∙ (is_start cross_started).size))

  -- CONTINUING
  all_rows : min most_rows (due run - 0) ≡ due run
  all_rows = let h = (frame_sides width height (sheet_accepted width height sheet s).0).1.1 in omega arith

  pub continue_gives : {begun : Record} {levels : List ℕ} → (begun ≡ run) × (levels ≡ start)
      → {number : ℕ} {r : Record} {done : Bool} {after : List ℕ} {lowered : ℕ}
      → Continues begun levels most_rows number ((r, done, after), lowered)
      → (number ≡ 0) × ((r ≡ with_rows run (due run)) × (after ≡ finished run start))
  continue_gives {begun} {levels} e {number} {r} {done} {after} {lowered} b =
      let a = subst (λ x. Continues x start most_rows number ((r, done, after), lowered)) e.0
      (subst (λ x. Continues begun x most_rows number ((r, done, after), lowered)) e.1 b) in
      let z = continue_accept run start most_rows (started_sound run start cross_started 0 (omega arith)) (levels_right start refl)
      (omega arith) in
      let q = a.accepted (a.refusal ∙ sym z) in
      let n : 0 + min most_rows (due run - 0) ≡ due run = let m = all_rows in omega arith in (
        a.refusal ∙ sym z,
        (
          ap (λ t. t.0.0) q ∙ ap (with_rows run) n,
          ap (λ t. t.0.2) q ∙ ap (λ k. scan_rows (area_of run) 0 k start) all_rows,
        ),
      )

  -- COLLECTING
  abbrev whole : Record
  whole = with_rows run (due run)

  collected_rows : collected whole (finished run start) ≡ cross_levels width height sheet
  unfolding collected
  collected_rows = refl

  pub collect_gives : {r : Record} {levels : List ℕ} → (r ≡ with_rows run (due run)) × (levels ≡ finished run start)
      → (room : List ℕ) → length room ≡ height * width → {number : ℕ} {after : List ℕ}
      → Collects r levels room number after → (number ≡ 0) × (after ≡ cross_levels width height sheet)
  collect_gives {r} {levels} q room e {number} {after} c =
      let a = subst (λ x. Collects x (finished run start) room number after) q.0
      (subst (λ x. Collects r x room number after) q.1 c) in
      let w = levels_right (finished run start) (rows_length (area_of run) 0 (due run) start) in
      let b = started_sound run start cross_started (due run) (omega arith) in
      let z : first (collect_refusals whole (finished run start) room) ≡ 0 =
      rw (b, w, eq-eqb (length room) (height * width) e, eq-eqb (due run) (due run) refl) in
      (a.refusal ∙ z, a.accepted (a.refusal ∙ z) ∙ collected_rows)
