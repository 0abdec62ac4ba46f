-- The steps of the way back, as the code takes them, each in the terms of its definition.
use Prim.Native.Nat.{ℕ, ◌-◌, ◌*◌, ◌≤◌, min}
use native.Mathlib.Omega.{arith}
use mathlib.Core.Path.{◌≡◌, refl, sym, ap, ap₂, ◌∙◌, fun_ext}
use mathlib.Core.Bool.{Bool, true, false, cond}
use mathlib.Core.List.{List}
use lib.Dec.{eqb}
use lib.ListN.{length, get_or}
use borrow.Author.Tests.{le-ltb, eq-eqb}
use Rattle.basics.specs.Limits.{largest_size, most_rows}
use Rattle.basics.specs.Refusals.{first}
use Rattle.basics.specs.Tables.{table}
use Rattle.basics.proofs.TableLaws.{length-table, table_same}
use Rattle.sheet.specs.Sheets.{packed}
use Rattle.scan.specs.Scan.{scan_rows}
use Rattle.scan.proofs.ScanLaws.{rows_length}
use Rattle.run.specs.declared.Record.{Record}
use Rattle.run.specs.declared.kinds.Bounds.{Bounds}
use Rattle.run.specs.declared.records.Frame.{Frame}
use Rattle.run.specs.Kinds.{on_of, off_of, is_held_at}
use Rattle.run.specs.Records.{margin, frame_of, area_width, area_height, area_of, due, foreign, record_bad}
use Rattle.run.specs.Continuing.{State, continue_refusals, Continues}
use Rattle.run.specs.Patches.{Canvas, level_in, held_between, bounds_of}
use Rattle.run.specs.Pictures.{frame_level}
use Rattle.run.specs.Demand2.{finished}
use Rattle.run.proofs.RecordLaws.{sound}
use Rattle.run.proofs.ContinueLaws.{continue_accept}
use Rattle.run.proofs.PictureAnswers.{held_level}
use Rattle.filters.specs.Back.{back, back_start, way_back, kept_sheet, HoldsAfter, Ready, chosen}
use Rattle.filters.proofs.BackLaws.{back_width, back_height, back_taken}

-- one continue by the most rows finishes a run
module _ (r : Record) (taken : foreign r ≡ false) (fresh : r.rows ≡ 0) (levels : List ℕ)
    (size : length levels ≡ area_height r * area_width r) where
  record_good : record_bad r ≡ false
  unfolding record_bad
  record_good = rw (taken, le-ltb (due r) r.rows (let f = fresh in omega arith))

  continue_taken : first (continue_refusals r levels most_rows) ≡ 0
  continue_taken = sym (continue_accept r levels most_rows record_good
      (rw (eq-eqb (length levels) (area_height r * area_width r) size))
      (omega arith))

  module _ {number : ℕ} {after : State × ℕ} (a : Continues r levels most_rows number after) where
    pub finish_accepted : number ≡ 0
    finish_accepted = a.refusal ∙ continue_taken

    pub finish_rows : after.0.2 ≡ finished r levels
    finish_rows =
        let s = (sound r taken).area_high in
        let w : min most_rows (due r - r.rows) ≡ due r = let f = fresh in omega arith in
        ap (λ t. t.0.2) (a.accepted finish_accepted) ∙ ap₂ (λ d n. scan_rows (area_of r) d n levels) fresh w

module _ (r : Record) (first : List ℕ) (n : ℕ) where
  start_length : length (back_start r first n) ≡ length first
  unfolding back_start
  start_length = length-table (λ k. cond (is_held_at r n (get_or first k 0)) (on_of (back r)) (off_of (back r))) (length first)

  back_length : length (way_back r first n) ≡ length first
  back_length = rows_length (area_of (back r)) 0 (due (back r)) (back_start r first n) ∙ start_length

-- it leaves the second levels as many as they were
pub after_back : {r : Record} {first second after : List ℕ} (n : ℕ) → Ready r first second → after ≡ way_back r first n
    → length after ≡ length second
after_back {r} {first} n given e = ap length e ∙ back_length r first n ∙ given.first_size ∙ sym given.second_size

-- what is chosen between bounds that hold a level is chosen where it is held
pub chosen_held : (low high level : ℕ) (held : Bool) → held_between low high level ≡ cond held 1 0 → (on off : ℕ)
    → chosen low high on off level ≡ cond held on off
chosen_held low high level held e on off = rw e (go held)
  where
    go : (t : Bool) → cond (eqb (cond t 1 0) 1) on off ≡ cond t on off
    go true = refl
    go false = refl

-- so where a test says whether it is held
module _ (bounds : Bounds) (level on off : ℕ) {held : Bool} (e : cond held 1 0 ≡ held_between bounds.low bounds.high level) where
  pub chosen_on : held ≡ true → on ≡ chosen bounds.low bounds.high on off level
  chosen_on t = sym (chosen_held bounds.low bounds.high level held (sym e) on off ∙ ap (λ t. cond t on off) t)

  pub chosen_off : held ≡ false → off ≡ chosen bounds.low bounds.high on off level
  chosen_off t = sym (chosen_held bounds.low bounds.high level held (sym e) on off ∙ ap (λ t. cond t on off) t)

-- marking gives the start of the way back
pub start_is : (r other : Record) → foreign r ≡ false → other ≡ back r → (n : ℕ) → n ≤ largest_size → {bounds : Bounds} {on off : ℕ}
    → bounds ≡ bounds_of r n → on ≡ on_of other → off ≡ off_of other → (first : List ℕ) {marked : List ℕ}
    → marked ≡ table (length first) (λ k. chosen bounds.low bounds.high on off (get_or first k 0)) → marked ≡ back_start r first n
unfolding back_start
start_is r other taken is n small {bounds} {on} {off} is_bounds is_on is_off first e =
    let p : on ≡ on_of (back r) = is_on ∙ ap on_of is in
    let q : off ≡ off_of (back r) = is_off ∙ ap off_of is in
    e ∙ table_same (λ k. chosen bounds.low bounds.high on off (get_or first k 0))
    (λ k. cond (is_held_at r n (get_or first k 0)) (on_of (back r)) (off_of (back r))) (length first)
    (λ k _. chosen_held bounds.low bounds.high (get_or first k 0) (is_held_at r n (get_or first k 0))
    (rw is_bounds (held_level (sound r taken) n small (get_or first k 0))) on off
    ∙ ap₂ (λ x y. cond (is_held_at r n (get_or first k 0)) x y) p q)

-- and it may be finished
pub back_ready : {r other : Record} {first second marked : List ℕ} (n : ℕ) → Ready r first second → other ≡ back r
    → marked ≡ back_start r first n
    → (other.rows ≡ 0) × (length marked ≡ area_height other * area_width other)
back_ready {r} {first = first} n given is e =
    rw (is, e) (refl, start_length r first n ∙ given.first_size ∙ sym (ap₂ (λ h w. h * w) (back_height r) (back_width r)))

-- the bounds after the way back are those of its record
pub held_after : (r other : Record) → foreign r ≡ false → other ≡ back r → (n : ℕ) → n ≤ largest_size → {bounds : Bounds}
    → bounds ≡ bounds_of other n → HoldsAfter r n bounds
held_after r other taken is n small e level = rw (e, is) (held_level (sound (back r) (back_taken r taken)) n small level)

-- the frame of the levels after it
pub back_canvas : (r : Record) {second : List ℕ} → foreign r ≡ false → length second ≡ area_height r * area_width r
    → Canvas r.width r.height (margin r) second
back_canvas r taken size = record { wide = (sound r taken).area_wide; high = (sound r taken).area_high; room = size }

-- packing it gives the sheet kept
pub kept_is : (r : Record) (n : ℕ) (second : List ℕ) {frame : Frame} → frame ≡ frame_of r → (bounds : Bounds) → HoldsAfter r n bounds
    → {out : List ℕ}
    → out ≡ packed frame.width frame.height
    (λ row col. held_between bounds.low bounds.high (level_in frame.width frame.margin second row col))
    → out ≡ kept_sheet r second n
unfolding kept_sheet
kept_is r n second q bounds p e =
    (rw q at e) ∙ ap (λ f. packed r.width r.height f) (fun_ext (λ row. fun_ext (λ col. p (frame_level r second row col))))
