-- The answer: an accepted call's first run has levels, every point's exists, and the table filled from them is the spectrum.
use Prim.Native.Nat.{ℕ, ◌+◌, ◌≤◌}
use native.Mathlib.Omega.{arith}
use mathlib.Core.Path.{◌≡◌, sym, ap, ap₂, ◌∙◌}
use mathlib.Core.List.{List}
use lib.IntN.{pos}
use lib.ListN.{length, get_or, replicate}
use Rattle.basics.specs.Limits.{longest_side}
use Rattle.basics.specs.Refusals.{first}
use Rattle.basics.specs.Sums.{sum}
use Rattle.basics.specs.Tables.{table}
use Rattle.basics.proofs.RefusalLaws.{accepts}
use Rattle.basics.proofs.SumLaws.{sum_same}
use Rattle.basics.proofs.TableLaws.{length-table, get_or-table}
use Rattle.grid.specs.Points.{at}
use Rattle.grid.specs.Levels.{IsOpeningLevel}
use Rattle.grid.proofs.Existence.{opening_level_exists}
use Rattle.element.specs.Elements.{byte_at}
use Rattle.element.proofs.Accepted.{accepted_origin, accepted_other}
use Rattle.sheet.specs.Sheets.{pixel}
use Rattle.run.specs.declared.Record.{Record}
use Rattle.run.proofs.RecordLaws.{area_small}
use Rattle.run.specs.declared.Input.{Input}
use Rattle.filters.specs.Filters.{Buffers, foreground_of, element_of}
use Rattle.filters.specs.Back.{Ready}
use Rattle.filters.specs.Plans.{start_refusals, first_record, first_levels}
use Rattle.filters.proofs.FirstRuns.{first_size, first_ready}
use Rattle.spectrum.specs.declared.Summary.{Summary}
use Rattle.spectrum.specs.Spectrum.{summary_of, spectrum_refusals, GivesSpectrum}
use Rattle.spectrum.specs.Counting.{opening, HasLevels, FillsTable, IsTable}
use Rattle.spectrum.proofs.LevelCounts.{points_of, counts_below}
use Rattle.spectrum.proofs.Refusing.{Taken, taken}

-- the entries of a table of counts add up to the points of the frame at most
pub counts_table : (width height entries : ℕ) (level : ℕ → ℕ → ℕ) (counts : List ℕ)
    → counts ≡ table entries (points_of width height level) → 2 ≤ entries → entries ≤ longest_side + 1 → width ≤ longest_side
    → height ≤ longest_side → IsTable counts
counts_table width height entries level counts e long short wide high =
    let l : length counts ≡ entries = ap length e ∙ length-table (points_of width height level) entries in
    let s : sum (length counts) (λ n. get_or counts n 0) ≡ sum entries (points_of width height level) =
    ap (λ n. sum n (λ n. get_or counts n 0)) l ∙ sum_same entries (λ n. get_or counts n 0) (points_of width height level)
    (λ n b. ap (λ c. get_or c n 0) e ∙ get_or-table (points_of width height level) entries n 0 b) in
    let t = counts_below width height level entries in
    let a = area_small height width high wide in
    record { long = omega arith; short = omega arith; adds_up = omega arith }

module _ (input : Input) (sheet bytes : List ℕ) (lent : Buffers) (z : first (spectrum_refusals input sheet bytes lent) ≡ 0) where
  pub fit : Taken input sheet bytes (length lent.first) (length lent.second) (length lent.out)
  fit = taken input sheet bytes (length lent.first) (length lent.second) (length lent.out) z

  -- every point of the frame has a level
  exists : (row col : ℕ) → (m : ℕ) × IsOpeningLevel (foreground_of input sheet) (element_of input bytes) (at (pos row) (pos col)) m
  exists row col =
      let given = fit.input_good.element in
      let another = accepted_other input.side bytes given in
      let found = opening_level_exists input.width input.height (pixel input.width sheet) input.side
      (byte_at input.side bytes) (accepted_origin input.side bytes given) another.0 another.1 another.2
      (at (pos row) (pos col)) in
      (found.0, found.1)

  pub level : ℕ → ℕ → ℕ
  level row col = (exists row col).0

  pub is_level : (row col : ℕ) → IsOpeningLevel (foreground_of input sheet) (element_of input bytes) (at (pos row) (pos col)) (level row col)
  unfolding level
  is_level row col = (exists row col).1

  pub opening_starts : first (start_refusals input sheet bytes opening (length lent.first)) ≡ 0
  opening_starts = fit.work.start

  module _ {run : Record} {levels : List ℕ}
      (p : (run ≡ first_record input bytes opening) × (levels ≡ first_levels input sheet bytes opening)) where
    pub kept : length levels ≡ length lent.first
    kept = ap length p.1 ∙ first_size input sheet bytes lent.first opening fit.work.start ∙ sym fit.work.first_size

    pub run_ready : Ready run levels lent.second
    run_ready = first_ready input sheet bytes lent.first opening fit.work.start p fit.work.second_size

    abbrev pub run_levels : HasLevels run levels
    run_levels = record {
      input = input;
      sheet = sheet;
      bytes = bytes;
      run = record { started = rw kept fit.work.start; run_is = p.0; levels_are = p.1 };
      level = level;
      is_level = λ row col _ _. is_level row col;
    }

    module _ {counts : List ℕ} (fills : FillsTable run levels (length lent.out) counts) where
      frame_counts : counts ≡ table (length lent.out) (points_of input.width input.height level)
      frame_counts = fills run_levels
          ∙ ap₂ (λ w h. table (length lent.out) (points_of w h level)) (ap (λ r. r.width) p.0) (ap (λ r. r.height) p.0)

      pub is_table : IsTable counts
      is_table =
          let j = fit.input_good in
          let s = fit.table_size_lem in
          let w = j.wide in
          let h = j.high in
          counts_table input.width input.height (length lent.out) level counts frame_counts (omega arith)
          (omega arith) w.1 h.1

      pub answered : {first second : List ℕ} {summary : Summary} → first ≡ replicate (length levels) 0
          → second ≡ replicate (length lent.second) 0 → summary ≡ summary_of counts
          → GivesSpectrum input sheet bytes lent 0 (record { first = first; second = second; out = counts }, summary)
      answered a b e = accepts _ z (
        record { first = a ∙ ap (λ n. replicate n 0) kept; second = b },
        (
          record {
            level = level;
            is_level = λ row col _ _. is_level row col;
            counted = frame_counts ∙ ap (λ n. table n (points_of input.width input.height level)) fit.table_size_lem;
          },
          e,
        ),
      )
