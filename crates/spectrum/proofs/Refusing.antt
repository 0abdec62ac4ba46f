-- What the call is refused for: the work buffers as those of opening levels, then the table's length, and last a blank sheet.
use Prim.Native.Nat.{ℕ, ◌+◌, max}
use native.Mathlib.Omega.{arith}
use mathlib.Core.Path.{◌≡◌, ◌∙◌}
use mathlib.Core.Bool.{false, not}
use mathlib.Core.Logic.{◌≢◌}
use mathlib.Core.List.{List, [], ◌∷◌, ◌++◌}
use lib.Dec.{eqb}
use borrow.Author.Tests.{eqb-true, not-false}
use Rattle.basics.specs.Refusals.{Refusal, first}
use Rattle.basics.proofs.RefusalLaws.{judged_first, first_both, passed}
use Rattle.run.proofs.Starts.{Judged, judged}
use Rattle.run.specs.declared.Input.{Input}
use Rattle.filters.specs.Plans.{work_refusals}
use Rattle.filters.proofs.Refusing.{opening_list, start_taken, WorkTaken, work_taken}
use Rattle.spectrum.specs.Spectrum.{is_blank, refusals_by}
use Rattle.spectrum.specs.Counting.{opening}

module _ (input : Input) (sheet bytes : List ℕ) (one two entries : ℕ) where
  abbrev pub work : List Refusal
  work = work_refusals input sheet bytes opening one two

  abbrev last : List Refusal
  last = (14, is_blank input.width input.height sheet) ∷ []

  abbrev room : List Refusal
  room = (11, not (eqb entries (max input.width input.height + 1))) ∷ last

  -- the call's own list has one entry of 10, and neither 8 nor 9
  own : first (work ++ room) ≡ first (refusals_by input sheet bytes one two entries)
  own = opening_list input sheet bytes 0 false one two room

  pub refused_work : {number : ℕ} → number ≢ 0 → number ≡ first work → number ≡ first (refusals_by input sheet bytes one two entries)
  refused_work n e = judged_first work room n e ∙ own

  module _ (z : first work ≡ 0) where
    pub work_judged : Judged input.width input.height sheet input.side bytes
    work_judged =
        let w = work_taken input sheet bytes opening one two z in
        judged input.width input.height sheet input.side bytes
        (start_taken input sheet bytes opening one w.start).common

  -- what an accepted call has
  pub record Taken : Type 0 where
    pub work : WorkTaken input sheet bytes opening one two
    pub input_good : Judged input.width input.height sheet input.side bytes
    pub table_size_lem : entries ≡ max input.width input.height + 1
    pub not_blank : is_blank input.width input.height sheet ≡ false

  pub taken : first (refusals_by input sheet bytes one two entries) ≡ 0 → Taken
  taken z =
      let p = first_both work room tt (own ∙ z) in
      let q = passed 11 (not (eqb entries (max input.width input.height + 1))) last (λ e. absurd (omega arith)) p.1 in
      let s = passed 14 (is_blank input.width input.height sheet) [] (λ e. absurd (omega arith)) q.1 in
      record {
        work = work_taken input sheet bytes opening one two p.0;
        input_good = work_judged p.0;
        table_size_lem = eqb-true entries (max input.width input.height + 1) (not-false _ q.0);
        not_blank = s.0;
      }
