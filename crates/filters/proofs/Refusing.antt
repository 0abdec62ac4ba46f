-- What the four calls are refused for, judged once: the input, then the size, then the canvas and the lengths of the buffers.
-- Each call's own list gives the same number: an opening works with a cap of 0, whose canvas is the frame, so that 9 never
-- applies.
use Prim.Native.Nat.{ℕ, ◌*◌, ◌≤◌}
use native.Mathlib.Nat.{zero-mul}
use native.Mathlib.Decide.{ℕ_discrete}
use native.Mathlib.Omega.{arith}
use mathlib.Core.Path.{◌≡◌, refl, sym, ap, ◌∙◌}
use mathlib.Core.Bool.{Bool, true, false, not, cond, ◌||◌}
use mathlib.Core.Logic.{◌≢◌}
use mathlib.Core.List.{List, [], ◌∷◌, ◌++◌}
use lib.Dec.{T, eqb, ltb}
use lib.ListN.{length}
use borrow.Author.Tests.{le-ltb, ltb-false, eqb-true, not-false}
use Rattle.basics.specs.Limits.{longest_side, largest_size, highest_cap}
use Rattle.std.specs.Prelude.{Result, Ok, Err}
use Rattle.std.specs.Result.{IsOk}
use Rattle.basics.specs.declared.refusal.Refusal as declared
use Rattle.basics.specs.Refusals.{Refusal, first, number, Answers}
use Rattle.basics.proofs.RefusalLaws.{numbered, number_positive, judged_first, judged_next, first_refused, first_accepted, first_both, passed}
use Rattle.grid.specs.Figures.{reach}
use Rattle.run.specs.Records.{margin_of, canvas_side}
use Rattle.run.specs.Starting.{canvas_refusals}
use Rattle.run.proofs.Starts.{judged, canvas_taken}
use Rattle.run.specs.declared.Input.{Input}
use Rattle.filters.specs.declared.judging.Plan.{Plan}
use Rattle.filters.specs.declared.judging.Lengths.{Lengths}
use Rattle.filters.specs.Filters.{Buffers, input_refusals, is_canvas_wrong, is_out_wrong, frame_size, closing_size}
use Rattle.filters.specs.Filters.{Opens, Closes, OpeningLevels, ClosingLevels}
use Rattle.filters.specs.Plans.{limit_of, cap_of, entries_of, start_refusals, work_refusals, plan_refusals}
use Rattle.filters.specs.Plans.{SheetAnswered, LevelsAnswered}

-- a result without a refusal has a value
pub has_value : {A : Type 0} (result : Result A declared.Refusal) → number result ≡ 0 → IsOk result
has_value (Ok value) e = refl
has_value (Err refusal) e = absurd (number_positive refusal e)

-- a plan by its fields
abbrev pub plan_of : Bool → ℕ → Bool → Plan
plan_of closing size packed = record { closing = closing; size = size; packed = packed }

module _ (input : Input) (sheet bytes : List ℕ) (plan : Plan) where
  -- a cap is small wherever 8 does not apply
  pub cap_within : plan.size ≤ limit_of plan → cap_of plan ≤ highest_cap
  cap_within = go plan.closing plan.size plan.packed
    where
      go : (closing : Bool) (size : ℕ) (packed : Bool)
          → size ≤ limit_of (plan_of closing size packed)
          → cap_of (plan_of closing size packed) ≤ highest_cap
      go true size packed l = omega arith
      go false size packed l = omega arith

  -- the first run
  module _ (count : ℕ) where
    abbrev canvas : List Refusal
    canvas = canvas_refusals input.width input.height (cap_of plan) input.side count

    pub start_input : {number : ℕ} → number ≢ 0 → number ≡ first (input_refusals input sheet bytes)
        → number ≡ first (start_refusals input sheet bytes plan count)
    start_input n e = judged_first (input_refusals input sheet bytes) ((8, ltb (limit_of plan) plan.size) ∷ canvas) n e

    module _ (z : first (input_refusals input sheet bytes) ≡ 0) where
      pub start_canvas : plan.size ≤ limit_of plan → {number : ℕ} → number ≡ first canvas
          → number ≡ first (start_refusals input sheet bytes plan count)
      start_canvas l e = judged_next (input_refusals input sheet bytes) ((8, ltb (limit_of plan) plan.size) ∷ canvas) tt z
          (rw (le-ltb (limit_of plan) plan.size l) e)

  -- what an accepted first run has
  pub record StartTaken (count : ℕ) : Type 0 where
    pub common : first (input_refusals input sheet bytes) ≡ 0
    pub size_good : plan.size ≤ limit_of plan
    pub canvas_good : first (canvas_refusals input.width input.height (cap_of plan) input.side count) ≡ 0
    pub work_size : count ≡ closing_size input (cap_of plan)

  pub start_taken : (count : ℕ) → first (start_refusals input sheet bytes plan count) ≡ 0 → StartTaken count
  start_taken count z =
      let p = first_both (input_refusals input sheet bytes) ((8, ltb (limit_of plan) plan.size) ∷ canvas count) tt z in
      let q = passed 8 (ltb (limit_of plan) plan.size) (canvas count) (λ e. absurd (omega arith)) p.1 in
      let t = canvas_taken input.width input.height (cap_of plan) input.side count q.1 in
      record {
        common = p.0;
        size_good = ltb-false (limit_of plan) plan.size q.0;
        canvas_good = q.1;
        work_size = t.2;
      }

  -- the work buffers
  module _ (count second : ℕ) where
    abbrev start : List Refusal
    start = start_refusals input sheet bytes plan count

    abbrev later : List Refusal
    later = (10, not (eqb second (closing_size input (cap_of plan)))) ∷ []

    module _ (z : first start ≡ 0) where
      area : count ≡ closing_size input (cap_of plan)
      area = (start_taken count z).work_size

    -- what a call with accepted work buffers has
    pub record WorkTaken : Type 0 where
      pub start : first (start_refusals input sheet bytes plan count) ≡ 0
      pub first_size : count ≡ closing_size input (cap_of plan)
      pub second_size : second ≡ closing_size input (cap_of plan)

    pub work_taken : first (work_refusals input sheet bytes plan count second) ≡ 0 → WorkTaken
    work_taken e =
        let p = first_both start later tt e in
        let q = passed 10 (not (eqb second (closing_size input (cap_of plan)))) [] (λ e. absurd (omega arith)) p.1 in
        record {
          start = p.0;
          first_size = area p.0;
          second_size = eqb-true second (closing_size input (cap_of plan)) (not-false _ q.0);
        }

  -- and the output
  module _ (lent : Lengths) where
    abbrev work : List Refusal
    work = work_refusals input sheet bytes plan lent.first lent.second

    abbrev last : List Refusal
    last = (11, not (eqb lent.out (input.height * entries_of plan.packed input.width))) ∷ []

    -- what an accepted call has
    pub record Taken : Type 0 where
      pub work : WorkTaken lent.first lent.second
      pub out_size : lent.out ≡ input.height * entries_of plan.packed input.width

    pub taken : first (plan_refusals input sheet bytes plan lent) ≡ 0 → Taken
    taken e =
        let p = first_both work last tt e in
        let q = passed 11 (not (eqb lent.out (input.height * entries_of plan.packed input.width))) []
        (λ e. absurd (omega arith)) p.1 in
        record {
          work = work_taken lent.first lent.second p.0;
          out_size = eqb-true lent.out (input.height * entries_of plan.packed input.width) (not-false _ q.0);
        }

-- EACH CALL'S OWN LIST
-- after the same beginning, ends that give one number do so as a whole
first_alike : (xs ys zs : List Refusal) → T (numbered xs) → (first xs ≡ 0 → first ys ≡ first zs)
    → first (xs ++ ys) ≡ first (xs ++ zs)
first_alike xs ys zs t same = go (ℕ_discrete (first xs) 0)
  where
    go : Dec (first xs ≡ 0) → first (xs ++ ys) ≡ first (xs ++ zs)
    go (no n) = first_refused xs ys n ∙ sym (first_refused xs zs n)
    go (yes z) = first_accepted xs ys t z ∙ same z ∙ sym (first_accepted xs zs t z)

-- with a cap of 0 the canvas is the frame
pub no_margin : (side length : ℕ) → canvas_side length (margin_of 0 side) ≡ length
no_margin side length = let z = zero-mul (reach side) in omega arith

-- two entries of one number are one
one_entry : (a b : Bool) (n rest : ℕ) → cond a n (cond b n rest) ≡ cond (a || b) n rest
one_entry true b n rest = refl
one_entry false b n rest = refl

-- an answer by one list is an answer by another that gives the same number, where what is right by the one is right by the
-- other
pub answers_carried : {A : Type 0} {xs ys : List Refusal} {kept : A} {Right Also : A → Type 0} {number : ℕ} {after : A}
    → first xs ≡ first ys → ((after : A) → Right after → Also after) → Answers xs kept Right number after
    → Answers ys kept Also number after
answers_carried {after = after} e also a =
    record { refusal = a.refusal ∙ e; accepted = λ z. also after (a.accepted z); refused = a.refused }

answers_alike : {A : Type 0} {xs ys : List Refusal} {kept : A} {Right : A → Type 0} {number : ℕ} {after : A}
    → first xs ≡ first ys → Answers xs kept Right number after → Answers ys kept Right number after
answers_alike e = answers_carried e (λ _ h. h)

-- with work buffers of these lengths, whatever follows
module _ (input : Input) (sheet bytes : List ℕ) (size : ℕ) (packed : Bool) (one two : ℕ) (rest : List Refusal) where
  abbrev joint : ℕ → List Refusal
  joint area = (10, not (eqb one area) || not (eqb two area)) ∷ rest

  -- the judge's two entries of 10
  abbrev both : ℕ → List Refusal
  both area = (10, not (eqb one area)) ∷ (10, not (eqb two area)) ∷ rest

  joined : (area : ℕ) → first (both area) ≡ first (joint area)
  joined area = one_entry (not (eqb one area)) (not (eqb two area)) 10 _

  pub closing_list : first (work_refusals input sheet bytes (plan_of true size packed) one two ++ rest)
      ≡ first (input_refusals input sheet bytes ++
      (8, ltb highest_cap size) ∷ (9, is_canvas_wrong input size) ∷ joint (closing_size input size))
  closing_list =
      first_alike (input_refusals input sheet bytes)
      ((8, ltb highest_cap size) ∷ (9, is_canvas_wrong input size) ∷ both (closing_size input size))
      ((8, ltb highest_cap size) ∷ (9, is_canvas_wrong input size) ∷ joint (closing_size input size)) tt
      (λ _. ap (λ n. cond (ltb highest_cap size) 8 (cond (is_canvas_wrong input size) 9 n)) (joined (closing_size input size)))

  pub opening_list : first (work_refusals input sheet bytes (plan_of false size packed) one two ++ rest)
      ≡ first (input_refusals input sheet bytes ++ (8, ltb largest_size size) ∷ joint (frame_size input))
  opening_list =
      first_alike (input_refusals input sheet bytes)
      ((8, ltb largest_size size) ∷ (9, is_canvas_wrong input 0) ∷ both (closing_size input 0))
      ((8, ltb largest_size size) ∷ joint (frame_size input)) tt
      (λ z. let j = judged input.width input.height sheet input.side bytes z in
      rw (
        no_margin input.side input.width,
        no_margin input.side input.height,
        le-ltb longest_side input.width j.wide.1,
        le-ltb longest_side input.height j.high.1,
      ) (ap (λ n. cond (ltb largest_size size) 8 n) (joined (frame_size input))))

-- the output's refusal, which follows in the four calls
abbrev out_refusal : Input → Bool → Buffers → List Refusal
out_refusal input packed lent = (11, is_out_wrong (input.height * entries_of packed input.width) lent) ∷ []

-- THE FOUR CALLS: the answer to the plan is the call's
module _ (input : Input) (sheet bytes : List ℕ) where
  pub open_answered : (size : ℕ) (lent : Buffers) {number : ℕ} {after : Buffers}
      → SheetAnswered input sheet bytes (plan_of false size true) lent number after
      → Opens input sheet bytes size lent number after
  open_answered size lent = answers_alike (opening_list input sheet bytes size true (length lent.first) (length lent.second)
      (out_refusal input true lent))

  pub close_answered : (size : ℕ) (lent : Buffers) {number : ℕ} {after : Buffers}
      → SheetAnswered input sheet bytes (plan_of true size true) lent number after
      → Closes input sheet bytes size lent number after
  close_answered size lent = answers_alike (closing_list input sheet bytes size true (length lent.first) (length lent.second)
      (out_refusal input true lent))

  pub opening_answered : (lent : Buffers) {number : ℕ} {after : Buffers}
      → LevelsAnswered input sheet bytes (plan_of false 0 false) lent number after
      → OpeningLevels input sheet bytes lent number after
  opening_answered lent = answers_alike (opening_list input sheet bytes 0 false (length lent.first) (length lent.second)
      (out_refusal input false lent))

  pub closing_answered : (cap : ℕ) (lent : Buffers) {number : ℕ} {after : Buffers}
      → LevelsAnswered input sheet bytes (plan_of true cap false) lent number after
      → ClosingLevels input sheet bytes cap lent number after
  closing_answered cap lent = answers_alike (closing_list input sheet bytes cap false (length lent.first) (length lent.second)
      (out_refusal input false lent))
