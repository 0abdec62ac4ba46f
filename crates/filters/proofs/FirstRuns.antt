-- The first run of a plan: an accepted plan starts it, it is a run that a start gives, and the way back from it holds the set
-- opened or closed.
use Prim.Native.Nat.{ℕ, ◌*◌, ◌≤◌, ◌<◌}
use mathlib.Core.Path.{◌≡◌, refl, sym, ap, ap₂, ◌∙◌}
use mathlib.Core.Bool.{Bool, true, false, false≢true}
use mathlib.Core.List.{List}
use lib.ListN.{length, get_or}
use Rattle.basics.specs.Limits.{largest_size}
use Rattle.basics.specs.Refusals.{first}
use Rattle.basics.proofs.RefusalLaws.{accepts}
use Rattle.grid.specs.Points.{Point}
use Rattle.grid.specs.Sets.{opened}
use Rattle.scan.proofs.ScanLaws.{rows_length}
use Rattle.run.specs.declared.Record.{Record}
use Rattle.run.specs.Records.{area_width, area_height, area_of, due, foreign}
use Rattle.run.specs.Starting.{erosion_refusals, dilation_refusals, StartsErosion, StartsDilation}
use Rattle.run.specs.Series.{erosion, dilation}
use Rattle.run.specs.Demand2.{finished}
use Rattle.run.proofs.Started.{IsStart, is_start}
use Rattle.run.proofs.Starts.{judged, erosion_fits, dilation_canvas}
use Rattle.run.specs.declared.Input.{Input}
use Rattle.filters.specs.declared.judging.Plan.{Plan}
use Rattle.filters.specs.Filters.{foreground_of, element_of}
use Rattle.filters.specs.Plans.{cap_of, start_refusals, first_record, first_start, first_levels, filtered, last_size}
use Rattle.filters.specs.Plans.{FindsSize}
use Rattle.filters.specs.Back.{way_back, Ready}
use Rattle.filters.proofs.Refusing.{plan_of, cap_within, start_taken, no_margin}
use Rattle.filters.proofs.WayBack.{HoldsBack, opening_back, closing_back, first_small, opened_below}

module _ (input : Input) (sheet bytes lent : List ℕ) where
  abbrev pub Accepts : Plan → Type 0
  Accepts plan = first (start_refusals input sheet bytes plan (length lent)) ≡ 0

  abbrev Begun : Plan → Record → List ℕ → Type 0
  Begun plan run levels = (run ≡ first_record input bytes plan) × (levels ≡ first_start input sheet bytes plan)

  -- each start accepts what its plan has accepted
  dilation_accepts : (size : ℕ) (packed : Bool) → Accepts (plan_of true size packed)
      → first (dilation_refusals input.width input.height sheet input.side bytes (cap_of (plan_of true size packed)) lent)
      ≡ 0
  dilation_accepts size packed z =
      let plan = plan_of true size packed in
      let t = start_taken input sheet bytes plan (length lent) z in
      sym (dilation_canvas input.width input.height sheet input.side bytes (cap_of plan) lent t.common
      (cap_within input sheet bytes plan t.size_good) (sym t.canvas_good))

  erosion_accepts : (size : ℕ) (packed : Bool) → Accepts (plan_of false size packed)
      → first (erosion_refusals input.width input.height sheet input.side bytes lent) ≡ 0
  erosion_accepts size packed z =
      let t = start_taken input sheet bytes (plan_of false size packed) (length lent) z in
      sym (erosion_fits input.width input.height sheet input.side bytes lent t.common
      (t.work_size ∙ ap₂ (λ h w. h * w) (no_margin input.side input.height) (no_margin input.side input.width)))

  -- the first record and its start levels are a run that a start gives
  pub first_start_lem : (plan : Plan) → Accepts plan → IsStart (first_record input bytes plan) (first_start input sheet bytes plan)
  first_start_lem plan = go plan.closing plan.size plan.packed
    where
      go : (closing : Bool) (size : ℕ) (packed : Bool) → Accepts (plan_of closing size packed)
          → IsStart (first_record input bytes (plan_of closing size packed)) (first_start input sheet bytes (plan_of closing size packed))
      go true size packed z =
          is_start (dilation input.width input.height sheet input.side bytes
          (cap_of (plan_of true size packed)) lent (accepts _ (dilation_accepts size packed z) refl))
      go false size packed z =
          is_start (erosion input.width input.height sheet input.side bytes lent
          (accepts _ (erosion_accepts size packed z) refl))

  module _ (plan : Plan) (z : Accepts plan) where
    abbrev r : Record
    r = first_record input bytes plan

    abbrev levels : List ℕ
    levels = first_levels input sheet bytes plan

    -- it is a run that a start gave
    pub first_taken : {run : Record} {begun : List ℕ} → Begun plan run begun → foreign run ≡ false
    first_taken (p, q) = rw p (first_start_lem plan z).taken

    -- what finishing it asks, and gives
    pub first_fresh : {run : Record} {begun : List ℕ} → Begun plan run begun
        → (run.rows ≡ 0) × (length begun ≡ area_height run * area_width run)
    first_fresh (p, q) = let s = first_start_lem plan z in rw (p, q) (s.fresh, s.size)

    pub first_finished : {run : Record} {begun after : List ℕ} → Begun plan run begun → after ≡ finished run begun
        → (run ≡ r) × (after ≡ levels)
    first_finished (p, q) h = (p, h ∙ ap₂ finished p q)

    pub first_size : length levels ≡ area_height r * area_width r
    first_size = let s = first_start_lem plan z in rows_length (area_of r) 0 (due r) (first_start input sheet bytes plan) ∙ s.size

    pub first_ready : {run : Record} {given second : List ℕ} → (run ≡ r) × (given ≡ levels)
        → length second ≡ area_height r * area_width r → Ready run given second
    first_ready (p, q) e = rw (p, q) (record { taken = (first_start_lem plan z).taken; first_size = first_size; second_size = e })

  -- THE WAY BACK FROM IT
  pub first_holds : (plan : Plan) → Accepts plan
      → HoldsBack (first_record input bytes plan) (first_levels input sheet bytes plan) (last_size plan)
      (filtered plan.closing (foreground_of input sheet) (element_of input bytes))
  first_holds plan z = go plan.closing plan.size plan.packed z
    where
      go : (closing : Bool) (size : ℕ) (packed : Bool) → Accepts (plan_of closing size packed)
          → HoldsBack (first_record input bytes (plan_of closing size packed))
          (first_levels input sheet bytes (plan_of closing size packed)) (last_size (plan_of closing size packed))
          (filtered closing (foreground_of input sheet) (element_of input bytes))
      go true size packed z =
          let plan = plan_of true size packed in
          let j = judged input.width input.height sheet input.side bytes
          (start_taken input sheet bytes plan (length lent) z).common in
          closing_back input.width input.height sheet input.side bytes j.element (cap_of plan)
          (first_start_lem plan z).taken
      go false size packed z =
          let plan = plan_of false size packed in
          let j = judged input.width input.height sheet input.side bytes
          (start_taken input sheet bytes plan (length lent) z).common in
          opening_back input.width input.height sheet input.side bytes j.element (first_start_lem plan z).taken

-- the levels of an opening's first run bound its sizes
module _ (input : Input) (sheet bytes lent : List ℕ) (size : ℕ) (packed : Bool) where
  abbrev opening : Plan
  opening = plan_of false size packed

  abbrev eroded : List ℕ
  eroded = first_levels input sheet bytes opening

  module _ (z : Accepts input sheet bytes lent opening) where
    pub opening_small : (k : ℕ) → k < length eroded → get_or eroded k 0 ≤ largest_size
    opening_small =
        let t = start_taken input sheet bytes opening (length lent) z in
        let j = judged input.width input.height sheet input.side bytes t.common in
        first_small input.width input.height sheet input.side bytes j.element
        (first_start_lem input sheet bytes lent opening z).taken

    pub opening_below : (most : ℕ) → ((k : ℕ) → k < length eroded → get_or eroded k 0 ≤ most) → (j : ℕ) (x : Point)
        → opened (foreground_of input sheet) (element_of input bytes) j x → j < most
    opening_below =
        let t = start_taken input sheet bytes opening (length lent) z in
        let j = judged input.width input.height sheet input.side bytes t.common in
        opened_below input.width input.height sheet input.side bytes j.element
        (first_start_lem input sheet bytes lent opening z).taken

-- WHAT IS FOUND AT A SIZE
pub found_back : {r : Record} {levels after : List ℕ} (n : ℕ) → after ≡ way_back r levels n → FindsSize r levels n after
found_back {r} {levels} n e input sheet bytes plan run l =
    let q = e ∙ ap₂ (λ r levels. way_back r levels n) run.run_is run.levels_are in
    rw (run.run_is, q) (first_holds input sheet bytes levels plan run.started n l)
