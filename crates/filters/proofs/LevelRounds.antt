-- Going through the sizes finds the levels: upwards the last size that holds a point stands, downwards the first.
-- Both directions take the same step, over any two facts about a level that a held and a passed size lead from one to the other.
-- Of a size no more is asked than which points it holds.
use Prim.Native.Nat.{ℕ, ◌+◌, ◌-◌, ◌*◌, ◌≤◌, ◌<◌}
use native.Mathlib.Omega.{arith}
use mathlib.Core.Path.{◌≡◌, refl, sym, ap, ◌∙◌, subst}
use mathlib.Core.Logic.{◌↔◌}
use mathlib.Core.Bool.{Bool, true, false, cond, false≢true}
use mathlib.Core.List.{List}
use lib.IntN.{pos}
use lib.ListN.{length, get_or, replicate, length-replicate, get_or-replicate}
use Rattle.basics.specs.Limits.{largest_size}
use Rattle.basics.proofs.TableLaws.{get_or-raster}
use Rattle.basics.proofs.Arithmetic.{entry_below}
use Rattle.grid.specs.Points.{Point, at}
use Rattle.grid.specs.Sets.{PointSet}
use Rattle.sheet.specs.Means.{LevelsMean}
use Rattle.run.specs.declared.Record.{Record}
use Rattle.run.specs.declared.Input.{Input}
use Rattle.filters.specs.declared.judging.Plan.{Plan}
use Rattle.filters.specs.Filters.{foreground_of, element_of}
use Rattle.filters.specs.Back.{is_found, stored, size_at, Ready}
use Rattle.filters.specs.Plans.{Bounded, Counted, first_levels, filtered, IsFilterLevel, last_size, FirstRun}
use Rattle.filters.specs.Plans.{FindsSize, FindsLevels}
use Rattle.filters.proofs.FirstRuns.{Accepts, opening_below}
use Rattle.filters.proofs.Refusing.{plan_of}
use Rattle.filters.proofs.Sizes.{LastBelow, last_start, last_held, last_passed, last_end, FirstFrom, first_start_lem}
use Rattle.filters.proofs.Sizes.{first_held, first_passed, first_end}
use Rattle.filters.proofs.StoreLaws.{stored_length, count_small}

-- one size, which holds the points of F
round : (r : Record) (n : ℕ) (F : PointSet) (second : List ℕ)
    → ((row col : ℕ) → row < r.height → col < r.width → F (at (pos row) (pos col)) ↔ (is_found r second n row col ≡ true))
    → (P Q : Point → ℕ → Type 0) → ((x : Point) (m : ℕ) → P x m → F x → Q x (n + 1)) → ((x : Point) (m : ℕ) → P x m → ¬ F x → Q x m)
    → (out : List ℕ) → LevelsMean r.width r.height P out → LevelsMean r.width r.height Q (stored r second n out)
unfolding stored
round r n F second holds P Q held passed out mean row col a b =
    subst (Q (at (pos row) (pos col))) (sym (get_or-raster r.width r.height
    (λ row col. cond (is_found r second n row col) (n + 1) (get_or out (row * r.width + col) 0)) row col 0 a b))
    (go (is_found r second n row col) refl)
  where
    go : (t : Bool) → is_found r second n row col ≡ t
        → Q (at (pos row) (pos col)) (cond t (n + 1) (get_or out (row * r.width + col) 0))
    go true e = held (at (pos row) (pos col)) (get_or out (row * r.width + col) 0) (mean row col a b) ((holds row col a b).1 e)
    go false e = passed (at (pos row) (pos col)) (get_or out (row * r.width + col) 0) (mean row col a b)
        (λ h. false≢true (sym e ∙ (holds row col a b).0 h))

-- what is known of a level after k of the sizes: an opening has gone up to size k, a closing down from its cap R
abbrev Passed : Bool → ℕ → ℕ → ℕ → (ℕ → Type 0) → ℕ → Type 0
Passed false R count k F m = LastBelow k F m
Passed true R count k F m = FirstFrom (count - k) R F m

module _ (R count : ℕ) where
  abbrev Counts : Bool → Type 0
  Counts closing = closing ≡ true → count ≡ R + 1

  passed_start : (closing : Bool) → Counts closing → (F : ℕ → Type 0) → Passed closing R count 0 F 0
  passed_start false c F = last_start F
  passed_start true c F =
      subst (λ i. FirstFrom i R F 0) (let q = c refl in let e : R + 1 ≡ count - 0 = omega arith in e) (first_start_lem R F)

  module _ (k n m : ℕ) (F : ℕ → Type 0) (l : k < count) where
    passed_held : (closing : Bool) → Counts closing → n ≡ size_at closing count k → Passed closing R count k F m → F n
        → Passed closing R count (k + 1) F (n + 1)
    passed_held false c e p h =
        subst (λ i. LastBelow (i + 1) F (n + 1)) e (last_held (subst (λ i. LastBelow i F m) (sym e) p) h)
    passed_held true c e p h =
        let q = c refl in
        subst (λ i. FirstFrom i R F (n + 1)) (let z : n ≡ count - (k + 1) = omega arith in z)
        (first_held (subst (λ i. FirstFrom i R F m) (let z : count - k ≡ n + 1 = omega arith in z) p) (omega arith) h)

    passed_over : (closing : Bool) → n ≡ size_at closing count k → Passed closing R count k F m → ¬ F n
        → Passed closing R count (k + 1) F m
    passed_over false e p f =
        subst (λ i. LastBelow (i + 1) F m) e (last_passed (subst (λ i. LastBelow i F m) (sym e) p) f)
    passed_over true e p f =
        subst (λ i. FirstFrom i R F m) (let z : n ≡ count - (k + 1) = omega arith in z)
        (first_passed (subst (λ i. FirstFrom i R F m) (let z : count - k ≡ n + 1 = omega arith in z) p) f)

  passed_end : (closing : Bool) (A K : PointSet) (x : Point) (m : ℕ)
      → (closing ≡ false → (j : ℕ) → filtered closing A K j x → j < count)
      → Passed closing R count count (λ j. filtered closing A K j x) m → IsFilterLevel closing R A K x m
  passed_end false A K x m bound p = last_end p (bound refl)
  passed_end true A K x m bound p =
      first_end (subst (λ i. FirstFrom i R (λ j. filtered true A K j x) m) (let z : count - count ≡ 0 = omega arith in z) p)

-- through the sizes of a plan, step by step
abbrev Held : Plan → Input → List ℕ → List ℕ → Point → ℕ → Type 0
Held plan input sheet bytes x j = filtered plan.closing (foreground_of input sheet) (element_of input bytes) j x

pub record Steps (plan : Plan) (r : Record) (first : List ℕ) (count k : ℕ) (second out : List ℕ) : Type 0 where
  pub below : k ≤ count
  pub given : Ready r first second
  pub room : length out ≡ r.height * r.width
  pub mean : (input : Input) (sheet bytes : List ℕ) → FirstRun input sheet bytes plan r first
      → LevelsMean r.width r.height
      (λ x. Passed plan.closing plan.size count k (Held plan input sheet bytes x)) out

-- the size of a step is one that points are found at
pub step_small : {plan : Plan} {first : List ℕ} {count : ℕ} → Counted plan first count → Bounded plan first → {k n : ℕ} → k < count → n ≡ size_at plan.closing count k
    → (n ≤ largest_size) × (n ≤ last_size plan)
step_small {plan} {count = count} counted b {k} {n} l e = go plan.closing e counted.closing b.closing
  where
    small : count ≤ largest_size
    small = count_small plan b counted

    go : (t : Bool) → n ≡ size_at t count k → (t ≡ true → count ≡ plan.size + 1) → (t ≡ true → plan.size ≤ 2047)
        → (n ≤ largest_size) × (n ≤ cond t plan.size largest_size)
    go true e c s = let q = c refl in let d = s refl in (omega arith, omega arith)
    go false e c s = let m = small in (omega arith, omega arith)

module _ {plan : Plan} {r : Record} {first : List ℕ} {count : ℕ} (counted : Counted plan first count) where
  pub steps_start : {second out : List ℕ} → Ready r first second → out ≡ replicate (r.height * r.width) 0
      → Steps plan r first count 0 second out
  steps_start g e = record {
    below = omega arith;
    given = g;
    room = ap length e ∙ length-replicate (r.height * r.width) 0;
    mean = λ input sheet bytes _ row col a b.
        subst (Passed plan.closing plan.size count 0 (Held plan input sheet bytes (at (pos row) (pos col))))
        (sym (ap (λ l. get_or l (row * r.width + col) 0) e
        ∙ get_or-replicate (r.height * r.width) (row * r.width + col) 0 0 (entry_below r.width r.height row col a b)))
        (passed_start plan.size count plan.closing counted.closing (Held plan input sheet bytes (at (pos row) (pos col))));
  }

  pub steps_turn : Bounded plan first → {k : ℕ} {second out : List ℕ} → Steps plan r first count k second out → k < count
      → {n : ℕ} → n ≡ size_at plan.closing count k → {next last : List ℕ}
      → (length next ≡ length second) × (FindsSize r first n next × (last ≡ stored r next n out))
      → Steps plan r first count (k + 1) next last
  steps_turn b {k} {second} {out} P l {n} e {next} {last} (s, (finds, q)) = record {
    below = omega arith;
    given = record { taken = P.given.taken; first_size = P.given.first_size; second_size = s ∙ P.given.second_size };
    room = ap length q ∙ stored_length r next n out;
    mean = λ input sheet bytes run.
        rw q (round r n (λ x. Held plan input sheet bytes x n) next
        (finds input sheet bytes plan run (step_small counted b l e).1)
        (λ x. Passed plan.closing plan.size count k (Held plan input sheet bytes x))
        (λ x. Passed plan.closing plan.size count (k + 1) (Held plan input sheet bytes x))
        (λ x m p h. passed_held plan.size count k n m (Held plan input sheet bytes x) l plan.closing counted.closing e p h)
        (λ x m p f. passed_over plan.size count k n m (Held plan input sheet bytes x) l plan.closing e p f) out (P.mean input sheet bytes run));
  }

  -- an opening's count is the highest level of its first run, and no size from there on holds anything
  none_above : (input : Input) (sheet bytes : List ℕ) → FirstRun input sheet bytes plan r first → plan.closing ≡ false
      → (j : ℕ) (x : Point) → Held plan input sheet bytes x j → j < count
  none_above input sheet bytes run e =
      go plan.closing e run.started (subst Bounds run.levels_are (counted.opening e).all)
    where
      Bounds : List ℕ → Type 0
      Bounds levels = (k : ℕ) → k < length levels → get_or levels k 0 ≤ count

      go : (t : Bool) → t ≡ false → Accepts input sheet bytes first (plan_of t plan.size plan.packed)
          → Bounds (first_levels input sheet bytes (plan_of t plan.size plan.packed))
          → (j : ℕ) (x : Point) → filtered t (foreground_of input sheet) (element_of input bytes) j x → j < count
      go true f z all = absurd (false≢true (sym f))
      go false f z all = opening_below input sheet bytes first plan.size plan.packed z count all

  pub steps_end : {k : ℕ} {second out : List ℕ} → Steps plan r first count k second out → count ≤ k → FindsLevels r first plan out
  steps_end {k} {second} {out} P l input sheet bytes run = record {
    levels = λ row col a b. let x = at (pos row) (pos col) in
        passed_end plan.size count plan.closing (foreground_of input sheet) (element_of input bytes) x _
        (λ e j. none_above input sheet bytes run e j x)
        (subst (λ i. Passed plan.closing plan.size count i (Held plan input sheet bytes x) (get_or out (row * r.width + col) 0))
        (let u = P.below in let q : k ≡ count = omega arith in q) (P.mean input sheet bytes run row col a b));
    size = P.room;
  }
