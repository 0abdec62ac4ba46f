-- Demand 3: cuts may not show. By induction on the series: an accepted call takes the run from one unbroken scan to a longer one,
-- since m rows and then n rows are m + n rows; a refused one leaves it. So with the points that they lower.
-- A picture's refusals compute once the record, the levels and the room are known to be in order: the rows alone decide.
use Prim.Native.Nat.{ℕ, ◌+◌, ◌-◌, ◌*◌, ◌≤◌, min}
use native.Mathlib.Nat.{add-zero, add_assoc}
use native.Mathlib.Decide.{ℕ_discrete}
use native.Mathlib.Omega.{arith}
use mathlib.Core.Path.{◌≡◌, refl, sym, ap, subst, ◌∙◌}
use mathlib.Core.Bool.{Bool, true, false, not, cond, true≢false}
use mathlib.Core.Logic.{◌≢◌}
use mathlib.Core.List.{List, [], ◌∷◌}
use lib.Dec.{eqb, ltb}
use lib.ListN.{length}
use borrow.Author.Tests.{le-ltb, eq-eqb, ne_eqb, eqb-true}
use Rattle.basics.specs.Limits.{most_rows}
use Rattle.basics.specs.Refusals.{first}
use Rattle.basics.proofs.RefusalLaws.{first_accepted, refuses, accepts}
use Rattle.sheet.specs.Sheets.{row_bytes}
use Rattle.scan.specs.Scan.{scan_rows, rows_lowered}
use Rattle.scan.proofs.ScanLaws.{rows_add, rows_length, rows_none, lowered_add}
use Rattle.run.specs.declared.Record.{Record}
use Rattle.run.specs.Records.{area_width, area_height, area_of, due, record_bad, empty_record}
use Rattle.run.specs.Continuing.{State, levels_wrong, with_rows, continued, lowered_by, continue_refusals, Continues}
use Rattle.run.specs.Kinds.{size_limit}
use Rattle.run.specs.Pictures.{collect_refusals, threshold_refusals}
use Rattle.run.specs.Provisional.{provisional_refusals}
use Rattle.run.specs.Series.{Started, Slice, Allowed, IsSeries, at_start, next, after, allowed, counted, unbroken, rows_worked}
use Rattle.run.specs.Series.{SeriesExist, CutsDoNotShow, CountsAddUp, AcceptedExactly, NoneReleased, UnfinishedRefused}
use Rattle.run.specs.Series.{Released}
use Rattle.run.proofs.RecordLaws.{sound}
use Rattle.run.proofs.Started.{IsStart, is_start, started_sound}

module _ (r : Record) (levels : List ℕ) (s : IsStart r levels) where
  -- a call in a run that has n rows done so far
  module _ (n : ℕ) (within : n ≤ due r) where
    -- the next unbroken scan
    pub longer : (allowance : ℕ)
        → continued (with_rows r n) (scan_rows (area_of r) 0 n levels) allowance ≡ unbroken r levels (min (n + allowance) (due r))
    longer allowance =
        let count = min allowance (due r - n) in
        let e : n + count ≡ min (n + allowance) (due r) = omega arith in
        let z : 0 + n ≡ n = omega arith in
        let from = ap (λ m. scan_rows (area_of r) m count (scan_rows (area_of r) 0 n levels)) (sym z) in
        let joined = sym (rows_add (area_of r) 0 n count levels) in
        λ i. (with_rows r (e i), eqb (e i) (due r), (from ∙ joined ∙ ap (λ m. scan_rows (area_of r) 0 m levels) e) i)

    -- and what its rows lower, beside those before
    longer_lowered : (allowance : ℕ)
        → rows_lowered (area_of r) 0 n levels + lowered_by (with_rows r n) (scan_rows (area_of r) 0 n levels) allowance
        ≡ rows_lowered (area_of r) 0 (min (n + allowance) (due r)) levels
    longer_lowered allowance =
        let count = min allowance (due r - n) in
        let e : n + count ≡ min (n + allowance) (due r) = omega arith in
        let z : 0 + n ≡ n = omega arith in
        ap (λ m. rows_lowered (area_of r) 0 n levels + rows_lowered (area_of r) m count (scan_rows (area_of r) 0 n levels)) (sym z)
        ∙ sym (lowered_add (area_of r) 0 n count levels) ∙ ap (λ m. rows_lowered (area_of r) 0 m levels) e

    -- after one call, accepted or refused, the run is an unbroken scan, and so is its count
    stepped : (call : Slice) → Allowed (unbroken r levels n) call →
        let m = min (n + cond (eqb call.number 0) call.allowance 0) (due r) in
        (next (unbroken r levels n) call ≡ unbroken r levels m)
        × (rows_lowered (area_of r) 0 n levels + call.lowered ≡ rows_lowered (area_of r) 0 m levels)
    stepped call p = go (eqb call.number 0) refl
      where
        go : (t : Bool) → eqb call.number 0 ≡ t →
            let m = min (n + cond t call.allowance 0) (due r) in
            (cond t call.answer (unbroken r levels n) ≡ unbroken r levels m)
            × (rows_lowered (area_of r) 0 n levels + call.lowered ≡ rows_lowered (area_of r) 0 m levels)
        go true e =
            let z = eqb-true call.number 0 e in
            let own = p.own z in
            let q = p.outcome.accepted z ∙ (λ i. (
              continued (own.0 i) (own.1 i) call.allowance,
              lowered_by (own.0 i) (own.1 i) call.allowance,
            )) in
            (ap (λ t. t.0) q ∙ longer call.allowance, rw (ap (λ t. t.1) q) (longer_lowered call.allowance))
        go false e =
            let none = ap (λ t. t.1) (p.outcome.refused (λ z. true≢false (sym (eq-eqb call.number 0 z) ∙ e))) in
            let same : n ≡ min (n + 0) (due r) = omega arith in
            (ap (unbroken r levels) same, rw (none, add-zero) (ap (λ k. rows_lowered (area_of r) 0 k levels) same))

  cut : (n : ℕ) → n ≤ due r → (series : List Slice) → IsSeries (unbroken r levels n) series →
      let m = min (n + allowed series) (due r) in
      (after (unbroken r levels n) series ≡ unbroken r levels m)
      × (rows_lowered (area_of r) 0 n levels + counted series ≡ rows_lowered (area_of r) 0 m levels)
  unfolding IsSeries after allowed counted
  cut n within [] p =
      let e : n ≡ min (n + 0) (due r) = omega arith in
      (ap (unbroken r levels) e, rw add-zero (ap (λ k. rows_lowered (area_of r) 0 k levels) e))
  cut n within (call ∷ series) p =
      let a = cond (eqb call.number 0) call.allowance 0 in
      let m = min (n + a) (due r) in
      let (q, c) = stepped n within call p.0 in
      let rest = cut m (omega arith) series (subst (λ t. IsSeries t series) q p.1) in
      let e : min (m + allowed series) (due r) ≡ min (n + (a + allowed series)) (due r) = omega arith in (
        ap (λ t. after t series) q ∙ rest.0 ∙ ap (unbroken r levels) e,
        sym (add_assoc (rows_lowered (area_of r) 0 n levels) call.lowered (counted series))
            ∙ ap (λ k. k + counted series) c ∙ rest.1 ∙ ap (λ k. rows_lowered (area_of r) 0 k levels) e,
      )

  -- a start is an unbroken scan of no rows
  pub begins : at_start r levels ≡ unbroken r levels 0
  begins =
      let f = s.fresh in
      let same : r ≡ with_rows r 0 = λ i. with_rows r (f i) in
      λ i. (same i, eqb (f i) (due r), sym (rows_none (area_of r) 0 levels) i)

-- CUTS DO NOT SHOW
pub cuts_do_not_show : CutsDoNotShow
cuts_do_not_show r levels started series p =
    let s = is_start started in
    let b = begins r levels s in
    let n = cut r levels s 0 (omega arith) series (subst (λ t. IsSeries t series) b p) in
    let e : min (0 + allowed series) (due r) ≡ rows_worked r series = omega arith in
    ap (λ t. after t series) b ∙ n.0 ∙ ap (unbroken r levels) e

-- and there are series: each call is answered
answered : (r : Record) (levels : List ℕ) (allowance : ℕ)
    → (number : ℕ) × (answer : State × ℕ) × Continues r levels allowance number answer
answered r levels allowance = go (ℕ_discrete (first (continue_refusals r levels allowance)) 0)
  where
    go : Dec (first (continue_refusals r levels allowance) ≡ 0)
        → (number : ℕ) × (answer : State × ℕ) × Continues r levels allowance number answer
    go (yes z) =
        let answer : State × ℕ = (continued r levels allowance, lowered_by r levels allowance) in
        (0, answer, accepts answer z refl)
    go (no n) = (first (continue_refusals r levels allowance), ((empty_record, false, levels), 0), refuses _ n refl)

pub series_exist : SeriesExist
unfolding IsSeries
series_exist s [] = ([], tt, refl)
series_exist s (allowance ∷ rest) =
    let (number, answer, meets) = answered s.0 s.2 allowance in
    let call : Slice = record {
      run = s.0;
      levels = s.2;
      allowance = allowance;
      number = number;
      answer = answer.0;
      lowered = answer.1;
    } in
    let (series, is, same) = series_exist (next s call) rest in
    (call ∷ series, (record { outcome = meets; own = λ _. (refl, refl) }, is), ap (λ l. allowance ∷ l) same)

-- what is in order in every state of a run
module _ (r : Record) (levels : List ℕ) (started : Started r levels) (n : ℕ) (within : n ≤ due r) where
  pub levels_fit : levels_wrong (with_rows r n) (scan_rows (area_of r) 0 n levels) ≡ false
  levels_fit =
      rw (eq-eqb (length (scan_rows (area_of r) 0 n levels)) (area_height r * area_width r)
      (rows_length (area_of r) 0 n levels ∙ (is_start started).size))

pub accepted_exactly : AcceptedExactly
accepted_exactly r levels started series p allowance number answer c =
    let n = rows_worked r series in
    let here = cuts_do_not_show r levels started series p in
    let judged = ap (λ (t : State). first (continue_refusals t.0 t.2 allowance)) here in
    c.refusal ∙ judged ∙ rw (started_sound r levels started n (omega arith), levels_fit r levels started n (omega arith))

-- COUNTS ADD UP: one call by as many rows goes from the start to where the series ends
pub counts_add_up : CountsAddUp
unfolding IsSeries after
counts_add_up r levels started series p number answer lowered c =
    let s = is_start started in
    let n = rows_worked r series in
    let few = (sound r s.taken).area_high in
    let z : number ≡ 0 = accepted_exactly r levels started [] tt n number (answer, lowered) c ∙ rw (le-ltb most_rows n (omega arith)) in
    let b = begins r levels s in
    let e : min (0 + n) (due r) ≡ n = omega arith in
    let m : min (0 + allowed series) (due r) ≡ n = omega arith in
    let run = ap (λ (t : State). continued t.0 t.2 n) b ∙ longer r levels s 0 (omega arith) n ∙ ap (unbroken r levels) e in
    let one = ap (λ (t : State). rows_lowered (area_of r) 0 0 levels + lowered_by t.0 t.2 n) b
    ∙ longer_lowered r levels s 0 (omega arith) n ∙ ap (λ k. rows_lowered (area_of r) 0 k levels) e in
    let all = (cut r levels s 0 (omega arith) series (subst (λ t. IsSeries t series) b p)).1
    ∙ ap (λ k. rows_lowered (area_of r) 0 k levels) m in (
      z,
      cuts_do_not_show r levels started series p ∙ sym (ap (λ t. t.0) (c.accepted z) ∙ run),
      omega (arith, one, all, ap (λ t. t.1) (c.accepted z)),
    )

-- no picture before all rows are done
pub unfinished_refused : UnfinishedRefused
unfinished_refused r e levels size out = (
  rw e (four (record_bad r) (levels_wrong r levels) (not (eqb (length out) (r.height * r.width)))),
  rw e (five (record_bad r) (ltb (size_limit r) size) (levels_wrong r levels)
      (not (eqb (length out) (r.height * row_bytes r.width)))),
)
  where
    five : (a b c d : Bool) → first ((1, a) ∷ (8, b) ∷ (10, c) ∷ (11, d) ∷ (13, true) ∷ []) ≢ 0
    five true b c d z = absurd (omega arith)
    five false true c d z = absurd (omega arith)
    five false false true d z = absurd (omega arith)
    five false false false true z = absurd (omega arith)
    five false false false false z = absurd (omega arith)

    four : (a b c : Bool) → first ((1, a) ∷ (10, b) ∷ (11, c) ∷ (13, true) ∷ []) ≢ 0
    four a b c = five a false b c

-- with everything else in order a look is given, and of pictures the rows alone decide
module _ (r : Record) (levels : List ℕ) (started : Started r levels) (n : ℕ) (within : n ≤ due r) (size : ℕ)
    (small : size ≤ size_limit r) where
  pub look_given : (out : List ℕ) → length out ≡ r.height * row_bytes r.width
      → first (provisional_refusals (with_rows r n) (scan_rows (area_of r) 0 n levels) size out) ≡ 0
  look_given out q =
      rw (
        started_sound r levels started n within,
        le-ltb (size_limit r) size small,
        levels_fit r levels started n within,
        eq-eqb (length out) (r.height * row_bytes r.width) q,
      )

  pub by_rows : ((out : List ℕ) → length out ≡ r.height * r.width
      → first (collect_refusals (with_rows r n) (scan_rows (area_of r) 0 n levels) out) ≡ cond (eqb n (due r)) 0 13) ×
      ((out : List ℕ) → length out ≡ r.height * row_bytes r.width
      → first (threshold_refusals (with_rows r n) (scan_rows (area_of r) 0 n levels) size out) ≡ cond (eqb n (due r)) 0 13)
  by_rows =
      let a = started_sound r levels started n within in
      let b = levels_fit r levels started n within in (
        (λ out q. rw (a, b, eq-eqb (length out) (r.height * r.width) q) (last (eqb n (due r)))),
        (λ out q. first_accepted (provisional_refusals (with_rows r n) (scan_rows (area_of r) 0 n levels) size out)
            ((13, not (eqb n (due r))) ∷ []) tt (look_given out q) ∙ last (eqb n (due r))),
      )
    where
      last : (t : Bool) → first ((13, not t) ∷ []) ≡ cond t 0 13
      last true = refl
      last false = refl

pub none_released : NoneReleased
none_released r levels started n l size small =
    let p = by_rows r levels started n (omega arith) size small in
    let d = ne_eqb n (due r) (λ e. absurd (omega arith)) in
    ((λ out q. p.0 out q ∙ rw d), (λ out q. p.1 out q ∙ rw d))

pub released : Released
released r levels started size small =
    let p = by_rows r levels started (due r) (omega arith) size small in
    let d = eq-eqb (due r) (due r) refl in
    ((λ out q. p.0 out q ∙ rw d), (λ out q. p.1 out q ∙ rw d))
