-- Where the series ends the run is an unbroken scan, and the finished run is what the rows still due make of it. They never raise a
-- level and lower none to 0, so a level that an erosion ends with above the size is above it before, and one that a dilation has
-- from 1 to the size and one ends there too. What the finished levels hold is the right set, by demand 2.
use Prim.Native.Nat.{ℕ, suc, ◌+◌, ◌-◌, ◌*◌, ◌≤◌, ◌<◌}
use native.Mathlib.Omega.{arith}
use mathlib.Core.Path.{◌≡◌, refl, sym, ap, subst, ◌∙◌}
use mathlib.Core.Bool.{Bool, true, false, cond, ◌&&◌}
use mathlib.Core.Logic.{◌≢◌, ◌↔◌}
use mathlib.Core.List.{List, [], ◌∷◌}
use lib.Dec.{eqb, leb, ltb}
use lib.ListN.{length, get_or}
use borrow.Author.Tests.{eq-eqb, ne_eqb, eqb-true, lt-ltb, ltb-true, leb-true, leb-false}
use Rattle.basics.specs.Limits.{highest_cap}
use Rattle.sheet.specs.Sheets.{row_bytes, pixel}
use Rattle.sheet.specs.Means.{SheetMeans}
use Rattle.row.specs.RowRule.{none}
use Rattle.scan.specs.Scan.{scan_rows}
use Rattle.scan.proofs.ScanLaws.{rows_add, rows_lower, rows_positive}
use Rattle.run.specs.declared.Record.{Record}
use Rattle.run.specs.declared.kinds.Kind.TheVariants.{Eroding, Cropping}
use Rattle.run.specs.Kinds.{by_kind, erosion_kind, background_beyond, size_limit, cropped_level, is_held_at}
use Rattle.run.specs.Records.{area_of, due}
use Rattle.run.specs.Continuing.{State, with_rows}
use Rattle.run.specs.Pictures.{frame_level, thresholded}
use Rattle.run.specs.Provisional.{ShowsProvisional}
use Rattle.run.specs.Series.{Started, Slice, Allowed, IsSeries, at_start, next, after, rows_worked}
use Rattle.run.specs.Demand2.{finished, RightSet}
use Rattle.run.proofs.LevelLaws.{range_iff}
use Rattle.run.proofs.RecordLaws.{sound}
use Rattle.run.proofs.Started.{is_start}
use Rattle.run.proofs.Demand2.{thresholded_at, pixel_iff, every_picture}
use Rattle.run.proofs.Demand3.{cuts_do_not_show, look_given}
use Rattle.demands.specs.CutRuns.{Shown, EveryCut, FinalIsOrdinary}
use Rattle.demands.proofs.Demand3.{thresholded_rows}

-- NO CALL RAISES A LEVEL, whatever the run
call_lowers : (s : State) (call : Slice) → Allowed s call → (place : ℕ) → get_or (next s call).2 place 0 ≤ get_or s.2 place 0
call_lowers s call p place = go (eqb call.number 0) refl
  where
    accepted : call.number ≡ 0 → get_or call.answer.2 place 0 ≤ get_or s.2 place 0
    accepted z =
        let lower = rows_lower (area_of call.run) call.run.rows _ call.levels place in
        rw (ap (λ (t : State × ℕ). t.0.2) (p.outcome.accepted z), sym (p.own z).1) lower

    go : (t : Bool) → eqb call.number 0 ≡ t → get_or (cond t call.answer s).2 place 0 ≤ get_or s.2 place 0
    go true e = accepted (eqb-true call.number 0 e)
    go false e = omega arith

calls_lower : (s : State) (series : List Slice) → IsSeries s series → (place : ℕ)
    → get_or (after s series).2 place 0 ≤ get_or s.2 place 0
unfolding IsSeries after
calls_lower s [] p place = omega arith
calls_lower s (call ∷ series) p place =
    let step = call_lowers s call p.0 place in
    let rest = calls_lower (next s call) series p.1 place in
    omega arith

-- a level and the one that it is lowered to: what an erosion of either kind holds of the lower it holds of the higher, and a
-- dilation, where none is lowered to 0, the other way about
cropped_rises : (R lower level : ℕ) → R ≤ highest_cap → lower ≤ level → cropped_level R lower ≤ cropped_level R level
cropped_rises R lower level small l = go (leb lower (suc R)) (leb level (suc R)) refl refl
  where
    go : (a b : Bool) → leb lower (suc R) ≡ a → leb level (suc R) ≡ b → cond a (lower - 1) none ≤ cond b (level - 1) none
    go true true p q = omega arith
    go true false p q = let f = leb-true lower (suc R) p in omega arith
    go false true p q = let f = leb-false lower (suc R) p in let g = leb-true level (suc R) q in absurd (omega arith)
    go false false p q = omega arith

module _ (r : Record) (n lower level : ℕ) (l : lower ≤ level) where
  held_before : r.cap ≤ highest_cap → r.kind ≡ erosion_kind → is_held_at r n lower ≡ true → is_held_at r n level ≡ true
  held_before small k h = rw (eq-eqb r.kind erosion_kind k)
      (go (eqb r.edge background_beyond) (rw (eq-eqb r.kind erosion_kind k) at h))
    where
      above : (a b : ℕ) → a ≤ b → ltb n a ≡ true → ltb n b ≡ true
      above a b m t = let f = ltb-true n a t in lt-ltb n b (omega arith)

      go : (t : Bool)
          → by_kind (cond t Eroding Cropping) (ltb n lower) (leb 1 lower && leb lower (suc n)) (ltb n (cropped_level r.cap lower)) ≡ true
          → by_kind (cond t Eroding Cropping) (ltb n level) (leb 1 level && leb level (suc n)) (ltb n (cropped_level r.cap level)) ≡ true
      go true = above lower level l
      go false = above _ _ (cropped_rises r.cap lower level small l)

  held_after : r.kind ≢ erosion_kind → (0 < level → 0 < lower) → is_held_at r n level ≡ true → is_held_at r n lower ≡ true
  held_after m positive h =
      let e = ne_eqb r.kind erosion_kind m in
      let (some, most) = (range_iff n level).1 (rw e at h) in
      rw e ((range_iff n lower).0 (positive some, omega arith))

-- so with the pixels of levels and of what more rows make of them
module _ (r : Record) (levels : List ℕ) (done count n row col : ℕ) (a : row < r.height) (b : col < r.width) where
  abbrev later : List ℕ
  later = scan_rows (area_of r) done count levels

  abbrev Seen : List ℕ → Type 0
  Seen l = pixel r.width (thresholded r l n) row col ≡ 1

  seen_iff : (l : List ℕ) → Seen l ↔ (is_held_at r n (frame_level r l row col) ≡ true)
  seen_iff l = pixel_iff _ _ (thresholded_at r l n row col a b) (λ e. e) (λ e. e)

  lower : frame_level r later row col ≤ frame_level r levels row col
  lower = rows_lower (area_of r) done count levels _

  seen_before : r.cap ≤ highest_cap → r.kind ≡ erosion_kind → Seen later → Seen levels
  seen_before small k e =
      (seen_iff levels).1 (held_before r n (frame_level r later row col) (frame_level r levels row col) lower small k
      ((seen_iff later).0 e))

  seen_after : r.kind ≢ erosion_kind → Seen levels → Seen later
  seen_after k e =
      (seen_iff later).1 (held_after r n (frame_level r later row col) (frame_level r levels row col) lower k
      (rows_positive (area_of r) done count levels _) ((seen_iff levels).0 e))

-- a started run of which n rows are done
module _ {r : Record} {levels : List ℕ} (started : Started r levels) (n : ℕ) (within : n ≤ due r) where
  abbrev own : List ℕ
  own = scan_rows (area_of r) 0 n levels

  -- the rows still due finish it
  finishes : scan_rows (area_of r) (0 + n) (due r - n) own ≡ finished r levels
  finishes =
      let e : n + (due r - n) ≡ due r = omega arith in
      sym (rows_add (area_of r) 0 n (due r - n) levels) ∙ ap (λ m. scan_rows (area_of r) 0 m levels) e

  above_final : (place : ℕ) → get_or (finished r levels) place 0 ≤ get_or own place 0
  above_final place = rw (sym finishes) (rows_lower (area_of r) (0 + n) (due r - n) own place)

  module _ (size : ℕ) (small : size ≤ size_limit r) where
    look : (out : List ℕ) → length out ≡ r.height * row_bytes r.width → (number : ℕ) (is_final : Bool) (sheet : List ℕ)
        → ShowsProvisional (with_rows r n) own size out number (is_final, sheet) → Shown started n size number is_final sheet
    look out q number is_final sheet c =
        let z = c.refusal ∙ look_given r levels started n within size small out q in
        let answer = c.accepted z in
        let final = ap (λ t. t.0) answer in
        let same = ap (λ t. t.1) answer ∙ thresholded_rows r n own size in
        let right = (every_picture r levels started).thresholding size small in
        record {
          given = z;
          final = ((λ e. eqb-true n (due r) (sym final ∙ e)), (λ e. final ∙ eq-eqb n (due r) e));
          contains = λ k row col a b h. rw same
              (seen_before r own (0 + n) (due r - n) size row col a b (sound r (is_start started).taken).cap_small k
              (rw finishes ((right row col a b).1 h)));
          within = λ k row col a b h. (right row col a b).0
              (rw (sym finishes) (seen_after r own (0 + n) (due r - n) size row col a b
              (λ e. absurd (omega arith)) (rw same at h)));
          whole = λ e. subst (SheetMeans r.width r.height (RightSet started size))
              (sym (same ∙ ap (λ m. thresholded r (scan_rows (area_of r) 0 m levels) size) e)) right;
        }

-- A LOOK AT A CUT RUN
pub every_cut : EveryCut
every_cut r levels started series p =
    let n = rows_worked r series in
    let here = cuts_do_not_show r levels started series p in
    record {
      none_below = λ place. rw here (above_final started n (omega arith) place);
      none_raised = λ more q. calls_lower (after (at_start r levels) series) more q;
      shown = λ size small out q number is_final sheet c. look started n (omega arith) size small out q number is_final sheet
          (rw here at c);
    }

pub final_is_ordinary : FinalIsOrdinary
final_is_ordinary r d levels size out number is_final sheet c = record {
  refusal = c.refusal ∙ rw d;
  accepted = λ z. ap (λ t. t.1) (c.accepted z);
  refused = λ z. ap (λ t. t.1) (c.refused z);
}
