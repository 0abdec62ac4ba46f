-- The parts are proved where their calls are: cuts, release and demand 2 in run, writing in pgm. Here they are joined: where the
-- series ends, the run is an unbroken scan, so what is known of those holds of it.
use Prim.Native.Nat.{ℕ, ◌≤◌, ◌<◌}
use native.Mathlib.Omega.{arith}
use mathlib.Core.Path.{◌≡◌, refl, sym, ap, subst, ◌∙◌}
use mathlib.Core.Logic.{◌≢◌}
use mathlib.Core.List.{List}
use lib.ListN.{length}
use borrow.Author.Tests.{eq-eqb, ne_eqb, eqb-true}
use Rattle.basics.specs.Refusals.{first}
use Rattle.sheet.specs.Means.{LevelsMean, SheetMeans}
use Rattle.scan.specs.Scan.{scan_rows}
use Rattle.run.specs.declared.Record.{Record}
use Rattle.run.specs.Records.{area_of, due}
use Rattle.run.specs.Continuing.{State, with_rows}
use Rattle.run.specs.Pictures.{collected, thresholded}
use Rattle.run.specs.Series.{Started, unbroken, rows_worked}
use Rattle.run.specs.Demand2.{finished, RightLevel, RightSet}
use Rattle.run.proofs.Demand2.{every_picture}
use Rattle.run.proofs.Demand3.{cuts_do_not_show, counts_add_up, released, none_released, unfinished_refused}
use Rattle.pgm.specs.WritePgm.{picture, pgm_refusals}
use Rattle.pgm.proofs.Released.{pgm_released, pgm_none_released, pgm_unfinished_refused}
use Rattle.demands.specs.Demand3.{PictureGiven, NoneGiven, RowsWanting, EveryRun}

-- rows done do not matter to what is collected and held
collected_rows : (r : Record) (n : ℕ) (levels : List ℕ) → collected (with_rows r n) levels ≡ collected r levels
unfolding collected
collected_rows r n levels = refl

pub thresholded_rows : (r : Record) (n : ℕ) (levels : List ℕ) (size : ℕ)
    → thresholded (with_rows r n) levels size ≡ thresholded r levels size
unfolding thresholded
thresholded_rows r n levels size = refl

module _ {r : Record} {levels : List ℕ} (started : Started r levels) where
  write_given : (out : List ℕ)
      → length (picture (with_rows r (due r)) (collected (with_rows r (due r)) (finished r levels))) ≤ length out
      → first (pgm_refusals (with_rows r (due r)) (collected (with_rows r (due r)) (finished r levels)) out) ≡ 0
  unfolding collected
  write_given out room = pgm_released r levels started out room

  given : PictureGiven started (with_rows r (due r)) (finished r levels)
  given = record {
    collecting = λ out q number filled c.
        let z = c.refusal ∙ (released r levels started 0 (omega arith)).0 out q in (
          z,
          subst (LevelsMean r.width r.height (RightLevel started))
              (sym (c.accepted z ∙ collected_rows r (due r) (finished r levels))) (every_picture r levels started).collecting,
        );
    thresholding = λ size l out q number filled c.
        let z = c.refusal ∙ (released r levels started size l).1 out q in (
          z,
          subst (SheetMeans r.width r.height (RightSet started size))
              (sym (c.accepted z ∙ thresholded_rows r (due r) (finished r levels) size))
              ((every_picture r levels started).thresholding size l),
        );
    writing = λ out room number written c. c.refusal ∙ write_given out room;
  }

  module _ (n : ℕ) (l : n < due r) where
    none_given : NoneGiven (with_rows r n)
    none_given =
        let d = ne_eqb n (due r) (λ e. absurd (omega arith)) in record {
          collecting = λ lent out number filled c.
              let z : number ≢ 0 = λ z. (unfinished_refused (with_rows r n) d lent 0 out).0 (sym c.refusal ∙ z) in
              (z, c.refused z);
          thresholding = λ lent size out number filled c.
              let z : number ≢ 0 = λ z. (unfinished_refused (with_rows r n) d lent size out).1 (sym c.refusal ∙ z) in
              (z, c.refused z);
          writing = λ lent out number written c.
              let z : number ≢ 0 = λ z. pgm_unfinished_refused (with_rows r n) d lent out (sym c.refusal ∙ z) in
              (z, c.refused z);
        }

    rows_wanting : RowsWanting r (with_rows r n) (scan_rows (area_of r) 0 n levels)
    rows_wanting = record {
      collecting = λ out q number filled c. c.refusal ∙ (none_released r levels started n l 0 (omega arith)).0 out q;
      thresholding = λ size small out q number filled c. c.refusal ∙ (none_released r levels started n l size small).1 out q;
      writing = λ lent out size within room number written c.
          c.refusal ∙ pgm_none_released r levels started n l lent out size within room;
    }

-- DEMAND 3
pub every_run : EveryRun
every_run r levels started series p =
    let n = rows_worked r series in
    let here = cuts_do_not_show r levels started series p in
    let completed = ap (λ (t : State). t.1) here in record {
      cuts = here;
      counts = counts_add_up r levels started series p;
      completion = ((λ e. eqb-true n (due r) (sym completed ∙ e)), (λ e. completed ∙ eq-eqb n (due r) e));
      released = λ e. subst (λ (t : State). PictureGiven started t.0 t.2) (sym (here ∙ ap (unbroken r levels) e))
          (given started);
      withheld = λ l. subst (λ (t : State). NoneGiven t.0 × RowsWanting r t.0 t.2) (sym here)
          (none_given started n l, rows_wanting started n l);
    }
