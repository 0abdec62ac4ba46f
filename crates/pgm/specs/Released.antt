-- Of which runs a picture is written: of every finished one, and of no other.
use Rattle.std.specs.Prelude.{ℕ, ◌*◌, ◌≤◌, ◌<◌, ◌≡◌, ◌≢◌, false, List, length}
use Rattle.basics.specs.Bounds.{any_above}
use Rattle.basics.specs.Refusals.{first}
use Rattle.run.specs.declared.Record.{Record}
use Rattle.run.specs.Records.{due}
use Rattle.run.specs.Continuing.{with_rows, is_done}
use Rattle.run.specs.Pictures.{collected}
use Rattle.run.specs.Series.{Started}
use Rattle.run.specs.Demand2.{finished}
use Rattle.pgm.specs.WritePgm.{maximum, picture, pgm_refusals}

-- the levels that a finished run collects are never refused with 8: none is above the maximum that the picture states
abbrev pub LevelsWithin : Type 0
LevelsWithin = (r : Record) (levels : List ℕ) → Started r levels → any_above (maximum r) (collected r (finished r levels)) ≡ false

-- a run with rows still due is refused, whatever is lent
abbrev pub PgmUnfinishedRefused : Type 0
PgmUnfinishedRefused = (r : Record) → is_done r ≡ false → (levels out : List ℕ) → first (pgm_refusals r levels out) ≢ 0

-- and with everything else in order it is refused with 13
abbrev pub PgmNoneReleased : Type 0
PgmNoneReleased =
    (r : Record) (levels : List ℕ) → Started r levels → (n : ℕ) → n < due r → (lent out : List ℕ)
    → length lent ≡ r.height * r.width → any_above (maximum r) lent ≡ false
    → length (picture (with_rows r n) lent) ≤ length out → first (pgm_refusals (with_rows r n) lent out) ≡ 13

-- a finished run's collected levels are written where there is room for their text
abbrev pub PgmReleased : Type 0
PgmReleased =
    (r : Record) (levels : List ℕ) → Started r levels → (out : List ℕ)
    → length (picture (with_rows r (due r)) (collected r (finished r levels))) ≤ length out
    → first (pgm_refusals (with_rows r (due r)) (collected r (finished r levels)) out) ≡ 0
