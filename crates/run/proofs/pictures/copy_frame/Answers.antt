-- With no limit and none less, the levels as they stand are the levels as they are read.
use mathlib.Core.Path.{sym, ◌∙◌}
use Rattle.basics.proofs.TableLaws.{raster_same}
use Rattle.run.proofs.LevelLaws.{read_stands}
use Rattle.run.proofs.pictures.copy_frame.Goals as goal

pub returns-then-reading-eq0 : goal.returns-then-reading-eq0
returns-then-reading-eq0 c =
    c.copy_rows.ensures
    ∙ raster_same _ _ _ _ (λ i j a b. sym (read_stands c.args.reading _ c.if-reading-eq-NONE.true c.if-reading-eq0.true))
