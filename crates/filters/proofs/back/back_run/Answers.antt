-- The run of the other kind is one that a start could give.
use Rattle.run.specs.Kinds.{erosion_kind, dilation_kind}
use Rattle.filters.proofs.BackLaws.{back_taken}
use borrow.Author.Tests.{eq-eqb, ne_eqb}
use lib.Dec.{eqb}
use mathlib.Core.Bool.{cond}
use mathlib.Core.Path.{◌≡◌, ◌∙◌, refl}
use Rattle.filters.proofs.back.back_run.Goals as goal
use Rattle.filters.proofs.back.back_run.Goals.{then-sound-eq-EROSION, else-sound-eq-EROSION}

pub invariant_of-result : goal.invariant_of-result
invariant_of-result c =
    let run = c.args.sound.run in
    let other : c.if-sound-eq-EROSION.kind ≡ cond (eqb run.kind erosion_kind) dilation_kind erosion_kind =
    elim c.if-sound-eq-EROSION.branch [
      | then-sound-eq-EROSION w ↦ w.kind-is ∙ rw (eq-eqb run.kind 1 w.if-sound-eq-EROSION.true) refl
      | else-sound-eq-EROSION w ↦ w.kind-is ∙ rw (ne_eqb run.kind 1 w.if-sound-eq-EROSION.false) refl
    ] in
    record { taken = rw (other, c.area_width.ensures.0, c.area_height.ensures.0) (back_taken run c.args.sound.taken) }
