-- A run that a start gave is finished and packed at its cap; clearing is last, and the length stays.
use Rattle.scan.proofs.ScanLaws.{rows_length}
use Rattle.run.specs.Records.{area_of, due}
use Rattle.run.specs.Pictures.{thresholded}
use Rattle.maps.proofs.Answers.{pack_ready}
use mathlib.Core.Path.{ap, ◌∙◌}
use lib.ListN.{length, replicate}
use Rattle.maps.proofs.finish_sheet.Goals as goal

pub pack_held-requires : goal.pack_held-requires
pack_held-requires c =
    pack_ready c.requires c.finish.ensures

pub returns : goal.returns
returns c =
    let run = c.args.sound.run in (
      c.fill.ensures.after (λ y e. e) ∙ ap (λ n. replicate n 0)
          (ap length c.finish.ensures ∙ rows_length (area_of run) 0 (due run) c.args.work.now),
      c.pack_held.ensures ∙ ap (λ l. thresholded run l run.cap) c.finish.ensures,
    )
