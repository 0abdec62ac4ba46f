-- Off the frame the whole row is outside; else its three parts follow one another.
use Rattle.run.proofs.PartLaws.{replicate_is}
use Rattle.run.proofs.StartLaws.{row_above, row_below, row_parts}
use native.Mathlib.Omega.{arith}
use lib.ListN.{replicate}
use mathlib.Core.Path.{refl, ap, ◌∙◌}
use Rattle.run.proofs.starting.fill_row.Goals as goal
use Rattle.run.proofs.starting.fill_row.Goals.{then-row-frame-via-then-row-frame, then-row-frame-via-else-row-frame+then-frame-row}

pub returns-then-row-frame : goal.returns-then-row-frame
returns-then-row-frame c =
    let args = c.args in
    let frame = args.frame in
    let starts = args.starts in
    c.fill.ensures.after (λ y e. e)
    ∙ ap (λ n. replicate n starts.outside) c.requires.0
    ∙ replicate_is _ starts.outside _ (λ col _. elim c.then-row-frame.branch [
      | then-row-frame-via-then-row-frame w ↦
          row_above frame.width frame.height frame.margin args.sheet.now starts.on starts.off starts.outside args.row
          w.if-row-frame.true col
      | then-row-frame-via-else-row-frame+then-frame-row w ↦
          row_below frame.width frame.height frame.margin args.sheet.now starts.on starts.off starts.outside args.row
          w.if-frame-row.true col
    ])

pub returns : goal.returns
returns c =
    let args = c.args in
    row_parts args.frame.width args.frame.height args.frame.margin args.sheet.now args.starts.on args.starts.off
    args.starts.outside args.row c.if-row-frame.false (omega arith) args.levels.now c.requires.0 (c.fill-2.ensures.after (λ y e. e))
    refl c.fill_pixels.ensures (c.fill-3.ensures.after (λ y e. e))
