-- The loop's invariant: the levels of the first columns are filled. The pixel's byte is in the sheet, because the row's bytes
-- are.
use Rattle.std.proofs.Common.{◌≡◌, ℕ, ◌<◌, get_or, cond, eqb}
use Rattle.sheet.specs.Sheets.{pixel}
use Rattle.run.proofs.starting.fill_pixels.Given as goal

abbrev pub invariant-loop-col : goal.invariant-loop-col
invariant-loop-col l =
    (k : ℕ) → k < l.col → get_or l.levels k 0 ≡ cond (eqb (pixel l.width l.sheet l.row k) 1) l.starts.on l.starts.off
