-- After n turns the levels are those of a scan of n rows, and the sum is that of the points they lowered.
use Rattle.scan.specs.Scan.{scan_rows, rows_lowered}
use mathlib.Core.Path.{◌≡◌}
use lib.ListN.{length}
use Rattle.scan.proofs.scan_rows.Given as goal

abbrev pub invariant-loop-n : goal.invariant-loop-n
invariant-loop-n l =
    record {
      wide : length l.worked ≡ 4096;
      scanned : l.levels ≡ scan_rows l.area l.done l.n l.initial.levels;
      summed : l.lowered ≡ rows_lowered l.area l.done l.n l.initial.levels;
    }
