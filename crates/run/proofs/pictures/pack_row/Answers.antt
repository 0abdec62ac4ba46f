use Rattle.std.proofs.lemmas.List.{take_rest}
use Rattle.basics.proofs.TableLaws.{filling_start, filling_turn, filling_end}
use Rattle.run.proofs.PackLaws.{full_of, end_of}
use native.Mathlib.Omega.{arith}
use Prim.Native.Nat.{◌*◌, ◌/◌}
use mathlib.Core.Path.{◌≡◌, refl}
use lib.ListN.{length}
use Rattle.run.proofs.pictures.pack_row.Goals as goal

pub loop-k-init : goal.loop-k-init
loop-k-init c = filling_start _ _ _ c.requires.1

pub loop-k-preserved : goal.loop-k-preserved
loop-k-preserved c =
    let args = c.args in
    filling_turn _ _ _ _ _ c.loop-k.invariant (omega arith)
    (full_of args.bounds.low args.bounds.high args.levels.now c.loop-k.k (take_rest args.levels.now (8 * c.loop-k.k))
    (omega arith) c.full_byte.ensures)

pub returns-then-width-ne0 : goal.returns-then-width-ne0
returns-then-width-ne0 c =
    let args = c.args in
    let q : c.loop-k.k ≡ length args.levels.now / 8 = omega arith in
    let h = rw q at c.loop-k.invariant in
    filling_end _ _ _ _ (filling_turn _ _ _ _ _ h (omega arith)
    (end_of args.bounds.low args.bounds.high args.levels.now _ (take_rest args.levels.now (8 * (length args.levels.now / 8)))
    refl c.last_byte.ensures)) (omega arith)
