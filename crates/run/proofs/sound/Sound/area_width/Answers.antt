-- A sound record has a small area.
use Rattle.run.proofs.RecordLaws.{sound}
use native.Mathlib.Omega.{arith}
use mathlib.Core.Path.{refl}
use Rattle.run.proofs.sound.Sound.area_width.Goals as goal

pub area_width-requires : goal.area_width-requires
area_width-requires c = let small = (sound c.args.self.run c.args.self.taken).area_wide in rw c.frame.ensures.0 (omega arith)

pub returns : goal.returns
returns c =
    let s = sound c.args.self.run c.args.self.taken in
    let some = s.wide in
    let small = s.area_wide in
    rw (c.area_width.ensures, c.frame.ensures.0) (refl, (omega arith, omega arith))
