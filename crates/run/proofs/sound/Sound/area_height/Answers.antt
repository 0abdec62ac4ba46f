-- A sound record has a small area.
use Rattle.run.proofs.RecordLaws.{sound}
use native.Mathlib.Omega.{arith}
use mathlib.Core.Path.{refl}
use Rattle.run.proofs.sound.Sound.area_height.Goals as goal

pub area_height-requires : goal.area_height-requires
area_height-requires c = let small = (sound c.args.self.run c.args.self.taken).area_high in rw c.frame.ensures.0 (omega arith)

pub returns : goal.returns
returns c =
    let s = sound c.args.self.run c.args.self.taken in
    let some = s.high in
    let small = s.area_high in
    rw (c.area_height.ensures, c.frame.ensures.0) (refl, (omega arith, omega arith))
