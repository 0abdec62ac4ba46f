-- A frame of another length is judged over a room of one byte; else the library answers, and the sides go into the frame.
use mathlib.Core.Path.{refl}
use Rattle.basics.proofs.RefusalLaws.{number_positive}
use Rattle.harness.proofs.FileAnswers.{read_other_refuses, read_accepts}
use Rattle.harness.proofs.files.wt_read_pbm.Goals as goal

pub returns-in-Err : goal.returns-in-Err
returns-in-Err c =
    rw c.number.ensures (read_other_refuses c.args.file.now c.args.out.now c.args.frame.now c.if-frame-ne2.true _ _ 0 0 _
    c.in-Err.ensures (number_positive c.in-Err.refusal))

pub returns-in-Ok-read : goal.returns-in-Ok-read
returns-in-Ok-read c =
    let sheet = c.in-Ok-read.sheet in
    read_accepts c.args.file.now c.args.out.now c.args.frame.now c.if-frame-ne2.false 0 sheet.width sheet.height
    c.read_pbm-read.new.out c.in-Ok-read.ensures refl
