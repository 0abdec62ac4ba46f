-- Each answer follows from what the header, the raster and the room were found to be.
use Rattle.std.proofs.lemmas.Result.{err_from_is_err_and}
use Rattle.basics.proofs.RefusalLaws.{number_positive}
use Rattle.pbm.proofs.Reading.{header_refuses, frame_in, raster_refuses, room_refuses, read_accepts}
use Rattle.pbm.proofs.read_pbm.Goals as goal

pub returns-in_err-frame : goal.returns-in_err-frame
returns-in_err-frame c =
    let p = err_from_is_err_and c.from_residual.result c.from_residual.ensures.1 in
    rw (p.1, p.2) (header_refuses c.args.file.now c.args.out.now c.in_err-frame.ensures (number_positive _))

pub check_raster-requires : goal.check_raster-requires
check_raster-requires c = let f = frame_in c.args.file.now c.args.out.now c.in_ok-frame.ensures in (f.1, f.2)

pub returns-in_err-check_raster : goal.returns-in_err-check_raster
returns-in_err-check_raster c =
    let p = err_from_is_err_and c.from_residual-in_err-check_raster.result c.from_residual-in_err-check_raster.ensures.1 in
    rw (p.1, p.2) (raster_refuses c.args.file.now c.args.out.now c.in_ok-frame.ensures c.in_err-check_raster.ensures
    (number_positive _))

pub returns-then-out-raster : goal.returns-then-out-raster
returns-then-out-raster c =
    room_refuses c.args.file.now c.args.out.now c.in_ok-frame.ensures c.in_ok-check_raster.ensures c.if-out-raster.true

pub copy_cleared-requires-clause-frame : goal.copy_cleared-requires-clause-frame
copy_cleared-requires-clause-frame c = frame_in c.args.file.now c.args.out.now c.in_ok-frame.ensures

pub returns : goal.returns
returns c =
    read_accepts c.args.file.now c.args.out.now c.in_ok-frame.ensures c.in_ok-check_raster.ensures c.if-out-raster.false
    c.copy_cleared.ensures
