-- Each answer follows from what the sheet and the room were found to be; the raster is written into the part after the header.
use Rattle.std.proofs.Common.{arith}
use Rattle.std.proofs.lemmas.Result.{err_from_is_err_and}
use Rattle.basics.proofs.RefusalLaws.{number_positive}
use Rattle.text.proofs.WroteLaws.{wrote_within}
use Rattle.pbm.proofs.Writing.{sheet_refuses, write_room_refuses, header_room, sheet_in_lem, part_room, write_accepts}
use Rattle.pbm.proofs.Writing.{small}
use Rattle.pbm.proofs.write_pbm.Goals as goal

pub returns-in_err-check_sheet : goal.returns-in_err-check_sheet
returns-in_err-check_sheet c =
    let p = err_from_is_err_and c.from_residual.result c.from_residual.ensures.1 in
    rw (p.1, p.2) (sheet_refuses c.args.width c.args.height c.args.sheet.now c.args.out.now (number_positive _)
    c.in_err-check_sheet.ensures)

pub overflow_add-size : goal.overflow_add-size
overflow_add-size c =
    let s = small c.args.width c.args.height c.args.sheet.now c.args.out.now c.in_ok-check_sheet.ensures in omega arith

pub overflow_add-size-2 : goal.overflow_add-size-2
overflow_add-size-2 c =
    let s = small c.args.width c.args.height c.args.sheet.now c.args.out.now c.in_ok-check_sheet.ensures in omega arith

pub overflow_add-size-3 : goal.overflow_add-size-3
overflow_add-size-3 c =
    let s = small c.args.width c.args.height c.args.sheet.now c.args.out.now c.in_ok-check_sheet.ensures in omega arith

pub returns-then-out-size : goal.returns-then-out-size
returns-then-out-size c =
    write_room_refuses c.args.width c.args.height c.args.sheet.now c.args.out.now c.in_ok-check_sheet.ensures (omega arith)
    c.if-out-size.true

pub write_header-at-requires : goal.write_header-at-requires
write_header-at-requires c =
    header_room c.args.width c.args.height c.args.sheet.now c.args.out.now c.in_ok-check_sheet.ensures (omega arith)
    c.if-out-size.false

pub slice_bounds-copy_cleared-count : goal.slice_bounds-copy_cleared-count
slice_bounds-copy_cleared-count c =
    wrote_within _ _ _ _ (header_room c.args.width c.args.height c.args.sheet.now c.args.out.now c.in_ok-check_sheet.ensures
    (omega arith) c.if-out-size.false) c.write_header-at.ensures

pub slice_bounds-copy_cleared-start : goal.slice_bounds-copy_cleared-start
slice_bounds-copy_cleared-start c = slice_bounds-copy_cleared-count c

pub copy_cleared-requires-clause-frame : goal.copy_cleared-requires-clause-frame
copy_cleared-requires-clause-frame c =
    sheet_in_lem c.args.width c.args.height c.args.sheet.now c.args.out.now c.in_ok-check_sheet.ensures

pub copy_cleared-requires-clause-room : goal.copy_cleared-requires-clause-room
copy_cleared-requires-clause-room c =
    part_room c.args.width c.args.height c.args.sheet.now c.args.out.now c.in_ok-check_sheet.ensures (omega arith)
    c.if-out-size.false c.write_header-at.ensures

pub returns : goal.returns
returns c =
    write_accepts c.args.width c.args.height c.args.sheet.now c.args.out.now c.in_ok-check_sheet.ensures (omega arith)
    c.if-out-size.false c.write_header-at.ensures c.copy_cleared.ensures
