-- The word with its number, and LF.
use Rattle.std.proofs.Common.{arith}
use Rattle.printing.proofs.RefusedLaws.{number_room, end_room, end_within, refused_prints}
use Rattle.printing.proofs.write_refused.Goals as goal

pub write_labelled-end-requires : goal.write_labelled-end-requires
write_labelled-end-requires c = number_room c.args.number c.args.out.now c.requires

pub slice_bounds-write_bytes-count : goal.slice_bounds-write_bytes-count
slice_bounds-write_bytes-count c = end_within c.args.number c.args.out.now c.requires _ _ c.write_labelled-end.ensures

pub slice_bounds-write_bytes-start : goal.slice_bounds-write_bytes-start
slice_bounds-write_bytes-start c = slice_bounds-write_bytes-count c

pub write_bytes-requires : goal.write_bytes-requires
write_bytes-requires c = end_room c.args.number c.args.out.now c.requires _ _ c.write_labelled-end.ensures

pub overflow_add-result : goal.overflow_add-result
overflow_add-result c =
    let p = refused_prints c.args.number c.args.out.now c.requires _ _ c.write_labelled-end.ensures _ _ c.write_bytes.ensures in
    let fits = p.0 in
    omega arith

pub returns : goal.returns
returns c =
    (refused_prints c.args.number c.args.out.now c.requires _ _ c.write_labelled-end.ensures _ _ c.write_bytes.ensures).1
