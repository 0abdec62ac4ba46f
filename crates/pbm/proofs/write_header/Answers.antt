-- The sides after "P4", and LF after them.
use Rattle.pbm.proofs.Writing.{header_pieces, length_header}
use Rattle.text.proofs.WroteLaws.{wrote_both, wrote_as}
use Rattle.std.proofs.Common.{arith, length-append}
use Rattle.pbm.proofs.write_header.Goals as goal

pub write_pair-end-requires : goal.write_pair-end-requires
write_pair-end-requires c = simp length-append (omega (arith, length_header c.args.frame.width c.args.frame.height))

pub write_bytes-requires : goal.write_bytes-requires
write_bytes-requires c =
    let size = simp length-append at c.write_pair-end.ensures.0 in
    omega (arith, length_header c.args.frame.width c.args.frame.height)

pub returns : goal.returns
returns c =
    wrote_as _ _ _ _ _ (header_pieces c.args.frame.width c.args.frame.height)
    (wrote_both _ _ _ _ _ _ _ c.write_pair-end.ensures c.write_bytes.ensures)
