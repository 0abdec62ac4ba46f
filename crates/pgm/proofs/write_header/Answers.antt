-- The pieces one after the other.
use Rattle.std.proofs.Common.{ℕ, length-append, arith}
use Rattle.text.proofs.WroteLaws.{wrote_both, wrote_as}
use Rattle.pgm.proofs.HeaderLaws.{header_made}
use Rattle.pgm.specs.PgmText.{pgm_header}
use Rattle.pgm.proofs.write_header.Goals as goal

pub overflow_add-result : goal.overflow_add-result
unfolding pgm_header
overflow_add-result c = grind (arith, length-append {A = ℕ})

pub returns : goal.returns
returns c =
    wrote_as _ _ _ _ _ (header_made c.args.magic.now c.args.header)
    (wrote_both _ _ _ _ _ _ _
    (wrote_both _ _ _ _ _ _ _
    (wrote_both _ _ _ _ _ _ _
    (wrote_both _ _ _ _ _ _ _ c.write_bytes-end.ensures c.write_pair-end.ensures)
    c.write_pair-end-2.ensures)
    c.write_labelled-end.ensures)
    c.write_bytes.ensures)
