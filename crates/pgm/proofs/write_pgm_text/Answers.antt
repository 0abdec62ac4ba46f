-- The header, and the levels after it.
use Rattle.text.proofs.WroteLaws.{wrote_both}
use Rattle.pgm.specs.PgmText.{plain_magic, levels_text, pgm_text}
use Rattle.pgm.specs.Writing.{header_text}
use Rattle.pgm.proofs.write_pgm_text.Goals as goal

pub returns : goal.returns
unfolding pgm_text
returns c =
    let header = c.args.header in
    wrote_both (header_text plain_magic header) (levels_text header.width header.height c.args.levels.now) _ _ _ _ _
    c.write_header-start.ensures c.write_levels.ensures
