-- One labelled number, and the other after it.
use Rattle.std.proofs.Common.{rules}
use Rattle.text.proofs.WroteLaws.{wrote_both}
use Rattle.text.proofs.write_pair.Goals as goal

pub returns : goal.returns
returns c = search (rules, wrote_both)
