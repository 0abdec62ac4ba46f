-- The label, and the number after it.
use Rattle.std.proofs.Common.{rules}
use Rattle.text.proofs.WroteLaws.{wrote_both, wrote_number}
use Rattle.text.proofs.write_labelled.Goals as goal

pub returns : goal.returns
returns c = search (rules, wrote_both, wrote_number)
