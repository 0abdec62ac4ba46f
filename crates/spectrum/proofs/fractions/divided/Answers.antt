-- Each number is small enough to be a double, so that neither cast loses anything.
use lib.Dec.{le→leb}
use lib.Ieee.{in_float}
use borrow.Author.Rules.{rules}
use Rattle.spectrum.specs.Spectrum.{exact_limit}
use Rattle.spectrum.proofs.fractions.divided.Goals as goal

pub int_to_float-result : goal.int_to_float-result
unfolding in_float
int_to_float-result c = le→leb c.args.part exact_limit c.requires.0

pub int_to_float-result-2 : goal.int_to_float-result-2
unfolding in_float
int_to_float-result-2 c = le→leb c.args.whole exact_limit c.requires.1

pub returns : goal.returns
returns c = search rules
