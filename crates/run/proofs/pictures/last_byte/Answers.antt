use Rattle.run.proofs.PackLaws.{last_of}
use mathlib.Core.List.{◌++◌}
use mathlib.Core.Path.{ap₂}
use Rattle.std.proofs.lemmas.List.{drop-replicate}
use Rattle.run.proofs.pictures.last_byte.Goals as goal

pub returns : goal.returns
returns c =
    last_of c.args.bounds.low c.args.bounds.high c.args.levels.now _
    (ap₂ (λ a b. a ++ b) c.copy_from_slice.ensures.after (drop-replicate _ 8 0)) c.full_byte.ensures
