-- Where the highest entry is within the cap, each is.
use Rattle.maps.proofs.SeenLaws.{none_large}
use native.Mathlib.Omega.{arith}
use borrow.Author.Tests.{le-ltb}
use mathlib.Core.Path.{sym, ◌∙◌}
use Rattle.maps.proofs.any_above.Goals as goal

pub returns-else-cap-from : goal.returns-else-cap-from
returns-else-cap-from c =
    let args = c.args in
    let f = c.requires.map_size in
    let same = c.from.ensures in
    let within = c.if-cap-from.false in
    le-ltb args.cap c.from.result (omega arith)
    ∙ sym (none_large args.input args.sheet.now args.map.now args.cap
    (λ k l. let h = c.highest.ensures.all k (omega arith) in omega arith))
