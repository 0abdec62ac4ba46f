-- The bytes that the iterator takes are the run.
use Rattle.std.proofs.Common.{◌≡◌, ◌+◌, ◌-◌, ◌∙◌, ap, length, take, drop, rules, tests}
use Rattle.std.proofs.lemmas.Iterator.{YieldsList-from_slice}
use Rattle.std.proofs.lemmas.Iterator.Search.{YieldsList-from_take_while}
use Rattle.std.proofs.lemmas.Iterator.Consumers.{count_from_yields_List}
use Rattle.text.proofs.WroteLaws.{part_is}
use Rattle.pbm.specs.Header.{is_white}
use Rattle.pbm.proofs.RunLaws.{taken_is}
use Rattle.pbm.proofs.skip_white.Goals as goal

pub returns : goal.returns
returns c =
    let white = drop c.args.at c.args.file.now in
    let lent : take (length c.args.file.now - c.args.at) white ≡ white = part_is c.args.at c.args.file.now in
    ap (λ n. c.args.at + n) (count_from_yields_List c.take_while.result _ c.count.ensures.ran
    (YieldsList-from_take_while _ is_white (YieldsList-from_slice white cc) c.take_while.ensures.closure
    c.take_while.ensures.done (λ x b q k. search (rules, tests))) ∙ ap length (taken_is is_white white))
