use Rattle.std.proofs.Common.{rules, ◌≡◌, ◌∙◌}
use Rattle.std.specs.Prelude.{not, eqb, count_by}
use Rattle.element.proofs.ElementLaws.{set_counted}
use Rattle.element.proofs.count_set.Goals as goal

pub returns : goal.returns
returns c =
    let e : c.count.result ≡ count_by (λ byte. not (eqb byte 0)) c.args.bytes.now = search rules in
    e ∙ set_counted c.args.bytes.now
