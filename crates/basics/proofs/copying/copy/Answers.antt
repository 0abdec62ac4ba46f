use native.Mathlib.Omega.{arith}
use mathlib.Core.List.{[], ◌∷◌, ◌++◌}
use mathlib.Core.Path.{refl, sym, ap, ◌∙◌}
use lib.ListN.{take, length-set}
use Rattle.std.proofs.lemmas.List.{take_all, take_more, take_more_set}
use Rattle.basics.proofs.copying.copy.Goals as goal

pub loop-i-init : goal.loop-i-init
loop-i-init g c = (c.requires, refl)

pub loop-i-preserved : goal.loop-i-preserved
loop-i-preserved g c =
    let from = c.args.from.now in
    let loop = c.loop-i in
    let entry = c.index-from-i in
    let front = loop.invariant in
    let room = c.loop-i-test.true in
    let same = loop.auto.to in (
      length-set loop.to loop.i entry.result ∙ front.0,
      take_more_set loop.to loop.i entry.result (omega arith)
          ∙ ap (λ copied. copied ++ entry.result ∷ []) front.1
          ∙ ap (λ x. take loop.i from ++ x ∷ []) entry.is
          ∙ sym (take_more from loop.i entry.result (let long = front.0 in omega arith)),
    )

pub returns : goal.returns
returns g c =
    let loop = c.loop-i in
    let front = loop.invariant in
    let done = c.loop-i-test.false in
    let same = loop.auto.to in
    sym (take_all loop.i loop.to (omega arith)) ∙ front.1
    ∙ take_all loop.i c.args.from.now (let long = front.0 in omega arith)
