-- Where the nearest cell alone is set the short loop does what the other would, and where none is set nothing changes.
use native.Mathlib.Omega.{arith}
use mathlib.Core.Path.{sym, ◌∙◌}
use Rattle.row.proofs.Own.{own_unset}
use Rattle.row.proofs.by_own_row.Goals as goal

pub returns-else-one : goal.returns-else-one
returns-else-one c =
    rw (
      sym c.leads_back-one.ensures ∙ c.if-one.false,
      sym c.leads_back-two.ensures ∙ c.if-two.false,
      sym c.leads_back-three.ensures ∙ c.if-three.false,
    ) (sym (own_unset _ _ _ _ _ (λ i. omega (arith, c.type_inv.worked i))))
