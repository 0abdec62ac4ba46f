-- Both divisions are of numbers that doubles hold exactly.
use Rattle.spectrum.proofs.TableSums.{foreground_exact, levels_exact, term_within}
use Rattle.spectrum.specs.Spectrum.{exact_limit, fraction}
use Rattle.spectrum.specs.declared.Summary.{Summary}
use native.Mathlib.Omega.{arith}
use Prim.Native.Nat.{◌≤◌}
use mathlib.Core.Path.{sym, ap, ap₂, ◌∙◌, subst}
use lib.Ieee.{Float}
use lib.ListN.{get_or}
use Rattle.spectrum.proofs.fractions.summary_of.Goals as goal

pub divided-mean-requires : goal.divided-mean-requires
divided-mean-requires c =
    let most = levels_exact c.args.table.now c.requires in
    let all = foreground_exact c.args.table.now c.requires in (
      subst (λ n. n ≤ exact_limit) (sym c.levels_added.ensures) most,
      subst (λ n. n ≤ exact_limit) (sym c.foreground_points-points.ensures) all,
    )

pub bounds-table-1 : goal.bounds-table-1
bounds-table-1 c = let long = c.requires.long in omega arith

pub divided-share-requires : goal.divided-share-requires
divided-share-requires c =
    let one = term_within c.args.table.now c.requires 1 (let long = c.requires.long in omega arith) in
    let all = foreground_exact c.args.table.now c.requires in
    (omega arith, subst (λ n. n ≤ exact_limit) (sym c.foreground_points-points.ensures) all)

pub returns : goal.returns
returns c =
    let args = c.args in
    let points = c.foreground_points-points.ensures in
    let added = c.levels_added.ensures in
    let pair : Float → Float → Summary = λ mean share. record { mean = mean; share = share } in
    ap₂ pair (c.divided-mean.ensures ∙ ap₂ fraction added points)
    (c.divided-share.ensures ∙ ap (fraction (get_or args.table.now 1 0)) points)
