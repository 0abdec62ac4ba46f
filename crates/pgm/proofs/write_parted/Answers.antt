-- The digits are written first, and then the byte that parts them from the number before.
use Rattle.std.proofs.Common.{arith, ap, ◌∙◌, ◌∷◌}
use Rattle.decimal.specs.Numbers.{digits}
use Rattle.text.proofs.WroteLaws.{wrote_number, wrote_before, wrote_as}
use Rattle.pgm.specs.PgmText.{parting}
use Rattle.pgm.proofs.write_parted.Goals as goal

pub returns : goal.returns
returns c =
    let number = c.write_number-size in
    wrote_as _ _ _ _ _
    (ap (λ byte. byte ∷ digits c.args.level) (c.parting_byte.ensures ∙ ap (parting c.args.column) number.ensures.0))
    (wrote_before c.parting_byte.result (digits c.args.level) c.args.out.now number.new.out number.result (omega arith)
    (wrote_number c.args.level _ number.new.out number.result number.ensures))
