-- What passes as the start of a dilation has a frame in its limits, a sheet and an element.
use Rattle.maps.proofs.Answers.{input_judged}
use mathlib.Core.Path.{sym}
use Rattle.maps.proofs.check_map.Goals as goal

pub any_above-requires : goal.any_above-requires
any_above-requires c =
    let args = c.args in
    let j = input_judged args.input args.sheet.now args.bytes.now args.cap args.work.now (sym c.in_ok-check_dilation.ensures) in
    record { wide = j.wide; high = j.high.1; sheet_size_lem = j.sheet_size_lem; map_size = c.if-map-input.false }
