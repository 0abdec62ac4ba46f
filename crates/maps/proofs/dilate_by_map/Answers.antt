-- An accepted call starts by the map, and what its run holds in the end is right.
use Rattle.maps.specs.Maps.{Buffers}
use Rattle.maps.proofs.Answers.{fit, map_finishes, map_answered}
use mathlib.Core.Path.{sym}
use Rattle.maps.proofs.dilate_by_map.Goals as goal

pub finish_sheet-requires : goal.finish_sheet-requires
finish_sheet-requires c =
    let args = c.args in
    let lent : Buffers = record { work = args.work.now; out = args.out.now } in
    let taken = fit args.input args.sheet.now args.bytes.now args.cap args.map.now lent (sym c.in_ok-check_map.ensures) in
    map_finishes args.input args.sheet.now args.bytes.now args.cap args.work.now taken.begins args.map.now
    c.start_by_map-sound.ensures args.out.now taken.out_size

pub returns : goal.returns
returns c =
    let args = c.args in
    let lent : Buffers = record { work = args.work.now; out = args.out.now } in
    map_answered args.input args.sheet.now args.bytes.now args.cap args.map.now lent (sym c.in_ok-check_map.ensures)
    c.start_by_map-sound.ensures _ c.finish_sheet.ensures.0 c.finish_sheet.ensures.1
