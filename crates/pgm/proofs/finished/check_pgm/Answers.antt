-- Each answer follows from the tests that led to it.
use Rattle.std.proofs.Common.{arith, sym, ◌≡◌, false}
use Rattle.run.specs.Records.{record_bad}
use Rattle.run.proofs.RecordLaws.{judged_good, judged_sound, area_small}
use Rattle.pgm.specs.WritePgm.{header_of}
use Rattle.pgm.proofs.FinishedLaws.{refuse_level, refuse_count, refuse_room, refuse_rows, accept_picture, sound_picture}
use Rattle.pgm.proofs.finished.check_pgm.Goals as goal
use Rattle.pgm.proofs.finished.check_pgm.Goals.{After-header_of-header}

-- the record was not refused, and the header is its own
kept : (c : After-header_of-header) → record_bad c.args.run ≡ false
kept c = judged_good c.args.run c.in_ok-sound.ensures.0

stated : (c : After-header_of-header) → c.header_of-header.result ≡ header_of c.args.run
stated c = rw c.in_ok-sound.ensures.1 at c.header_of-header.ensures

pub returns-then-any_above : goal.returns-then-any_above
returns-then-any_above c =
    let judged = (goal.at.returns-then-any_above c).After-header_of-header in
    (refuse_level c.args.run c.args.levels.now c.args.out.now (kept judged) (stated judged) c.any_above.ensures c.if-any_above.true, tt)

pub overflow_mul-run : goal.overflow_mul-run
overflow_mul-run c =
    let s = judged_sound c.in_ok-sound.sound c.in_ok-sound.ensures.1 in
    let m = area_small c.args.run.height c.args.run.width s.high.1 s.wide.1 in
    omega arith

pub returns-then-levels-run : goal.returns-then-levels-run
returns-then-levels-run c =
    let judged = (goal.at.returns-then-levels-run c).After-header_of-header in (
      refuse_count c.args.run c.args.levels.now c.args.out.now (kept judged) (stated judged) c.any_above.ensures
          c.if-any_above.false c.if-levels-run.true,
      tt,
    )

pub pgm_length-requires : goal.pgm_length-requires
pgm_length-requires c =
    let judged = (goal.at.pgm_length-requires c).After-header_of-header in
    rw (stated judged) (sound_picture c.args.run c.args.levels.now (kept judged) c.if-levels-run.false)

pub returns-then-out-pgm_length : goal.returns-then-out-pgm_length
returns-then-out-pgm_length c =
    let judged = (goal.at.returns-then-out-pgm_length c).After-header_of-header in (
      refuse_room c.args.run c.args.levels.now c.args.out.now (kept judged) (stated judged) c.any_above.ensures
          c.if-any_above.false c.if-levels-run.false c.pgm_length.ensures c.if-out-pgm_length.true,
      tt,
    )

pub returns-then-header : goal.returns-then-header
returns-then-header c =
    let judged = (goal.at.returns-then-header c).After-header_of-header in (
      refuse_rows c.args.run c.args.levels.now c.args.out.now (kept judged) (stated judged) c.any_above.ensures
          c.if-any_above.false c.if-levels-run.false c.pgm_length.ensures c.if-out-pgm_length.false c.if-header.true,
      tt,
    )

pub returns : goal.returns
returns c =
    let judged = (goal.at.returns c).After-header_of-header in (
      accept_picture c.args.run c.args.levels.now c.args.out.now (kept judged) (stated judged) c.any_above.ensures
          c.if-any_above.false c.if-levels-run.false c.pgm_length.ensures c.if-out-pgm_length.false c.if-header.false,
      c.in_ok-sound.ensures.1,
    )
