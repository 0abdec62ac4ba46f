-- The start of an accepted call gives the record.
use Rattle.maps.proofs.Answers.{start_taken}
use Rattle.maps.proofs.start_by_map.Goals as goal

pub invariant_of-sound : goal.invariant_of-sound
invariant_of-sound c =
    let args = c.args in
    record {
      taken = start_taken args.input args.sheet.now args.bytes.now args.cap args.work.now c.requires.0
          (rw c.unwrap-run.ensures at c.start_dilation.ensures);
    }
