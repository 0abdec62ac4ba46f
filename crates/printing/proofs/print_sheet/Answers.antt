-- The count of the pixels decides; the parts lent have the size of the frame.
use Rattle.std.proofs.Common.{arith, refl}
use Rattle.printing.proofs.PageLaws.{too_many, pixels_fit, picture_prints}
use Rattle.printing.proofs.print_sheet.Goals as goal

pub overflow_mul-count : goal.overflow_mul-count
overflow_mul-count c = let p = pixels_fit c.args.frame.width c.args.frame.height c.args.sheet.now c.requires.0 in omega arith

pub returns-then-count-gt-MOST_PIXELS : goal.returns-then-count-gt-MOST_PIXELS
returns-then-count-gt-MOST_PIXELS c =
    (too_many c.args.frame.width c.args.frame.height c.args.sheet.now c.if-count-gt-MOST_PIXELS.true, refl)

pub returns : goal.returns
returns c =
    picture_prints c.args.frame.width c.args.frame.height c.args.sheet.now c.requires.0 c.if-count-gt-MOST_PIXELS.false
    c.args.out.now c.requires.1.out_room c.run_erosion-run.ensures _ _ c.write_pgm.ensures
