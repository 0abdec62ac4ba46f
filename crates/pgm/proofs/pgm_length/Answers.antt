-- The header, and the digits of each level with the byte after them.
use Rattle.pgm.proofs.SizeLaws.{header_short, header_small, text_size}
use native.Mathlib.Omega.{arith}
use Rattle.pgm.proofs.pgm_length.Goals as goal

pub overflow_add-result : goal.overflow_add-result
overflow_add-result c = let b = header_short _ _ _ _ _ (header_small _ _ _ _ _ _ c.requires) in omega arith

pub returns : goal.returns
returns c = let s = text_size _ _ _ _ _ _ c.requires in omega arith
