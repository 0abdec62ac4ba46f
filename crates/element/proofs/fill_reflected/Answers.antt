-- Read backwards, each byte stands at the place across the centre.
use Rattle.std.proofs.Common.{◌≡◌, ℕ, ◌<◌, ◌-◌, ◌*◌, ◌∙◌, ap, get_or, length, arith}
use Rattle.std.specs.Prelude.{reverse}
use Rattle.std.proofs.lemmas.List.{get_or-reverse, length-reverse}
use Rattle.basics.specs.Tables.{raster}
use Rattle.basics.proofs.TableLaws.{table_is}
use Rattle.element.specs.Reflect.{reflected_bytes}
use Rattle.element.proofs.ElementLaws.{reflected_entry}
use Rattle.element.proofs.fill_reflected.Goals as goal

pub returns : goal.returns
unfolding reflected_bytes raster
returns c =
    let args = c.args in
    let bytes = args.bytes.now in
    let size = c.requires.1.0 in
    c.reverse.ensures.after ∙ ap reverse c.copy.ensures
    ∙ table_is _ (args.side * args.side) 0 (reverse bytes) (length-reverse bytes ∙ size)
    (λ k l. get_or-reverse bytes k 0 (let b : k < length bytes = omega arith in b)
    ∙ ap (λ n. get_or bytes (n - 1 - k) 0) size
    ∙ reflected_entry args.side bytes k l)
