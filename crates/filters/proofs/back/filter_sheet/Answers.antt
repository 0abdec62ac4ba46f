-- The way back leaves the second buffer as long as it was; what is found is packed.
use Rattle.filters.proofs.SheetAnswers.{kept_sheet_lem}
use lib.ListN.{replicate}
use mathlib.Core.Path.{ap, ◌∙◌}
use Rattle.filters.proofs.back.filter_sheet.Goals as goal

pub returns : goal.returns
returns c =
    let found = c.find_size in (
      c.fill.ensures.after (λ y e. e),
      (
        c.fill-2.ensures.after (λ y e. e) ∙ ap (λ n. replicate n 0) found.ensures.0,
        kept_sheet_lem found.new.second found.ensures.1 c.pack_back.ensures,
      ),
    )
