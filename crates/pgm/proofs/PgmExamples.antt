-- Worked examples: the full 3 by 3 sheet of docs/RULES.md, and the end of a line of 70 characters.
use mathlib.Core.Path.{◌≡◌, refl}
use mathlib.Core.List.{[], ◌∷◌, ◌++◌}
use Rattle.decimal.specs.Numbers.{digits, digits_in}
use Rattle.pgm.specs.PgmText.{pgm_header, stays, parting, column_after, level_row, frame_row, levels_text, pgm_text}

full_sheet : pgm_text 3 3 3 6 6 (1 ∷ 1 ∷ 1 ∷ 1 ∷ 2 ∷ 1 ∷ 1 ∷ 1 ∷ 1 ∷ []) ≡ (80 ∷ 50 ∷ 10 ∷ []) ++
    (35 ∷ 32 ∷ 114 ∷ 111 ∷ 119 ∷ 115 ∷ 32 ∷ 54 ∷ 32 ∷ 111 ∷ 102 ∷ 32 ∷ 54 ∷ 10 ∷ []) ++ (51 ∷ 32 ∷ 51 ∷ 10 ∷ []) ++
    (51 ∷ 10 ∷ []) ++ (49 ∷ 32 ∷ 49 ∷ 32 ∷ 49 ∷ 10 ∷ []) ++ (49 ∷ 32 ∷ 50 ∷ 32 ∷ 49 ∷ 10 ∷ []) ++
    (49 ∷ 32 ∷ 49 ∷ 32 ∷ 49 ∷ 10 ∷ [])
unfolding pgm_text pgm_header levels_text frame_row level_row parting column_after stays digits digits_in
full_sheet = refl

-- after 66 characters a blank and three digits fill the line; after 67 they begin the next
fills_the_line : level_row 66 (123 ∷ []) ≡ 32 ∷ 49 ∷ 50 ∷ 51 ∷ 10 ∷ []
unfolding level_row parting column_after stays digits digits_in
fills_the_line = refl

begins_the_next : level_row 67 (123 ∷ []) ≡ 10 ∷ 49 ∷ 50 ∷ 51 ∷ 10 ∷ []
unfolding level_row parting column_after stays digits digits_in
begins_the_next = refl
