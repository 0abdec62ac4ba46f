-- What the steps of printing ask and leave behind.
use Rattle.std.specs.Prelude.{ℕ, ◌≤◌, ◌≡◌, List, length, take, Result, MatchResult}
use Rattle.basics.specs.declared.refusal.Refusal as declared
use Rattle.basics.specs.Refusals.{first, number_of}
use Rattle.sheet.specs.Sheets.{sheet_refusals}
use Rattle.printing.specs.Printing.{most_pixels, text_room, refused_text}

-- a text stands at the front of a buffer, and `size` is its length
abbrev pub Prints : List ℕ → ℕ → List ℕ → Type 0
Prints text size buffer = (size ≤ length buffer) × (take size buffer ≡ text)

-- it does, or it is the text of the refusal that is given, and the buffer is as it was
abbrev pub PrintsOr : List ℕ → Result ℕ declared.Refusal → List ℕ → List ℕ → Type 0
PrintsOr text result before after =
    MatchResult result (λ size. Prints text size after)
    (λ refusal. (refused_text (number_of refusal) ≡ text) × (after ≡ before))

-- a sheet that nothing speaks against
abbrev pub SoundSheet : ℕ → ℕ → List ℕ → Type 0
SoundSheet width height sheet = first (sheet_refusals width height sheet) ≡ 0

-- the rooms that the program lends: for the levels twice, and for their text
pub record Rooms (levels collected out : List ℕ) : Type 0 where
  pub levels_room : most_pixels ≤ length levels
  pub collected_room : most_pixels ≤ length collected
  pub out_room : text_room ≤ length out
