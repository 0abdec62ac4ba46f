-- A text, the list of its bytes, cut into lines and into words.
use Rattle.std.specs.Prelude.{ℕ, ◌+◌, ◌-◌, ◌<◌, ◌≤◌, Bool, cond, ◌||◌, List, [], ◌∷◌, ◌++◌, ◌≢◌, eqb, length, get_or}
use Rattle.decimal.specs.Numbers.{digit_run}

-- the characters of a line, LF not counted
abbrev pub line_width : ℕ
line_width = 70

-- P holds of each entry
pub data Every {A : Type 0} (P : A → Type 0) : List A → Type 0 where
  none : Every P []
  more : {x : A} {xs : List A} → P x → Every P xs → Every P (x ∷ xs)

-- a byte before the first of the pieces
unfoldable pub joined : ℕ → List (List ℕ) → List (List ℕ)
joined byte [] = (byte ∷ []) ∷ []
joined byte (piece ∷ rest) = (byte ∷ piece) ∷ rest

-- the pieces of a text, each up to a byte at which a piece ends, without that byte
unfoldable pub cut : (ℕ → Bool) → List ℕ → List (List ℕ)
cut ends [] = []
cut ends (byte ∷ rest) = cond (ends byte) ([] ∷ cut ends rest) (joined byte (cut ends rest))

-- a line ends at LF, a word at a blank or at LF
unfoldable pub ends_line : ℕ → Bool
ends_line byte = eqb byte 10

unfoldable pub ends_word : ℕ → Bool
ends_word byte = eqb byte 32 || eqb byte 10

abbrev pub lines : List ℕ → List (List ℕ)
lines text = cut ends_line text

-- and back: each line with its end
unfoldable pub unlines : List (List ℕ) → List ℕ
unlines [] = []
unlines (line ∷ rest) = line ++ (10 ∷ unlines rest)

-- two ends in a row give an empty word, so where the words are numbers, one byte parts each two
abbrev pub words : List ℕ → List (List ℕ)
words text = cut ends_word text

-- what each line of a picture is: not empty, not too long, and no blank is its last
pub record ShortLine (line : List ℕ) : Type 0 where
  pub some : 0 < length line
  pub short : length line ≤ line_width
  pub closed : get_or line (length line - 1) 0 ≢ 32

-- the lines of a frame row are filled: the number that begins the next line would have taken the line before past its width
pub data Filled : List (List ℕ) → Type 0 where
  last : {line : List ℕ} → Filled (line ∷ [])
  before : {line next : List ℕ} {rest : List (List ℕ)} → line_width < length line + 1 + length (digit_run next) → Filled (next ∷ rest)
      → Filled (line ∷ next ∷ rest)
