-- What the functions that measure and write a picture ask.
use Rattle.std.specs.Prelude.{ℕ, ◌+◌, ◌*◌, ◌<◌, ◌≤◌, ◌≡◌, List, [], ◌∷◌, length}
use Rattle.basics.specs.Limits.{longest_side}
use Rattle.decimal.specs.Numbers.{digits}
use Rattle.pgm.specs.declared.Header.{Header}
use Rattle.pgm.specs.Lines.{Every}
use Rattle.pgm.specs.PgmText.{pgm_header, pgm_text}

-- as many bytes as the digits of the levels, and one more for each
unfoldable pub levels_size : List ℕ → ℕ
levels_size [] = 0
levels_size (level ∷ rest) = length (digits level) + 1 + levels_size rest

-- levels have 16 bits
abbrev pub level_end : ℕ
level_end = 65536

abbrev pub Small : List ℕ → Type 0
Small levels = Every (λ level. level < level_end) levels

-- and so do the numbers of a header
pub record SmallNumbers (done due width height maximum : ℕ) : Type 0 where
  pub small_done : done < level_end
  pub small_due : due < level_end
  pub small_width : width < level_end
  pub small_height : height < level_end
  pub small_maximum : maximum < level_end

-- a level for each pixel, and sides in their range
pub record Picture (width height maximum done due : ℕ) (levels : List ℕ) : Type 0 where
  pub size : length levels ≡ height * width
  pub width_some : 0 < width
  pub width_most : width ≤ longest_side
  pub height_some : 0 < height
  pub height_most : height ≤ longest_side
  pub small_maximum : maximum < level_end
  pub small_done : done < level_end
  pub small_due : due < level_end

-- the same of a header and its levels, and their text
abbrev pub header_text : List ℕ → Header → List ℕ
header_text magic header = pgm_header magic header.done header.due header.width header.height header.maximum

abbrev pub picture_text : Header → List ℕ → List ℕ
picture_text header levels = pgm_text header.width header.height header.maximum header.done header.due levels

abbrev pub SmallHeader : Header → Type 0
SmallHeader header = SmallNumbers header.done header.due header.width header.height header.maximum

abbrev pub IsPicture : Header → List ℕ → Type 0
IsPicture header levels = Picture header.width header.height header.maximum header.done header.due levels
