-- The header of a raw PBM file, as Netpbm's page has it, narrowed by docs/RULES.md: "P4", one or more white bytes, the width, one
-- or more white bytes, the height, exactly one white byte; what follows is the raster. No remarks: "#" breaks a header as any
-- other byte does.
use Rattle.std.specs.Prelude.{ℕ, ◌≡◌, ◌≢◌, Bool, true, cond, ◌&&◌, ◌||◌, List, [], ◌∷◌, ◌++◌, eqb, length, get_or, drop}
use Rattle.decimal.specs.Numbers.{is_digit, value, digit_run}

-- blank, TAB, CR, LF
unfoldable pub is_white : ℕ → Bool
is_white byte = eqb byte 32 || (eqb byte 9 || (eqb byte 13 || eqb byte 10))

-- rows of bytes of one kind, and the longest such row at the front of a list
unfoldable pub all : (ℕ → Bool) → List ℕ → Bool
all kind [] = true
all kind (byte ∷ rest) = kind byte && all kind rest

unfoldable pub run : (ℕ → Bool) → List ℕ → List ℕ
run kind [] = []
run kind (byte ∷ rest) = cond (kind byte) (byte ∷ run kind rest) []

abbrev pub white_run : List ℕ → List ℕ
white_run bytes = run is_white bytes

-- what stands after it
abbrev pub after_white : List ℕ → List ℕ
after_white bytes = drop (length (white_run bytes)) bytes

abbrev pub after_digits : List ℕ → List ℕ
after_digits bytes = drop (length (digit_run bytes)) bytes

abbrev pub is_none : List ℕ → Bool
is_none row = eqb (length row) 0

-- a number of the header: white bytes and digits, at least one of each
pub data Field : Type 0 where
  missing : Field
  number : (amount : ℕ) (rest : List ℕ) → Field

unfoldable pub field : List ℕ → Field
field bytes =
    cond (is_none (white_run bytes) || is_none (digit_run (after_white bytes))) missing
    (number (value (digit_run (after_white bytes))) (after_digits (after_white bytes)))

unfoldable pub begins_p4 : List ℕ → Bool
begins_p4 file = eqb (get_or file 0 0) 80 && eqb (get_or file 1 0) 52

pub data Header : Type 0 where
  broken : Header
  whole : (width height : ℕ) (raster : List ℕ) → Header

-- "P4", the width, the height, one white byte
unfoldable pub header : List ℕ → Header
header file = cond (begins_p4 file) (from_width (field (drop 2 file))) broken
  where
    ended : ℕ → ℕ → List ℕ → Header
    ended width height rest = cond (is_none (white_run rest)) broken (whole width height (drop 1 rest))

    from_height : ℕ → Field → Header
    from_height width missing = broken
    from_height width (number height rest) = ended width height rest

    from_width : Field → Header
    from_width missing = broken
    from_width (number width rest) = from_height width (field rest)

-- the same as one reads it: a header is whole exactly where its file is laid out so (`layout_whole`, `whole_layout` in
-- proofs/LayoutLaws.antt)
pub record Layout (file : List ℕ) (width height : ℕ) (raster : List ℕ) : Type 0 where
  pub white₁ : List ℕ
  pub width_digits : List ℕ
  pub white₂ : List ℕ
  pub height_digits : List ℕ
  pub white₃ : ℕ
  pub bytes : file ≡ 80 ∷ 52 ∷ (white₁ ++ (width_digits ++ (white₂ ++ (height_digits ++ (white₃ ∷ raster)))))
  pub some : (white₁ ≢ []) × (width_digits ≢ []) × (white₂ ≢ []) × (height_digits ≢ [])
  pub white : (all is_white white₁ ≡ true) × (all is_white white₂ ≡ true) × (is_white white₃ ≡ true)
  pub digits : (all is_digit width_digits ≡ true) × (all is_digit height_digits ≡ true)
  pub values : (width ≡ value width_digits) × (height ≡ value height_digits)
