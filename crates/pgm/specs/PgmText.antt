-- Levels as plain PGM. A text is the list of its bytes; 10 is LF, 32 a blank.
use Rattle.std.specs.Prelude.{ℕ, zero, suc, ◌+◌, Bool, cond, List, [], ◌∷◌, ◌++◌, leb, length, take, drop}
use Rattle.decimal.specs.Numbers.{digits}
use Rattle.pgm.specs.Lines.{line_width}

-- a line with its end
abbrev pub line : List ℕ → List ℕ
line text = text ++ (10 ∷ [])

-- "# rows D of E"
abbrev pub rows_remark : ℕ → ℕ → List ℕ
rows_remark done due = (35 ∷ 32 ∷ 114 ∷ 111 ∷ 119 ∷ 115 ∷ 32 ∷ []) ++ (digits done ++ ((32 ∷ 111 ∷ 102 ∷ 32 ∷ []) ++ digits due))

-- a header, with the magic number of its format
unfoldable pub pgm_header : List ℕ → ℕ → ℕ → ℕ → ℕ → ℕ → List ℕ
pgm_header magic done due width height maximum =
    line magic ++ (line (rows_remark done due) ++ (line (digits width ++ (32 ∷ digits height)) ++ line (digits maximum)))

-- whether a number of `size` digits stays on a line of `column` characters: with a blank before it, it takes the line no further
-- than its width
unfoldable pub stays : ℕ → ℕ → Bool
stays column size = leb (column + 1 + size) line_width

-- what parts it from the number before: a blank, or else LF, and it begins the next line
unfoldable pub parting : ℕ → ℕ → ℕ
parting column size = cond (stays column size) 32 10

-- the characters of the line that it is on, up to its end
unfoldable pub column_after : ℕ → ℕ → ℕ
column_after column size = cond (stays column size) (column + 1 + size) size

-- the levels of a frame row that follow `column` characters of a line, and the end of the last line
unfoldable pub level_row : ℕ → List ℕ → List ℕ
level_row column [] = 10 ∷ []
level_row column (level ∷ rest) =
    parting column (length (digits level)) ∷ (digits level ++ level_row (column_after column (length (digits level))) rest)

-- a frame row begins a line
unfoldable pub frame_row : List ℕ → List ℕ
frame_row [] = []
frame_row (level ∷ rest) = digits level ++ level_row (length (digits level)) rest

-- frame row after frame row
unfoldable pub levels_text : ℕ → ℕ → List ℕ → List ℕ
levels_text width zero levels = []
levels_text width (suc height) levels = frame_row (take width levels) ++ levels_text width height (drop width levels)

-- "P2"
abbrev pub plain_magic : List ℕ
plain_magic = 80 ∷ 50 ∷ []

unfoldable pub pgm_text : ℕ → ℕ → ℕ → ℕ → ℕ → List ℕ → List ℕ
pgm_text width height maximum done due levels = pgm_header plain_magic done due width height maximum ++
    levels_text width height levels
