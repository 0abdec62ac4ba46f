-- The limits of docs/RULES.md, as contracts cite them; src/lib.rt has the same for code.
use Rattle.std.specs.Prelude.{ℕ}

-- a side of a frame or of a canvas
abbrev pub longest_side : ℕ
longest_side = 4096

-- a size of an erosion or of an opening
abbrev pub largest_size : ℕ
largest_size = 4096

-- a cap, and a size of a closing
abbrev pub highest_cap : ℕ
highest_cap = 2047

-- an allowance; no run has more rows due
abbrev pub most_rows : ℕ
most_rows = 8192
