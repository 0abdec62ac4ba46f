-- Padding bits change nothing in a run: sheets of one length with the same pixels are started alike, with the same number, record
-- and levels.
use Rattle.std.specs.Prelude.{ℕ, ◌≡◌, List, length}
use Rattle.sheet.specs.SamePixels.{SamePixels}
use Rattle.run.specs.declared.Record.{Record}
use Rattle.run.specs.Starting.{StartsErosion, StartsDilation, StartsCropped}

abbrev pub SameStarts : Type 0
SameStarts =
    (width height : ℕ) (one other : List ℕ) → length one ≡ length other → SamePixels width height one other →
    (side : ℕ) (bytes lent : List ℕ) (m n : ℕ) (x y : Record × List ℕ) →
    (StartsErosion width height one side bytes lent m x → StartsErosion width height other side bytes lent n y
    → (m ≡ n) × (x ≡ y)) ×
    ((cap : ℕ) → StartsDilation width height one side bytes cap lent m x
    → StartsDilation width height other side bytes cap lent n y → (m ≡ n) × (x ≡ y)) ×
    ((cap : ℕ) → StartsCropped width height one side bytes cap lent m x
    → StartsCropped width height other side bytes cap lent n y → (m ≡ n) × (x ≡ y))
