-- Texts in lent buffers: a text stands at the front, and all else is as it was.
use Rattle.std.specs.Prelude.{ℕ, ◌≡◌, List, ◌++◌, length, drop}

-- a buffer that begins with a text, the rest as it was
unfoldable pub begun : List ℕ → List ℕ → List ℕ
begun text buffer = text ++ drop (length text) buffer

-- the text was written to the front of a buffer, and `size` is its length
abbrev pub Wrote : List ℕ → List ℕ → List ℕ → ℕ → Type 0
Wrote text before after size = (size ≡ length text) × (after ≡ begun text before)
