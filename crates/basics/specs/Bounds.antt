-- The entries of a list against a limit.
use Rattle.std.specs.Prelude.{ℕ, Bool, false, ◌||◌, List, [], ◌∷◌, ltb}

-- some entry is above the limit
unfoldable pub any_above : ℕ → List ℕ → Bool
any_above limit [] = false
any_above limit (entry ∷ rest) = ltb limit entry || any_above limit rest
