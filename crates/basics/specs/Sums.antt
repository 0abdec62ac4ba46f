-- Sums, and how many points of a frame have a property.
use Rattle.std.specs.Prelude.{ℕ, zero, suc, ◌+◌, Bool, cond}

-- f 0 + f 1 + .. + f (n - 1)
unfoldable pub sum : ℕ → (ℕ → ℕ) → ℕ
sum zero f = 0
sum (suc n) f = sum n f + f n

-- the points of a frame, by row and column, that have it
unfoldable pub points_where : ℕ → ℕ → (ℕ → ℕ → Bool) → ℕ
points_where width height holds = sum height (λ row. sum width (λ col. cond (holds row col) 1 0))
