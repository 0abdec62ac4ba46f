-- Lists given entry by entry.
use Rattle.std.specs.Prelude.{ℕ, zero, suc, ◌*◌, ◌/◌, ◌%◌, List, [], ◌∷◌, ◌++◌, drop}

-- f 0, f 1, .., f (n - 1)
unfoldable pub table : {A : Type 0} → ℕ → (ℕ → A) → List A
table zero f = []
table (suc n) f = table n f ++ (f n ∷ [])

-- the same, by row and column of rows that are `width` long
unfoldable pub raster : {A : Type 0} → ℕ → ℕ → (ℕ → ℕ → A) → List A
raster width height f = table (height * width) (λ k. f (k / width) (k % width))

-- a buffer whose first n entries are f's, the rest as it was
unfoldable pub filled : {A : Type 0} → ℕ → (ℕ → A) → List A → List A
filled n f buffer = table n f ++ drop n buffer
