-- What reflecting an element answers.
use Rattle.std.specs.Prelude.{ℕ, ◌-◌, ◌≡◌, not, List, [], ◌∷◌, ◌++◌, eqb, length}
use Rattle.basics.specs.Refusals.{Refusal, Answers}
use Rattle.basics.specs.Tables.{raster}
use Rattle.element.specs.Elements.{byte_at, element_refusals}

-- the cell at each b takes the byte at -b, across the centre
unfoldable pub reflected_bytes : ℕ → List ℕ → List ℕ
reflected_bytes side bytes = raster side side (λ row col. byte_at side bytes (side - 1 - row) (side - 1 - col))

abbrev pub reflect_refusals : ℕ → List ℕ → List ℕ → List Refusal
reflect_refusals side bytes out = element_refusals side bytes ++ (11, not (eqb (length out) (length bytes))) ∷ []

abbrev pub Reflects : ℕ → List ℕ → List ℕ → ℕ → List ℕ → Type 0
Reflects side bytes out = Answers (reflect_refusals side bytes out) out (λ after. after ≡ reflected_bytes side bytes)
