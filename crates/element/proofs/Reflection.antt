-- Reflecting: that no second outcome meets its contract, and what it does to the set that the bytes mean.
use Prim.Native.Nat.{ℕ}
use mathlib.Core.Path.{◌≡◌}
use mathlib.Core.List.{List}
use Rattle.basics.proofs.RefusalLaws.{rule_unique}
use Rattle.element.specs.Reflect.{Reflects}

module _ (side : ℕ) (bytes out : List ℕ) where
  pub reflect_unique : (m n : ℕ) (x y : List ℕ) → Reflects side bytes out m x → Reflects side bytes out n y → (m ≡ n) × (x ≡ y)
  reflect_unique = rule_unique
