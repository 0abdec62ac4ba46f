-- What a continue accepts, what its scan asks and gives, and that no second outcome meets its contract.
use Prim.Native.Nat.{ℕ, ◌*◌, ◌≤◌}
use native.Mathlib.Omega.{arith}
use mathlib.Core.Path.{◌≡◌, refl}
use mathlib.Core.Bool.{Bool, true, false, not}
use mathlib.Core.List.{List, [], ◌∷◌}
use lib.Dec.{eqb, ltb}
use lib.ListN.{length}
use borrow.Author.Tests.{le-ltb, eqb-true, ltb-false}
use Rattle.basics.specs.Refusals.{first}
use Rattle.basics.proofs.RefusalLaws.{rule_unique}
use Rattle.scan.specs.Scan.{Lent}
use Rattle.run.specs.declared.Record.{Record}
use Rattle.run.specs.Records.{area_width, area_height, record_bad}
use Rattle.run.specs.Continuing.{State, levels_wrong, continue_refusals, Continues}
use Rattle.run.proofs.RecordLaws.{Sound}

module _ (r : Record) (levels : List ℕ) (allowance : ℕ) where
  pub continue_accept : record_bad r ≡ false → levels_wrong r levels ≡ false → allowance ≤ 8192
      → 0 ≡ first (continue_refusals r levels allowance)
  continue_accept a b l = rw (a, b, le-ltb 8192 allowance l)

  -- what an accepted continue may rely on
  pub continue_accepted : first (continue_refusals r levels allowance) ≡ 0
      → (record_bad r ≡ false) × (length levels ≡ area_height r * area_width r) × (allowance ≤ 8192)
  continue_accepted e = go (record_bad r) (eqb (length levels) (area_height r * area_width r)) (ltb 8192 allowance) refl refl refl e
    where
      go : (a b c : Bool) → record_bad r ≡ a → eqb (length levels) (area_height r * area_width r) ≡ b → ltb 8192 allowance ≡ c
          → first ((1, a) ∷ (10, not b) ∷ (12, c) ∷ []) ≡ 0
          → (record_bad r ≡ false) × (length levels ≡ area_height r * area_width r) × (allowance ≤ 8192)
      go false true false p q s e = (p, eqb-true (length levels) (area_height r * area_width r) q, ltb-false 8192 allowance s)
      go false true true p q s e = absurd (omega arith)
      go false false c p q s e = absurd (omega arith)
      go true b c p q s e = absurd (omega arith)

  pub continue_unique : (m n : ℕ) (x y : State × ℕ) → Continues r levels allowance m x
      → Continues r levels allowance n y → (m ≡ n) × (x ≡ y)
  continue_unique = rule_unique

-- what the scan of rows asks
pub work_lent : (r : Record) → Sound r → (levels : List ℕ) → length levels ≡ area_height r * area_width r
    → Lent (area_width r) (area_height r) levels
work_lent r s levels size =
    let a = s.wide in
    let b = s.high in
    record { wide = (omega arith, s.area_wide); high = (omega arith, s.area_high); size = size }
