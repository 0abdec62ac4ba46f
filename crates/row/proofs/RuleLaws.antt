-- What a row keeps: what the rule keeps at every point, and so the list's length and the levels of other rows.
-- By induction on the columns.
use Prim.Native.Nat.{ℕ, zero, suc, ◌+◌, ◌*◌, ◌≤◌, ◌<◌}
use native.Mathlib.Omega.{arith}
use mathlib.Core.Bool.{Bool}
use mathlib.Core.Logic.{◌⊎◌, ⊎_elim}
use mathlib.Core.List.{List}
use mathlib.Core.Path.{◌≡◌, refl, ◌∙◌}
use lib.ListN.{length, get_or, length-set}
use lib.Seq.{get_or-set_other}
use Rattle.row.specs.declared.Area.{Area}
use Rattle.row.specs.RowRule.{point_rule, place, columns, row_rule}
use Rattle.row.proofs.Own.{place_below}

module _ (P : List ℕ → Type 0) (area : Area) (upward : Bool) (row : ℕ)
    (point : (levels : List ℕ) (col : ℕ) → col < area.width → P levels → P (point_rule area upward row levels col)) where
  columns_keep : (t : ℕ) (levels : List ℕ) → t ≤ area.width → P levels → P (columns area upward row t levels)
  unfolding columns
  columns_keep zero levels h p = p
  columns_keep (suc t) levels h p =
      point (columns area upward row t levels) (place upward area.width t) (place_below upward area.width t h)
      (columns_keep t levels (omega arith) p)

  pub rule_keeps : (levels : List ℕ) → P levels → P (row_rule area upward row levels)
  unfolding row_rule
  rule_keeps levels p = columns_keep area.width levels (omega arith) p

module _ (area : Area) (upward : Bool) (row : ℕ) (levels : List ℕ) where
  pub rule_length : length (row_rule area upward row levels) ≡ length levels
  unfolding point_rule
  rule_length = rule_keeps (λ l. length l ≡ length levels) area upward row (λ l col h e. length-set l _ _ ∙ e) levels refl

  pub rule_elsewhere : (i : ℕ) → (i < row * area.width) ⊎ (row * area.width + area.width ≤ i)
      → get_or (row_rule area upward row levels) i 0 ≡ get_or levels i 0
  unfolding point_rule
  rule_elsewhere i out =
      rule_keeps (λ l. get_or l i 0 ≡ get_or levels i 0) area upward row
      (λ l col h e. get_or-set_other l _ i _ 0
      (⊎_elim (λ (o : i < row * area.width) q. omega arith) (λ (o : row * area.width + area.width ≤ i) q. omega arith) out) ∙ e)
      levels refl
