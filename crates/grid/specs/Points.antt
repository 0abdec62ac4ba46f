-- Points of the infinite grid: rows grow downwards, columns rightwards.
use Rattle.std.specs.Prelude.{ℤ, pos, neg_ℤ, ◌+ℤ◌}

pub record Point : Type 0 where
  pub row : ℤ
  pub col : ℤ

abbrev pub at : ℤ → ℤ → Point
at r c = record { row = r; col = c }

abbrev pub origin : Point
origin = at (pos 0) (pos 0)

infixl 6 ◌⊕◌
abbrev pub ◌⊕◌ : Point → Point → Point
p ⊕ q = at (p.row +ℤ q.row) (p.col +ℤ q.col)

abbrev pub neg : Point → Point
neg p = at (neg_ℤ p.row) (neg_ℤ p.col)
