-- Laws of `look`: in the area it reads the list, elsewhere the value beyond; a change of one place of the list changes one
-- point; and the row rule's partners read it.
-- Places and points are tied by two equations of naturals, so that omega does the rest.
use mathlib.Core.Path.{◌≡◌, refl, sym, ◌∙◌, ap, ap₂, subst}
use mathlib.Core.Logic.{◌⊎◌, inl, inr, ◌≢◌}
use mathlib.Core.Bool.{Bool, true, false, cond, ◌&&◌}
use mathlib.Core.List.{List}
use Prim.Native.Nat.{ℕ, suc, ◌+◌, ◌*◌, ◌-◌, ◌/◌, ◌%◌, ◌≤◌, ◌<◌}
use native.Mathlib.Nat.{mul-le-mul_right}
use native.Mathlib.Omega.{arith}
use lib.Dec.{T, leb, leb→le, le→leb, ltb, ltb→lt, lt→ltb, eqb, eqb→eq}
use lib.ListN.{length, get_or, set}
use lib.Seq.{get_or-set_same, get_or-set_other}
use lib.IntN.{ℤ, pos, negsuc}
use Rattle.basics.proofs.Arithmetic.{row_of, column_of, entry_below}
use Rattle.grid.specs.Points.{Point, at, ◌⊕◌}
use Rattle.grid.specs.Sets.{PointSet}
use Rattle.grid.specs.Figures.{frame}
use Rattle.grid.proofs.PointLaws.{pos_inj, sum_diff, diff_sum}
use Rattle.grid.proofs.Searches.{frame_decided}
use Rattle.row.specs.declared.Area.{Area}
use Rattle.row.specs.RowRule.{cell_number, within, level_at, partner, none}
use Rattle.scan.specs.Look.{look, level_on, offset}

-- the point at a row and a column
abbrev pub spot : ℕ → ℕ → Point
spot row col = at (pos row) (pos col)

pub spot_row : {row col row' col' : ℕ} → spot row col ≡ spot row' col' → row ≡ row'
spot_row e = pos_inj (ap (λ p. p.row) e)

pub spot_col : {row col row' col' : ℕ} → spot row col ≡ spot row' col' → col ≡ col'
spot_col e = pos_inj (ap (λ p. p.col) e)

-- the point that cell k leads to
partner_spot : (row col k row' col' : ℕ) → row + k / 7 ≡ row' + 3 → col + k % 7 ≡ col' + 3
    → spot row col ⊕ offset k ≡ spot row' col'
partner_spot row col k row' col' e f = ap₂ at (diff_sum row (k / 7) 3 row' e) (diff_sum col (k % 7) 3 col' f)

pub partner_row : (row col k row' col' : ℕ) → spot row col ⊕ offset k ≡ spot row' col' → row + k / 7 ≡ row' + 3
partner_row row col k row' col' e = sum_diff row (k / 7) 3 row' (ap (λ p. p.row) e)

pub partner_col : (row col k row' col' : ℕ) → spot row col ⊕ offset k ≡ spot row' col' → col + k % 7 ≡ col' + 3
partner_col row col k row' col' e = sum_diff col (k % 7) 3 col' (ap (λ p. p.col) e)

-- tests
pub cond_true : {A : Type 0} (c : Bool) (x y : A) → T c → cond c x y ≡ x
cond_true true x y t = refl
cond_true false x y t = absurd t

pub cond_false : {A : Type 0} (c : Bool) (x y : A) → ¬ T c → cond c x y ≡ y
cond_false true x y n = absurd (n tt)
cond_false false x y n = refl

T-both : (a b : Bool) → T a → T b → T (a && b)
T-both true b s t = t
T-both false b s t = s

T-each : (a b : Bool) → T (a && b) → T a × T b
T-each true b t = (tt, t)
T-each false b t = absurd t

-- in reading order, and so for places of the list
abbrev pub Precedes : ℕ → ℕ → ℕ → ℕ → Type 0
Precedes row col row' col' = (row < row') ⊎ ((row ≡ row') × (col < col'))

pub earlier : (width row col row' col' : ℕ) → Precedes row col row' col' → col < width → row * width + col < row' * width + col'
earlier width row col row' col' (inl a) b = let c : suc row * width ≤ row' * width = mul-le-mul_right width a in omega arith
earlier width row col row' col' (inr (e, a)) b = let c = ap (λ r. r * width) e in omega arith

entries_apart : (width row col row' col' : ℕ) → col < width → col' < width → spot row col ≢ spot row' col'
    → row * width + col ≢ row' * width + col'
entries_apart width row col row' col' a b n e =
    n (ap₂ spot (sym (row_of width row col a) ∙ ap (λ k. k / width) e ∙ row_of width row' col' b)
    (sym (column_of width row col a) ∙ ap (λ k. k % width) e ∙ column_of width row' col' b))

module _ (area : Area) (levels : List ℕ) where
  pub look_inside : (row col : ℕ) → row < area.height → col < area.width
      → look area levels (spot row col) ≡ get_or levels (row * area.width + col) 0
  unfolding look level_on
  look_inside row col a b =
      cond_true (ltb row area.height && ltb col area.width) _ _
      (T-both (ltb row area.height) (ltb col area.width) (lt→ltb row area.height a) (lt→ltb col area.width b))

  pub look_beyond : (p : Point) → ¬ frame area.width area.height p → look area levels p ≡ area.beyond
  unfolding look level_on
  look_beyond p out = signs p.row p.col out
    where
      signs : (r c : ℤ) → ¬ frame area.width area.height (at r c) → level_on area levels r c ≡ area.beyond
      signs (pos row) (pos col) out =
          cond_false (ltb row area.height && ltb col area.width) _ _
          (λ t. let (a, b) = T-each (ltb row area.height) (ltb col area.width) t in
          out (row, col, ltb→lt row area.height a, ltb→lt col area.width b, refl))
      signs (pos row) (negsuc col) out = refl
      signs (negsuc row) c out = refl

  -- a level that stands at all places of a set, and beyond if the set goes beyond
  pub look_all : (B : PointSet) (level : ℕ)
      → ((row col : ℕ) → row < area.height → col < area.width → B (spot row col)
      → get_or levels (row * area.width + col) 0 ≡ level)
      → ((x : Point) → ¬ frame area.width area.height x → B x → area.beyond ≡ level) → (x : Point) → B x
      → look area levels x ≡ level
  look_all B level inside beyond x h = cases (frame_decided area.width area.height x)
    where
      cases : Dec (frame area.width area.height x) → look area levels x ≡ level
      cases (yes (row, col, a, b, e)) = ap (look area levels) e ∙ look_inside row col a b ∙ inside row col a b (subst B e h)
      cases (no out) = look_beyond x out ∙ beyond x out h

  -- what the row rule reads of cell k's partner is the level at the point to which the cell leads
  level_look : (row col k : ℕ) → level_at area levels (row + k / 7) (col + k % 7) ≡ look area levels (spot row col ⊕ offset k)
  unfolding level_at within
  level_look row col k = cases (frame_decided area.width area.height (spot row col ⊕ offset k))
    where
      y : ℕ
      y = row + k / 7

      x : ℕ
      x = col + k % 7

      inside : (n p : ℕ) → 3 ≤ p → p < n + 3 → T (within n p)
      inside n p a b = T-both (leb 3 p) (ltb p (n + 3)) (le→leb 3 p a) (lt→ltb p (n + 3) b)

      bounds : (n p : ℕ) → T (within n p) → (3 ≤ p) × (p < n + 3)
      bounds n p t = let (a, b) = T-each (leb 3 p) (ltb p (n + 3)) t in (leb→le 3 p a, ltb→lt p (n + 3) b)

      cases : Dec (frame area.width area.height (spot row col ⊕ offset k))
          → level_at area levels y x ≡ look area levels (spot row col ⊕ offset k)
      cases (yes (r, c, a, b, e)) =
          let f = partner_row row col k r c e in
          let g = partner_col row col k r c e in
          let m : y - 3 ≡ r = omega arith in
          let n : x - 3 ≡ c = omega arith in
          cond_true (within area.height y && within area.width x) _ _
          (T-both (within area.height y) (within area.width x) (inside area.height y (omega arith) (omega arith))
          (inside area.width x (omega arith) (omega arith)))
          ∙ ap₂ (λ (i j : ℕ). get_or levels (i * area.width + j) 0) m n ∙ sym (look_inside r c a b) ∙ ap (look area levels) (sym e)
      cases (no out) =
          cond_false (within area.height y && within area.width x) _ _
          (λ t.
          let (a, b) = T-each (within area.height y) (within area.width x) t in
          let (a, a') = bounds area.height y a in
          let (b, b') = bounds area.width x b in
          out (y - 3, x - 3, omega arith, omega arith, partner_spot row col k (y - 3) (x - 3) (omega arith) (omega arith)))
          ∙ sym (look_beyond (spot row col ⊕ offset k) out)

  pub partner_on : (row col k : ℕ) → cell_number area.cells k ≢ 0
      → partner area levels row col k ≡ look area levels (spot row col ⊕ offset k)
  unfolding partner
  partner_on row col k n = cond_false (eqb (cell_number area.cells k) 0) _ _ (λ t. n (eqb→eq (cell_number area.cells k) 0 t))
      ∙ level_look row col k

  pub partner_off : (row col k : ℕ) → cell_number area.cells k ≡ 0 → partner area levels row col k ≡ none
  unfolding partner
  partner_off row col k e = cond_true (eqb (cell_number area.cells k) 0) _ _ (rw e tt)

-- one place of the list is one point
module _ (area : Area) (levels : List ℕ) (row col level : ℕ) (b : col < area.width) where
  pub look_same : row < area.height → length levels ≡ area.height * area.width
      → look area (set levels (row * area.width + col) level) (spot row col) ≡ level
  look_same a size =
      let i = entry_below area.width area.height row col a b in
      look_inside area (set levels (row * area.width + col) level) row col a b
      ∙ get_or-set_same levels (row * area.width + col) level 0 (omega arith)

  pub look_other : (p : Point) → p ≢ spot row col → look area (set levels (row * area.width + col) level) p ≡ look area levels p
  look_other p n = cases (frame_decided area.width area.height p)
    where
      changed : List ℕ
      changed = set levels (row * area.width + col) level

      cases : Dec (frame area.width area.height p) → look area changed p ≡ look area levels p
      cases (no out) = look_beyond area changed p out ∙ sym (look_beyond area levels p out)
      cases (yes (r, c, s, t, e)) =
          ap (look area changed) e ∙ look_inside area changed r c s t
          ∙ get_or-set_other levels (row * area.width + col) (r * area.width + c) level 0
          (entries_apart area.width r c row col t b (λ q. n (e ∙ q)))
          ∙ sym (look_inside area levels r c s t) ∙ ap (look area levels) (sym e)
