-- Small laws of a scan of rows, by induction on the rows: it may be cut anywhere, and so may the count of the points lowered; it
-- keeps the list's length, and it never raises a level nor lowers one to 0.
-- The last three are instances of one: what the row rule keeps at every point, a scan keeps.
use mathlib.Core.Path.{◌≡◌, refl, sym, ap, ◌∙◌}
use borrow.Author.Tests.{lt-ltb, le-ltb}
use mathlib.Core.Bool.{Bool, true, false, cond}
use mathlib.Core.List.{List, [], ◌∷◌}
use Prim.Native.Nat.{ℕ, zero, suc, ◌+◌, ◌*◌, ◌-◌, ◌≤◌, ◌<◌}
use native.Mathlib.Nat.{zero-add, add-zero, suc-add, add-suc, add_assoc, suc-mul, mul-le-mul_left}
use native.Mathlib.Omega.{arith}
use lib.Dec.{ltb, ltb→lt, nltb→le}
use lib.ListN.{length, get_or, set, length-set}
use Rattle.row.specs.declared.Area.{Area}
use Rattle.row.specs.RowRule.{point_rule, lowered, row_rule, points_lowered}
use Rattle.row.proofs.RuleLaws.{rule_keeps}
use Rattle.row.proofs.Lowered.{lowered_most}
use Rattle.scan.specs.Scan.{area, Lent, scan_row, scan_rows, rows_lowered}

-- a scan of m + n rows is one of m rows and then one of n
pub rows_add : (area : Area) (done m n : ℕ) (levels : List ℕ)
    → scan_rows area done (m + n) levels ≡ scan_rows area (done + m) n (scan_rows area done m levels)
unfolding scan_rows
rows_add area done zero n levels = rw (zero-add, add-zero)
rows_add area done (suc m) n levels = rw (suc-add, add-suc) (rows_add area (suc done) m n (scan_row area done levels) ∙ rw suc-add)

module _ (P : List ℕ → Type 0) (area : Area)
    (point : (upward : Bool) (row : ℕ) (levels : List ℕ) (col : ℕ) → (0 < area.height → row < area.height) → col < area.width
    → P levels → P (point_rule area upward row levels col)) where
  row_keep : (done : ℕ) (levels : List ℕ) → P levels → P (scan_row area done levels)
  unfolding scan_row
  row_keep done levels p = cases (ltb done area.height) refl
    where
      cases : (t : Bool) → ltb done area.height ≡ t
          → P (cond t (row_rule area false done levels) (row_rule area true (area.height + area.height - suc done) levels))
      cases true e =
          let l = ltb→lt done area.height (rw e tt) in
          rule_keeps P area false done (λ k col. point false done k col (λ h. l)) levels p
      cases false e =
          let l = nltb→le done area.height (rw e tt) in
          let row = area.height + area.height - suc done in
          rule_keeps P area true row (λ k col. point true row k col (λ h. omega arith)) levels p

  -- what the rule keeps at every point of the area
  pub rows_keep : (done n : ℕ) (levels : List ℕ) → P levels → P (scan_rows area done n levels)
  unfolding scan_rows
  rows_keep done zero levels p = p
  rows_keep done (suc n) levels p = rows_keep (suc done) n (scan_row area done levels) (row_keep done levels p)

pub rows_length : (area : Area) (done n : ℕ) (levels : List ℕ) → length (scan_rows area done n levels) ≡ length levels
unfolding point_rule
rows_length area done n levels = rows_keep (λ l. length l ≡ length levels) area point done n levels refl
  where
    point : (upward : Bool) (row : ℕ) (l : List ℕ) (col : ℕ) → (0 < area.height → row < area.height) → col < area.width
        → length l ≡ length levels → length (point_rule area upward row l col) ≡ length levels
    point upward row l col a b e = length-set l _ _ ∙ e

set_lower : (levels : List ℕ) (k level i : ℕ) → level ≤ get_or levels k 0 → get_or (set levels k level) i 0 ≤ get_or levels i 0
set_lower [] k level i h = omega arith
set_lower (x ∷ levels) zero level zero h = h
set_lower (x ∷ levels) zero level (suc i) h = omega arith
set_lower (x ∷ levels) (suc k) level zero h = omega arith
set_lower (x ∷ levels) (suc k) level (suc i) h = set_lower levels k level i h

pub rows_lower : (area : Area) (done n : ℕ) (levels : List ℕ) (i : ℕ) → get_or (scan_rows area done n levels) i 0 ≤ get_or levels i 0
unfolding point_rule lowered
rows_lower area done n levels i = rows_keep (λ l. get_or l i 0 ≤ get_or levels i 0) area point done n levels (omega arith)
  where
    point : (upward : Bool) (row : ℕ) (l : List ℕ) (col : ℕ) → (0 < area.height → row < area.height) → col < area.width
        → get_or l i 0 ≤ get_or levels i 0 → get_or (point_rule area upward row l col) i 0 ≤ get_or levels i 0
    point upward row l col a b h = let g =
        set_lower l (row * area.width + col) (lowered area upward l row col) i (omega arith) in omega arith

set_positive : (levels : List ℕ) (k level i : ℕ) → (0 < get_or levels k 0 → 0 < level) → 0 < get_or levels i 0
    → 0 < get_or (set levels k level) i 0
set_positive [] k level i h p = p
set_positive (x ∷ levels) zero level zero h p = h p
set_positive (x ∷ levels) zero level (suc i) h p = p
set_positive (x ∷ levels) (suc k) level zero h p = p
set_positive (x ∷ levels) (suc k) level (suc i) h p = set_positive levels k level i h p

-- what a partner offers is one more than a level
pub rows_positive : (area : Area) (done n : ℕ) (levels : List ℕ) (i : ℕ) → 0 < get_or levels i 0
    → 0 < get_or (scan_rows area done n levels) i 0
unfolding point_rule lowered
rows_positive area done n levels i = rows_keep (λ l. 0 < get_or l i 0) area point done n levels
  where
    point : (upward : Bool) (row : ℕ) (l : List ℕ) (col : ℕ) → (0 < area.height → row < area.height) → col < area.width
        → 0 < get_or l i 0 → 0 < get_or (point_rule area upward row l col) i 0
    point upward row l col a b = set_positive l (row * area.width + col) (lowered area upward l row col) i (λ h. omega arith)

-- the turns of the code's loop: no row yet, and one row more
pub rows_none : (area : Area) (done : ℕ) (levels : List ℕ) → scan_rows area done 0 levels ≡ levels
unfolding scan_rows
rows_none area done levels = refl

pub rows_more : (area : Area) (done n : ℕ) (levels : List ℕ)
    → scan_row area (done + n) (scan_rows area done n levels) ≡ scan_rows area done (n + 1) levels
unfolding scan_rows
rows_more area done n levels = sym (rows_add area done n 1 levels)

-- the points that a scan lowers: m + n rows lower those that m rows lower and then those that n rows do
pub lowered_add : (area : Area) (done m n : ℕ) (levels : List ℕ)
    → rows_lowered area done (m + n) levels
    ≡ rows_lowered area done m levels + rows_lowered area (done + m) n (scan_rows area done m levels)
unfolding rows_lowered scan_rows
lowered_add area done zero n levels = rw (zero-add, add-zero, zero-add)
lowered_add area done (suc m) n levels =
    let e : suc done + m ≡ done + suc m = omega arith in
    rw (suc-add, lowered_add area (suc done) m n (scan_row area done levels), e) (sym (add_assoc _ _ _))

pub lowered_none : (area : Area) (done : ℕ) (levels : List ℕ) → rows_lowered area done 0 levels ≡ 0
unfolding rows_lowered
lowered_none area done levels = refl

pub lowered_more : (area : Area) (done n : ℕ) (levels : List ℕ)
    → rows_lowered area done n levels
    + points_lowered (scan_rows area done n levels) (scan_row area (done + n) (scan_rows area done n levels))
    ≡ rows_lowered area done (n + 1) levels
unfolding rows_lowered
lowered_more area done n levels = sym (lowered_add area done n 1 levels ∙ rw add-zero)

-- no row lowers more points than there are
pub lowered_bound : (area : Area) (done n most : ℕ) (levels : List ℕ) → length levels ≤ most
    → rows_lowered area done n levels ≤ n * most
unfolding rows_lowered scan_rows
lowered_bound area done zero most levels h = omega arith
lowered_bound area done (suc n) most levels h =
    let same : length (scan_row area done levels) ≡ length levels = rows_length area done 1 levels in
    omega (
      arith,
      lowered_most levels (scan_row area done levels),
      lowered_bound area (suc done) n most (scan_row area done levels) (rw same h),
      suc-mul n most,
    )

-- the row that is due, by the side of the turn
pub row_down : (area : Area) (done : ℕ) (levels : List ℕ) → done < area.height
    → scan_row area done levels ≡ row_rule area false done levels
unfolding scan_row
row_down area done levels l = rw (lt-ltb done area.height l)

pub row_up : (area : Area) (done row : ℕ) (levels : List ℕ) → area.height ≤ done → row ≡ area.height + area.height - 1 - done
    → scan_row area done levels ≡ row_rule area true row levels
unfolding scan_row
row_up area done row levels l e =
    rw (le-ltb done area.height l)
    (ap (λ r. row_rule area true r levels) (let g : area.height + area.height - suc done ≡ row = omega arith in g))

pub lent_small : (width height : ℕ) (levels : List ℕ) → Lent width height levels → length levels ≤ 16777216
lent_small width height levels lent =
    let h : height ≤ 4096 = lent.high.1 in
    omega (arith, lent.size, mul-le-mul_left height lent.wide.1, h)

-- levels that were worked are lent as they were
pub lent_rows : (width height beyond : ℕ) (cells : List (List ℕ)) (done n : ℕ) (levels : List ℕ) → Lent width height levels
    → Lent width height (scan_rows (area width height beyond cells) done n levels)
lent_rows width height beyond cells done n levels lent =
    record {
      wide = lent.wide;
      high = lent.high;
      size = rows_length (area width height beyond cells) done n levels ∙ lent.size;
    }
