-- The least level among the partners of a run of cells: it splits at any cell, and where the cells lie in other rows of the
-- element it is the same in levels that differ in the own row alone.
-- So the passes of single cells add up to one pass by the least of them all, and the own row may be worked after the others.
use Prim.Native.Nat.{ℕ, zero, suc, ◌+◌, ◌-◌, ◌*◌, ◌/◌, ◌%◌, ◌≤◌, ◌<◌, min}
use native.Mathlib.Nat.{add-zero, zero-add, suc-add, mul-le-mul_right, suc-mul}
use native.Mathlib.Omega.{arith}
use mathlib.Core.Bool.{Bool, true, false, cond, ◌&&◌}
use mathlib.Core.Logic.{◌⊎◌, inl, inr, ⊎_elim}
use mathlib.Core.List.{List}
use mathlib.Core.Path.{◌≡◌, refl, sym, ap, ap₂, ◌∙◌}
use lib.ListN.{length, get_or}
use lib.Dec.{eqb, leb, ltb}
use borrow.Author.Rules.{rules}
use borrow.Rule.Slice.PartMut.{mid_of}
use borrow.Author.Tests.{eq-eqb, ne_eqb, leb-true, ltb-true}
use Rattle.std.proofs.lemmas.List.{places}
use Rattle.basics.proofs.BoundLaws.{both}
use Rattle.row.specs.declared.Area.{Area}
use Rattle.row.specs.RowRule.{none, more, cell_number, within, level_at, partner, least}
use Rattle.row.specs.Passes.{Pass, column_at, first_other}
use Rattle.row.proofs.Pass.{more_least, pass_as, pass_and, pass_none}

-- an earlier row ends before a later one begins
pub row_end : (width row rows : ℕ) → row < rows → row * width + width ≤ rows * width
row_end width row rows h =
    let m : suc row ≤ rows = omega arith in
    omega (arith, suc-mul row width, mul-le-mul_right width m)

-- it goes by the partners alone
pub least_as : (area area' : Area) (levels levels' : List ℕ) (row row' col k n : ℕ)
    → ((j : ℕ) → k ≤ j → j < k + n → partner area levels row col j ≡ partner area' levels' row' col j)
    → least area levels row col k n ≡ least area' levels' row' col k n
unfolding least
least_as area area' levels levels' row row' col k zero same = refl
least_as area area' levels levels' row row' col k (suc n) same =
    ap₂ min (same k (omega arith) (omega arith))
    (least_as area area' levels levels' row row' col (suc k) n (λ j a b. same j (omega arith) (omega arith)))

module _ (area : Area) (levels : List ℕ) (row col : ℕ) where
  pub least_small : (k n : ℕ) → least area levels row col k n ≤ none
  unfolding least
  least_small k zero = omega arith
  least_small k (suc n) = omega (arith, least_small (suc k) n)

  pub least_split : (k m n : ℕ)
      → least area levels row col k (m + n) ≡ min (least area levels row col k m) (least area levels row col (k + m) n)
  unfolding least
  least_split k zero n =
      let l : least area levels row col k n ≤ none = least_small k n in
      let q : least area levels row col k n ≡ min none (least area levels row col k n) = omega arith in
      rw (zero-add, add-zero) q
  least_split k (suc m) n =
      let q : k + suc m ≡ suc k + m = omega arith in
      rw (suc-add, q, least_split (suc k) m n)
      (shift (partner area levels row col k) (least area levels row col (suc k) m) (least area levels row col (suc k + m) n))
    where
      shift : (a b c : ℕ) → min a (min b c) ≡ min (min a b) c
      shift a b c = omega arith

  -- one cell: not set, its row beyond the area, its row in the area
  cell_unset : (k : ℕ) → cell_number area.cells k ≡ 0 → least area levels row col k 1 ≡ none
  unfolding least partner
  cell_unset k z = rw (eq-eqb _ _ z)

  cell_set : (k : ℕ) → (cell_number area.cells k ≡ 0 → ⊥)
      → more (level_at area levels (row + k / 7) (col + k % 7)) ≡ more (least area levels row col k 1)
  unfolding least partner
  cell_set k z = rw (ne_eqb _ _ z) (capped (level_at area levels (row + k / 7) (col + k % 7)))
    where
      capped : (a : ℕ) → more a ≡ more (min a none)
      capped a = omega arith

  cell_beyond : (k : ℕ) → (cell_number area.cells k ≡ 0 → ⊥) → within area.height (row + k / 7) ≡ false
      → more area.beyond ≡ more (least area levels row col k 1)
  unfolding level_at
  cell_beyond k z out = rw out at (cell_set k z)

  cell_in : (k : ℕ) → (cell_number area.cells k ≡ 0 → ⊥) → within area.height (row + k / 7) ≡ true →
      more (column_at area.width ((row + k / 7 - 3) * area.width) area.beyond levels (col + k % 7))
      ≡ more (least area levels row col k 1)
  unfolding level_at column_at
  cell_in k z in_area_lem = rw in_area_lem at (cell_set k z)

cond_same : (t : Bool) (a b rest : ℕ) → (t ≡ true → a ≡ b) → cond t a rest ≡ cond t b rest
cond_same true a b rest h = h refl
cond_same false a b rest h = refl

within_true : (n p : ℕ) → within n p ≡ true → (3 ≤ p) × (p < n + 3)
unfolding within
within_true n p q = let h = both (leb 3 p) (ltb p (n + 3)) q in (leb-true 3 p h.0, ltb-true p (n + 3) h.1)

-- a row that is lent is read from its first level on
column_lent : (width from beyond : ℕ) (levels : List ℕ) (x : ℕ) → from + width ≤ length levels
    → column_at width 0 beyond (mid_of from width levels) x ≡ column_at width from beyond levels x
unfolding column_at
column_lent width from beyond levels x room =
    cond_same (within width x) _ _ beyond (λ q. there (x - 3) (let h = within_true width x q in omega arith))
  where
    there : (j : ℕ) → j < width → get_or (mid_of from width levels) (0 + j) 0 ≡ get_or levels (from + j) 0
    there j h = rw zero-add (search (rules, places))

-- levels that differ in the own row alone give the same partners in other rows
module _ (area : Area) (row : ℕ) (levels after : List ℕ)
    (earlier : (i : ℕ) → i < row * area.width → get_or after i 0 ≡ get_or levels i 0)
    (later : (i : ℕ) → row * area.width + area.width ≤ i → get_or after i 0 ≡ get_or levels i 0) where
  level_same : (y x : ℕ) → (y < row + 3) ⊎ (row + 3 < y) → level_at area after y x ≡ level_at area levels y x
  unfolding level_at
  level_same y x other =
      cond_same (within area.height y && within area.width x) _ _ area.beyond
      (λ q.
      let inside = both (within area.height y) (within area.width x) q in
      let in_rows = within_true area.height y inside.0 in
      let in_row = within_true area.width x inside.1 in
      ⊎_elim
      (λ (h : y < row + 3). earlier ((y - 3) * area.width + (x - 3))
      (omega (arith, row_end area.width (y - 3) row (omega arith))))
      (λ (h : row + 3 < y). later ((y - 3) * area.width + (x - 3))
      (omega (arith, row_end area.width row (y - 3) (omega arith))))
      other)

  partner_same : (col k : ℕ) → (k < 21) ⊎ (28 ≤ k) → partner area after row col k ≡ partner area levels row col k
  unfolding partner
  partner_same col k other =
      ap (λ (x : ℕ). cond (eqb (cell_number area.cells k) 0) none x)
      (level_same (row + k / 7) (col + k % 7)
      (⊎_elim (λ (h : k < 21). inl (omega arith)) (λ (h : 28 ≤ k). inr (omega arith)) other))

  pub least_same : (col k n : ℕ) → (k + n ≤ 21) ⊎ (28 ≤ k) → least area after row col k n ≡ least area levels row col k n
  least_same col k n other =
      least_as area area after levels row row col k n
      (λ j a b. partner_same col j (⊎_elim (λ (h : k + n ≤ 21). inl (omega arith)) (λ (h : 28 ≤ k). inr (omega arith)) other))

-- the passes of the cells, one after the other
pub pass_cell : (area : Area) (row first n : ℕ) (levels worked between after : List ℕ) →
    Pass 0 area.width (λ col. more (least area levels row col first n)) worked between →
    Pass 0 area.width (λ col. more (least area levels row col (first + n) 1)) between after →
    Pass 0 area.width (λ col. more (least area levels row col first (n + 1))) worked after
pass_cell area row first n levels worked between after P Q =
    pass_as _ _ worked _ _ after
    (λ col h. sym (more_least (least area levels row col first n) (least area levels row col (first + n) 1))
    ∙ ap more (sym (least_split area levels row col first n 1)))
    (pass_and _ _ worked _ _ between after P Q)

-- the row of a partner that is within the area lies in the levels
pub row_inside : (width rows y : ℕ) → within rows y ≡ true → (3 ≤ y) × ((y - 3) * width + width ≤ rows * width)
row_inside width rows y q =
    let h : (3 ≤ y) × (y < rows + 3) = within_true rows y q in
    (h.0, row_end width (y - 3) rows (omega arith))

-- the pass of one cell: not set, its row beyond the area, its row in the area
module _ (area : Area) (row k : ℕ) (levels worked : List ℕ) where
  pub pass_unset : cell_number area.cells k ≡ 0 → ((i : ℕ) → get_or worked i 0 < 65536)
      → Pass 0 area.width (λ col. more (least area levels row col k 1)) worked worked
  pass_unset z small = pass_as _ _ worked _ _ worked (λ col h. ap more (sym (cell_unset area levels row col k z)))
      (pass_none _ _ worked small)

  pub pass_beyond : (after : List ℕ) → (cell_number area.cells k ≡ 0 → ⊥) → within area.height (row + k / 7) ≡ false →
      Pass 0 area.width (λ col. more area.beyond) worked after →
      Pass 0 area.width (λ col. more (least area levels row col k 1)) worked after
  pass_beyond after z out P = pass_as _ _ worked _ _ after (λ col h. cell_beyond area levels row col k z out) P

  -- the row of the partners was lent
  pub pass_in : (from : ℕ) (after : List ℕ) → (cell_number area.cells k ≡ 0 → ⊥) → within area.height (row + k / 7) ≡ true →
      from ≡ (row + k / 7 - 3) * area.width → from + area.width ≤ length levels →
      Pass 0 area.width
      (λ col. more (column_at area.width 0 area.beyond (mid_of from area.width levels) (col + k % 7))) worked after →
      Pass 0 area.width (λ col. more (least area levels row col k 1)) worked after
  pass_in from after z in_area_lem at room P =
      pass_as _ _ worked _ _ after
      (λ col h. ap more (column_lent area.width from area.beyond levels (col + k % 7) room)
      ∙ rw (← at) at (cell_in area levels row col k z in_area_lem)) P

-- the 21 cells of other rows are those before cell 21, or those from cell 28 on
pub other_cells : (upward : Bool) (n : ℕ) → n < 21 → first_other upward + n < 49
unfolding first_other
other_cells false n h = omega arith
other_cells true n h = omega arith
