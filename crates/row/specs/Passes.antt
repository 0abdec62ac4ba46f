-- What the code that works by whole rows does, in the terms of `RowRule`.
use Rattle.std.specs.Prelude.{ℕ, zero, suc, ◌+◌, ◌-◌, ◌≤◌, ◌<◌, min, ◌≡◌, Bool, true, false, not, cond, List, eqb, leb, length, get_or, set}
use Rattle.row.specs.RowRule.{none, more, cell_number, within, place}

-- Each of the width levels from start on is the one given for its column; the others are as they were.
pub record Put (start width : ℕ) (level : ℕ → ℕ) (levels after : List ℕ) : Type 0 where
  pub size : length after ≡ length levels
  pub inside : (col : ℕ) → col < width → get_or after (start + col) 0 ≡ level col
  pub earlier : (i : ℕ) → i < start → get_or after i 0 ≡ get_or levels i 0
  pub later : (i : ℕ) → start + width ≤ i → get_or after i 0 ≡ get_or levels i 0

-- each is lowered to what is offered to its column
abbrev pub Pass : ℕ → ℕ → (ℕ → ℕ) → List ℕ → List ℕ → Type 0
Pass start width offer levels after = Put start width (λ col. min (get_or levels (start + col) 0) (offer col)) levels after

-- each level is lowered to one more than what is offered at its index
abbrev pub Lowers : (ℕ → ℕ → Type 0) → List ℕ → List ℕ → Type 0
Lowers offers levels after =
    (i : ℕ) → i < length levels → (level : ℕ) × offers i level × (get_or after i 0 ≡ min (get_or levels i 0) (more level))

-- what a partner reads in the row that begins at from, at a column that is counted from 3 before the first
unfoldable pub column_at : ℕ → ℕ → ℕ → List ℕ → ℕ → ℕ
column_at width from beyond levels x = cond (within width x) (get_or levels (from + (x - 3)) 0) beyond

-- the first of the 21 cells met in other rows
unfoldable pub first_other : Bool → ℕ
first_other false = 0
first_other true = 28

-- the cell that leads to the column worked d turns ago, and whether it is set
unfoldable pub cell_back : Bool → ℕ → ℕ
cell_back false d = 24 - d
cell_back true d = 24 + d

unfoldable pub leads_back : List (List ℕ) → Bool → ℕ → Bool
leads_back cells upward d = not (eqb (cell_number cells (cell_back upward d)) 0)

-- the level of the column worked d turns before turn t
unfoldable pub level_back : Bool → ℕ → ℕ → List ℕ → ℕ → ℕ → ℕ
level_back upward width beyond levels t d = cond (leb d t) (get_or levels (place upward width (t - d)) 0) beyond

-- a partner's level, where its cell is set
unfoldable pub picked : Bool → ℕ → ℕ
picked is_set level = cond is_set level none

-- the least level among the partners of the own row's three cells, the nearest first
abbrev pub nearest : Bool → Bool → Bool → ℕ → ℕ → ℕ → ℕ
nearest one two three near middle far = min (picked one near) (min (picked two middle) (picked three far))

-- what a cell adds to its partner's level: one, or, where it is not set, so much that no level is lowered
unfoldable pub step : Bool → ℕ
step is_set = cond is_set 1 none

-- the level at an index, lowered to the least of three
pub record Lowest (levels after : List ℕ) (at near middle far level : ℕ) : Type 0 where
  pub small : get_or levels at 0 ≤ none
  pub value : level ≡ min (get_or levels at 0) (min near (min middle far))
  pub stored : after ≡ set levels at level

-- the levels at two indices, the first lowered to one more than near, the second to one more than the first
pub record TwoLowest (levels after : List ℕ) (first second near level : ℕ) : Type 0 where
  pub between : List ℕ
  pub middle : ℕ
  pub one : Lowest levels between first (near + 1) none none middle
  pub two : Lowest between after second (middle + 1) none none level

-- the column of turn t of a row, by the partners in the own row alone
unfoldable pub own_point : Bool → ℕ → Bool → Bool → Bool → ℕ → List ℕ → ℕ → List ℕ
own_point upward width one two three beyond levels t =
    set levels (place upward width t)
    (min (get_or levels (place upward width t) 0)
    (more (nearest one two three (level_back upward width beyond levels t 1) (level_back upward width beyond levels t 2)
    (level_back upward width beyond levels t 3))))

-- the first t columns
unfoldable pub own_columns : Bool → ℕ → Bool → Bool → Bool → ℕ → ℕ → List ℕ → List ℕ
own_columns upward width one two three beyond zero levels = levels
own_columns upward width one two three beyond (suc t) levels =
    own_point upward width one two three beyond (own_columns upward width one two three beyond t levels) t
