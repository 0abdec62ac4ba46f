-- The other rows first and the own row last give what the rule gives point by point.
-- After t turns of both: a column worked has the same level in both, and a column still to be worked is ahead by what the other
-- rows give it, which is what they gave at entry.
use Prim.Native.Nat.{ℕ, zero, suc, ◌+◌, ◌-◌, ◌*◌, ◌/◌, ◌%◌, ◌≤◌, ◌<◌, min}
use native.Mathlib.Nat.{zero-add, min_comm}
use native.Mathlib.Omega.{arith}
use mathlib.Core.Bool.{Bool, true, false, not, cond}
use mathlib.Core.Logic.{◌⊎◌, inl, inr, ⊎_elim}
use mathlib.Core.List.{List}
use mathlib.Core.Path.{◌≡◌, refl, sym, ap, ◌∙◌}
use lib.ListN.{length, get_or, set, length-set}
use lib.Seq.{get_or-set_same, get_or-set_other, ext_get_or}
use lib.Dec.{eqb, leb}
use borrow.Author.Tests.{le-leb, lt-leb}
use Rattle.row.specs.declared.Area.{Area}
use Rattle.row.specs.RowRule.{none, more, cell_number, level_at, partner, least, first_met, lowered, point_rule, place}
use Rattle.row.specs.RowRule.{columns, row_rule}
use Rattle.row.specs.Passes.{Put, Pass, column_at, first_other, cell_back, leads_back, level_back, picked, nearest}
use Rattle.row.specs.Passes.{own_point, own_columns}
use Rattle.row.proofs.Pass.{ordered, more_least}
use Rattle.row.proofs.Columns.{within_in, column_in, column_out}
use Rattle.row.proofs.Least.{least_small, least_split, least_same}
use Rattle.row.proofs.Own.{place_below, place_apart, place_back}
use Rattle.row.proofs.RuleLaws.{rule_length, rule_elsewhere}

-- where the cell that leads d turns back leads, from the column of turn t
module _ (width t d : ℕ) (turn : t < width) (one : 1 ≤ d) (three : d ≤ 3) where
  back_row : (upward : Bool) → cell_back upward d / 7 ≡ 3
  unfolding cell_back
  back_row false = omega arith
  back_row true = omega arith

  back_out : (upward : Bool) → t < d
      → (place upward width t + cell_back upward d % 7 < 3) ⊎ (width + 3 ≤ place upward width t + cell_back upward d % 7)
  unfolding cell_back place
  back_out false h = inl (omega arith)
  back_out true h = inr (omega arith)

  back_in : (upward : Bool) → d ≤ t → place upward width t + cell_back upward d % 7 ≡ place upward width (t - d) + 3
  unfolding cell_back place
  back_in false h = omega arith
  back_in true h = omega arith

module _ (area : Area) (upward : Bool) (row : ℕ) (in_area_lem : row < area.height) where
  -- the level of the column worked d turns before turn t
  back : List ℕ → ℕ → ℕ → ℕ
  back levels t d = cond (leb d t) (get_or levels (row * area.width + place upward area.width (t - d)) 0) area.beyond

  -- a partner in the own row is a level worked
  back_level : (levels : List ℕ) (t d : ℕ) → t < area.width → 1 ≤ d → d ≤ 3 →
      level_at area levels (row + cell_back upward d / 7) (place upward area.width t + cell_back upward d % 7) ≡ back levels t d
  unfolding level_at column_at back
  back_level levels t d turn one three =
      let w : ℕ = area.width in
      let x : ℕ = place upward w t + cell_back upward d % 7 in
      let here : row + 3 - 3 ≡ row = omega arith in
      rw (back_row w t d turn one three upward, within_in area.height (row + 3) (omega arith) (omega arith), here)
      (⊎_elim
      (λ (h : t < d). rw (lt-leb _ _ h) (column_out w (row * w) area.beyond levels x (back_out w t d turn one three upward h)))
      (λ (h : d ≤ t).
      let p : place upward w (t - d) < w = place_below upward w (t - d) (omega arith) in
      let q : x ≡ place upward w (t - d) + 3 = back_in w t d turn one three upward h in
      let z : x - 3 ≡ place upward w (t - d) = omega arith in
      rw (le-leb _ _ h) (column_in w (row * w) area.beyond levels x (omega arith) (omega arith)
      ∙ ap (λ (c : ℕ). get_or levels (row * w + c) 0) z))
      (ordered t d))

  back_partner : (levels : List ℕ) (t d : ℕ) → t < area.width → 1 ≤ d → d ≤ 3 →
      partner area levels row (place upward area.width t) (cell_back upward d)
      ≡ picked (leads_back area.cells upward d) (back levels t d)
  unfolding partner picked leads_back
  back_partner levels t d turn one three =
      ap (λ (x : ℕ). cond (eqb (cell_number area.cells (cell_back upward d)) 0) none x) (back_level levels t d turn one three)
      ∙ turned (eqb (cell_number area.cells (cell_back upward d)) 0) (back levels t d)
    where
      turned : (unset : Bool) (level : ℕ) → cond unset none level ≡ cond (not unset) level none
      turned true level = refl
      turned false level = refl

-- the partners met are those in other rows and the three of the own row, in either order
capped : (l x y : ℕ) → l ≤ none → y ≡ min x none → min l y ≡ min l x
capped l x y small q = omega arith

down : (a b c : ℕ) → min a (min b (min c none)) ≡ min (min c (min b a)) none
down a b c = omega arith

up : (a b c : ℕ) → min a (min b (min c none)) ≡ min (min a (min b c)) none
up a b c = omega arith

module _ (area : Area) (levels : List ℕ) (row col : ℕ) where
  met : (upward : Bool) →
      least area levels row col (first_met upward) 24
      ≡ min (least area levels row col (first_other upward) 21)
      (min (partner area levels row col (cell_back upward 1))
      (min (partner area levels row col (cell_back upward 2)) (partner area levels row col (cell_back upward 3))))
  unfolding first_met first_other cell_back least
  met false = least_split area levels row col 0 21 3
      ∙ capped _ _ _ (least_small area levels row col 0 21)
      (down (partner area levels row col 21) (partner area levels row col 22) (partner area levels row col 23))
  met true =
      least_split area levels row col 25 3 21
      ∙ min_comm (least area levels row col 25 3) (least area levels row col 28 21)
      ∙ capped _ _ _ (least_small area levels row col 28 21)
      (up (partner area levels row col 25) (partner area levels row col 26) (partner area levels row col 27))

-- after t turns of the rule point by point and of the own row alone
record Ahead (area : Area) (upward : Bool) (row t : ℕ) (points own : List ℕ) : Type 0 where
  wide : area.width ≤ length own
  room : row * area.width + area.width ≤ length points
  done : (s : ℕ) → s < t → s < area.width
      → get_or own (place upward area.width s) 0 ≡ get_or points (row * area.width + place upward area.width s) 0
  left : (s : ℕ) → t ≤ s → s < area.width →
      get_or own (place upward area.width s) 0
      ≡ min (get_or points (row * area.width + place upward area.width s) 0)
      (more (least area points row (place upward area.width s) (first_other upward) 21))

other : (upward : Bool) → (first_other upward + 21 ≤ 21) ⊎ (28 ≤ first_other upward)
unfolding first_other
other false = inl (omega arith)
other true = inr (omega arith)

-- a level lowered twice is lowered once, to one more than the lesser
lower_twice : (level a b : ℕ) → min (min level (more a)) (more b) ≡ min level (more (min a b))
lower_twice level a b = rw (more_least a b) (shift level (more a) (more b))
  where
    shift : (x y z : ℕ) → min (min x y) z ≡ min x (min y z)
    shift x y z = omega arith

module _ (area : Area) (upward : Bool) (row : ℕ) (in_area_lem : row < area.height) where
  -- the row, taken and worked by the other rows
  ahead_start : (levels taken worked : List ℕ) → row * area.width + area.width ≤ length levels
      → area.width ≤ length taken → ((col : ℕ) → col < area.width → get_or taken col 0 ≡ get_or levels (row * area.width + col) 0) →
      Pass 0 area.width (λ col. more (least area levels row col (first_other upward) 21)) taken worked →
      Ahead area upward row 0 levels worked
  ahead_start levels taken worked room wide T P =
      record {
        wide = rw P.size wide;
        room = room;
        done = λ s h k. absurd (omega arith);
        left = λ s h k. start (place upward area.width s) (place_below upward area.width s k);
      }
    where
      start : (col : ℕ) → col < area.width
          → get_or worked col 0
          ≡ min (get_or levels (row * area.width + col) 0) (more (least area levels row col (first_other upward) 21))
      start col h =
          let e : ◌≡◌ {A = ℕ} (0 + col) col = zero-add col in
          rw e at (P.inside col h) ∙ ap (λ (x : ℕ). min x (more (least area levels row col (first_other upward) 21))) (T col h)

  -- both give the column of turn t the same level
  module _ (t : ℕ) (points own : List ℕ) (turn : t < area.width) (A : Ahead area upward row t points own) where
    back_same : (d : ℕ) → 1 ≤ d → level_back upward area.width area.beyond own t d ≡ back area upward row in_area_lem points t d
    unfolding level_back back
    back_same d one =
        ⊎_elim
        (λ (h : t < d). simp (lt-leb _ _ h))
        (λ (h : d ≤ t). simp (le-leb _ _ h) (A.done (t - d) (omega arith) (omega arith)))
        (ordered t d)

    -- the least level among the partners of the own row's cells
    near : ℕ
    near =
        nearest (leads_back area.cells upward 1) (leads_back area.cells upward 2) (leads_back area.cells upward 3)
        (level_back upward area.width area.beyond own t 1) (level_back upward area.width area.beyond own t 2)
        (level_back upward area.width area.beyond own t 3)

    least_met : least area points row (place upward area.width t) (first_met upward) 24
        ≡ min (least area points row (place upward area.width t) (first_other upward) 21) near
    unfolding near
    least_met =
        rw (
          back_same 1 (omega arith),
          back_same 2 (omega arith),
          back_same 3 (omega arith),
          ← back_partner area upward row in_area_lem points t 1 turn (omega arith) (omega arith),
          ← back_partner area upward row in_area_lem points t 2 turn (omega arith) (omega arith),
          ← back_partner area upward row in_area_lem points t 3 turn (omega arith) (omega arith),
        )
        (met area points row (place upward area.width t) upward)

    level_same : min (get_or own (place upward area.width t) 0) (more near)
        ≡ lowered area upward points row (place upward area.width t)
    unfolding lowered
    level_same =
        rw (A.left t (omega arith) turn, least_met)
        (lower_twice (get_or points (row * area.width + place upward area.width t) 0)
        (least area points row (place upward area.width t) (first_other upward) 21) near)

    -- and go on alike
    ahead_same : (level : ℕ) →
        Ahead area upward row (suc t) (set points (row * area.width + place upward area.width t) level)
        (set own (place upward area.width t) level)
    ahead_same level =
        let w : ℕ = area.width in
        let at : ℕ = row * w + place upward w t in
        let p : place upward w t < w = place_below upward w t turn in
        let in_points : row * w + w ≤ length points = A.room in
        let in_own : w ≤ length own = A.wide in
        let apart : (s : ℕ) → s < w → (s ≡ t → ⊥) → place upward w s ≡ place upward w t
        → ⊥ = λ s k h. place_apart upward w s t k turn h in
        let own_else : (s : ℕ) → s < w → (s ≡ t → ⊥)
        → get_or (set own (place upward w t) level) (place upward w s) 0
        ≡ get_or own (place upward w s) 0 = λ s k h. get_or-set_other own (place upward w t) (place upward w s) level 0 (apart s k h) in
        let points_else : (i : ℕ) → (i ≡ at → ⊥)
        → get_or (set points at level) i 0 ≡ get_or points i 0 = λ i h. get_or-set_other points at i level 0 h in
        let off : (s : ℕ) → s < w → (s ≡ t → ⊥) → row * w + place upward w s ≡ at
        → ⊥ = λ s k h q. apart s k h (omega arith) in
        record {
          wide = rw length-set in_own;
          room = rw length-set in_points;
          done = λ s h k. ⊎_elim
              (λ (m : s < t).
              let no : s ≡ t → ⊥ = λ q. omega arith in
              own_else s k no ∙ A.done s m k ∙ sym (points_else _ (off s k no)))
              (λ (m : t ≤ s).
              let q : s ≡ t = omega arith in
              rw q (get_or-set_same own (place upward w t) level 0 (omega arith)
              ∙ sym (get_or-set_same points at level 0 (omega arith))))
              (ordered s t);
          left = λ s h k.
              let no : s ≡ t → ⊥ = λ q. omega arith in
              rw (
                points_else (row * w + place upward w s) (off s k no),
                least_same area row points (set points at level) (λ i m. points_else i (λ q. omega arith))
                    (λ i m. points_else i (λ q. omega arith)) (place upward w s) (first_other upward) 21 (other upward),
              )
              (own_else s k no ∙ A.left s (omega arith) k);
        }

    -- a turn of both
    ahead_turn : Ahead area upward row (suc t) (point_rule area upward row points (place upward area.width t))
        (own_point upward area.width (leads_back area.cells upward 1) (leads_back area.cells upward 2)
        (leads_back area.cells upward 3) area.beyond own t)
    unfolding point_rule own_point near
    ahead_turn = rw level_same (ahead_same (lowered area upward points row (place upward area.width t)))

  -- with every column worked the row is the same; it is stored, and the other rows stay
  module _ (levels taken worked after : List ℕ) (room : row * area.width + area.width ≤ length levels)
      (wide : area.width ≤ length taken)
      (T : (col : ℕ) → col < area.width → get_or taken col 0 ≡ get_or levels (row * area.width + col) 0)
      (P : Pass 0 area.width (λ col. more (least area levels row col (first_other upward) 21)) taken worked) where
    own : ℕ → List ℕ
    own t =
        own_columns upward area.width (leads_back area.cells upward 1) (leads_back area.cells upward 2)
        (leads_back area.cells upward 3) area.beyond t worked

    ahead : (t : ℕ) → t ≤ area.width → Ahead area upward row t (columns area upward row t levels) (own t)
    unfolding own columns own_columns
    ahead zero h = ahead_start levels taken worked room wide T P
    ahead (suc t) h = ahead_turn t _ _ (omega arith) (ahead t (omega arith))

    same_row : (col : ℕ) → col < area.width
        → get_or (own area.width) col 0 ≡ get_or (row_rule area upward row levels) (row * area.width + col) 0
    unfolding row_rule
    same_row col h =
        let s : ℕ = place upward area.width col in
        let turn : s < area.width = place_below upward area.width col h in
        rw (place_back upward area.width col h) at ((ahead area.width (omega arith)).done s turn turn)

    pub whole : Put (row * area.width) area.width
        (λ col. get_or
        (own_columns upward area.width (leads_back area.cells upward 1) (leads_back area.cells upward 2)
        (leads_back area.cells upward 3) area.beyond area.width worked)
        col 0) levels after →
        after ≡ row_rule area upward row levels
    unfolding own
    whole S =
        ext_get_or 0 after (row_rule area upward row levels) (S.size ∙ sym (rule_length area upward row levels))
        (λ i h. ⊎_elim
        (λ (k : i < row * area.width). S.earlier i k ∙ sym (rule_elsewhere area upward row levels i (inl k)))
        (λ (k : row * area.width ≤ i). ⊎_elim
        (λ (m : i < row * area.width + area.width).
        let col : ℕ = i - row * area.width in
        let z : row * area.width + col ≡ i = omega arith in
        rw z at (S.inside col (omega arith) ∙ same_row col (omega arith)))
        (λ (m : row * area.width + area.width ≤ i). S.later i m ∙ sym (rule_elsewhere area upward row levels i (inr m)))
        (ordered i (row * area.width + area.width)))
        (ordered i (row * area.width)))
