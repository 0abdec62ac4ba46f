-- One pass of the row rule over an area, in any order that visits each point once and after the partners that it meets.
-- A point keeps its level until it is visited and from then on. So after the pass each level is the rule's own equation, on the
-- start levels of the point and the final levels of its partners: no invariant over single updates.
use mathlib.Core.Path.{◌≡◌, refl, sym, ◌∙◌, ap, ap₂, subst}
use mathlib.Core.Logic.{◌⊎◌, inl, inr, ◌≢◌}
use mathlib.Core.Bool.{Bool}
use mathlib.Core.List.{List}
use Prim.Native.Nat.{ℕ, zero, suc, ◌+◌, ◌*◌, ◌/◌, ◌%◌, ◌≤◌, ◌<◌, min}
use native.Mathlib.Nat.{eq-or-lt_of_le}
use native.Mathlib.Decide.{ℕ_discrete, dec_le, le_ind}
use native.Mathlib.Omega.{arith}
use lib.ListN.{length, length-set}
use Rattle.grid.specs.Points.{Point, ◌⊕◌}
use Rattle.grid.specs.Sets.{PointSet}
use Rattle.grid.specs.Figures.{frame}
use Rattle.grid.proofs.Searches.{frame_decided}
use Rattle.row.specs.declared.Area.{Area}
use Rattle.row.specs.RowRule.{none, more, cell_number, partner, least, first_met, lowered, point_rule}
use Rattle.row.proofs.Least.{least_as}
use Rattle.scan.specs.Look.{look, offset}
use Rattle.scan.proofs.Walks.{OnePass}
use Rattle.scan.proofs.GridScans.{Step, LiveStep}
use Rattle.scan.proofs.LookLaws.{spot, spot_row, spot_col, look_inside, look_beyond, look_same, look_other, partner_on}
use Rattle.scan.proofs.LookLaws.{partner_off, partner_row, partner_col}

-- the points at which the levels obey the rule after a pass
abbrev pub Live : Area → PointSet
Live area p = frame area.width area.height p ⊎ (area.beyond ≡ 0)

-- the partners of n cells, from cell `low` on
abbrev pub partners_of : Area → ℕ → ℕ → PointSet
partners_of area low n b = (k : ℕ) × (low ≤ k) × (k < low + n) × (cell_number area.cells k ≢ 0) × (b ≡ offset k)

-- those that a pass reads
abbrev pub met : Area → Bool → PointSet
met area upward = partners_of area (first_met upward) 24

-- the least of n partners, from cell k on
module _ (area : Area) (levels : List ℕ) (row col : ℕ) where
  abbrev lowest : ℕ → ℕ → ℕ
  lowest k n = least area levels row col k n

  least_le : (k n j : ℕ) → k ≤ j → j < k + n → lowest k n ≤ partner area levels row col j
  unfolding least
  least_le k zero j a b = absurd (omega arith)
  least_le k (suc n) j a b = here (least_le (suc k) n j) (eq-or-lt_of_le a)
    where
      here : (suc k ≤ j → j < suc k + n → lowest (suc k) n ≤ partner area levels row col j) → (k ≡ j) ⊎ (k < j)
          → lowest k (suc n) ≤ partner area levels row col j
      here later (inl e) = let f = ap (partner area levels row col) e in omega arith
      here later (inr l) = let f = later l (omega arith) in omega arith

  least_from : (k n : ℕ) → lowest k n < none → (j : ℕ) × (k ≤ j) × (j < k + n) × (lowest k n ≡ partner area levels row col j)
  unfolding least
  least_from k zero l = absurd (omega arith)
  least_from k (suc n) l = here (least_from (suc k) n) (dec_le (partner area levels row col k) (lowest (suc k) n))
    where
      here : (lowest (suc k) n < none
          → (j : ℕ) × (suc k ≤ j) × (j < suc k + n) × (lowest (suc k) n ≡ partner area levels row col j))
          → Dec (partner area levels row col k ≤ lowest (suc k) n)
          → (j : ℕ) × (k ≤ j) × (j < k + suc n) × (lowest k (suc n) ≡ partner area levels row col j)
      here later (yes h) = (k, omega arith, omega arith, omega arith)
      here later (no h) = let (j, a, b, e) = later (omega arith) in (j, omega arith, omega arith, omega arith)

-- the rule at a point, whose own level is given
abbrev pub ruled : Area → Bool → List ℕ → ℕ → ℕ → ℕ → ℕ
ruled area upward levels row col own = min own (more (least area levels row col (first_met upward) 24))

module _ (area : Area) (upward : Bool) (levels : List ℕ) (row col own : ℕ) where
  -- it is no more than one more than a met partner's level
  rule_edge : (b : Point) → met area upward b → ruled area upward levels row col own ≤ suc (look area levels (spot row col ⊕ b))
  rule_edge b (k, lo, hi, n, e) =
      let l = least_le area levels row col (first_met upward) 24 k lo hi in
      let p = partner_on area levels row col k n in
      let f = ap (λ b. look area levels (spot row col ⊕ b)) e in
      omega arith

  -- below 65,535 it is its own level, or one more than that of some met partner
  pub rule_from : ruled area upward levels row col own < none
      → (ruled area upward levels row col own ≡ own) ⊎
      ((b : Point) × met area upward b × (ruled area upward levels row col own ≡ suc (look area levels (spot row col ⊕ b))))
  rule_from l = cases (dec_le own (ruled area upward levels row col own))
    where
      Found : Type 0
      Found = (b : Point) × met area upward b × (ruled area upward levels row col own ≡ suc (look area levels (spot row col ⊕ b)))

      set_cell : (k : ℕ) → first_met upward ≤ k → k < first_met upward + 24
          → ruled area upward levels row col own ≡ suc (partner area levels row col k) → Dec (cell_number area.cells k ≡ 0)
          → Found
      set_cell k lo hi m (yes z) = absurd (let p = partner_off area levels row col k z in omega arith)
      set_cell k lo hi m (no n) = (offset k, (k, lo, hi, n, refl), m ∙ ap suc (partner_on area levels row col k n))

      cases : Dec (own ≤ ruled area upward levels row col own) → (ruled area upward levels row col own ≡ own) ⊎ Found
      cases (yes h) = inl (omega arith)
      cases (no h) =
          let (k, lo, hi, m) = least_from area levels row col (first_met upward) 24 (omega arith) in
          inr (set_cell k lo hi (omega arith) (ℕ_discrete (cell_number area.cells k) 0))

-- an order of visits: the point visited at turn t, and the turn of each point; a partner that is met has an earlier turn
pub record IsOrder (area : Area) (upward : Bool) (count : ℕ) (row col : ℕ → ℕ) (turn : ℕ → ℕ → ℕ) : Type 0 where
  pub inside : (t : ℕ) → t < count → (row t < area.height) × (col t < area.width)
  pub turn_of : (t : ℕ) → t < count → turn (row t) (col t) ≡ t
  pub visited : (r c : ℕ) → r < area.height → c < area.width → (turn r c < count) × (row (turn r c) ≡ r) × (col (turn r c) ≡ c)
  pub before : (k r c r' c' : ℕ) → first_met upward ≤ k → k < first_met upward + 24 → r < area.height → c < area.width
      → r' < area.height → c' < area.width
      → r + k / 7 ≡ r' + 3 → c + k % 7 ≡ c' + 3 → turn r' c' < turn r c

-- the first t visits
unfoldable pub visits : Area → Bool → (ℕ → ℕ) → (ℕ → ℕ) → ℕ → List ℕ → List ℕ
visits area upward row col zero levels = levels
visits area upward row col (suc t) levels = point_rule area upward (row t) (visits area upward row col t levels) (col t)

visits_length : (area : Area) (upward : Bool) (row col : ℕ → ℕ) (t : ℕ) (levels : List ℕ)
    → length (visits area upward row col t levels) ≡ length levels
unfolding visits point_rule
visits_length area upward row col zero levels = refl
visits_length area upward row col (suc t) levels = length-set (visits area upward row col t levels) _ _
    ∙ visits_length area upward row col t levels

module _ {area : Area} {upward : Bool} {count : ℕ} {row col : ℕ → ℕ} {turn : ℕ → ℕ → ℕ}
    (order : IsOrder area upward count row col turn)
    (levels : List ℕ) (size : length levels ≡ area.height * area.width) where
  abbrev run : ℕ → List ℕ
  run t = visits area upward row col t levels

  abbrev done : List ℕ
  done = run count

  abbrev point : ℕ → Point
  point t = spot (row t) (col t)

  -- a point that is not visited keeps its level
  still : (p : Point) (t u : ℕ) → t ≤ u → u ≤ count → ((s : ℕ) → t ≤ s → s < u → p ≢ point s)
      → look area (run u) p ≡ look area (run t) p
  unfolding visits point_rule
  still p t u le top apart =
      le_ind (λ m. m ≤ count → ((s : ℕ) → t ≤ s → s < m → p ≢ point s) → look area (run m) p ≡ look area (run t) p)
      (λ b f. refl)
      (λ m tm ih b f. look_other area (run m) (row m) (col m) _ (order.inside m b).1 p (f m tm (omega arith))
      ∙ ih (omega arith) (λ s x y. f s x (omega arith)))
      u le top apart

  -- each point is visited once
  once : (s t : ℕ) → s < count → t < count → point s ≡ point t → s ≡ t
  once s t a b e = sym (order.turn_of s a) ∙ ap₂ turn (spot_row e) (spot_col e) ∙ order.turn_of t b

  -- the partners that a point meets have their final levels when it is visited
  partners_ready : (t : ℕ) → t < count → (k : ℕ) → first_met upward ≤ k → k < first_met upward + 24
      → partner area (run t) (row t) (col t) k ≡ partner area done (row t) (col t) k
  partners_ready t b k lo hi = cases (ℕ_discrete (cell_number area.cells k) 0)
    where
      cases : Dec (cell_number area.cells k ≡ 0) → partner area (run t) (row t) (col t) k ≡ partner area done (row t) (col t) k
      cases (yes e) = partner_off area (run t) (row t) (col t) k e ∙ sym (partner_off area done (row t) (col t) k e)
      cases (no n) =
          partner_on area (run t) (row t) (col t) k n
          ∙ sym (still (point t ⊕ offset k) t count (omega arith) (omega arith) (λ s a h e.
          let (i, j) = order.inside t b in
          let (i', j') = order.inside s h in
          let l = order.before k (row t) (col t) (row s) (col s) lo hi i j i' j'
          (partner_row (row t) (col t) k (row s) (col s) e) (partner_col (row t) (col t) k (row s) (col s) e) in
          let f = order.turn_of t b in
          let g = order.turn_of s h in
          omega arith))
          ∙ sym (partner_on area done (row t) (col t) k n)

  abbrev Settled : ℕ → ℕ → Type 0
  Settled r c = look area done (spot r c) ≡ ruled area upward done r c (look area levels (spot r c))

  at_visit : (t : ℕ) → t < count → Settled (row t) (col t)
  unfolding visits point_rule lowered
  at_visit t b =
      let (i, j) = order.inside t b in
      still (point t) (suc t) count b (omega arith) (λ s a h e. let q = once t s b h e in absurd (omega arith))
      ∙ look_same area (run t) (row t) (col t) _ j i (visits_length area upward row col t levels ∙ size)
      ∙ ap₂ (λ (own met : ℕ). min own (more met))
      (sym (look_inside area (run t) (row t) (col t) i j)
      ∙ still (point t) 0 t (omega arith) (omega arith) (λ s a h e. let q = once t s b (omega arith) e in absurd (omega arith)))
      (least_as area area (run t) done (row t) (row t) (col t) (first_met upward) 24 (partners_ready t b))

  settled : (r c : ℕ) → r < area.height → c < area.width → Settled r c
  settled r c a b = let (h, e, f) = order.visited r c a b in
      subst (λ i. Settled i c) e (subst (λ j. Settled (row (turn r c)) j) f (at_visit (turn r c) h))

  pub order_pass : OnePass none (LiveStep (Live area) (met area upward)) (look area levels) (look area done)
  order_pass = record { keep = λ x. keep x (inside x); edge = λ x y s. edge x y (inside x) s; from = λ x. from x (inside x) }
    where
      W : Point → ℕ
      W = look area done

      S : Point → ℕ
      S = look area levels

      inside : (x : Point) → Dec (frame area.width area.height x)
      inside = frame_decided area.width area.height

      keep : (x : Point) → Dec (frame area.width area.height x) → W x ≤ S x
      keep x (yes (r, c, a, b, e)) = let q = settled r c a b in let f = ap W e in let g = ap S e in omega arith
      keep x (no out) = let e = look_beyond area done x out in let f = look_beyond area levels x out in omega arith

      edge_in : (x y : Point) → frame area.width area.height x → Step (met area upward) x y → W x ≤ suc (W y)
      edge_in x y (r, c, a, b, e) (d, m, f) =
          let q = ap W e ∙ settled r c a b in
          let l = rule_edge area upward done r c (S (spot r c)) d m in
          let h : W y ≡ W (spot r c ⊕ d) = ap W (f ∙ ap (λ p. p ⊕ d) e) in
          omega arith

      edge : (x y : Point) → Dec (frame area.width area.height x) → LiveStep (Live area) (met area upward) x y
          → W x ≤ suc (W y)
      edge x y (yes i) (live, s) = edge_in x y i s
      edge x y (no out) (inl i, s) = edge_in x y i s
      edge x y (no out) (inr z, s) = let e = look_beyond area done x out in omega arith

      From : Point → Type 0
      From x = (W x ≡ S x) ⊎ ((y : Point) × LiveStep (Live area) (met area upward) x y × (W x ≡ suc (W y)))

      from : (x : Point) → Dec (frame area.width area.height x) → W x < none → From x
      from x (no out) l = inl (look_beyond area done x out ∙ sym (look_beyond area levels x out))
      from x (yes (r, c, a, b, e)) l =
          let q = ap W e ∙ settled r c a b in
          cases q (rule_from area upward done r c (S (spot r c)) (omega arith))
        where
          cases : W x ≡ ruled area upward done r c (S (spot r c))
              → (ruled area upward done r c (S (spot r c)) ≡ S (spot r c)) ⊎
              ((d : Point) × met area upward d × (ruled area upward done r c (S (spot r c)) ≡ suc (W (spot r c ⊕ d)))) → From x
          cases q (inl h) = inl (q ∙ h ∙ ap S (sym e))
          cases q (inr (d, m, h)) = inr (x ⊕ d, (inl (r, c, a, b, e), (d, m, refl)), q ∙ h ∙ ap (λ p. suc (W (p ⊕ d))) (sym e))
