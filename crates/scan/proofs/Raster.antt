-- A scan of all rows down and all rows up is a two-pass scan of the grid.
-- Rows and columns in reading order, or in that order backwards, are an order of visits; the cells before the centre lead to
-- earlier points, those after it to later ones. Both directions are one proof.
use mathlib.Core.Path.{◌≡◌, sym, ◌∙◌, ap, ap₂, subst}
use mathlib.Core.Logic.{◌⊎◌, inl, inr, ◌≢◌}
use mathlib.Core.Bool.{Bool, true, false}
use mathlib.Core.List.{List}
use Prim.Native.Nat.{ℕ, zero, suc, ◌+◌, ◌*◌, ◌-◌, ◌/◌, ◌%◌, ◌≤◌, ◌<◌}
use native.Mathlib.Nat.{zero-add, add-zero, add-suc, zero-mul}
use native.Mathlib.Decide.{dec_lt, ℕ_discrete}
use native.Mathlib.Omega.{arith}
use lib.Dec.{ltb, lt→ltb, ltb→lt}
use lib.ListN.{length}
use Rattle.basics.proofs.Arithmetic.{row_of, column_of, row_below, column_below, entry_of, entry_below}
use Rattle.grid.specs.Points.{Point, ◌⊕◌}
use Rattle.grid.proofs.PointLaws.{⊕-origin}
use Rattle.row.specs.declared.Area.{Area}
use Rattle.row.specs.RowRule.{none, cell_number, first_met, place, columns, row_rule}
use Rattle.row.proofs.Own.{place_below, place_back}
use Rattle.scan.specs.Scan.{scan_row, scan_rows}
use Rattle.scan.specs.Look.{look, full_scan, offset, partners}
use Rattle.scan.proofs.Walks.{OnePass, pass_steps}
use Rattle.scan.proofs.GridScans.{GridScan, LiveStep}
use Rattle.scan.proofs.LookLaws.{cond_true, cond_false, Precedes, earlier}
use Rattle.scan.proofs.Passes.{Live, met, partners_of, IsOrder, visits, order_pass}
use Rattle.scan.proofs.ScanLaws.{rows_add, rows_length}

module _ (area : Area) (upward : Bool) where
  -- the row and the column of turn t, and the turn of a point
  abbrev row_at : ℕ → ℕ
  row_at t = place upward area.height (t / area.width)

  abbrev col_at : ℕ → ℕ
  col_at t = place upward area.width (t % area.width)

  abbrev turn_at : ℕ → ℕ → ℕ
  turn_at r c = place upward area.height r * area.width + place upward area.width c

  -- a partner that is met lies in an earlier row, or earlier in the same
  met_before : (k r c r' c' : ℕ) → first_met upward ≤ k → k < first_met upward + 24 → r < area.height → c < area.width
      → r' < area.height → c' < area.width
      → r + k / 7 ≡ r' + 3 → c + k % 7 ≡ c' + 3
      → Precedes (place upward area.height r') (place upward area.width c') (place upward area.height r)
      (place upward area.width c)
  unfolding first_met place
  met_before k r c r' c' lo hi a b a' b' e f = sides upward lo hi (ℕ_discrete r' r)
    where
      sides : (upward : Bool) → first_met upward ≤ k → k < first_met upward + 24 → Dec (r' ≡ r)
          → Precedes (place upward area.height r') (place upward area.width c') (place upward area.height r)
          (place upward area.width c)
      sides false lo hi (yes q) = inr (q, omega arith)
      sides false lo hi (no n) = inl (omega arith)
      sides true lo hi (yes q) = inr (omega arith, omega arith)
      sides true lo hi (no n) = inl (omega arith)

  reading_order : IsOrder area upward (area.height * area.width) row_at col_at turn_at
  reading_order = record {
    inside = λ t l. (place_below upward area.height _ (row_in t l), place_below upward area.width _ (col_in t l));
    turn_of = λ t l. ap₂ (λ (r c : ℕ). r * area.width + c) (place_back upward area.height _ (row_in t l))
        (place_back upward area.width _ (col_in t l)) ∙ entry_of area.width t;
    visited = λ r c a b.
        let a' = place_below upward area.height r a in
        let b' = place_below upward area.width c b in (
          entry_below area.width area.height _ _ a' b',
          ap (place upward area.height) (row_of area.width _ _ b') ∙ place_back upward area.height r a,
          ap (place upward area.width) (column_of area.width _ _ b') ∙ place_back upward area.width c b,
        );
    before = λ k r c r' c' lo hi a b a' b' e f.
        earlier area.width _ _ _ _ (met_before k r c r' c' lo hi a b a' b' e f) (place_below upward area.width c' b');
  }
    where
      row_in : (t : ℕ) → t < area.height * area.width → t / area.width < area.height
      row_in = row_below area.width area.height

      col_in : (t : ℕ) → t < area.height * area.width → t % area.width < area.width
      col_in = column_below area.width area.height

  -- a row of the scan is so many visits
  row_visits : (n t : ℕ) (levels : List ℕ) → t ≤ area.width
      → columns area upward (place upward area.height n) t (visits area upward row_at col_at (n * area.width) levels)
      ≡ visits area upward row_at col_at (n * area.width + t) levels
  unfolding columns visits
  row_visits n zero levels l = rw add-zero
  row_visits n (suc t) levels l =
      rw (
        add-suc,
        row_visits n t levels (omega arith),
        row_of area.width n t (omega arith),
        column_of area.width n t (omega arith),
      )

-- how many rows are worked before those of a direction
abbrev pub rows_before : Area → Bool → ℕ
rows_before area false = 0
rows_before area true = area.height

-- row n of a direction
row_rule_lem : (area : Area) (upward : Bool) (n : ℕ) (levels : List ℕ) → n < area.height
    → scan_row area (rows_before area upward + n) levels ≡ row_rule area upward (place upward area.height n) levels
unfolding scan_row place
row_rule_lem area false n levels l = rw zero-add (cond_true (ltb n area.height) _ _ (lt→ltb n area.height l))
row_rule_lem area true n levels l =
    cond_false (ltb (area.height + n) area.height) _ _
    (λ t. let h = ltb→lt (area.height + n) area.height t in omega arith)
    ∙ ap (λ r. row_rule area true r levels)
    (let e : area.height + area.height - suc (area.height + n) ≡ area.height - suc n = omega arith in e)

-- and so many rows are so many times as many
rows_visits : (area : Area) (upward : Bool) (n : ℕ) (levels : List ℕ) → n ≤ area.height
    → scan_rows area (rows_before area upward) n levels
    ≡ visits area upward (row_at area upward) (col_at area upward) (n * area.width) levels
unfolding scan_rows row_rule visits
rows_visits area upward zero levels l = rw zero-mul
rows_visits area upward (suc n) levels l =
    ap (λ m. scan_rows area (rows_before area upward) m levels) (let e : suc n ≡ n + 1 = omega arith in e)
    ∙ rows_add area (rows_before area upward) n 1 levels
    ∙ row_rule_lem area upward n (scan_rows area (rows_before area upward) n levels) l
    ∙ ap (row_rule area upward (place upward area.height n)) (rows_visits area upward n levels (omega arith))
    ∙ row_visits area upward n area.width levels (omega arith)
    ∙ ap (λ m. visits area upward (row_at area upward) (col_at area upward) m levels)
    (let e : n * area.width + area.width ≡ suc n * area.width = omega arith in e)

module _ (area : Area) (levels : List ℕ) (size : length levels ≡ area.height * area.width) where
  -- all rows of a direction are a pass
  pub direction_pass : (upward : Bool)
      → OnePass none (LiveStep (Live area) (met area upward)) (look area levels)
      (look area (scan_rows area (rows_before area upward) area.height levels))
  direction_pass upward =
      subst (λ l. OnePass none (LiveStep (Live area) (met area upward)) (look area levels) (look area l))
      (sym (rows_visits area upward area.height levels (omega arith)))
      (order_pass (reading_order area upward) levels size)

  -- going up, the centre may be counted among the partners: it leads nowhere
  pub upward_pass : OnePass none (LiveStep (Live area) (partners_of area 24 25)) (look area levels)
      (look area (scan_rows area area.height area.height levels))
  unfolding first_met
  upward_pass = pass_steps (direction_pass true)
      (λ x y (live, (b, (k, lo, hi, n, e), f)). (live, (b, (k, omega arith, omega arith, n, e), f)))
      (λ x y (live, (b, (k, lo, hi, n, e), f)). centre x y live b k lo hi n e f (ℕ_discrete k 24))
    where
      centre : (x y : Point) → Live area x → (b : Point) (k : ℕ) → 24 ≤ k → k < 24 + 25 → cell_number area.cells k ≢ 0
          → b ≡ offset k → y ≡ x ⊕ b → Dec (k ≡ 24) → LiveStep (Live area) (met area true) x y ⊎ (x ≡ y)
      centre x y live b k lo hi n e f (no q) = inl (live, (b, (k, omega arith, omega arith, n, e), f))
      centre x y live b k lo hi n e f (yes q) = inr (sym (f ∙ ap (λ c. x ⊕ c) (e ∙ ap offset q) ∙ ⊕-origin x))

-- THE SCAN: all rows down, then all rows up
pub area_scan : (area : Area) (levels : List ℕ) → length levels ≡ area.height * area.width
    → GridScan none (Live area) (partners area.cells) (look area levels) (look area (full_scan area levels))
unfolding first_met
area_scan area levels size = record {
  first = met area false;
  second = partners_of area 24 25;
  first_in = λ b (k, lo, hi, n, e). (k, omega arith, n, e);
  second_in = λ b (k, lo, hi, n, e). (k, omega arith, n, e);
  cover = λ b (k, hi, n, e). share b k hi n e (dec_lt k 24);
  scan = record {
    mid = look area half;
    down = direction_pass area levels size false;
    up = subst (λ l. OnePass none (LiveStep (Live area) (partners_of area 24 25)) (look area half) (look area l)) (sym whole)
        (upward_pass area half (rows_length area 0 area.height levels ∙ size));
  };
}
  where
    half : List ℕ
    half = scan_rows area 0 area.height levels

    whole : full_scan area levels ≡ scan_rows area area.height area.height half
    whole = rows_add area 0 area.height area.height levels
        ∙ ap (λ n. scan_rows area n area.height half) (zero-add area.height)

    share : (b : Point) (k : ℕ) → k < 49 → cell_number area.cells k ≢ 0 → b ≡ offset k → Dec (k < 24)
        → met area false b ⊎ partners_of area 24 25 b
    share b k hi n e (yes l) = inl (k, omega arith, omega arith, n, e)
    share b k hi n e (no l) = inr (k, omega arith, omega arith, n, e)
