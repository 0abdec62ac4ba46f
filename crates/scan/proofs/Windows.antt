-- A row is worked in a part of the levels as in the whole: the part that begins at row `start` is an area of its own, and the
-- rows before it stay.
-- The partners that are met lie in the part or beyond the whole, so they read the same; then the columns go one by one.
use Prim.Native.Nat.{ℕ, zero, suc, ◌+◌, ◌-◌, ◌*◌, ◌/◌, ◌%◌, ◌≤◌, ◌<◌, min}
use native.Mathlib.Nat.{add-mul, zero-mul, mul-le-mul_right}
use native.Mathlib.Decide.{ℕ_discrete, dec_lt}
use native.Mathlib.Omega.{arith}
use mathlib.Core.Path.{◌≡◌, refl, sym, ap, ap₂, ◌∙◌}
use mathlib.Core.Bool.{Bool, true, false, cond, ◌&&◌}
use mathlib.Core.Logic.{◌≢◌, ◌⊎◌, inl, inr}
use mathlib.Core.List.{List, [], ◌∷◌, ◌++◌, append-nil}
use lib.Dec.{eqb, leb, ltb}
use lib.ListN.{length, get_or, take, drop, set, take-append-drop, length-take, length-drop, drop_of_length-le}
use lib.Seq.{length-take-le, take_all, get_or-append-add}
use borrow.Author.Tests.{le-leb, lt-ltb, le-ltb, eq-eqb, ne_eqb}
use Rattle.row.specs.declared.Area.{Area}
use Rattle.row.specs.RowRule.{none, more, cell_number, within, level_at, partner, first_met, lowered, point_rule, place}
use Rattle.row.specs.RowRule.{columns, row_rule, points_lowered}
use Rattle.row.proofs.Least.{least_as}
use Rattle.row.proofs.Lowered.{lowered_behind}
use borrow.Rule.Slice.PartMut.{put_mid}
use Rattle.scan.specs.Scan.{area, Lent, Within, Reaches}

-- a store past the seam
set-append : (p q : List ℕ) (i v : ℕ) → set (p ++ q) (length p + i) v ≡ p ++ set q i v
set-append [] q i v = ap (λ n. set q n v) (let e : 0 + i ≡ i = omega arith in e)
set-append (x ∷ p) q i v = ap (λ n. set (x ∷ (p ++ q)) n v) (let e : length (x ∷ p) + i ≡ suc (length p + i) = omega arith in e)
    ∙ ap (λ l. x ∷ l) (set-append p q i v)

module _ (width height beyond : ℕ) (cells : List (List ℕ)) (start : ℕ) (p q : List ℕ) (front : length p ≡ start * width) where
  abbrev whole : Area
  whole = area width height beyond cells

  abbrev part : Area
  part = area width (height - start) beyond cells

  -- a place of the whole, counted from the part's first
  place_from_part : (row col : ℕ) → start ≤ row → row * width + col ≡ length p + ((row - start) * width + col)
  place_from_part row col l = let e : start * width + (row - start) * width ≡ row * width = sym (add-mul start (row - start) width)
      ∙ ap (λ n. n * width) (let g : start + (row - start) ≡ row = omega arith in g) in omega arith

  same_level : (y x : ℕ) → start + 3 ≤ y → level_at whole (p ++ q) y x ≡ level_at part q (y - start) x
  unfolding level_at within
  same_level y x l = go (dec_lt y (height + 3)) (leb 3 x && ltb x (width + 3))
    where
      go : Dec (y < height + 3) → (b : Bool)
          → cond ((leb 3 y && ltb y (height + 3)) && b) (get_or (p ++ q) ((y - 3) * width + (x - 3)) 0) beyond
          ≡ cond ((leb 3 (y - start) && ltb (y - start) (height - start + 3)) && b)
          (get_or q ((y - start - 3) * width + (x - 3)) 0) beyond
      go (yes h) b =
          rw (
            le-leb 3 y (omega arith),
            lt-ltb y (height + 3) h,
            le-leb 3 (y - start) (omega arith),
            lt-ltb (y - start) (height - start + 3) (omega arith),
          )
          (ap (λ v. cond b v beyond)
          (ap (λ n. get_or (p ++ q) n 0) (place_from_part (y - 3) (x - 3) (omega arith))
          ∙ get_or-append-add p q ((y - 3 - start) * width + (x - 3)) 0
          ∙ ap (λ n. get_or q (n * width + (x - 3)) 0) (let e : y - 3 - start ≡ y - start - 3 = omega arith in e)))
      go (no n) b =
          rw (
            le-leb 3 y (omega arith),
            le-ltb y (height + 3) (omega arith),
            le-leb 3 (y - start) (omega arith),
            le-ltb (y - start) (height - start + 3) (omega arith),
          )

  module _ (row : ℕ) (below : start ≤ row) where
    same_partner : (col k : ℕ) → (cell_number cells k ≢ 0 → start + 3 ≤ row + k / 7)
        → partner whole (p ++ q) row col k ≡ partner part q (row - start) col k
    unfolding partner
    same_partner col k met = go (ℕ_discrete (cell_number cells k) 0)
      where
        go : Dec (cell_number cells k ≡ 0)
            → cond (eqb (cell_number cells k) 0) none (level_at whole (p ++ q) (row + k / 7) (col + k % 7))
            ≡ cond (eqb (cell_number cells k) 0) none (level_at part q (row - start + k / 7) (col + k % 7))
        go (yes z) = rw (eq-eqb (cell_number cells k) 0 z)
        go (no n) =
            rw (ne_eqb (cell_number cells k) 0 n)
            (same_level (row + k / 7) (col + k % 7) (met n)
            ∙ ap (λ y. level_at part q y (col + k % 7)) (let e : row + k / 7 - start ≡ row - start + k / 7 = omega arith in e))

    same_point : (upward : Bool) (col : ℕ)
        → ((i : ℕ) → first_met upward ≤ i → i < first_met upward + 24 → cell_number cells i ≢ 0 → start + 3 ≤ row + i / 7)
        → point_rule whole upward row (p ++ q) col ≡ p ++ point_rule part upward (row - start) q col
    unfolding point_rule lowered
    same_point upward col met =
        ap₂ (λ n v. set (p ++ q) n v) (place_from_part row col below)
        (ap₂ (λ a b. min a (more b))
        (ap (λ n. get_or (p ++ q) n 0) (place_from_part row col below) ∙ get_or-append-add p q ((row - start) * width + col) 0)
        (least_as whole part (p ++ q) q row (row - start) col (first_met upward) 24 (λ k a b. same_partner col k (met k a b))))
        ∙ set-append p q ((row - start) * width + col) (lowered part upward q (row - start) col)

module _ (width height beyond : ℕ) (cells : List (List ℕ)) (upward : Bool) (start row : ℕ) (below : start ≤ row)
    (met : (i : ℕ) → first_met upward ≤ i → i < first_met upward + 24 → cell_number cells i ≢ 0 → start + 3 ≤ row + i / 7)
    (p q : List ℕ) (front : length p ≡ start * width) where
  same_columns : (t : ℕ) → columns (area width height beyond cells) upward row t (p ++ q)
      ≡ p ++ columns (area width (height - start) beyond cells) upward (row - start) t q
  unfolding columns
  same_columns zero = refl
  same_columns (suc t) =
      ap (λ l. point_rule (area width height beyond cells) upward row l (place upward width t)) (same_columns t)
      ∙ same_point width height beyond cells start p
      (columns (area width (height - start) beyond cells) upward (row - start) t q) front row below upward (place upward width t)
      met

  -- THE WINDOW LAW
  pub row_in_part : row_rule (area width height beyond cells) upward row (p ++ q)
      ≡ p ++ row_rule (area width (height - start) beyond cells) upward (row - start) q
  unfolding row_rule
  row_in_part = same_columns width

-- a part that begins at a row is in the levels, and is an area of the rows from there on
module _ (width height start : ℕ) (levels : List ℕ) (lent : Lent width height levels) (above : start < height) where
  pub start_place : start * width ≤ length levels
  start_place = let h : start * width ≤ height * width = mul-le-mul_right width (let l : start ≤ height = omega arith in l) in
      let s = lent.size in omega arith

  pub part_size : length (take (length levels - start * width) (drop (start * width) levels)) ≡ (height - start) * width
  part_size =
      let e : start * width + (height - start) * width ≡ height * width = sym (add-mul start (height - start) width)
      ∙ ap (λ n. n * width) (let g : start + (height - start) ≡ height = omega arith in g) in
      let s = lent.size in
      let d = length-drop (start * width) levels in
      let t = length-take (length levels - start * width) (drop (start * width) levels) in
      omega arith

-- the whole, as what stands before the part and the part
module _ (width height beyond : ℕ) (cells : List (List ℕ)) (upward : Bool) (start row : ℕ) (levels : List ℕ)
    (lent : Lent width height levels) (below : start ≤ row) (inside : row < height) (holds : Within upward start row cells) where
  pub row_of_part : row_rule (area width height beyond cells) upward row levels ≡ take (start * width) levels ++
      row_rule (area width (height - start) beyond cells) upward (row - start) (drop (start * width) levels)
  row_of_part = go (ℕ_discrete start 0)
    where
      first : ℕ → List ℕ
      first n = take (n * width) levels ++
          row_rule (area width (height - n) beyond cells) upward (row - n) (drop (n * width) levels)

      none_before : row_rule (area width height beyond cells) upward row levels ≡ first 0
      none_before =
          let e : ◌≡◌ {A = ℕ} (0 * width) 0 = zero-mul width in
          let h : height - 0 ≡ height = omega arith in
          let r : row - 0 ≡ row = omega arith in
          rw (e, h, r)

      go : Dec (start ≡ 0) → row_rule (area width height beyond cells) upward row levels ≡ first start
      go (yes z) = rw z none_before
      go (no n) =
          ap (row_rule (area width height beyond cells) upward row) (sym (take-append-drop (start * width) levels))
          ∙ row_in_part width height beyond cells upward start row below (λ i a b c. later (holds.met i a b c))
          (take (start * width) levels) (drop (start * width) levels)
          (length-take-le (start * width) levels (start_place width height start levels lent (omega arith)))
        where
          later : {m : ℕ} → (start ≡ 0) ⊎ (start + 3 ≤ m) → start + 3 ≤ m
          later (inl z) = absurd (n z)
          later (inr l) = l

-- going up, every partner met is in the part that begins at the row
pub up_within : (row : ℕ) (cells : List (List ℕ)) → Within true row row cells
unfolding first_met
up_within row cells = record { met = λ k a b c. inr (omega arith) }

-- and going down, in the part that begins `reach` rows before it, or at the first row
pub down_within : (reach row : ℕ) (cells : List (List ℕ)) → Reaches reach cells → Within false (row - min row reach) row cells
unfolding first_met
down_within reach row cells r = record { met = λ k a b c. go k (r.above k (omega arith) c) (dec_lt row reach) }
  where
    go : (k : ℕ) → 3 ≤ k / 7 + reach → Dec (row < reach) → (row - min row reach ≡ 0) ⊎ (row - min row reach + 3 ≤ row + k / 7)
    go k h (yes l) = inl (omega arith)
    go k h (no n) = inr (omega arith)

-- what was lent from a place on comes back in its place
module _ (at : ℕ) (levels : List ℕ) where
  put_back : (after : List ℕ) → put_mid at (length levels - at) levels after ≡ take at levels ++ after
  put_back after =
      let nothing : drop (length levels - at) (drop at levels) ≡ [] =
      drop_of_length-le (drop at levels) {i = length levels - at} (let d = length-drop at levels in omega arith) in
      rw (nothing, append-nil)

  all_after : take (length levels - at) (drop at levels) ≡ drop at levels
  all_after = take_all (length levels - at) (drop at levels) (let d = length-drop at levels in omega arith)

  pub lent_part : (after : List ℕ) (f : List ℕ → List ℕ) → after ≡ f (take (length levels - at) (drop at levels))
      → put_mid at (length levels - at) levels after ≡ take at levels ++ f (drop at levels)
  lent_part after f e = put_back after ∙ rw (e, all_after)

  -- and what was lowered there was lowered in the whole
  pub lent_lowered : (after : List ℕ)
      → points_lowered (take (length levels - at) (drop at levels)) after
      ≡ points_lowered levels (put_mid at (length levels - at) levels after)
  lent_lowered after =
      rw (all_after, put_back after)
      (sym (lowered_behind (take at levels) (drop at levels) after)
      ∙ ap (λ l. points_lowered l (take at levels ++ after)) (take-append-drop at levels))
