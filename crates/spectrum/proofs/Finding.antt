-- What is found at a size, counted: the points whose level is above it. From the highest level of the first run on there is none.
use Prim.Native.Nat.{ℕ, ◌+◌, ◌-◌, ◌*◌, ◌≤◌, ◌<◌}
use native.Mathlib.Omega.{arith}
use mathlib.Core.Path.{◌≡◌, refl, sym, ap, ◌∙◌, subst}
use mathlib.Core.Bool.{false, cond}
use mathlib.Core.List.{List}
use lib.Dec.{ltb}
use lib.IntN.{pos}
use lib.ListN.{length, get_or, set, length-set}
use borrow.Author.Tests.{lt-ltb, ltb-true, le-ltb}
use native.Mathlib.Decide.{dec_lt}
use Rattle.basics.specs.Limits.{largest_size}
use Rattle.basics.specs.Sums.{sum, points_where}
use Rattle.basics.proofs.SumLaws.{sum_same, sum_less, sum_const, points_same, points_none}
use Rattle.basics.specs.Tables.{table}
use Rattle.basics.proofs.TableLaws.{length-table, get_or-table, Filling, filling_start, filling_turn, filling_end}
use Rattle.grid.specs.Points.{at}
use Rattle.grid.proofs.LevelLaws.{opening_iff}
use Rattle.run.specs.declared.Record.{Record}
use Rattle.run.specs.declared.kinds.Bounds.{Bounds}
use Rattle.run.specs.declared.records.Frame.{Frame}
use Rattle.run.specs.Records.{frame_of}
use Rattle.run.specs.Patches.{held_between, level_in}
use Rattle.run.specs.Pictures.{frame_level}
use Rattle.filters.specs.Filters.{foreground_of, element_of}
use Rattle.filters.specs.Back.{is_found, Highest, Ready, HoldsAfter}
use Rattle.run.proofs.LevelLaws.{held_binary}
use Rattle.filters.specs.Plans.{FindsSize}
use Rattle.filters.proofs.FirstRuns.{opening_small, opening_below}
use Rattle.spectrum.specs.Counting.{opening, HasLevels, CountsAbove, FillsTable}
use Rattle.spectrum.proofs.LevelCounts.{same_test, points_of, points_from, from_none, from_split, from_next}

-- of a row no more than all levels are held
pub row_most : (low high n : ℕ) (level : ℕ → ℕ) → sum n (λ i. held_between low high (level i)) ≤ n
row_most low high n level =
    let s = sum_less n (λ i. held_between low high (level i)) (λ _. 1) (λ i _. held_binary low high (level i)) in
    let e = sum_const n 1 in
    omega arith

-- counted in a row's levels, which are so many of f
pub row_counted : (low high : ℕ) (f : ℕ → ℕ) (n : ℕ) {row : List ℕ} {count : ℕ}
    → count ≡ sum (length row) (λ i. held_between low high (get_or row i 0)) → row ≡ table n f
    → count ≡ sum n (λ i. held_between low high (f i))
row_counted low high f n e r =
    (rw (r, length-table f n) at e)
    ∙ sum_same n (λ i. held_between low high (get_or (table n f) i 0)) (λ i. held_between low high (f i))
    (λ i l. ap (held_between low high) (get_or-table f n i 0 l))

-- counted between the bounds of what is held after the way back
pub found_counted : (r : Record) (n : ℕ) (second : List ℕ) {frame : Frame} → frame ≡ frame_of r → (bounds : Bounds)
    → HoldsAfter r n bounds → {count : ℕ}
    → count ≡ sum frame.height (λ row. sum frame.width
    (λ col. held_between bounds.low bounds.high (level_in frame.width frame.margin second row col)))
    → count ≡ points_where r.width r.height (is_found r second n)
unfolding points_where
found_counted r n second q bounds p e =
    (rw q at e)
    ∙ sum_same r.height
    (λ row. sum r.width (λ col. held_between bounds.low bounds.high (frame_level r second row col)))
    (λ row. sum r.width (λ col. cond (is_found r second n row col) 1 0))
    (λ row _. sum_same r.width (λ col. held_between bounds.low bounds.high (frame_level r second row col))
    (λ col. cond (is_found r second n row col) 1 0) (λ col _. p (frame_level r second row col)))

module _ {r : Record} {first : List ℕ} where
  -- a size that finds something
  pub above_found : {n : ℕ} → n ≤ largest_size → (second : List ℕ) → FindsSize r first n second → {count : ℕ}
      → count ≡ points_where r.width r.height (is_found r second n) → CountsAbove r first n count
  above_found {n} l second finds e given =
      e ∙ points_same r.width r.height (is_found r second n) (λ row col. ltb n (given.level row col))
      (λ row col a b.
      let f = finds given.input given.sheet given.bytes opening given.run l row col a b in
      let i = opening_iff (foreground_of given.input given.sheet) (element_of given.input given.bytes)
      (at (pos row) (pos col)) (given.is_level row col a b) n in
      same_test (is_found r second n row col) (ltb n (given.level row col))
      ((λ t. lt-ltb n (given.level row col) (i.0 (f.1 t))), (λ t. f.0 (i.1 (ltb-true n (given.level row col) t)))))

  -- a size from the highest level on
  pub above_none : {most n : ℕ} → Highest first (length first) most → most ≤ n → CountsAbove r first n 0
  above_none {most} {n} h l given =
      sym (points_none r.width r.height (λ row col. ltb n (given.level row col)) (λ row col a b.
      le-ltb n (given.level row col) (go row col a b (dec_lt n (given.level row col)))))
    where
      Bounds : List ℕ → Type 0
      Bounds levels = (k : ℕ) → k < length levels → get_or levels k 0 ≤ most

      go : (row col : ℕ) → row < r.height → col < r.width → Dec (n < given.level row col) → given.level row col ≤ n
      go row col a b (no f) = omega arith
      go row col a b (yes q) =
          let i = opening_iff (foreground_of given.input given.sheet) (element_of given.input given.bytes)
          (at (pos row) (pos col)) (given.is_level row col a b) n in
          let s = opening_below given.input given.sheet given.bytes first 0 false given.run.started most
          (subst Bounds given.run.levels_are h.all) n (at (pos row) (pos col)) (i.1 q) in
          absurd (omega arith)

-- no size is too large to be looked for
pub most_small : {r : Record} {first : List ℕ} {most : ℕ} → HasLevels r first → Highest first (length first) most → most ≤ largest_size
most_small {first = first} given h =
    h.least largest_size (subst (λ levels. (k : ℕ) → k < length levels → get_or levels k 0 ≤ largest_size)
    (sym given.run.levels_are) (opening_small given.input given.sheet given.bytes first 0 false given.run.started))

-- the table, entry by entry
pub record TableSteps (r : Record) (first : List ℕ) (entries n points : ℕ) (second counts : List ℕ) : Type 0 where
  pub given : Ready r first second
  pub size : length counts ≡ entries
  pub below : n ≤ entries
  pub left : (known : HasLevels r first) → points ≡ points_from r.width r.height known.level n
  pub front : (known : HasLevels r first) → Filling entries (points_of r.width r.height known.level) n counts

pub tables_start : {r : Record} {first second counts : List ℕ} {points : ℕ} → Ready r first second
    → points ≡ r.height * r.width → TableSteps r first (length counts) 0 points second counts
tables_start {r} {counts = counts} g e = record {
  given = g;
  size = refl;
  below = omega arith;
  left = λ known. e ∙ sym (from_none r.width r.height known.level);
  front = λ known. filling_start _ (points_of r.width r.height known.level) counts refl;
}

module _ {r : Record} {first : List ℕ} {entries n points : ℕ} {second counts : List ℕ}
    (P : TableSteps r first entries n points second counts) {above : ℕ} (counted : CountsAbove r first n above) where
  pub fewer : HasLevels r first → above ≤ points
  fewer known =
      let w = r.width in let h = r.height in
      let p = P.left known in let s = from_split w h known.level n in let q = counted known in omega arith

  pub tables_turn : HasLevels r first → n < entries → {next : List ℕ} → length next ≡ length second
      → TableSteps r first entries (n + 1) above next (set counts n (points - above))
  tables_turn known l {next} s = record {
    given = record { taken = P.given.taken; first_size = P.given.first_size; second_size = s ∙ P.given.second_size };
    size = length-set counts n (points - above) ∙ P.size;
    below = omega arith;
    left = λ known. counted known ∙ sym (from_next r.width r.height known.level n);
    front = λ known. filling_turn entries (points_of r.width r.height known.level) n counts (points - above) (P.front known) l
        (let p = P.left known in let s = from_split r.width r.height known.level n in let q = counted known in
        let e : points - above ≡ points_of r.width r.height known.level n = omega arith in e);
  }

pub tables_end : {r : Record} {first : List ℕ} {entries n points : ℕ} {second counts : List ℕ}
    → TableSteps r first entries n points second counts → entries ≤ n → FillsTable r first entries counts
tables_end {r} {n = n} {counts = counts} P l known =
    filling_end _ (points_of r.width r.height known.level) n counts (P.front known) l
