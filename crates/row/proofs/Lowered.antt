-- The laws of counting the points lowered, by induction on the levels: none where nothing changed, at most as many as there are,
-- what both have in front does not count, and a store counts once where it lowers.
use Prim.Native.Nat.{ℕ, zero, suc, ◌+◌, ◌≤◌, ◌<◌}
use native.Mathlib.Nat.{zero-add}
use native.Mathlib.Omega.{arith}
use mathlib.Core.Bool.{Bool, true, false, cond}
use mathlib.Core.List.{List, [], ◌∷◌, ◌++◌}
use mathlib.Core.Path.{◌≡◌, refl, sym, ap, ◌∙◌}
use lib.Dec.{ltb}
use lib.ListN.{length, get_or, set, take}
use borrow.Rule.Slice.PartMut.{mid_of, post_of, put_mid, put_same}
use borrow.Author.Tests.{le-ltb}
use Rattle.row.specs.RowRule.{points_lowered}

not_below : (level : ℕ) → ltb level level ≡ false
not_below level = le-ltb level level (omega arith)

pub lowered_same : (levels : List ℕ) → points_lowered levels levels ≡ 0
unfolding points_lowered
lowered_same [] = refl
lowered_same (level ∷ levels) = rw (not_below level, lowered_same levels)

pub lowered_most : (before after : List ℕ) → points_lowered before after ≤ length before
unfolding points_lowered
lowered_most [] after = omega arith
lowered_most (level ∷ before) [] = omega arith
lowered_most (level ∷ before) (lower ∷ after) = one (ltb lower level) (lowered_most before after)
  where
    one : (t : Bool) → points_lowered before after ≤ length before
        → cond t 1 0 + points_lowered before after ≤ length (level ∷ before)
    one true h = omega arith
    one false h = omega arith

pub lowered_behind : (front before after : List ℕ) → points_lowered (front ++ before) (front ++ after) ≡ points_lowered before after
unfolding points_lowered
lowered_behind [] before after = refl
lowered_behind (level ∷ front) before after = rw (not_below level, lowered_behind front before after) (zero-add _)

pub lowered_before : (before after rest : List ℕ) → length before ≡ length after
    → points_lowered (before ++ rest) (after ++ rest) ≡ points_lowered before after
unfolding points_lowered
lowered_before [] [] rest same = lowered_same rest
lowered_before [] (lower ∷ after) rest same = absurd (omega arith)
lowered_before (level ∷ before) [] rest same = absurd (omega arith)
lowered_before (level ∷ before) (lower ∷ after) rest same = rw (lowered_before before after rest (omega arith))

-- where a part was lent, the levels lowered are those of the part
pub lowered_part : (at n : ℕ) (levels part : List ℕ) → length (mid_of at n levels) ≡ length part
    → points_lowered levels (put_mid at n levels part) ≡ points_lowered (mid_of at n levels) part
lowered_part at n levels part long =
    ap (λ (x : List ℕ). points_lowered x (put_mid at n levels part)) (sym (put_same at n levels))
    ∙ lowered_behind (take at levels) (mid_of at n levels ++ post_of at n levels) (part ++ post_of at n levels)
    ∙ lowered_before (mid_of at n levels) part (post_of at n levels) long

-- a level that stood as before is stored anew
pub lowered_store : (before after : List ℕ) (k level : ℕ) → length after ≡ length before → k < length after
    → get_or after k 0 ≡ get_or before k 0
    → points_lowered before (set after k level) ≡ points_lowered before after + cond (ltb level (get_or before k 0)) 1 0
unfolding points_lowered
lowered_store [] after k level same room stood = absurd (omega arith)
lowered_store (x ∷ before) [] k level same room stood = absurd (omega arith)
lowered_store (x ∷ before) (y ∷ after) zero level same room stood =
    let e : y ≡ x = stood in
    rw (e, not_below x) (swap (cond (ltb level x) 1 0) (points_lowered before after))
  where
    swap : (a b : ℕ) → a + b ≡ 0 + b + a
    swap a b = omega arith
lowered_store (x ∷ before) (y ∷ after) (suc k) level same room stood =
    rw (lowered_store before after k level (omega arith) (omega arith) stood)
    (shift (cond (ltb y x) 1 0) (points_lowered before after) (cond (ltb level (get_or before k 0)) 1 0))
  where
    shift : (a b c : ℕ) → a + (b + c) ≡ a + b + c
    shift a b c = omega arith
