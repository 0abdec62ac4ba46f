-- Entries above a limit: what a loop over the list learns at each place, and what having none above means.
use Prim.Native.Nat.{ℕ, zero, suc, ◌+◌, ◌≤◌, ◌<◌}
use native.Mathlib.Numerals.{add-one}
use native.Mathlib.Decide.{dec_lt}
use native.Mathlib.Omega.{arith}
use mathlib.Core.Path.{◌≡◌, refl, sym, ap, ◌∙◌}
use mathlib.Core.Bool.{Bool, true, false, ◌&&◌, ◌||◌, true≢false, false≢true}
use mathlib.Core.List.{List, [], ◌∷◌}
use lib.Dec.{ltb}
use lib.ListN.{length, get_or, drop, drop_of_length-le}
use lib.Seq.{drop-cons}
use Rattle.std.specs.Prelude.{IsTrue, Any, ◌↔◌}
use Rattle.std.specs.List.{list_any}
use Rattle.std.proofs.lemmas.List.{get_or_default}
use Rattle.std.proofs.lemmas.List.Folds.{list_any_at}
use borrow.Author.Tests.{lt-ltb, le-ltb, ltb-false}
use Rattle.basics.specs.Bounds.{any_above}

-- where both of two hold, each does; where neither holds, each does not
pub both : (a b : Bool) → a && b ≡ true → (a ≡ true) × (b ≡ true)
both true b e = (refl, e)
both false b e = absurd (true≢false (sym e))

pub neither : (a b : Bool) → a || b ≡ false → (a ≡ false) × (b ≡ false)
neither false b e = (refl, e)
neither true b e = absurd (true≢false e)

-- what is left from a place on: its first entry, and the rest
module _ (limit : ℕ) (entries : List ℕ) (i : ℕ) where
  pub above_next : i < length entries
      → any_above limit (drop i entries) ≡ ltb limit (get_or entries i 0) || any_above limit (drop (i + 1) entries)
  unfolding any_above
  above_next l = rw (add-one, drop-cons entries i 0)

  pub above_found : i < length entries → limit < get_or entries i 0 → any_above limit (drop i entries) ≡ true
  above_found l h = above_next l ∙ rw (lt-ltb limit (get_or entries i 0) h)

  pub above_passed : i < length entries → get_or entries i 0 ≤ limit
      → any_above limit (drop i entries) ≡ any_above limit (drop (i + 1) entries)
  above_passed l h = above_next l ∙ rw (le-ltb limit (get_or entries i 0) h)

  pub above_end : length entries ≤ i → any_above limit (drop i entries) ≡ false
  unfolding any_above
  above_end l = rw (drop_of_length-le entries l)

-- none is above exactly where each is within
pub all_within : (limit : ℕ) (entries : List ℕ) (i : ℕ) → any_above limit entries ≡ false → i < length entries
    → get_or entries i 0 ≤ limit
unfolding any_above
all_within limit [] i e h = absurd (omega arith)
all_within limit (x ∷ rest) zero e h = ltb-false limit x (neither (ltb limit x) (any_above limit rest) e).0
all_within limit (x ∷ rest) (suc i) e h =
    all_within limit rest i (neither (ltb limit x) (any_above limit rest) e).1 (omega arith)

pub none_above : (limit : ℕ) (entries : List ℕ) → ((i : ℕ) → i < length entries → get_or entries i 0 ≤ limit)
    → any_above limit entries ≡ false
unfolding any_above
none_above limit [] h = refl
none_above limit (x ∷ rest) h =
    rw (le-ltb limit x (h zero (omega arith))) (none_above limit rest (λ i l. h (suc i) (omega arith)))

-- a test finds an entry above the limit exactly where there is one
above_is : (limit : ℕ) (entries : List ℕ) → list_any (ltb limit) entries ≡ any_above limit entries
unfolding any_above
above_is limit [] = refl
above_is limit (x ∷ rest) = ap (λ b. ltb limit x || b) (above_is limit rest)

pub above_from_any : (limit : ℕ) (entries : List ℕ) (found : Bool) → (IsTrue found ↔ Any (λ entry. limit < entry) entries)
    → found ≡ any_above limit entries
above_from_any limit entries true h =
    let a : Any (λ entry. limit < entry) entries = h.0 refl in
    sym (list_any_at (ltb limit) entries a.0 a.1 a.2 (lt-ltb limit (get_or entries a.0 a.1) (rw a.3 a.4))) ∙ above_is limit entries
above_from_any limit entries false h = sym (none_above limit entries within)
  where
    within : (i : ℕ) → i < length entries → get_or entries i 0 ≤ limit
    within i l = go (dec_lt limit (get_or entries i 0))
      where
        go : Dec (limit < get_or entries i 0) → get_or entries i 0 ≤ limit
        go (yes a) = absurd (false≢true (h.1 (i, get_or entries i 0, l, get_or_default entries i _ _ l, a)))
        go (no n) = omega arith
