-- The own row, column by column: the columns worked at different turns are different, so that a level worked stays as it is, and
-- three of them can be kept in locals.
use Prim.Native.Nat.{ℕ, zero, suc, ◌+◌, ◌-◌, ◌≤◌, ◌<◌, min}
use native.Mathlib.Numerals.{add-one}
use native.Mathlib.Omega.{arith}
use mathlib.Core.Bool.{Bool, true, false}
use mathlib.Core.Logic.{⊎_elim}
use mathlib.Core.List.{List}
use mathlib.Core.Path.{◌≡◌, refl, sym, ◌∙◌}
use lib.ListN.{length, get_or, set, length-set}
use lib.Seq.{get_or-set_same, get_or-set_other, set-get_or}
use borrow.Author.Tests.{le-leb, lt-leb}
use Rattle.row.specs.RowRule.{none, more, place}
use Rattle.row.specs.Passes.{level_back, picked, nearest, step, Lowest, TwoLowest, own_point, own_columns}
use Rattle.row.proofs.Pass.{ordered, more_least}

pub place_below : (upward : Bool) (width t : ℕ) → t < width → place upward width t < width
unfolding place
place_below false width t h = h
place_below true width t h = omega arith

pub place_apart : (upward : Bool) (width s t : ℕ) → s < width → t < width → (s ≡ t → ⊥)
    → place upward width s ≡ place upward width t → ⊥
unfolding place
place_apart false width s t h k apart q = apart q
place_apart true width s t h k apart q = apart (omega arith)

pub place_back : (upward : Bool) (width t : ℕ) → t < width → place upward width (place upward width t) ≡ t
unfolding place
place_back false width t h = refl
place_back true width t h = omega arith

-- a level lowered by three steps is lowered by one more than the least of the partners
by_step : (is_set : Bool) (level partner : ℕ) → level ≤ none → min level (partner + step is_set) ≡ min level (more (picked is_set partner))
unfolding step picked
by_step true level partner small = omega arith
by_step false level partner small = omega arith

least_both : (level a b c d : ℕ) → min level a ≡ min level c → min level b ≡ min level d → min level (min a b) ≡ min level (min c d)
least_both level a b c d p q = apart level a b ∙ rw (p, q) (sym (apart level c d))
  where
    apart : (x y z : ℕ) → min x (min y z) ≡ min (min x y) (min x z)
    apart x y z = omega arith

by_steps : (one two three : Bool) (level near middle far : ℕ) → level ≤ none →
    min level (min (near + step one) (min (middle + step two) (far + step three)))
    ≡ min level (more (nearest one two three near middle far))
by_steps one two three level near middle far small =
    least_both level _ _ _ _ (by_step one level near small)
    (least_both level _ _ _ _ (by_step two level middle small) (by_step three level far small))
    ∙ rw (
      more_least (picked one near) (min (picked two middle) (picked three far)),
      more_least (picked two middle) (picked three far),
    )

module _ (upward : Bool) (width beyond : ℕ) where
  back_now : (levels : List ℕ) (t level : ℕ) → t < width → width ≤ length levels →
      level_back upward width beyond (set levels (place upward width t) level) (t + 1) 1 ≡ level
  unfolding level_back
  back_now levels t level h room =
      let q : t + 1 - 1 ≡ t = omega arith in
      let p : 1 ≤ t + 1 = omega arith in
      simp (le-leb _ _ p, q) (get_or-set_same levels (place upward width t) level 0
      (omega (arith, place_below upward width t h)))

  back_next : (levels : List ℕ) (t level d : ℕ) → t < width → 1 ≤ d →
      level_back upward width beyond (set levels (place upward width t) level) (t + 1) (d + 1)
      ≡ level_back upward width beyond levels t d
  unfolding level_back
  back_next levels t level d h back =
      ⊎_elim
      (λ (m : t < d).
      let p : t + 1 < d + 1 = omega arith in
      simp (lt-leb _ _ m, lt-leb _ _ p))
      (λ (m : d ≤ t).
      let p : d + 1 ≤ t + 1 = omega arith in
      let q : t + 1 - (d + 1) ≡ t - d = omega arith in
      let apart : place upward width (t - d) ≡ place upward width t → ⊥ =
      place_apart upward width (t - d) t (omega arith) h (λ z. omega arith) in
      simp (
        le-leb _ _ m,
        le-leb _ _ p,
        q,
      ) (get_or-set_other levels (place upward width t) (place upward width (t - d)) level 0 apart))
      (ordered t d)

  -- after t turns, with the three levels worked last in locals
  pub record Kept (one two three : Bool) (t near middle far : ℕ) (entry levels : List ℕ) : Type 0 where
    pub near_is : near ≡ level_back upward width beyond levels t 1
    pub middle_is : middle ≡ level_back upward width beyond levels t 2
    pub far_is : far ≡ level_back upward width beyond levels t 3
    pub small : near ≤ none
    pub so_far : levels ≡ own_columns upward width one two three beyond t entry

  pub kept_start : (one two three : Bool) (entry : List ℕ) → beyond ≤ none → Kept one two three 0 beyond beyond beyond entry entry
  unfolding level_back own_columns
  kept_start one two three entry small =
      record { near_is = refl; middle_is = refl; far_is = refl; small = small; so_far = refl }

  pub kept_turn : (one two three : Bool) (t near middle far level : ℕ) (entry levels after : List ℕ) → t < width
      → width ≤ length levels →
      Kept one two three t near middle far entry levels →
      Lowest levels after (place upward width t) (near + step one) (middle + step two) (far + step three) level →
      Kept one two three (t + 1) level near middle entry after
  unfolding own_columns own_point
  kept_turn one two three t near middle far level entry levels after turn room K L =
      let at : ℕ = place upward width t in
      let low : level ≡ min (get_or levels at 0) (more (nearest one two three near middle far)) = L.value
      ∙ by_steps one two three (get_or levels at 0) near middle far L.small in
      record {
        near_is = rw L.stored (sym (back_now levels t level turn room));
        middle_is = rw L.stored (K.near_is ∙ sym (back_next levels t level 1 turn (omega arith)));
        far_is = rw L.stored (K.middle_is ∙ sym (back_next levels t level 2 turn (omega arith)));
        small = omega (arith, L.small);
        so_far = rw (add-one, ← K.so_far, ← K.near_is, ← K.middle_is, ← K.far_is, L.stored, low);
      }

  -- where the nearest cell alone is set one local is enough: what the others would be does not matter
  abbrev pub Near : ℕ → ℕ → List ℕ → List ℕ → Type 0
  Near t near entry levels =
      Kept true false false t near (level_back upward width beyond levels t 2) (level_back upward width beyond levels t 3) entry levels

  pub near_start : (entry : List ℕ) → beyond ≤ none → Near 0 beyond entry entry
  unfolding level_back
  near_start entry small = kept_start true false false entry small

  alone : (x near middle far : ℕ) → x ≤ none
      → min x (min (near + 1) (min none none)) ≡ min x (min (near + step true) (min (middle + step false) (far + step false)))
  unfolding step
  alone x near middle far small = omega arith

  pub near_turn : (t near level : ℕ) (entry levels after : List ℕ) → t < width → width ≤ length levels → Near t near entry levels
      → Lowest levels after (place upward width t) (near + 1) none none level → Near (t + 1) level entry after
  near_turn t near level entry levels after turn room N L =
      let K = kept_turn true false false t near _ _ level entry levels after turn room N
      (record { small = L.small; value = L.value ∙ alone _ near _ _ L.small; stored = L.stored }) in
      record { near_is = K.near_is; middle_is = refl; far_is = refl; small = K.small; so_far = K.so_far }

  -- two turns of it
  pub near_two : (t near level : ℕ) (entry levels after : List ℕ) → t + 1 < width → width ≤ length levels → Near t near entry levels
      → TwoLowest levels after (place upward width t) (place upward width (t + 1)) near level → Near (t + 2) level entry after
  near_two t near level entry levels after turn room N L =
      let once : Near (t + 1) L.middle entry L.between =
      near_turn t near L.middle entry levels L.between (omega arith) room N L.one in
      let same : length L.between ≡ length levels = rw L.one.stored (length-set levels _ _) in
      let q : t + 1 + 1 ≡ t + 2 = omega arith in
      rw q at (near_turn (t + 1) L.middle level entry L.between after turn (omega arith) once L.two)

  -- where none of the three cells is set, nothing changes
  pub own_unset : (t : ℕ) (levels : List ℕ) → ((i : ℕ) → get_or levels i 0 < 65536)
      → own_columns upward width false false false beyond t levels ≡ levels
  unfolding own_columns own_point picked
  own_unset zero levels small = refl
  own_unset (suc t) levels small =
      let at : ℕ = place upward width t in
      let q : min (get_or levels at 0) none ≡ get_or levels at 0 = omega (arith, small at) in
      rw (own_unset t levels small, q) (set-get_or levels at 0)
