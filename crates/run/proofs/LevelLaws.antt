-- What the tests on one number decide: a pixel that is 1, a level as it is read, a level that is held.
use Prim.Native.Nat.{ℕ, suc, ◌+◌, ◌-◌, ◌≤◌, ◌<◌, min}
use native.Mathlib.Decide.{dec_lt}
use native.Mathlib.Nat.{sub-zero}
use native.Mathlib.Omega.{arith}
use mathlib.Core.Path.{◌≡◌, refl, sym, ◌∙◌}
use mathlib.Core.Bool.{Bool, true, false, cond, ◌&&◌, ◌||◌}
use mathlib.Core.Logic.{◌≢◌, ◌↔◌}
use lib.Dec.{eqb, leb, ltb}
use mir.Val.{bool_byte}
use borrow.Author.Tests.{lt-ltb, le-ltb, le-leb, lt-leb, leb-true, leb-false, eq-eqb, ne_eqb}
use Rattle.basics.proofs.BoundLaws.{both}
use Rattle.row.specs.RowRule.{none}
use Rattle.run.specs.declared.kinds.Reading.{Reading}
use Rattle.run.specs.Kinds.{cropped_level}
use Rattle.run.specs.Patches.{read_as, held_between}

-- a level as it is read
module _ (reading : Reading) (level : ℕ) where
  pub read_above : level ≤ none → reading.limit < level → reading.other ≡ read_as reading level
  unfolding read_as
  read_above small l = rw (ne_eqb reading.limit none (λ e. omega arith), lt-leb level reading.limit l)

  pub read_within : level ≤ reading.limit → level - reading.less ≡ read_as reading level
  unfolding read_as
  read_within l = rw (le-leb level reading.limit l) (go (eqb reading.limit none))
    where
      go : (t : Bool) → level - reading.less ≡ cond (t || true) (level - reading.less) reading.other
      go true = refl
      go false = refl

-- a level from 1 to n + 1, as a test
pub range_iff : (n level : ℕ) → ((0 < level) × (level ≤ suc n)) ↔ (leb 1 level && leb level (suc n) ≡ true)
range_iff n level = (
  (λ h. rw (le-leb 1 level h.0, le-leb level (suc n) h.1)),
  (λ h. let (some, most) = both (leb 1 level) (leb level (suc n)) h in (leb-true 1 level some, leb-true level (suc n) most)),
)

-- a crop's level is collected above n where it is above n + 1; sizes above the cap hold what the cap holds
pub cropped_above : (R n level : ℕ) → R ≤ 2047 → n ≤ 4096 → ltb (min n R + 1) level ≡ ltb n (cropped_level R level)
cropped_above R n level small l = go (leb level (suc R)) refl
  where
    within : level ≤ suc R → Dec (min n R + 1 < level) → ltb (min n R + 1) level ≡ ltb n (level - 1)
    within m (yes a) = lt-ltb (min n R + 1) level a ∙ sym (lt-ltb n (level - 1) (omega arith))
    within m (no a) = le-ltb (min n R + 1) level (omega arith) ∙ sym (le-ltb n (level - 1) (omega arith))

    go : (t : Bool) → leb level (suc R) ≡ t → ltb (min n R + 1) level ≡ ltb n (cond t (level - 1) none)
    go true e = within (leb-true level (suc R) e) (dec_lt (min n R + 1) level)
    go false e =
        let m = leb-false level (suc R) e in
        lt-ltb (min n R + 1) level (omega arith) ∙ sym (lt-ltb n none (omega arith))

-- with no limit and none less, a level is read as it stands
pub read_stands : (reading : Reading) (level : ℕ) → reading.limit ≡ none → reading.less ≡ 0 → read_as reading level ≡ level
unfolding read_as
read_stands reading level p q = rw (p, q) (sub-zero level)

pub read_same : (other level : ℕ) → read_as (record { limit = none; less = 0; other = other }) level ≡ level
read_same other level = read_stands (record { limit = none; less = 0; other = other }) level refl refl

-- a test as a byte
pub held_byte : (t : Bool) → bool_byte t ≡ cond t 1 0
held_byte true = refl
held_byte false = refl

module _ (low high level : ℕ) where
  pub held_low : level ≤ low → 0 ≡ held_between low high level
  unfolding held_between
  held_low l = rw (le-ltb low level l) (go (eqb high none || leb level high))
    where
      go : (t : Bool) → ◌≡◌ {A = ℕ} 0 (cond (t && false) 1 0)
      go true = refl
      go false = refl

  pub held_high : level ≤ none → high < level → 0 ≡ held_between low high level
  unfolding held_between
  held_high small l = rw (ne_eqb high none (λ e. omega arith), lt-leb level high l)

  pub held_in : low < level → level ≤ high → 1 ≡ held_between low high level
  unfolding held_between
  held_in a b = rw (lt-ltb low level a, le-leb level high b) (go (eqb high none))
    where
      go : (t : Bool) → ◌≡◌ {A = ℕ} 1 (cond ((t || true) && true) 1 0)
      go true = refl
      go false = refl

  pub held_binary : held_between low high level ≤ 1
  unfolding held_between
  held_binary = go ((eqb high none || leb level high) && ltb low level)
    where
      go : (t : Bool) → cond t 1 0 ≤ 1
      go true = omega arith
      go false = omega arith
