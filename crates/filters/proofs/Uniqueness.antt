-- No second outcome meets any of the four contracts: what is right is one thing.
-- A packed sheet is its own packing, and so fixed by its pixels; levels are fixed since each level is.
use Prim.Native.Nat.{ℕ, ◌+◌, ◌*◌, ◌≤◌, ◌<◌}
use native.Mathlib.Decide.{ℕ_discrete}
use native.Mathlib.Nat.{le_of_eq}
use native.Mathlib.Omega.{arith}
use mathlib.Core.Path.{◌≡◌, refl, sym, ap, ◌∙◌}
use mathlib.Core.Logic.{◌↔◌, inl, inr}
use mathlib.Core.List.{List}
use lib.IntN.{pos}
use lib.ListN.{length, get_or, replicate}
use Rattle.basics.specs.Refusals.{Refusal, first, Answers}
use Rattle.basics.proofs.RefusalLaws.{accepts, answers_unique}
use Rattle.basics.proofs.TableLaws.{raster_is}
use Rattle.grid.specs.Points.{Point, at}
use Rattle.grid.specs.Sets.{PointSet}
use Rattle.grid.specs.Starred.{IsPixel}
use Rattle.grid.proofs.LevelLaws.{last_unique, first_unique}
use Rattle.sheet.specs.Sheets.{pixel, packed}
use Rattle.sheet.proofs.PixelLaws.{pixel_binary, pixel-packed, packed_same}
use Rattle.run.specs.declared.Input.{Input}
use Rattle.filters.specs.Filters.{Buffers, Cleared, IsSheet, AreLevels, Opens, Closes, OpeningLevels, ClosingLevels}
use Rattle.filters.specs.StarredFilters.{Fits, left, Gives}

module _ (width height : ℕ) where
  -- the sheet packed of a set's pixels
  pub packed_sheet : (A : PointSet) (f : ℕ → ℕ → ℕ) (out : List ℕ) → out ≡ packed width height f
      → ((row col : ℕ) → row < height → col < width → f row col ≤ 1)
      → ((row col : ℕ) → row < height → col < width → A (at (pos row) (pos col)) ↔ (f row col ≡ 1)) → IsSheet width height A out
  packed_sheet A f out e small is = record {
    pixels = λ row col a b. let i = is row col a b in let p = own row col a b in ((λ h. i.1 (sym p ∙ h)), (λ h. p ∙ i.0 h));
    padding = e ∙ packed_same width height f (pixel width out) (λ row col a b. sym (own row col a b));
  }
    where
      own : (row col : ℕ) → row < height → col < width → pixel width out row col ≡ f row col
      own row col a b = ap (λ l. pixel width l row col) e ∙ pixel-packed width height f small row col a b

  -- and of pixels that are said point by point
  pub pixels_sheet : (A : PointSet) (f : ℕ → ℕ → ℕ)
      → ((row col : ℕ) → row < height → col < width → IsPixel (A (at (pos row) (pos col))) (f row col))
      → IsSheet width height A (packed width height f)
  pixels_sheet A f h = packed_sheet A f _ refl (λ row col a b. small (h row col a b)) (λ row col a b. is (h row col a b))
    where
      small : {P : Type 0} {v : ℕ} → IsPixel P v → v ≤ 1
      small (inl p) = le_of_eq p.0
      small (inr p) = let e = p.0 in omega arith

      is : {P : Type 0} {v : ℕ} → IsPixel P v → P ↔ (v ≡ 1)
      is (inl p) = ((λ _. p.0), (λ _. p.1))
      is (inr p) = ((λ h. absurd (p.1 h)), (λ e. absurd (let z = p.0 in omega arith)))

  pub sheet_one : (A : PointSet) (x y : List ℕ) → IsSheet width height A x → IsSheet width height A y → x ≡ y
  sheet_one A x y p q = p.padding ∙ packed_same width height (pixel width x) (pixel width y) same ∙ sym q.padding
    where
      same : (row col : ℕ) → row < height → col < width → pixel width x row col ≡ pixel width y row col
      same row col a b =
          let i = p.pixels row col a b in
          let j = q.pixels row col a b in
          bits (pixel width x row col) (pixel width y row col) (pixel_binary width x row col) (pixel_binary width y row col)
          (λ h. j.1 (i.0 h)) (λ h. i.1 (j.0 h))
        where
          bits : (m n : ℕ) → m ≤ 1 → n ≤ 1 → (m ≡ 1 → n ≡ 1) → (n ≡ 1 → m ≡ 1) → m ≡ n
          bits m n a b f g = go (ℕ_discrete m 1) (ℕ_discrete n 1)
            where
              go : Dec (m ≡ 1) → Dec (n ≡ 1) → m ≡ n
              go (yes e) d = e ∙ sym (f e)
              go (no e) (yes d) = absurd (e (g d))
              go (no e) (no d) = omega arith

  pub levels_one : (IsLevel : Point → ℕ → Type 0) → ((p : Point) (m n : ℕ) → IsLevel p m → IsLevel p n → m ≡ n) → (x y : List ℕ)
      → AreLevels width height IsLevel x → AreLevels width height IsLevel y → x ≡ y
  levels_one IsLevel one x y p q =
      raster_is width height (λ i j. get_or y (i * width + j) 0) 0 x p.size
      (λ i j a b. one (at (pos i) (pos j)) _ _ (p.levels i j a b) (q.levels i j a b))
      ∙ sym (raster_is width height (λ i j. get_or y (i * width + j) 0) 0 y q.size (λ i j a b. refl))

-- what stands after an accepted call is one thing, where its output is
pub lent_one : (Right : List ℕ → Type 0) → ((x y : List ℕ) → Right x → Right y → x ≡ y) → (lent : Buffers) (x y : Buffers)
    → Cleared lent x × Right x.out → Cleared lent y × Right y.out → x ≡ y
lent_one Right one lent x y p q =
    let a : x.first ≡ y.first = p.0.first ∙ sym q.0.first in
    let b : x.second ≡ y.second = p.0.second ∙ sym q.0.second in
    let c = one x.out y.out p.1 q.1 in
    λ i. record { first = a i; second = b i; out = c i }

-- where no refusal applies to buffers that fit, and the answer is right, the contract allows it and nothing else
pub gives : (refusals : Buffers → List Refusal) (Right : List ℕ → Type 0) → ((x y : List ℕ) → Right x → Right y → x ≡ y)
    → (work : ℕ) (answer : List ℕ) → ((lent : Buffers) → Fits work (length answer) lent → first (refusals lent) ≡ 0)
    → Right answer → Gives (λ lent. Answers (refusals lent) lent (λ after. Cleared lent after × Right after.out)) work answer
gives refusals Right one work answer taken right lent fits =
    let clear : Cleared lent (left work answer) =
    record { first = ap (λ n. replicate n 0) (sym fits.first); second = ap (λ n. replicate n 0) (sym fits.second) } in
    let allowed : Answers (refusals lent) lent (λ after. Cleared lent after × Right after.out) 0 (left work answer) =
    accepts (left work answer) (taken lent fits) (clear, right) in
    (allowed, λ m after p. answers_unique (lent_one Right one lent) m 0 after (left work answer) p allowed)

-- THE FOUR CALLS
module _ (input : Input) (sheet bytes : List ℕ) where
  pub open_unique : (size : ℕ) (lent : Buffers) (m n : ℕ) (x y : Buffers) → Opens input sheet bytes size lent m x
      → Opens input sheet bytes size lent n y → (m ≡ n) × (x ≡ y)
  open_unique size lent = answers_unique (lent_one _ (sheet_one input.width input.height _) lent)

  pub close_unique : (size : ℕ) (lent : Buffers) (m n : ℕ) (x y : Buffers) → Closes input sheet bytes size lent m x
      → Closes input sheet bytes size lent n y → (m ≡ n) × (x ≡ y)
  close_unique size lent = answers_unique (lent_one _ (sheet_one input.width input.height _) lent)

  pub opening_levels_unique : (lent : Buffers) (m n : ℕ) (x y : Buffers) → OpeningLevels input sheet bytes lent m x
      → OpeningLevels input sheet bytes lent n y → (m ≡ n) × (x ≡ y)
  opening_levels_unique lent =
      answers_unique (lent_one _ (levels_one input.width input.height _ (λ p m n. last_unique)) lent)

  pub closing_levels_unique : (cap : ℕ) (lent : Buffers) (m n : ℕ) (x y : Buffers)
      → ClosingLevels input sheet bytes cap lent m x → ClosingLevels input sheet bytes cap lent n y
      → (m ≡ n) × (x ≡ y)
  closing_levels_unique cap lent =
      answers_unique (lent_one _ (levels_one input.width input.height _ (λ p m n. first_unique)) lent)
