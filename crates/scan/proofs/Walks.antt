-- The two-pass scan over points of any type.
-- `E x y` says that y is a partner of x that the pass has met before x. After a pass each level is the least of what it was and
-- one more than each met partner's.
-- So a level below the top is reached by a walk to a point that kept its start level (sound, by induction on the level), and no
-- walk does better (bound, by induction on the walk).
-- Where steps commute, every walk can be sorted: first the steps of the second pass, then those of the first.
use mathlib.Core.Path.{◌≡◌, refl, ap}
use mathlib.Core.Logic.{◌⊎◌, inl, inr}
use Prim.Native.Nat.{ℕ, zero, suc, ◌+◌, ◌≤◌, ◌<◌}
use native.Mathlib.Nat.{suc-add, zero-add, add-suc}
use native.Mathlib.Omega.{arith}

-- n steps of E, from x to y
pub data Walk {P : Type 0} (E : P → P → Type 0) : ℕ → P → P → Type 0 where
  stop : {x : P} → Walk E zero x x
  step : {n : ℕ} {x y z : P} → E x y → Walk E n y z → Walk E (suc n) x z

abbrev pub Either : {P : Type 0} → (P → P → Type 0) → (P → P → Type 0) → P → P → Type 0
Either D U x y = D x y ⊎ U x y

pub walk_map : {P : Type 0} {E F : P → P → Type 0} → ((x y : P) → E x y → F x y) → {n : ℕ} {x y : P} → Walk E n x y → Walk F n x y
walk_map f stop = stop
walk_map f (step {x = x} {y = y} e w) = step (f x y e) (walk_map f w)

module _ {P : Type 0} {E : P → P → Type 0} where
  pub walk_append : {m n : ℕ} {x y z : P} → Walk E m x y → Walk E n y z → Walk E (m + n) x z
  walk_append stop v = rw zero-add v
  walk_append (step e w) v = rw suc-add (step e (walk_append w v))

  -- a walk all of whose points but the last lie inside
  pub walk_inside : {In : P → Type 0} {n : ℕ} {x z : P} → ((j : ℕ) (y : P) → j ≤ n → Walk E j y z → In y) → Walk E n x z
      → Walk (λ p q. In p × E p q) n x z
  walk_inside f stop = stop
  walk_inside f (step {n = n} {x = x} e w) =
      step (f (suc n) x (omega arith) (step e w), e) (walk_inside (λ j y h v. f j y (omega arith) v) w)

  -- a level that rises by at most one along each step
  walk_bound : (S : P → ℕ) → ((x y : P) → E x y → S x ≤ suc (S y)) → {n : ℕ} {x y : P} → Walk E n x y → S x ≤ n + S y
  walk_bound S edge stop = omega arith
  walk_bound S edge (step {x = x} {y = y} e w) = let h = edge x y e in let g = walk_bound S edge w in omega arith

-- steps that can be taken in the other order
module _ {P : Type 0} (D U : P → P → Type 0) (swap : (x y z : P) → D x y → U y z → (m : P) × U x m × D m z) where
  push : {n : ℕ} {x y z : P} → D x y → Walk U n y z → (m : P) × Walk U n x m × D m z
  push {x = x} d stop = (x, stop, d)
  push {x = x} d (step {x = y} {y = z} u w) = let s = swap x y z d u in let r = push s.2 w in (r.0, step s.1 r.1, r.2)

  -- all steps of U, then all steps of D
  pub walk_sort : {n : ℕ} {x z : P} → Walk (Either D U) n x z → (i j : ℕ) × (m : P) × Walk U i x m × Walk D j m z × (i + j ≡ n)
  walk_sort {x = x} stop = (zero, zero, x, stop, stop, refl)
  walk_sort (step (inr u) w) = let r = walk_sort w in (suc r.0, r.1, r.2, step u r.3, r.4, rw suc-add (ap suc r.5))
  walk_sort (step (inl d) w) = let r = walk_sort w in let s = push d r.3 in
      (r.0, suc r.1, s.0, s.1, step s.2 r.4, rw add-suc (ap suc r.5))

-- W is what a pass makes of S: the least of the level that a point had and one more than each met partner's; a level from `top`
-- on means none
pub record OnePass {P : Type 0} (top : ℕ) (E : P → P → Type 0) (S W : P → ℕ) : Type 0 where
  pub keep : (x : P) → W x ≤ S x
  pub edge : (x y : P) → E x y → W x ≤ suc (W y)
  pub from : (x : P) → W x < top → (W x ≡ S x) ⊎ ((y : P) × E x y × (W x ≡ suc (W y)))

module _ {P : Type 0} {top : ℕ} {E : P → P → Type 0} {S W : P → ℕ} (pass : OnePass top E S W) where
  -- a walk to the point that the level comes from
  abbrev Reached : P → Type 0
  Reached x = (n : ℕ) × (y : P) × Walk E n x y × (W x ≡ n + S y)

  reached : (x : P) → ((y : P) → W y < W x → Reached y) → (W x ≡ S x) ⊎ ((y : P) × E x y × (W x ≡ suc (W y))) → Reached x
  reached x before (inl q) = (zero, x, stop, omega arith)
  reached x before (inr (y, e, q)) = let (n, z, w, r) = before y (omega arith) in (suc n, z, step e w, omega arith)

  pub pass_sound : (x : P) → W x < top → Reached x
  pass_sound x = up_to (suc (W x)) x (omega arith)
    where
      up_to : (n : ℕ) (x : P) → W x < n → W x < top → Reached x
      up_to zero x l h = absurd (omega arith)
      up_to (suc n) x l h = reached x (λ y m. up_to n y (omega arith) (omega arith)) (pass.from x h)

  -- the same pass with other steps: these, and perhaps some that lead nowhere
  pub pass_steps : {F : P → P → Type 0} → ((x y : P) → E x y → F x y) → ((x y : P) → F x y → E x y ⊎ (x ≡ y)) → OnePass top F S W
  pass_steps {F} f g = record { keep = pass.keep; edge = λ x y s. edge x y (g x y s); from = λ x h. from x (pass.from x h) }
    where
      edge : (x y : P) → E x y ⊎ (x ≡ y) → W x ≤ suc (W y)
      edge x y (inl e) = pass.edge x y e
      edge x y (inr q) = let h = ap W q in omega arith

      from : (x : P) → (W x ≡ S x) ⊎ ((y : P) × E x y × (W x ≡ suc (W y))) → (W x ≡ S x) ⊎ ((y : P) × F x y × (W x ≡ suc (W y)))
      from x (inl q) = inl q
      from x (inr (y, e, q)) = inr (y, f x y e, q)

-- two passes, first with the partners D, then with U
pub record Scan {P : Type 0} (top : ℕ) (D U : P → P → Type 0) (S W : P → ℕ) : Type 0 where
  pub mid : P → ℕ
  pub down : OnePass top D S mid
  pub up : OnePass top U mid W

module _ {P : Type 0} {top : ℕ} {D U : P → P → Type 0} {S W : P → ℕ} (scan : Scan top D U S W) where
  -- each level is that of a start point, and one more for each step to it
  pub scan_sound : (x : P) → W x < top → (n : ℕ) × (y : P) × Walk (Either D U) n x y × (W x ≡ n + S y)
  scan_sound x h =
      let (i, y, u, q) = pass_sound scan.up x h in
      let (j, z, d, r) = pass_sound scan.down y (omega arith) in
      (i + j, z, walk_append (walk_map (λ p q. inr) u) (walk_map (λ p q. inl) d), omega arith)

  -- and no level is more than that, for steps of U and then of D
  pub scan_bound : {i j : ℕ} {x y z : P} → Walk U i x y → Walk D j y z → W x ≤ i + j + S z
  scan_bound {y = y} {z = z} u d =
      let a = walk_bound W scan.up.edge u in
      let b = walk_bound scan.mid scan.down.edge d in
      let c = scan.up.keep y in
      let e = scan.down.keep z in
      omega arith
