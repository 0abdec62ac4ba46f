-- The two-pass scan on the grid, for any start levels: each level comes from a point of some nN, and no point of nN would give
-- less.
-- A fold nN is exactly the walks of n steps by offsets of N. Sums commute, so a walk may be sorted into the order of the two
-- passes.
use mathlib.Core.Path.{◌≡◌, refl, sym, ◌∙◌, ap, subst}
use mathlib.Core.Logic.{◌⊎◌, inl, inr}
use Prim.Native.Nat.{ℕ, zero, suc, ◌+◌, ◌≤◌, ◌<◌}
use native.Mathlib.Omega.{arith}
use Rattle.grid.specs.Points.{Point, origin, ◌⊕◌}
use Rattle.grid.specs.Sets.{PointSet, fold, ◌⊆◌, ◌≈◌}
use Rattle.grid.proofs.PointLaws.{⊕-origin, ⊕-assoc, ⊕-swap}
use Rattle.scan.proofs.Walks.{Walk, stop, step, Either, walk_map, walk_append, walk_inside, walk_sort, Scan, scan_sound}
use Rattle.scan.proofs.Walks.{scan_bound}

-- a step by an offset of N
abbrev pub Step : PointSet → Point → Point → Type 0
Step N x y = (b : Point) × N b × (y ≡ x ⊕ b)

-- the same from a point of Live: one at which the levels obey the rule
abbrev pub LiveStep : PointSet → PointSet → Point → Point → Type 0
LiveStep Live N x y = Live x × Step N x y

-- W is what two passes make of S; each partner of N is met by one of them
pub record GridScan (top : ℕ) (Live N : PointSet) (S W : Point → ℕ) : Type 1 where
  pub first : PointSet
  pub second : PointSet
  pub first_in : first ⊆ N
  pub second_in : second ⊆ N
  pub cover : (b : Point) → N b → first b ⊎ second b
  pub scan : Scan top (LiveStep Live first) (LiveStep Live second) S W

pub same_partners : {top : ℕ} {Live N N' : PointSet} {S W : Point → ℕ} → N ≈ N' → GridScan top Live N S W
    → GridScan top Live N' S W
same_partners same g = record {
  first = g.first;
  second = g.second;
  first_in = λ b h. same.0 b (g.first_in b h);
  second_in = λ b h. same.0 b (g.second_in b h);
  cover = λ b h. g.cover b (same.1 b h);
  scan = g.scan;
}

pub fold→walk : (N : PointSet) (n : ℕ) (b x : Point) → fold N n b → Walk (Step N) n x (x ⊕ b)
fold→walk N zero b x h = subst (λ y. Walk (Step N) zero x y) (sym (⊕-origin x) ∙ ap (λ c. x ⊕ c) (sym h)) stop
fold→walk N (suc n) b x (c, d, hc, hd, e) =
    subst (λ y. Walk (Step N) (suc n) x y) (⊕-assoc x c d ∙ ap (λ c. x ⊕ c) (sym e))
    (step (c, hc, refl) (fold→walk N n d (x ⊕ c) hd))

pub walk→fold : {N : PointSet} {n : ℕ} {x y : Point} → Walk (Step N) n x y → (b : Point) × fold N n b × (y ≡ x ⊕ b)
walk→fold {x = x} stop = (origin, refl, sym (⊕-origin x))
walk→fold {x = x} (step (c, hc, e) w) =
    let (d, hd, q) = walk→fold w in
    (c ⊕ d, (c, d, hc, hd, refl), q ∙ ap (λ p. p ⊕ d) e ∙ ⊕-assoc x c d)

step_in : {N N' : PointSet} → N ⊆ N' → (x y : Point) → Step N x y → Step N' x y
step_in f x y (b, h, e) = (b, f b h, e)

step_swap : {D U : PointSet} (x y z : Point) → Step D x y → Step U y z → (m : Point) × Step U x m × Step D m z
step_swap x y z (d, hd, e) (u, hu, q) = (x ⊕ u, (u, hu, refl), (d, hd, q ∙ ap (λ c. c ⊕ u) e ∙ ⊕-swap x d u))

module _ {top : ℕ} {Live N : PointSet} {S W : Point → ℕ} (g : GridScan top Live N S W) where
  pub grid_sound : (x : Point) → W x < top → (n : ℕ) × (b : Point) × fold N n b × (W x ≡ n + S (x ⊕ b))
  grid_sound x h =
      let (n, y, w, e) = scan_sound g.scan x h in
      let (b, hb, q) = walk→fold (walk_map forget w) in
      (n, b, hb, e ∙ ap (λ y. n + S y) q)
    where
      forget : (p q : Point) → Either (LiveStep Live g.first) (LiveStep Live g.second) p q → Step N p q
      forget p q (inl s) = step_in g.first_in p q s.1
      forget p q (inr s) = step_in g.second_in p q s.1

  -- the points of the sorted walk must be live, so all that could be among them
  pub grid_bound : (n : ℕ) (b x : Point) → fold N n b → ((j : ℕ) (y : Point) → j ≤ n → Walk (Step N) j y (x ⊕ b) → Live y)
      → W x ≤ n + S (x ⊕ b)
  grid_bound n b x h live =
      let (i, j, m, u, d, e) = walk_sort (Step g.first) (Step g.second) step_swap (walk_map share (fold→walk N n b x h)) in
      let last = walk_map (step_in g.first_in) d in
      let bound = scan_bound g.scan
      (walk_inside (λ k y l v. live (k + j) y (omega arith) (walk_append (walk_map (step_in g.second_in) v) last)) u)
      (walk_inside (λ k y l v. live k y (omega arith) (walk_map (step_in g.first_in) v)) d) in
      omega arith
    where
      share : (p q : Point) → Step N p q → Either (Step g.first) (Step g.second) p q
      share p q (b, hb, e) = part (g.cover b hb)
        where
          part : g.first b ⊎ g.second b → Either (Step g.first) (Step g.second) p q
          part (inl f) = inl (b, f, e)
          part (inr s) = inr (b, s, e)
