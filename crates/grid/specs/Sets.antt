-- Sets of points and what is done to them, after Chen and Haralick's definitions 1 to 7.
use Rattle.std.specs.Prelude.{◌≡◌, ℕ, zero, suc}
use Rattle.grid.specs.Points.{Point, origin, ◌⊕◌, neg}

abbrev pub PointSet : Type 1
PointSet = Point → Type 0

-- A moved by t, and A turned about the origin
abbrev pub translate : PointSet → Point → PointSet
translate A t x = (a : Point) × A a × (x ≡ a ⊕ t)

abbrev pub reflect : PointSet → PointSet
reflect A x = A (neg x)

-- the points a + b, a in A, b in B
abbrev pub dilate : PointSet → PointSet → PointSet
dilate A B x = (a : Point) × (b : Point) × A a × B b × (x ≡ a ⊕ b)

-- the points x with x + b in A for every b in B
abbrev pub erode : PointSet → PointSet → PointSet
erode A B x = (b : Point) → B b → A (x ⊕ b)

-- nK: K added to itself n times; 0K is the origin alone
abbrev pub fold : PointSet → ℕ → PointSet
fold K zero = λ x. x ≡ origin
fold K (suc n) = dilate K (fold K n)

-- A eroded, dilated, opened and closed by n, with the element K
abbrev pub eroded : PointSet → PointSet → ℕ → PointSet
eroded A K n = erode A (fold K n)

abbrev pub dilated : PointSet → PointSet → ℕ → PointSet
dilated A K n = dilate A (fold K n)

abbrev pub opened : PointSet → PointSet → ℕ → PointSet
opened A K n = dilated (eroded A K n) K n

abbrev pub closed : PointSet → PointSet → ℕ → PointSet
closed A K n = eroded (dilated A K n) K n

-- A is a part of B; A and B are the same set
infix 4 ◌⊆◌
abbrev pub ◌⊆◌ : PointSet → PointSet → Type 0
A ⊆ B = (x : Point) → A x → B x

infix 4 ◌≈◌
abbrev pub ◌≈◌ : PointSet → PointSet → Type 0
A ≈ B = (A ⊆ B) × (B ⊆ A)
