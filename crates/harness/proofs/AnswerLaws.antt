-- From the library's answers to the boundary's: the boundary's own refusals stand among the library's, so where they do not apply
-- the number is the library's, and where one does it takes its place among them. The values beside the number go to the answer
-- slices.
use Prim.Native.Nat.{ℕ, ◌≤◌}
use native.Mathlib.Decide.{ℕ_discrete}
use native.Mathlib.Omega.{arith}
use mathlib.Core.Path.{◌≡◌, refl, sym, ap, ◌∙◌}
use mathlib.Core.Bool.{Bool, true, false, cond, ◌&&◌, ◌||◌}
use mathlib.Core.Logic.{◌≢◌}
use mathlib.Core.List.{List, [], ◌∷◌, ◌++◌}
use lib.Dec.{T, eqb, leb, ltb}
use lib.ListN.{length, set}
use borrow.Author.Tests.{eq-eqb, ne_eqb, eqb-false, leb-true, ltb-true, le-ltb}
use Rattle.basics.specs.Refusals.{Refusal, first, Answers}
use Rattle.basics.proofs.RefusalLaws.{numbered, first_refused, first_accepted, refuses, accepts}
use Rattle.harness.specs.Boundary.{holds_no_record, words_refusal, answer_refusal, answered, at_latest}

-- a library's answer carried over to a list of refusals that gives the same number
module _ {A B : Type 0} {L M : List Refusal} {kept_a : A} {kept_b : B} {RightA : A → Type 0} {RightB : B → Type 0} {n : ℕ} {x : A}
    (p : Answers L kept_a RightA n x) (e : first M ≡ first L) where
  pub carried_refusal : n ≢ 0 → (y : B) → (x ≡ kept_a → y ≡ kept_b) → Answers M kept_b RightB n y
  carried_refusal z y k = record { refusal = p.refusal ∙ sym e; accepted = λ q. absurd (z q); refused = λ q. k (p.refused q) }

  pub carried_answer : n ≡ 0 → (y : B) → (RightA x → RightB y) → Answers M kept_b RightB 0 y
  carried_answer z y k = accepts y (e ∙ sym p.refusal ∙ z) (k (p.accepted z))

-- words that hold a record: what the library answers of it
module _ {A : Type 0} {L : List Refusal} {kept : A} {Right : A → Type 0} (words : List ℕ) where
  pub record_answers : holds_no_record words ≡ false → {n : ℕ} {x : A} → Answers L kept Right n x
      → Answers (words_refusal words ∷ L) kept Right n x
  record_answers h p = record { refusal = p.refusal ∙ rw h; accepted = p.accepted; refused = p.refused }

-- a value and an output that the library answers: the value goes to a slice
pub slice_answers : {A : Type 0} {L M : List Refusal} {none right value : A} {kept filled after : List ℕ} {n : ℕ}
    (write : A → List ℕ) (answer next : List ℕ)
    → Answers {A = A × List ℕ} L (none, kept) (λ x. x ≡ (right, filled)) n (value, after) → first M ≡ first L
    → next ≡ answered n (write value) answer
    → Answers {A = List ℕ × List ℕ} M (kept, answer) (λ x. x ≡ (filled, write right)) n (after, next)
slice_answers {n} write answer next p e q = record {
  refusal = p.refusal ∙ sym e;
  accepted = λ z. rw (q, eq-eqb n 0 z) (ap (λ x. (x.1, write x.0)) (p.accepted z));
  refused = λ z. rw (q, ne_eqb n 0 z) (ap (λ x. (x.1, answer)) (p.refused z));
}

-- an answer slice after all other refusals
module _ (L : List Refusal) (t : T (numbered L)) (size : ℕ) (answer : List ℕ) where
  pub answer_fits : length answer ≡ size → first (L ++ answer_refusal size answer ∷ []) ≡ first L
  answer_fits a = rw (eq-eqb (length answer) size a) (go (ℕ_discrete (first L) 0))
    where
      go : Dec (first L ≡ 0) → first (L ++ (11, false) ∷ []) ≡ first L
      go (yes z) = first_accepted L ((11, false) ∷ []) t z ∙ sym z
      go (no n) = first_refused L ((11, false) ∷ []) n

-- AN ANSWER SLICE OF ANOTHER LENGTH: 11 stands between the lower numbers and the higher ones
abbrev pub up_to_eleven : List Refusal → Bool
up_to_eleven [] = true
up_to_eleven (r ∷ rest) = leb r.0 11 && up_to_eleven rest

abbrev above_eleven : List Refusal → Bool
above_eleven [] = true
above_eleven (r ∷ rest) = ltb 11 r.0 && above_eleven rest

lower_first : (xs : List Refusal) → T (up_to_eleven xs) → first xs ≤ 11
lower_first [] t = omega arith
lower_first (r ∷ xs) t = go (leb r.0 11) r.1 refl t (lower_first xs)
  where
    go : (a b : Bool) → leb r.0 11 ≡ a → T (a && up_to_eleven xs) → (T (up_to_eleven xs) → first xs ≤ 11)
        → cond b r.0 (first xs) ≤ 11
    go true true e t ih = leb-true r.0 11 e
    go true false e t ih = ih t
    go false b e t ih = absurd t

higher_first : (ys : List Refusal) → T (above_eleven ys) → at_latest (first ys) ≡ 11
higher_first [] t = refl
higher_first (r ∷ ys) t = go (ltb 11 r.0) r.1 refl t (higher_first ys)
  where
    go : (a b : Bool) → ltb 11 r.0 ≡ a → T (a && above_eleven ys) → (T (above_eleven ys) → at_latest (first ys) ≡ 11)
        → at_latest (cond b r.0 (first ys)) ≡ 11
    go true true e t ih = let l = ltb-true 11 r.0 e in rw (ne_eqb r.0 0 (λ z. absurd (omega arith)), e)
    go true false e t ih = ih t
    go false b e t ih = absurd t

latest_some : (n : ℕ) → at_latest n ≢ 0
latest_some n = go (eqb n 0) (ltb 11 n) refl
  where
    go : (a b : Bool) → eqb n 0 ≡ a → cond (a || b) 11 n ≢ 0
    go true b e z = absurd (omega arith)
    go false true e z = absurd (omega arith)
    go false false e z = eqb-false n 0 e z

module _ (xs ys : List Refusal) (t : T (numbered xs)) (lower : T (up_to_eleven xs)) (higher : T (above_eleven ys)) where
  eleven_between : at_latest (first (xs ++ ys)) ≡ first (xs ++ (11, true) ∷ ys)
  eleven_between = go (ℕ_discrete (first xs) 0)
    where
      go : Dec (first xs ≡ 0) → at_latest (first (xs ++ ys)) ≡ first (xs ++ (11, true) ∷ ys)
      go (yes z) = ap at_latest (first_accepted xs ys t z) ∙ higher_first ys higher ∙ sym (first_accepted xs ((11, true) ∷ ys) t z)
      go (no n) = ap at_latest (first_refused xs ys n) ∙ kept n ∙ sym (first_refused xs ((11, true) ∷ ys) n)
        where
          kept : first xs ≢ 0 → at_latest (first xs) ≡ first xs
          kept n = rw (ne_eqb (first xs) 0 n, le-ltb 11 (first xs) (lower_first xs lower))

  pub latest_refuses : {A : Type 0} {kept : A} {Right : A → Type 0} (refusals : List Refusal)
      → first refusals ≡ first (xs ++ (11, true) ∷ ys) → {number n : ℕ} → number ≡ at_latest n → n ≡ first (xs ++ ys)
      → Answers refusals kept Right number kept
  latest_refuses refusals same {number} {n} a e =
      refuses number (λ z. latest_some n (sym a ∙ z)) (a ∙ ap at_latest e ∙ eleven_between ∙ sym same)

-- an answer slice of another length beside a room: whatever the room, 11 is the last number that is left
module _ (L : List Refusal) (t : T (numbered L)) (short : Bool) where
  either_eleven : ◌≡◌ {A = ℕ} (cond short 11 11) 11
  either_eleven = go short
    where
      go : (b : Bool) → ◌≡◌ {A = ℕ} (cond b 11 11) 11
      go true = refl
      go false = refl

  room_none : first L ≡ 0 → 11 ≡ first (L ++ (11, short) ∷ (11, true) ∷ [])
  room_none z = sym (first_accepted L ((11, short) ∷ (11, true) ∷ []) t z ∙ either_eleven)

  pub room_same : first (L ++ (11, short) ∷ (11, true) ∷ []) ≡ first (L ++ (11, true) ∷ [])
  room_same = go (ℕ_discrete (first L) 0)
    where
      go : Dec (first L ≡ 0) → first (L ++ (11, short) ∷ (11, true) ∷ []) ≡ first (L ++ (11, true) ∷ [])
      go (yes z) = sym (room_none z) ∙ sym (first_accepted L ((11, true) ∷ []) t z)
      go (no n) = first_refused L ((11, short) ∷ (11, true) ∷ []) n ∙ sym (first_refused L ((11, true) ∷ []) n)

  -- judged with another room
  module _ (other : Bool) where
    pub room_some : (n : ℕ) → n ≢ 0 → n ≡ first (L ++ (11, other) ∷ []) → n ≡ first (L ++ (11, short) ∷ (11, true) ∷ [])
    room_some n z e = go (ℕ_discrete (first L) 0)
      where
        eleven : (b : Bool) → n ≡ cond b 11 0 → n ≡ 11
        eleven true q = q
        eleven false q = absurd (z q)

        go : Dec (first L ≡ 0) → n ≡ first (L ++ (11, short) ∷ (11, true) ∷ [])
        go (yes q) = eleven other (e ∙ first_accepted L ((11, other) ∷ []) t q) ∙ room_none q
        go (no q) = e ∙ first_refused L ((11, other) ∷ []) q ∙ sym (first_refused L ((11, short) ∷ (11, true) ∷ []) q)

-- answers stored
pub one_stored : (answer : List ℕ) (a : ℕ) → length answer ≡ 1 → set answer 0 a ≡ a ∷ []
one_stored [] a e = absurd (omega arith)
one_stored (x ∷ []) a e = refl
one_stored (x ∷ y ∷ rest) a e = absurd (omega arith)

pub two_stored : {A : Type 0} (answer : List A) (a b : A) → length answer ≡ 2 → set (set answer 0 a) 1 b ≡ a ∷ b ∷ []
two_stored [] a b e = absurd (omega arith)
two_stored (x ∷ []) a b e = absurd (omega arith)
two_stored (x ∷ y ∷ []) a b e = refl
two_stored (x ∷ y ∷ z ∷ rest) a b e = absurd (omega arith)
