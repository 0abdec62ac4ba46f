-- Lists of refusals, two in a row judged one after the other; and Answers: a refusing and an accepting call, and no second
-- outcome.
use Prim.Native.Nat.{ℕ}
use mathlib.Core.Path.{◌≡◌, refl, sym, ap, subst₂, ◌∙◌}
use mathlib.Core.Bool.{Bool, true, false, not, cond, ◌&&◌}
use mathlib.Core.List.{List, [], ◌∷◌, ◌++◌}
use mathlib.Core.Logic.{◌≢◌}
use lib.Dec.{T, eqb}
use borrow.Author.Tests.{eqb-false}
use native.Mathlib.Decide.{ℕ_discrete}
use native.Mathlib.Omega.{arith}
use Rattle.basics.specs.declared.refusal.Refusal as declared
use Rattle.basics.specs.declared.refusal.Refusal.TheVariants.{Record, FrameSide, SheetLength, ElementSide, ElementByte, CentreUnset, CentreAlone}
use Rattle.basics.specs.declared.refusal.Refusal.TheVariants.{Size, CanvasSide, LevelsLength, OutputLength, Allowance, RowsDue, BlankSheet}
use Rattle.basics.specs.declared.refusal.Refusal.TheVariants.{NoPbm, Header, ShortRaster, LongRaster}
use Rattle.basics.specs.Refusals.{Refusal, first, Answers, number_of}

-- no number is 0, the sign of acceptance; of a list with its numbers written out this computes
abbrev pub numbered : List Refusal → Bool
numbered [] = true
numbered (r ∷ rest) = not (eqb r.0 0) && numbered rest

pub first_refused : (xs ys : List Refusal) → first xs ≢ 0 → first (xs ++ ys) ≡ first xs
first_refused [] ys n = absurd (n refl)
first_refused (r ∷ xs) ys n = go r.1 n (first_refused xs ys)
  where
    go : (b : Bool) → cond b r.0 (first xs) ≢ 0 → (first xs ≢ 0 → first (xs ++ ys) ≡ first xs)
        → cond b r.0 (first (xs ++ ys)) ≡ cond b r.0 (first xs)
    go true n ih = refl
    go false n ih = ih n

pub first_accepted : (xs ys : List Refusal) → T (numbered xs) → first xs ≡ 0 → first (xs ++ ys) ≡ first ys
first_accepted [] ys t e = refl
first_accepted (r ∷ xs) ys t e = go r.1 (eqb r.0 0) refl t e (first_accepted xs ys)
  where
    go : (b z : Bool) → eqb r.0 0 ≡ z → T (not z && numbered xs) → cond b r.0 (first xs) ≡ 0
        → (T (numbered xs) → first xs ≡ 0 → first (xs ++ ys) ≡ first ys) → cond b r.0 (first (xs ++ ys)) ≡ first ys
    go true true q t e ih = absurd t
    go true false q t e ih = absurd (eqb-false r.0 0 q e)
    go false true q t e ih = absurd t
    go false false q t e ih = ih t e

-- a last refusal that does not apply
pub first_idle : (n : ℕ) (xs : List Refusal) → first (xs ++ (n, false) ∷ []) ≡ first xs
first_idle n [] = refl
first_idle n (r ∷ xs) = ap (cond r.1 r.0) (first_idle n xs)

-- a number judged by the first list, or by the second where nothing of the first applies
pub judged_first : {number : ℕ} (xs ys : List Refusal) → number ≢ 0 → number ≡ first xs → number ≡ first (xs ++ ys)
judged_first xs ys n e = e ∙ sym (first_refused xs ys (λ z. n (e ∙ z)))

pub judged_next : {number : ℕ} (xs ys : List Refusal) → T (numbered xs) → first xs ≡ 0 → number ≡ first ys
    → number ≡ first (xs ++ ys)
judged_next xs ys t z e = e ∙ sym (first_accepted xs ys t z)

-- where nothing of both applies, nothing of each does
pub first_both : (xs ys : List Refusal) → T (numbered xs) → first (xs ++ ys) ≡ 0 → (first xs ≡ 0) × (first ys ≡ 0)
first_both xs ys t e = go (ℕ_discrete (first xs) 0)
  where
    go : Dec (first xs ≡ 0) → (first xs ≡ 0) × (first ys ≡ 0)
    go (yes z) = (z, sym (first_accepted xs ys t z) ∙ e)
    go (no n) = absurd (n (sym (first_refused xs ys n) ∙ e))

-- where a call is accepted, each of its refusals was found not to apply
pub passed : (n : ℕ) (b : Bool) (rest : List Refusal) → n ≢ 0 → first ((n, b) ∷ rest) ≡ 0 → (b ≡ false) × (first rest ≡ 0)
passed n true rest z e = absurd (z e)
passed n false rest z e = (refl, e)

-- no refusal has the number of acceptance
pub number_positive : (refusal : declared.Refusal) → number_of refusal ≢ 0
number_positive Record e = absurd (omega arith)
number_positive FrameSide e = absurd (omega arith)
number_positive SheetLength e = absurd (omega arith)
number_positive ElementSide e = absurd (omega arith)
number_positive ElementByte e = absurd (omega arith)
number_positive CentreUnset e = absurd (omega arith)
number_positive CentreAlone e = absurd (omega arith)
number_positive Size e = absurd (omega arith)
number_positive CanvasSide e = absurd (omega arith)
number_positive LevelsLength e = absurd (omega arith)
number_positive OutputLength e = absurd (omega arith)
number_positive Allowance e = absurd (omega arith)
number_positive RowsDue e = absurd (omega arith)
number_positive BlankSheet e = absurd (omega arith)
number_positive NoPbm e = absurd (omega arith)
number_positive Header e = absurd (omega arith)
number_positive ShortRaster e = absurd (omega arith)
number_positive LongRaster e = absurd (omega arith)

module _ {A : Type 0} {refusals : List Refusal} {kept : A} {Right : A → Type 0} where
  -- the answers of a call that refuses, and of one that accepts
  pub refuses : (number : ℕ) → number ≢ 0 → number ≡ first refusals → Answers refusals kept Right number kept
  refuses number n e = record { refusal = e; accepted = λ z. absurd (n z); refused = λ _. refl }

  pub accepts : (after : A) → first refusals ≡ 0 → Right after → Answers refusals kept Right 0 after
  accepts after e h = record { refusal = sym e; accepted = λ _. h; refused = λ n. absurd (n refl) }

  -- NO SECOND OUTCOME: where what is right is one thing, a call's inputs fix its number and all that stands after it
  pub answers_unique : ((x y : A) → Right x → Right y → x ≡ y) → (m n : ℕ) (x y : A) → Answers refusals kept Right m x
      → Answers refusals kept Right n y → (m ≡ n) × (x ≡ y)
  answers_unique one m n x y p q = (same, go (ℕ_discrete m 0))
    where
      same : m ≡ n
      same = p.refusal ∙ sym q.refusal

      go : Dec (m ≡ 0) → x ≡ y
      go (yes z) = one x y (p.accepted z) (q.accepted (sym same ∙ z))
      go (no z) = p.refused z ∙ sym (q.refused (λ e. z (same ∙ e)))

-- the same where what is right is given by a rule
pub rule_unique : {A : Type 0} {refusals : List Refusal} {kept answer : A} (m n : ℕ) (x y : A)
    → Answers refusals kept (λ after. after ≡ answer) m x → Answers refusals kept (λ after. after ≡ answer) n y
    → (m ≡ n) × (x ≡ y)
rule_unique = answers_unique (λ x y p q. p ∙ sym q)

-- and where two calls have the same refusals, kept values and answer
pub rule_alike : {A : Type 0} {one other : List Refusal} {kept answer answer' : A} → one ≡ other → answer ≡ answer'
    → (m n : ℕ) (x y : A) → Answers one kept (λ after. after ≡ answer) m x
    → Answers other kept (λ after. after ≡ answer') n y → (m ≡ n) × (x ≡ y)
rule_alike {kept = kept} e f m n x y p =
    rule_unique m n x y (subst₂ (λ refusals answer. Answers refusals kept (λ after. after ≡ answer) m x) e f p)
