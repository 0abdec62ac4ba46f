-- The laws of putting levels and of lowering them, over a stretch: it grows by one level, two passes that follow one another join,
-- two over the same stretch make one, and one over a part that was lent is one over the whole.
-- Each is shown level by level.
use Prim.Native.Nat.{ℕ, ◌+◌, ◌-◌, ◌≤◌, ◌<◌, min}
use native.Mathlib.Nat.{zero-add}
use native.Mathlib.Omega.{arith}
use mathlib.Core.Bool.{Bool, true, false}
use mathlib.Core.Logic.{◌⊎◌, inl, inr, ⊎_elim}
use mathlib.Core.List.{List}
use mathlib.Core.Path.{◌≡◌, refl, sym, ap, ◌∙◌}
use lib.Dec.{ltb}
use lib.ListN.{length, get_or, set, length-set, get_or-eq_default}
use lib.Seq.{get_or-set_same, get_or-set_other, ext_get_or}
use borrow.Author.Rules.{rules}
use borrow.Rule.Slice.PartMut.{mid_of, put_mid}
use borrow.Author.Tests.{ltb-true, ltb-false}
use Rattle.std.proofs.lemmas.List.{places}
use Rattle.row.specs.RowRule.{none, more}
use Rattle.row.specs.Passes.{Lowers, Put, Pass}

-- an order is decided
ordered_by : (t : Bool) (a b : ℕ) → ltb a b ≡ t → (a < b) ⊎ (b ≤ a)
ordered_by true a b q = inl (ltb-true a b q)
ordered_by false a b q = inr (ltb-false a b q)

pub ordered : (a b : ℕ) → (a < b) ⊎ (b ≤ a)
ordered a b = ordered_by (ltb a b) a b refl

pub more_least : (a b : ℕ) → more (min a b) ≡ min (more a) (more b)
more_least a b = omega arith

least_three : (a b c : ℕ) → min (min a b) c ≡ min a (min b c)
least_three a b c = omega arith

module _ (start : ℕ) (f : ℕ → ℕ) (levels : List ℕ) where
  pub put_start : Put start 0 f levels levels
  put_start = record {
    size = refl;
    inside = λ col h. absurd (omega arith);
    earlier = λ i h. refl;
    later = λ i h. refl;
  }

  -- a turn of a loop that puts level by level
  pub put_turn : (n : ℕ) (after stored : List ℕ) → start + n < length levels → stored ≡ set after (start + n) (f n)
      → Put start n f levels after → Put start (n + 1) f levels stored
  put_turn n after stored room is P =
      let long : length after ≡ length levels = P.size in
      let other : (i : ℕ) → (i ≡ start + n → ⊥)
      → get_or stored i 0 ≡ get_or after i 0 = λ i h. rw is (get_or-set_other after (start + n) i (f n) 0 h) in
      record {
        size = rw (is, length-set) long;
        inside = λ col h. ⊎_elim
            (λ (m : col < n). other (start + col) (λ q. omega arith) ∙ P.inside col m)
            (λ (m : n ≤ col).
            let q : col ≡ n = omega arith in
            rw (q, is) (get_or-set_same after (start + n) (f n) 0 (omega arith)))
            (ordered col n);
        earlier = λ i h. other i (λ q. omega arith) ∙ P.earlier i h;
        later = λ i h. other i (λ q. omega arith) ∙ P.later i (omega arith);
      }

-- where every level is put, the levels are those
pub put_all : (levels worked after : List ℕ) (i : ℕ) → length worked ≡ length levels → length levels ≤ i
    → Put 0 i (λ col. get_or worked col 0) levels after → after ≡ worked
put_all levels worked after i long all P =
    ext_get_or 0 after worked (P.size ∙ sym long)
    (λ k h. rw zero-add at (P.inside k (omega (arith, P.size))))

-- what a part is in the whole, where n levels from `at` on were lent and are now `part`
module _ (at n : ℕ) (levels part : List ℕ) (room : at + n ≤ length levels) (long : length part ≡ n) where
  pub put_part : (f : ℕ → ℕ) → ((col : ℕ) → col < n → get_or part col 0 ≡ f col) → Put at n f levels (put_mid at n levels part)
  put_part f each =
      record {
        size = search (rules, places);
        inside = λ col h. part_in col h ∙ each col h;
        earlier = λ i h. search (rules, places);
        later = λ i h. part_after i h;
      }
    where
      part_in : (col : ℕ) → col < n → get_or (put_mid at n levels part) (at + col) 0 ≡ get_or part col 0
      part_in col h = search (rules, places)

      part_after : (i : ℕ) → at + n ≤ i → get_or (put_mid at n levels part) i 0 ≡ get_or levels i 0
      part_after i h = search (rules, places)

-- a pass over the part is one over those levels
pub pass_part : (at n : ℕ) (f : ℕ → ℕ) (levels part : List ℕ) → at + n ≤ length levels
    → Pass 0 (length (mid_of at n levels)) f (mid_of at n levels) part → Pass at n f levels (put_mid at n levels part)
pass_part at n f levels part room P =
    put_part at n levels part room (P.size ∙ long) _
    (λ col h. rw zero-add at (P.inside col (omega (arith, long))) ∙ ap (λ (x : ℕ). min x (f col)) (mid_in col h))
  where
    long : length (mid_of at n levels) ≡ n
    long = search (rules, places)

    mid_in : (col : ℕ) → col < n → get_or (mid_of at n levels) col 0 ≡ get_or levels (at + col) 0
    mid_in col h = search (rules, places)

pub pass_join : (start : ℕ) (f : ℕ → ℕ) (levels : List ℕ) (m n : ℕ) (between after : List ℕ) → Pass start m f levels between
    → Pass (start + m) n (λ j. f (m + j)) between after → Pass start (m + n) f levels after
pass_join start f levels m n between after P Q = record {
  size = Q.size ∙ P.size;
  inside = λ col h. ⊎_elim
      (λ (k : col < m). Q.earlier (start + col) (omega arith) ∙ P.inside col k)
      (λ (k : m ≤ col).
      let at : start + m + (col - m) ≡ start + col = omega arith in
      let on : m + (col - m) ≡ col = omega arith in
      rw (at, on) at (Q.inside (col - m) (omega arith))
      ∙ ap (λ (x : ℕ). min x (f col)) (P.later (start + col) (omega arith)))
      (ordered col m);
  earlier = λ i h. Q.earlier i (omega arith) ∙ P.earlier i h;
  later = λ i h. Q.later i (omega arith) ∙ P.later i (omega arith);
}

module _ (start width : ℕ) (levels : List ℕ) where
  pub pass_as : (f g : ℕ → ℕ) (after : List ℕ) → ((col : ℕ) → col < width → f col ≡ g col)
      → Pass start width f levels after → Pass start width g levels after
  pass_as f g after same P = record {
    size = P.size;
    inside = λ col h. P.inside col h ∙ ap (λ (x : ℕ). min (get_or levels (start + col) 0) x) (same col h);
    earlier = P.earlier;
    later = P.later;
  }

  pub pass_and : (f g : ℕ → ℕ) (between after : List ℕ) → Pass start width f levels between → Pass start width g between after
      → Pass start width (λ col. min (f col) (g col)) levels after
  pass_and f g between after P Q = record {
    size = Q.size ∙ P.size;
    inside = λ col h. Q.inside col h ∙ ap (λ (x : ℕ). min x (g col)) (P.inside col h)
        ∙ least_three (get_or levels (start + col) 0) (f col) (g col);
    earlier = λ i h. Q.earlier i h ∙ P.earlier i h;
    later = λ i h. Q.later i h ∙ P.later i h;
  }

  -- what is lowered to 65,535 is as it was
  pub pass_none : ((i : ℕ) → get_or levels i 0 < 65536) → Pass start width (λ col. none) levels levels
  pass_none small = record {
    size = refl;
    inside = λ col h. omega (arith, small (start + col));
    earlier = λ i h. refl;
    later = λ i h. refl;
  }

-- levels that are lowered by what is offered have had a pass
pub pass_offered : (offers : ℕ → ℕ → Type 0) (f : ℕ → ℕ) (levels after : List ℕ) → length after ≡ length levels
    → ((i level : ℕ) → i < length levels → offers i level → level ≡ f i) → Lowers offers levels after
    → Pass 0 (length levels) (λ i. more (f i)) levels after
pass_offered offers f levels after size is L = record {
  size = size;
  inside = λ i h. let low = L i h in
      rw zero-add (low.2 ∙ ap (λ (x : ℕ). min (get_or levels i 0) (more x)) (is i low.0 h low.1));
  earlier = λ i h. absurd (omega arith);
  later = λ i h. get_or-eq_default after 0 (omega arith) ∙ sym (get_or-eq_default levels 0 (omega arith));
}
