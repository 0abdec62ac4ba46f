-- Sheets with the same pixels mean the same set, so that the same is right of both; and they are refused alike, since refusals
-- go by the length alone. One law serves the four calls.
use Prim.Native.Nat.{ℕ}
use mathlib.Core.Path.{◌≡◌}
use mathlib.Core.List.{List}
use lib.IntN.{pos}
use lib.ListN.{length}
use Rattle.basics.specs.Refusals.{Refusal, first, Answers}
use Rattle.basics.proofs.RefusalLaws.{answers_unique}
use Rattle.grid.specs.Points.{Point, at}
use Rattle.grid.specs.Sets.{PointSet, ◌≈◌}
use Rattle.grid.specs.Starred.{opening_levels, closing_levels}
use Rattle.grid.proofs.LevelLaws.{last_unique, first_unique}
use Rattle.grid.proofs.SameSets.{itself, opened_same, closed_same, answer_same}
use Rattle.sheet.specs.SamePixels.{SamePixels}
use Rattle.sheet.proofs.SamePixelsLaws.{same_set}
use Rattle.run.specs.declared.Input.{Input}
use Rattle.filters.specs.Filters.{Buffers, Cleared, IsSheet, AreLevels, foreground_of, element_of}
use Rattle.filters.specs.Filters.{open_refusals, close_refusals, opening_refusals, closing_refusals}
use Rattle.filters.specs.PaddingIgnored.{IgnoresPadding, PaddingIgnored}
use Rattle.filters.proofs.Refusing.{answers_carried}
use Rattle.filters.proofs.Uniqueness.{sheet_one, levels_one, lent_one}

-- ONE LAW: a contract whose refusals go by the sheet's length and whose answer by its pixels
ignores : (input : Input) {lent : Buffers} (refusals : List ℕ → List Refusal) {Right : List ℕ → List ℕ → Type 0}
    → ((one other : List ℕ) → length one ≡ length other → first (refusals one) ≡ first (refusals other))
    → ((one other : List ℕ) → SamePixels input.width input.height one other → (out : List ℕ) → Right one out
    → Right other out)
    → ((sheet x y : List ℕ) → Right sheet x → Right sheet y → x ≡ y)
    → IgnoresPadding input (λ sheet. Answers (refusals sheet) lent (λ after. Cleared lent after × Right sheet after.out))
ignores input {lent} refusals {Right} alike carried one_thing one other e same =
    (carry, λ m n x y p q. answers_unique (lent_one (Right other) (one_thing other) lent) m n x y (carry m x p) q)
  where
    carry : (number : ℕ) (after : Buffers)
        → Answers (refusals one) lent (λ after. Cleared lent after × Right one after.out) number after
        → Answers (refusals other) lent (λ after. Cleared lent after × Right other after.out) number after
    carry number after = answers_carried (alike one other e) (λ after h. (h.0, carried one other same after.out h.1))

-- what is right of the same sets
pub sheet_carried : {width height : ℕ} {A B : PointSet} → A ≈ B → (out : List ℕ) → IsSheet width height A out
    → IsSheet width height B out
sheet_carried same out s = record {
  pixels = λ row col a b. let i = s.pixels row col a b in let p = at (pos row) (pos col) in
      ((λ e. same.0 p (i.0 e)), (λ h. i.1 (same.1 p h)));
  padding = s.padding;
}

levels_carried : {width height : ℕ} {IsLevel IsOther : Point → ℕ → Type 0}
    → ((p : Point) (level : ℕ) → IsLevel p level → IsOther p level) → (out : List ℕ)
    → AreLevels width height IsLevel out → AreLevels width height IsOther out
levels_carried {width} same out s = record {
  levels = λ row col a b. same (at (pos row) (pos col)) _ (s.levels row col a b);
  size = s.size;
}

-- THE FOUR CALLS
pub padding_changes_nothing : (input : Input) (bytes : List ℕ) (lent : Buffers) → PaddingIgnored input bytes lent
padding_changes_nothing input bytes lent = record {
  opens = λ size. ignores input (λ sheet. open_refusals input sheet bytes size lent) (λ one other e. rw e)
      (λ one other same. sheet_carried (opened_same (sets one other same) element size))
      (λ sheet. sheet_one input.width input.height _);
  closes = λ size. ignores input (λ sheet. close_refusals input sheet bytes size lent) (λ one other e. rw e)
      (λ one other same. sheet_carried (closed_same (sets one other same) element size))
      (λ sheet. sheet_one input.width input.height _);
  opening_levels = ignores input (λ sheet. opening_refusals input sheet bytes lent) (λ one other e. rw e)
      (λ one other same. levels_carried (answer_same (sets one other same) element opening_levels))
      (λ sheet. levels_one input.width input.height _ (λ p m n. last_unique));
  closing_levels = λ cap. ignores input (λ sheet. closing_refusals input sheet bytes cap lent) (λ one other e. rw e)
      (λ one other same. levels_carried (answer_same (sets one other same) element (closing_levels cap)))
      (λ sheet. levels_one input.width input.height _ (λ p m n. first_unique));
}
  where
    sets : (one other : List ℕ) → SamePixels input.width input.height one other
        → foreground_of input one ≈ foreground_of input other
    sets one other same = same_set input.width input.height one other same

    element : element_of input bytes ≈ element_of input bytes
    element = itself (element_of input bytes)
