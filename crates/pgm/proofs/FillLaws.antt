-- A frame row's lines are filled. The first of the lines still begins with the number that begins it now, since what stays on it
-- follows a blank.
use Prim.Native.Nat.{ℕ, ◌+◌, ◌<◌}
use mathlib.Core.Path.{◌≡◌, refl, sym, ap, ◌∙◌}
use mathlib.Core.Bool.{Bool, true, false, cond}
use mathlib.Core.List.{List, [], ◌∷◌, ◌++◌, append-nil}
use borrow.Author.Tests.{leb-false}
use native.Mathlib.Omega.{arith}
use lib.ListN.{length}
use Rattle.decimal.specs.Numbers.{is_digit, digits, digit_run}
use Rattle.decimal.proofs.NumberLaws.{run_end, run_digits}
use Rattle.pgm.specs.Lines.{line_width, cut, ends_line, lines, Filled, last, before}
use Rattle.pgm.specs.PgmText.{stays, level_row, frame_row}
use Rattle.pgm.proofs.LineLaws.{Unbroken, cut_piece}
use Rattle.pgm.proofs.LevelLines.{digits_unbroken, text_stays, text_begins, longer_unbroken}

run_before_blank : (xs ys : List ℕ) → digit_run (xs ++ (32 ∷ ys)) ≡ digit_run xs
unfolding digit_run is_digit
run_before_blank [] ys = refl
run_before_blank (x ∷ xs) ys = ap (λ run. cond (is_digit x) (x ∷ run) []) (run_before_blank xs ys)

run_of_number : (n : ℕ) → digit_run (digits n) ≡ digits n
run_of_number n = ap digit_run (sym (append-nil (digits n))) ∙ run_digits n [] run_end

-- the lines of a text that goes on after a line begun
record Filling (begun text : List ℕ) : Type 0 where
  first : List ℕ
  others : List (List ℕ)
  is : lines text ≡ first ∷ others
  filled : Filled (first ∷ others)
  run : digit_run first ≡ digit_run begun

filling_last : (begun : List ℕ) → Unbroken begun → Filling begun (begun ++ (10 ∷ []))
unfolding cut ends_line
filling_last begun u = record { first = begun; others = []; is = cut_piece ends_line 10 [] u refl; filled = last; run = refl }

module _ (begun : List ℕ) (n : ℕ) (rest : List ℕ) where
  filling_stays : stays (length begun) (length (digits n)) ≡ true
      → Filling (begun ++ (32 ∷ digits n)) ((begun ++ (32 ∷ digits n)) ++ level_row (length (begun ++ (32 ∷ digits n))) rest)
      → Filling begun (begun ++ level_row (length begun) (n ∷ rest))
  filling_stays e h = record {
    first = h.first;
    others = h.others;
    is = ap lines (sym (text_stays begun n rest e)) ∙ h.is;
    filled = h.filled;
    run = h.run ∙ run_before_blank begun (digits n);
  }

  filling_begins : stays (length begun) (length (digits n)) ≡ false → Unbroken begun
      → Filling (digits n) (digits n ++ level_row (length (digits n)) rest)
      → Filling begun (begun ++ level_row (length begun) (n ∷ rest))
  unfolding stays ends_line
  filling_begins e u h =
      let past = leb-false (length begun + 1 + length (digits n)) line_width e in
      let size = ap length (h.run ∙ run_of_number n) in
      let more : line_width < length begun + 1 + length (digit_run h.first) = omega arith in
      record {
        first = begun;
        others = h.first ∷ h.others;
        is =
            ap lines (sym (text_begins begun n rest e))
            ∙ cut_piece ends_line 10 (digits n ++ level_row (length (digits n)) rest) u refl
            ∙ ap (λ list. begun ∷ list) h.is;
        filled = before more h.filled;
        run = refl;
      }

rest_filling : (begun rest : List ℕ) → Unbroken begun → Filling begun (begun ++ level_row (length begun) rest)
unfolding level_row
rest_filling begun [] u = filling_last begun u
rest_filling begun (n ∷ rest) u =
    go (stays (length begun) (length (digits n))) refl (rest_filling (begun ++ (32 ∷ digits n)) rest)
    (rest_filling (digits n) rest)
  where
    go : (b : Bool) → stays (length begun) (length (digits n)) ≡ b
        → (Unbroken (begun ++ (32 ∷ digits n))
        → Filling (begun ++ (32 ∷ digits n)) ((begun ++ (32 ∷ digits n)) ++ level_row (length (begun ++ (32 ∷ digits n))) rest))
        → (Unbroken (digits n) → Filling (digits n) (digits n ++ level_row (length (digits n)) rest))
        → Filling begun (begun ++ level_row (length begun) (n ∷ rest))
    go true e on next = filling_stays begun n rest e (on (longer_unbroken begun n rest u))
    go false e on next = filling_begins begun n rest e u (next (digits_unbroken n))

-- NO LINE ENDS EARLY
pub row_filled : (row : List ℕ) → 0 < length row → Filled (lines (frame_row row))
unfolding frame_row
row_filled [] l = absurd (omega arith)
row_filled (n ∷ rest) l = let h = rest_filling (digits n) rest (digits_unbroken n) in rw h.is h.filled
