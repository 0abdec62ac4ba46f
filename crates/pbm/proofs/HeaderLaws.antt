-- Reading the header, step by step: the places that the code goes through are the places where the definition cuts the file.
use Prim.Native.Nat.{ℕ, ◌+◌, ◌≤◌, ◌<◌, min}
use native.Mathlib.Decide.{dec_lt, ℕ_discrete}
use native.Mathlib.Omega.{arith}
use mathlib.Core.Path.{◌≡◌, refl, sym, ap, ap₂, ◌∙◌}
use mathlib.Core.Bool.{Bool, true, false, not, ◌&&◌, true≢false, false≢true}
use mathlib.Core.Logic.{◌≢◌}
use mathlib.Core.List.{List, [], ◌∷◌}
use lib.Dec.{eqb}
use lib.ListN.{length, drop, length-drop}
use lib.Seq.{drop-drop}
use Rattle.std.proofs.Math.Bool.{and-true}
use borrow.Author.Tests.{lt-ltb, eq-eqb, ne_eqb, not-true, not-false}
use Rattle.std.proofs.Common.{Bor, Option, None, Some, MatchOption}
use Rattle.std.proofs.lemmas.Grind.{get_or_default_zero}
use Rattle.std.specs.List.{starts_with}
use Rattle.std.specs.Slice.{IsItemAt}
use Rattle.basics.specs.Limits.{longest_side}
use Rattle.basics.specs.Refusals.{first}
use Rattle.sheet.specs.Sheets.{is_side_out, frame_refusals}
use Rattle.sheet.proofs.FrameLaws.{frame_sides}
use Rattle.decimal.specs.Numbers.{is_digit, value, digit_run}
use Rattle.pbm.specs.Header.{is_white, white_run, after_white, is_none, missing, number, field, begins_p4, broken, whole, header}
use Rattle.pbm.specs.Steps.{amount_end, FieldRead, HeaderRead}
use Rattle.pbm.proofs.RunLaws.{run_short, run_none, run_there, digit_run_lem}

-- "P4"
pub p4_short : (file : List ℕ) → length file < 2 → false ≡ begins_p4 file
unfolding begins_p4
p4_short [] l = refl
p4_short (a ∷ []) l = go (eqb a 80)
  where
    go : (b : Bool) → false ≡ b && false
    go true = refl
    go false = refl
p4_short (a ∷ b ∷ rest) l = absurd (omega arith)

module _ (file : List ℕ) where
  pub p4_long : begins_p4 file ≡ true → 2 ≤ length file
  p4_long e = go (dec_lt (length file) 2)
    where
      go : Dec (length file < 2) → 2 ≤ length file
      go (yes l) = absurd (false≢true (p4_short file l ∙ e))
      go (no l) = omega arith

eqb_turned : (m n : ℕ) → eqb m n ≡ eqb n m
eqb_turned m n = go (ℕ_discrete m n)
  where
    go : Dec (m ≡ n) → eqb m n ≡ eqb n m
    go (yes e) = rw e
    go (no k) = ne_eqb m n k ∙ sym (ne_eqb n m (λ e. k (sym e)))

pub p4_is : (file : List ℕ) → starts_with eqb file (80 ∷ 52 ∷ []) ≡ begins_p4 file
unfolding begins_p4
p4_is [] = refl
p4_is (a ∷ []) = rw (eqb_turned 80 a)
p4_is (a ∷ b ∷ rest) = rw (eqb_turned 80 a, eqb_turned 52 b, and-true)

-- a number: white from `at` to `start`, digits from there to `next`
module _ (file : List ℕ) (at start : ℕ) (e : start ≡ at + length (white_run (drop at file))) where
  after_white_lem : drop start file ≡ after_white (drop at file)
  after_white_lem = ap (λ k. drop k file) e ∙ sym (drop-drop (length (white_run (drop at file))) at file)

  pub field_without_white : start ≡ at → field (drop at file) ≡ missing
  unfolding field
  field_without_white z = rw (eq-eqb (length (white_run (drop at file))) 0 (omega arith))

  module _ (next : ℕ) (f : next ≡ start + length (digit_run (drop start file))) where
    digit_row : digit_run (drop start file) ≡ digit_run (after_white (drop at file))
    digit_row = ap digit_run after_white_lem

    pub field_without_digits : start ≢ at → next ≡ start → field (drop at file) ≡ missing
    unfolding field
    field_without_digits n z =
        rw (
          ne_eqb (length (white_run (drop at file))) 0 (λ k. n (omega arith)),
          ← digit_row,
          eq-eqb (length (digit_run (drop start file))) 0 (omega arith),
        )

    field_number : start ≢ at → next ≢ start → field (drop at file) ≡ number (value (digit_run (drop start file))) (drop next file)
    unfolding field
    field_number n m =
        let r : drop next file ≡ drop (length (digit_run (drop start file))) (drop start file) = ap (λ k. drop k file) f
        ∙ sym (drop-drop (length (digit_run (drop start file))) start file) in
        rw (
          ne_eqb (length (white_run (drop at file))) 0 (λ k. n (omega arith)),
          r,
          ← after_white_lem,
          ne_eqb (length (digit_run (drop start file))) 0 (λ k. m (omega arith)),
        )

    next_within : start ≤ length file → next ≤ length file
    next_within l = let s = run_short is_digit (drop start file) in let d = length-drop start file in
        let r = ap length (digit_run_lem (drop start file)) in omega arith

    pub field_found : (amount : ℕ) → start ≤ length file → start ≢ at → next ≢ start
        → amount ≡ min (value (digit_run (drop start file))) amount_end → FieldRead file at true amount next
    field_found amount l n m e =
        record {
          within = next_within l;
          lost = λ z. absurd (true≢false z);
          there = λ _. (value (digit_run (drop start file)), field_number n m, e);
        }

  pub start_within : at ≤ length file → start ≤ length file
  start_within l = let s = run_short is_white (drop at file) in let d = length-drop at file in omega arith

pub field_lost : (file : List ℕ) (at : ℕ) → field (drop at file) ≡ missing → FieldRead file at false 0 0
field_lost file at e = record { within = omega arith; lost = λ _. e; there = λ z. absurd (false≢true z) }

-- the header: where it breaks, and where it is whole
module _ (file : List ℕ) (p : begins_p4 file ≡ true) where
  pub without_width : field (drop 2 file) ≡ missing → header file ≡ broken
  unfolding header
  without_width e = rw (p, e)

  module _ (width : ℕ) (after_width : List ℕ) (e : field (drop 2 file) ≡ number width after_width) where
    pub without_height : field after_width ≡ missing → header file ≡ broken
    unfolding header
    without_height f = rw (p, e, f)

    module _ (height : ℕ) (after_height : List ℕ) (f : field after_width ≡ number height after_height) where
      pub without_end : is_none (white_run after_height) ≡ true → header file ≡ broken
      unfolding header
      without_end g = rw (p, e, f, g)

      pub header_whole : is_none (white_run after_height) ≡ false → header file ≡ whole width height (drop 1 after_height)
      unfolding header
      header_whole g = rw (p, e, f, g)

-- a side that was cut is out as it was
side_far : (side : ℕ) → longest_side < side → is_side_out side ≡ true
unfolding is_side_out
side_far side l = rw (ne_eqb side 0 (λ z. omega arith), lt-ltb longest_side side l)

side_cut : (side : ℕ) → is_side_out (min side amount_end) ≡ is_side_out side
side_cut side = go (dec_lt amount_end side)
  where
    go : Dec (amount_end < side) → is_side_out (min side amount_end) ≡ is_side_out side
    go (yes l) = side_far (min side amount_end) (omega arith) ∙ sym (side_far side (omega arith))
    go (no l) = let e : min side amount_end ≡ side = omega arith in ap is_side_out e

-- is there a white byte at a place?
pub white_there : (file : List ℕ) (at : ℕ) (byte : Option (Bor ℕ)) (white : Bool) → IsItemAt file at byte
    → MatchOption byte (white ≡ false) (λ x. white ≡ is_white x.now) → white ≡ not (is_none (white_run (drop at file)))
white_there file at None white item e = e ∙ sym (ap not (run_none is_white file at item.3))
white_there file at (Some x) white item e =
    let l = item.3.0 in
    e ∙ ap is_white (item.1 ∙ get_or_default_zero file at x.now l) ∙ run_there is_white file at l

-- the answers of the header's step
module _ (file : List ℕ) where
  pub header_21 : begins_p4 file ≡ false → HeaderRead file 21 0 0 0
  header_21 p = record { first_is = rw p; accepted = λ z. absurd (omega arith) }

  module _ (p : begins_p4 file ≡ true) where
    header_22 : header file ≡ broken → HeaderRead file 22 0 0 0
    header_22 e = record { first_is = rw (p, e); accepted = λ z. absurd (omega arith) }

    header_2 : (refusal width height at exact_width exact_height : ℕ) → at ≤ length file
        → header file ≡ whole exact_width exact_height (drop at file)
        → width ≡ min exact_width amount_end → height ≡ min exact_height amount_end → refusal ≡ first (frame_refusals width height)
        → HeaderRead file refusal width height at
    header_2 refusal width height at exact_width exact_height l e m n r = record {
      first_is = r ∙ (rw (p, e, m, n, side_cut exact_width, side_cut exact_height));
      accepted = λ z.
          let s = frame_sides width height (sym r ∙ z) in
          let a : exact_width ≡ width = omega arith in
          let b : exact_height ≡ height = omega arith in
          (l, e ∙ ap₂ (λ w h. whole w h (drop at file)) a b);
    }

    -- the two numbers as they were read
    pub lost_width : FieldRead file 2 false 0 0 → HeaderRead file 22 0 0 0
    lost_width f = header_22 (without_width file p (f.lost refl))

    module _ {width gap : ℕ} (f : FieldRead file 2 true width gap) where
      pub lost_height : FieldRead file gap false 0 0 → HeaderRead file 22 0 0 0
      lost_height g = header_22 (without_height file p (f.there refl).0 (drop gap file) (f.there refl).1 (g.lost refl))

      module _ {height end : ℕ} (g : FieldRead file gap true height end) where
        pub lost_end : false ≡ not (is_none (white_run (drop end file))) → HeaderRead file 22 0 0 0
        lost_end z = header_22 (without_end file p (f.there refl).0 (drop gap file) (f.there refl).1 (g.there refl).0
            (drop end file) (g.there refl).1 (not-false _ (sym z)))

        module _ (z : true ≡ not (is_none (white_run (drop end file)))) where
          -- a white byte there is, so the raster begins within the file
          end_within : end + 1 ≤ length file
          end_within = go (dec_lt end (length file))
            where
              go : Dec (end < length file) → end + 1 ≤ length file
              go (yes l) = omega arith
              go (no l) = absurd (true≢false
                  (z ∙ ap not (run_none is_white file end (let h : length file ≤ end = omega arith in h))))

          pub found_header : (refusal : ℕ) → refusal ≡ first (frame_refusals width height)
              → HeaderRead file refusal width height (end + 1)
          found_header refusal r =
              header_2 refusal width height (end + 1) (f.there refl).0 (g.there refl).0 end_within
              (header_whole file p (f.there refl).0 (drop gap file) (f.there refl).1 (g.there refl).0 (drop end file)
              (g.there refl).1 (not-true _ (sym z)) ∙ ap (whole (f.there refl).0 (g.there refl).0) (drop-drop 1 end file))
              (f.there refl).2 (g.there refl).2 r

          pub lost_frame : (refusal : ℕ) → refusal ≢ 0 → refusal ≡ first (frame_refusals width height)
              → HeaderRead file refusal 0 0 0
          lost_frame refusal n r = record { first_is = (found_header refusal r).first_is; accepted = λ e. absurd (n e) }
