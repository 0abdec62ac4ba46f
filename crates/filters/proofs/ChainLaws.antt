-- Chained calls fold. The sheet that a call answers means the filtered set clipped to the frame, so the next call filters that,
-- and the grid's law folds the two; the larger size is one of the two, and is accepted as that one is.
-- One law serves both filters: it asks only how they fold on the grid, and which sizes they refuse.
use Prim.Native.Nat.{ℕ, ◌≤◌, max}
use native.Mathlib.Decide.{dec_le}
use native.Mathlib.Omega.{arith}
use mathlib.Core.Path.{◌≡◌, refl, sym, ap, subst, ◌∙◌}
use mathlib.Core.List.{List, [], ◌∷◌, ◌++◌}
use lib.Dec.{T, ltb}
use lib.ListN.{length, length-replicate}
use borrow.Author.Tests.{eq-eqb}
use Rattle.basics.specs.Limits.{largest_size, highest_cap}
use Rattle.basics.specs.Refusals.{Refusal, first, Answers}
use Rattle.basics.proofs.RefusalLaws.{numbered, first_both, first_accepted}
use Rattle.grid.specs.Points.{origin}
use Rattle.grid.specs.Sets.{PointSet, opened, closed, ◌⊆◌, ◌≈◌}
use Rattle.grid.specs.Figures.{frame}
use Rattle.grid.specs.Starred.{clipped}
use Rattle.grid.proofs.ReachLaws.{figure_in}
use Rattle.grid.proofs.SameSets.{itself, and_so, opened_same, closed_same}
use Rattle.grid.proofs.ChainLaws.{clipped_openings_fold, clipped_closings_fold}
use Rattle.element.specs.Elements.{byte_at, element_refusals}
use Rattle.element.proofs.Accepted.{accepted_origin}
use Rattle.sheet.specs.Sheets.{pixel, foreground}
use Rattle.sheet.proofs.PixelLaws.{length-packed}
use Rattle.sheet.proofs.SamePixelsLaws.{same_refusals}
use Rattle.run.proofs.Starts.{judged}
use Rattle.run.specs.declared.Input.{Input}
use Rattle.filters.specs.Filters.{Buffers, Cleared, IsSheet, foreground_of, element_of, input_refusals, is_canvas_wrong}
use Rattle.filters.specs.Filters.{is_work_wrong, is_out_wrong, frame_size, closing_size, sheet_size}
use Rattle.filters.specs.StarredFilters.{Fits, left, Gives}
use Rattle.filters.specs.Chains.{SizedCall, Chain, last, next, largest, ChainsFold, CallsFold}
use Rattle.filters.proofs.Uniqueness.{sheet_one, gives}
use Rattle.filters.proofs.PaddingLaws.{sheet_carried}

-- a set's sheet means the set clipped to the frame
sheet_means : (width height : ℕ) (S : PointSet) (out : List ℕ) → IsSheet width height S out
    → foreground width height out ≈ clipped width height S
sheet_means width height S out is = (
  (λ x (row, col, a, b, one, e). (subst S (sym e) ((is.pixels row col a b).0 one), (row, col, a, b, e))),
  (λ x (h, (row, col, a, b, e)). (row, col, a, b, (is.pixels row col a b).1 (subst S e h), e)),
)

-- ONE LAW: a filter of sets by a size, the refusals of a size, and how long the work buffers for it are
module _ (input : Input) (bytes : List ℕ) (F : PointSet → ℕ → PointSet) (own : ℕ → List Refusal) (work : ℕ → ℕ) where
  abbrev w : ℕ
  w = input.width

  abbrev h : ℕ
  h = input.height

  abbrev IsFiltered : List ℕ → ℕ → List ℕ → Type 0
  IsFiltered sheet n out = IsSheet w h (F (foreground_of input sheet) n) out

  -- 2 to 7, those of the size, 10 and 11
  abbrev later : ℕ → Buffers → List Refusal
  later n lent = (10, is_work_wrong (work n) lent) ∷ (11, is_out_wrong (sheet_size input) lent) ∷ []

  abbrev refusals : List ℕ → ℕ → Buffers → List Refusal
  refusals sheet n lent = input_refusals input sheet bytes ++ (own n ++ later n lent)

  abbrev Filter : SizedCall
  Filter sheet n lent = Answers (refusals sheet n lent) lent (λ after. Cleared lent after × IsFiltered sheet n after.out)

  module _ (numbers : (n : ℕ) → T (numbered (own n))) where
    -- an accepted call shows that its input and its size are accepted; with these, buffers that fit are
    taken : (sheet : List ℕ) (n : ℕ) (lent : Buffers) → first (refusals sheet n lent) ≡ 0
        → (first (input_refusals input sheet bytes) ≡ 0) × (first (own n) ≡ 0)
    taken sheet n lent z =
        let p = first_both (input_refusals input sheet bytes) (own n ++ later n lent) tt z in
        (p.0, (first_both (own n) (later n lent) (numbers n) p.1).0)

    fitting : (sheet : List ℕ) (n : ℕ) (lent : Buffers) → first (input_refusals input sheet bytes) ≡ 0 → first (own n) ≡ 0
        → Fits (work n) (sheet_size input) lent → first (refusals sheet n lent) ≡ 0
    fitting sheet n lent z s fits =
        first_accepted (input_refusals input sheet bytes) (own n ++ later n lent) tt z
        ∙ first_accepted (own n) (later n lent) (numbers n) s
        ∙ (rw (
          eq-eqb (length lent.first) (work n) fits.first,
          eq-eqb (length lent.second) (work n) fits.second,
          eq-eqb (length lent.out) (sheet_size input) fits.out,
        ))

    out_size : (sheet : List ℕ) (n : ℕ) (out : List ℕ) → IsFiltered sheet n out → length out ≡ sheet_size input
    out_size sheet n out is = ap length is.padding ∙ length-packed w h (pixel w out)

    -- the larger size is one of the two
    larger_taken : (n m : ℕ) → first (own n) ≡ 0 → first (own m) ≡ 0 → first (own (max n m)) ≡ 0
    larger_taken n m p q = go (dec_le n m)
      where
        go : Dec (n ≤ m) → first (own (max n m)) ≡ 0
        go (yes l) = let e : max n m ≡ m = omega arith in rw e q
        go (no f) = let e : max n m ≡ n = omega arith in rw e p

    -- with an input and a size that are accepted, the right sheet is given
    given : (sheet : List ℕ) (n : ℕ) (out : List ℕ) → first (input_refusals input sheet bytes) ≡ 0 → first (own n) ≡ 0
        → IsFiltered sheet n out → Gives (Filter sheet n) (work n) out
    given sheet n out z s is =
        gives (refusals sheet n) (IsFiltered sheet n) (sheet_one w h (F (foreground_of input sheet) n)) (work n) out
        (λ lent fits. fitting sheet n lent z s (subst (λ size. Fits (work n) size lent) (out_size sheet n out is) fits)) is

    module _ (same : (A B : PointSet) (n : ℕ) → A ≈ B → F A n ≈ F B n)
        (fold : element_of input bytes origin → (A : PointSet) → A ⊆ frame w h → (n m : ℕ)
        → F (clipped w h (F A n)) m ≈ F A (max n m)) where
      folds : (sheet : List ℕ) (n m : ℕ) (lent after other x : Buffers) → Filter sheet n lent 0 after
          → Filter after.out m other 0 x → Gives (Filter sheet (max n m)) (work (max n m)) x.out
      folds sheet n m lent after other x p q =
          let t = taken sheet n lent (sym p.refusal) in
          let u = taken after.out m other (sym q.refusal) in
          let z = judged w h sheet input.side bytes t.0 in
          let A = foreground_of input sheet in
          let second = same (foreground_of input after.out) (clipped w h (F A n)) m
          (sheet_means w h (F A n) after.out (p.accepted refl).1) in
          let once = fold (accepted_origin input.side bytes z.element) A (figure_in w h (pixel w sheet)) n m in
          given sheet (max n m) x.out t.0 (larger_taken n m t.1 u.1)
          (sheet_carried (and_so second once) x.out (q.accepted refl).1)

      -- a longer chain folds from its end: what stands after is one call, and folds with the one before
      shortens : (sheet sizes answer : List ℕ) → Chain Filter sheet sizes answer
          → Gives (Filter sheet (largest sizes)) (work (largest sizes)) answer
      shortens _ _ _ (last sheet n lent after p) =
          let t = taken sheet n lent (sym p.refusal) in
          let alone : max n 0 ≡ n = omega arith in
          rw alone (given sheet n after.out t.0 t.1 (p.accepted refl).1)
      shortens _ _ _ (next sheet n lent after sizes answer p rest) =
          let k = largest sizes in
          let room = left (work k) answer in
          let fits : Fits (work k) (length answer) room =
          record { first = length-replicate (work k) 0; second = length-replicate (work k) 0; out = refl } in
          folds sheet n k lent after room room p (shortens after.out sizes answer rest room fits).0

      chains_fold : ChainsFold Filter work
      chains_fold = record {
        -- what is passed on has the length of the sheet, and so is refused as the sheet is
        passes = λ sheet n m lent after other x y i j p q s.
            let z = judged w h sheet input.side bytes (taken sheet n lent (sym p.refusal)).0 in
            let e = same_refusals w h after.out sheet
            (out_size sheet n after.out (p.accepted refl).1 ∙ sym z.sheet_size_lem) in
            q.refusal ∙ ap (λ list. first ((list ++ element_refusals input.side bytes) ++ (own m ++ later m other))) e
            ∙ sym s.refusal;
        folds = folds;
        shortens = shortens;
      }

-- THE TWO FILTERS
pub calls_fold : (input : Input) (bytes : List ℕ) → CallsFold input bytes
calls_fold input bytes = record {
  openings = chains_fold input bytes (λ A. opened A K) (λ n. (8, ltb largest_size n) ∷ []) (λ n. frame_size input) (λ n. tt)
      (λ A B n s. opened_same s (itself K) n)
      (λ o A inside. clipped_openings_fold input.width input.height A K inside);
  closings = chains_fold input bytes (λ A. closed A K) (λ n. (8, ltb highest_cap n) ∷ (9, is_canvas_wrong input n) ∷ [])
      (closing_size input) (λ n. tt) (λ A B n s. closed_same s (itself K) n)
      (λ o A inside. clipped_closings_fold input.width input.height A inside input.side (byte_at input.side bytes)
      origin o);
}
  where
    K : PointSet
    K = element_of input bytes
