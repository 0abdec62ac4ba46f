-- Writing: the header in its pieces and the raster after it make the text at the front of the output; then each answer of the
-- call.
use Prim.Native.Nat.{ℕ, ◌+◌, ◌-◌, ◌*◌, ◌≤◌, ◌<◌}
use native.Mathlib.Omega.{arith}
use mathlib.Core.Path.{◌≡◌, refl, sym, ap, ap₂, ◌∙◌}
use mathlib.Core.Logic.{◌≢◌}
use mathlib.Core.List.{List, [], ◌∷◌, ◌++◌, append_assoc}
use lib.ListN.{length, take, drop, length-append, length-drop}
use borrow.Author.Tests.{lt-ltb, le-ltb}
use borrow.Rule.Slice.PartMut.{put_mid}
use Rattle.basics.specs.Limits.{longest_side}
use Rattle.basics.specs.Refusals.{first}
use Rattle.basics.proofs.RefusalLaws.{first_accepted, judged_first, refuses, accepts, rule_unique}
use Rattle.decimal.specs.Numbers.{digits}
use Rattle.decimal.proofs.NumberLaws.{length_below}
use Rattle.sheet.specs.Sheets.{row_bytes, sheet_refusals}
use Rattle.sheet.proofs.FrameLaws.{frame_sides, raster_small, sheet_accepted}
use Rattle.text.specs.Writing.{begun, Wrote}
use Rattle.text.proofs.WroteLaws.{length_begun, wrote_both, part_is}
use Rattle.pbm.specs.Pbm.{cleared, pbm_header, pbm_text, room_refusals, WritesPbm}
use Rattle.pbm.proofs.PackingLaws.{length_cleared}

pub length_header : (width height : ℕ) → length (pbm_header width height) ≡ 5 + length (digits width) + length (digits height)
unfolding pbm_header
length_header width height =
    let a = length-append (digits width) (32 ∷ (digits height ++ (10 ∷ []))) in
    let b = length-append (digits height) (10 ∷ []) in
    omega arith

-- the header in the pieces that are written: "P4", LF and the sides, then LF
pub header_pieces : (width height : ℕ)
    → (((80 ∷ 52 ∷ 10 ∷ []) ++ digits width) ++ ((32 ∷ []) ++ digits height)) ++ (10 ∷ []) ≡ pbm_header width height
unfolding pbm_header
header_pieces width height = simp append_assoc

module _ (width height : ℕ) (sheet out : List ℕ) where
  -- NO SECOND OUTCOME
  pub write_unique : (m n size size' : ℕ) (x y : List ℕ) → WritesPbm width height sheet out m size x
      → WritesPbm width height sheet out n size' y → (m ≡ n) × (◌≡◌ {A = ℕ × List ℕ} (size, x) (size', y))
  write_unique m n size size' x y = rule_unique m n (size, x) (size', y)

  pub sheet_refuses : {number : ℕ} → number ≢ 0 → number ≡ first (sheet_refusals width height sheet)
      → WritesPbm width height sheet out number 0 out
  sheet_refuses {number} n e = refuses number n
      (judged_first (sheet_refusals width height sheet) (room_refusals (length (pbm_text width height sheet)) out) n e)

  module _ (e : 0 ≡ first (sheet_refusals width height sheet)) where
    sheet_size_lem : length sheet ≡ height * row_bytes width
    sheet_size_lem = (sheet_accepted width height sheet (sym e)).1

    pub sheet_in_lem : (1 ≤ width) × (width ≤ longest_side) × (height ≤ longest_side)
    sheet_in_lem = let s = frame_sides width height (sheet_accepted width height sheet (sym e)).0 in (s.0.0, s.0.1, s.1.1)

    -- the sum of the sizes is far below a word
    pub small : (length (digits width) ≤ 4) × (length (digits height) ≤ 4) × (length sheet ≤ longest_side * 512)
    small =
        let i = sheet_in_lem in
        let q = sheet_size_lem in
        let r = raster_small width height i.1 i.2 in
        (length_below 4 width (omega arith) (omega arith), length_below 4 height (omega arith) (omega arith), omega arith)

    module _ {size : ℕ} (s : size ≡ 5 + length (digits width) + length (digits height) + length sheet) where
      size_is : size ≡ length (pbm_text width height sheet)
      unfolding pbm_text
      size_is =
          let a = length-append (pbm_header width height) (cleared width height sheet) in
          let h = length_header width height in
          let l = length_cleared width height sheet in
          let q = sheet_size_lem in
          omega arith

      room_left : first (sheet_refusals width height sheet ++ room_refusals (length (pbm_text width height sheet)) out)
          ≡ first (room_refusals (length (pbm_text width height sheet)) out)
      room_left = first_accepted (sheet_refusals width height sheet) (room_refusals (length (pbm_text width height sheet)) out) tt
          (sym e)

      pub write_room_refuses : length out < size → WritesPbm width height sheet out 11 0 out
      write_room_refuses l = let q = size_is in
          refuses 11 (λ n. omega arith)
          (sym (room_left ∙ rw (lt-ltb (length out) (length (pbm_text width height sheet)) (omega arith))))

      module _ (l : size ≤ length out) where
        pub header_room : length (pbm_header width height) ≤ length out
        header_room = let h = length_header width height in omega arith

        -- the header stands in the output; the rest is lent for the raster
        module _ {at : ℕ} {now : List ℕ} (h : Wrote (pbm_header width height) out now at) where
          pub part_room : height * row_bytes width ≤ length (take (length now - at) (drop at now))
          part_room =
              let o = ap length h.1 ∙ length_begun (pbm_header width height) out header_room in
              let p = h.0 in
              let d = ap length (part_is at now) ∙ length-drop at now in
              let n = length_header width height in
              let q = sheet_size_lem in
              omega arith

          pub write_accepts : {part : List ℕ} → part ≡ begun (cleared width height sheet) (take (length now - at) (drop at now))
              → WritesPbm width height sheet out 0 size (put_mid at (length now - at) now part)
          unfolding pbm_text
          write_accepts {part} q =
              let o = size_is in
              let w = wrote_both (pbm_header width height) (cleared width height sheet) out now part at _ h (refl, q) in
              accepts (size, put_mid at (length now - at) now part)
              (room_left ∙ rw (le-ltb (length out) (length (pbm_text width height sheet)) (omega arith)))
              (ap₂ (λ n text. (n, text)) size_is w.1)
