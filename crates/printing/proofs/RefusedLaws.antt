-- The text of a refusal: the word with its number, and LF after them. And a result that is no refusal has a value.
use Prim.Native.Nat.{ℕ, ◌+◌, ◌-◌, ◌≤◌, ◌<◌}
use native.Mathlib.Omega.{arith}
use mathlib.Core.Path.{◌≡◌, refl, ap, ap₂, ◌∙◌}
use mathlib.Core.List.{List, [], ◌∷◌, ◌++◌, append_assoc}
use lib.ListN.{length, take, drop, length-append}
use Rattle.std.specs.Prelude.{Result, Ok, Err, IsOk}
use Rattle.basics.specs.declared.refusal.Refusal.{Refusal}
use Rattle.basics.specs.Refusals.{number, value_or}
use Rattle.basics.proofs.RefusalLaws.{number_positive}
use Rattle.decimal.specs.Numbers.{digits}
use Rattle.decimal.proofs.NumberLaws.{length_below}
use Rattle.text.specs.Writing.{Wrote}
use Rattle.text.proofs.WroteLaws.{length_begun, take_begun, wrote_both, room_first, room_second, wrote_within}
use borrow.Rule.Slice.PartMut.{put_mid}
use Rattle.printing.specs.Printing.{text_room, refused_text}
use Rattle.printing.specs.Steps.{Prints, PrintsOr}

-- "refused" and a blank
abbrev word : List ℕ
word = 114 ∷ 101 ∷ 102 ∷ 117 ∷ 115 ∷ 101 ∷ 100 ∷ 32 ∷ []

module _ (number : ℕ) (out : List ℕ) (pre : (number < 4294967296) × (text_room ≤ length out)) where
  room : length ((word ++ digits number) ++ (10 ∷ [])) ≤ length out
  room =
      let p = pre.0 in
      let q = pre.1 in
      let d = length_below 10 number (omega arith) (let m : number < 10000000000 = omega arith in m) in
      let a = length-append (word ++ digits number) (10 ∷ []) in
      let b = length-append word (digits number) in
      omega arith

  pub number_room : length (word ++ digits number) ≤ length out
  number_room = room_first (word ++ digits number) (10 ∷ []) out room

  module _ (b : List ℕ) (m : ℕ) (p : Wrote (word ++ digits number) out b m) where
    pub end_room : 1 ≤ length (take (length b - m) (drop m b))
    end_room = room_second (word ++ digits number) (10 ∷ []) out room b m p

    pub end_within : m ≤ length b
    end_within = wrote_within (word ++ digits number) out b m number_room p

    pub refused_prints : (part : List ℕ) (n : ℕ) → Wrote (10 ∷ []) (take (length b - m) (drop m b)) part n
        → (m + n ≤ length out) × Prints (refused_text number) (m + n) (put_mid m (length b - m) b part)
    unfolding refused_text
    refused_prints part n q =
        let text = (word ++ digits number) ++ (10 ∷ []) in
        let w = wrote_both (word ++ digits number) (10 ∷ []) out b part m n p q in
        let e = w.0 in
        let r = room in
        let same = ap length w.1 ∙ length_begun text out room in (
          omega arith,
          (
            omega arith,
            ap₂ take w.0 w.1 ∙ take_begun text out ∙ append_assoc word (digits number) (10 ∷ []),
          ),
        )

-- where the number is that of acceptance
pub taken : {A : Type 0} (result : Result A Refusal) → number result ≡ 0 → IsOk result
taken (Ok value) z = refl
taken (Err refusal) z = absurd (number_positive refusal z)

pub prints_taken : (text before after : List ℕ) (result : Result ℕ Refusal) → number result ≡ 0
    → Prints text (value_or 0 result) after → PrintsOr text result before after
prints_taken text before after (Ok size) z p = p
prints_taken text before after (Err refusal) z p = absurd (number_positive refusal z)
