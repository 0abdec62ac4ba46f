-- The answers of writing a finished run's picture, each from the tests that led to it, and that no second outcome meets its
-- contract.
use Prim.Native.Nat.{ℕ, ◌+◌, ◌*◌, ◌≤◌, ◌<◌, max}
use native.Mathlib.Omega.{arith}
use mathlib.Core.Path.{◌≡◌, sym, ap, ◌∙◌}
use mathlib.Core.Bool.{Bool, true, false, not}
use mathlib.Core.Logic.{◌≢◌}
use mathlib.Core.List.{List, [], ◌∷◌}
use lib.Dec.{eqb, ltb}
use lib.ListN.{length}
use borrow.Author.Tests.{lt-ltb, le-ltb, eq-eqb, ne_eqb, eqb-true, ltb-false, not-false}
use Rattle.basics.specs.Bounds.{any_above}
use Rattle.basics.specs.Refusals.{Refusal, first}
use Rattle.basics.proofs.RefusalLaws.{passed, rule_unique}
use Rattle.row.specs.RowRule.{none}
use Rattle.run.specs.declared.Record.{Record}
use Rattle.run.specs.declared.kinds.Kind.{Kind}
use Rattle.run.specs.declared.kinds.Kind.TheVariants.{Eroding, Dilating, Cropping}
use Rattle.run.specs.Kinds.{kind_of, by_kind}
use Rattle.run.specs.Records.{due, foreign, record_bad}
use Rattle.run.specs.Continuing.{is_done}
use Rattle.run.proofs.RecordLaws.{Sound, sound, not_bad}
use Rattle.pgm.specs.declared.Header.{Header}
use Rattle.pgm.specs.Writing.{level_end, picture_text, IsPicture}
use Rattle.pgm.specs.WritePgm.{maximum, header_of, picture, pgm_refusals, WritesPgm}
use Rattle.pgm.proofs.SizeLaws.{within_small, text_bound}

module _ (r : Record) (levels out : List ℕ) where
  -- the refusals from each place on
  abbrev from_rows : List Refusal
  from_rows = (13, not (is_done r)) ∷ []

  abbrev from_room : List Refusal
  from_room = (11, ltb (length out) (length (picture r levels))) ∷ from_rows

  abbrev from_count : List Refusal
  from_count = (10, not (eqb (length levels) (r.height * r.width))) ∷ from_room

  abbrev from_levels : List Refusal
  from_levels = (8, any_above (maximum r) levels) ∷ from_count

  -- the tests as the code makes them, each after those before it, of the header that the picture states
  module _ (sound : record_bad r ≡ false) {h : Header} (e : h ≡ header_of r) where
    above_is : {above : Bool} → above ≡ any_above h.maximum levels → {found : Bool} → above ≡ found
        → any_above (maximum r) levels ≡ found
    above_is a b = ap (λ (h : Header). any_above h.maximum levels) (sym e) ∙ sym a ∙ b

    module _ {above : Bool} (a : above ≡ any_above h.maximum levels) where
      pub refuse_level : above ≡ true → 8 ≡ first (pgm_refusals r levels out)
      refuse_level b = rw (sound, above_is a b)

      module _ (within : above ≡ false) where
        pub refuse_count : length levels ≢ r.height * r.width → 10 ≡ first (pgm_refusals r levels out)
        refuse_count n = rw (sound, above_is a within, ne_eqb (length levels) (r.height * r.width) n)

        module _ (c : length levels ≡ r.height * r.width) {size : ℕ} (s : size ≡ length (picture_text h levels)) where
          size_is : size ≡ length (picture r levels)
          size_is = s ∙ ap (λ (h : Header). length (picture_text h levels)) e

          pub refuse_room : length out < size → 11 ≡ first (pgm_refusals r levels out)
          refuse_room l = rw (
            sound,
            above_is a within,
            eq-eqb (length levels) (r.height * r.width) c,
            lt-ltb (length out) (length (picture r levels)) (rw size_is at l),
          )

          module _ (l : size ≤ length out) where
            past_room : {number : ℕ} → number ≡ first from_rows → number ≡ first (pgm_refusals r levels out)
            past_room f = rw (
              sound,
              above_is a within,
              eq-eqb (length levels) (r.height * r.width) c,
              le-ltb (length out) (length (picture r levels)) (rw size_is at l),
            ) f

            pub refuse_rows : h.done ≢ h.due → 13 ≡ first (pgm_refusals r levels out)
            refuse_rows n = past_room (rw (ne_eqb r.rows (due r) (rw e at n)))

            pub accept_picture : h.done ≡ h.due → 0 ≡ first (pgm_refusals r levels out)
            accept_picture d = past_room (rw (eq-eqb r.rows (due r) (rw e at d)))

  -- what an accepted call may rely on: each of its refusals was found not to apply
  pub picture_accepted : first (pgm_refusals r levels out) ≡ 0
      → (record_bad r ≡ false) × (length levels ≡ r.height * r.width) × (length (picture r levels) ≤ length out) ×
      (is_done r ≡ true)
  picture_accepted e =
      let counted = eqb (length levels) (r.height * r.width) in
      let short = ltb (length out) (length (picture r levels)) in
      let a = passed 1 (record_bad r) from_levels (λ z. omega arith) e in
      let b = passed 8 (any_above (maximum r) levels) from_count (λ z. omega arith) a.1 in
      let c = passed 10 (not counted) from_room (λ z. omega arith) b.1 in
      let d = passed 11 short from_rows (λ z. omega arith) c.1 in
      let f = passed 13 (not (is_done r)) [] (λ z. omega arith) d.1 in (
        a.0,
        eqb-true (length levels) (r.height * r.width) (not-false counted c.0),
        ltb-false (length out) (length (picture r levels)) d.0,
        not-false (is_done r) f.0,
      )

  pub write_pgm_unique : (m n : ℕ) (x y : ℕ × List ℕ) → WritesPgm r levels out m x → WritesPgm r levels out n y
      → (m ≡ n) × (x ≡ y)
  write_pgm_unique = rule_unique

-- a sound record's numbers are small
pub maximum_small : (r : Record) → foreign r ≡ false → maximum r < level_end
maximum_small r a = go (kind_of r) (sound r a)
  where
    go : (kind : Kind) → Sound r → by_kind kind (max r.width r.height) (r.cap + 1) none < level_end
    go Eroding s = let w = s.wide in let h = s.high in omega arith
    go Dilating s = let c = s.cap_small in omega arith
    go Cropping s = omega arith

module _ (r : Record) (levels : List ℕ) (a : record_bad r ≡ false) (size : length levels ≡ r.height * r.width) where
  pub sound_picture : IsPicture (header_of r) levels
  sound_picture =
      let b = not_bad r a in
      let s = sound r b.0 in
      let h = s.area_high in
      let d = b.1 in
      let l = maximum_small r b.0 in
      record {
        size = size;
        width_some = s.wide.0;
        width_most = s.wide.1;
        height_some = s.high.0;
        height_most = s.high.1;
        small_maximum = omega arith;
        small_done = omega arith;
        small_due = omega arith;
      }

  -- and so its text is short, where no level is above the maximum
  pub picture_short : any_above (maximum r) levels ≡ false → length (picture r levels) ≤ 43 + 6 * (r.height * r.width)
  picture_short b =
      text_bound r.width r.height (maximum r) r.rows (due r) levels sound_picture
      (within_small (maximum r) (maximum_small r (not_bad r a).0) levels b)
