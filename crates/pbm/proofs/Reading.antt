-- Reading: each answer of the call, from what its steps found. Where the header is whole its refusals are out of the way, and the
-- raster's and the room's are left.
use Prim.Native.Nat.{ℕ, ◌-◌, ◌*◌, ◌≤◌, ◌<◌}
use native.Mathlib.Omega.{arith}
use mathlib.Core.Path.{◌≡◌, refl, sym, ap, ap₂, subst, ◌∙◌}
use mathlib.Core.Logic.{◌≢◌}
use mathlib.Core.Bool.{true, false, not, ◌||◌, true≢false}
use mathlib.Core.List.{List, [], ◌∷◌, ◌++◌}
use lib.Dec.{ltb}
use lib.ListN.{length, take, drop}
use borrow.Author.Tests.{lt-ltb, le-ltb, ltb-false, not-false}
use Rattle.basics.specs.Limits.{longest_side}
use Rattle.basics.specs.Refusals.{first}
use Rattle.basics.proofs.RefusalLaws.{first_accepted, first_both, judged_first, passed, refuses, accepts, rule_unique}
use Rattle.sheet.specs.Sheets.{row_bytes, is_side_out, frame_refusals}
use Rattle.sheet.proofs.FrameLaws.{frame_sides}
use Rattle.pbm.specs.Header.{Header, broken, whole, begins_p4, header}
use Rattle.text.specs.Writing.{begun}
use Rattle.pbm.specs.Pbm.{cleared, is_broken, frame_of, header_refusals, raster_refusals, room_refusals, body_refusals}
use Rattle.pbm.specs.Pbm.{read_refusals}
use Rattle.pbm.specs.Pbm.{read_answer, ReadsPbm}
use Rattle.pbm.specs.Steps.{HeaderRead}
use Rattle.text.proofs.WroteLaws.{part_is, take_begun}
use Rattle.pbm.proofs.PackingLaws.{length_cleared}

-- the raster's refusals
module _ (width height : ℕ) (raster : List ℕ) where
  pub raster_exact : length raster ≡ height * row_bytes width → 0 ≡ first (raster_refusals width height raster)
  raster_exact e = rw (
    le-ltb (length raster) (height * row_bytes width) (omega arith),
    le-ltb (height * row_bytes width) (length raster) (omega arith),
  )

  raster_accepted : first (raster_refusals width height raster) ≡ 0 → length raster ≡ height * row_bytes width
  raster_accepted z =
      let p = passed 23 (ltb (length raster) (height * row_bytes width)) ((24, ltb (height * row_bytes width) (length raster)) ∷ [])
      (λ n. omega arith) z in
      let q = passed 24 (ltb (height * row_bytes width) (length raster)) [] (λ n. omega arith) p.1 in
      let a = ltb-false (length raster) (height * row_bytes width) p.0 in
      let b = ltb-false (height * row_bytes width) (length raster) q.0 in
      omega arith

-- of a whole header with an accepted frame, the raster's and the room's refusals are left
module _ (file out : List ℕ) {width height : ℕ} {raster : List ℕ} (p : begins_p4 file ≡ true)
    (e : header file ≡ whole width height raster) (f : first (frame_refusals width height) ≡ 0) where
  whole_left : first (read_refusals file out) ≡ first (raster_refusals width height raster ++ room_refusals (length raster) out)
  whole_left = rw (p, e, (passed 2 (is_side_out width || is_side_out height) [] (λ n. omega arith) f).0)

  whole_room : first (raster_refusals width height raster) ≡ 0
      → first (read_refusals file out) ≡ first (room_refusals (length raster) out)
  whole_room z = whole_left ∙ first_accepted (raster_refusals width height raster) (room_refusals (length raster) out) tt z

  pub whole_accepted : first (raster_refusals width height raster) ≡ 0 → length raster ≤ length out
      → first (read_refusals file out) ≡ 0
  whole_accepted z l = whole_room z ∙ rw (le-ltb (length out) (length raster) l)

module _ (file out : List ℕ) where
  -- NO SECOND OUTCOME
  pub read_unique : (m n : ℕ) (width height width' height' : ℕ) (x y : List ℕ) → ReadsPbm file out m width height x
      → ReadsPbm file out n width' height' y → (m ≡ n) × (◌≡◌ {A = ℕ × ℕ × List ℕ} (width, height, x) (width', height', y))
  read_unique m n width height width' height' x y =
      rule_unique m n (width, height, x) (width', height', y)

  pub header_refuses : {number width height at : ℕ} → HeaderRead file number width height at → number ≢ 0
      → ReadsPbm file out number 0 0 out
  header_refuses {number} r n = refuses number n
      (judged_first (header_refusals file) (body_refusals (header file) out) n r.first_is)

  module _ {width height at : ℕ} (r : HeaderRead file 0 width height at) where
    found : header file ≡ whole width height (drop at file)
    found = (r.accepted refl).1

    begins : (not (begins_p4 file) ≡ false) × (first ((22, is_broken (header file)) ∷ frame_of (header file)) ≡ 0)
    begins = passed 21 (not (begins_p4 file)) ((22, is_broken (header file)) ∷ frame_of (header file)) (λ n. omega arith)
        (sym r.first_is)

    p4 : begins_p4 file ≡ true
    p4 = not-false (begins_p4 file) begins.0

    frame_accepted : first (frame_refusals width height) ≡ 0
    frame_accepted = sym (ap (λ h. first (frame_of h)) found)
        ∙ (passed 22 (is_broken (header file)) (frame_of (header file)) (λ n. omega arith) begins.1).1

    pub frame_in : (1 ≤ width) × (width ≤ longest_side) × (height ≤ longest_side)
    frame_in = let s = frame_sides width height frame_accepted in (s.0.0, s.0.1, s.1.1)

    -- the raster was handed on as a part of the file
    module _ {judged : ℕ} (e : judged ≡ first (raster_refusals width height (take (length file - at) (drop at file)))) where
      judged_is : judged ≡ first (raster_refusals width height (drop at file))
      judged_is = e ∙ ap (λ raster. first (raster_refusals width height raster)) (part_is at file)

      pub raster_refuses : judged ≢ 0 → ReadsPbm file out judged 0 0 out
      raster_refuses n = refuses judged n
          (judged_first (raster_refusals width height (drop at file)) (room_refusals (length (drop at file)) out) n judged_is
          ∙ sym (whole_left file out p4 found frame_accepted))

    module _ (e : 0 ≡ first (raster_refusals width height (take (length file - at) (drop at file)))) where
      all_there : first (raster_refusals width height (drop at file)) ≡ 0
      all_there = sym (judged_is e)

      pub room_refuses : length out < length (take (length file - at) (drop at file)) → ReadsPbm file out 11 0 0 out
      room_refuses l = let p = ap length (part_is at file) in
          refuses 11 (λ n. omega arith)
          (sym (whole_room file out p4 found frame_accepted all_there
          ∙ rw (lt-ltb (length out) (length (drop at file)) (omega arith))))

      pub read_accepts : length (take (length file - at) (drop at file)) ≤ length out → {after : List ℕ}
          → after ≡ begun (cleared width height (take (length file - at) (drop at file))) out
          → ReadsPbm file out 0 width height after
      read_accepts l {after} h =
          let p = ap length (part_is at file) in
          accepts (width, height, after) (whole_accepted file out p4 found frame_accepted all_there (omega arith))
          (ap (λ text. (width, height, text)) (h ∙ ap (λ raster. begun (cleared width height raster) out) (part_is at file))
          ∙ sym (ap (λ h. read_answer h out) found))

-- WHAT WAS READ, where nothing was refused: a whole header with an accepted frame, and its raster, cleared, in front of the
-- output
pub record WasRead (file out : List ℕ) (width height : ℕ) (after : List ℕ) : Type 0 where
  pub raster : List ℕ
  pub header_is : header file ≡ whole width height raster
  pub frame_accepted : first (frame_refusals width height) ≡ 0
  pub size : length raster ≡ height * row_bytes width
  pub room : length raster ≤ length out
  pub sheet : after ≡ begun (cleared width height raster) out

pub was_read : {file out : List ℕ} {width height : ℕ} {after : List ℕ} → ReadsPbm file out 0 width height after
    → WasRead file out width height after
was_read {file} {out} {width} {height} {after} a =
    let rest = frame_of (header file) ++ body_refusals (header file) out in
    let p = passed 21 (not (begins_p4 file)) ((22, is_broken (header file)) ∷ rest) (λ n. omega arith) (sym a.refusal) in
    let q = passed 22 (is_broken (header file)) rest (λ n. omega arith) p.1 in
    go (header file) refl q.0 q.1 (a.accepted refl)
  where
    go : (h : Header) → header file ≡ h → is_broken h ≡ false → first (frame_of h ++ body_refusals h out) ≡ 0
        → ◌≡◌ {A = ℕ × ℕ × List ℕ} (width, height, after) (read_answer h out) → WasRead file out width height after
    go broken e b z q = absurd (true≢false b)
    go (whole w h raster) e b z q =
        let f = first_both (frame_refusals w h) (raster_refusals w h raster ++ room_refusals (length raster) out) tt z in
        let g = first_both (raster_refusals w h raster) (room_refusals (length raster) out) tt f.1 in
        let l = (passed 11 (ltb (length out) (length raster)) [] (λ n. omega arith) g.1).0 in
        subst (λ (x : ℕ × ℕ × List ℕ). WasRead file out x.0 x.1 x.2) (sym q) (record {
          raster = raster;
          header_is = e;
          frame_accepted = f.0;
          size = raster_accepted w h raster g.0;
          room = ltb-false (length out) (length raster) l;
          sheet = refl;
        })

-- the sheet that the reader left
pub sheet_read : {file out : List ℕ} {width height : ℕ} {after : List ℕ} (r : WasRead file out width height after)
    → take (height * row_bytes width) after ≡ cleared width height r.raster
sheet_read {out = out} {width = width} {height = height} r =
    ap₂ take (sym (length_cleared width height r.raster)) r.sheet ∙ take_begun (cleared width height r.raster) out
