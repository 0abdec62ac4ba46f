-- The answers of collecting, thresholding and a look at a run, what their buffers hold, and that no second outcome meets their
-- contracts. All judge the record, the levels and the room, and the first two the rows done; what the code copies or packs
-- within limits is what the definitions say of each kind.
use Prim.Native.Nat.{ℕ, suc, ◌+◌, ◌-◌, ◌*◌, ◌≤◌, min}
use native.Mathlib.Nat.{sub-zero}
use native.Mathlib.Numerals.{add-one}
use native.Mathlib.Omega.{arith}
use mathlib.Core.Path.{◌≡◌, refl, sym, ap, ◌∙◌, fun_ext}
use mathlib.Core.Bool.{Bool, true, false, not, cond, ◌&&◌, ◌||◌}
use mathlib.Core.List.{List, [], ◌∷◌, ◌++◌}
use lib.Dec.{T, eqb, leb, ltb}
use lib.ListN.{length}
use borrow.Author.Tests.{le-ltb, eq-eqb, ne_eqb, eqb-true, ltb-false, not-false}
use Rattle.basics.specs.Refusals.{Refusal, first}
use Rattle.basics.specs.Tables.{raster}
use Rattle.basics.proofs.RefusalLaws.{numbered, judged_next, passed, rule_unique}
use Rattle.sheet.specs.Sheets.{row_bytes, packed}
use Rattle.row.specs.RowRule.{none}
use Rattle.run.specs.declared.Record.{Record}
use Rattle.run.specs.declared.kinds.Bounds.{Bounds}
use Rattle.run.specs.declared.kinds.Reading.{Reading}
use Rattle.run.specs.declared.records.Frame.{Frame}
use Rattle.run.specs.declared.kinds.Kind.{Kind}
use Rattle.run.specs.declared.kinds.Kind.TheVariants.{Eroding, Dilating, Cropping}
use Rattle.run.specs.Kinds.{kind_of, by_kind, size_limit, cropped_level, collected_level, is_held_at}
use Rattle.run.specs.Records.{margin, record_bad, frame_of}
use Rattle.run.specs.Continuing.{levels_wrong, is_done}
use Rattle.run.specs.Pictures.{collected, Collects, thresholded, Thresholds}
use Rattle.run.specs.Provisional.{view_refusals, provisional_refusals, ShowsProvisional}
use Rattle.run.specs.Patches.{Canvas, level_in, read_as, held_between, reading_of, low_of, high_of, bounds_of}
use Rattle.run.proofs.LevelLaws.{cropped_above}
use Rattle.run.proofs.RecordLaws.{Sound, sound, not_bad}

module _ {r : Record} (s : Sound r) where
  -- its levels cover its area
  pub area_canvas : (levels : List ℕ) → levels_wrong r levels ≡ false → Canvas r.width r.height (margin r) levels
  area_canvas levels e = record { wide = s.area_wide; high = s.area_high; room = eqb-true _ _ (not-false _ e) }

  -- its sizes are small
  pub size_small : (n : ℕ) → n ≤ size_limit r → n ≤ 4096
  size_small n l = go (kind_of r) l
    where
      go : (kind : Kind) → n ≤ by_kind kind 4096 r.cap r.cap → n ≤ 4096
      go Eroding l = l
      go Dilating l = let k = s.cap_small in omega arith
      go Cropping l = let k = s.cap_small in omega arith

  -- a level as it is read is the level collected
  collected_level_lem : (level : ℕ) → read_as (reading_of r) level ≡ collected_level r level
  unfolding read_as
  collected_level_lem level = go (kind_of r)
    where
      limited : eqb (r.cap + 1) none ≡ false
      limited = let k = s.cap_small in ne_eqb (r.cap + 1) none (λ z. omega arith)

      go : (kind : Kind) →
          let limit = by_kind kind none (r.cap + 1) (r.cap + 1) in
          cond (eqb limit none || leb level limit) (level - by_kind kind 0 0 1) (by_kind kind 0 0 none)
          ≡ by_kind kind level (cond (leb level (suc r.cap)) level 0) (cond (leb level (suc r.cap)) (level - 1) none)
      go Eroding = sub-zero level
      go Dilating = rw (limited, add-one r.cap, sub-zero level)
      go Cropping = rw (limited, add-one r.cap)

  pub is_collected : (levels : List ℕ) (f : Frame) → f ≡ frame_of r → (reading : Reading) → reading ≡ reading_of r
      → raster f.width f.height (λ row col. read_as reading (level_in f.width f.margin levels row col)) ≡ collected r levels
  unfolding collected
  is_collected levels f q reading e =
      rw (q, e) (ap (λ f. raster r.width r.height f)
      (fun_ext (λ row. fun_ext (λ col. collected_level_lem (level_in r.width (margin r) levels row col)))))

  -- a level between the bounds is a level held
  pub held_level : (n : ℕ) → n ≤ 4096 → (level : ℕ)
      → held_between (low_of r n) (high_of r n) level ≡ cond (is_held_at r n level) 1 0
  unfolding held_between
  held_level n l level = go (kind_of r)
    where
      swap : (x y : Bool) → ◌≡◌ {A = ℕ} (cond (x && y) 1 0) (cond (y && x) 1 0)
      swap true true = refl
      swap true false = refl
      swap false true = refl
      swap false false = refl

      go : (kind : Kind) →
          let high = by_kind kind none (n + 1) none in
          ◌≡◌ {A = ℕ} (cond ((eqb high none || leb level high) && ltb (by_kind kind n 0 (min n r.cap + 1)) level) 1 0)
          (cond (by_kind kind (ltb n level) (leb 1 level && leb level (suc n)) (ltb n (cropped_level r.cap level))) 1 0)
      go Eroding = refl
      go Dilating = rw (ne_eqb (n + 1) none (λ z. omega arith), add-one n) (swap (leb level (suc n)) (leb 1 level))
      go Cropping = ap (λ t. cond t 1 0) (cropped_above r.cap n level s.cap_small l)

  pub is_thresholded : (levels : List ℕ) (n : ℕ) → n ≤ 4096 → (f : Frame) → f ≡ frame_of r
      → (bounds : Bounds) → bounds ≡ bounds_of r n
      → packed f.width f.height (λ row col. held_between bounds.low bounds.high (level_in f.width f.margin levels row col))
      ≡ thresholded r levels n
  unfolding thresholded
  is_thresholded levels n l f q bounds b =
      rw (q, b) (ap (λ f. packed r.width r.height f)
      (fun_ext (λ row. fun_ext (λ col. held_level n l (level_in r.width (margin r) levels row col)))))

-- the judge of levels read at a size
module _ (r : Record) (levels : List ℕ) (n room wanted : ℕ) where
  abbrev judged : ℕ
  judged = first (view_refusals r levels n room wanted)

  pub view_accepted : n ≤ size_limit r → levels_wrong r levels ≡ false → room ≡ wanted → 0 ≡ judged
  view_accepted l b e = rw (le-ltb (size_limit r) n l, b, eq-eqb room wanted e)

  -- what an accepted view may rely on
  pub view_taken : judged ≡ 0 → (n ≤ size_limit r) × (levels_wrong r levels ≡ false) × (room ≡ wanted)
  view_taken z =
      let of_room : List Refusal = (11, not (eqb room wanted)) ∷ [] in
      let of_levels : List Refusal = (10, levels_wrong r levels) ∷ of_room in
      let (size, rest) = passed 8 (ltb (size_limit r) n) of_levels (λ q. absurd (omega arith)) z in
      let (b, last) = passed 10 (levels_wrong r levels) of_room (λ q. absurd (omega arith)) rest in
      let (e, _) = passed 11 (not (eqb room wanted)) [] (λ q. absurd (omega arith)) last in
      (ltb-false (size_limit r) n size, b, eqb-true room wanted (not-false _ e))

-- a picture has one refusal more than a view, the last: rows are due
module _ (r : Record) (views : List Refusal) (t : T (numbered views)) where
  abbrev with_rows_due : List Refusal
  with_rows_due = views ++ (13, not (is_done r)) ∷ []

  pub picture_released : first views ≡ 0 → is_done r ≡ true → first with_rows_due ≡ 0
  picture_released z d = sym (judged_next views ((13, not (is_done r)) ∷ []) t z (rw d))

module _ (r : Record) (levels out : List ℕ) where
  -- collecting is judged like a view at the size 0, which every run takes
  abbrev pub collect_views : List Refusal
  collect_views = (1, record_bad r) ∷ (10, levels_wrong r levels) ∷ (11, not (eqb (length out) (r.height * r.width))) ∷ []

  pub collect_judged : record_bad r ≡ false → {number : ℕ}
      → number ≡ first (view_refusals r levels 0 (length out) (r.height * r.width)) → number ≡ first collect_views
  collect_judged a e = e ∙ rw (a, le-ltb (size_limit r) 0 (let h : 0 ≤ size_limit r = omega arith in h))

  pub collect_unique : (m n : ℕ) (x y : List ℕ) → Collects r levels out m x → Collects r levels out n y → (m ≡ n) × (x ≡ y)
  collect_unique = rule_unique

  module _ (n : ℕ) where
    -- what an accepted look may rely on
    pub provisional_taken : first (provisional_refusals r levels n out) ≡ 0
        → (record_bad r ≡ false) × (n ≤ size_limit r) × (levels_wrong r levels ≡ false) ×
        (length out ≡ r.height * row_bytes r.width)
    provisional_taken z =
        let wanted = r.height * row_bytes r.width in
        let (a, rest) = passed 1 (record_bad r) (view_refusals r levels n (length out) wanted) (λ q. absurd (omega arith)) z in
        let taken = view_taken r levels n (length out) wanted rest in
        (a, taken.0, taken.1, taken.2)

    pub threshold_unique : (k m : ℕ) (x y : List ℕ) → Thresholds r levels n out k x → Thresholds r levels n out m y
        → (k ≡ m) × (x ≡ y)
    threshold_unique = rule_unique

    pub provisional_unique : (k m : ℕ) (x y : Bool × List ℕ) → ShowsProvisional r levels n out k x
        → ShowsProvisional r levels n out m y → (k ≡ m) × (x ≡ y)
    provisional_unique = rule_unique
