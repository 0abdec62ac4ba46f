-- Storing a size at the points that it holds, row by row; and the loops that go through the sizes.
use Prim.Native.Nat.{ℕ, ◌+◌, ◌-◌, ◌*◌, ◌≤◌, ◌<◌}
use native.Mathlib.Omega.{arith}
use mathlib.Core.Path.{◌≡◌, refl, sym, ap, ap₂, ◌∙◌, fun_ext}
use mathlib.Core.Bool.{Bool, true, false, cond}
use mathlib.Core.List.{List, ◌++◌}
use lib.ListN.{length, get_or, set, take, drop, length-drop}
use lib.Seq.{get_or-set_other}
use borrow.Rule.Slice.PartMut.{mid_of, put_mid, same_len_mid}
use Rattle.std.proofs.lemmas.List.{length-take-le, get_or-take, get_or-drop, get_or-append-add}
use Rattle.std.proofs.lemmas.Slice.{take-put_mid, take-put_mid_below, drop-put_mid}
use Rattle.basics.specs.Limits.{largest_size}
use Rattle.basics.specs.Tables.{table, raster}
use Rattle.basics.proofs.TableLaws.{length-table, get_or-table, table_same, length-raster, Filling, filling_start, filling_turn}
use Rattle.basics.proofs.TableLaws.{filling_end}
use Rattle.run.specs.declared.Record.{Record}
use Rattle.run.specs.declared.kinds.Bounds.{Bounds}
use Rattle.run.specs.declared.records.Frame.{Frame}
use Rattle.run.specs.Records.{frame_of}
use Rattle.run.specs.Patches.{Patch, level_in}
use Rattle.run.specs.Kinds.{is_held_at}
use Rattle.run.specs.Pictures.{frame_level}
use Rattle.run.proofs.PatchLaws.{Rows, rows_turn}
use Rattle.filters.specs.declared.judging.Plan.{Plan}
use Rattle.filters.specs.Plans.{Bounded, Counted}
use Rattle.filters.specs.Back.{back, chosen, stored, HoldsAfter}
use Rattle.filters.proofs.BackSteps.{chosen_held}

-- a loop that stores in a row, each entry by what it was: the first i are stored, the others are as they were
pub record Storing (n : ℕ) (f : ℕ → ℕ) (before : List ℕ) (i : ℕ) (after : List ℕ) : Type 0 where
  pub filling : Filling n f i after
  pub rest : (k : ℕ) → i ≤ k → get_or after k 0 ≡ get_or before k 0

pub storing_start : {n : ℕ} {f : ℕ → ℕ} {before : List ℕ} → length before ≡ n → Storing n f before 0 before
storing_start {n} {f} {before} e = record { filling = filling_start n f before e; rest = λ k l. refl }

module _ {n : ℕ} {f : ℕ → ℕ} {before : List ℕ} {i : ℕ} {after : List ℕ} (P : Storing n f before i after) where
  pub storing_turn : i < n → {v : ℕ} → v ≡ f i → Storing n f before (i + 1) (set after i v)
  storing_turn l {v} e = record {
    filling = filling_turn n f i after v P.filling l e;
    rest = λ k m. get_or-set_other after i k v 0 (λ q. omega arith) ∙ P.rest k (omega arith);
  }

  pub storing_end : n ≤ i → after ≡ table n f
  storing_end = filling_end n f i after P.filling

-- a part that is written into a list is a stretch of it
pub part_patch : (at n j : ℕ) (buffer part : List ℕ) (f : ℕ → ℕ) → j ≡ n → at + n ≤ length buffer → part ≡ table n f
    → Patch at n f buffer (put_mid at j buffer part)
part_patch at n j buffer part f q room e =
    let long = ap length e ∙ length-table f n in
    let t = length-drop at buffer in
    let same = length-take-le n (drop at buffer) (omega arith) in
    let front = length-take-le at buffer (omega arith) in
    let whole = put_mid at n buffer part in
    rw q (record {
      size = same_len_mid at n buffer part (long ∙ sym same);
      inside = λ i l. sym (get_or-take (at + n) whole (at + i) 0 (omega arith))
          ∙ ap (λ l. get_or l (at + i) 0) (take-put_mid at n buffer part (at + n) (omega arith) (omega arith))
          ∙ ap (λ k. get_or (take at buffer ++ part) (k + i) 0) (sym front)
          ∙ get_or-append-add (take at buffer) part i 0 ∙ ap (λ l. get_or l i 0) e ∙ get_or-table f n i 0 l;
      earlier = λ k l. sym (get_or-take at whole k 0 l)
          ∙ ap (λ l. get_or l k 0) (take-put_mid_below at n buffer part at (omega arith) (omega arith))
          ∙ get_or-take at buffer k 0 l;
      later = λ k l.
          let z : at + n + (k - (at + n)) ≡ k = omega arith in
          sym (get_or-drop (at + n) whole (k - (at + n)) 0 ∙ ap (λ j. get_or whole j 0) z)
          ∙ ap (λ l. get_or l (k - (at + n)) 0) (drop-put_mid at n buffer part (at + n) (omega arith) (omega arith) long)
          ∙ get_or-drop (at + n) buffer (k - (at + n)) 0 ∙ ap (λ j. get_or buffer j 0) z;
    })

-- a part that is cut out: its length, and an entry of it
pub length-mid : (at n : ℕ) (buffer : List ℕ) → at + n ≤ length buffer → length (mid_of at (at + n - at) buffer) ≡ n
length-mid at n buffer room =
    let q : at + n - at ≡ n = omega arith in
    let t = length-drop at buffer in
    rw q (length-take-le n (drop at buffer) (omega arith))

pub get_or-mid : (at n j : ℕ) (buffer : List ℕ) (i : ℕ) → j ≡ n → i < n → get_or (mid_of at j buffer) i 0 ≡ get_or buffer (at + i) 0
get_or-mid at n j buffer i q l = rw q (get_or-take n (drop at buffer) i 0 l ∙ get_or-drop at buffer i 0)

-- all rows of the frame
module _ (frame : Frame) (levels : List ℕ) (bounds : Bounds) (value : ℕ) where
  abbrev pub stored_level : List ℕ → ℕ → ℕ → ℕ
  stored_level out row col =
      chosen bounds.low bounds.high value (get_or out (row * frame.width + col) 0) (level_in frame.width frame.margin levels row col)

  pub stored_row : {row : ℕ} {out after line part : List ℕ} → Rows frame.width (stored_level out) row out after
      → row * frame.width + frame.width ≤ length after → line ≡ table frame.width (level_in frame.width frame.margin levels row)
      → let j = row * frame.width + frame.width - row * frame.width in
      part ≡ table (length line)
      (λ i. chosen bounds.low bounds.high value (get_or (mid_of (row * frame.width) j after) i 0) (get_or line i 0))
      → Rows frame.width (stored_level out) (row + 1) out (put_mid (row * frame.width) j after part)
  stored_row {row} {out} {after} {line} {part} P room is e =
      let w = frame.width in
      let at = row * w in
      let q : at + w - at ≡ w = omega arith in
      rows_turn P (part_patch at w (at + w - at) after part (stored_level out row) q room
      ((rw (is, length-table (level_in w frame.margin levels row) w) at e)
      ∙ table_same
      (λ i. chosen bounds.low bounds.high value (get_or (mid_of at (at + w - at) after) i 0)
      (get_or (table w (level_in w frame.margin levels row)) i 0))
      (stored_level out row) w
      (λ i l. ap₂ (λ o v. chosen bounds.low bounds.high value o v)
      (get_or-mid at w (at + w - at) after i q l ∙ P.filled.later (at + i) (omega arith))
      (get_or-table (level_in w frame.margin levels row) w i 0 l))))

pub stored_is : (r : Record) (n : ℕ) (second before : List ℕ) {frame : Frame} → frame ≡ frame_of r → (bounds : Bounds)
    → HoldsAfter r n bounds → {out : List ℕ} → out ≡ raster frame.width frame.height (stored_level frame second bounds (n + 1) before)
    → out ≡ stored r second n before
unfolding stored
stored_is r n second before q bounds p e =
    (rw q at e) ∙ ap (λ f. raster r.width r.height f) (fun_ext (λ row. fun_ext (λ col.
    chosen_held bounds.low bounds.high (frame_level r second row col) (is_held_at (back r) n (frame_level r second row col))
    (p (frame_level r second row col)) (n + 1) (get_or before (row * r.width + col) 0))))

pub stored_length : (r : Record) (second : List ℕ) (n : ℕ) (out : List ℕ)
    → length (stored r second n out) ≡ r.height * r.width
unfolding stored
stored_length r second n out =
    length-raster r.width r.height
    (λ row col. cond (is_held_at (back r) n (frame_level r second row col)) (n + 1) (get_or out (row * r.width + col) 0))

-- how many sizes there are
pub count_small : (plan : Plan) {levels : List ℕ} {count : ℕ} → Bounded plan levels → Counted plan levels count
    → count ≤ largest_size
count_small plan {levels} {count} b s = go plan.closing refl
  where
    go : (t : Bool) → plan.closing ≡ t → count ≤ largest_size
    go true e = let c = s.closing e in let l = b.closing e in omega arith
    go false e = (s.opening e).least largest_size (b.opening e)
