-- The laws of a buffer that is filled by stretches: a stretch grows by one store, two that follow one another join, and rows
-- make a raster.
-- Each is shown entry by entry.
use Prim.Native.Nat.{ℕ, ◌+◌, ◌-◌, ◌*◌, ◌/◌, ◌%◌, ◌≤◌, ◌<◌}
use native.Mathlib.Nat.{zero-add, zero-mul, add-mul, one-mul, suc-mul, mul-le-mul, mul-le-mul_right}
use native.Mathlib.Decide.{dec_lt}
use native.Mathlib.Omega.{arith}
use mathlib.Core.List.{List}
use mathlib.Core.Path.{◌≡◌, refl, sym, ap, ap₂, ◌∙◌}
use lib.ListN.{length, get_or, set, length-set}
use lib.Seq.{get_or-set_same, get_or-set_other}
use Rattle.basics.specs.Tables.{raster}
use Rattle.basics.proofs.Arithmetic.{row_of, column_of}
use Rattle.basics.proofs.TableLaws.{table_is}
use Rattle.run.specs.Records.{canvas_side}
use Rattle.run.specs.Patches.{Patch, Canvas}

pub patch_none : (at : ℕ) (f : ℕ → ℕ) (buffer : List ℕ) → Patch at 0 f buffer buffer
patch_none at f buffer = record {
  size = refl;
  inside = λ i l. absurd (omega arith);
  earlier = λ k l. refl;
  later = λ k l. refl;
}

module _ {at n : ℕ} {f : ℕ → ℕ} {buffer after : List ℕ} (P : Patch at n f buffer after) where
  -- a turn of a loop that fills a stretch, one store a turn
  pub patch_turn : (v : ℕ) → at + n < length buffer → v ≡ f n → Patch at (n + 1) f buffer (set after (at + n) v)
  patch_turn v room is =
      let long = P.size in
      let other : (k : ℕ) → (k ≡ at + n → ⊥)
      → get_or (set after (at + n) v) k 0 ≡ get_or after k 0 = λ k h. get_or-set_other after (at + n) k v 0 h in
      record {
        size = length-set after (at + n) v ∙ long;
        inside = λ i h. go i h (dec_lt i n);
        earlier = λ k h. other k (λ q. omega arith) ∙ P.earlier k h;
        later = λ k h. other k (λ q. omega arith) ∙ P.later k (omega arith);
      }
    where
      go : (i : ℕ) → i < n + 1 → Dec (i < n) → get_or (set after (at + n) v) (at + i) 0 ≡ f i
      go i h (yes l) = get_or-set_other after (at + n) (at + i) v 0 (λ q. omega arith) ∙ P.inside i l
      go i h (no l) =
          let q : i ≡ n = omega arith in
          let long = P.size in
          ap (λ j. get_or (set after (at + n) v) (at + j) 0) q ∙ get_or-set_same after (at + n) v 0 (omega arith) ∙ is ∙ ap f (sym q)

  -- the end of such a loop
  pub patch_all : (m : ℕ) → n ≡ m → Patch at m f buffer after
  patch_all m e = rw (← e) P

  -- a stretch that follows it
  pub patch_join : {m : ℕ} {g : ℕ → ℕ} {last : List ℕ} → Patch (at + n) m g after last → ((i : ℕ) → i < m → g i ≡ f (n + i))
      → Patch at (n + m) f buffer last
  patch_join {m} {g} {last} Q same = record {
    size = Q.size ∙ P.size;
    inside = λ i h. go i h (dec_lt i n);
    earlier = λ k h. Q.earlier k (omega arith) ∙ P.earlier k h;
    later = λ k h. Q.later k (omega arith) ∙ P.later k (omega arith);
  }
    where
      go : (i : ℕ) → i < n + m → Dec (i < n) → get_or last (at + i) 0 ≡ f i
      go i h (yes l) = Q.earlier (at + i) (omega arith) ∙ P.inside i l
      go i h (no l) =
          let a : at + i ≡ at + n + (i - n) = omega arith in
          let b : n + (i - n) ≡ i = omega arith in
          ap (λ k. get_or last k 0) a ∙ Q.inside (i - n) (omega arith) ∙ same (i - n) (omega arith) ∙ ap f b

  -- the same entries by another rule
  pub patch_as : (g : ℕ → ℕ) → ((i : ℕ) → i < n → f i ≡ g i) → Patch at n g buffer after
  patch_as g same = record { size = P.size; inside = λ i l. P.inside i l ∙ same i l; earlier = P.earlier; later = P.later }

-- the rows above `row` of a raster are filled
pub record Rows (width : ℕ) (f : ℕ → ℕ → ℕ) (row : ℕ) (buffer after : List ℕ) : Type 0 where
  pub filled : Patch 0 (row * width) (λ k. f (k / width) (k % width)) buffer after

pub rows_none : {width : ℕ} {f : ℕ → ℕ → ℕ} {buffer : List ℕ} → Rows width f 0 buffer buffer
rows_none {width} {f} {buffer} = record { filled = rw zero-mul (patch_none 0 (λ k. f (k / width) (k % width)) buffer) }

module _ {width row : ℕ} {f : ℕ → ℕ → ℕ} {buffer after : List ℕ} (P : Rows width f row buffer after) where
  pub rows_turn : {last : List ℕ} → Patch (row * width) width (f row) after last → Rows width f (row + 1) buffer last
  rows_turn {last} Q = record {
    filled = rw (add-mul row 1 width, one-mul) (patch_join P.filled (rw (← zero-add (row * width)) at Q)
        (λ i l. ap₂ f (sym (row_of width row i l)) (sym (column_of width row i l))));
  }

  -- all rows
  pub rows_all : (height : ℕ) → row ≡ height → length buffer ≡ height * width → after ≡ raster width height f
  unfolding raster
  rows_all height e s =
      table_is (λ k. f (k / width) (k % width)) (height * width) 0 after (P.filled.size ∙ s)
      (λ k l. ap (λ j. get_or after j 0) (sym (zero-add k)) ∙ P.filled.inside k (rw e l))

-- a row ends before the last row does
pub row_end : (width height row : ℕ) → row < height → row * width + width ≤ height * width
row_end width height row l = let m = mul-le-mul_right width l in let e = suc-mul row width in omega arith

module _ {width height margin : ℕ} {levels : List ℕ} (given : Canvas width height margin levels) where
  -- levels of the same length serve as well
  pub canvas_after : {after : List ℕ} → length after ≡ length levels → Canvas width height margin after
  canvas_after e = record { wide = given.wide; high = given.high; room = e ∙ given.room }

  -- a row of the area is in the levels, and its places are small numbers
  pub row_room : (row : ℕ) → row < canvas_side height margin
      → (row * canvas_side width margin + canvas_side width margin ≤ length levels) × (length levels ≤ 4096 * 4096)
  row_room row l =
      let s = given.room in
      let e = row_end (canvas_side width margin) (canvas_side height margin) row l in
      let m = mul-le-mul given.high given.wide in
      (omega arith, omega arith)

  -- and so is a row of the frame, from its margin on
  pub frame_room : (row : ℕ) → row < height
      → ((row + margin) * canvas_side width margin + margin + width ≤ length levels) × (length levels ≤ 4096 * 4096)
  frame_room row l = let s = row_room (row + margin) (omega arith) in (omega arith, s.1)
