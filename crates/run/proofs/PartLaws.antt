-- Parts of a list: what is cut out of one, and a list that is filled from the front, a part a turn. Where the parts are rows, the
-- whole is a raster.
use Prim.Native.Nat.{ℕ, zero, suc, ◌+◌, ◌-◌, ◌*◌, ◌/◌, ◌%◌, ◌≤◌, ◌<◌}
use native.Mathlib.Nat.{le_of_eq, add-zero, add-suc, zero-mul, suc-mul, mul-le-mul_right}
use native.Mathlib.Omega.{arith}
use mathlib.Core.List.{List, [], ◌∷◌, ◌++◌, append_assoc, append-nil}
use mathlib.Core.Path.{◌≡◌, refl, sym, ap, ap₂, ◌∙◌}
use lib.ListN.{length, get_or, take, drop, length-drop, replicate, length-replicate, get_or-replicate}
use borrow.Rule.Slice.PartMut.{mid_of, put_mid, same_len_mid}
use Rattle.std.proofs.lemmas.List.{length-take-le, get_or-take, get_or-drop}
use Rattle.std.proofs.lemmas.Slice.{take-put_mid}
use Rattle.basics.specs.Tables.{table, raster}
use Rattle.basics.proofs.Arithmetic.{row_of, column_of}
use Rattle.basics.proofs.TableLaws.{length-table, get_or-table, table_is, table_same, Filling, filling_start, filling_end}
use Rattle.run.specs.Records.{canvas_side}
use Rattle.run.specs.Patches.{level_in}

-- the entries of a part that is cut out
pub cut_is : (l : List ℕ) (from n : ℕ) (f : ℕ → ℕ) → from + n ≤ length l → ((i : ℕ) → i < n → get_or l (from + i) 0 ≡ f i)
    → take (from + n - from) (drop from l) ≡ table n f
cut_is l from n f room is =
    let e : from + n - from ≡ n = omega arith in
    let t = length-drop from l in
    let s = length-take-le n (drop from l) (omega arith) in
    rw e (table_is f n 0 (take n (drop from l)) s
    (λ k b. get_or-take n (drop from l) k 0 b ∙ get_or-drop from l k 0 ∙ is k b))

-- the levels of a row of the frame
pub row_cut : (width margin side : ℕ) (levels : List ℕ) (row : ℕ) → side ≡ canvas_side width margin
    → (row + margin) * side + margin + width ≤ length levels
    → take ((row + margin) * side + margin + width - ((row + margin) * side + margin))
    (drop ((row + margin) * side + margin) levels)
    ≡ table width (level_in width margin levels row)
row_cut width margin side levels row e room =
    cut_is levels ((row + margin) * side + margin) width (level_in width margin levels row) room
    (λ i b. rw e (ap (λ k. get_or levels k 0) (let q : (row + margin) * canvas_side width margin + margin + i
    ≡ (row + margin) * canvas_side width margin + (i + margin) = omega arith in q)))

-- a table of a table's entries
pub table_of : (g : ℕ → ℕ) (f : ℕ → ℕ) (n : ℕ) {row part : List ℕ} → part ≡ table (length row) (λ i. g (get_or row i 0))
    → row ≡ table n f → part ≡ table n (λ i. g (f i))
table_of g f n e r =
    (rw (r, length-table f n) at e)
    ∙ table_same (λ i. g (get_or (table n f) i 0)) (λ i. g (f i)) n (λ i l. ap g (get_or-table f n i 0 l))

-- two tables, one after the other
table_join : (f : ℕ → ℕ) (i k : ℕ) → table i f ++ table k (λ j. f (i + j)) ≡ table (i + k) f
unfolding table
table_join f i zero = rw add-zero (append-nil (table i f))
table_join f i (suc k) =
    rw add-suc (sym (append_assoc (table i f) (table k (λ j. f (i + j))) (f (i + k) ∷ []))
    ∙ ap (λ l. l ++ (f (i + k) ∷ [])) (table_join f i k))

-- one part more of a list that is filled from the front
pub filling_part : {n : ℕ} {f : ℕ → ℕ} {i : ℕ} {out : List ℕ} (k : ℕ) {j : ℕ} {part : List ℕ} → Filling n f i out
    → j ≡ k → i + k ≤ n
    → part ≡ table k (λ j. f (i + j)) → Filling n f (i + k) (put_mid i j out part)
filling_part {n} {f} {i} {out} k {j} {part} h q room e =
    let size = h.size in
    let long = ap length e ∙ length-table (λ j. f (i + j)) k in
    let t = length-drop i out in
    let same = length-take-le k (drop i out) (omega arith) in
    record {
      below = room;
      size = rw q (same_len_mid i k out part (long ∙ sym same) ∙ size);
      front = rw q (take-put_mid i k out part (i + k) (omega arith) (omega arith) ∙ ap₂ (λ a b. a ++ b) h.front e
          ∙ table_join f i k);
    }

-- a list of one entry only
pub replicate_is : (n x : ℕ) (f : ℕ → ℕ) → ((i : ℕ) → i < n → x ≡ f i) → replicate n x ≡ table n f
replicate_is n x f same = table_is f n 0 (replicate n x) (length-replicate n x) (λ k l. get_or-replicate n k x 0 l ∙ same k l)

-- the rows above `row` of a raster are filled
pub record RowsFilled (width height : ℕ) (f : ℕ → ℕ → ℕ) (row : ℕ) (out : List ℕ) : Type 0 where
  pub filled : Filling (height * width) (λ k. f (k / width) (k % width)) (row * width) out

pub rows_start : {width height : ℕ} {f : ℕ → ℕ → ℕ} {out : List ℕ} → length out ≡ height * width → RowsFilled width height f 0 out
rows_start {width} {height} {f} {out} e =
    record { filled = rw zero-mul (filling_start (height * width) (λ k. f (k / width) (k % width)) out e) }

module _ {width height : ℕ} {f : ℕ → ℕ → ℕ} {row : ℕ} {out : List ℕ} (h : RowsFilled width height f row out) where
  -- the next row is in the output ..
  pub rows_inside : {n : ℕ} → n ≡ width → row < height → row * n + n ≤ length out
  rows_inside e l =
      let m = mul-le-mul_right width l in
      let s = suc-mul row width in
      let size = h.filled.size in
      rw e (omega arith)

  -- .. as a part of a row's length
  pub rows_room : {n : ℕ} → n ≡ width → row < height → length (mid_of (row * n) (row * n + n - row * n) out) ≡ n
  rows_room {n} e l =
      let room = rows_inside e l in
      let q : row * n + n - row * n ≡ n = omega arith in
      let t = length-drop (row * n) out in
      rw q (length-take-le n (drop (row * n) out) (omega arith))

  pub rows_turn : {n : ℕ} {part : List ℕ} → n ≡ width → row < height → part ≡ table width (f row)
      → RowsFilled width height f (row + 1) (put_mid (row * n) (row * n + n - row * n) out part)
  rows_turn {n} {part} same l e =
      let room = rows_inside refl l in
      let size = h.filled.size in
      let s = suc-mul row width in
      let q : (row + 1) * width ≡ row * width + width = omega arith in
      rw same (record {
        filled = rw q (filling_part width h.filled
            (let z : row * width + width - row * width ≡ width = omega arith in z) (omega arith)
            (e ∙ table_same (f row) (λ j. f ((row * width + j) / width) ((row * width + j) % width)) width
            (λ j b. ap₂ f (sym (row_of width row j b)) (sym (column_of width row j b)))));
      })

  pub rows_end : row ≡ height → out ≡ raster width height f
  unfolding raster
  rows_end e =
      let q : height * width ≤ row * width = rw e (le_of_eq refl) in
      filling_end (height * width) (λ k. f (k / width) (k % width)) (row * width) out h.filled q
