-- The loop that clears padding: the rows before it are the packed sheet's, the others are still as they were copied. A row's last
-- byte loses as many bits as the row has padding; any other is the packed sheet's as it is.
use Prim.Native.Nat.{ℕ, ◌+◌, ◌-◌, ◌*◌, ◌/◌, ◌%◌, ◌^◌, ◌≤◌, ◌<◌, min}
use native.Mathlib.Nat.{mod-one, mod-eq_of_lt, suc-mul, div-add-mod'}
use native.Mathlib.Numerals.{add-one}
use native.Mathlib.Decide.{dec_lt, ℕ_discrete}
use native.Mathlib.Omega.{arith}
use mathlib.Core.Path.{◌≡◌, refl, sym, ap, ap₂, ◌∙◌}
use mathlib.Core.List.{List, ◌++◌}
use lib.ListN.{length, get_or, take, drop, set, length-set, length-append, length-drop, get_or-append, take-append-drop}
use lib.Seq.{drop-append_seam, length-take-le, drop-set-lt, get_or-set_same}
use Rattle.std.proofs.lemmas.List.{get_or-take, get_or-set_other}
use Rattle.basics.specs.Tables.{raster}
use Rattle.basics.proofs.Arithmetic.{column_of, entry_of, entry_below}
use Rattle.basics.proofs.TableLaws.{length-table, table_is}
use Rattle.sheet.specs.Sheets.{row_bytes, pixel, byte_packed, packed}
use Rattle.text.specs.Writing.{begun}
use Rattle.pbm.specs.Pbm.{cleared}
use Rattle.pbm.proofs.PackingLaws.{packed_byte}

-- byte k of the packed sheet
abbrev pub packed_at : ℕ → List ℕ → ℕ → ℕ
packed_at width bytes k = byte_packed width (pixel width bytes (k / row_bytes width)) (k % row_bytes width)

module _ (width : ℕ) (bytes : List ℕ) (k : ℕ) (byte : get_or bytes k 0 < 256) where
  place : get_or bytes k 0 ≡ get_or bytes (k / row_bytes width * row_bytes width + k % row_bytes width) 0
  place = ap (λ n. get_or bytes n 0) (sym (entry_of (row_bytes width) k))

  packed_inner : k % row_bytes width + 1 < row_bytes width → packed_at width bytes k ≡ get_or bytes k 0
  packed_inner l =
      let e = packed_byte width bytes (k / row_bytes width) (k % row_bytes width) 8 (omega arith) (omega arith) (get_or bytes k 0)
      place byte in
      let z = mod-one (get_or bytes k 0) in
      omega arith

  -- shifted to the right and back, a byte loses its padding
  packed_last : 1 ≤ width → k % row_bytes width + 1 ≡ row_bytes width → (padding : ℕ) → padding ≡ row_bytes width * 8 - width
      → get_or bytes k 0 / 2 ^ padding * 2 ^ padding % 256 ≡ packed_at width bytes k
  packed_last one l padding e =
      let kept = min (width - k % row_bytes width * 8) 8 in
      let b = get_or bytes k 0 in
      let p : padding ≡ 8 - kept = omega arith in
      let d = div-add-mod' b (2 ^ padding) in
      let s : b / 2 ^ padding * 2 ^ padding ≡ b - b % 2 ^ padding = omega arith in
      mod-eq_of_lt {n = b / 2 ^ padding * 2 ^ padding} {m = 256} (omega arith) ∙ s ∙ ap (λ n. b - b % 2 ^ n) p
      ∙ sym (packed_byte width bytes (k / row_bytes width) (k % row_bytes width) kept (omega arith) refl b place byte)

-- what the loop keeps
pub record Clearing (width height : ℕ) (bytes out : List ℕ) (rows : ℕ) (now : List ℕ) : Type 0 where
  pub size : length now ≡ length out
  pub done : (k : ℕ) → k < rows * row_bytes width → get_or now k 0 ≡ packed_at width bytes k
  pub copied : (k : ℕ) → rows * row_bytes width ≤ k → k < height * row_bytes width → get_or now k 0 ≡ get_or bytes k 0
  pub rest : drop (height * row_bytes width) now ≡ drop (height * row_bytes width) out

module _ {width height : ℕ} {bytes out : List ℕ} (there : height * row_bytes width ≤ length bytes)
    (room : height * row_bytes width ≤ length out) where
  pub clearing_start : {copy : List ℕ} → copy ≡ take (height * row_bytes width) bytes
      → Clearing width height bytes out 0 (copy ++ drop (height * row_bytes width) out)
  clearing_start {copy} e =
      let n = height * row_bytes width in
      let s : length copy ≡ n = ap length e ∙ length-take-le n bytes there in
      let d = length-drop n out in
      record {
        size = length-append copy (drop n out) ∙ (omega arith);
        done = λ k l. absurd (omega arith);
        copied = λ k z l.
            get_or-append copy (drop n out) 0 k (omega arith) ∙ ap (λ xs. get_or xs k 0) e ∙ get_or-take n bytes k 0 l;
        rest = ap (λ m. drop m (copy ++ drop n out)) (sym s) ∙ drop-append_seam copy (drop n out);
      }

  module _ {rows : ℕ} {now : List ℕ} (h : Clearing width height bytes out rows now) (one : 1 ≤ width) (l : rows < height)
      (byte : (k : ℕ) → get_or bytes k 0 < 256) (last padding : ℕ) (e : last ≡ rows * row_bytes width + row_bytes width - 1)
      (p : padding ≡ row_bytes width * 8 - width) where
    last_column : last % row_bytes width + 1 ≡ row_bytes width
    last_column =
        let at : last ≡ rows * row_bytes width + (row_bytes width - 1) = omega arith in
        let c = column_of (row_bytes width) rows (row_bytes width - 1) (omega arith) in
        let f = ap (λ n. n % row_bytes width) at in
        omega arith

    last_within : last < height * row_bytes width
    last_within = let b = entry_below (row_bytes width) height rows (row_bytes width - 1) l (omega arith) in omega arith

    inner_column : (k : ℕ) → rows * row_bytes width ≤ k → k < last → k % row_bytes width + 1 < row_bytes width
    inner_column k a b =
        let j = k - rows * row_bytes width in
        let at : k ≡ rows * row_bytes width + j = omega arith in
        let c = column_of (row_bytes width) rows j (omega arith) in
        let f = ap (λ n. n % row_bytes width) at in
        omega arith

    next_row : (rows + 1) * row_bytes width ≡ last + 1
    next_row = let m = ap (λ n. n * row_bytes width) (add-one rows) ∙ suc-mul rows (row_bytes width) in omega arith

    -- the byte that the turn stores
    stored : ℕ
    stored = get_or now last 0 / 2 ^ padding * 2 ^ padding % 256

    stored_is : stored ≡ packed_at width bytes last
    unfolding stored
    stored_is =
        let w = last_within in
        ap (λ b. b / 2 ^ padding * 2 ^ padding % 256) (h.copied last (omega arith) w)
        ∙ packed_last width bytes last (byte last) one last_column padding p

    turn_done : (k : ℕ) → k < last + 1 → Dec (k ≡ last) → Dec (k < rows * row_bytes width)
        → get_or (set now last stored) k 0 ≡ packed_at width bytes k
    turn_done k b (yes z) d =
        let w = last_within in
        let s = h.size in
        rw z (get_or-set_same now last stored 0 (omega arith) ∙ stored_is)
    turn_done k b (no n) (yes d) = get_or-set_other now last k stored 0 n ∙ h.done k d
    turn_done k b (no n) (no d) =
        let w = last_within in
        let m : k < last = omega arith in
        get_or-set_other now last k stored 0 n ∙ h.copied k (omega arith) (omega arith)
        ∙ sym (packed_inner width bytes k (byte k) (inner_column k (omega arith) m))

    pub clearing_turn : Clearing width height bytes out (rows + 1)
        (set now last (get_or now last 0 / 2 ^ padding * 2 ^ padding % 256))
    unfolding stored
    clearing_turn =
        let w = last_within in
        let r = next_row in
        record {
          size = length-set now last stored ∙ h.size;
          done = λ k b. turn_done k (omega arith) (ℕ_discrete k last) (dec_lt k (rows * row_bytes width));
          copied = λ k b c. get_or-set_other now last k stored 0 (λ z. absurd (omega arith)) ∙ h.copied k (omega arith) c;
          rest = drop-set-lt (height * row_bytes width) now last stored w ∙ h.rest;
        }

  pub clearing_end : {rows : ℕ} {now : List ℕ} → Clearing width height bytes out rows now → height ≤ rows → rows ≤ height
      → now ≡ begun (cleared width height bytes) out
  unfolding begun cleared packed raster
  clearing_end {rows} {now} h a b =
      let n = height * row_bytes width in
      let size = h.size in
      let all : rows ≡ height = omega arith in
      let e : n ≡ rows * row_bytes width = ap (λ m. m * row_bytes width) (sym all) in
      let front = table_is (packed_at width bytes) n 0 (take n now) (length-take-le n now (omega arith))
      (λ k l. get_or-take n now k 0 l ∙ h.done k (omega arith)) in
      sym (take-append-drop n now) ∙ ap₂ (λ xs ys. xs ++ ys) front
      (h.rest ∙ ap (λ m. drop m out) (sym (length-table (packed_at width bytes) n)))
