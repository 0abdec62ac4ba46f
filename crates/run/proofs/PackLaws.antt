-- A packed row, byte by byte: a byte is known by its eight levels, which are the row's, or, where the row ends within it, those
-- that are left and zeros, which no bounds hold.
use Prim.Native.Nat.{ℕ, ◌+◌, ◌-◌, ◌*◌, ◌/◌, ◌≤◌, ◌<◌}
use native.Mathlib.Decide.{dec_lt}
use native.Mathlib.Omega.{arith}
use mathlib.Core.Bool.{cond}
use mathlib.Core.Path.{◌≡◌, refl, sym, ap, ◌∙◌}
use mathlib.Core.List.{List, ◌++◌}
use lib.Dec.{ltb}
use lib.ListN.{length, get_or, drop, length-drop, replicate, get_or-append, get_or-replicate}
use borrow.Author.Tests.{lt-ltb, le-ltb}
use Rattle.std.proofs.lemmas.List.{get_or-drop, get_or-append_right}
use Rattle.basics.specs.Tables.{table}
use Rattle.basics.proofs.TableLaws.{length-table, get_or-table, table_same}
use Rattle.sheet.specs.Sheets.{row_bytes, byte_packed}
use Rattle.sheet.proofs.ByteLaws.{packed_weigh, packed_as, front, front_fits}
use Rattle.run.specs.Patches.{held_between}
use Rattle.run.proofs.LevelLaws.{held_low, held_binary}

module _ (low high : ℕ) (levels : List ℕ) where
  -- 1 or 0 for the levels, where the bounds hold them
  abbrev pub held_at : ℕ → ℕ
  held_at i = held_between low high (get_or levels i 0)

  -- a byte has room for one more of them
  pub held_fits : (i : ℕ) → i < 8 → 2 * front held_at i + held_at i ≤ 255
  held_fits = front_fits held_at (λ k. held_binary low high (get_or levels k 0))

-- a byte of a row, as the first byte of the levels that are left
left_as : (low high : ℕ) (levels : List ℕ) (k n : ℕ) → n ≤ length levels - 8 * k
    → ((i : ℕ) → i < 8 → n ≤ i → length levels ≤ 8 * k + i)
    → byte_packed n (held_at low high (drop (8 * k) levels)) 0 ≡ byte_packed (length levels) (held_at low high levels) k
left_as low high levels k n most rest =
    packed_weigh n (held_at low high (drop (8 * k) levels)) 0 bits (λ i l. first i (dec_lt i n))
    ∙ sym (packed_weigh (length levels) (held_at low high levels) k bits (λ i l. whole i l (dec_lt i n)))
  where
    bits : ℕ → ℕ
    bits i = cond (ltb i n) (held_between low high (get_or levels (8 * k + i) 0)) 0

    first : (i : ℕ) → Dec (i < n) → cond (ltb (0 * 8 + i) n) (held_at low high (drop (8 * k) levels) (0 * 8 + i)) 0 ≡ bits i
    first i d =
        let e : 0 * 8 + i ≡ i = omega arith in
        rw e (ap (λ l. cond (ltb i n) (held_between low high l) 0) (get_or-drop (8 * k) levels i 0))

    whole : (i : ℕ) → i < 8 → Dec (i < n) → cond (ltb (k * 8 + i) (length levels)) (held_at low high levels (k * 8 + i)) 0 ≡ bits i
    whole i l (yes a) =
        let e : k * 8 + i ≡ 8 * k + i = omega arith in
        rw (e, lt-ltb (8 * k + i) (length levels) (omega arith), lt-ltb i n a)
    whole i l (no a) =
        let past = rest i l (omega arith) in
        rw (le-ltb (k * 8 + i) (length levels) (omega arith), le-ltb i n (omega arith))

-- a byte that the row fills, and the byte in which it ends
module _ (low high : ℕ) (levels : List ℕ) (k : ℕ) {rest : List ℕ} (q : rest ≡ drop (8 * k) levels) {byte : ℕ} where
  pub full_of : k < length levels / 8 → byte ≡ byte_packed 8 (held_at low high rest) 0
      → byte ≡ byte_packed (length levels) (held_at low high levels) k
  full_of l e = (rw q at e) ∙ left_as low high levels k 8 (omega arith) (λ i a b. absurd (omega arith))

  pub end_of : length levels / 8 ≡ k → byte ≡ byte_packed (length rest) (held_at low high rest) 0
      → byte ≡ byte_packed (length levels) (held_at low high levels) k
  end_of l e =
      let s = length-drop (8 * k) levels in
      (rw q at e) ∙ left_as low high levels k (length (drop (8 * k) levels)) (omega arith) (λ i a b. omega arith)

-- the last byte: the levels that are left stand before zeros, which no bounds hold
pub last_of : (low high : ℕ) (levels eight : List ℕ) {byte : ℕ} → eight ≡ levels ++ replicate (8 - length levels) 0
    → byte ≡ byte_packed 8 (held_at low high eight) 0 → byte ≡ byte_packed (length levels) (held_at low high levels) 0
last_of low high levels eight e b =
    b
    ∙ packed_as (length levels) (held_at low high levels) 0 (held_at low high eight)
    (λ i s t. ap (held_between low high) (within i (omega arith)
    ∙ ap (λ j. get_or levels j 0) (let q : i ≡ 0 * 8 + i = omega arith in q)))
    (λ i s t. sym (held_low low high (get_or eight i 0) (let z = past i s (omega arith) in omega arith)))
  where
    within : (i : ℕ) → i < length levels → get_or eight i 0 ≡ get_or levels i 0
    within i l = rw e (get_or-append levels (replicate (8 - length levels) 0) 0 i l)

    past : (i : ℕ) → i < 8 → length levels ≤ i → get_or eight i 0 ≡ 0
    past i l m = rw e (get_or-append_right levels (replicate (8 - length levels) 0) (length levels) i 0 refl m
        ∙ get_or-replicate (8 - length levels) (i - length levels) 0 0 (omega arith))

-- a byte by the pixels of its row
byte_as : (width : ℕ) (f g : ℕ → ℕ) (k : ℕ) → ((col : ℕ) → col < width → f col ≡ g col)
    → byte_packed width f k ≡ byte_packed width g k
byte_as width f g k same =
    packed_weigh width f k bits (λ i l. refl) ∙ sym (packed_weigh width g k bits (λ i l. go i (dec_lt (k * 8 + i) width)))
  where
    bits : ℕ → ℕ
    bits i = cond (ltb (k * 8 + i) width) (f (k * 8 + i)) 0

    go : (i : ℕ) → Dec (k * 8 + i < width) → cond (ltb (k * 8 + i) width) (g (k * 8 + i)) 0 ≡ bits i
    go i (yes l) = rw (lt-ltb (k * 8 + i) width l) (sym (same (k * 8 + i) l))
    go i (no m) = rw (le-ltb (k * 8 + i) width (omega arith))

-- a packed row, of levels that are given as a table
pub packed_of : (low high : ℕ) (f : ℕ → ℕ) (width : ℕ) {row part : List ℕ}
    → part ≡ table (row_bytes (length row)) (byte_packed (length row) (held_at low high row)) → row ≡ table width f
    → part ≡ table (row_bytes width) (byte_packed width (λ col. held_between low high (f col)))
packed_of low high f width e r =
    (rw (r, length-table f width) at e)
    ∙ table_same (byte_packed width (held_at low high (table width f))) (byte_packed width (λ col. held_between low high (f col)))
    (row_bytes width) (λ k _. byte_as width (held_at low high (table width f)) (λ col. held_between low high (f col)) k
    (λ col l. ap (held_between low high) (get_or-table f width col 0 l)))
