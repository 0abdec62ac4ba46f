-- A record as words: what is known of words that hold one, and the stores that write one.
-- Words that a record was written to give that record back.
use Prim.Native.Nat.{ℕ, zero, suc, ◌+◌, ◌≤◌, ◌<◌}
use native.Mathlib.Decide.{ℕ_discrete}
use native.Mathlib.Omega.{arith}
use Rattle.std.specs.Prelude.{Option, None, Some}
use mathlib.Core.Path.{◌≡◌, refl, sym, ap, ◌∙◌}
use mathlib.Core.Bool.{Bool, true, false, not, cond, ◌||◌}
use mathlib.Core.Logic.{◌≢◌}
use mathlib.Core.List.{List, [], ◌∷◌, ◌++◌}
use lib.Dec.{eqb, ltb}
use lib.ListN.{length, get_or, take, drop, set, length-set, length-drop, length-append, get_or-append}
use lib.Seq.{get_or-take, get_or-drop, take_at, get_or_at, length-take-le, ext_get_or}
use Rattle.std.proofs.lemmas.List.{get_or-set_same, get_or-set_other}
use borrow.Author.Tests.{le-ltb, eq-eqb, eqb-true, ltb-false, not-false}
use Rattle.basics.proofs.BoundLaws.{neither, all_within}
use Rattle.basics.specs.Bounds.{any_above}
use Rattle.basics.specs.Tables.{table}
use Rattle.basics.proofs.TableLaws.{table_is}
use Rattle.run.specs.declared.Record.{Record}
use Rattle.run.specs.Records.{record_bad}
use Rattle.run.proofs.RecordLaws.{IsOfKind, plain, dilates, crops, sound, not_bad}
use Rattle.harness.specs.Boundary.{record_numbers, record_cells, edge_place, record_words, highest_byte}
use Rattle.harness.specs.Boundary.{words_of, record_of, holds_no_record}

-- WHAT IS WRITTEN IS READ: a record has 49 cells
pub read_written : (r : Record) → length r.cells ≡ record_cells → record_of (words_of r) ≡ r
read_written r l = rw (take_at r.cells (r.edge ∷ []) record_cells l, get_or_at r.cells r.edge [] 0 record_cells l)

module _ (words : List ℕ) where
  -- words that hold a record
  module _ (h : holds_no_record words ≡ false) where
    parts : (not (eqb (length words) record_words) || ltb highest_byte (get_or words 0 0) ≡ false) ×
        (any_above highest_byte (drop record_numbers words) ≡ false)
    unfolding holds_no_record
    parts = neither (not (eqb (length words) record_words) || ltb highest_byte (get_or words 0 0))
        (any_above highest_byte (drop record_numbers words)) h

    front : (not (eqb (length words) record_words) ≡ false) × (ltb highest_byte (get_or words 0 0) ≡ false)
    front = neither (not (eqb (length words) record_words)) (ltb highest_byte (get_or words 0 0)) parts.0

    pub record_length : length words ≡ record_words
    record_length = eqb-true (length words) record_words (not-false (eqb (length words) record_words) front.0)

    pub record_word : (i : ℕ) → i < record_words → i < length words
    record_word i l = let s = record_length in omega arith

    pub record_kind : get_or words 0 0 ≤ highest_byte
    record_kind = ltb-false highest_byte (get_or words 0 0) front.1

    bytes_length : length (drop record_numbers words) ≡ record_cells + 1
    bytes_length = let d = length-drop record_numbers words in let s = record_length in omega arith

    pub record_byte : (k : ℕ) → k ≤ record_cells → get_or words (record_numbers + k) 0 ≤ highest_byte
    record_byte k l = let s = bytes_length in
        rw (← get_or-drop record_numbers words k 0) (all_within highest_byte (drop record_numbers words) k parts.1 (omega arith))

    pub record_cells_lem : take record_cells (drop record_numbers words) ≡ table record_cells (λ k. get_or words (record_numbers + k) 0)
    record_cells_lem = table_is (λ k. get_or words (record_numbers + k) 0) record_cells 0 (take record_cells (drop record_numbers words))
        (length-take-le record_cells (drop record_numbers words) (let s = bytes_length in omega arith))
        (λ k l. get_or-take record_cells (drop record_numbers words) k 0 l ∙ get_or-drop record_numbers words k 0)

-- what is read of words that hold a record
pub record_read : (words : List ℕ) (run : Record)
    → ◌≡◌ {A = Option Record} (Some run) (cond (holds_no_record words) None (Some (record_of words)))
    → (holds_no_record words ≡ false) × (run ≡ record_of words)
record_read words run e = go (holds_no_record words) e
  where
    go : (none : Bool) → ◌≡◌ {A = Option Record} (Some run) (cond none None (Some (record_of words)))
        → (none ≡ false) × (run ≡ record_of words)
    go true e = absurd (cc)
    go false e = (refl, cc)

-- A SOUND RECORD IS HELD: the words of a record that the library takes are never refused for themselves
narrow : (cells : List ℕ) (edge : ℕ) → any_above 1 cells ≡ false → edge ≤ highest_byte
    → any_above highest_byte (cells ++ edge ∷ []) ≡ false
unfolding any_above
narrow [] edge e small = rw (le-ltb highest_byte edge small)
narrow (x ∷ l) edge e small =
    let f = neither (ltb 1 x) (any_above 1 l) e in
    let b = ltb-false 1 x f.0 in
    rw (le-ltb highest_byte x (let h : x ≤ highest_byte = omega arith in h)) (narrow l edge f.1 small)

pub sound_held : (r : Record) → length r.cells ≡ record_cells → record_bad r ≡ false → holds_no_record (words_of r) ≡ false
unfolding holds_no_record
sound_held r l e =
    let s = sound r (not_bad r e).0 in
    rw (
      eq-eqb (length (words_of r)) record_words
          (let a = length-append r.cells (r.edge ∷ []) in let h : length (words_of r) ≡ record_words = omega arith in h),
      le-ltb highest_byte r.kind (small s.kind_is).0,
    ) (narrow r.cells r.edge s.binary (small s.kind_is).1)
  where
    small : IsOfKind r → (r.kind ≤ highest_byte) × (r.edge ≤ highest_byte)
    small (plain k e c) = (omega arith, omega arith)
    small (dilates k e) = (omega arith, omega arith)
    small (crops k e) = (omega arith, omega arith)

-- the six numbers, at the front of the words
pub record Numbers (r : Record) (words : List ℕ) : Type 0 where
  pub kind : get_or words 0 0 ≡ r.kind
  pub width : get_or words 1 0 ≡ r.width
  pub height : get_or words 2 0 ≡ r.height
  pub cap : get_or words 3 0 ≡ r.cap
  pub side : get_or words 4 0 ≡ r.side
  pub rows : get_or words 5 0 ≡ r.rows

-- words with a record's numbers, its cells and its edge rule are the record's
pub words_are : (r : Record) (words : List ℕ) → length words ≡ record_words → length r.cells ≡ record_cells → Numbers r words
    → ((k : ℕ) → k < record_cells → get_or words (record_numbers + k) 0 ≡ get_or r.cells k 0) → get_or words edge_place 0 ≡ r.edge
    → words ≡ words_of r
words_are r words size t h cells edge = ext_get_or 0 words (words_of r) (size ∙ sym long) go
  where
    long : length (words_of r) ≡ record_words
    long = let a = length-append r.cells (r.edge ∷ []) in omega arith

    byte : (k : ℕ) → k < record_cells + 1 → get_or words (record_numbers + k) 0 ≡ get_or (r.cells ++ r.edge ∷ []) k 0
    byte k l = at (ℕ_discrete k record_cells)
      where
        at : Dec (k ≡ record_cells) → get_or words (record_numbers + k) 0 ≡ get_or (r.cells ++ r.edge ∷ []) k 0
        at (yes e) = rw e (edge ∙ sym (get_or_at r.cells r.edge [] 0 record_cells t))
        at (no n) = cells k (omega arith) ∙ sym (get_or-append r.cells (r.edge ∷ []) 0 k (omega arith))

    go : (i : ℕ) → i < length words → get_or words i 0 ≡ get_or (words_of r) i 0
    go zero l = h.kind
    go (suc zero) l = h.width
    go (suc (suc zero)) l = h.height
    go (suc (suc (suc zero))) l = h.cap
    go (suc (suc (suc (suc zero)))) l = h.side
    go (suc (suc (suc (suc (suc zero))))) l = h.rows
    go (suc (suc (suc (suc (suc (suc k)))))) l = ap (λ n. get_or words n 0) (let e : suc (suc (suc (suc (suc (suc k))))) ≡ record_numbers + k = omega arith in e)
        ∙ byte k (omega arith)

-- the edge rule, stored last
pub record_stored : (r : Record) (words : List ℕ) (v : ℕ) → length words ≡ record_words → length r.cells ≡ record_cells → Numbers r words
    → ((k : ℕ) → k < record_cells → get_or words (record_numbers + k) 0 ≡ get_or r.cells k 0) → v ≡ r.edge
    → set words edge_place v ≡ words_of r
record_stored r words v size t h cells e =
    words_are r (set words edge_place v) (length-set words edge_place v ∙ size) t
    (record {
      kind = other 0 (omega arith) ∙ h.kind;
      width = other 1 (omega arith) ∙ h.width;
      height = other 2 (omega arith) ∙ h.height;
      cap = other 3 (omega arith) ∙ h.cap;
      side = other 4 (omega arith) ∙ h.side;
      rows = other 5 (omega arith) ∙ h.rows;
    })
    (λ k l. other (record_numbers + k) (omega arith) ∙ cells k l)
    (get_or-set_same words edge_place v 0 (let b : edge_place < length words = omega arith in b) ∙ e)
  where
    other : (i : ℕ) → i < edge_place → get_or (set words edge_place v) i 0 ≡ get_or words i 0
    other i l = get_or-set_other words edge_place i v 0 (let n : i ≢ edge_place = omega arith in n)
