-- What crosses the boundary to C: a record as words, and the slices that take the answers beside a call's number.
use Rattle.std.specs.Prelude.{ℕ, ◌+◌, Bool, not, cond, ◌||◌, List, [], ◌∷◌, ◌++◌, eqb, ltb, length, get_or, take, drop}
use Rattle.basics.specs.Bounds.{any_above}
use Rattle.basics.specs.Refusals.{Refusal}
use Rattle.run.specs.declared.Record.{Record}

-- six numbers, then the cells, then the edge rule
abbrev pub record_numbers : ℕ
record_numbers = 6

abbrev pub record_cells : ℕ
record_cells = 49

abbrev pub edge_place : ℕ
edge_place = record_numbers + record_cells

abbrev pub record_words : ℕ
record_words = edge_place + 1

abbrev pub highest_byte : ℕ
highest_byte = 255

-- kind, width, height, cap, side, rows done, then the cells, then the edge rule
abbrev pub words_of : Record → List ℕ
words_of r = r.kind ∷ r.width ∷ r.height ∷ r.cap ∷ r.side ∷ r.rows ∷ (r.cells ++ r.edge ∷ [])

abbrev pub record_of : List ℕ → Record
record_of words =
    record {
      kind = get_or words 0 0;
      width = get_or words 1 0;
      height = get_or words 2 0;
      cap = get_or words 3 0;
      side = get_or words 4 0;
      rows = get_or words 5 0;
      cells = take record_cells (drop record_numbers words);
      edge = get_or words edge_place 0;
    }

-- words that no record holds: of another count, or a kind, a cell or an edge rule that is more than a byte
unfoldable pub holds_no_record : List ℕ → Bool
holds_no_record words =
    not (eqb (length words) record_words) || ltb highest_byte (get_or words 0 0) || any_above highest_byte (drop record_numbers words)

-- refusal 1 of words that should be a record, before all that a library call judges of the record
abbrev pub words_refusal : List ℕ → Refusal
words_refusal words = (1, holds_no_record words)

-- refusal 11 of an answer slice that has not `size` words or doubles
abbrev pub answer_refusal : {A : Type 0} → ℕ → List A → Refusal
answer_refusal size answer = (11, not (eqb (length answer) size))

-- a refusal set before those with numbers above 11, in a list of refusals that rise
abbrev pub at_eleven : Refusal → List Refusal → List Refusal
at_eleven own [] = own ∷ []
at_eleven own (r ∷ rest) = cond (ltb 11 r.0) (own ∷ r ∷ rest) (r ∷ at_eleven own rest)

-- what an answer slice holds after a call: what the call writes where it gave 0, else what it held
abbrev pub answered : ℕ → List ℕ → List ℕ → List ℕ
answered number written answer = cond (eqb number 0) written answer

-- the number of a call whose answer slice is of another length and whose refusals rise (all but reading PBM): 11, unless a lower
-- one applies too
abbrev pub at_latest : ℕ → ℕ
at_latest number = cond (eqb number 0 || ltb 11 number) 11 number
