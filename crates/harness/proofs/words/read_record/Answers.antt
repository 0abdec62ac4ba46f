-- The words are there, and the kind, the cells and the edge rule are bytes.
use Rattle.std.proofs.Common.{arith, rules, sym, ◌∙◌}
use Rattle.harness.specs.Boundary.{record_cells}
use Rattle.harness.proofs.WordLaws.{record_word, record_kind, record_byte}
use Rattle.harness.proofs.words.read_record.Goals as goal

pub overflow_cast-result : goal.overflow_cast-result
overflow_cast-result c =
    omega (arith, record_kind c.args.words.now (sym c.holds_no_record.ensures ∙ c.if-holds_no_record.false))

pub overflow_cast-result-2 : goal.overflow_cast-result-2
overflow_cast-result-2 c =
    omega (arith, record_byte c.args.words.now (sym c.holds_no_record.ensures ∙ c.if-holds_no_record.false) record_cells (omega arith))

pub bounds-words-0 : goal.bounds-words-0
bounds-words-0 c = let h = sym c.holds_no_record.ensures ∙ c.if-holds_no_record.false in search (rules, record_word)

pub bounds-words-1 : goal.bounds-words-1
bounds-words-1 c = let h = sym c.holds_no_record.ensures ∙ c.if-holds_no_record.false in search (rules, record_word)

pub bounds-words-2 : goal.bounds-words-2
bounds-words-2 c = let h = sym c.holds_no_record.ensures ∙ c.if-holds_no_record.false in search (rules, record_word)

pub bounds-words-3 : goal.bounds-words-3
bounds-words-3 c = let h = sym c.holds_no_record.ensures ∙ c.if-holds_no_record.false in search (rules, record_word)

pub bounds-words-4 : goal.bounds-words-4
bounds-words-4 c = let h = sym c.holds_no_record.ensures ∙ c.if-holds_no_record.false in search (rules, record_word)

pub bounds-words-5 : goal.bounds-words-5
bounds-words-5 c = let h = sym c.holds_no_record.ensures ∙ c.if-holds_no_record.false in search (rules, record_word)

pub bounds-words-55 : goal.bounds-words-55
bounds-words-55 c = let h = sym c.holds_no_record.ensures ∙ c.if-holds_no_record.false in search (rules, record_word)
