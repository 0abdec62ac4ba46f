-- Each answer follows from what the two numbers and the byte after them were.
use Rattle.std.proofs.Common.{◌≡◌, ◌∙◌, sym, true, false, not, drop, MatchOption, rules, tests}
use Rattle.std.proofs.lemmas.Option.{MatchOption-at_some, MatchOption-at_none}
use Rattle.std.proofs.lemmas.Result.{err_from_is_err_and}
use Rattle.basics.specs.declared.refusal.Refusal.TheVariants.{Header}
use Rattle.basics.proofs.RefusalLaws.{number_positive}
use Rattle.pbm.specs.Header.{is_white, white_run, is_none, begins_p4}
use Rattle.pbm.specs.Steps.{FieldRead}
use Rattle.pbm.proofs.HeaderLaws.{p4_is, header_21, lost_width, lost_height, lost_end, lost_frame, found_header}
use Rattle.pbm.proofs.HeaderLaws.{white_there}
use Rattle.pbm.proofs.read_header.Goals as goal
use Rattle.pbm.proofs.read_header.Goals.{After-is_some_and}

-- what is known where "P4" and both numbers were read, and the byte after them looked at
p4 : (c : After-is_some_and) → begins_p4 c.args.file.now ≡ true
p4 c = sym (p4_is c.args.file.now) ∙ sym c.starts_with.ensures.value ∙ c.if-not-starts_with.false

width_read : (c : After-is_some_and) → FieldRead c.args.file.now 2 true c.in_ok-width.width.value c.in_ok-width.width.next
width_read c = MatchOption-at_some _ _ c.in_ok-width.width c.in_ok-width.ensures.ok_part c.read_field.ensures

height_read : (c : After-is_some_and)
    → FieldRead c.args.file.now c.in_ok-width.width.next true c.in_ok-height.height.value c.in_ok-height.height.next
height_read c = MatchOption-at_some _ _ c.in_ok-height.height c.in_ok-height.ensures.ok_part c.read_field-2.ensures

white_read : (c : After-is_some_and)
    → c.is_some_and.result ≡ not (is_none (white_run (drop c.in_ok-height.height.next c.args.file.now)))
white_read c =
    let w : MatchOption c.get.result (c.is_some_and.result ≡ false) (λ x. c.is_some_and.result ≡ is_white x.now) =
    search (rules, tests) in
    white_there c.args.file.now c.in_ok-height.height.next c.get.result _ c.get.ensures.lookup w

pub returns-then-not-starts_with : goal.returns-then-not-starts_with
returns-then-not-starts_with c =
    header_21 c.args.file.now (sym (p4_is c.args.file.now) ∙ sym c.starts_with.ensures.value ∙ c.if-not-starts_with.true)

pub returns-in_err-width : goal.returns-in_err-width
returns-in_err-width c =
    let p = err_from_is_err_and c.from_residual.result c.from_residual.ensures.1 in
    let q = MatchOption-at_none _ _ c.in_err-width.ensures.ok_part c.read_field.ensures in
    let r : c.in_err-width.field-0.0 ≡ Header = search rules in
    rw (p.1, p.2, r) (lost_width c.args.file.now
    (sym (p4_is c.args.file.now) ∙ sym c.starts_with.ensures.value ∙ c.if-not-starts_with.false) q)

pub returns-in_err-height : goal.returns-in_err-height
returns-in_err-height c =
    let p = err_from_is_err_and c.from_residual-in_err-height.result c.from_residual-in_err-height.ensures.1 in
    let f = MatchOption-at_some _ _ c.in_ok-width.width c.in_ok-width.ensures.ok_part c.read_field.ensures in
    let q = MatchOption-at_none _ _ c.in_err-height.ensures.ok_part c.read_field-2.ensures in
    let r : c.in_err-height.field-0.0 ≡ Header = search rules in
    rw (p.1, p.2, r) (lost_height c.args.file.now
    (sym (p4_is c.args.file.now) ∙ sym c.starts_with.ensures.value ∙ c.if-not-starts_with.false) f q)

pub returns-then-not-is_some_and : goal.returns-then-not-is_some_and
returns-then-not-is_some_and c =
    let at = (goal.at.returns-then-not-is_some_and c).After-is_some_and in
    lost_end c.args.file.now (p4 at) (width_read at) (height_read at) (sym c.if-not-is_some_and.true ∙ white_read at)

pub returns-in_err-check_frame : goal.returns-in_err-check_frame
returns-in_err-check_frame c =
    let at = (goal.at.returns-in_err-check_frame c).After-is_some_and in
    let p = err_from_is_err_and c.from_residual-in_err-check_frame.result c.from_residual-in_err-check_frame.ensures.1 in
    rw (p.1, p.2) (lost_frame c.args.file.now (p4 at) (width_read at) (height_read at)
    (sym c.if-not-is_some_and.false ∙ white_read at) _ (number_positive _) c.in_err-check_frame.ensures)

pub returns : goal.returns
returns c =
    let at = (goal.at.returns c).After-is_some_and in
    found_header c.args.file.now (p4 at) (width_read at) (height_read at) (sym c.if-not-is_some_and.false ∙ white_read at)
    0 c.in_ok-check_frame.ensures
