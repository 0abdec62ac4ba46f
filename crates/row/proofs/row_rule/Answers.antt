-- The row taken, worked by the other rows and by itself, and stored, is the whole rule.
use borrow.Author.Rules.{rules}
use Rattle.std.proofs.lemmas.List.{places}
use Prim.Native.Nat.{ℕ, ◌<◌, ◌+◌, ◌-◌, ◌*◌, ◌≤◌}
use lib.ListN.{length, get_or}
use mathlib.Core.List.{List}
use borrow.Rule.Slice.PartMut.{mid_of}
use native.Mathlib.Omega.{arith}
use mathlib.Core.Path.{◌≡◌, ◌∙◌, sym, ap}
use Rattle.row.proofs.Least.{row_end}
use Rattle.row.proofs.Lowered.{lowered_part}
use Rattle.row.proofs.Pass.{put_part}
use Rattle.row.proofs.Whole.{whole}
use Rattle.row.proofs.row_rule.Goals as goal

lent : (start n : ℕ) (levels : List ℕ) (col : ℕ) → col < n → get_or (mid_of start n levels) col 0 ≡ get_or levels (start + col) 0
lent start n levels col h = search (rules, places)

pub returns : goal.returns
returns c =
    let area = c.args.area in
    let start = c.args.row * area.width in
    let levels = c.args.part.now in
    let room : start + area.width ≤ length levels =
    rw c.requires.0 (row_end area.width c.args.row area.height c.requires.1.0) in
    let n : start + area.width - start ≡ area.width = omega arith in
    let taken = rw n at c.copy.ensures in
    let long : length (mid_of start area.width levels) ≡ area.width = search (rules, places) in
    let wide : length c.copy.new.to ≡ area.width = ap length taken ∙ long in
    let same : length c.by_other_rows.new.worked ≡ area.width = c.by_other_rows.ensures.size ∙ wide in
    let own = rw same at c.by_own_row.ensures in
    let stored = rw n at c.settle.ensures in
    let size : length c.settle.new.stored ≡ area.width = ap length stored.0 ∙ c.by_own_row.auto.worked ∙ same in
    rw n (
      whole area c.args.upward c.args.row c.requires.1.0 levels c.copy.new.to c.by_other_rows.new.worked _ room (omega arith)
          (λ col h. rw taken (lent start area.width levels col h)) c.by_other_rows.ensures
          (put_part start area.width levels c.settle.new.stored room size _ (λ col h. ap (λ (x : List ℕ). get_or x col 0) (stored.0 ∙ own))),
      stored.1 ∙ sym (lowered_part start area.width levels c.settle.new.stored (long ∙ sym size)),
    )
