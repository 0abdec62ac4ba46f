-- The bytes counted are the run, and all of them are read.
use Rattle.std.proofs.Common.{◌≡◌, ◌+◌, ◌-◌, arith, length, take, drop, rules, tests}
use Rattle.std.specs.Char.{is_ascii_digit}
use Rattle.std.proofs.lemmas.Iterator.{YieldsList-from_slice}
use Rattle.std.proofs.lemmas.Iterator.Search.{YieldsList-from_take_while}
use Rattle.std.proofs.lemmas.Iterator.Consumers.{count_from_yields_List}
use Rattle.std.proofs.lemmas.List.{take_all}
use Rattle.std.proofs.Math.ListN.{length-drop}
use Rattle.decimal.specs.Numbers.{value_from}
use Rattle.decimal.proofs.LoopLaws.{run_counted, value_turn}
use Rattle.decimal.proofs.read_number.Goals as goal

pub loop-byte-init : goal.loop-byte-init
unfolding value_from
loop-byte-init c = omega arith

pub loop-byte-preserved : goal.loop-byte-preserved
loop-byte-preserved c =
    let row = take (c.args.at + c.count-count.result - c.args.at) (drop c.args.at c.args.file.now) in
    let e = value_turn row c.loop-byte.byte-index c.args.limit c.loop-byte.value c.loop-byte-test.true c.loop-byte.invariant in
    cc

pub returns : goal.returns
returns c =
    let rest = drop c.args.at c.args.file.now in
    let lent : take (length c.args.file.now - c.args.at) rest ≡ rest = take_all _ rest (simp length-drop (omega arith)) in
    let run = run_counted rest c.count-count.result (count_from_yields_List c.take_while.result _ c.count-count.ensures.ran
    (YieldsList-from_take_while _ is_ascii_digit (YieldsList-from_slice rest cc) c.take_while.ensures.closure
    c.take_while.ensures.done (λ x b q k. search (rules, tests)))) in
    let part : c.args.at + c.count-count.result - c.args.at ≡ c.count-count.result = omega arith in
    let row = take (c.args.at + c.count-count.result - c.args.at) rest in
    let read = take_all c.loop-byte.byte-index row c.loop-byte-test.false in
    (omega arith, cc (run.1, c.loop-byte.invariant))
