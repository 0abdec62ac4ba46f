-- The sums over a table: all are within what a double holds exactly, since the entries add up to the points of a frame.
use Prim.Native.Nat.{ℕ, suc, ◌+◌, ◌-◌, ◌*◌, ◌^◌, ◌≤◌, ◌<◌}
use native.Mathlib.Nat.{zero-add, mul-le-mul}
use native.Mathlib.Numerals.{add-one}
use native.Mathlib.Omega.{arith}
use mathlib.Core.Path.{◌≡◌, refl, sym, ap, ◌∙◌}
use mathlib.Core.List.{List, [], ◌∷◌}
use lib.ListN.{length, get_or, take, drop, length-drop}
use Rattle.std.specs.List.{sum as sum_l}
use Rattle.std.proofs.lemmas.List.Sums.{sum_by_from}
use Rattle.std.proofs.lemmas.List.{get_or-drop, take_rest}
use Rattle.basics.specs.Sums.{sum}
use Rattle.basics.proofs.SumLaws.{sum_same, sum_front, sum_part, sum_term, sum_weighed}
use Rattle.spectrum.specs.Spectrum.{foreground_points, levels_added, exact_limit}
use Rattle.spectrum.specs.Counting.{IsTable}

-- a list's sum is that of its entries
list_sum : (xs : List ℕ) → sum_l xs ≡ sum (length xs) (λ k. get_or xs k 0)
unfolding sum
list_sum [] = refl
list_sum (x ∷ xs) =
    sum_by_from (λ x. x) (0 + x) xs ∙ ap (λ n. n + sum_l xs) (zero-add x) ∙ ap (λ n. x + n) (list_sum xs)
    ∙ sym (sum_front (length xs) (λ k. get_or (x ∷ xs) k 0))

module _ (counts : List ℕ) where
  abbrev pub entry : ℕ → ℕ
  entry n = get_or counts n 0

  -- the entries from 1 on, and entry 0
  pub front_sum : (n : ℕ) → entry 0 + sum n (λ k. entry (k + 1)) ≡ sum (suc n) entry
  front_sum n = ap (λ m. entry 0 + m) (sum_same n (λ k. entry (k + 1)) (λ k. entry (suc k)) (λ k _. ap entry (add-one k)))
      ∙ sym (sum_front n entry)

  module _ (table : IsTable counts) where
    pub front_within : (n : ℕ) → n < length counts → sum n (λ k. entry (k + 1)) ≤ 16777216
    front_within n l =
        let e = front_sum n in let s = sum_part (suc n) (length counts) entry l in let t = table.adds_up in omega arith

    pub term_within : (n : ℕ) → n < length counts → entry n ≤ 16777216
    term_within n l = let s = sum_term (length counts) n entry l in let t = table.adds_up in omega arith

    pub weighed_within : (n : ℕ) → n ≤ length counts → sum n (λ k. k * entry k) ≤ 68736253952
    weighed_within n l =
        let a = sum_weighed 4097 n entry (let z = table.short in omega arith) in
        let b = sum_part n (length counts) entry l in
        let t = table.adds_up in
        omega arith

    pub weighed_term : (n : ℕ) → n < length counts → n * entry n ≤ 68736253952
    weighed_term n l =
        let a : n ≤ 4097 = let z = table.short in omega arith in let b : entry n ≤ 16777216 = term_within n l in mul-le-mul a b

    -- NOTHING IS LOST
    pub foreground_exact : foreground_points counts ≤ exact_limit
    foreground_exact = let f = front_within (length counts - 1) (let z = table.long in omega arith) in omega arith

    pub levels_exact : levels_added counts ≤ exact_limit
    levels_exact = let f = weighed_within (length counts) (omega arith) in omega arith

    -- the entries from 1 on, as a part of the table
    abbrev front : List ℕ
    front = take (length counts - 1) (drop 1 counts)

    front_list : sum_l front ≡ foreground_points counts
    front_list =
        ap sum_l (take_rest counts 1) ∙ list_sum (drop 1 counts)
        ∙ ap (λ n. sum n (λ k. get_or (drop 1 counts) k 0)) (length-drop 1 counts)
        ∙ sum_same (length counts - 1) (λ k. get_or (drop 1 counts) k 0) (λ k. entry (k + 1))
        (λ k _. get_or-drop 1 counts k 0 ∙ ap entry (let e : 1 + k ≡ k + 1 = omega arith in e))

    pub front_fits : sum_l front < 2 ^ 64
    front_fits = let e = front_list in let f = foreground_exact in omega arith

    pub front_is : {points : ℕ} → points ≡ sum_l front → points ≡ foreground_points counts
    front_is e = e ∙ front_list
