-- The definitions at a few rows, each by computing: "0", "1024", "007", and the run of "12 3".
use mathlib.Core.Path.{◌≡◌, refl}
use mathlib.Core.List.{[], ◌∷◌}
use Rattle.decimal.specs.Numbers.{is_digit, value_from, value, digits_in, digits, digit_run}

digits_of_zero : digits 0 ≡ 48 ∷ []
unfolding digits digits_in
digits_of_zero = refl

digits_of_1024 : digits 1024 ≡ 49 ∷ 48 ∷ 50 ∷ 52 ∷ []
unfolding digits digits_in
digits_of_1024 = refl

zeros_in_front : value (48 ∷ 48 ∷ 55 ∷ []) ≡ 7
unfolding value_from
zeros_in_front = refl

run_before_a_space : digit_run (49 ∷ 50 ∷ 32 ∷ 51 ∷ []) ≡ 49 ∷ 50 ∷ []
unfolding is_digit digit_run
run_before_a_space = refl
