-- Numbers as rows of decimal digits: the bytes 48 to 57, the most significant first.
use Rattle.std.specs.Prelude.{ℕ, zero, suc, ◌+◌, ◌-◌, ◌*◌, ◌/◌, ◌%◌, Bool, true, cond, ◌&&◌, leb, ltb}
use Rattle.std.specs.Prelude.{List, [], ◌∷◌, ◌++◌, length, take, drop}

unfoldable pub is_digit : ℕ → Bool
is_digit byte = leb 48 byte && leb byte 57

unfoldable pub digits_only : List ℕ → Bool
digits_only [] = true
digits_only (byte ∷ rest) = is_digit byte && digits_only rest

-- the number that a row of digits means, leading zeros or not, read on from the number that the digits before it mean
unfoldable pub value_from : ℕ → List ℕ → ℕ
value_from before [] = before
value_from before (byte ∷ rest) = value_from (before * 10 + (byte - 48)) rest

abbrev pub value : List ℕ → ℕ
value row = value_from 0 row

-- the digits of n without leading zeros, "0" for 0: those of n / 10, and the last. Each tenth is smaller, so n steps are enough
unfoldable pub digits_in : ℕ → ℕ → List ℕ
digits_in zero n = 48 ∷ []
digits_in (suc steps) n = cond (ltb n 10) ((48 + n) ∷ []) (digits_in steps (n / 10) ++ ((48 + n % 10) ∷ []))

unfoldable pub digits : ℕ → List ℕ
digits n = digits_in n n

-- the longest row of digits at the front of a list
unfoldable pub digit_run : List ℕ → List ℕ
digit_run [] = []
digit_run (byte ∷ rest) = cond (is_digit byte) (byte ∷ digit_run rest) []

-- a buffer in which the digits of n stand from `at` on, all else as it was
abbrev pub written : ℕ → ℕ → List ℕ → List ℕ
written n at buffer = take at buffer ++ (digits n ++ drop (at + length (digits n)) buffer)
