-- Rows of bytes of one kind. The run at the front of a list ends with the list, and at a byte of another kind; so what is all
-- of one kind, with such an end after it, is the run.
use Prim.Native.Nat.{ℕ, suc, ◌≤◌, ◌<◌}
use native.Mathlib.Omega.{arith}
use mathlib.Core.Path.{◌≡◌, refl, ap, ◌∙◌}
use mathlib.Core.Bool.{Bool, true, false, not, cond, ◌&&◌}
use mathlib.Core.Logic.{◌≢◌}
use mathlib.Core.List.{List, [], ◌∷◌, ◌++◌}
use lib.ListN.{length, get_or, take, drop, length-append, drop_of_length-le}
use lib.Seq.{drop-cons}
use Rattle.std.proofs.lemmas.List.Sums.{take_while-cons}
use Rattle.std.specs.List.{prefix_len}
use borrow.Author.Tests.{ne_eqb, eqb-false}
use Rattle.basics.proofs.BoundLaws.{both}
use Rattle.decimal.specs.Numbers.{is_digit, digits_only, digit_run}
use Rattle.pbm.specs.Header.{all, run, is_none}

module _ (kind : ℕ → Bool) where
  run_end : run kind [] ≡ []
  unfolding run
  run_end = refl

  pub run_stops : (byte : ℕ) (rest : List ℕ) → kind byte ≡ false → run kind (byte ∷ rest) ≡ []
  unfolding run
  run_stops byte rest e = rw e

  pub run_more : (byte : ℕ) (rest : List ℕ) → kind byte ≡ true → run kind (byte ∷ rest) ≡ byte ∷ run kind rest
  unfolding run
  run_more byte rest e = rw e

  pub run_append : (row rest : List ℕ) → all kind row ≡ true → run kind rest ≡ [] → run kind (row ++ rest) ≡ row
  unfolding all run
  run_append [] rest e s = s
  run_append (byte ∷ row) rest e s = let p = both (kind byte) (all kind row) e in rw (p.0, run_append row rest p.1 s)

  -- a row that begins with a byte of another kind
  pub run_other : (other : ℕ → Bool) → ((byte : ℕ) → other byte ≡ true → kind byte ≡ false) → (row rest : List ℕ) → row ≢ []
      → all other row ≡ true → run kind (row ++ rest) ≡ []
  unfolding all
  run_other other apart [] rest n e = absurd (n refl)
  run_other other apart (byte ∷ row) rest n e = run_stops byte (row ++ rest) (apart byte (both (other byte) (all other row) e).0)

  -- the run and what stands after it are the list; the run is all of its kind
  pub run_front : (bytes : List ℕ) → bytes ≡ run kind bytes ++ drop (length (run kind bytes)) bytes
  unfolding run
  run_front [] = refl
  run_front (byte ∷ rest) = go (kind byte) (run_front rest)
    where
      go : (b : Bool) → rest ≡ run kind rest ++ drop (length (run kind rest)) rest
          → byte ∷ rest ≡ cond b (byte ∷ run kind rest) [] ++ drop (length (cond b (byte ∷ run kind rest) [])) (byte ∷ rest)
      go true ih = ap (λ l. byte ∷ l) ih
      go false ih = refl

  pub run_all : (bytes : List ℕ) → all kind (run kind bytes) ≡ true
  unfolding all run
  run_all [] = refl
  run_all (byte ∷ rest) = go (kind byte) refl (run_all rest)
    where
      go : (b : Bool) → kind byte ≡ b → all kind (run kind rest) ≡ true → all kind (cond b (byte ∷ run kind rest) []) ≡ true
      go true e ih = rw (e, ih)
      go false e ih = refl

  -- a run that is not empty begins with its first byte
  pub run_some : (bytes : List ℕ) → is_none (run kind bytes) ≡ false
      → (kind (get_or bytes 0 0) ≡ true) × (bytes ≡ get_or bytes 0 0 ∷ drop 1 bytes)
  unfolding run
  run_some [] e = absurd (eqb-false 0 0 e refl)
  run_some (byte ∷ rest) e = go (kind byte) refl e
    where
      go : (b : Bool) → kind byte ≡ b → is_none (cond b (byte ∷ run kind rest) []) ≡ false
          → (kind byte ≡ true) × (byte ∷ rest ≡ byte ∷ rest)
      go true p e = (p, refl)
      go false p e = absurd (eqb-false 0 0 e refl)

  pub run_short : (bytes : List ℕ) → length (run kind bytes) ≤ length bytes
  run_short bytes = let e = ap length (run_front bytes) ∙ length-append (run kind bytes) (drop (length (run kind bytes)) bytes) in
      omega arith

  -- what an iterator takes, while bytes are of the kind, is the run
  pub taken_is : (bytes : List ℕ) → take (prefix_len kind bytes) bytes ≡ run kind bytes
  unfolding run
  taken_is [] = refl
  taken_is (byte ∷ rest) = take_while-cons kind byte rest ∙ ap (λ row. cond (kind byte) (byte ∷ row) []) (taken_is rest)

  -- is there a run at a place? At the end there is none, and before it the byte there decides
  pub run_none : (file : List ℕ) (at : ℕ) → length file ≤ at → is_none (run kind (drop at file)) ≡ true
  run_none file at l = ap (λ bytes. is_none (run kind bytes)) (drop_of_length-le file l) ∙ ap is_none run_end

  pub run_there : (file : List ℕ) (at : ℕ) → at < length file → kind (get_or file at 0) ≡ not (is_none (run kind (drop at file)))
  run_there file at l = go (kind (get_or file at 0)) refl
    where
      go : (b : Bool) → kind (get_or file at 0) ≡ b → b ≡ not (is_none (run kind (drop at file)))
      go true e = rw (
        drop-cons file at 0 l,
        run_more (get_or file at 0) (drop (suc at) file) e,
        ne_eqb (suc (length (run kind (drop (suc at) file)))) 0 (λ z. omega arith),
      )
      go false e = rw (drop-cons file at 0 l, run_stops (get_or file at 0) (drop (suc at) file) e)

-- digits are such rows
pub digit_run_lem : (bytes : List ℕ) → digit_run bytes ≡ run is_digit bytes
unfolding digit_run run
digit_run_lem [] = refl
digit_run_lem (byte ∷ rest) = ap (λ row. cond (is_digit byte) (byte ∷ row) []) (digit_run_lem rest)

pub all_digits : (row : List ℕ) → digits_only row ≡ all is_digit row
unfolding digits_only all
all_digits [] = refl
all_digits (byte ∷ rest) = ap (λ t. is_digit byte && t) (all_digits rest)

-- a row that is not empty, as it is tested
pub not_empty : (row : List ℕ) → is_none row ≡ false → row ≢ []
not_empty row e z = eqb-false (length row) 0 e (ap length z)

pub not_none : (row : List ℕ) → row ≢ [] → is_none row ≡ false
not_none [] n = absurd (n refl)
not_none (byte ∷ row) n = ne_eqb (length (byte ∷ row)) 0 (λ z. omega arith)
