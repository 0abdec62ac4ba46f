-- Texts made of whole lines. Each part of a picture's text is a list of lines, each with its end; so is one part after the other,
-- and cutting gives the lines back.
use Prim.Native.Nat.{ℕ, zero, suc, ◌+◌, ◌-◌, ◌<◌}
use native.Mathlib.Omega.{arith}
use mathlib.Core.Path.{◌≡◌, refl, sym, ap, ap₂, ◌∙◌}
use mathlib.Core.Bool.{Bool, true, false}
use mathlib.Core.List.{List, [], ◌∷◌, ◌++◌, append_assoc}
use lib.ListN.{length, get_or, take, drop, length-append}
use lib.Seq.{get_or-append-add}
use Rattle.pgm.specs.Lines.{Every, none, more, joined, cut, ends_line, lines, unlines, ShortLine}

module _ {A : Type 0} {P : A → Type 0} where
  pub every_append : {xs ys : List A} → Every P xs → Every P ys → Every P (xs ++ ys)
  every_append none h = h
  every_append (more p g) h = more p (every_append g h)

  pub every_take : (n : ℕ) {xs : List A} → Every P xs → Every P (take n xs)
  every_take zero h = none
  every_take (suc n) none = none
  every_take (suc n) (more p h) = more p (every_take n h)

  pub every_drop : (n : ℕ) {xs : List A} → Every P xs → Every P (drop n xs)
  every_drop zero h = h
  every_drop (suc n) none = none
  every_drop (suc n) (more p h) = every_drop n h

  pub every_of : (d : A) (xs : List A) → ((i : ℕ) → i < length xs → P (get_or xs i d)) → Every P xs
  every_of d [] h = none
  every_of d (x ∷ xs) h = more (h 0 (omega arith)) (every_of d xs (λ i l. h (suc i) (omega arith)))

-- A piece, its end, and the pieces of the rest
pub cut_piece : (ends : ℕ → Bool) (byte : ℕ) (rest : List ℕ) {piece : List ℕ} → Every (λ b. ends b ≡ false) piece
    → ends byte ≡ true → cut ends (piece ++ (byte ∷ rest)) ≡ piece ∷ cut ends rest
unfolding cut joined
cut_piece ends byte rest none e = rw e
cut_piece ends byte rest (more o h) e = rw (o, cut_piece ends byte rest h e)

-- no line ends within it
abbrev pub Unbroken : List ℕ → Type 0
Unbroken text = Every (λ byte. ends_line byte ≡ false) text

unlines_append : (xs ys : List (List ℕ)) → unlines (xs ++ ys) ≡ unlines xs ++ unlines ys
unfolding unlines
unlines_append [] ys = refl
unlines_append (x ∷ xs) ys = ap (λ rest. x ++ (10 ∷ rest)) (unlines_append xs ys)
    ∙ sym (append_assoc x (10 ∷ unlines xs) (unlines ys))

pub lines_unlines : {list : List (List ℕ)} → Every Unbroken list → lines (unlines list) ≡ list
unfolding unlines cut ends_line
lines_unlines none = refl
lines_unlines {list = line ∷ list} (more o h) = cut_piece ends_line 10 (unlines list) o refl
    ∙ ap (λ rest. line ∷ rest) (lines_unlines h)

-- a text made of short lines
pub record Lined (text : List ℕ) : Type 0 where
  pub list : List (List ℕ)
  pub is : text ≡ unlines list
  pub unbroken_line : Every Unbroken list
  pub short : Every ShortLine list

pub lined_none : Lined []
unfolding unlines
lined_none = record { list = []; is = refl; unbroken_line = none; short = none }

pub lined_more : (line rest : List ℕ) → Unbroken line → ShortLine line → Lined rest → Lined (line ++ (10 ∷ rest))
unfolding unlines
lined_more line rest o s h = record {
  list = line ∷ h.list;
  is = ap (λ tail. line ++ (10 ∷ tail)) h.is;
  unbroken_line = more o h.unbroken_line;
  short = more s h.short;
}

pub lined_as : {xs ys : List ℕ} → xs ≡ ys → Lined xs → Lined ys
lined_as e h = record { list = h.list; is = sym e ∙ h.is; unbroken_line = h.unbroken_line; short = h.short }

pub lined_append : {xs ys : List ℕ} → Lined xs → Lined ys → Lined (xs ++ ys)
lined_append g h = record {
  list = g.list ++ h.list;
  is = ap₂ (λ x y. x ++ y) g.is h.is ∙ sym (unlines_append g.list h.list);
  unbroken_line = every_append g.unbroken_line h.unbroken_line;
  short = every_append g.short h.short;
}

module _ {text : List ℕ} (h : Lined text) where
  pub lined_list : lines text ≡ h.list
  lined_list = ap lines h.is ∙ lines_unlines h.unbroken_line

  -- its lines are short, and with their ends they are the text
  pub lined_lines : Every ShortLine (lines text)
  lined_lines = rw lined_list h.short

  pub lined_back : unlines (lines text) ≡ text
  lined_back = ap unlines lined_list ∙ sym h.is

-- one text after the other: the second begins a line
pub lined_apart : {xs ys : List ℕ} → Lined xs → Lined ys → lines (xs ++ ys) ≡ lines xs ++ lines ys
unfolding lined_append
lined_apart g h = lined_list (lined_append g h) ∙ sym (ap₂ (λ x y. x ++ y) (lined_list g) (lined_list h))

-- the last byte of a text made of lines is LF
last_append : (xs : List ℕ) (y : ℕ) (ys : List ℕ)
    → get_or (xs ++ (y ∷ ys)) (length (xs ++ (y ∷ ys)) - 1) 0 ≡ get_or (y ∷ ys) (length ys) 0
last_append xs y ys =
    let a = length-append xs (y ∷ ys) in
    let e : length (xs ++ (y ∷ ys)) - 1 ≡ length xs + length ys = omega arith in
    ap (λ n. get_or (xs ++ (y ∷ ys)) n 0) e ∙ get_or-append-add xs (y ∷ ys) (length ys) 0

last_line : (line : List ℕ) (list : List (List ℕ)) → get_or (unlines (line ∷ list)) (length (unlines (line ∷ list)) - 1) 0 ≡ 10
unfolding unlines
last_line line [] = last_append line 10 []
last_line line (next ∷ list) =
    let text = next ++ (10 ∷ unlines list) in
    let s : length text ≡ suc (length text - 1) = let a = length-append next (10 ∷ unlines list) in omega arith in
    last_append line 10 text ∙ ap (λ n. get_or (10 ∷ text) n 0) s ∙ last_line next list

pub lined_last : {text : List ℕ} → Lined text → 0 < length text → get_or text (length text - 1) 0 ≡ 10
unfolding unlines
lined_last {text} h l = ap (λ t. get_or t (length t - 1) 0) h.is ∙ go h.list (let e = ap length h.is in omega arith)
  where
    go : (list : List (List ℕ)) → 0 < length (unlines list) → get_or (unlines list) (length (unlines list) - 1) 0 ≡ 10
    go [] l = absurd (omega arith)
    go (line ∷ list) l = last_line line list
