-- A header is whole exactly where its file is laid out so. One way, each part is the run that the definition takes, since what
-- follows it is of another kind;
-- the other way, the runs that the definition took are the parts.
use Prim.Native.Nat.{ℕ, suc}
use native.Mathlib.Omega.{arith}
use mathlib.Core.Path.{◌≡◌, refl, sym, ap, ◌∙◌}
use mathlib.Core.Bool.{Bool, true, false, cond, ◌||◌, false≢true}
use mathlib.Core.Logic.{◌≢◌}
use mathlib.Core.List.{List, [], ◌∷◌, ◌++◌}
use lib.Dec.{eqb}
use lib.ListN.{length, get_or, drop}
use lib.Seq.{drop-append_seam}
use borrow.Author.Tests.{ne_eqb, eqb-true}
use Rattle.basics.proofs.BoundLaws.{both}
use Rattle.decimal.specs.Numbers.{is_digit, value, digit_run}
use Rattle.decimal.proofs.NumberLaws.{digit_bounds}
use Rattle.pbm.specs.Header.{is_white, all, run, white_run, after_white, after_digits, is_none, Field, missing, number, field}
use Rattle.pbm.specs.Header.{begins_p4, broken, whole, header, Layout}
use Rattle.pbm.proofs.RunLaws.{run_stops, run_more, run_append, run_other, run_front, run_all, run_some, digit_run_lem}
use Rattle.pbm.proofs.RunLaws.{not_empty, not_none}
use Rattle.pbm.proofs.HeaderLaws.{without_width, without_height, without_end, header_whole}

-- no byte is both
digit_apart : (byte : ℕ) → is_digit byte ≡ true → is_white byte ≡ false
unfolding is_white
digit_apart byte e =
    let b = digit_bounds byte e in
    rw (
      ne_eqb byte 32 (λ z. omega arith),
      ne_eqb byte 9 (λ z. omega arith),
      ne_eqb byte 13 (λ z. omega arith),
      ne_eqb byte 10 (λ z. omega arith),
    )

white_apart : (byte : ℕ) → is_white byte ≡ true → is_digit byte ≡ false
white_apart byte e = go (is_digit byte) refl
  where
    go : (b : Bool) → is_digit byte ≡ b → b ≡ false
    go true d = absurd (false≢true (sym (digit_apart byte d) ∙ e))
    go false d = refl

-- a number laid out: white bytes, digits, and the rest
record Laid (bytes : List ℕ) (amount : ℕ) (rest : List ℕ) : Type 0 where
  white : List ℕ
  row : List ℕ
  bytes_are : bytes ≡ white ++ (row ++ rest)
  some_white : white ≢ []
  some_digits : row ≢ []
  all_white : all is_white white ≡ true
  all_digits : all is_digit row ≡ true
  amount_is : amount ≡ value row

module _ (white row rest : List ℕ) (n : white ≢ []) (m : row ≢ []) (a : all is_white white ≡ true) (b : all is_digit row ≡ true)
    (stops : run is_digit rest ≡ []) where
  white_run_lem : white_run (white ++ (row ++ rest)) ≡ white
  white_run_lem = run_append is_white white (row ++ rest) a (run_other is_white is_digit digit_apart row rest m b)

  after_white_lem : after_white (white ++ (row ++ rest)) ≡ row ++ rest
  after_white_lem = ap (λ w. drop (length w) (white ++ (row ++ rest))) white_run_lem ∙ drop-append_seam white (row ++ rest)

  digits_run : digit_run (row ++ rest) ≡ row
  digits_run = digit_run_lem (row ++ rest) ∙ run_append is_digit row rest b stops

  after_digits_lem : after_digits (row ++ rest) ≡ rest
  after_digits_lem = ap (λ r. drop (length r) (row ++ rest)) digits_run ∙ drop-append_seam row rest

  field_laid : field (white ++ (row ++ rest)) ≡ number (value row) rest
  unfolding field
  field_laid = rw (after_white_lem, after_digits_lem, white_run_lem, digits_run, not_none white n, not_none row m)

-- the other way: a number that was found is laid out
laid_field : (bytes : List ℕ) (amount : ℕ) (rest : List ℕ) → field bytes ≡ number amount rest → Laid bytes amount rest
unfolding field
laid_field bytes amount rest e = go (is_none (white_run bytes)) (is_none (digit_run (after_white bytes))) refl refl e
  where
    go : (b c : Bool) → is_none (white_run bytes) ≡ b → is_none (digit_run (after_white bytes)) ≡ c
        → cond (b || c) missing (number (value (digit_run (after_white bytes))) (after_digits (after_white bytes)))
        ≡ number amount rest → Laid bytes amount rest
    go true c p q e = absurd (let z : ◌≡◌ {A = ℕ} 0 1 = cc in omega arith)
    go false true p q e = absurd (let z : ◌≡◌ {A = ℕ} 0 1 = cc in omega arith)
    go false false p q e =
        let v : amount ≡ value (digit_run (after_white bytes)) = cc in
        let r : after_digits (after_white bytes) ≡ rest = cc in
        let d = digit_run_lem (after_white bytes) in
        let f : after_white bytes ≡ digit_run (after_white bytes) ++
        after_digits (after_white bytes) = run_front is_digit (after_white bytes)
        ∙ ap (λ row. row ++ drop (length row) (after_white bytes)) (sym d) in
        record {
          white = white_run bytes;
          row = digit_run (after_white bytes);
          bytes_are = run_front is_white bytes
              ∙ ap (λ l. white_run bytes ++ l) (f ∙ ap (λ l. digit_run (after_white bytes) ++ l) r);
          some_white = not_empty (white_run bytes) p;
          some_digits = not_empty (digit_run (after_white bytes)) q;
          all_white = run_all is_white bytes;
          all_digits = ap (all is_digit) d ∙ run_all is_digit (after_white bytes);
          amount_is = v;
        }

p4_laid : (file : List ℕ) → begins_p4 file ≡ true → file ≡ 80 ∷ 52 ∷ drop 2 file
unfolding begins_p4
p4_laid [] e = absurd (false≢true e)
p4_laid (a ∷ []) e = absurd (false≢true (both (eqb a 80) false e).1)
p4_laid (a ∷ b ∷ file) e =
    let p = both (eqb a 80) (eqb b 52) e in
    let x = eqb-true a 80 p.0 in
    let y = eqb-true b 52 p.1 in
    rw (x, y)

pub p4_begins : (rest : List ℕ) → begins_p4 (80 ∷ 52 ∷ rest) ≡ true
unfolding begins_p4
p4_begins rest = refl

without_p4 : (file : List ℕ) → begins_p4 file ≡ false → header file ≡ broken
unfolding header
without_p4 file p = rw p

-- THE HEADER AS ONE READS IT
module _ (file : List ℕ) (width height : ℕ) (raster : List ℕ) where
  pub layout_whole : Layout file width height raster → header file ≡ whole width height raster
  layout_whole l =
      let rest₂ = l.height_digits ++ (l.white₃ ∷ raster) in
      let rest₁ = l.white₂ ++ rest₂ in
      let stop₂ = run_stops is_digit l.white₃ raster (white_apart l.white₃ l.white.2) in
      let stop₁ = run_other is_digit is_white white_apart l.white₂ rest₂ l.some.2 l.white.1 in
      let one = run_more is_white l.white₃ raster l.white.2 in
      let end : is_none (white_run (l.white₃ ∷ raster)) ≡ false = ap is_none one
      ∙ ne_eqb (suc (length (white_run raster))) 0 (λ z. omega arith) in
      rw (l.bytes, l.values.0, l.values.1)
      (header_whole (80 ∷ 52 ∷ (l.white₁ ++ (l.width_digits ++ rest₁))) (p4_begins (l.white₁ ++ (l.width_digits ++ rest₁)))
      (value l.width_digits) rest₁
      (field_laid l.white₁ l.width_digits rest₁ l.some.0 l.some.1 l.white.0 l.digits.0 stop₁)
      (value l.height_digits) (l.white₃ ∷ raster)
      (field_laid l.white₂ l.height_digits (l.white₃ ∷ raster) l.some.2 l.some.3 l.white.1
      l.digits.1 stop₂) end)

  pub whole_layout : header file ≡ whole width height raster → Layout file width height raster
  whole_layout e = begun (begins_p4 file) refl
    where
      never : header file ≡ broken → ⊥
      never z = let q : ◌≡◌ {A = ℕ} 0 1 = cc in omega arith

      ended : (p : begins_p4 file ≡ true) (w : ℕ) (rest₁ : List ℕ) (f : field (drop 2 file) ≡ number w rest₁) (h : ℕ)
          (rest₂ : List ℕ) (g : field rest₁ ≡ number h rest₂) (b : Bool)
          → is_none (white_run rest₂) ≡ b → Layout file width height raster
      ended p w rest₁ f h rest₂ g true z = absurd (never (without_end file p w rest₁ f h rest₂ g z))
      ended p w rest₁ f h rest₂ g false z =
          let x = sym (header_whole file p w rest₁ f h rest₂ g z) ∙ e in
          let a : width ≡ w = cc x in
          let b : height ≡ h = cc x in
          let c : drop 1 rest₂ ≡ raster = cc x in
          let l = laid_field (drop 2 file) w rest₁ f in
          let m = laid_field rest₁ h rest₂ g in
          let one = run_some is_white rest₂ z in
          record {
            white₁ = l.white;
            width_digits = l.row;
            white₂ = m.white;
            height_digits = m.row;
            white₃ = get_or rest₂ 0 0;
            bytes =
                p4_laid file p ∙ ap (λ bytes. 80 ∷ 52 ∷ bytes)
                (l.bytes_are ∙ ap (λ bytes. l.white ++ (l.row ++ bytes))
                (m.bytes_are ∙ ap (λ bytes. m.white ++ (m.row ++ bytes)) (one.1 ∙ ap (λ bytes. get_or rest₂ 0 0 ∷ bytes) c)));
            some = (l.some_white, l.some_digits, m.some_white, m.some_digits);
            white = (l.all_white, m.all_white, one.0);
            digits = (l.all_digits, m.all_digits);
            values = (a ∙ l.amount_is, b ∙ m.amount_is);
          }

      second : (p : begins_p4 file ≡ true) (w : ℕ) (rest₁ : List ℕ) (f : field (drop 2 file) ≡ number w rest₁) (found : Field)
          → field rest₁ ≡ found → Layout file width height raster
      second p w rest₁ f missing g = absurd (never (without_height file p w rest₁ f g))
      second p w rest₁ f (number h rest₂) g = ended p w rest₁ f h rest₂ g (is_none (white_run rest₂)) refl

      first : (p : begins_p4 file ≡ true) (found : Field) → field (drop 2 file) ≡ found → Layout file width height raster
      first p missing f = absurd (never (without_width file p f))
      first p (number w rest₁) f = second p w rest₁ f (field rest₁) refl

      begun : (b : Bool) → begins_p4 file ≡ b → Layout file width height raster
      begun true p = first p (field (drop 2 file)) refl
      begun false p = absurd (never (without_p4 file p))
