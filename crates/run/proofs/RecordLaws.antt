-- What the tests on a record decide, and what a sound record is: everything that the code and the theorems need of it.
use Prim.Native.Nat.{◌*◌, ℕ, ◌+◌, ◌-◌, ◌≤◌, ◌<◌}
use native.Mathlib.Nat.{mul-le-mul}
use native.Mathlib.Numerals.{add-one}
use native.Mathlib.Omega.{arith}
use mathlib.Core.Path.{◌≡◌, refl, sym}
use mathlib.Core.Bool.{Bool, true, false, not, cond, ◌||◌, true≢false}
use mathlib.Core.Logic.{◌≢◌}
use mathlib.Core.List.{List, [], ◌∷◌}
use lib.Dec.{eqb, ltb}
use lib.ListN.{length, get_or, drop, drop_of_length-le}
use lib.Seq.{drop-cons}
use borrow.Author.Tests.{le-leb, eqb-true, eqb-false, ltb-false, not-false}
use Rattle.basics.specs.Refusals.{first}
use Rattle.basics.proofs.BoundLaws.{neither}
use Rattle.basics.proofs.RefusalLaws.{passed}
use Rattle.basics.specs.Bounds.{any_above}
use Rattle.grid.specs.Figures.{reach}
use Rattle.element.specs.Elements.{is_side, count_set}
use Rattle.element.specs.Cells.{is_held}
use Rattle.element.proofs.ElementLaws.{side_bounds}
use Rattle.sheet.specs.Sheets.{is_side_out}
use Rattle.sheet.proofs.FrameLaws.{side_in}
use Rattle.run.specs.declared.Record.{Record}
use Rattle.run.specs.declared.sound.Sound as declared
use Rattle.run.specs.declared.kinds.Kind.TheVariants.{Eroding, Dilating, Cropping}
use Rattle.run.specs.Kinds.{by_kind, erosion_kind, dilation_kind, background_beyond, foreground_beyond}
use Rattle.run.specs.Records.{margin_of, area_width, area_height, due, outside, any_outside, element_foreign}
use Rattle.run.specs.Records.{kind_foreign, cap_foreign, foreign, record_bad}

-- places of the seven
pub held_from_lem : (side p : ℕ) → 3 - reach side ≤ p → ltb p (3 - reach side + side) ≡ is_held side p
unfolding is_held
held_from_lem side p l = rw (le-leb (3 - reach side) p l)

-- the cells from k on
module _ (side : ℕ) (cells : List ℕ) (k : ℕ) where
  next : k < length cells → drop k cells ≡ get_or cells k 0 ∷ drop (k + 1) cells
  next l = rw (add-one, drop-cons cells k 0)

  pub outside_found : k < length cells → outside side (get_or cells k 0) k ≡ true → any_outside side (drop k cells) k ≡ true
  unfolding any_outside
  outside_found l e = rw (next l, e)

  pub outside_passed : k < length cells → outside side (get_or cells k 0) k ≡ false
      → any_outside side (drop k cells) k ≡ any_outside side (drop (k + 1) cells) (k + 1)
  unfolding any_outside
  outside_passed l e = rw (next l, e)

  pub outside_end : length cells ≤ k → any_outside side (drop k cells) k ≡ false
  unfolding any_outside
  outside_end l = rw (drop_of_length-le cells l)

-- an element that some start takes has a side
pub taken_side : (side : ℕ) (cells : List ℕ) → element_foreign side cells ≡ false → is_side side ≡ true
unfolding element_foreign
taken_side side cells e = go (is_side side) refl e
  where
    go : (t : Bool) → is_side side ≡ t
        → not t || any_above 1 cells || any_outside side cells 0 || eqb (get_or cells 24 0) 0 || eqb (count_set cells) 1 ≡ false
        → is_side side ≡ true
    go true p q = p
    go false p q = absurd (true≢false q)

pub ruleset parts = (side_in, taken_side)

-- margins
pub margin_small : (cap side : ℕ) → is_side side ≡ true → cap ≤ 2047 → margin_of cap side ≤ 6141
margin_small cap side e l = mul-le-mul l (let b = side_bounds side e in let h : reach side ≤ 3 = omega arith in h)

-- a record of which only the rows may be wrong
module _ (r : Record) where
  pub bad_rows : foreign r ≡ false → (n : ℕ) → n ≡ due r → ltb n r.rows ≡ record_bad r
  unfolding record_bad
  bad_rows a n e = rw (a, e)

-- WHAT A SOUND RECORD IS: of one of the three kinds, and ..
pub data IsOfKind (r : Record) : Type 0 where
  plain : r.kind ≡ erosion_kind → r.edge ≡ background_beyond → r.cap ≡ 0 → IsOfKind r
  dilates : r.kind ≡ dilation_kind → r.edge ≡ background_beyond → IsOfKind r
  crops : r.kind ≡ erosion_kind → r.edge ≡ foreground_beyond → IsOfKind r

pub record Sound (r : Record) : Type 0 where
  pub wide : (1 ≤ r.width) × (r.width ≤ 4096)
  pub high : (1 ≤ r.height) × (r.height ≤ 4096)
  pub side_is : is_side r.side ≡ true
  pub binary : any_above 1 r.cells ≡ false
  pub square : any_outside r.side r.cells 0 ≡ false
  pub centre : get_or r.cells 24 0 ≢ 0
  pub others : count_set r.cells ≢ 1
  pub kind_is : IsOfKind r
  pub cap_small : r.cap ≤ 2047
  pub area_wide : area_width r ≤ 4096
  pub area_high : area_height r ≤ 4096

sound_kind : (r : Record) → kind_foreign r ≡ false → IsOfKind r
unfolding kind_foreign
sound_kind r q = go (eqb r.kind 1) (eqb r.edge 0) refl refl q
  where
    go : (a b : Bool) → eqb r.kind 1 ≡ a → eqb r.edge 0 ≡ b
        → by_kind (cond a (cond b Eroding Cropping) Dilating) (not (eqb r.cap 0)) (not (eqb r.kind 2) || not (eqb r.edge 0))
        (not (eqb r.edge 1)) ≡ false → IsOfKind r
    go true true k e f = plain (eqb-true r.kind 1 k) (eqb-true r.edge 0 e) (eqb-true r.cap 0 (not-false _ f))
    go true false k e f = crops (eqb-true r.kind 1 k) (eqb-true r.edge 1 (not-false _ f))
    go false b k e f =
        let (g, h) = neither (not (eqb r.kind 2)) (not (eqb r.edge 0)) f in
        dilates (eqb-true r.kind 2 (not-false _ g)) (eqb-true r.edge 0 (not-false _ h))

sound_cap : (r : Record) → cap_foreign r ≡ false → (r.cap ≤ 2047) × (area_width r ≤ 4096) × (area_height r ≤ 4096)
unfolding cap_foreign
sound_cap r q =
    let (f, high) = neither (ltb 2047 r.cap || ltb 4096 (area_width r)) (ltb 4096 (area_height r)) q in
    let (cap, wide) = neither (ltb 2047 r.cap) (ltb 4096 (area_width r)) f in
    (ltb-false 2047 r.cap cap, ltb-false 4096 (area_width r) wide, ltb-false 4096 (area_height r) high)

-- none of its parts is foreign
pub taken_parts : (r : Record) → foreign r ≡ false
    → (is_side_out r.width ≡ false) × (is_side_out r.height ≡ false) × (element_foreign r.side r.cells ≡ false) ×
    (kind_foreign r ≡ false) × (cap_foreign r ≡ false)
unfolding foreign
taken_parts r e =
    let w = is_side_out r.width in
    let h = is_side_out r.height in
    let element = element_foreign r.side r.cells in
    let (to_kind, cap) = neither (w || h || element || kind_foreign r) (cap_foreign r) e in
    let (to_element, kind) = neither (w || h || element) (kind_foreign r) to_kind in
    let (sides, shape) = neither (w || h) element to_element in
    let (wide, high) = neither w h sides in
    (wide, high, shape, kind, cap)

pub sound : (r : Record) → foreign r ≡ false → Sound r
unfolding element_foreign
sound r e =
    let (w, v, shape, kind, cap) = taken_parts r e in
    let h = neither (not (is_side r.side) || any_above 1 r.cells || any_outside r.side r.cells 0 ||
    eqb (get_or r.cells 24 0) 0) (eqb (count_set r.cells) 1) shape in
    let i = neither (not (is_side r.side) || any_above 1 r.cells || any_outside r.side r.cells 0)
    (eqb (get_or r.cells 24 0) 0) h.0 in
    let j = neither (not (is_side r.side) || any_above 1 r.cells) (any_outside r.side r.cells 0) i.0 in
    let k = neither (not (is_side r.side)) (any_above 1 r.cells) j.0 in
    let fits = sound_cap r cap in
    record {
      wide = side_in r.width w;
      high = side_in r.height v;
      side_is = not-false (is_side r.side) k.0;
      binary = k.1;
      square = j.1;
      centre = eqb-false (get_or r.cells 24 0) 0 i.1;
      others = eqb-false (count_set r.cells) 1 h.1;
      kind_is = sound_kind r kind;
      cap_small = fits.0;
      area_wide = fits.1;
      area_high = fits.2;
    }

-- what is small of it, law by law
module _ (r : Record) (e : foreign r ≡ false) where
  pub side_sound : is_side r.side ≡ true
  side_sound = (sound r e).side_is

  pub cap_sound : r.cap ≤ 2047
  cap_sound = (sound r e).cap_small

  pub width_sound : (1 ≤ r.width) × (area_width r ≤ 4096)
  width_sound = ((sound r e).wide.0, (sound r e).area_wide)

  pub height_sound : (1 ≤ r.height) × (area_height r ≤ 4096)
  height_sound = ((sound r e).high.0, (sound r e).area_high)

  pub area_sound : area_height r * area_width r ≤ 4096 * 4096
  area_sound = mul-le-mul (sound r e).area_high (sound r e).area_wide

  pub frame_sound : (r.width ≤ 4096) × (r.height * r.width ≤ 4096 * 4096)
  frame_sound = ((sound r e).wide.1, mul-le-mul (sound r e).high.1 (sound r e).wide.1)

pub ruleset sounds = (side_sound, cap_sound, width_sound, height_sound, area_sound, frame_sound)

-- a record that is judged alone, and the one that the judge gives
pub judged_good : (r : Record) → 0 ≡ first ((1, record_bad r) ∷ []) → record_bad r ≡ false
judged_good r e = (passed 1 (record_bad r) [] (λ q. absurd (omega arith)) (sym e)).0

pub judged_sound : (s : declared.Sound) {r : Record} → s.run ≡ r → Sound r
judged_sound s e = rw (sym e) (sound s.run s.taken)

-- a record that is not refused
pub not_bad : (r : Record) → record_bad r ≡ false → (foreign r ≡ false) × (r.rows ≤ due r)
unfolding record_bad
not_bad r e = let f = neither (foreign r) (ltb (due r) r.rows) e in (f.0, ltb-false (due r) r.rows f.1)

pub not_foreign : (r : Record) → record_bad r ≡ false → foreign r ≡ false
not_foreign r e = (not_bad r e).0

pub rows_within : (r : Record) → record_bad r ≡ false → r.rows ≤ due r
rows_within r e = (not_bad r e).1

pub area_small : (height width : ℕ) → height ≤ 4096 → width ≤ 4096 → height * width ≤ 4096 * 4096
area_small height width a b = mul-le-mul a b
