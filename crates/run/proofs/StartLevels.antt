-- The start levels at a point of the area: by whether the point of the grid there is in the sheet's set, or only in the frame, or
-- in neither.
use Prim.Native.Nat.{ℕ, ◌+◌, ◌-◌, ◌*◌, ◌≤◌, ◌<◌}
use native.Mathlib.Omega.{arith}
use mathlib.Core.Path.{◌≡◌, refl, sym, ap, ap₂, ◌∙◌}
use mathlib.Core.Bool.{Bool, true, false, ◌&&◌, false≢true}
use mathlib.Core.List.{List}
use lib.Dec.{leb, ltb}
use lib.IntN.{pos, ◌+ℤ◌, ◌-ℤ◌, -ℤ-+ℤ_cancel, +ℤ-neg_ℤ_cancel}
use lib.ListN.{get_or}
use borrow.Author.Tests.{le-leb, lt-ltb, eq-eqb, ne_eqb, leb-true, ltb-true}
use Rattle.basics.proofs.TableLaws.{get_or-raster}
use Rattle.grid.specs.Points.{Point, at}
use Rattle.grid.specs.Figures.{frame}
use Rattle.grid.specs.Crops.{background}
use Rattle.grid.proofs.PointLaws.{pos_inj}
use Rattle.grid.proofs.Searches.{frame_decided, figure_decided}
use Rattle.sheet.specs.Sheets.{pixel, foreground}
use Rattle.scan.specs.Starts.{on_canvas}
use Rattle.run.specs.Records.{canvas_side}
use Rattle.run.specs.Starting.{framed, start_level, start_area}

-- a place of the area and the coordinate there
place_up : (p m q : ℕ) → pos p -ℤ pos m ≡ pos q → p ≡ q + m
place_up p m q e = pos_inj (sym (-ℤ-+ℤ_cancel (pos p) (pos m)) ∙ ap (λ z. z +ℤ pos m) e)

pub place_down : (p m : ℕ) → m ≤ p → pos p -ℤ pos m ≡ pos (p - m)
place_down p m l = ap (λ (n : ℕ). pos n -ℤ pos m) (let e : p ≡ p - m + m = omega arith in e)
    ∙ +ℤ-neg_ℤ_cancel (pos (p - m)) (pos m)

-- what the test of the frame decides
pub framed_bounds : (width height margin row col : ℕ) → framed width height margin row col ≡ true
    → (margin ≤ row) × (row < margin + height) × (margin ≤ col) × (col < margin + width)
unfolding framed
framed_bounds width height margin row col e =
    go (leb margin row) (ltb row (margin + height)) (leb margin col) (ltb col (margin + width)) refl refl refl refl e
  where
    go : (a b c d : Bool) → leb margin row ≡ a → ltb row (margin + height) ≡ b → leb margin col ≡ c
        → ltb col (margin + width) ≡ d → (a && b) && (c && d) ≡ true
        → (margin ≤ row) × (row < margin + height) × (margin ≤ col) × (col < margin + width)
    go true true true true p q s t e =
        (leb-true margin row p, ltb-true row (margin + height) q, leb-true margin col s, ltb-true col (margin + width) t)
    go true true true false p q s t e = absurd (false≢true e)
    go true true false d p q s t e = absurd (false≢true e)
    go true false c d p q s t e = absurd (false≢true e)
    go false b c d p q s t e = absurd (false≢true e)

module _ (width height margin : ℕ) (sheet : List ℕ) (row col : ℕ) where
  abbrev x : Point
  x = on_canvas margin row col

  pub framed_on : frame width height x → framed width height margin row col ≡ true
  unfolding framed
  framed_on (r, c, a, b, e) =
      let p = place_up row margin r (ap (λ z. z.row) e) in
      let q = place_up col margin c (ap (λ z. z.col) e) in
      rw (
        le-leb margin row (omega arith),
        lt-ltb row (margin + height) (omega arith),
        le-leb margin col (omega arith),
        lt-ltb col (margin + width) (omega arith),
      )

  pub place_is : framed width height margin row col ≡ true → x ≡ at (pos (row - margin)) (pos (col - margin))
  place_is e = let (l, _, m, _) = framed_bounds width height margin row col e in
      ap₂ at (place_down row margin l) (place_down col margin m)

  framed_off : ¬ frame width height x → framed width height margin row col ≡ false
  framed_off n = go (framed width height margin row col) refl
    where
      go : (t : Bool) → framed width height margin row col ≡ t → framed width height margin row col ≡ false
      go true e =
          let (l, h, m, i) = framed_bounds width height margin row col e in
          absurd (n (row - margin, col - margin, omega arith, omega arith, place_is e))
      go false e = e

  -- the level there
  module _ (on off outside : ℕ) (a : row < canvas_side height margin) (b : col < canvas_side width margin) where
    abbrev level : ℕ
    level = get_or (start_area width height margin sheet on off outside) (row * canvas_side width margin + col) 0

    level_at_lem : level ≡ start_level width height margin sheet on off outside row col
    unfolding start_area
    level_at_lem = get_or-raster (canvas_side width margin) (canvas_side height margin)
        (start_level width height margin sheet on off outside) row col 0 a b

    pub level_on_lem : foreground width height sheet x → level ≡ on
    level_on_lem (r, c, i, j, v, e) =
        let p = place_up row margin r (ap (λ z. z.row) e) in
        let q = place_up col margin c (ap (λ z. z.col) e) in
        let same = ap₂ (pixel width sheet) (let f : row - margin ≡ r = omega arith in f) (let f : col - margin ≡ c = omega arith in f) in
        level_at_lem ∙ rw (framed_on (r, c, i, j, e), eq-eqb (pixel width sheet (row - margin) (col - margin)) 1 (same ∙ v))

    pub level_off : frame width height x → ¬ foreground width height sheet x → level ≡ off
    level_off f n =
        let e = framed_on f in
        let (l, h, m, i) = framed_bounds width height margin row col e in
        let unset = ne_eqb (pixel width sheet (row - margin) (col - margin)) 1
        (λ v. n (row - margin, col - margin, omega arith, omega arith, v, place_is e)) in
        level_at_lem ∙ rw (e, unset)

    level_outside : ¬ frame width height x → level ≡ outside
    level_outside n = level_at_lem ∙ rw (framed_off n)

    -- where the margin starts as the background: all but the foreground
    pub level_unset : off ≡ outside → ¬ foreground width height sheet x → level ≡ off
    level_unset same n = go (frame_decided width height x)
      where
        go : Dec (frame width height x) → level ≡ off
        go (yes f) = level_off f n
        go (no m) = level_outside m ∙ sym same

    -- where it starts as the foreground: all but the background
    pub level_set : on ≡ outside → ¬ background width height (foreground width height sheet) x → level ≡ on
    level_set same n = go (frame_decided width height x) (figure_decided width height (pixel width sheet) x)
      where
        go : Dec (frame width height x) → Dec (foreground width height sheet x) → level ≡ on
        go (yes f) (yes h) = level_on_lem h
        go (yes f) (no m) = absurd (n (f, m))
        go (no m) h = level_outside m ∙ sym same
