-- Levels raised row by row: no row yet, one row more.
-- A row's stretch begins after the left margin; every place of the canvas lies in it, before it or behind it.
use Prim.Native.Nat.{ℕ, suc, ◌+◌, ◌-◌, ◌*◌, ◌≤◌, ◌<◌}
use native.Mathlib.Nat.{mul-le-mul_right, suc-mul}
use native.Mathlib.Decide.{ℕ_discrete, dec_lt}
use native.Mathlib.Omega.{arith}
use mathlib.Core.Path.{◌≡◌, refl, sym, ap, ap₂, ◌∙◌}
use mathlib.Core.Bool.{Bool, false, true, cond, ◌&&◌}
use mathlib.Core.Logic.{◌≢◌}
use mathlib.Core.List.{List}
use lib.Dec.{leb, ltb}
use lib.ListN.{length, get_or}
use borrow.Rule.Slice.PartMut.{mid_of, put_mid}
use borrow.Author.Tests.{lt-ltb, le-ltb, le-leb, lt-leb}
use Rattle.basics.specs.Tables.{table}
use Rattle.basics.proofs.TableLaws.{table_same}
use Rattle.run.specs.Records.{canvas_side}
use Rattle.run.specs.Starting.{framed}
use Rattle.run.specs.Patches.{Patch}
use Rattle.filters.proofs.StoreLaws.{part_patch, length-mid, get_or-mid}
use Rattle.maps.specs.Maps.{size_in}
use Rattle.maps.specs.Raising.{raised, Raised}

module _ (width margin : ℕ) where
  -- of no rows nothing lies in the frame; another row than the next changes nothing
  framed_none : (row col : ℕ) → framed width 0 margin row col ≡ false
  unfolding framed
  framed_none row col = go (dec_lt row margin)
    where
      go : Dec (row < margin) → (leb margin row && ltb row (margin + 0)) && (leb margin col && ltb col (margin + width)) ≡ false
      go (yes l) = rw (lt-leb margin row l)
      go (no n) = rw (le-leb margin row (omega arith), le-ltb row (margin + 0) (omega arith))

  framed_other : (rows row col : ℕ) → row ≢ rows + margin → framed width (rows + 1) margin row col ≡ framed width rows margin row col
  unfolding framed
  framed_other rows row col n = go (dec_lt row (margin + rows))
    where
      inner : Bool
      inner = leb margin col && ltb col (margin + width)

      go : Dec (row < margin + rows)
          → (leb margin row && ltb row (margin + (rows + 1))) && inner ≡ (leb margin row && ltb row (margin + rows)) && inner
      go (yes l) = rw (lt-ltb row (margin + (rows + 1)) (omega arith), lt-ltb row (margin + rows) l)
      go (no m) = rw (le-ltb row (margin + (rows + 1)) (omega arith), le-ltb row (margin + rows) (omega arith))

  module _ (rows col : ℕ) where
    -- the next row: not yet in the frame, then in it between the margins
    framed_next : framed width rows margin (rows + margin) col ≡ false
    unfolding framed
    framed_next = rw (le-leb margin (rows + margin) (omega arith), le-ltb (rows + margin) (margin + rows) (omega arith))

    framed_left : col < margin → framed width (rows + 1) margin (rows + margin) col ≡ false
    unfolding framed
    framed_left l = rw (
      le-leb margin (rows + margin) (omega arith),
      lt-ltb (rows + margin) (margin + (rows + 1)) (omega arith),
      lt-leb margin col l,
    )

    framed_right : margin + width ≤ col → framed width (rows + 1) margin (rows + margin) col ≡ false
    unfolding framed
    framed_right l = rw (
      le-leb margin (rows + margin) (omega arith),
      lt-ltb (rows + margin) (margin + (rows + 1)) (omega arith),
      le-leb margin col (omega arith),
      le-ltb col (margin + width) l,
    )

    framed_in : margin ≤ col → col < margin + width → framed width (rows + 1) margin (rows + margin) col ≡ true
    unfolding framed
    framed_in l h = rw (
      le-leb margin (rows + margin) (omega arith),
      lt-ltb (rows + margin) (margin + (rows + 1)) (omega arith),
      le-leb margin col l,
      lt-ltb col (margin + width) h,
    )

  module _ (most : ℕ) (map : List ℕ) where
    pub raised_none : (levels : List ℕ) → Raised width margin 0 most map levels levels
    raised_none levels = record { size = refl; level = λ row col b. rw (framed_none row col) }

    module _ {rows : ℕ} {before levels after : List ℕ} (R : Raised width margin rows most map before levels)
        (P : Patch ((rows + margin) * canvas_side width margin + margin) width
        (λ i. raised most (get_or map (rows * width + i) 0)
        (get_or levels ((rows + margin) * canvas_side width margin + margin + i) 0)) levels after) where
      abbrev side : ℕ
      side = canvas_side width margin

      -- what a place is to hold
      abbrev wanted : ℕ → ℕ → Bool → ℕ
      wanted row col t = let level = get_or before (row * side + col) 0 in
          cond t (raised most (size_in width map (row - margin) (col - margin)) level) level

      -- a place outside the stretch, whose row or column is not among those raised now
      stays : (row col : ℕ) → col < side → get_or after (row * side + col) 0 ≡ get_or levels (row * side + col) 0
          → framed width rows margin row col ≡ framed width (rows + 1) margin row col
          → get_or after (row * side + col) 0 ≡ wanted row col (framed width (rows + 1) margin row col)
      stays row col b e f = e ∙ R.level row col b ∙ ap (wanted row col) f

      -- the row that is raised now
      here : (col : ℕ) → col < side → Dec (col < margin) → Dec (col < margin + width)
          → get_or after ((rows + margin) * side + col) 0
          ≡ wanted (rows + margin) col (framed width (rows + 1) margin (rows + margin) col)
      here col b (yes l) d = stays (rows + margin) col b (P.earlier _ (omega arith))
          (framed_next rows col ∙ sym (framed_left rows col l))
      here col b (no n) (no m) = stays (rows + margin) col b (P.later _ (omega arith))
          (framed_next rows col ∙ sym (framed_right rows col (omega arith)))
      here col b (no n) (yes h) =
          let place : (rows + margin) * side + col ≡ (rows + margin) * side + margin + (col - margin) = omega arith in
          let i : rows + margin - margin ≡ rows = omega arith in
          let old : get_or levels ((rows + margin) * side + margin + (col - margin)) 0 ≡ get_or before ((rows + margin) * side + col) 0 =
          ap (λ k. get_or levels k 0) (sym place) ∙ R.level (rows + margin) col b
          ∙ ap (wanted (rows + margin) col) (framed_next rows col) in
          ap (λ k. get_or after k 0) place ∙ P.inside (col - margin) (omega arith)
          ∙ rw (framed_in rows col (omega arith) h, i, old)

      pub raised_turn : Raised width margin (rows + 1) most map before after
      raised_turn = record { size = P.size ∙ R.size; level = λ row col b. go row col b (ℕ_discrete row (rows + margin)) (dec_lt row (rows + margin)) }
        where
          go : (row col : ℕ) → col < side → Dec (row ≡ rows + margin) → Dec (row < rows + margin)
              → get_or after (row * side + col) 0 ≡ wanted row col (framed width (rows + 1) margin row col)
          go row col b (yes e) d = rw e (here col b (dec_lt col margin) (dec_lt col (margin + width)))
          go row col b (no n) (yes l) =
              let m : suc row * side ≤ (rows + margin) * side = mul-le-mul_right side l in
              let s = suc-mul row side in
              stays row col b (P.earlier _ (omega arith)) (sym (framed_other rows row col n))
          go row col b (no n) (no h) =
              let m : suc (rows + margin) * side ≤ row * side = mul-le-mul_right side (let l : suc (rows + margin) ≤ row = omega arith in l) in
              let s = suc-mul (rows + margin) side in
              stays row col b (P.later _ (omega arith)) (sym (framed_other rows row col n))

    -- the same of a part that is written into the levels
    pub raised_part : {rows side : ℕ} {before levels part : List ℕ} → Raised width margin rows most map before levels
        → side ≡ canvas_side width margin
        → (rows + margin) * canvas_side width margin + margin + width ≤ length levels → rows * width + width ≤ length map
        → let at = (rows + margin) * side + margin in
        let from = rows * width in
        part ≡ table (length (mid_of from (from + width - from) map))
        (λ i. raised most (get_or (mid_of from (from + width - from) map) i 0) (get_or (mid_of at (at + width - at) levels) i 0))
        → Raised width margin (rows + 1) most map before (put_mid at (at + width - at) levels part)
    raised_part {rows} {side} {before} {levels} {part} R e room inside is =
        let w = width in
        let at = (rows + margin) * canvas_side w margin + margin in
        let from = rows * w in
        let q : at + w - at ≡ w = omega arith in
        let p : from + w - from ≡ w = omega arith in
        rw e (raised_turn R (part_patch at w (at + w - at) levels part _ q room
        ((rw (e, length-mid from w map inside) at is)
        ∙ table_same
        (λ i. raised most (get_or (mid_of from (from + w - from) map) i 0) (get_or (mid_of at (at + w - at) levels) i 0))
        (λ i. raised most (get_or map (from + i) 0) (get_or levels (at + i) 0)) w
        (λ i l. ap₂ (λ s v. raised most s v) (get_or-mid from w (from + w - from) map i p l)
        (get_or-mid at w (at + w - at) levels i q l)))))
