-- The start levels, row by row: off the frame's rows all is outside; in them the left margin, the pixels and the right margin
-- follow one another.
use Prim.Native.Nat.{ℕ, ◌+◌, ◌-◌, ◌*◌, ◌≤◌, ◌<◌}
use native.Mathlib.Nat.{zero-add}
use native.Mathlib.Omega.{arith}
use mathlib.Core.Path.{◌≡◌, refl, ◌∙◌}
use mathlib.Core.Bool.{cond}
use mathlib.Core.List.{List, ◌++◌}
use lib.Dec.{eqb}
use lib.ListN.{length, take, drop, length-drop, replicate}
use borrow.Rule.Slice.PartMut.{mid_of, put_mid}
use Rattle.std.proofs.lemmas.List.{length-take-le}
use borrow.Author.Tests.{lt-ltb, le-ltb, le-leb, lt-leb}
use Rattle.basics.specs.Tables.{table}
use Rattle.basics.proofs.TableLaws.{Filling, filling_start, filling_end, table_same}
use Rattle.sheet.specs.Sheets.{pixel, row_bytes}
use Rattle.run.specs.Records.{canvas_side}
use Rattle.run.specs.Starting.{framed, start_level, start_area}
use Rattle.run.specs.declared.records.Frame.{Frame}
use Rattle.run.proofs.PatchLaws.{row_end}
use Rattle.run.proofs.PartLaws.{filling_part, replicate_is, RowsFilled, rows_end}

-- a row of the frame is in the sheet
pub row_bytes_lem : (width height margin row : ℕ) → margin ≤ row → row < margin + height
    → (row - margin) * row_bytes width + row_bytes width ≤ height * row_bytes width
row_bytes_lem width height margin row a b = row_end (row_bytes width) height (row - margin) (omega arith)

module _ (width height margin : ℕ) (sheet : List ℕ) (on off outside row : ℕ) where
  abbrev level_here : ℕ → ℕ
  level_here = start_level width height margin sheet on off outside row

  pub row_above : row < margin → (col : ℕ) → outside ≡ level_here col
  unfolding framed
  row_above l col = rw (lt-leb margin row l)

  pub row_below : margin + height ≤ row → (col : ℕ) → outside ≡ level_here col
  unfolding framed
  row_below l col = rw (le-leb margin row (omega arith), le-ltb row (margin + height) l)

  module _ (a : margin ≤ row) (b : row < margin + height) where
    column_left : (col : ℕ) → col < margin → outside ≡ level_here col
    unfolding framed
    column_left col l = rw (le-leb margin row a, lt-ltb row (margin + height) b, lt-leb margin col l)

    column_right : (col : ℕ) → margin + width ≤ col → outside ≡ level_here col
    unfolding framed
    column_right col l = rw (
      le-leb margin row a,
      lt-ltb row (margin + height) b,
      le-leb margin col (omega arith),
      le-ltb col (margin + width) l,
    )

    column_in : (col : ℕ) → col < width
        → cond (eqb (pixel width sheet (row - margin) col) 1) on off
        ≡ level_here (margin + col)
    unfolding framed
    column_in col l =
        let e : margin + col - margin ≡ col = omega arith in
        rw (
          le-leb margin row a,
          lt-ltb row (margin + height) b,
          le-leb margin (margin + col) (omega arith),
          lt-ltb (margin + col) (margin + width) (omega arith),
          e,
        )

    -- the left margin, the pixels and the right margin, filled one after the other, are the row
    module _ (levels : List ℕ) (long : length levels ≡ canvas_side width margin) {left : List ℕ}
        (p : left ≡ replicate (length (take margin levels)) outside) where
      abbrev begun : List ℕ
      begun = left ++ drop margin levels

      begun_is : Filling (canvas_side width margin) level_here margin begun
      begun_is =
          let e = length-take-le margin levels (omega arith) in
          rw zero-add at (filling_part margin (filling_start (canvas_side width margin) level_here levels long) refl (omega arith)
          ((rw e at p) ∙ replicate_is margin outside (λ j. level_here (0 + j)) (λ i l. rw zero-add (column_left i l))))

      module _ {middle : List ℕ} {n : ℕ} (n-is : n ≡ length (mid_of margin (margin + width - margin) begun))
          (q : middle ≡ table n (λ col. cond (eqb (pixel n sheet (row - margin) col) 1) on off)) where
        abbrev most : List ℕ
        most = put_mid margin (margin + width - margin) begun middle

        most_is : Filling (canvas_side width margin) level_here (margin + width) most
        most_is =
            let size = begun_is.size in
            let d = length-drop margin begun in
            let s : margin + width - margin ≡ width = omega arith in
            let e : n ≡ width = n-is ∙ rw s (length-take-le width (drop margin begun) (omega arith)) in
            filling_part width begun_is s (omega arith)
            ((rw e at q) ∙ table_same (λ col. cond (eqb (pixel width sheet (row - margin) col) 1) on off)
            (λ j. level_here (margin + j)) width column_in)

        pub row_parts : {right : List ℕ}
            → right ≡ replicate (length (mid_of (margin + width) (length most - (margin + width)) most)) outside
            → put_mid (margin + width) (length most - (margin + width)) most right ≡ table (canvas_side width margin) level_here
        row_parts r =
            let size = most_is.size in
            let d = length-drop (margin + width) most in
            let s : length most - (margin + width) ≡ margin = omega arith in
            let e : length (mid_of (margin + width) (length most - (margin + width)) most) ≡ margin
            = rw s (length-take-le margin (drop (margin + width) most) (omega arith)) in
            filling_end _ _ _ _ (filling_part margin most_is s (omega arith)
            ((rw e at r) ∙ replicate_is margin outside _ (λ i l. column_right (margin + width + i) (omega arith)))) (omega arith)

-- all rows of the area are the start levels
pub start_raster : (on off outside : ℕ) (sheet : List ℕ) (frame : Frame) {after : List ℕ} {row : ℕ}
    → RowsFilled (canvas_side frame.width frame.margin) (canvas_side frame.height frame.margin)
    (start_level frame.width frame.height frame.margin sheet on off outside) row after
    → row ≡ canvas_side frame.height frame.margin
    → after ≡ start_area frame.width frame.height frame.margin sheet on off outside
unfolding start_area
start_raster on off outside sheet frame filled e = rows_end filled e
