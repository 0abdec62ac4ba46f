-- The sizes that are looked at, one by one: what a loop over the map learns, and that none is above the cap exactly where no
-- foreground point has a larger size.
use Prim.Native.Nat.{ℕ, ◌+◌, ◌*◌, ◌/◌, ◌%◌, ◌≤◌, ◌<◌}
use native.Mathlib.Nat.{le_of_eq, zero-mul, suc-mul}
use native.Mathlib.Numerals.{add-one}
use native.Mathlib.Omega.{arith}
use mathlib.Core.Path.{◌≡◌, refl, sym, ap, ◌∙◌}
use mathlib.Core.Bool.{Bool, true, false, cond, ◌&&◌, ◌||◌}
use mathlib.Core.List.{List}
use lib.Dec.{eqb, ltb}
use lib.ListN.{length, get_or}
use borrow.Author.Tests.{le-ltb, eq-eqb}
use Rattle.basics.specs.Bounds.{any_above}
use Rattle.basics.proofs.Arithmetic.{entry_of, entry_below}
use Rattle.basics.proofs.BoundLaws.{above_next, above_end, all_within, none_above}
use Rattle.basics.proofs.TableLaws.{length-raster, get_or-raster, get_or-table}
use Rattle.basics.specs.Tables.{raster}
use Rattle.grid.specs.Points.{Point}
use Rattle.sheet.specs.Sheets.{pixel}
use Rattle.run.specs.declared.Input.{Input}
use Rattle.filters.specs.Filters.{frame_size, foreground_of}
use Rattle.maps.specs.Maps.{size_in, size_of, sizes_seen}
use Rattle.maps.specs.Raising.{above_from}

module _ (input : Input) (sheet map : List ℕ) where
  abbrev seen : ℕ → ℕ → ℕ
  seen row col = cond (eqb (pixel input.width sheet row col) 1) (size_in input.width map row col) 0

  pub seen_length : length (sizes_seen input sheet map) ≡ frame_size input
  unfolding sizes_seen
  seen_length = length-raster input.width input.height seen

  -- at a place of the list, and at a row and a column
  seen_at : (k : ℕ) → k < frame_size input
      → get_or (sizes_seen input sheet map) k 0
      ≡ cond (eqb (pixel input.width sheet (k / input.width) (k % input.width)) 1) (get_or map k 0) 0
  unfolding sizes_seen raster
  seen_at k l = get_or-table (λ k. seen (k / input.width) (k % input.width)) (frame_size input) k 0 l
      ∙ ap (λ j. cond (eqb (pixel input.width sheet (k / input.width) (k % input.width)) 1) (get_or map j 0) 0)
      (entry_of input.width k)

  seen_in : (row col : ℕ) → row < input.height → col < input.width
      → get_or (sizes_seen input sheet map) (row * input.width + col) 0 ≡ seen row col
  unfolding sizes_seen
  seen_in row col a b = get_or-raster input.width input.height seen row col 0 a b

  -- a size above the cap counts where the pixel is 1
  pub seen_above : (cap row col number : ℕ) → row < input.height → col < input.width → number ≡ pixel input.width sheet row col
      → eqb number 1 && ltb cap (size_in input.width map row col)
      ≡ ltb cap (get_or (sizes_seen input sheet map) (row * input.width + col) 0)
  seen_above cap row col number a b e =
      ap (λ n. eqb n 1 && ltb cap (size_in input.width map row col)) e
      ∙ sym (ap (ltb cap) (seen_in row col a b) ∙ go (eqb (pixel input.width sheet row col) 1))
    where
      go : (t : Bool) → ltb cap (cond t (size_in input.width map row col) 0) ≡ t && ltb cap (size_in input.width map row col)
      go true = refl
      go false = le-ltb cap 0 (omega arith)

  -- whether one is above from a place on, as the loops go: column by column, row by row
  module _ (cap : ℕ) where
    abbrev left : ℕ → Bool
    left = above_from cap (sizes_seen input sheet map)

    pub left_first : left (0 * input.width) ≡ any_above cap (sizes_seen input sheet map)
    left_first = ap left (zero-mul input.width)

    pub left_next : (row : ℕ) → left ((row + 1) * input.width) ≡ left (row * input.width + input.width)
    left_next row = ap left (ap (λ n. n * input.width) (add-one row) ∙ suc-mul row input.width)

    pub left_end : left (input.height * input.width) ≡ false
    left_end = above_end cap (sizes_seen input sheet map) (input.height * input.width) (le_of_eq seen_length)

    module _ (row col : ℕ) (a : row < input.height) (b : col < input.width) where
      abbrev place : ℕ
      place = row * input.width + col

      in_list : place < length (sizes_seen input sheet map)
      in_list = rw seen_length (entry_below input.width input.height row col a b)

      pub left_here : left place ≡ ltb cap (get_or (sizes_seen input sheet map) place 0) || left (row * input.width + (col + 1))
      left_here = above_next cap (sizes_seen input sheet map) place in_list
          ∙ ap (λ k. ltb cap (get_or (sizes_seen input sheet map) place 0) || left k)
          (let e : place + 1 ≡ row * input.width + (col + 1) = omega arith in e)

  -- NONE ABOVE THE CAP
  pub sizes_small : (cap : ℕ) → any_above cap (sizes_seen input sheet map) ≡ false → (a : Point) → foreground_of input sheet a
      → size_of input map a ≤ cap
  sizes_small cap none a (row, col, i, j, v, e) =
      let w = all_within cap (sizes_seen input sheet map) (row * input.width + col) none
      (rw seen_length (entry_below input.width input.height row col i j)) in
      let s : get_or (sizes_seen input sheet map) (row * input.width + col) 0 ≡ size_in input.width map row col =
      seen_in row col i j ∙ rw (eq-eqb (pixel input.width sheet row col) 1 v) in
      let p : size_of input map a ≡ size_in input.width map row col = ap (size_of input map) e in
      omega arith

  pub none_large : (cap : ℕ) → ((k : ℕ) → k < frame_size input → get_or map k 0 ≤ cap)
      → any_above cap (sizes_seen input sheet map) ≡ false
  none_large cap small =
      none_above cap (sizes_seen input sheet map)
      (λ k l. let m = rw seen_length at l in rw (seen_at k m)
      (go (eqb (pixel input.width sheet (k / input.width) (k % input.width)) 1) (get_or map k 0) (small k m)))
    where
      go : (t : Bool) (size : ℕ) → size ≤ cap → cond t size 0 ≤ cap
      go true size h = h
      go false size h = omega arith
