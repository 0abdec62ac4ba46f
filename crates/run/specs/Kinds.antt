-- The three kinds of run, and a table of all in which they differ. A cropped run erodes a sheet cropped from a larger one, with
-- foreground beyond the frame: it proceeds as a dilation of the frame's background by the reflected element.
use Rattle.std.specs.Prelude.{ℕ, suc, ◌-◌, Bool, cond, ◌&&◌, List, eqb, leb, ltb}
use Rattle.basics.specs.Limits.{largest_size}
use Rattle.element.specs.Cells.{turned, unflat}
use Rattle.row.specs.RowRule.{none}
use Rattle.run.specs.declared.Record.{Record}
use Rattle.run.specs.declared.kinds.Kind.{Kind}
use Rattle.run.specs.declared.kinds.Kind.TheVariants.{Eroding, Dilating, Cropping}

-- what a record has for them: its kind, and its edge rule, by which background or foreground lies beyond the frame
abbrev pub erosion_kind : ℕ
erosion_kind = 1

abbrev pub dilation_kind : ℕ
dilation_kind = 2

abbrev pub background_beyond : ℕ
background_beyond = 0

abbrev pub foreground_beyond : ℕ
foreground_beyond = 1

abbrev pub kind_of : Record → Kind
kind_of r = cond (eqb r.kind erosion_kind) (cond (eqb r.edge background_beyond) Eroding Cropping) Dilating

-- one of three, by the kind
abbrev pub by_kind : {A : Type 0} → Kind → A → A → A → A
by_kind Eroding erosion dilation cropped = erosion
by_kind Dilating erosion dilation cropped = dilation
by_kind Cropping erosion dilation cropped = cropped

abbrev pub kind_number : Kind → ℕ
kind_number kind = by_kind kind erosion_kind dilation_kind erosion_kind

abbrev pub edge_rule : Kind → ℕ
edge_rule kind = by_kind kind background_beyond background_beyond foreground_beyond

-- the partners of x: x + b for both erosions, x - b for a dilation; and what reads beyond the area
abbrev pub cells_of : Record → List (List ℕ)
cells_of r = by_kind (kind_of r) (unflat r.cells) (turned (unflat r.cells)) (unflat r.cells)

abbrev pub beyond_of : Record → ℕ
beyond_of r = by_kind (kind_of r) 0 none none

-- start levels on the foreground and on the frame's background; a margin starts as it reads beyond
abbrev pub on_of : Record → ℕ
on_of r = by_kind (kind_of r) none 1 none

abbrev pub off_of : Record → ℕ
off_of r = by_kind (kind_of r) 0 none 1

-- the largest size
abbrev pub size_limit : Record → ℕ
size_limit r = by_kind (kind_of r) largest_size r.cap r.cap

-- a level as collected: as it is; above R + 1 as 0; of a crop one less, 0 staying 0, and above R + 1 as 65,535
abbrev pub cropped_level : ℕ → ℕ → ℕ
cropped_level R level = cond (leb level (suc R)) (level - 1) none

abbrev pub collected_level : Record → ℕ → ℕ
collected_level r level =
    by_kind (kind_of r) level (cond (leb level (suc r.cap)) level 0) (cropped_level r.cap level)

-- held at size n: collected levels above n for both erosions, levels 1 to n + 1 for a dilation
abbrev pub is_held_at : Record → ℕ → ℕ → Bool
is_held_at r n level =
    by_kind (kind_of r) (ltb n level) (leb 1 level && leb level (suc n)) (ltb n (cropped_level r.cap level))
