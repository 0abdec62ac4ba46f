-- What the call is refused for, judged in this order: as the start of a dilation, then the map's length, the output's, and last the
-- sizes.
use Prim.Native.Nat.{ℕ, ◌*◌}
use native.Mathlib.Omega.{arith}
use mathlib.Core.Path.{◌≡◌}
use mathlib.Core.Bool.{false, not}
use mathlib.Core.List.{List, [], ◌∷◌}
use lib.Dec.{eqb}
use lib.ListN.{length}
use borrow.Author.Tests.{eq-eqb, eqb-true, not-false}
use Rattle.basics.specs.Bounds.{any_above}
use Rattle.basics.specs.Refusals.{Refusal, first}
use Rattle.basics.proofs.RefusalLaws.{judged_next, first_both, passed}
use Rattle.sheet.specs.Sheets.{row_bytes}
use Rattle.run.specs.Starting.{dilation_refusals}
use Rattle.run.specs.declared.Input.{Input}
use Rattle.filters.specs.Filters.{frame_size, sheet_size}
use Rattle.maps.specs.Maps.{Buffers, sizes_seen, map_refusals}

module _ (input : Input) (sheet bytes : List ℕ) (cap : ℕ) (map : List ℕ) (lent : Buffers) where
  abbrev pub start : List Refusal
  start = dilation_refusals input.width input.height sheet input.side bytes cap lent.work

  abbrev last : List Refusal
  last = (8, any_above cap (sizes_seen input sheet map)) ∷ []

  abbrev room : List Refusal
  room = (11, not (eqb (length lent.out) (sheet_size input))) ∷ last

  abbrev later : List Refusal
  later = (10, not (eqb (length map) (frame_size input))) ∷ room

  -- nothing applies
  pub none_refused : first start ≡ 0 → length map ≡ frame_size input → {entries : ℕ} → entries ≡ row_bytes input.width
      → length lent.out ≡ input.height * entries → false ≡ any_above cap (sizes_seen input sheet map)
      → 0 ≡ first (map_refusals input sheet bytes cap map lent)
  none_refused z same {entries} q fits e = judged_next start later tt z
      (rw (eq-eqb (length map) (frame_size input) same, ← q, eq-eqb (length lent.out) (input.height * entries) fits, ← e))

  -- what an accepted call has
  pub record Taken : Type 0 where
    pub begins : first start ≡ 0
    pub map_size : length map ≡ frame_size input
    pub out_size : length lent.out ≡ sheet_size input
    pub none_large : any_above cap (sizes_seen input sheet map) ≡ false

  pub taken : first (map_refusals input sheet bytes cap map lent) ≡ 0 → Taken
  taken z =
      let p = first_both start later tt z in
      let q = passed 10 (not (eqb (length map) (frame_size input))) room (λ e. absurd (omega arith)) p.1 in
      let s = passed 11 (not (eqb (length lent.out) (sheet_size input))) last (λ e. absurd (omega arith)) q.1 in
      let t = passed 8 (any_above cap (sizes_seen input sheet map)) [] (λ e. absurd (omega arith)) s.1 in
      record {
        begins = p.0;
        map_size = eqb-true (length map) (frame_size input) (not-false _ q.0);
        out_size = eqb-true (length lent.out) (sheet_size input) (not-false _ s.0);
        none_large = t.0;
      }
