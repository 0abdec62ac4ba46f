-- What the program prints: the picture of a sheet eroded with the cross, or "refused" and a number.
use Rattle.std.specs.Prelude.{ℕ, ◌*◌, cond, List, [], ◌∷◌, ◌++◌, eqb, leb, ltb, length}
use Rattle.basics.specs.Refusals.{Refusal, first}
use Rattle.decimal.specs.Numbers.{digits}
use Rattle.run.specs.declared.Record.{Record}
use Rattle.run.specs.declared.kinds.Kind.TheVariants.{Eroding}
use Rattle.run.specs.Records.{due}
use Rattle.run.specs.Starting.{start_record, start_levels}
use Rattle.run.specs.Continuing.{with_rows}
use Rattle.run.specs.Pictures.{collected}
use Rattle.run.specs.Demand2.{finished}
use Rattle.pbm.specs.Header.{Header, broken, whole, header}
use Rattle.pbm.specs.Pbm.{cleared, header_refusals, raster_refusals}
use Rattle.pgm.specs.WritePgm.{picture}

-- the program takes inputs below 65,536 bytes and sheets of at most 16,384 pixels; their pictures have at most 98,432 bytes
abbrev pub input_end : ℕ
input_end = 65536

abbrev pub most_pixels : ℕ
most_pixels = 16384

abbrev pub text_room : ℕ
text_room = 98432

-- "refused", a blank, the number, LF
unfoldable pub refused_text : ℕ → List ℕ
refused_text number = (114 ∷ 101 ∷ 102 ∷ 117 ∷ 115 ∷ 101 ∷ 100 ∷ 32 ∷ []) ++ (digits number ++ (10 ∷ []))

-- the centre and its four neighbours
abbrev pub cross : List ℕ
cross = 0 ∷ 1 ∷ 0 ∷ 1 ∷ 1 ∷ 1 ∷ 0 ∷ 1 ∷ 0 ∷ []

-- the run of a sheet, and the picture of its finished levels
abbrev pub cross_run : ℕ → ℕ → Record
cross_run width height = start_record Eroding width height 0 3 cross

abbrev pub cross_levels : ℕ → ℕ → List ℕ → List ℕ
cross_levels width height sheet =
    collected (cross_run width height) (finished (cross_run width height) (start_levels (cross_run width height) sheet))

unfoldable pub sheet_text : ℕ → ℕ → List ℕ → List ℕ
sheet_text width height sheet =
    cond (ltb most_pixels (width * height)) (refused_text 10)
    (picture (with_rows (cross_run width height) (due (cross_run width height))) (cross_levels width height sheet))

-- 21, 22, 2, 23, 24 of a file; the program's room is never short
abbrev pub raster_of : Header → List Refusal
raster_of broken = []
raster_of (whole width height raster) = raster_refusals width height raster

abbrev pub file_refusals : List ℕ → List Refusal
file_refusals file = header_refusals file ++ raster_of (header file)

abbrev pub sound_text : Header → List ℕ
sound_text broken = []
sound_text (whole width height raster) = sheet_text width height (cleared width height raster)

-- an input that is too long is refused before all else
unfoldable pub printed : List ℕ → List ℕ
printed input =
    cond (leb input_end (length input)) (refused_text 10)
    (cond (eqb (first (file_refusals input)) 0) (sound_text (header input)) (refused_text (first (file_refusals input))))
