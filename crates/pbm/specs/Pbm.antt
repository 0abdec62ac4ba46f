-- What reading and writing raw PBM answer.
use Rattle.std.specs.Prelude.{ℕ, ◌*◌, ◌≡◌, Bool, true, false, not, List, [], ◌∷◌, ◌++◌, ltb, length, Result}
use Rattle.basics.specs.declared.refusal.Refusal as declared
use Rattle.basics.specs.Refusals.{Refusal, Answers, value_or}
use Rattle.decimal.specs.Numbers.{digits}
use Rattle.text.specs.Writing.{begun}
use Rattle.sheet.specs.Sheets.{row_bytes, pixel, frame_refusals, sheet_refusals, packed}
use Rattle.pbm.specs.declared.Frame.{Frame}
use Rattle.pbm.specs.Header.{Header, broken, whole, begins_p4, header}

-- the sheet of a raster, padding cleared
unfoldable pub cleared : ℕ → ℕ → List ℕ → List ℕ
cleared width height raster = packed width height (pixel width raster)

-- READING. 21, 22 and 2, of the header
abbrev pub is_broken : Header → Bool
is_broken broken = true
is_broken (whole width height raster) = false

abbrev pub frame_of : Header → List Refusal
frame_of broken = []
frame_of (whole width height raster) = frame_refusals width height

abbrev pub header_refusals : List ℕ → List Refusal
header_refusals file = (21, not (begins_p4 file)) ∷ (22, is_broken (header file)) ∷ frame_of (header file)

-- 23 and 24, of the raster; 11, of the room
abbrev pub raster_refusals : ℕ → ℕ → List ℕ → List Refusal
raster_refusals width height raster = (23, ltb (length raster) (height * row_bytes width)) ∷
    (24, ltb (height * row_bytes width) (length raster)) ∷ []

abbrev pub room_refusals : ℕ → List ℕ → List Refusal
room_refusals size room = (11, ltb (length room) size) ∷ []

abbrev pub body_refusals : Header → List ℕ → List Refusal
body_refusals broken room = []
body_refusals (whole width height raster) room = raster_refusals width height raster ++ room_refusals (length raster) room

abbrev pub read_refusals : List ℕ → List ℕ → List Refusal
read_refusals file room = header_refusals file ++ body_refusals (header file) room

-- the frame, and the sheet in the output's first bytes
abbrev pub read_answer : Header → List ℕ → ℕ × ℕ × List ℕ
read_answer broken out = (0, 0, out)
read_answer (whole width height raster) out = (width, height, begun (cleared width height raster) out)

abbrev pub ReadsPbm : List ℕ → List ℕ → ℕ → ℕ → ℕ → List ℕ → Type 0
ReadsPbm file out number width height after =
    Answers {A = ℕ × ℕ × List ℕ} (read_refusals file out) (
      0,
      0,
      out,
    ) (λ answer. answer ≡ read_answer (header file) out) number (width, height, after)

-- the frame that a reading gives, or none
abbrev pub frame_given : Result Frame declared.Refusal → Frame
frame_given = value_or (record { width = 0; height = 0 })

-- WRITING. "P4", LF, width, blank, height, LF, and the raster with padding 0
unfoldable pub pbm_header : ℕ → ℕ → List ℕ
pbm_header width height = 80 ∷ 52 ∷ 10 ∷ (digits width ++ (32 ∷ (digits height ++ (10 ∷ []))))

unfoldable pub pbm_text : ℕ → ℕ → List ℕ → List ℕ
pbm_text width height sheet = pbm_header width height ++ cleared width height sheet

abbrev pub write_refusals : ℕ → ℕ → List ℕ → List ℕ → List Refusal
write_refusals width height sheet room = sheet_refusals width height sheet ++
    room_refusals (length (pbm_text width height sheet)) room

-- the length, and the text in the output's first bytes
abbrev pub WritesPbm : ℕ → ℕ → List ℕ → List ℕ → ℕ → ℕ → List ℕ → Type 0
WritesPbm width height sheet out number size after =
    Answers {A = ℕ × List ℕ} (write_refusals width height sheet out) (0, out)
    (λ answer. answer ≡ (length (pbm_text width height sheet), begun (pbm_text width height sheet) out)) number (size, after)
