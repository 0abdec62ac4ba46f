-- The definitions at a few files, each by computing.
use mathlib.Core.Path.{◌≡◌, refl}
use mathlib.Core.List.{[], ◌∷◌}
use Rattle.decimal.specs.Numbers.{is_digit, value_from, digit_run}
use Rattle.pbm.specs.Header.{is_white, run, field, begins_p4, broken, whole, header}

-- "P4", LF, "3 3", LF, and three bytes
small_sheet : header (80 ∷ 52 ∷ 10 ∷ 51 ∷ 32 ∷ 51 ∷ 10 ∷ 224 ∷ 224 ∷ 224 ∷ []) ≡ whole 3 3 (224 ∷ 224 ∷ 224 ∷ [])
unfolding is_digit value_from digit_run is_white run field begins_p4 header
small_sheet = refl

-- zeros in front, any white; after the height CR is the one white byte, and LF the raster's first
carriage_return : header (80 ∷ 52 ∷ 9 ∷ 13 ∷ 48 ∷ 56 ∷ 32 ∷ 10 ∷ 49 ∷ 13 ∷ 10 ∷ []) ≡ whole 8 1 (10 ∷ [])
unfolding is_digit value_from digit_run is_white run field begins_p4 header
carriage_return = refl

-- broken: no white after "P4"; a remark; no height; an end after the height; "P5"
no_white : header (80 ∷ 52 ∷ 51 ∷ 32 ∷ 51 ∷ 10 ∷ []) ≡ broken
unfolding is_digit value_from digit_run is_white run field begins_p4 header
no_white = refl

remark : header (80 ∷ 52 ∷ 10 ∷ 35 ∷ 10 ∷ 51 ∷ 32 ∷ 51 ∷ 10 ∷ []) ≡ broken
unfolding is_digit value_from digit_run is_white run field begins_p4 header
remark = refl

no_height : header (80 ∷ 52 ∷ 10 ∷ 51 ∷ 32 ∷ 10 ∷ []) ≡ broken
unfolding is_digit value_from digit_run is_white run field begins_p4 header
no_height = refl

no_end : header (80 ∷ 52 ∷ 10 ∷ 51 ∷ 32 ∷ 51 ∷ []) ≡ broken
unfolding is_digit value_from digit_run is_white run field begins_p4 header
no_end = refl

other_magic : header (80 ∷ 53 ∷ 10 ∷ 51 ∷ 32 ∷ 51 ∷ 10 ∷ []) ≡ broken
unfolding is_digit value_from digit_run is_white run field begins_p4 header
other_magic = refl
