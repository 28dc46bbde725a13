-- Five bytes of a list, in base 32.
use Rattle.std.specs.Prelude.{ℕ, ◌+◌, ◌*◌, List, slice_index}
use Rattle.kp_choice_defs.specs.Names.{quantum_text}

-- the number of the five bytes from this place on
abbrev pub quantum_at : List ℕ → ℕ → ℕ
quantum_at bs at =
    (((slice_index bs at * 256 + slice_index bs (at + 1)) * 256 + slice_index bs (at + 2)) * 256
    + slice_index bs (at + 3)) * 256 + slice_index bs (at + 4)

-- and their eight characters
abbrev pub quantum_text_at : List ℕ → ℕ → List ℕ
quantum_text_at bs at =
    quantum_text (slice_index bs at) (slice_index bs (at + 1)) (slice_index bs (at + 2))
    (slice_index bs (at + 3)) (slice_index bs (at + 4))
