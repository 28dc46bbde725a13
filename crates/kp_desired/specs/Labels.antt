-- Terms of a selector among labels.
use Rattle.std.specs.Prelude.{Bool, ◌&&◌, bytes_eq}
use Rattle.kp_base.specs.declared.key.Pair.{Pair}

-- a label is the one of a term
abbrev pub is_label : Pair → Pair → Bool
is_label term label = bytes_eq label.key term.key && bytes_eq label.value term.value
