-- What names of chains begin with.
use Rattle.std.specs.Prelude.{ℕ, ◌==◌, ◌&&◌, nat_le, Bool, false, List, [], ◌∷◌, length}
use Rattle.std.specs.List.{list_all}
use Rattle.kp_types.specs.Chains.{is_chain_byte}

-- at most twelve bytes of names, of which the first is a K, as that of no target is
abbrev pub is_name_prefix : List ℕ → Bool
is_name_prefix [] = false
is_name_prefix (b ∷ bs) = (b == 75) && (list_all is_chain_byte (b ∷ bs) && nat_le (length bs) 11)
