-- The empty text writes no address.
use Rattle.std.proofs.Common.{◌≡◌, ℕ, List, [], ◌∷◌, None, option_and_then, refl}
use Rattle.std.specs.Net.Reader.{read_ipv6, read_segments, read_segment, read_octet, read_ipv4, read_number}
use Rattle.kp_base.specs.Six.{any_address_of}
use Rattle.kp_row_defs.specs.Fields.{not_empty}

no_address : any_address_of [] ≡ None
unfolding read_ipv6 read_segments read_segment read_octet read_ipv4 read_number
no_address = refl

-- so the address of a text is that of a text that isn't empty
pub address_of_text : (text : List ℕ)
    → any_address_of text ≡ option_and_then any_address_of (not_empty text)
address_of_text [] = no_address
address_of_text (b ∷ bs) = refl
