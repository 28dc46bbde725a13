-- The bytes of a chain's name are ASCII, and so they are text.
use Rattle.std.proofs.Common.{◌≡◌, ℕ, suc, zero, ◌<◌, List, [], ◌∷◌, true, arith}
use Rattle.std.specs.List.{list_all}
use Rattle.std.specs.Str.{IsAscii, IsUtf8}
use Rattle.std.proofs.lemmas.Bool.{and_parts}
use Rattle.std.proofs.lemmas.Bool.Decides.{nat_tests}
use Rattle.std.proofs.lemmas.Str.{IsUtf8-from_ascii}
use Rattle.kp_types.specs.Chains.{is_chain_byte, is_chain_name}

-- a byte of a name is ASCII
chain_byte_small : (b : ℕ) → is_chain_byte b ≡ true → b < 128
chain_byte_small b h = grind (arith, nat_tests)

all_small : (bs : List ℕ) → list_all is_chain_byte bs ≡ true → IsAscii bs
all_small [] h i = omega arith
all_small (b ∷ bs) h zero = chain_byte_small b (and_parts _ _ h).0
all_small (b ∷ bs) h (suc i) = all_small bs (and_parts _ _ h).1 i

-- the bytes of a name
pub name_bytes : (bs : List ℕ) → is_chain_name bs ≡ true → list_all is_chain_byte bs ≡ true
name_bytes bs h = (and_parts _ _ (and_parts _ _ h).0).1

-- a name is text
pub name_utf8 : (bs : List ℕ) → is_chain_name bs ≡ true → IsUtf8 bs
name_utf8 bs h = IsUtf8-from_ascii bs (all_small bs (name_bytes bs h))
