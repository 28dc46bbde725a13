-- Names of chains (iptables-restore), and the order of chains: by table, nat first, then by the bytes of
-- the name. It names no type that stands on chain names.
use Rattle.std.specs.Prelude.{ℕ, ◌==◌, ◌&&◌, ◌||◌, nat_le, Bool, List, [], ◌∷◌, not, length, bytes_eq, codes}
use Rattle.std.specs.List.{list_all, list_any}
use Rattle.kp_base.specs.Grammar.{is_lower, is_upper, is_digit}

-- a byte of a chain's name: a letter, a digit or a dash
abbrev pub is_chain_byte : ℕ → Bool
is_chain_byte byte = is_lower byte || (is_upper byte || (is_digit byte || (byte == 45)))

-- the words of targets, which name no chain
abbrev pub target_words : List (List ℕ)
target_words =
    codes "RETURN" ∷ codes "ACCEPT" ∷ codes "DROP" ∷ codes "REJECT" ∷ codes "MARK" ∷ codes "DNAT"
    ∷ codes "MASQUERADE" ∷ []

-- 1 to 28 bytes of names, and no word of a target
abbrev pub is_chain_name : List ℕ → Bool
is_chain_name text =
    nat_le 1 (length text) && nat_le (length text) 28 && list_all is_chain_byte text
    && not (list_any (bytes_eq text) target_words)
