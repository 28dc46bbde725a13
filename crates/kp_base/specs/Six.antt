-- The texts of IPv6 addresses (RFC 4291, 2.2): eight groups of hexadecimal digits with colons between them, of which
-- one run or more of zeros may be `::`, and the last two an IPv4 address. A zone is refused. With them the texts
-- of addresses and ranges of either family.
use Rattle.std.specs.Prelude.{ℕ, ◌+◌, ◌*◌, ◌/◌, ◌%◌, ◌^◌, List, [], ◌∷◌, map, fold, Option, option_map, option_and_then}
use Rattle.std.specs.Option.{option_or}
use Rattle.std.specs.Net.Reader.{read_ipv6, whole_value}
use Rattle.kp_base.specs.Net.{AddressParts, RangeParts, v6_address, width}
use Rattle.kp_base.specs.Dotted.{address_of, decimal_up_to, range_from, split_once}

-- the number of groups of sixteen bits, the first the highest
abbrev pub groups_number : List ℕ → ℕ
groups_number groups = fold (λ n group. n * 65536 + group) 0 groups

-- the eight groups of a number, the highest first
abbrev pub groups_of : ℕ → List ℕ
groups_of n = map (λ place. n / 2 ^ (16 * place) % 2 ^ 16) (7 ∷ 6 ∷ 5 ∷ 4 ∷ 3 ∷ 2 ∷ 1 ∷ 0 ∷ [])

-- the IPv6 address that a text writes: std's reader reads the whole of it
abbrev pub six_of : List ℕ → Option AddressParts
six_of text = option_map (λ groups. v6_address (groups_number groups)) (whole_value (read_ipv6 text))

-- the address of either family that a text writes
abbrev pub any_address_of : List ℕ → Option AddressParts
any_address_of text = option_or (address_of text) (six_of text)

-- the range of two texts, one on each side of a slash
abbrev pub any_range_of_parts : List ℕ → List ℕ → Option RangeParts
any_range_of_parts base length =
    option_and_then (λ a. option_map (range_from a) (decimal_up_to (width a.family) length)) (any_address_of base)

-- the range of either family that a text writes: an address, a slash and a length
abbrev pub any_range_of : List ℕ → Option RangeParts
any_range_of text = option_and_then (λ (base, length). any_range_of_parts base length) (split_once 47 text)
