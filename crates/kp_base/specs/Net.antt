-- Addresses and ranges as contracts see them (RFC 791, 3.2; RFC 4291, 2; RFC 4632, 3.1). What differs
-- between the address families is a function of the family.
use Rattle.std.specs.Prelude.{ℕ, ◌-◌, ◌*◌, ◌/◌, ◌^◌, ◌==◌, ◌&&◌, ◌||◌, Bool, true, false, List}
use Rattle.std.specs.List.{list_any}
use Rattle.kp_base.specs.declared.address.Family.{Family}
use Rattle.kp_base.specs.declared.address.Family.TheVariants.{V4, V6}

-- an address: its family and its number
pub record AddressParts : Type 0 where
  pub family : Family
  pub number : ℕ

-- a range: its first address, and how many bits all its addresses share from the left
pub record RangeParts : Type 0 where
  pub base : AddressParts
  pub bits : ℕ

-- the bits of an address
abbrev pub width : Family → ℕ
width V4 = 32
width V6 = 128

-- whether two families are one
abbrev pub same_family : Family → Family → Bool
same_family V4 V4 = true
same_family V6 V6 = true
same_family V4 V6 = false
same_family V6 V4 = false

-- the IPv4 address with this number
abbrev pub v4_address : ℕ → AddressParts
v4_address n = record { family = V4; number = n }

-- the IPv6 address with this number
abbrev pub v6_address : ℕ → AddressParts
v6_address n = record { family = V6; number = n }

-- whether two addresses are one
abbrev pub same_address : AddressParts → AddressParts → Bool
same_address a b = same_family a.family b.family && (a.number == b.number)

-- the number of addresses in a range of this family and length
abbrev pub range_size : Family → ℕ → ℕ
range_size family bits = 2 ^ (width family - bits)

-- the range holds the address: one family, and the same bits up to the length
abbrev pub range_contains : RangeParts → AddressParts → Bool
range_contains r a =
    same_family r.base.family a.family
    && (a.number / range_size a.family r.bits == r.base.number / range_size a.family r.bits)

-- the range of one address
abbrev pub single_range : AddressParts → RangeParts
single_range a = record { base = a; bits = width a.family }

-- the loopback range of a family (RFC 1122, 3.2.1.3; RFC 4291, 2.5.3)
abbrev pub loopback_range : Family → RangeParts
loopback_range V4 = record { base = v4_address (127 * 2 ^ 24); bits = 8 }
loopback_range V6 = record { base = v6_address 1; bits = 128 }

-- the node's own addresses: those of its interfaces that the configuration names, and loopback
abbrev pub is_local_address : List AddressParts → AddressParts → Bool
is_local_address node_addresses a =
    list_any (λ n. same_address n a) node_addresses || range_contains (loopback_range a.family) a
