-- Worked texts of IPv6 addresses and ranges (RFC 4291, 2.2 and 2.3; RFC 5952, 4).
use Rattle.std.specs.Prelude.{◌≡◌, ℕ, ◌+◌, ◌*◌, ◌^◌, true, List, [], ◌∷◌, map, codes, Option, Some, is_none, option_map}
use Rattle.std.specs.List.{list_all}
use Rattle.kp_base.specs.Net.{v4_address, v6_address}
use Rattle.kp_base.specs.Six.{any_address_of, any_range_of}
use Rattle.kp_choice_defs.specs.AddressText.{address_text}

-- how the address of a text is printed
abbrev pub printed : List ℕ → Option (List ℕ)
printed text = option_map address_text (any_address_of text)

-- texts of one address are printed alike: digits of either case, zeros before them, and runs of zeros
abbrev pub Printed : Type 0
Printed =
    map printed
    (codes "2001:DB8:0:0:1:0:0:1" ∷ codes "1:2:3:4:5:6:7::" ∷ codes "::" ∷ codes "0:0:0:0:0:0:0:1"
    ∷ codes "2001:DB8:0:0:8:800:200C:417A" ∷ codes "FF01:0:0:0:0:0:0:101"
    ∷ codes "2001:0db8:0000:0001:1:1:1:1" ∷ codes "fd00::" ∷ [])
    ≡ Some (codes "2001:db8::1:0:0:1") ∷ Some (codes "1:2:3:4:5:6:7:0") ∷ Some (codes "::")
    ∷ Some (codes "::1") ∷ Some (codes "2001:db8::8:800:200c:417a") ∷ Some (codes "ff01::101")
    ∷ Some (codes "2001:db8:0:1:1:1:1:1") ∷ Some (codes "fd00::") ∷ []

-- an IPv4 tail is read, and not printed; such an address isn't one of IPv4
abbrev pub Tails : Type 0
Tails =
    map printed (codes "::ffff:192.0.2.1" ∷ codes "0:0:0:0:0:0:13.1.68.3" ∷ [])
    ≡ Some (codes "::ffff:c000:201") ∷ Some (codes "::d01:4403") ∷ []

-- the numbers of some texts
abbrev pub Numbers : Type 0
Numbers =
    map any_address_of (codes "fd00:10:96::a" ∷ codes "ffff:ffff:ffff:ffff:ffff:ffff:ffff:ffff" ∷ codes "10.0.0.1" ∷ [])
    ≡ Some (v6_address (253 * 2 ^ 120 + 16 * 2 ^ 96 + 150 * 2 ^ 80 + 10))
    ∷ Some (v6_address 340282366920938463463374607431768211455) ∷ Some (v4_address 167772161) ∷ []

-- texts that are no address of either family
abbrev pub NoAddresses : Type 0
NoAddresses =
    list_all (λ text. is_none (any_address_of text))
    ([] ∷ codes "1::2::3" ∷ codes "fe80::1%eth0" ∷ codes "fe80::1%1" ∷ codes ":" ∷ codes ":::" ∷ codes ":1" ∷ codes "1:"
    ∷ codes "1:2:3:4:5:6:7" ∷ codes "1:2:3:4:5:6:7:" ∷ codes "1:2:3:4:5:6:7:8:9" ∷ codes "1:2:3:4::5:6:7:8"
    ∷ codes "12345::" ∷ codes "g::" ∷ codes "::1.2.3" ∷ codes "::1.2.3.256" ∷ codes "::01.2.3.4" ∷ codes "1.2.3.4::"
    ∷ codes "[::1]" ∷ codes " ::1" ∷ codes "::1 " ∷ codes "::1/128" ∷ codes "-1::" ∷ codes "+1::" ∷ codes "0x1::" ∷ [])
    ≡ true

-- ranges, whose bits past the length are cleared
abbrev pub Ranges : Type 0
Ranges =
    map any_range_of (codes "fd00:10:244::7/56" ∷ codes "::1/0" ∷ codes "::1/128" ∷ codes "10.0.0.1/8" ∷ [])
    ≡ Some (record { base = v6_address (253 * 2 ^ 120 + 16 * 2 ^ 96 + 580 * 2 ^ 80); bits = 56 })
    ∷ Some (record { base = v6_address 0; bits = 0 }) ∷ Some (record { base = v6_address 1; bits = 128 })
    ∷ Some (record { base = v4_address 167772160; bits = 8 }) ∷ []

-- texts that are no range
abbrev pub NoRanges : Type 0
NoRanges =
    list_all (λ text. is_none (any_range_of text))
    ([] ∷ codes "fd00::/129" ∷ codes "fd00::/08" ∷ codes "fd00::" ∷ codes "fd00::/" ∷ codes "/8" ∷ codes "fd00::/8/8"
    ∷ codes "fd00::/ 8" ∷ codes "fe80::1%1/64" ∷ codes "10.0.0.0/33" ∷ [])
    ≡ true
