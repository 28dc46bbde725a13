-- Worked examples of the texts of IPv6 addresses, from RFC 5952 and by its rules.
use Rattle.std.specs.Prelude.{◌≡◌, ℕ, ◌^◌, List, codes}
use Rattle.kp_base.specs.declared.address.Family.TheVariants.{V6}
use Rattle.kp_choice_defs.specs.AddressText.{number_text}

-- the IPv6 address of this number is written so
abbrev pub IsWrittenAs : ℕ → List ℕ → Type 0
IsWrittenAs n text = number_text V6 n ≡ text

-- zeros alone, and behind or before one group
abbrev pub Unspecified : Type 0
Unspecified = IsWrittenAs 0 (codes "::")

-- zeros before the last group
abbrev pub Loopback : Type 0
Loopback = IsWrittenAs 1 (codes "::1")

-- zeros behind the first group
abbrev pub FirstGroupAlone : Type 0
FirstGroupAlone = IsWrittenAs (2 ^ 112) (codes "1::")

-- an address that an IPv4 address is mapped to has hexadecimal groups too
abbrev pub Mapped : Type 0
Mapped = IsWrittenAs 0xffffc0000201 (codes "::ffff:c000:201")

-- 4.2.3: of two runs of zeros the longer one, and of two equal ones the first
abbrev pub LongerRun : Type 0
LongerRun = IsWrittenAs 0x20010000000000010000000000000001 (codes "2001:0:0:1::1")

-- of two equal runs the first
abbrev pub FirstOfEqualRuns : Type 0
FirstOfEqualRuns = IsWrittenAs 0x20010db8000000000001000000000001 (codes "2001:db8::1:0:0:1")

-- 4.2.2: one group of zeros is written as it is
abbrev pub OneZeroGroup : Type 0
OneZeroGroup = IsWrittenAs 0x20010db8000000010001000100010001 (codes "2001:db8:0:1:1:1:1:1")

-- 4.1 and 4.3: no leading zeros, and lower case
abbrev pub LowerCase : Type 0
LowerCase =
    IsWrittenAs 0x20010db8aaaabbbbccccddddeeee0001 (codes "2001:db8:aaaa:bbbb:cccc:dddd:eeee:1")
