-- Addresses and endpoints as they are printed: IPv4 as four decimal numbers with dots between them
-- (RFC 6943, 3.1.1), IPv6 always in groups of hexadecimal digits (RFC 5952, 4), never with an IPv4
-- tail, and in brackets before a port (RFC 5952, 6).
use Rattle.std.specs.Prelude.{ℕ, ◌*◌, ◌/◌, ◌%◌, ◌^◌, List, ◌++◌, codes, decimal}
use Rattle.std.specs.Net.Text.{dotted_text, hex_groups_text}
use Rattle.kp_base.specs.declared.address.Family.{Family}
use Rattle.kp_base.specs.declared.address.Family.TheVariants.{V4, V6}
use Rattle.kp_base.specs.declared.key.Endpoint.{Endpoint}
use Rattle.kp_base.specs.Net.{AddressParts}
use Rattle.kp_base.specs.Six.{groups_of}

-- the byte of a number at this place from its lowest
abbrev pub octet_at : ℕ → ℕ → ℕ
octet_at n place = n / 2 ^ (8 * place) % 2 ^ 8

-- the text of an address of this family and number; in one of IPv6 the first of the longest runs of
-- two or more groups of zeros is `::`
abbrev pub number_text : Family → ℕ → List ℕ
number_text V4 n = dotted_text (octet_at n 3) (octet_at n 2) (octet_at n 1) (octet_at n 0)
number_text V6 n = hex_groups_text (groups_of n)

-- the text of an address
abbrev pub address_text : AddressParts → List ℕ
address_text a = number_text a.family a.number

-- the text of an address before a colon and a port
abbrev pub host_text : Family → List ℕ → List ℕ
host_text V4 text = text
host_text V6 text = codes "[" ++ text ++ codes "]"

-- the text of an endpoint
abbrev pub endpoint_text : Endpoint → List ℕ
endpoint_text e =
    host_text e.address.family (address_text e.address) ++ codes ":" ++ decimal e.port
