-- The words that stand for values. A word names a value only where it is that value's text, so the readers of
-- numbers may take more than one word for a value, as one with zeros before it.
use Rattle.std.specs.Prelude.{ℕ, ◌+◌, ◌*◌, ◌^◌, ◌==◌, ◌&&◌, nat_le, List, [], ◌∷◌, cond, bytes_eq, codes, decimal, Option, Some, None, option_map, option_and_then}
use Rattle.std.specs.List.{list_all}
use Rattle.kp_base.specs.Net.{AddressParts, RangeParts, same_family}
use Rattle.kp_base.specs.Six.{any_address_of, any_range_of}
use Rattle.kp_base.specs.Dotted.{is_digit, digits_number, split_once}
use Rattle.kp_base.specs.declared.address.Family.{Family}
use Rattle.kp_base.specs.declared.address.Family.TheVariants.{V4, V6}
use Rattle.kp_base.specs.declared.key.Endpoint.{Endpoint}
use Rattle.kp_types.specs.Chains.{is_chain_name}
use Rattle.kp_choice_defs.specs.AddressText.{address_text}
use Rattle.kp_choice_defs.specs.Draws.{probability_text_of}
use Rattle.kp_restore_defs.specs.RuleText.{range_text}

-- the value that is read, if its text is the word
abbrev pub exact : {V : Type 0} → (V → List ℕ) → (List ℕ → Option V) → List ℕ → Option V
exact text_of read word = option_and_then (λ v. cond (bytes_eq (text_of v) word) (Some v) None) (read word)

-- the number of digits, up to a greatest one
abbrev pub digits_up_to : ℕ → List ℕ → Option ℕ
digits_up_to most text =
    cond (list_all is_digit text && nat_le (digits_number 0 text) most) (Some (digits_number 0 text)) None

-- a number up to a greatest one
abbrev pub number_word : ℕ → List ℕ → Option ℕ
number_word most = exact decimal (digits_up_to most)

-- a port's number
abbrev pub port_word : List ℕ → Option ℕ
port_word word = option_and_then (λ n. cond (nat_le 1 n) (Some n) None) (number_word 65535 word)

-- what stands behind a text at the front
abbrev pub strip : List ℕ → List ℕ → Option (List ℕ)
strip [] text = Some text
strip (p ∷ ps) [] = None
strip (p ∷ ps) (b ∷ bs) = cond (b == p) (strip ps bs) None

-- an address of the family, in any of its texts
abbrev pub address_read : Family → List ℕ → Option AddressParts
address_read family text =
    option_and_then (λ a. cond (same_family a.family family) (Some a) None) (any_address_of text)

-- an address, as it is printed
abbrev pub address_word : Family → List ℕ → Option AddressParts
address_word family = exact address_text (address_read family)

-- a range of the family, in any of its texts
abbrev pub range_read : Family → List ℕ → Option RangeParts
range_read family text =
    option_and_then (λ r. cond (same_family r.base.family family) (Some r) None) (any_range_of text)

-- a range, as it is printed
abbrev pub range_word : Family → List ℕ → Option RangeParts
range_word family = exact range_text (range_read family)

-- the two sides of a closing bracket and a colon
abbrev pub bracketed : List ℕ → Option (List ℕ × List ℕ)
bracketed text =
    option_and_then (λ (host, rest). option_map (λ port. (host, port)) (strip (codes ":") rest)) (split_once 93 text)

-- the address and the port of an endpoint's text; one of IPv6 has its address in brackets (RFC 5952, 6)
abbrev pub host_and_port : Family → List ℕ → Option (List ℕ × List ℕ)
host_and_port V4 word = split_once 58 word
host_and_port V6 word = option_and_then bracketed (strip (codes "[") word)

-- an endpoint of an address and a port
abbrev pub endpoint_of : Family → List ℕ → List ℕ → Option Endpoint
endpoint_of family host port =
    option_and_then (λ a. option_map (λ n. record { address = a; port = n }) (port_word port)) (address_word family host)

-- an address and a port
abbrev pub endpoint_word : Family → List ℕ → Option Endpoint
endpoint_word family word = option_and_then (λ (host, port). endpoint_of family host port) (host_and_port family word)

-- a probability of a whole part and decimals, if it is at most 1
abbrev pub probability_of_parts : List ℕ → List ℕ → Option ℕ
probability_of_parts whole decimals =
    option_and_then
    (λ w. option_and_then (λ d. cond (nat_le (w * 10 ^ 10 + d) (10 ^ 10)) (Some (w * 10 ^ 10 + d)) None) (digits_up_to 9999999999 decimals))
    (digits_up_to 1 whole)

-- a probability, with any number of decimals
abbrev pub probability_read : List ℕ → Option ℕ
probability_read word = option_and_then (λ (whole, decimals). probability_of_parts whole decimals) (split_once 46 word)

-- a probability, with ten decimals
abbrev pub probability_word : List ℕ → Option ℕ
probability_word = exact probability_text_of probability_read

-- a name of a chain or of a list
abbrev pub name_word : List ℕ → Option (List ℕ)
name_word word = cond (is_chain_name word) (Some word) None
