-- The texts of IPv4 addresses and ranges: four decimal numbers below 256 with no leading zeros and dots
-- between them (RFC 6943, 3.1.1, its strict form), and for a range a slash and a decimal length of at
-- most 32 (RFC 4632, 3.1). The bits of a range past its length are cleared.
use Rattle.std.specs.Prelude.{ℕ, ◌+◌, ◌-◌, ◌*◌, ◌%◌, ◌==◌, ◌&&◌, nat_lt, nat_le, not, Bool, List, [], ◌∷◌, length, map, fold, cond, take, drop, position, slice_index, Option, Some, None, option_map, option_and_then}
use Rattle.std.specs.List.{list_all, slice_split}
pub use Rattle.kp_base.specs.Grammar.{is_digit}
use Rattle.kp_base.specs.Net.{AddressParts, RangeParts, v4_address, range_size}

-- the number that digits write behind those of an earlier number, the first the highest
abbrev pub digits_number : ℕ → List ℕ → ℕ
digits_number before digits = fold (λ n d. n * 10 + (d - 48)) before digits

-- a zero with more bytes behind it
abbrev pub has_leading_zero : List ℕ → Bool
has_leading_zero text = nat_lt 1 (length text) && (slice_index text 0 == 48)

-- digits, at least one, and no leading zero
abbrev pub is_decimal : List ℕ → Bool
is_decimal text = nat_le 1 (length text) && list_all is_digit text && not (has_leading_zero text)

-- the number of a decimal text up to a greatest one
abbrev pub decimal_up_to : ℕ → List ℕ → Option ℕ
decimal_up_to most text =
    cond (is_decimal text && nat_le (digits_number 0 text) most) (Some (digits_number 0 text)) None

-- the address of four numbers
abbrev pub four_numbers : List (Option ℕ) → Option AddressParts
four_numbers (Some a ∷ Some b ∷ Some c ∷ Some d ∷ []) =
    Some (v4_address (((a * 256 + b) * 256 + c) * 256 + d))
four_numbers _ = None

-- the address that a text writes
abbrev pub address_of : List ℕ → Option AddressParts
address_of text = four_numbers (map (decimal_up_to 255) (slice_split (λ b. b == 46) text))

-- the range of a base and a length, with the bits past the length cleared
abbrev pub range_from : AddressParts → ℕ → RangeParts
range_from a bits = record {
  base = record { family = a.family; number = a.number - a.number % range_size a.family bits };
  bits = bits;
}

-- what stands before the first such byte and behind it, where there is one
abbrev pub split_once : ℕ → List ℕ → Option (List ℕ × List ℕ)
split_once byte text =
    option_map (λ i. (take i text, drop (i + 1) text)) (position (λ b. b == byte) text)

-- the number before the first dot, and what stands behind the dot
abbrev pub number_before_dot : List ℕ → Option (ℕ × List ℕ)
number_before_dot text =
    option_and_then (λ (number, rest). option_map (λ n. (n, rest)) (decimal_up_to 255 number)) (split_once 46 text)

-- the range of two texts, one on each side of a slash
abbrev pub range_of_parts : List ℕ → List ℕ → Option RangeParts
range_of_parts base length =
    option_and_then (λ a. option_map (range_from a) (decimal_up_to 32 length)) (address_of base)

-- the range that a text writes: an address, a slash and a length
abbrev pub range_of : List ℕ → Option RangeParts
range_of text = option_and_then (λ (base, length). range_of_parts base length) (split_once 47 text)
