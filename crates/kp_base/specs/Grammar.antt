-- The texts that name objects and ports and that stand in labels, by the bytes, lengths and ends that the
-- Kubernetes documents on object names and labels give them (RFC 1123 subdomains for names). Dots of a name
-- may stand beside each other, a label value may begin and end with any of its bytes, and a port name may
-- be empty: this project's choice.
use Rattle.std.specs.Prelude.{ℕ, ◌-◌, ◌==◌, ◌&&◌, ◌||◌, nat_le, Bool, List, length, option_map, unwrap_or, slice_get, false}
use Rattle.std.specs.List.{list_all}

-- an ASCII digit
abbrev pub is_digit : ℕ → Bool
is_digit byte = nat_le 48 byte && nat_le byte 57

-- a to z
abbrev pub is_lower : ℕ → Bool
is_lower byte = nat_le 97 byte && nat_le byte 122

-- A to Z
abbrev pub is_upper : ℕ → Bool
is_upper byte = nat_le 65 byte && nat_le byte 90

-- a lower-case letter or a digit
abbrev pub is_alphanumeric : ℕ → Bool
is_alphanumeric byte = is_lower byte || is_digit byte

-- a byte of a port name: a lower-case letter, a digit or a dash
abbrev pub is_dashed_byte : ℕ → Bool
is_dashed_byte byte = is_alphanumeric byte || (byte == 45)

-- a byte of a name: one of a port name, or a dot
abbrev pub is_name_byte : ℕ → Bool
is_name_byte byte = is_dashed_byte byte || (byte == 46)

-- a byte of a label value: a letter, a digit, a dash, a low line or a dot
abbrev pub is_label_byte : ℕ → Bool
is_label_byte byte = is_name_byte byte || (is_upper byte || (byte == 95))

-- the byte at a place is a lower-case letter or a digit
abbrev pub is_alphanumeric_at : List ℕ → ℕ → Bool
is_alphanumeric_at text i = unwrap_or (option_map is_alphanumeric (slice_get text i)) false

-- the first and the last byte are a lower-case letter or a digit
abbrev pub ends_well : List ℕ → Bool
ends_well text = is_alphanumeric_at text 0 && is_alphanumeric_at text (length text - 1)

-- 1 to 253 bytes of names, the first and the last a letter or a digit
abbrev pub is_name_text : List ℕ → Bool
is_name_text text =
    nat_le 1 (length text) && nat_le (length text) 253 && list_all is_name_byte text && ends_well text

-- at most 63 bytes of port names
abbrev pub is_port_name_text : List ℕ → Bool
is_port_name_text text = nat_le (length text) 63 && list_all is_dashed_byte text

-- 1 to 63 bytes of label values
abbrev pub is_label_text : List ℕ → Bool
is_label_text text = nat_le 1 (length text) && nat_le (length text) 63 && list_all is_label_byte text
