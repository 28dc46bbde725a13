-- The values at places of a JSON tree that Kubernetes objects are read from (Kubernetes API conventions,
-- "Optional vs. Required"): a null member counts as absent, and so does the empty text of a member.
use Rattle.std.specs.Prelude.{ℕ, Bool, false, List, [], ◌∷◌, map, cond, bytes_eq, codes, Option, Some, None, option_map, option_and_then, unwrap_or}
use Rattle.std.specs.List.{find}
use Rattle.std.specs.Map.{lookup}
use Rattle.serde_json.specs.Data.{null}
use Rattle.serde_json.specs.Find.{as_bool, as_str, as_number, as_u64}
use Rattle.kp_json.specs.Places.{Place, member_at, elements_of, members_of}
use Rattle.kp_base.specs.Net.{AddressParts, RangeParts, same_family}
use Rattle.kp_base.specs.Dotted.{split_once}
use Rattle.kp_base.specs.Six.{any_address_of, any_range_of}
use Rattle.kp_base.specs.declared.address.Family.{Family}
use Rattle.kp_base.specs.declared.key.ObjectKey.{ObjectKey}
use Rattle.kp_base.specs.declared.key.Pair.{Pair}
use Rattle.kp_base.specs.declared.port.Proto.{Proto}
use Rattle.kp_base.specs.declared.port.Proto.TheVariants.{Tcp, Udp, Sctp}

-- a place where nothing is
abbrev pub nowhere : Place
nowhere = record { value = null; path = [] }

-- the place of a member, or nowhere
abbrev pub inner : List ℕ → Place → Place
inner name p = unwrap_or (member_at p name) nowhere

-- a text unless it is empty
abbrev pub not_empty : List ℕ → Option (List ℕ)
not_empty [] = None
not_empty (b ∷ bs) = Some (b ∷ bs)

-- the text at a place
abbrev pub text_of : Place → Option (List ℕ)
text_of p = as_str p.value

-- the text of a member that isn't empty
abbrev pub text_in : List ℕ → Place → Option (List ℕ)
text_in name p = option_and_then not_empty (option_and_then text_of (member_at p name))

-- the truth value of a member
abbrev pub flag_in : List ℕ → Place → Option Bool
flag_in name p = option_and_then (λ q. as_bool q.value) (member_at p name)

-- the whole number at a place
abbrev pub whole_of : Place → Option ℕ
whole_of p = option_and_then as_u64 (as_number p.value)

-- the whole number of a member
abbrev pub whole_in : List ℕ → Place → Option ℕ
whole_in name p = option_and_then whole_of (member_at p name)

-- the elements of a member
abbrev pub items_in : List ℕ → Place → List Place
items_in name p = elements_of (inner name p)

-- a text is this one
abbrev pub is_text : List ℕ → Option (List ℕ) → Bool
is_text wanted None = false
is_text wanted (Some text) = bytes_eq text wanted

-- what a text stands for in a table of texts, and what stands where there is none
abbrev pub chosen : {A : Type 0} → List (List ℕ × A) → A → Option (List ℕ) → A
chosen table default None = default
chosen table default (Some text) = unwrap_or (lookup (bytes_eq text) table) default

-- the texts of a table
abbrev pub texts_of : {A : Type 0} → List (List ℕ × A) → List (List ℕ)
texts_of table = map (λ row. row.0) table

-- protocols
abbrev pub protocols : List (List ℕ × Proto)
protocols = (codes "TCP", Tcp) ∷ (codes "UDP", Udp) ∷ (codes "SCTP", Sctp) ∷ []

-- the protocol of a port, which is TCP where none is given
abbrev pub proto_in : Place → Proto
proto_in p = chosen protocols Tcp (text_in (codes "protocol") p)

-- the name of a port, which is empty where none is given
abbrev pub port_name_in : Place → List ℕ
port_name_in p = unwrap_or (text_in (codes "name") p) []

-- the address of either family at a place
abbrev pub address_at : Place → Option AddressParts
address_at p = option_and_then any_address_of (text_of p)

-- the address of either family of a member
abbrev pub address_in : List ℕ → Place → Option AddressParts
address_in name p = option_and_then any_address_of (text_in name p)

-- the range of either family at a place
abbrev pub range_at : Place → Option RangeParts
range_at p = option_and_then any_range_of (text_of p)

-- two ranges, where their families differ
abbrev pub of_both_families : RangeParts → RangeParts → Option (List RangeParts)
of_both_families a b = cond (same_family a.base.family b.base.family) None (Some (a ∷ b ∷ []))

-- the range of a text without a comma, or the two ranges of the parts of one with a comma
abbrev pub ranges_of_parts : List ℕ → Option (List ℕ × List ℕ) → Option (List RangeParts)
ranges_of_parts text None = option_map (λ r. r ∷ []) (any_range_of text)
ranges_of_parts text (Some (first, second)) =
    option_and_then (λ a. option_and_then (of_both_families a) (any_range_of second)) (any_range_of first)

-- the ranges that a text writes: one, or one of each family with a comma between them
abbrev pub ranges_of_text : List ℕ → Option (List RangeParts)
ranges_of_text text = ranges_of_parts text (split_once 44 text)

-- the ranges of a member
abbrev pub ranges_in : List ℕ → Place → List RangeParts
ranges_in name p = unwrap_or (option_and_then ranges_of_text (text_in name p)) []

-- the range of a family among ranges
abbrev pub range_in_family : Family → List RangeParts → Option RangeParts
range_in_family family ranges = find (λ r. same_family r.base.family family) ranges

-- a member of an object of texts
abbrev pub pair_of : List ℕ × Place → Pair
pair_of m = record { key = m.0; value = unwrap_or (text_of m.1) [] }

-- an object of texts, by bytes of the keys
abbrev pub pairs_in : List ℕ → Place → List Pair
pairs_in name p = map pair_of (members_of (inner name p))

-- the key that an object's metadata give; the namespace is `default` where none is given
abbrev pub key_from : Place → ObjectKey
key_from metadata = record {
  namespace = unwrap_or (text_in (codes "namespace") metadata) (codes "default");
  name = unwrap_or (text_in (codes "name") metadata) [];
}

-- the key of an object with a namespace
abbrev pub key_in : Place → ObjectKey
key_in p = key_from (inner (codes "metadata") p)
