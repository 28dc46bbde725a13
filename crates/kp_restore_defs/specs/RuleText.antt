-- Rules as iptables-restore takes them (iptables(8), iptables-extensions(8)): words with one space between them.
-- Addresses always have their prefix length, and numbers no leading zeros, so that each rule has one text.
use Rattle.std.specs.Prelude.{ℕ, ◌%◌, ◌^◌, ◌==◌, ◌&&◌, nat_le, nat_lt, Bool, true, false, List, [], ◌∷◌, ◌++◌, length, codes, decimal}
use Rattle.std.specs.List.{list_all, flat_map}
use Rattle.kp_base.specs.Net.{AddressParts, RangeParts, same_family, width, range_size}
use Rattle.kp_base.specs.declared.address.Family.{Family}
use Rattle.kp_base.specs.declared.port.Proto.{Proto}
use Rattle.kp_base.specs.declared.port.Proto.TheVariants.{Tcp, Udp, Sctp}
use Rattle.kp_base.specs.declared.key.Endpoint.{Endpoint}
use Rattle.kp_types.specs.Chains.{is_chain_name}
use Rattle.kp_types.specs.declared.rule.Match.{Match}
use Rattle.kp_types.specs.declared.rule.Match.TheVariants as match
use Rattle.kp_types.specs.declared.rule.Target.{Target}
use Rattle.kp_types.specs.declared.rule.Target.TheVariants as target
use Rattle.kp_types.specs.declared.rule.Rule.{Rule}
use Rattle.kp_choice_defs.specs.AddressText.{address_text, endpoint_text}
use Rattle.kp_choice_defs.specs.Draws.{probability_text_of}

-- ---- Words

-- words with one space between them
abbrev pub joined : List (List ℕ) → List ℕ
joined [] = []
joined (w ∷ []) = w
joined (w ∷ v ∷ ws) = w ++ 32 ∷ joined (v ∷ ws)

-- a range: an address, a slash and the prefix length
abbrev pub range_text : RangeParts → List ℕ
range_text r = address_text r.base ++ 47 ∷ decimal r.bits

-- a protocol
abbrev pub proto_word : Proto → List ℕ
proto_word Tcp = codes "tcp"
proto_word Udp = codes "udp"
proto_word Sctp = codes "sctp"

-- the word before a match that is negated
abbrev pub not_words : Bool → List (List ℕ)
not_words true = codes "!" ∷ []
not_words false = []

-- the bit of the mark for masquerading, and the same bit as mask
abbrev pub mark_word : List ℕ
mark_word = codes "0x4000/0x4000"

-- a match
abbrev pub match_words : Match → List (List ℕ)
match_words (match.Src range negated) = not_words negated ++ codes "-s" ∷ range_text range ∷ []
match_words (match.Dst range negated) = not_words negated ++ codes "-d" ∷ range_text range ∷ []
match_words (match.Proto proto) = codes "-p" ∷ proto_word proto ∷ []
match_words (match.Port proto port) =
    codes "-p" ∷ proto_word proto ∷ codes "-m" ∷ proto_word proto ∷ codes "--dport" ∷ decimal port ∷ []
match_words match.SrcLocal = codes "-m" ∷ codes "addrtype" ∷ codes "--src-type" ∷ codes "LOCAL" ∷ []
match_words match.DstLocal = codes "-m" ∷ codes "addrtype" ∷ codes "--dst-type" ∷ codes "LOCAL" ∷ []
match_words (match.Marked negated) =
    codes "-m" ∷ codes "mark" ∷ not_words negated ++ codes "--mark" ∷ mark_word ∷ []
match_words (match.Statistic p) =
    codes "-m" ∷ codes "statistic" ∷ codes "--mode" ∷ codes "random" ∷ codes "--probability" ∷ probability_text_of p ∷ []
match_words (match.Seen list seconds) =
    codes "-m" ∷ codes "recent" ∷ codes "--name" ∷ list ∷ codes "--rcheck" ∷ codes "--seconds" ∷ decimal seconds
    ∷ codes "--reap" ∷ []
match_words (match.SetSeen list) = codes "-m" ∷ codes "recent" ∷ codes "--name" ∷ list ∷ codes "--set" ∷ []

-- what a rule does
abbrev pub target_words : Target → List (List ℕ)
target_words (target.Jump chain) = codes "-j" ∷ chain ∷ []
target_words target.Return = codes "-j" ∷ codes "RETURN" ∷ []
target_words target.Accept = codes "-j" ∷ codes "ACCEPT" ∷ []
target_words target.Drop = codes "-j" ∷ codes "DROP" ∷ []
target_words target.Reject = codes "-j" ∷ codes "REJECT" ∷ []
target_words target.SetMark = codes "-j" ∷ codes "MARK" ∷ codes "--or-mark" ∷ codes "0x4000" ∷ []
target_words target.FlipMark = codes "-j" ∷ codes "MARK" ∷ codes "--xor-mark" ∷ codes "0x4000" ∷ []
target_words (target.Dnat endpoint) = codes "-j" ∷ codes "DNAT" ∷ codes "--to-destination" ∷ endpoint_text endpoint ∷ []
target_words target.Masquerade = codes "-j" ∷ codes "MASQUERADE" ∷ []

-- a rule of a chain
abbrev pub rule_words : List ℕ → Rule → List (List ℕ)
rule_words chain rule =
    codes "-A" ∷ chain ∷ flat_map match_words rule.matches.items ++ target_words rule.target

-- the line of a rule of a chain, without its end
abbrev pub rule_line : List ℕ → Rule → List ℕ
rule_line chain rule = joined (rule_words chain rule)

-- ---- Rules that have a text of their own

-- an address of the family
abbrev pub is_canonical_address : Family → AddressParts → Bool
is_canonical_address family a = same_family a.family family && nat_lt a.number (2 ^ width family)

-- a range of the family, with no bit past its length
abbrev pub is_canonical_range : Family → RangeParts → Bool
is_canonical_range family r =
    is_canonical_address family r.base
    && (nat_le r.bits (width family) && (r.base.number % range_size family r.bits == 0))

-- a port's number
abbrev pub is_port_number : ℕ → Bool
is_port_number n = nat_le 1 n && nat_lt n (2 ^ 16)

-- an endpoint of the family
abbrev pub is_canonical_endpoint : Family → Endpoint → Bool
is_canonical_endpoint family e = is_canonical_address family e.address && is_port_number e.port

-- a match whose numbers and names are within their bounds
abbrev pub is_canonical_match : Family → Match → Bool
is_canonical_match family (match.Src range negated) = is_canonical_range family range
is_canonical_match family (match.Dst range negated) = is_canonical_range family range
is_canonical_match family (match.Proto proto) = true
is_canonical_match family (match.Port proto port) = is_port_number port
is_canonical_match family match.SrcLocal = true
is_canonical_match family match.DstLocal = true
is_canonical_match family (match.Marked negated) = true
is_canonical_match family (match.Statistic p) = nat_le p (10 ^ 10)
is_canonical_match family (match.Seen list seconds) = is_chain_name list && nat_lt seconds (2 ^ 32)
is_canonical_match family (match.SetSeen list) = is_chain_name list

-- a target whose numbers and names are
abbrev pub is_canonical_target : Family → Target → Bool
is_canonical_target family (target.Jump chain) = is_chain_name chain
is_canonical_target family target.Return = true
is_canonical_target family target.Accept = true
is_canonical_target family target.Drop = true
is_canonical_target family target.Reject = true
is_canonical_target family target.SetMark = true
is_canonical_target family target.FlipMark = true
is_canonical_target family (target.Dnat endpoint) = is_canonical_endpoint family endpoint
is_canonical_target family target.Masquerade = true

-- a rule of at most four such matches and such a target
abbrev pub is_canonical_rule : Family → Rule → Bool
is_canonical_rule family rule =
    nat_le (length rule.matches.items) 4
    && (list_all (is_canonical_match family) rule.matches.items && is_canonical_target family rule.target)
