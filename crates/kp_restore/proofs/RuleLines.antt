-- No line feed stands in the line of a canonical rule.
use Rattle.std.proofs.Common.{◌≡◌, ℕ, ◌^◌, ◌<◌, ◌==◌, Bool, true, false, not, nat_le, List, [], ◌∷◌, ◌++◌, map, codes, decimal, refl, ◌∙◌, arith}
use Rattle.std.specs.List.{list_all, flat_map}
use Rattle.std.proofs.lemmas.Bool.{and_parts, and_from}
use Rattle.std.proofs.lemmas.Bool.Decides.{nat_tests}
use Rattle.std.proofs.lemmas.List.Folds.{list_all-map}
use Rattle.kp_base.specs.Dotted.{is_digit}
use Rattle.kp_base.specs.Net.{RangeParts, width}
use Rattle.kp_base.specs.declared.address.Family.{Family}
use Rattle.kp_base.specs.declared.address.Family.TheVariants.{V4, V6}
use Rattle.kp_base.specs.declared.key.Endpoint.{Endpoint}
use Rattle.kp_base.specs.declared.port.Proto.{Proto}
use Rattle.kp_base.specs.declared.port.Proto.TheVariants.{Tcp}
use Rattle.kp_types.specs.Chains.{is_chain_byte, is_chain_name}
use Rattle.kp_types.specs.declared.rule.Match.{Match}
use Rattle.kp_types.specs.declared.rule.Match.TheVariants as match
use Rattle.kp_types.specs.declared.rule.Target.{Target}
use Rattle.kp_types.specs.declared.rule.Target.TheVariants as target
use Rattle.kp_types.specs.declared.rule.Rule.{Rule}
use Rattle.kp_choice_defs.specs.AddressText.{number_text, address_text, host_text, endpoint_text}
use Rattle.kp_choice_defs.specs.Draws.{digit_at, probability_text_of}
use Rattle.kp_restore_defs.specs.RuleText.{joined, range_text, proto_word, not_words, match_words, target_words, rule_line, is_canonical_range, is_port_number, is_canonical_endpoint, is_canonical_match, is_canonical_target, is_canonical_rule}
use Rattle.kp_rule_text.proofs.AddressWords.{is_host_byte, number_bytes}
use Rattle.kp_rule_text.proofs.Words.{number_digits, port_digits}
use Rattle.kp_restore_text.specs.Pieces.{no_line_feed}
use Rattle.kp_lemmas.proofs.ListFacts.{test_always, test_append, test_weaker}
use Rattle.kp_restore.proofs.Tests.{all_flat}
use Rattle.kp_lemmas.proofs.Numbers.{within_32_bits}
use Rattle.kp_types.proofs.ChainBytes.{name_bytes}

-- ---- Bytes

abbrev pub no_feed : ℕ → Bool
no_feed b = not (b == 10)

chain_byte : (b : ℕ) → is_chain_byte b ≡ true → no_feed b ≡ true
chain_byte b h = grind (arith, nat_tests)

digit_byte : (b : ℕ) → is_digit b ≡ true → no_feed b ≡ true
digit_byte b h = grind (arith, nat_tests)

pub name_plain : (name : List ℕ) → is_chain_name name ≡ true → no_line_feed name ≡ true
name_plain name h = test_weaker is_chain_byte no_feed chain_byte name (name_bytes name h)

number_plain : (most n : ℕ) → most < 2 ^ 64 → nat_le n most ≡ true → no_line_feed (decimal n) ≡ true
number_plain most n small h = test_weaker is_digit no_feed digit_byte (decimal n) (number_digits most small n h)

port_plain : (n : ℕ) → is_port_number n ≡ true → no_line_feed (decimal n) ≡ true
port_plain n h = test_weaker is_digit no_feed digit_byte (decimal n) (port_digits n h)

-- ---- Addresses

host_byte : (family : Family) (b : ℕ) → is_host_byte family b ≡ true → no_feed b ≡ true
host_byte V4 b h = grind (arith, nat_tests)
host_byte V6 b h = grind (arith, nat_tests)

pub address_plain : (family : Family) (n : ℕ) → no_line_feed (number_text family n) ≡ true
address_plain family n = test_weaker (is_host_byte family) no_feed (host_byte family) (number_text family n) (number_bytes family n)

width_low : (family : Family) → width family < 2 ^ 64
width_low family = elim family as (λ f. width f < 2 ^ 64) [ V4 ↦ omega arith | V6 ↦ omega arith ]

range_plain : (family : Family) (r : RangeParts) → is_canonical_range family r ≡ true → no_line_feed (range_text r) ≡ true
range_plain family r h =
    test_append no_feed (address_text r.base) (47 ∷ decimal r.bits) (address_plain r.base.family r.base.number)
    (number_plain (width family) r.bits (width_low family) (and_parts _ _ (and_parts _ _ h).1).0)

host_plain : (family : Family) (text : List ℕ) → no_line_feed text ≡ true → no_line_feed (host_text family text) ≡ true
host_plain V4 text h = h
host_plain V6 text h = test_append no_feed (codes "[" ++ text) (codes "]") h refl

endpoint_plain : (family : Family) (e : Endpoint) → is_canonical_endpoint family e ≡ true → no_line_feed (endpoint_text e) ≡ true
endpoint_plain family e h =
    test_append no_feed (host_text e.address.family (address_text e.address) ++ codes ":") (decimal e.port)
    (test_append no_feed (host_text e.address.family (address_text e.address)) (codes ":") (host_plain e.address.family (address_text e.address) (address_plain e.address.family e.address.number)) refl)
    (port_plain e.port (and_parts _ _ h).1)

-- ---- Words

-- a digit of a probability
digit_plain : (p place : ℕ) → no_feed (digit_at p place) ≡ true
digit_plain p place = grind (arith, nat_tests)

digits_plain : (p : ℕ) (places : List ℕ) → no_line_feed (map (digit_at p) places) ≡ true
digits_plain p places = list_all-map no_feed (digit_at p) places ∙ test_always (λ place. no_feed (digit_at p place)) (digit_plain p) places

probability_plain : (p : ℕ) → no_line_feed (probability_text_of p) ≡ true
probability_plain p = and_from _ _ (digit_plain p 10) (digits_plain p (9 ∷ 8 ∷ 7 ∷ 6 ∷ 5 ∷ 4 ∷ 3 ∷ 2 ∷ 1 ∷ 0 ∷ []))

abbrev words_plain : List (List ℕ) → Bool
words_plain words = list_all no_line_feed words

proto_plain : (proto : Proto) → no_line_feed (proto_word proto) ≡ true
proto_plain Tcp = refl
proto_plain proto = refl

not_plain : (negated : Bool) → words_plain (not_words negated) ≡ true
not_plain negated = elim negated as (λ n. words_plain (not_words n) ≡ true) [ true ↦ refl | false ↦ refl ]

match_plain : (family : Family) (m : Match) → is_canonical_match family m ≡ true → words_plain (match_words m) ≡ true
match_plain family (match.Src range negated) h = test_append no_line_feed (not_words negated) (codes "-s" ∷ range_text range ∷ []) (not_plain negated) (and_from _ _ (range_plain family range h) refl)
match_plain family (match.Dst range negated) h = test_append no_line_feed (not_words negated) (codes "-d" ∷ range_text range ∷ []) (not_plain negated) (and_from _ _ (range_plain family range h) refl)
match_plain family (match.Proto proto) h = and_from _ _ (proto_plain proto) refl
match_plain family (match.Port proto port) h = and_from _ _ (proto_plain proto) (and_from _ _ (proto_plain proto) (and_from _ _ (port_plain port h) refl))
match_plain family (match.Statistic p) h = and_from _ _ (probability_plain p) refl
match_plain family (match.Seen list seconds) h =
    let q = and_parts _ _ h in
    and_from _ _ (name_plain list q.0) (and_from _ _ (number_plain 4294967295 seconds (omega arith) (within_32_bits seconds q.1)) refl)
match_plain family (match.SetSeen list) h = and_from _ _ (name_plain list h) refl
match_plain family (match.Marked true) h = refl
match_plain family m h = refl

target_plain : (family : Family) (t : Target) → is_canonical_target family t ≡ true → words_plain (target_words t) ≡ true
target_plain family (target.Jump chain) h = and_from _ _ (name_plain chain h) refl
target_plain family (target.Dnat endpoint) h = and_from _ _ (endpoint_plain family endpoint h) refl
target_plain family t h = refl

matches_plain : (family : Family) (ms : List Match) → list_all (is_canonical_match family) ms ≡ true → words_plain (flat_map match_words ms) ≡ true
matches_plain family ms h = all_flat no_line_feed match_words ms ∙ test_weaker (is_canonical_match family) (λ m. words_plain (match_words m)) (match_plain family) ms h

-- ---- Lines

joined_plain : (words : List (List ℕ)) → words_plain words ≡ true → no_line_feed (joined words) ≡ true
joined_plain [] h = refl
joined_plain (w ∷ []) h = (and_parts _ _ h).0
joined_plain (w ∷ v ∷ ws) h = let q = and_parts _ _ h in test_append no_feed w (32 ∷ joined (v ∷ ws)) q.0 (joined_plain (v ∷ ws) q.1)

pub rule_plain : (family : Family) (chain : List ℕ) (rule : Rule) → is_chain_name chain ≡ true → is_canonical_rule family rule ≡ true → no_line_feed (rule_line chain rule) ≡ true
rule_plain family chain rule n h =
    let q = and_parts _ _ (and_parts _ _ h).1 in
    joined_plain (codes "-A" ∷ chain ∷ flat_map match_words rule.matches.items ++ target_words rule.target)
    (and_from _ _ (name_plain chain n) (test_append no_line_feed (flat_map match_words rule.matches.items) (target_words rule.target) (matches_plain family rule.matches.items q.0) (target_plain family rule.target q.1)))
