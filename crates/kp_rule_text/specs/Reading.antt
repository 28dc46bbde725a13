-- The reading of a rule's line from the left: what stands at the front says what follows.
use Rattle.std.specs.Prelude.{ℕ, zero, suc, List, [], ◌∷◌, ◌++◌, cond, bytes_eq, codes, Bool, true, false, Option, Some, None, option_map, option_and_then}
use Rattle.kp_base.specs.Dotted.{split_once}
use Rattle.kp_base.specs.declared.address.Family.{Family}
use Rattle.kp_base.specs.declared.port.Proto.{Proto}
use Rattle.kp_base.specs.declared.port.Proto.TheVariants.{Tcp, Udp, Sctp}
use Rattle.kp_types.specs.Rules.{rule_of}
use Rattle.kp_types.specs.declared.rule.Match.{Match}
use Rattle.kp_types.specs.declared.rule.Match.TheVariants as match
use Rattle.kp_types.specs.declared.rule.Target.{Target}
use Rattle.kp_types.specs.declared.rule.Target.TheVariants as target
use Rattle.kp_types.specs.declared.rule.Rule.{Rule}
use Rattle.kp_restore_defs.specs.RuleText.{proto_word}
use Rattle.kp_rule_text.specs.WordReading.{strip, number_word, port_word, range_word, endpoint_word, probability_word, name_word}

-- what follows a text at the front, or what is read where it isn't there
abbrev pub follow : {A : Type 0} → (List ℕ → Option A) → Option A → Option (List ℕ) → Option A
follow next other (Some rest) = next rest
follow next other None = other

-- ---- Matches

-- a match, and what stands behind it
abbrev pub Found : Type 0
Found = Option (Match × List ℕ)

-- a word up to the next space, and the match that it makes
abbrev pub with_word : {V : Type 0} → (List ℕ → Option V) → (V → Match) → List ℕ → Found
with_word read make text =
    option_and_then (λ (word, rest). option_map (λ v. (make v, rest)) (read word)) (split_once 32 text)

-- a match with nothing more
abbrev pub plain : Match → List ℕ → Found
plain found rest = Some (found, rest)

-- a source or a destination, negated or not
abbrev pub address_match : Family → Bool → List ℕ → Found
address_match family negated text =
    follow (with_word (range_word family) (λ range. match.Src range negated))
    (option_and_then (with_word (range_word family) (λ range. match.Dst range negated)) (strip (codes "-d ") text))
    (strip (codes "-s ") text)

-- what stands between a protocol and its port
abbrev pub port_words : Proto → List ℕ
port_words proto = codes "-m " ++ proto_word proto ++ codes " --dport "

-- a protocol, with or without a port
abbrev pub port_match : Proto → List ℕ → Found
port_match proto text =
    follow (with_word port_word (match.Port proto)) (plain (match.Proto proto) text) (strip (port_words proto) text)

-- a protocol by its name
abbrev pub proto_match : List ℕ → Found
proto_match text =
    follow (port_match Tcp)
    (follow (port_match Udp) (option_and_then (port_match Sctp) (strip (codes "sctp ") text)) (strip (codes "udp ") text))
    (strip (codes "tcp ") text)

-- a recent list with a time
abbrev pub seen_match : List ℕ → List ℕ → List ℕ → Found
seen_match list word rest =
    option_and_then (λ seconds. option_and_then (plain (match.Seen list seconds)) (strip (codes "--reap ") rest)) (number_word 4294967295 word)

-- a recent list with a time, before what stands behind it
abbrev pub timed_match : List ℕ → List ℕ → Found
timed_match list text = option_and_then (λ (word, rest). seen_match list word rest) (split_once 32 text)

-- a recent list
abbrev pub list_match : List ℕ → List ℕ → Found
list_match list text =
    follow (plain (match.SetSeen list))
    (option_and_then (timed_match list) (strip (codes "--rcheck --seconds ") text))
    (strip (codes "--set ") text)

-- a recent list by its name
abbrev pub recent_match : List ℕ → Found
recent_match text =
    option_and_then (λ (word, rest). option_and_then (λ list. list_match list rest) (name_word word)) (split_once 32 text)

-- a local address
abbrev pub local_match : List ℕ → Found
local_match text =
    follow (plain match.SrcLocal)
    (option_and_then (plain match.DstLocal) (strip (codes "--dst-type LOCAL ") text))
    (strip (codes "--src-type LOCAL ") text)

-- the mark
abbrev pub mark_match : List ℕ → Found
mark_match text =
    follow (plain (match.Marked false))
    (option_and_then (plain (match.Marked true)) (strip (codes "! --mark 0x4000/0x4000 ") text))
    (strip (codes "--mark 0x4000/0x4000 ") text)

-- a match of a module
abbrev pub module_match : List ℕ → Found
module_match text =
    follow local_match
    (follow mark_match
    (follow recent_match
    (option_and_then (with_word probability_word match.Statistic) (strip (codes "statistic --mode random --probability ") text))
    (strip (codes "recent --name ") text))
    (strip (codes "mark ") text))
    (strip (codes "addrtype ") text)

-- a match
abbrev pub match_of : Family → List ℕ → Found
match_of family text =
    follow module_match
    (follow proto_match
    (follow (address_match family true) (address_match family false text) (strip (codes "! ") text))
    (strip (codes "-p ") text))
    (strip (codes "-m ") text)

-- a match before what is read of the rest
abbrev pub before_rest : (List ℕ → List Match × List ℕ) → List ℕ → Found → List Match × List ℕ
before_rest next text None = ([], text)
before_rest next text (Some (found, rest)) = (found ∷ (next rest).0, (next rest).1)

-- as many matches as stand at the front, up to a number of them, and what stands behind them
abbrev pub matches_of : Family → ℕ → List ℕ → List Match × List ℕ
matches_of family zero text = ([], text)
matches_of family (suc n) text = before_rest (λ rest. matches_of family n rest) text (match_of family text)

-- ---- Targets

-- what a chain's name or a longer target says
abbrev pub other_target : Family → List ℕ → Option Target
other_target family text =
    follow (λ word. option_map target.Dnat (endpoint_word family word)) (option_map target.Jump (name_word text)) (strip (codes "DNAT --to-destination ") text)

-- a target with nothing more
abbrev pub plain_target : List ℕ → Option Target
plain_target text =
    cond (bytes_eq text (codes "RETURN")) (Some target.Return)
    (cond (bytes_eq text (codes "ACCEPT")) (Some target.Accept)
    (cond (bytes_eq text (codes "DROP")) (Some target.Drop)
    (cond (bytes_eq text (codes "REJECT")) (Some target.Reject)
    (cond (bytes_eq text (codes "MASQUERADE")) (Some target.Masquerade)
    (cond (bytes_eq text (codes "MARK --or-mark 0x4000")) (Some target.SetMark)
    (cond (bytes_eq text (codes "MARK --xor-mark 0x4000")) (Some target.FlipMark) None))))))

-- the first of two
abbrev pub either : {A : Type 0} → Option A → Option A → Option A
either (Some a) other = Some a
either None other = other

-- the target of a rule
abbrev pub target_of : Family → List ℕ → Option Target
target_of family text = option_and_then (λ rest. either (plain_target rest) (other_target family rest)) (strip (codes "-j ") text)

-- ---- Lines

-- a rule behind its chain's name
abbrev pub behind_name : Family → List ℕ → List Match × List ℕ → Option (List ℕ × Rule)
behind_name family chain (matches, rest) = option_map (λ t. (chain, rule_of matches t)) (target_of family rest)

-- a rule's chain and the rule, behind the command
abbrev pub behind_append : Family → List ℕ → Option (List ℕ × Rule)
behind_append family text =
    option_and_then (λ (word, rest). option_and_then (λ chain. behind_name family chain (matches_of family 4 rest)) (name_word word))
    (split_once 32 text)

-- the chain and the rule of a line
abbrev pub rule_of_line : Family → List ℕ → Option (List ℕ × Rule)
rule_of_line family line = option_and_then (behind_append family) (strip (codes "-A ") line)
