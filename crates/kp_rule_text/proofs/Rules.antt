-- Lines of rules: what is read has that line, and the line of a rule is read.
use Rattle.std.proofs.Common.{◌≡◌, ℕ, zero, suc, ◌+◌, ◌≤◌, List, [], ◌∷◌, ◌++◌, codes, true, false, ◌&&◌, nat_le, length, Option, Some, None, option_map, option_and_then, IfSome, refl, sym, ap, subst, ◌∙◌, arith, append_assoc}
use Rattle.std.specs.List.{list_all, flat_map}
use Rattle.std.proofs.lemmas.Bool.{and_parts, and_from}
use Rattle.std.proofs.lemmas.Bool.Decides.{nat_tests}
use Rattle.std.proofs.lemmas.List.{append-nil}
use Rattle.std.proofs.lemmas.Option.{same_Some}
use Rattle.kp_base.specs.Dotted.{split_once}
use Rattle.kp_base.specs.declared.address.Family.{Family}
use Rattle.kp_base.specs.declared.port.Proto.TheVariants.{Tcp, Udp, Sctp}
use Rattle.kp_types.specs.Chains.{is_chain_name}
use Rattle.kp_types.specs.Rules.{rule_of}
use Rattle.kp_types.specs.declared.rule.Match.{Match}
use Rattle.kp_types.specs.declared.rule.Match.TheVariants as match
use Rattle.kp_types.specs.declared.rule.Target.{Target}
use Rattle.kp_types.specs.declared.rule.Target.TheVariants as target
use Rattle.kp_types.specs.declared.rule.Rule.{Rule}
use Rattle.kp_restore_defs.specs.RuleText.{rule_line, is_canonical_match, is_canonical_target, is_canonical_rule}
use Rattle.kp_rule_text.specs.Lines.{match_text, target_text, RuleLinesDiffer}
use Rattle.kp_rule_text.specs.WordReading.{strip, name_word}
use Rattle.kp_rule_text.specs.Reading.{port_words, Found, match_of, before_rest, matches_of, target_of, behind_name, behind_append, rule_of_line}
use Rattle.kp_rule_text.proofs.Cuts.{strip_is, cut_is, cut_front}
use Rattle.kp_rule_text.proofs.Joined.{line_is}
use Rattle.kp_rule_text.proofs.Words.{if_then, if_map, of_some, is_word_byte, names}
use Rattle.kp_rule_text.proofs.MatchWords.{IsFound, match_found, HasNoPort, match_read}
use Rattle.kp_rule_text.proofs.Targets.{target_found, target_read}

-- ---- matches that are read

-- matches before what is read of the rest
abbrev pub after : List Match → List Match × List ℕ → List Match × List ℕ
after ms p = (ms ++ p.0, p.1)

module _ (family : Family) where
  -- the matches are canonical, at most as many, and their texts stand at the front
  record AreFound (n : ℕ) (text : List ℕ) (p : List Match × List ℕ) : Type 0 where
    valid : list_all (is_canonical_match family) p.0 ≡ true
    few : length p.0 ≤ n
    front : text ≡ flat_map match_text p.0 ++ p.1

  found_before : (n : ℕ) (text : List ℕ) (o : Found) → IfSome o (IsFound family [] text) → ((rest : List ℕ) → AreFound n rest (matches_of family n rest)) → AreFound (suc n) text (before_rest (λ rest. matches_of family n rest) text o)
  found_before n text None h more = record { valid = refl; few = omega arith; front = refl }
  found_before n text (Some p) h more =
      let rest = more p.1 in
      let few : length (matches_of family n p.1).0 ≤ n = rest.few in
      record {
        valid = and_from _ _ h.0 rest.valid;
        few = omega (arith, few);
        front = h.1 ∙ ap (λ l. match_text p.0 ++ l) rest.front ∙ sym (append_assoc (match_text p.0) (flat_map match_text (matches_of family n p.1).0) (matches_of family n p.1).1);
      }

  matches_found : (n : ℕ) (text : List ℕ) → AreFound n text (matches_of family n text)
  matches_found zero text = record { valid = refl; few = omega arith; front = refl }
  matches_found (suc n) text = found_before n text (match_of family text) (match_found family text) (matches_found n)

  pub none_left : (n : ℕ) (ms : List Match) (text : List ℕ) → None ≡ match_of family text → after ms (matches_of family n text) ≡ (ms, text)
  none_left zero ms text e = ap (λ l. (l, text)) (append-nil ms)
  none_left (suc n) ms text e = ap (λ o. after ms (before_rest (λ rest. matches_of family n rest) text o)) (sym e) ∙ ap (λ l. (l, text)) (append-nil ms)

  pub all_read : (n : ℕ) (ms : List Match) (text : List ℕ) → n ≡ 0 → after ms (matches_of family n text) ≡ (ms, text)
  all_read zero ms text e = ap (λ l. (l, text)) (append-nil ms)
  all_read (suc n) ms text e = absurd (cc)

  pub one_more : (n k : ℕ) (ms : List Match) (m : Match) (text rest : List ℕ) → n ≡ k + 1 → Some (m, rest) ≡ match_of family text → after ms (matches_of family n text) ≡ after (ms ++ m ∷ []) (matches_of family k rest)
  one_more n k ms m text rest e h =
      let next : n ≡ suc k = omega (arith, e) in
      ap (λ n. after ms (matches_of family n text)) next
      ∙ ap (λ o. after ms (before_rest (λ rest. matches_of family k rest) text o)) (sym h)
      ∙ ap (λ l. (l, (matches_of family k rest).1)) (sym (append_assoc ms (m ∷ []) (matches_of family k rest).0))

-- ---- matches that are printed

abbrev rest_text : List Match → Target → List ℕ
rest_text ms t = flat_map match_text ms ++ target_text t

-- a target is no match
no_match : (family : Family) (t : Target) → match_of family (target_text t) ≡ None
no_match family (target.Jump chain) = refl
no_match family target.Return = refl
no_match family target.Accept = refl
no_match family target.Drop = refl
no_match family target.Reject = refl
no_match family target.SetMark = refl
no_match family target.FlipMark = refl
no_match family (target.Dnat e) = refl
no_match family target.Masquerade = refl

-- no match and no target begins as a port does
target_no_port : (t : Target) → HasNoPort (target_text t)
target_no_port (target.Jump chain) proto = refl
target_no_port target.Return proto = refl
target_no_port target.Accept proto = refl
target_no_port target.Drop proto = refl
target_no_port target.Reject proto = refl
target_no_port target.SetMark proto = refl
target_no_port target.FlipMark proto = refl
target_no_port (target.Dnat e) proto = refl
target_no_port target.Masquerade proto = refl

local_no_port : (rest : List ℕ) → HasNoPort (codes "-m addrtype " ++ rest)
local_no_port rest Tcp = refl
local_no_port rest Udp = refl
local_no_port rest Sctp = refl

mark_no_port : (rest : List ℕ) → HasNoPort (codes "-m mark " ++ rest)
mark_no_port rest Tcp = refl
mark_no_port rest Udp = refl
mark_no_port rest Sctp = refl

statistic_no_port : (rest : List ℕ) → HasNoPort (codes "-m statistic " ++ rest)
statistic_no_port rest Tcp = refl
statistic_no_port rest Udp = refl
statistic_no_port rest Sctp = refl

recent_no_port : (rest : List ℕ) → HasNoPort (codes "-m recent " ++ rest)
recent_no_port rest Tcp = refl
recent_no_port rest Udp = refl
recent_no_port rest Sctp = refl

match_no_port : (m : Match) (rest : List ℕ) → HasNoPort (match_text m ++ rest)
match_no_port (match.Src range true) rest proto = refl
match_no_port (match.Src range false) rest proto = refl
match_no_port (match.Dst range true) rest proto = refl
match_no_port (match.Dst range false) rest proto = refl
match_no_port (match.Proto p) rest proto = refl
match_no_port (match.Port p port) rest proto = refl
match_no_port match.SrcLocal rest proto = local_no_port _ proto
match_no_port match.DstLocal rest proto = local_no_port _ proto
match_no_port (match.Marked true) rest proto = mark_no_port _ proto
match_no_port (match.Marked false) rest proto = mark_no_port _ proto
match_no_port (match.Statistic p) rest proto = statistic_no_port _ proto
match_no_port (match.Seen list seconds) rest proto = recent_no_port _ proto
match_no_port (match.SetSeen list) rest proto = recent_no_port _ proto

rest_no_port : (ms : List Match) (t : Target) → HasNoPort (rest_text ms t)
rest_no_port [] t = target_no_port t
rest_no_port (m ∷ ms) t = λ proto. ap (strip (port_words proto)) (append_assoc (match_text m) (flat_map match_text ms) (target_text t)) ∙ match_no_port m (rest_text ms t) proto

matches_read : (family : Family) (n : ℕ) (ms : List Match) (t : Target) → length ms ≤ n → list_all (is_canonical_match family) ms ≡ true → matches_of family n (rest_text ms t) ≡ (ms, target_text t)
matches_read family zero [] t few valid = refl
matches_read family zero (m ∷ ms) t few valid = absurd (omega (arith, few))
matches_read family (suc n) [] t few valid = ap (before_rest (λ rest. matches_of family n rest) (target_text t)) (no_match family t)
matches_read family (suc n) (m ∷ ms) t few valid =
    let both = and_parts (is_canonical_match family m) (list_all (is_canonical_match family) ms) valid in
    let rest = rest_text ms t in
    let fewer : length ms ≤ n = omega (arith, few) in
    ap (matches_of family (suc n)) (append_assoc (match_text m) (flat_map match_text ms) (target_text t))
    ∙ ap (before_rest (λ rest. matches_of family n rest) (match_text m ++ rest)) (match_read family m rest both.0 (rest_no_port ms t))
    ∙ ap (λ p. (m ∷ p.0, p.1)) (matches_read family n ms t fewer both.1)

-- ---- lines

module _ (family : Family) where
  -- a canonical rule of a chain with this line
  abbrev pub IsRead : List ℕ → List ℕ × Rule → Type 0
  IsRead line p = (is_chain_name p.0 ≡ true) × (is_canonical_rule family p.1 ≡ true) × (rule_line p.0 p.1 ≡ line)

  rule_valid : (ms : List Match) (t : Target) → length ms ≤ 4 → list_all (is_canonical_match family) ms ≡ true → is_canonical_target family t ≡ true → is_canonical_rule family (rule_of ms t) ≡ true
  rule_valid ms t few valid ends =
      let low : nat_le (length ms) 4 ≡ true = grind (arith, nat_tests, few) in
      and_from _ _ low (and_from _ _ valid ends)

  line_found : (line : List ℕ) → IfSome (rule_of_line family line) (IsRead line)
  line_found line =
      if_then (IsRead line) (behind_append family) (strip (codes "-A ") line)
      (λ text e. if_then (IsRead line) (λ (word, rest). option_and_then (λ chain. behind_name family chain (matches_of family 4 rest)) (name_word word)) (split_once 32 text)
      (λ p f. if_then (IsRead line) (λ chain. behind_name family chain (matches_of family 4 p.1)) (name_word p.0)
      (λ chain g. if_map (IsRead line) (λ t. (chain, rule_of (matches_of family 4 p.1).0 t)) (target_of family (matches_of family 4 p.1).1)
      (λ t h.
      let append = of_some (λ text. line ≡ codes "-A " ++ text) (strip (codes "-A ") line) text (strip_is (codes "-A ") line) e in
      let cut = of_some (λ p. text ≡ p.0 ++ 32 ∷ p.1) (split_once 32 text) p (cut_is 32 text) f in
      let name = of_some (λ n. (is_chain_name n ≡ true) × (n ≡ p.0)) (name_word p.0) chain (names.sound p.0) g in
      let some = matches_found family 4 p.1 in
      let ends = of_some (λ t. (is_canonical_target family t ≡ true) × (target_text t ≡ (matches_of family 4 p.1).1)) (target_of family (matches_of family 4 p.1).1) t (target_found family (matches_of family 4 p.1).1) h in
      let few : length (matches_of family 4 p.1).0 ≤ 4 = some.few in (
        name.0,
        rule_valid (matches_of family 4 p.1).0 t few some.valid ends.0,
        line_is chain (rule_of (matches_of family 4 p.1).0 t)
            ∙ ap (λ l. codes "-A " ++ (chain ++ 32 ∷ (flat_map match_text (matches_of family 4 p.1).0 ++ l))) ends.1
            ∙ ap (λ l. codes "-A " ++ (chain ++ 32 ∷ l)) (sym some.front)
            ∙ ap (λ n. codes "-A " ++ (n ++ 32 ∷ p.1)) name.1
            ∙ ap (λ l. codes "-A " ++ l) (sym cut) ∙ sym append,
      )))))

  -- what a reader gives, whose answer is that of the line
  pub same_line : (line : List ℕ) (o : Option (List ℕ × Rule)) → o ≡ rule_of_line family line → IfSome o (IsRead line)
  same_line line o e = subst (λ o. IfSome o (IsRead line)) (sym e) (line_found line)

pub line_read : (family : Family) (chain : List ℕ) (rule : Rule) → is_chain_name chain ≡ true → is_canonical_rule family rule ≡ true → rule_of_line family (rule_line chain rule) ≡ Some (chain, rule)
line_read family chain rule named_well valid =
    let ms = rule.matches.items in
    let t = rule.target in
    let rest = rest_text ms t in
    let counted = and_parts (nat_le (length ms) 4) (list_all (is_canonical_match family) ms && is_canonical_target family t) valid in
    let both = and_parts (list_all (is_canonical_match family) ms) (is_canonical_target family t) counted.1 in
    let low : nat_le (length ms) 4 ≡ true = counted.0 in
    let few : length ms ≤ 4 = grind (arith, nat_tests, low) in
    ap (rule_of_line family) (line_is chain rule)
    ∙ ap (option_and_then (λ (word, rest). option_and_then (λ chain. behind_name family chain (matches_of family 4 rest)) (name_word word))) (cut_front is_word_byte 32 refl chain rest (names.whole chain named_well))
    ∙ ap (option_and_then (λ chain. behind_name family chain (matches_of family 4 rest))) (names.complete chain named_well)
    ∙ ap (behind_name family chain) (matches_read family 4 ms t few both.0)
    ∙ ap (option_map (λ t. (chain, rule_of ms t))) (target_read family t both.1)

pub lines_differ : RuleLinesDiffer
lines_differ family chain other a b p q v w e =
    let same = same_Some (chain, a) (other, b) (sym (line_read family chain a p v) ∙ ap (rule_of_line family) e ∙ line_read family other b q w) in
    (ap (λ (r : List ℕ × Rule). r.0) same, ap (λ (r : List ℕ × Rule). r.1) same)
