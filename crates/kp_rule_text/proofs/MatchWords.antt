-- Matches: what is read of a line has that text, and the text of a match is read.
use Rattle.std.proofs.Common.{◌≡◌, ℕ, ◌^◌, ◌<◌, List, [], ◌∷◌, ◌++◌, codes, Bool, true, false, nat_lt, nat_le, decimal, Option, Some, None, option_map, option_and_then, IfSome, refl, sym, ap, ◌∙◌, arith, append_assoc}
use Rattle.std.proofs.lemmas.Bool.{and_parts, and_from}
use Rattle.std.proofs.lemmas.Bool.Decides.{nat_tests}
use Rattle.std.proofs.lemmas.Option.{IfSome_then}
use Rattle.kp_base.specs.Net.{RangeParts}
use Rattle.kp_base.specs.Dotted.{split_once}
use Rattle.kp_base.specs.declared.address.Family.{Family}
use Rattle.kp_base.specs.declared.port.Proto.{Proto}
use Rattle.kp_base.specs.declared.port.Proto.TheVariants.{Tcp, Udp, Sctp}
use Rattle.kp_types.specs.Chains.{is_chain_name}
use Rattle.kp_types.specs.declared.rule.Match.{Match}
use Rattle.kp_types.specs.declared.rule.Match.TheVariants as match
use Rattle.kp_choice_defs.specs.Draws.{probability_text_of}
use Rattle.kp_restore_defs.specs.RuleText.{range_text, is_canonical_match, is_canonical_range, is_port_number}
use Rattle.kp_rule_text.specs.Lines.{spaced, match_text}
use Rattle.kp_rule_text.specs.WordReading.{strip, number_word, port_word, range_word, probability_word, name_word}
use Rattle.kp_rule_text.specs.Reading.{follow, Found, with_word, plain, address_match, port_words, port_match, proto_match, seen_match, timed_match, list_match, recent_match, local_match, mark_match, module_match, match_of}
use Rattle.kp_rule_text.proofs.Cuts.{strip_is, strip_front, cut_is, cut_front}
use Rattle.kp_rule_text.proofs.Joined.{spaced-cons}
use Rattle.kp_rule_text.proofs.Words.{if_then, if_map, of_some, is_word_byte, IsWord, numbers, ports, names}
use Rattle.kp_rule_text.proofs.AddressWords.{ranges}
use Rattle.kp_rule_text.proofs.Probabilities.{probabilities}
use Rattle.kp_lemmas.proofs.Numbers.{within_32_bits}

-- ---- words

word_read : {V : Type 0} (read : List ℕ → Option V) (text_of : V → List ℕ) (is_valid : V → Bool) → IsWord read text_of is_valid → (make : V → Match) (v : V) (rest : List ℕ) → is_valid v ≡ true → with_word read make (text_of v ++ 32 ∷ rest) ≡ Some (make v, rest)
word_read read text_of is_valid word_is make v rest h =
    ap (option_and_then (λ (word, rest). option_map (λ v. (make v, rest)) (read word))) (cut_front is_word_byte 32 refl (text_of v) rest (word_is.whole v h))
    ∙ ap (option_map (λ v. (make v, rest))) (word_is.complete v h)

-- one word with its space
last_word : (w rest : List ℕ) → spaced (w ∷ []) ++ rest ≡ w ++ 32 ∷ rest
last_word w rest = spaced-cons w [] rest

-- ---- sources and destinations

-- what stands before the option
abbrev sign : Bool → List ℕ
sign true = codes "! "
sign false = []

src_shape : (negated : Bool) (range : RangeParts) (rest : List ℕ) → (sign negated ++ codes "-s ") ++ (range_text range ++ 32 ∷ rest) ≡ match_text (match.Src range negated) ++ rest
src_shape true range rest = ap (λ l. codes "! -s " ++ l) (sym (last_word (range_text range) rest))
src_shape false range rest = ap (λ l. codes "-s " ++ l) (sym (last_word (range_text range) rest))

dst_shape : (negated : Bool) (range : RangeParts) (rest : List ℕ) → (sign negated ++ codes "-d ") ++ (range_text range ++ 32 ∷ rest) ≡ match_text (match.Dst range negated) ++ rest
dst_shape true range rest = ap (λ l. codes "! -d " ++ l) (sym (last_word (range_text range) rest))
dst_shape false range rest = ap (λ l. codes "-d " ++ l) (sym (last_word (range_text range) rest))

-- ---- protocols and ports

abbrev before_proto : Proto → List ℕ
before_proto Tcp = codes "-p tcp "
before_proto Udp = codes "-p udp "
before_proto Sctp = codes "-p sctp "

proto_shape : (proto : Proto) (rest : List ℕ) → before_proto proto ++ rest ≡ match_text (match.Proto proto) ++ rest
proto_shape Tcp rest = refl
proto_shape Udp rest = refl
proto_shape Sctp rest = refl

port_shape : (proto : Proto) (port : ℕ) (rest : List ℕ) → (before_proto proto ++ port_words proto) ++ (decimal port ++ 32 ∷ rest) ≡ match_text (match.Port proto port) ++ rest
port_shape Tcp port rest = ap (λ l. codes "-p tcp -m tcp --dport " ++ l) (sym (last_word (decimal port) rest))
port_shape Udp port rest = ap (λ l. codes "-p udp -m udp --dport " ++ l) (sym (last_word (decimal port) rest))
port_shape Sctp port rest = ap (λ l. codes "-p sctp -m sctp --dport " ++ l) (sym (last_word (decimal port) rest))

-- ---- modules

statistic_shape : (p : ℕ) (rest : List ℕ) → codes "-m statistic --mode random --probability " ++ (probability_text_of p ++ 32 ∷ rest) ≡ match_text (match.Statistic p) ++ rest
statistic_shape p rest = ap (λ l. codes "-m statistic --mode random --probability " ++ l) (sym (last_word (probability_text_of p) rest))

-- ---- recent lists

abbrev named : List ℕ → List ℕ
named list = codes "-m recent --name " ++ (list ++ 32 ∷ [])

abbrev timed : List ℕ → List ℕ
timed list = named list ++ codes "--rcheck --seconds "

name_shape : (list rest : List ℕ) → named list ++ rest ≡ codes "-m recent --name " ++ (list ++ 32 ∷ rest)
name_shape list rest = ap (λ l. codes "-m recent --name " ++ l) (append_assoc list (32 ∷ []) rest)

set_shape : (list rest : List ℕ) → codes "-m recent --name " ++ (list ++ 32 ∷ (codes "--set " ++ rest)) ≡ match_text (match.SetSeen list) ++ rest
set_shape list rest = ap (λ l. codes "-m recent --name " ++ l) (sym (spaced-cons list (codes "--set" ∷ []) rest))

seen_shape : (list : List ℕ) (seconds : ℕ) (rest : List ℕ) → codes "-m recent --name " ++ (list ++ 32 ∷ (codes "--rcheck --seconds " ++ (decimal seconds ++ 32 ∷ (codes "--reap " ++ rest)))) ≡ match_text (match.Seen list seconds) ++ rest
seen_shape list seconds rest =
    sym (ap (λ l. codes "-m recent --name " ++ l)
    (spaced-cons list (codes "--rcheck" ∷ codes "--seconds" ∷ decimal seconds ∷ codes "--reap" ∷ []) rest
    ∙ ap (λ l. list ++ 32 ∷ (codes "--rcheck --seconds " ++ l)) (spaced-cons (decimal seconds) (codes "--reap" ∷ []) rest)))

seconds_low : (n : ℕ) → nat_le n 4294967295 ≡ true → nat_lt n (2 ^ 32) ≡ true
seconds_low n h = grind (arith, nat_tests)

abbrev small_seconds : 4294967295 < 2 ^ 64
small_seconds = omega arith

-- ---- a match that is read has its text

follow_by : (P : Match × List ℕ → Type 0) (k : List ℕ → Found) (other : Found) (o : Option (List ℕ)) → ((rest : List ℕ) → o ≡ Some rest → IfSome (k rest) P) → IfSome other P → IfSome (follow k other o) P
follow_by P k other None h g = g
follow_by P k other (Some rest) h g = h rest refl

module _ (family : Family) where
  -- a canonical match, whose text stands at the front of what was read before and of the text
  abbrev pub IsFound : List ℕ → List ℕ → Match × List ℕ → Type 0
  IsFound before text p = (is_canonical_match family p.0 ≡ true) × (before ++ text ≡ match_text p.0 ++ p.1)

  -- what is found behind a front is found with the front before it
  moved : (before front text rest : List ℕ) (o : Found) → text ≡ front ++ rest → IfSome o (IsFound (before ++ front) rest) → IfSome o (IsFound before text)
  moved before front text rest o e h =
      IfSome_then o h (λ p f. (f.0, ap (λ l. before ++ l) e ∙ sym (append_assoc before front rest) ∙ f.1))

  follow_found : (before front text : List ℕ) (k : List ℕ → Found) (other : Found) → ((rest : List ℕ) → IfSome (k rest) (IsFound (before ++ front) rest)) → IfSome other (IsFound before text) → IfSome (follow k other (strip front text)) (IsFound before text)
  follow_found before front text k other h g =
      follow_by (IsFound before text) k other (strip front text)
      (λ rest e. moved before front text rest (k rest) (of_some (λ rest. text ≡ front ++ rest) (strip front text) rest (strip_is front text) e) (h rest)) g

  strip_found : (before front text : List ℕ) (k : List ℕ → Found) → ((rest : List ℕ) → IfSome (k rest) (IsFound (before ++ front) rest)) → IfSome (option_and_then k (strip front text)) (IsFound before text)
  strip_found before front text k h =
      if_then (IsFound before text) k (strip front text)
      (λ rest e. moved before front text rest (k rest) (of_some (λ rest. text ≡ front ++ rest) (strip front text) rest (strip_is front text) e) (h rest))

  -- a match of one word
  word_found : {V : Type 0} (read : List ℕ → Option V) (text_of : V → List ℕ) (is_valid : V → Bool) → IsWord read text_of is_valid → (make : V → Match) (before : List ℕ) → ((v : V) → is_valid v ≡ true → is_canonical_match family (make v) ≡ true) → ((v : V) (rest : List ℕ) → before ++ (text_of v ++ 32 ∷ rest) ≡ match_text (make v) ++ rest) → (text : List ℕ) → IfSome (with_word read make text) (IsFound before text)
  word_found read text_of is_valid word_is make before valid shape text =
      if_then (IsFound before text) (λ (word, rest). option_map (λ v. (make v, rest)) (read word)) (split_once 32 text)
      (λ p e. if_map (IsFound before text) (λ v. (make v, p.1)) (read p.0)
      (λ v f.
      let cut = of_some (λ p. text ≡ p.0 ++ 32 ∷ p.1) (split_once 32 text) p (cut_is 32 text) e in
      let is = of_some (λ v. (is_valid v ≡ true) × (text_of v ≡ p.0)) (read p.0) v (word_is.sound p.0) f in
      (valid v is.0, ap (λ l. before ++ l) cut ∙ ap (λ w. before ++ (w ++ 32 ∷ p.1)) (sym is.1) ∙ shape v p.1)))

  address_found : (negated : Bool) (text : List ℕ) → IfSome (address_match family negated text) (IsFound (sign negated) text)
  address_found negated text =
      follow_found (sign negated) (codes "-s ") text (with_word (range_word family) (λ range. match.Src range negated)) _
      (word_found (range_word family) range_text (is_canonical_range family) (ranges family) (λ range. match.Src range negated) (sign negated ++ codes "-s ") (λ v h. h) (src_shape negated))
      (strip_found (sign negated) (codes "-d ") text (with_word (range_word family) (λ range. match.Dst range negated))
      (word_found (range_word family) range_text (is_canonical_range family) (ranges family) (λ range. match.Dst range negated) (sign negated ++ codes "-d ") (λ v h. h) (dst_shape negated)))

  port_found : (proto : Proto) (text : List ℕ) → IfSome (port_match proto text) (IsFound (before_proto proto) text)
  port_found proto text =
      follow_found (before_proto proto) (port_words proto) text (with_word port_word (match.Port proto)) (plain (match.Proto proto) text)
      (word_found port_word decimal is_port_number ports (match.Port proto) (before_proto proto ++ port_words proto) (λ v h. h) (port_shape proto))
      (refl, proto_shape proto text)

  proto_found : (text : List ℕ) → IfSome (proto_match text) (IsFound (codes "-p ") text)
  proto_found text =
      follow_found (codes "-p ") (codes "tcp ") text (port_match Tcp) _ (port_found Tcp)
      (follow_found (codes "-p ") (codes "udp ") text (port_match Udp) _ (port_found Udp)
      (strip_found (codes "-p ") (codes "sctp ") text (port_match Sctp) (port_found Sctp)))

  local_found : (text : List ℕ) → IfSome (local_match text) (IsFound (codes "-m addrtype ") text)
  local_found text =
      follow_found (codes "-m addrtype ") (codes "--src-type LOCAL ") text (plain match.SrcLocal) _ (λ rest. (refl, refl))
      (strip_found (codes "-m addrtype ") (codes "--dst-type LOCAL ") text (plain match.DstLocal) (λ rest. (refl, refl)))

  mark_found : (text : List ℕ) → IfSome (mark_match text) (IsFound (codes "-m mark ") text)
  mark_found text =
      follow_found (codes "-m mark ") (codes "--mark 0x4000/0x4000 ") text (plain (match.Marked false)) _ (λ rest. (refl, refl))
      (strip_found (codes "-m mark ") (codes "! --mark 0x4000/0x4000 ") text (plain (match.Marked true)) (λ rest. (refl, refl)))

  statistic_found : (text : List ℕ) → IfSome (with_word probability_word match.Statistic text) (IsFound (codes "-m statistic --mode random --probability ") text)
  statistic_found =
      word_found probability_word probability_text_of (λ p. nat_le p (10 ^ 10)) probabilities match.Statistic (codes "-m statistic --mode random --probability ") (λ v h. h) statistic_shape

  seen_found : (list : List ℕ) → is_chain_name list ≡ true → (text : List ℕ) → IfSome (timed_match list text) (IsFound (timed list) text)
  seen_found list named_well text =
      if_then (IsFound (timed list) text) (λ (word, rest). seen_match list word rest) (split_once 32 text)
      (λ p e. if_then (IsFound (timed list) text) (λ seconds. option_and_then (plain (match.Seen list seconds)) (strip (codes "--reap ") p.1)) (number_word 4294967295 p.0)
      (λ seconds f. if_then (IsFound (timed list) text) (plain (match.Seen list seconds)) (strip (codes "--reap ") p.1)
      (λ rest g.
      let cut = of_some (λ p. text ≡ p.0 ++ 32 ∷ p.1) (split_once 32 text) p (cut_is 32 text) e in
      let is = of_some (λ n. (nat_le n 4294967295 ≡ true) × (decimal n ≡ p.0)) (number_word 4294967295 p.0) seconds ((numbers 4294967295 small_seconds).sound p.0) f in
      let last = of_some (λ rest. p.1 ≡ codes "--reap " ++ rest) (strip (codes "--reap ") p.1) rest (strip_is (codes "--reap ") p.1) g in (
        and_from _ _ named_well (seconds_low seconds is.0),
        append_assoc (named list) (codes "--rcheck --seconds ") text ∙ name_shape list (codes "--rcheck --seconds " ++ text)
            ∙ ap (λ l. codes "-m recent --name " ++ (list ++ 32 ∷ (codes "--rcheck --seconds " ++ l))) (cut ∙ (λ i. sym is.1 i ++ 32 ∷ last i))
            ∙ seen_shape list seconds rest,
      ))))

  list_found : (list : List ℕ) → is_chain_name list ≡ true → (text : List ℕ) → IfSome (list_match list text) (IsFound (named list) text)
  list_found list named_well text =
      follow_found (named list) (codes "--set ") text (plain (match.SetSeen list)) _
      (λ rest. (named_well, append_assoc (named list) (codes "--set ") rest ∙ name_shape list (codes "--set " ++ rest) ∙ set_shape list rest))
      (strip_found (named list) (codes "--rcheck --seconds ") text (timed_match list) (seen_found list named_well))

  recent_found : (text : List ℕ) → IfSome (recent_match text) (IsFound (codes "-m recent --name ") text)
  recent_found text =
      if_then (IsFound (codes "-m recent --name ") text) (λ (word, rest). option_and_then (λ list. list_match list rest) (name_word word)) (split_once 32 text)
      (λ p e. if_then (IsFound (codes "-m recent --name ") text) (λ list. list_match list p.1) (name_word p.0)
      (λ list f.
      let cut = of_some (λ p. text ≡ p.0 ++ 32 ∷ p.1) (split_once 32 text) p (cut_is 32 text) e in
      let is = of_some (λ n. (is_chain_name n ≡ true) × (n ≡ p.0)) (name_word p.0) list (names.sound p.0) f in
      IfSome_then (list_match list p.1) (list_found list is.0 p.1)
      (λ q g. (g.0, ap (λ l. codes "-m recent --name " ++ l) (cut ∙ ap (λ w. w ++ 32 ∷ p.1) (sym is.1)) ∙ sym (name_shape list p.1) ∙ g.1))))

  module_found : (text : List ℕ) → IfSome (module_match text) (IsFound (codes "-m ") text)
  module_found text =
      follow_found (codes "-m ") (codes "addrtype ") text local_match _ local_found
      (follow_found (codes "-m ") (codes "mark ") text mark_match _ mark_found
      (follow_found (codes "-m ") (codes "recent --name ") text recent_match _ recent_found
      (strip_found (codes "-m ") (codes "statistic --mode random --probability ") text (with_word probability_word match.Statistic) statistic_found)))

  -- a match that is read is canonical, and its text stands at the front
  pub match_found : (text : List ℕ) → IfSome (match_of family text) (IsFound [] text)
  match_found text =
      follow_found [] (codes "-m ") text module_match _ module_found
      (follow_found [] (codes "-p ") text proto_match _ proto_found
      (follow_found [] (codes "! ") text (address_match family true) (address_match family false text) (address_found true) (address_found false text)))

-- ---- the text of a match is read

-- no port stands at the front, whatever the protocol
abbrev pub HasNoPort : List ℕ → Type 0
HasNoPort text = (proto : Proto) → strip (port_words proto) text ≡ None

list_read : (list rest : List ℕ) → is_chain_name list ≡ true → recent_match (list ++ 32 ∷ rest) ≡ list_match list rest
list_read list rest h =
    ap (option_and_then (λ (word, rest). option_and_then (λ list. list_match list rest) (name_word word))) (cut_front is_word_byte 32 refl list rest (names.whole list h))
    ∙ ap (option_and_then (λ list. list_match list rest)) (names.complete list h)

timed_read : (list : List ℕ) (seconds : ℕ) (rest : List ℕ) → nat_le seconds 4294967295 ≡ true → timed_match list (decimal seconds ++ 32 ∷ (codes "--reap " ++ rest)) ≡ Some (match.Seen list seconds, rest)
timed_read list seconds rest h =
    let last = codes "--reap " ++ rest in
    ap (option_and_then (λ (word, rest). seen_match list word rest)) (cut_front is_word_byte 32 refl (decimal seconds) last ((numbers 4294967295 small_seconds).whole seconds h))
    ∙ ap (option_and_then (λ seconds. option_and_then (plain (match.Seen list seconds)) (strip (codes "--reap ") last))) ((numbers 4294967295 small_seconds).complete seconds h)

port_read : (proto : Proto) (port : ℕ) (rest : List ℕ) → is_port_number port ≡ true → port_match proto (port_words proto ++ (decimal port ++ 32 ∷ rest)) ≡ Some (match.Port proto port, rest)
port_read proto port rest h =
    let behind = decimal port ++ 32 ∷ rest in
    ap (follow (with_word port_word (match.Port proto)) (plain (match.Proto proto) (port_words proto ++ behind))) (strip_front (port_words proto) behind)
    ∙ word_read port_word decimal is_port_number ports (match.Port proto) port rest h

proto_read : (proto : Proto) (rest : List ℕ) → HasNoPort rest → port_match proto rest ≡ Some (match.Proto proto, rest)
proto_read proto rest none = ap (follow (with_word port_word (match.Port proto)) (plain (match.Proto proto) rest)) (none proto)

-- the text of a canonical match is read, where no port stands behind it
pub match_read : (family : Family) (m : Match) (rest : List ℕ) → is_canonical_match family m ≡ true → HasNoPort rest → match_of family (match_text m ++ rest) ≡ Some (m, rest)
match_read family (match.Src range true) rest h none =
    ap (match_of family) (sym (src_shape true range rest)) ∙ word_read (range_word family) range_text (is_canonical_range family) (ranges family) (λ range. match.Src range true) range rest h
match_read family (match.Src range false) rest h none =
    ap (match_of family) (sym (src_shape false range rest)) ∙ word_read (range_word family) range_text (is_canonical_range family) (ranges family) (λ range. match.Src range false) range rest h
match_read family (match.Dst range true) rest h none =
    ap (match_of family) (sym (dst_shape true range rest)) ∙ word_read (range_word family) range_text (is_canonical_range family) (ranges family) (λ range. match.Dst range true) range rest h
match_read family (match.Dst range false) rest h none =
    ap (match_of family) (sym (dst_shape false range rest)) ∙ word_read (range_word family) range_text (is_canonical_range family) (ranges family) (λ range. match.Dst range false) range rest h
match_read family (match.Proto Tcp) rest h none = proto_read Tcp rest none
match_read family (match.Proto Udp) rest h none = proto_read Udp rest none
match_read family (match.Proto Sctp) rest h none = proto_read Sctp rest none
match_read family (match.Port Tcp port) rest h none = ap (match_of family) (sym (port_shape Tcp port rest)) ∙ port_read Tcp port rest h
match_read family (match.Port Udp port) rest h none = ap (match_of family) (sym (port_shape Udp port rest)) ∙ port_read Udp port rest h
match_read family (match.Port Sctp port) rest h none = ap (match_of family) (sym (port_shape Sctp port rest)) ∙ port_read Sctp port rest h
match_read family match.SrcLocal rest h none = refl
match_read family match.DstLocal rest h none = refl
match_read family (match.Marked true) rest h none = refl
match_read family (match.Marked false) rest h none = refl
match_read family (match.Statistic p) rest h none =
    ap (match_of family) (sym (statistic_shape p rest)) ∙ word_read probability_word probability_text_of (λ p. nat_le p (10 ^ 10)) probabilities match.Statistic p rest h
match_read family (match.Seen list seconds) rest h none =
    let both = and_parts _ _ h in
    ap (match_of family) (sym (seen_shape list seconds rest))
    ∙ list_read list (codes "--rcheck --seconds " ++ (decimal seconds ++ 32 ∷ (codes "--reap " ++ rest))) both.0
    ∙ timed_read list seconds rest (within_32_bits seconds both.1)
match_read family (match.SetSeen list) rest h none = ap (match_of family) (sym (set_shape list rest)) ∙ list_read list (codes "--set " ++ rest) h
