-- Lines in pieces.
use Rattle.std.proofs.Common.{◌≡◌, ℕ, List, [], ◌∷◌, ◌++◌, codes, decimal, refl, sym, ap, ◌∙◌, append-nil, append_assoc}
use Rattle.std.specs.List.{flat_map}
use Rattle.std.proofs.lemmas.Grind.{flat_map-append}
use Rattle.kp_base.specs.declared.port.Proto.{Proto}
use Rattle.kp_base.specs.declared.port.Proto.TheVariants.{Tcp, Udp, Sctp}
use Rattle.kp_types.specs.declared.rule.Match.{Match}
use Rattle.kp_types.specs.declared.rule.Match.TheVariants as match
use Rattle.kp_types.specs.declared.rule.Target.{Target}
use Rattle.kp_types.specs.declared.rule.Target.TheVariants as target
use Rattle.kp_types.specs.declared.rule.Rule.{Rule}
use Rattle.kp_choice_defs.specs.Draws.{probability_text_of}
use Rattle.kp_restore_defs.specs.RuleText.{joined, match_words, target_words, rule_line}
use Rattle.kp_rule_text.specs.Lines.{spaced, match_text, target_text}
use Rattle.kp_rule_text.specs.Reading.{port_words}
use Rattle.kp_lemmas.proofs.ListFacts.{added_twice}

-- the first word of a list that has more
pub spaced-cons : (w : List ℕ) (ws : List (List ℕ)) (text : List ℕ) → spaced (w ∷ ws) ++ text ≡ w ++ 32 ∷ (spaced ws ++ text)
spaced-cons w ws text = append_assoc (w ++ 32 ∷ []) (spaced ws) text ∙ append_assoc w (32 ∷ []) (spaced ws ++ text)

-- words behind which another stands
joined_spaced : (ws : List (List ℕ)) (t : List ℕ) (ts : List (List ℕ)) → joined (ws ++ t ∷ ts) ≡ spaced ws ++ joined (t ∷ ts)
joined_spaced [] t ts = refl
joined_spaced (w ∷ []) t ts = sym (spaced-cons w [] (joined (t ∷ ts)))
joined_spaced (w ∷ v ∷ ws) t ts = ap (λ l. w ++ 32 ∷ l) (joined_spaced (v ∷ ws) t ts) ∙ sym (spaced-cons w (v ∷ ws) (joined (t ∷ ts)))

spaced_matches : (ms : List Match) → spaced (flat_map match_words ms) ≡ flat_map match_text ms
spaced_matches [] = refl
spaced_matches (m ∷ ms) = flat_map-append (λ word. word ++ 32 ∷ []) (match_words m) (flat_map match_words ms) ∙ ap (λ l. match_text m ++ l) (spaced_matches ms)

-- a target has a word
has_word : (t : Target) → (w : List ℕ) × (ws : List (List ℕ)) × (target_words t ≡ w ∷ ws)
has_word (target.Jump chain) = (_, _, refl)
has_word target.Return = (_, _, refl)
has_word target.Accept = (_, _, refl)
has_word target.Drop = (_, _, refl)
has_word target.Reject = (_, _, refl)
has_word target.SetMark = (_, _, refl)
has_word target.FlipMark = (_, _, refl)
has_word (target.Dnat endpoint) = (_, _, refl)
has_word target.Masquerade = (_, _, refl)

-- a rule's line: what every line begins with, the chain's name, the matches and the target
abbrev pub pieces : List ℕ → List Match → Target → List ℕ
pieces chain ms t = codes "-A " ++ (chain ++ 32 ∷ (flat_map match_text ms ++ target_text t))

before_target : (ws ts : List (List ℕ)) (w : List ℕ) (vs : List (List ℕ)) → ts ≡ w ∷ vs → joined (ws ++ ts) ≡ spaced ws ++ joined ts
before_target ws ts w vs e = ap (λ l. joined (ws ++ l)) e ∙ joined_spaced ws w vs ∙ ap (λ l. spaced ws ++ joined l) (sym e)

pub line_is : (chain : List ℕ) (rule : Rule) → rule_line chain rule ≡ pieces chain rule.matches.items rule.target
line_is chain rule =
    let words = flat_map match_words rule.matches.items in
    let some = has_word rule.target in
    let last = target_text rule.target in
    before_target (codes "-A" ∷ chain ∷ words) (target_words rule.target) some.0 some.1 some.2
    ∙ spaced-cons (codes "-A") (chain ∷ words) last
    ∙ ap (λ l. codes "-A " ++ l) (spaced-cons chain words last ∙ ap (λ l. chain ++ 32 ∷ (l ++ last)) (spaced_matches rule.matches.items))

-- a line whose pieces are added one after the other
pub line_added : (old s1 s2 s3 s4 new chain : List ℕ) (rule : Rule) → s1 ≡ old ++ codes "-A " → s2 ≡ s1 ++ chain → s3 ≡ s2 ++ 32 ∷ [] → s4 ≡ s3 ++ flat_map match_text rule.matches.items → new ≡ s4 ++ target_text rule.target → new ≡ old ++ rule_line chain rule
line_added old s1 s2 s3 s4 new chain rule a b c d e =
    let ms = flat_map match_text rule.matches.items in
    let t = target_text rule.target in
    added_twice old s1 new (codes "-A ") (chain ++ 32 ∷ (ms ++ t)) a
    (added_twice s1 s2 new chain (32 ∷ (ms ++ t)) b (added_twice s2 s3 new (32 ∷ []) (ms ++ t) c (added_twice s3 s4 new ms t d e)))
    ∙ ap (λ l. old ++ l) (sym (line_is chain rule))

-- what stood before the pieces of a line stands before what comes after them
pub line_front : (old s1 s2 s3 s4 new a b c d : List ℕ) → s1 ≡ old ++ a → s2 ≡ s1 ++ b → s3 ≡ s2 ++ c → s4 ≡ s3 ++ d → (rest : List ℕ) × (new ≡ s4 ++ rest) → (rest : List ℕ) × (new ≡ old ++ rest)
line_front old s1 s2 s3 s4 new a b c d e f g h (rest, is) = (
  a ++ (b ++ (c ++ (d ++ rest))),
  added_twice old s1 new a (b ++ (c ++ (d ++ rest))) e
      (added_twice s1 s2 new b (c ++ (d ++ rest)) f (added_twice s2 s3 new c (d ++ rest) g (added_twice s3 s4 new d rest h is))),
)

-- ---- pieces of a match or a target that are added one after the other

pub statistic_added : (old s1 s2 new : List ℕ) (p : ℕ) → s1 ≡ old ++ codes "-m statistic --mode random --probability " → s2 ≡ s1 ++ probability_text_of p → new ≡ s2 ++ codes " " → new ≡ old ++ match_text (match.Statistic p)
statistic_added old s1 s2 new p a b c =
    added_twice old s1 new (codes "-m statistic --mode random --probability ") (probability_text_of p ++ codes " ") a
    (added_twice s1 s2 new (probability_text_of p) (codes " ") b c)

seen_text : (list : List ℕ) (seconds : ℕ) → codes "-m recent --name " ++ (list ++ ((codes " --rcheck --seconds " ++ decimal seconds) ++ codes " --reap ")) ≡ match_text (match.Seen list seconds)
seen_text list seconds =
    sym (ap (λ l. codes "-m recent --name " ++ l)
    (append_assoc list (32 ∷ []) _ ∙ ap (λ l. list ++ (codes " --rcheck --seconds " ++ l)) (append_assoc (decimal seconds) (32 ∷ []) (codes "--reap "))))

pub seen_added : (old s1 s2 s3 new list : List ℕ) (seconds : ℕ) → s1 ≡ old ++ codes "-m recent --name " → s2 ≡ s1 ++ list → s3 ≡ s2 ++ (codes " --rcheck --seconds " ++ decimal seconds) → new ≡ s3 ++ codes " --reap " → new ≡ old ++ match_text (match.Seen list seconds)
seen_added old s1 s2 s3 new list seconds a b c d =
    let timed = codes " --rcheck --seconds " ++ decimal seconds in
    added_twice old s1 new (codes "-m recent --name ") (list ++ (timed ++ codes " --reap ")) a
    (added_twice s1 s2 new list (timed ++ codes " --reap ") b (added_twice s2 s3 new timed (codes " --reap ") c d))
    ∙ ap (λ l. old ++ l) (seen_text list seconds)

-- a port behind its protocol
port_text : (proto : Proto) (port : ℕ) → ((match_text (match.Proto proto) ++ port_words proto) ++ decimal port) ++ codes " " ≡ match_text (match.Port proto port)
port_text Tcp port = ap (λ l. codes "-p tcp -m tcp --dport " ++ l) (sym (append-nil (decimal port ++ codes " ")))
port_text Udp port = ap (λ l. codes "-p udp -m udp --dport " ++ l) (sym (append-nil (decimal port ++ codes " ")))
port_text Sctp port = ap (λ l. codes "-p sctp -m sctp --dport " ++ l) (sym (append-nil (decimal port ++ codes " ")))

pub port_added : (old s1 new : List ℕ) (proto : Proto) (port : ℕ) → s1 ≡ old ++ ((match_text (match.Proto proto) ++ port_words proto) ++ decimal port) → new ≡ s1 ++ codes " " → new ≡ old ++ match_text (match.Port proto port)
port_added old s1 new proto port a b =
    added_twice old s1 new ((match_text (match.Proto proto) ++ port_words proto) ++ decimal port) (codes " ") a b
    ∙ ap (λ l. old ++ l) (port_text proto port)
