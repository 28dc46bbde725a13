-- Targets: what is read has that text, and the text of a target is read.
use Rattle.std.proofs.Common.{◌≡◌, ℕ, List, ◌++◌, codes, Bool, true, false, cond, bytes_eq, Option, Some, None, option_map, IfSome, refl, sym, ap, ◌∙◌, true≢false}
use Rattle.std.specs.List.{list_all}
use Rattle.std.proofs.lemmas.Bool.{false_from_ne_true, false≢true}
use Rattle.std.proofs.lemmas.Option.{IfSome_then}
use Rattle.std.proofs.lemmas.Slice.Eq.{bytes_eq-Decides}
use Rattle.kp_base.specs.declared.address.Family.{Family}
use Rattle.kp_types.specs.Chains.{is_chain_byte, is_chain_name}
use Rattle.kp_types.specs.declared.rule.Target.{Target}
use Rattle.kp_types.specs.declared.rule.Target.TheVariants as target
use Rattle.kp_restore_defs.specs.RuleText.{is_canonical_target}
use Rattle.kp_rule_text.specs.Lines.{target_text}
use Rattle.kp_rule_text.specs.WordReading.{strip, endpoint_word, name_word}
use Rattle.kp_rule_text.specs.Reading.{follow, other_target, plain_target, either, target_of}
use Rattle.kp_rule_text.proofs.Cuts.{strip_is}
use Rattle.kp_rule_text.proofs.Words.{if_then, if_map, of_some, names}
use Rattle.kp_rule_text.proofs.AddressWords.{IsEndpointOf, endpoint_sound, endpoint_complete}
use Rattle.kp_types.proofs.ChainBytes.{name_bytes}

-- a text that is compared
if_text : (P : Target → Type 0) (text word : List ℕ) (t : Target) (other : Option Target) → (word ≡ text → P t) → IfSome other P → IfSome (cond (bytes_eq text word) (Some t) other) P
if_text P text word t other h g = by_test (bytes_eq text word) (λ e. h (sym ((bytes_eq-Decides text word).0 e)))
  where
    by_test : (b : Bool) → (b ≡ true → P t) → IfSome (cond b (Some t) other) P
    by_test true k = k refl
    by_test false k = g

follow_target : (P : Target → Type 0) (k : List ℕ → Option Target) (other : Option Target) (o : Option (List ℕ)) → ((rest : List ℕ) → o ≡ Some rest → IfSome (k rest) P) → IfSome other P → IfSome (follow k other o) P
follow_target P k other None h g = g
follow_target P k other (Some rest) h g = h rest refl

either_found : (P : Target → Type 0) (a b : Option Target) → IfSome a P → IfSome b P → IfSome (either a b) P
either_found P None b h g = g
either_found P (Some t) b h g = h

-- ---- a target that is read has its text

module _ (family : Family) where
  -- a canonical target whose text is this behind `-j`
  abbrev IsTarget : List ℕ → Target → Type 0
  IsTarget text t = (is_canonical_target family t ≡ true) × (target_text t ≡ codes "-j " ++ text)

  plain_found : (text : List ℕ) → IfSome (plain_target text) (IsTarget text)
  plain_found text =
      let P = IsTarget text in
      let jump = λ (l : List ℕ). codes "-j " ++ l in
      if_text P text (codes "RETURN") target.Return _ (λ e. (refl, ap jump e))
      (if_text P text (codes "ACCEPT") target.Accept _ (λ e. (refl, ap jump e))
      (if_text P text (codes "DROP") target.Drop _ (λ e. (refl, ap jump e))
      (if_text P text (codes "REJECT") target.Reject _ (λ e. (refl, ap jump e))
      (if_text P text (codes "MASQUERADE") target.Masquerade _ (λ e. (refl, ap jump e))
      (if_text P text (codes "MARK --or-mark 0x4000") target.SetMark _ (λ e. (refl, ap jump e))
      (if_text P text (codes "MARK --xor-mark 0x4000") target.FlipMark None (λ e. (refl, ap jump e)) tt))))))

  other_found : (text : List ℕ) → IfSome (other_target family text) (IsTarget text)
  other_found text =
      follow_target (IsTarget text) (λ word. option_map target.Dnat (endpoint_word family word)) (option_map target.Jump (name_word text)) (strip (codes "DNAT --to-destination ") text)
      (λ word e. if_map (IsTarget text) target.Dnat (endpoint_word family word)
      (λ a f.
      let is = of_some (IsEndpointOf family word) (endpoint_word family word) a (endpoint_sound family word) f in
      let front = of_some (λ rest. text ≡ codes "DNAT --to-destination " ++ rest) (strip (codes "DNAT --to-destination ") text) word (strip_is (codes "DNAT --to-destination ") text) e in
      (is.0, ap (λ l. codes "-j DNAT --to-destination " ++ l) is.1 ∙ ap (λ l. codes "-j " ++ l) (sym front))))
      (if_map (IsTarget text) target.Jump (name_word text)
      (λ n f. let is = of_some (λ n. (is_chain_name n ≡ true) × (n ≡ text)) (name_word text) n (names.sound text) f in (is.0, ap (λ l. codes "-j " ++ l) is.1)))

  pub target_found : (text : List ℕ) → IfSome (target_of family text) (λ t. (is_canonical_target family t ≡ true) × (target_text t ≡ text))
  target_found text =
      if_then (λ t. (is_canonical_target family t ≡ true) × (target_text t ≡ text)) (λ rest. either (plain_target rest) (other_target family rest)) (strip (codes "-j ") text)
      (λ rest e.
      let front = of_some (λ rest. text ≡ codes "-j " ++ rest) (strip (codes "-j ") text) rest (strip_is (codes "-j ") text) e in
      IfSome_then (either (plain_target rest) (other_target family rest)) (either_found (IsTarget rest) (plain_target rest) (other_target family rest) (plain_found rest) (other_found rest))
      (λ t h. (h.0, h.1 ∙ sym front)))

-- ---- the text of a target is read

-- a name is none of the words that are no names
not_named : (chain word : List ℕ) → is_chain_name chain ≡ true → is_chain_name word ≡ false → bytes_eq chain word ≡ false
not_named chain word named_well other =
    false_from_ne_true (bytes_eq chain word) (λ e. true≢false (sym named_well ∙ ap is_chain_name ((bytes_eq-Decides chain word).0 e) ∙ other))

-- which has no space
not_destination : (chain rest : List ℕ) → is_chain_name chain ≡ true → chain ≡ codes "DNAT --to-destination " ++ rest → false ≡ true
not_destination chain rest named_well h = ap (list_all is_chain_byte) (sym h) ∙ name_bytes chain named_well

no_front : (chain : List ℕ) → is_chain_name chain ≡ true → (o : Option (List ℕ)) → IfSome o (λ rest. chain ≡ codes "DNAT --to-destination " ++ rest) → o ≡ None
no_front chain named_well None h = refl
no_front chain named_well (Some rest) h = absurd (false≢true (not_destination chain rest named_well h))

no_destination : (chain : List ℕ) → is_chain_name chain ≡ true → strip (codes "DNAT --to-destination ") chain ≡ None
no_destination chain named_well = no_front chain named_well (strip (codes "DNAT --to-destination ") chain) (strip_is (codes "DNAT --to-destination ") chain)

jump_read : (family : Family) (chain : List ℕ) → is_chain_name chain ≡ true → either (plain_target chain) (other_target family chain) ≡ Some (target.Jump chain)
jump_read family chain h =
    ap (λ o. either o (other_target family chain))
    (λ i. cond (not_named chain (codes "RETURN") h refl i) (Some target.Return)
    (cond (not_named chain (codes "ACCEPT") h refl i) (Some target.Accept)
    (cond (not_named chain (codes "DROP") h refl i) (Some target.Drop)
    (cond (not_named chain (codes "REJECT") h refl i) (Some target.Reject)
    (cond (not_named chain (codes "MASQUERADE") h refl i) (Some target.Masquerade)
    (cond (not_named chain (codes "MARK --or-mark 0x4000") h refl i) (Some target.SetMark)
    (cond (not_named chain (codes "MARK --xor-mark 0x4000") h refl i) (Some target.FlipMark) None)))))))
    ∙ ap (follow (λ word. option_map target.Dnat (endpoint_word family word)) (option_map target.Jump (name_word chain))) (no_destination chain h)
    ∙ ap (option_map target.Jump) (names.complete chain h)

pub target_read : (family : Family) (t : Target) → is_canonical_target family t ≡ true → target_of family (target_text t) ≡ Some t
target_read family (target.Jump chain) h = jump_read family chain h
target_read family target.Return h = refl
target_read family target.Accept h = refl
target_read family target.Drop h = refl
target_read family target.Reject h = refl
target_read family target.SetMark h = refl
target_read family target.FlipMark h = refl
target_read family (target.Dnat e) h = ap (option_map target.Dnat) (endpoint_complete family e h)
target_read family target.Masquerade h = refl
