-- The block of a port that is kept has its rules in each shared chain.
use Rattle.std.proofs.Common.{◌≡◌, Bool, true, false, not, cond, List, [], ◌∷◌, filter, Option, Some}
use Rattle.std.proofs.Common.{None, option_map, refl, sym, ap, ◌∙◌}
use Rattle.std.proofs.Math.Bool.{not-not}
use Rattle.std.proofs.lemmas.Bool.{or_parts}
use Rattle.std.specs.List.{find, list_any}
use Rattle.kp_lemmas.specs.Lists.{is_empty}
use Rattle.kp_base.specs.declared.address.Family.{Family}
use Rattle.kp_base.specs.declared.address.Family.TheVariants.{V4, V6}
use Rattle.kp_types.specs.Setting.{Setting}
use Rattle.kp_types.specs.declared.chain.ChainAt.{ChainAt}
use Rattle.kp_types.specs.declared.rule.ChainText.{ChainText}
use Rattle.kp_types.specs.declared.rule.Rule.{Rule}
use Rattle.kp_object_defs.specs.PortInfo.{PortInfo}
use Rattle.kp_table_defs.specs.Layout as layout
use Rattle.kp_blocks.specs.Joined.{has_rules, port_block, text_of}
use Rattle.kp_writer.specs.Shared.{block_found, blocks_if, blocks_in, chain_rules, rules_found}
use Rattle.kp_writer.specs.Shared.{external, firewall, node_ports, refusals, services, stands_at}

-- ---- Chains without rules are left out

module _ (at : ChainAt) where
  -- whether at most one chain stands at the place
  abbrev once : List ChainText → Bool
  once [] = true
  once (c ∷ cs) = cond (stands_at at c) (not (list_any (stands_at at) cs)) (once cs)

  -- a chain elsewhere tells nothing
  passed : (c : ChainText) (cs : List ChainText) → stands_at at c ≡ false → (b : Bool)
      → chain_rules at (cond b (c ∷ cs) cs) ≡ chain_rules at cs
  passed c cs other true = ap (λ b. rules_found (cond b (Some c) (find (stands_at at) cs))) other
  passed c cs other false = refl

  nothing : (cs : List ChainText) → list_any (stands_at at) cs ≡ false
      → chain_rules at (filter has_rules cs) ≡ []
  nothing [] none = refl
  nothing (c ∷ cs) none =
      let parts = or_parts (stands_at at c) (list_any (stands_at at) cs) none in
      passed c (filter has_rules cs) parts.0 (has_rules c) ∙ nothing cs parts.1

  here : (c : ChainText) (cs : List ChainText) → stands_at at c ≡ true
      → list_any (stands_at at) cs ≡ false → (rules : List Rule) → c.rules ≡ rules
      → chain_rules at (cond (not (is_empty rules)) (c ∷ filter has_rules cs) (filter has_rules cs))
      ≡ rules
  here c cs is none [] rules = nothing cs none
  here c cs is none (r ∷ rs) rules =
      ap (λ b. rules_found (cond b (Some c) (find (stands_at at) (filter has_rules cs)))) is ∙ rules

  -- where it is one, it is found among those with rules
  kept : (cs : List ChainText) → once cs ≡ true
      → chain_rules at (filter has_rules cs) ≡ chain_rules at cs
  kept [] one = refl
  kept (c ∷ cs) one = by (kept cs) (stands_at at c) refl one
    where
      by : (once cs ≡ true → chain_rules at (filter has_rules cs) ≡ chain_rules at cs)
          → (b : Bool) → stands_at at c ≡ b
          → cond b (not (list_any (stands_at at) cs)) (once cs) ≡ true
          → chain_rules at (filter has_rules (c ∷ cs))
          ≡ rules_found (cond (stands_at at c) (Some c) (find (stands_at at) cs))
      by rest true is one =
          here c cs is (sym (not-not _) ∙ ap not one) c.rules refl
          ∙ sym (ap (λ b. rules_found (cond b (Some c) (find (stands_at at) cs))) is)
      by rest false is one =
          passed c (filter has_rules cs) is (has_rules c) ∙ rest one
          ∙ sym (ap (λ b. rules_found (cond b (Some c) (find (stands_at at) cs))) is)

-- ---- The shared chains

module _ (a b c d e : List Rule) where
  abbrev texts : Family → List ChainText
  texts f =
      text_of (services f, a) ∷ text_of (node_ports f, b) ∷ text_of (firewall f, c)
      ∷ text_of (external f, d) ∷ text_of (refusals f, e) ∷ []

  one : (p : Family → ChainAt) (rules : List Rule)
      → once (p V4) (texts V4) ≡ true → chain_rules (p V4) (texts V4) ≡ rules
      → once (p V6) (texts V6) ≡ true → chain_rules (p V6) (texts V6) ≡ rules
      → (f : Family) → chain_rules (p f) (filter has_rules (texts f)) ≡ rules
  one p rules four is six has V4 = kept (p V4) (texts V4) four ∙ is
  one p rules four is six has V6 = kept (p V6) (texts V6) six ∙ has

  five : (f : Family) → blocks_in f (filter has_rules (texts f))
      ≡ record { services = a; node_ports = b; firewall = c; external = d; refusals = e }
  five f = λ i. record {
    services = one services a refl refl refl refl f i;
    node_ports = one node_ports b refl refl refl refl f i;
    firewall = one firewall c refl refl refl refl f i;
    external = one external d refl refl refl refl f i;
    refusals = one refusals e refl refl refl refl f i;
  }

-- so a port's block has the rules of each
pub kept_blocks : (s : Setting) (o : Option PortInfo)
    → blocks_in s.family (block_found (option_map (port_block s) o)) ≡ blocks_if s o
kept_blocks s None = refl
kept_blocks s (Some i) =
    five (layout.service_block s i) (layout.node_port_block s i)
    (layout.firewall_block i) (layout.external_block s.family i) (layout.refusal_block i) s.family
