-- Where no changed port's rules in a fixed chain differ, both full tables have the same chain there.
use Rattle.std.proofs.Common.{◌≡◌, ◌||◌, Bool, true, false, cond, List, [], ◌∷◌, ◌++◌, map}
use Rattle.std.proofs.Common.{Contains, Option, Some, None, append-nil, refl, sym, ap, ◌∙◌}
use Rattle.std.specs.List.{AllByRecursion}
use Rattle.std.specs.Ordering.{eq_by_cmp}
use Rattle.std.specs.Cmp.{eq_by_cmp_equiv}
use Rattle.kp_lemmas.proofs.Orders.{one_from_tie}
use Rattle.kp_base.specs.declared.address.Family.{Family}
use Rattle.kp_base.specs.declared.address.Family.TheVariants.{V4, V6}
use Rattle.kp_types.specs.Places.{chain_cmp}
use Rattle.kp_types.specs.Setting.{Setting}
use Rattle.kp_types.specs.contracts.chain.ChainAtPartialEq.TheImpl as same
use Rattle.kp_types.specs.declared.chain.ChainAt.{ChainAt}
use Rattle.kp_types.specs.declared.rule.ChainText.{ChainText}
use Rattle.kp_types.specs.declared.rule.Rule.{Rule}
use Rattle.kp_types.proofs.ChainOrder.{chain_total, chain_exact, chain_ties}
use Rattle.kp_object_defs.specs.PortInfo.{PortInfo}
use Rattle.kp_table_defs.specs.Layout as layout
use Rattle.kp_chains.specs.declared.blocks.Blocks.{Blocks}
use Rattle.kp_blocks.specs.Joined.{block_rules, port_block, port_texts, text_of}
use Rattle.kp_blocks.proofs.JoinedChains.{with_rules_alone}
use Rattle.kp_writer.specs.Shared.{Change, blocks_if, differ, external, firewall, node_ports}
use Rattle.kp_writer.specs.Shared.{refusals, services, touch_by, touched_by, untouched}
use Rattle.kp_writer.specs.declared.shared.Touched.{Touched}
use Rattle.kp_writer.proofs.Families.{in_each}
use Rattle.kp_writer.proofs.SharedPlaces.{shared_flags, untouched_by}
use Rattle.kp_writer.proofs.SharedRules.{rules_if}

module _ (s : Setting) where
  -- the rules of a port at a place
  abbrev pub rules_in : ChainAt → PortInfo → List Rule
  rules_in q i = block_rules q (port_block s i)

  -- a port's rules in each shared chain of a family
  abbrev texts : Family → PortInfo → List ChainText
  texts family i =
      map text_of ((services family, layout.service_block s i)
      ∷ (node_ports family, layout.node_port_block s i)
      ∷ (firewall family, layout.firewall_block i)
      ∷ (external family, layout.external_block s.family i)
      ∷ (refusals family, layout.refusal_block i) ∷ [])

  -- a shared chain's rules are a field of the port's blocks
  in_field : (at : Family → ChainAt) (field : Blocks → List Rule)
      → ((i : PortInfo)
      → block_rules (at V4) (texts V4 i) ≡ field (blocks_if s (Some i)) ++ [])
      → ((i : PortInfo)
      → block_rules (at V6) (texts V6 i) ≡ field (blocks_if s (Some i)) ++ [])
      → field (blocks_if s None) ≡ []
      → (o : Option PortInfo) → rules_if (rules_in (at s.family)) o ≡ field (blocks_if s o)
  in_field at field four six none None = sym none
  in_field at field four six none (Some i) =
      with_rules_alone (at s.family) (port_texts s i)
      ∙ in_each (λ f. block_rules (at f) (texts f i) ≡ field (blocks_if s (Some i)) ++ []) (four i)
      (six i) s.family
      ∙ append-nil (field (blocks_if s (Some i)))

  module _ (changes : List Change) (c : Change) (within : Contains changes c) (q : ChainAt) where
    -- the rules of a port are the same before and after
    abbrev Same : Type 0
    Same = rules_if (rules_in q) c.0 ≡ rules_if (rules_in q) c.1

    same_at : (at : ChainAt) (flag : Touched → Bool) (field : Blocks → List Rule)
        → ((o : Option PortInfo) → rules_if (rules_in at) o ≡ field (blocks_if s o))
        → (flag (touched_by s changes) ≡ false → field (blocks_if s c.0) ≡ field (blocks_if s c.1))
        → flag (touched_by s changes) ≡ false → q ≡ at → Same
    same_at at flag field is told off same =
        ap (λ p. rules_if (rules_in p) c.0) same
        ∙ is c.0 ∙ told off ∙ sym (is c.1)
        ∙ ap (λ p. rules_if (rules_in p) c.1) (sym same)

    -- whether the place is another one
    abbrev Other : ChainAt → Type 0
    Other at = eq_by_cmp chain_cmp q at ≡ false

    decide : (at : ChainAt) (b : Bool) → eq_by_cmp chain_cmp q at ≡ b → (q ≡ at → Same)
        → (Other at → Same) → Same
    decide at true tie here there = here (one_from_tie chain_exact q at tie)
    decide at false tie here there = there tie

    apart_from : (at : ChainAt) → Other at → same.ghosts.eq at q ≡ false
    apart_from at other = chain_ties at q ∙ (eq_by_cmp_equiv chain_total).symm at q ∙ other

    nothing : Other (services s.family) → Other (node_ports s.family)
        → Other (firewall s.family) → Other (external s.family) → Other (refusals s.family)
        → (o : Option PortInfo) → rules_if (rules_in q) o ≡ []
    nothing a b d e f None = refl
    nothing a b d e f (Some i) =
        with_rules_alone q (port_texts s i)
        ∙ (λ n. cond (apart_from (services s.family) a n) (layout.service_block s i) []
        ++ (cond (apart_from (node_ports s.family) b n) (layout.node_port_block s i) []
        ++ (cond (apart_from (firewall s.family) d n) (layout.firewall_block i) []
        ++ (cond (apart_from (external s.family) e n) (layout.external_block s.family i) []
        ++ (cond (apart_from (refusals s.family) f n) (layout.refusal_block i) [] ++ [])))))

    -- at a shared chain that isn't touched they are, and elsewhere by the rest
    one_chain : (at : Family → ChainAt) (flag : Touched → Bool) (field : Blocks → List Rule)
        → ((o : Option PortInfo) → rules_if (rules_in (at s.family)) o ≡ field (blocks_if s o))
        → ((t : Touched) (d : Change) → flag (touch_by s t d)
        ≡ (flag t || differ (field (blocks_if s d.0)) (field (blocks_if s d.1))))
        → (q ≡ at s.family → flag (touched_by s changes) ≡ false)
        → (Other (at s.family) → Same) → Same
    one_chain at flag field is tells off rest =
        decide (at s.family) (eq_by_cmp chain_cmp q (at s.family)) refl
        (λ here. same_at (at s.family) flag field is
        (λ f. (untouched_by s flag field tells untouched changes f).1 c within) (off here) here)
        rest

    -- where the shared chains at the place aren't touched, they are
    pub same_in :
        AllByRecursion (λ d. q ≡ d.0 → d.1 ≡ false) (shared_flags s.family (touched_by s changes))
        → Same
    same_in off =
        one_chain services (λ t. t.services) (λ b. b.services)
        (in_field services (λ b. b.services) (λ i. refl) (λ i. refl) refl) (λ t d. refl)
        off.1.1.1.1.0
        (λ a. one_chain node_ports (λ t. t.node_ports) (λ b. b.node_ports)
        (in_field node_ports (λ b. b.node_ports) (λ i. refl) (λ i. refl) refl) (λ t d. refl)
        off.1.1.1.0
        (λ b. one_chain firewall (λ t. t.firewall) (λ b. b.firewall)
        (in_field firewall (λ b. b.firewall) (λ i. refl) (λ i. refl) refl) (λ t d. refl)
        off.1.1.0
        (λ d. one_chain external (λ t. t.external) (λ b. b.external)
        (in_field external (λ b. b.external) (λ i. refl) (λ i. refl) refl) (λ t d. refl)
        off.1.0
        (λ e. one_chain refusals (λ t. t.refusals) (λ b. b.refusals)
        (in_field refusals (λ b. b.refusals) (λ i. refl) (λ i. refl) refl) (λ t d. refl)
        off.0
        (λ f. nothing a b d e f c.0 ∙ sym (nothing a b d e f c.1))))))
