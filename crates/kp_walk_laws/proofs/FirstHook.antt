-- What the first hook does: it translates as the first door says that takes the packet.
use Rattle.std.proofs.Common.{◌≡◌, ℕ, true, not, List, [], ◌∷◌, ◌++◌, Contains, Option, Some, None, is_some, option_map, option_and_then, flat_map, codes, refl, ap, ◌∙◌}
use Rattle.std.proofs.lemmas.Bool.{and_parts}
use Rattle.kp_types.specs.Setting.{Setting}
use Rattle.kp_types.specs.Rules.{rule_of}
use Rattle.kp_types.specs.declared.chain.TableName.TheVariants.{Nat}
use Rattle.kp_types.specs.declared.chain.ChainAt.{ChainAt}
use Rattle.kp_types.specs.declared.packet.Origin.{Origin}
use Rattle.kp_types.specs.declared.packet.Origin.TheVariants.{Wire, Node}
use Rattle.kp_types.specs.declared.rule.Match.TheVariants as match
use Rattle.kp_types.specs.declared.rule.Rule.{Rule}
use Rattle.kp_types.specs.declared.rule.Target.TheVariants as target
use Rattle.kp_choice_defs.specs.Settings.{pick_by_draws}
use Rattle.kp_object_defs.specs.Desired.{is_empty}
use Rattle.kp_object_defs.specs.PortInfo.{PortInfo}
use Rattle.kp_door_defs.specs.Decision.{Translation, translation_at, translation_of}
use Rattle.kp_door_defs.specs.Doors.{Door, doors_of, fits, offer_of, takes, taking_door}
use Rattle.kp_table_defs.specs.Layout.{jump_to, mark_masq, kube_services, kube_node_ports, kube_postrouting, service_block, node_port_block, own_addresses}
use Rattle.kp_table_defs.specs.Matching.{WalkState, Surroundings}
use Rattle.kp_table_defs.specs.Walk.{Outcome, found_outcome, returned_from, chain_outcome, first_hook, most_chains}
use Rattle.kp_table_defs.specs.Walk.Outcome.{Next, Stuck}
use Rattle.kp_object_laws.proofs.PortByKey.{found_passes}
use Rattle.kp_walk_laws.specs.Laws.{IsKnown}
use Rattle.kp_walk_laws.proofs.Matches.{packet_of}
use Rattle.kp_walk_laws.proofs.Outcomes.{or_next, and_then_next, pathless, pathless_returned}
use Rattle.kp_walk_laws.proofs.Translations.{translates}
use Rattle.kp_walk_laws.proofs.Arrivals.{arriving, arrives}
use Rattle.kp_walk_laws.proofs.DoorRules.{LeadsTo}
use Rattle.kp_walk_laws.proofs.Services.{services_send}

-- a look-up finds the shared chains of nat
pub record FindsNat (setting : Setting) (infos : List PortInfo)
    (at : ChainAt → Option (List Rule)) : Type 0 where
  pub prerouting : at (record { table = Nat; chain = codes "PREROUTING" })
      ≡ Some (jump_to kube_services ∷ [])
  pub output : at (record { table = Nat; chain = codes "OUTPUT" })
      ≡ Some (jump_to kube_services ∷ [])
  pub postrouting : at (record { table = Nat; chain = codes "POSTROUTING" })
      ≡ Some (jump_to kube_postrouting ∷ [])
  pub mark : at (record { table = Nat; chain = mark_masq }) ≡ Some (rule_of [] target.SetMark ∷ [])
  pub masquerade : at (record { table = Nat; chain = kube_postrouting })
      ≡ Some (rule_of (match.Marked true ∷ []) target.Return ∷ rule_of [] target.FlipMark
      ∷ rule_of [] target.Masquerade ∷ [])
  pub node_ports : at (record { table = Nat; chain = kube_node_ports })
      ≡ Some (flat_map (node_port_block setting) infos)
  pub services : at (record { table = Nat; chain = kube_services })
      ≡ Some (flat_map (service_block setting) infos ++ rule_of (own_addresses setting.family)
      (target.Jump kube_node_ports) ∷ [])

module _ (setting : Setting) (by_draws : setting.pick ≡ pick_by_draws) (infos : List PortInfo)
    (e : Surroundings) (own : e.node_addresses ≡ setting.config.addresses)
    (at : ChainAt → Option (List Rule)) (finds : FindsNat setting infos at) (s : WalkState) where
  same_translation : (t : Option Translation) → is_some t ≡ true
      → pathless (arriving Stuck setting e s t) ≡ pathless (arriving (Next s) setting e s t)
  same_translation None h = absurd (cc)
  same_translation (Some t) h = refl

  -- the door that takes the packet translates it
  by_door : (d : Option Door) → taking_door setting.config infos (packet_of e s) ≡ d
      → or_next (option_map (λ c. pathless (arrives setting e s c)) d) s
      ≡ pathless (arriving (Next s) setting e s
      (option_and_then (translation_at setting (packet_of e s) e.draws s.lists) d))
  by_door None h = refl
  by_door (Some d) h =
      same_translation _ (translates setting by_draws (packet_of e s) e.draws s.lists d
      (and_parts (fits setting.config.addresses (packet_of e s) d)
      (not (is_empty (offer_of setting.config (packet_of e s) d).endpoints))
      (found_passes (takes setting.config (packet_of e s)) (doors_of infos) d h)).1)

  -- the rules of the first hook, wherever the packet comes from
  first_rules : (from : Origin) → at (record { table = Nat; chain = first_hook from })
      ≡ Some (jump_to kube_services ∷ [])
  first_rules Wire = finds.prerouting
  first_rules Node = finds.output

  -- chains change nothing but the way to a translation
  through_chain : (chain : List ℕ) (t : Option Translation)
      → pathless (returned_from chain (pathless (arriving (Next s) setting e s t)))
      ≡ pathless (arriving (Next s) setting e s t)
  through_chain chain None = refl
  through_chain chain (Some t) = refl

  -- rules that translate, as a chain
  chain_translates : (chain : List ℕ) (o : Outcome) (t : Option Translation)
      → pathless o ≡ pathless (arriving (Next s) setting e s t)
      → pathless (returned_from chain o) ≡ pathless (arriving (Next s) setting e s t)
  chain_translates chain o t h =
      pathless_returned chain o ∙ ap (λ p. pathless (returned_from chain p)) h
      ∙ through_chain chain t

  -- the first hook translates as the objects say
  pub first_outcome : ((i : PortInfo) → Contains infos i
      → IsKnown setting.family i × LeadsTo setting e at s i) → (from : Origin)
      → pathless (chain_outcome e at Nat most_chains (first_hook from) s)
      ≡ pathless (arriving (Next s) setting e s (translation_of setting infos
      (packet_of e s) e.draws s.lists))
  first_outcome ports from =
      let t : Option Translation = translation_of setting infos (packet_of e s) e.draws s.lists in
      ap (λ o. pathless (found_outcome e (chain_outcome e at Nat 7) (first_hook from) o s))
      (first_rules from)
      ∙ chain_translates _ _ t (ap pathless (and_then_next _
      ∙ ap (λ o. found_outcome e (chain_outcome e at Nat 6) kube_services o s) finds.services)
      ∙ chain_translates _ _ t
      ((services_send setting e own at s infos ports 0 finds.node_ports).same ∙ by_door _ refl))
