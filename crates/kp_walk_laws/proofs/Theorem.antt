-- Walking the full table decides each packet as the objects do.
use Rattle.std.proofs.Common.{◌≡◌, ◌==◌, ◌&&◌, Bool, true, false, List, [], Contains, Option, None, Some, ℕ, refl, sym, ap, subst, ◌∙◌}
use Rattle.std.specs.FinMap.{get, get-empty}
use Rattle.std.proofs.lemmas.Bool.{and_parts}
use Rattle.kp_base.specs.Net.{AddressParts, same_address}
use Rattle.kp_base.specs.declared.address.Family.{Family}
use Rattle.kp_types.specs.Packets.{family_of_packet}
use Rattle.kp_types.specs.Places.{chain_cmp, place_in}
use Rattle.kp_types.specs.Ports.{same_proto}
use Rattle.kp_types.specs.Setting.{Setting, Settings, config_of_family, has_tables_of, view_of}
use Rattle.kp_types.specs.declared.chain.ChainAt.{ChainAt}
use Rattle.kp_types.specs.declared.chain.TableName.{TableName}
use Rattle.kp_types.specs.declared.packet.Origin.{Origin}
use Rattle.kp_types.specs.declared.packet.Origin.TheVariants.{Wire, Node}
use Rattle.kp_types.specs.declared.packet.Packet.{Packet}
use Rattle.kp_types.specs.declared.rule.Rule.{Rule}
use Rattle.kp_types.specs.declared.verdict.Verdict.{Verdict}
use Rattle.kp_types.specs.declared.verdict.Verdict.TheVariants.{LeftAlone}
use Rattle.kp_choice_defs.specs.Names.{first_clash}
use Rattle.kp_choice_defs.specs.Recent.{RecentParts}
use Rattle.kp_choice_defs.specs.Settings.{pick_by_draws, settings_of}
use Rattle.kp_object_defs.specs.PortInfo.{PortInfo, infos_by_family}
use Rattle.kp_door_defs.specs.Decision.{decision_from, decision_if, left_alone}
use Rattle.kp_table_defs.specs.Matching.{WalkState, Surroundings}
use Rattle.kp_table_defs.specs.Rebuild.{full_chains, needed_keys}
use Rattle.kp_table_defs.specs.Walk.{Journey, Stage, Walked, filter_hooks, initial_state, input_if, journey_of, onward, postrouting_if, surroundings_of, through, through_unless, walked_by}
use Rattle.kp_table_laws.specs.Families.{chains_of_families}
use Rattle.kp_table_laws.specs.Laws.{HaveOwnKeys}
use Rattle.kp_table_laws.proofs.Families.{family_stands_alone, none_beside, table_is_own}
use Rattle.kp_table_laws.proofs.FamilyClash.{no_clash_in_families}
use Rattle.kp_walk_laws.specs.Laws.{Agree, IsDecided, IsKnown, IsPrefixed, ProductDecides, WalkDecides, WalkDecidesAmong, WalkDecidesObjects}
use Rattle.kp_walk_laws.proofs.Arrivals.{FindsChains}
use Rattle.kp_walk_laws.proofs.Decides.{walk_agrees}
use Rattle.kp_walk_laws.proofs.KnownPorts.{known_ports_by, port_keys_once_by}
use Rattle.kp_walk_laws.proofs.ListChains.{is_for_address}
use Rattle.kp_walk_laws.proofs.Lookups.{look_up, finds_nat, finds_filter}
use Rattle.kp_walk_laws.proofs.Matches.{packet_of}
use Rattle.kp_walk_laws.proofs.OwnChains.{cluster_outcome, outer_outcome}
use Rattle.kp_walk_laws.proofs.PortLookups.{finds_chains}
use Rattle.kp_walk_laws.proofs.Ranked.{hashed_prefixed_by}
use Rattle.kp_walk_laws.proofs.DoorRules.{LeadsTo}

-- a packet for a cluster address is of the port's protocol
proto_of : (i : PortInfo) (p : Packet) → is_for_address i p ≡ true
    → same_proto i.key.proto p.proto ≡ true
proto_of i p here =
    (and_parts (same_proto i.key.proto p.proto) (i.number == p.port)
    (and_parts (same_address i.address p.target)
    (same_proto i.key.proto p.proto && (i.number == p.port)) here).1).0

module _ (setting : Setting) (infos : List PortInfo) (packet : Packet) (draws : ℕ → ℕ)
    (lists : RecentParts) (by_draws : setting.pick ≡ pick_by_draws)
    (prefixed : IsPrefixed setting.name_of) (own : HaveOwnKeys infos)
    (apart : first_clash setting.name_of (needed_keys infos) ≡ None) where
  -- the chains of a port, which a look-up finds, do what its doors do
  leads : (i : PortInfo) → Contains infos i → IsKnown setting.family i
      → LeadsTo setting (surroundings_of setting.config.addresses packet draws)
      (look_up setting infos) (initial_state packet lists) i
  leads i c known =
      let e : Surroundings = surroundings_of setting.config.addresses packet draws in
      let s : WalkState = initial_state packet lists in
      let mark = (finds_nat setting infos).mark in
      let finds : FindsChains setting (look_up setting infos) i =
      finds_chains setting infos prefixed own apart i c in record {
        inside = λ n some here. cluster_outcome setting by_draws e (look_up setting infos) mark i
            finds (proto_of i (packet_of e s) here) s refl some here n;
        outside = λ n kind outer a number needed proto passed. outer_outcome setting by_draws e
            (look_up setting infos) mark i finds proto s refl refl known.any passed kind outer a
            number needed n;
      }

pub walk_decides_by : WalkDecides
walk_decides_by setting infos packet draws lists of by_draws prefixed decided =
    let e : Surroundings = surroundings_of setting.config.addresses packet draws in
    subst (λ family. Agree
    (walked_by (journey_of e (λ q. get (full_chains setting infos) (place_in family q))
    (initial_state packet lists)))
    (decision_from setting infos packet draws lists)) (sym of)
    (walk_agrees setting infos packet draws lists (look_up setting infos) by_draws
    (finds_nat setting infos) (finds_filter setting infos) (λ i c. (
      decided.known i c,
      leads setting infos packet draws lists by_draws prefixed decided.own decided.apart i c
          (decided.known i c),
    )))

-- ---- Packets of a family that the node has no tables of

module _ (e : Surroundings) (at : ChainAt → Option (List Rule)) (j : Journey) (v : Verdict)
    (stopped : j.stopped ≡ Some v) where
  stays : (stage : Stage) (table : TableName) (chain : List ℕ)
      → through e at stage table chain j ≡ j
  stays stage table chain = ap (λ o. through_unless o e at stage table chain j) stopped

  stays_in : (b : Bool) → input_if b e at j ≡ j
  stays_in true = stays _ _ _
  stays_in false = refl

  stays_out : (b : Bool) → postrouting_if b e at j ≡ j
  stays_out true = stays _ _ _
  stays_out false = refl

  stays_filtered : (from : Origin) → filter_hooks from e at j ≡ j
  stays_filtered Wire = stays _ _ _
  stays_filtered Node = ap (input_if _ e at) (stays _ _ _) ∙ stays_in _

  -- what was stopped before goes no further
  stays_there : onward e at j ≡ j
  stays_there = ap (postrouting_if _ e at) (stays_filtered e.from) ∙ stays_out _

-- where no chain is found, the first hook leaves a packet alone
without_chains : (addresses : List AddressParts) (packet : Packet) (draws : ℕ → ℕ)
    (lists : RecentParts)
    → Agree
    (walked_by (journey_of (surroundings_of addresses packet draws) (λ q. None)
    (initial_state packet lists)))
    (left_alone lists)
without_chains addresses packet draws lists =
    let is = stays_there (surroundings_of addresses packet draws) (λ q. None)
    (record {
      state = initial_state packet lists;
      translated = None;
      masked = false;
      stopped = Some LeftAlone;
      trail = [];
    }) LeftAlone refl in
    record {
      verdict = ap (λ j. (walked_by j).verdict) is;
      lists = ap (λ j. (walked_by j).lists) is;
    }

-- ---- All families

module _ (settings : Settings) (infos : Family → List PortInfo) (packet : Packet)
    (draws : ℕ → ℕ) (lists : RecentParts) (by_draws : settings.pick ≡ pick_by_draws)
    (prefixed : IsPrefixed settings.name_of)
    (decided : (family : Family) → has_tables_of family settings ≡ true
    → IsDecided (view_of family settings) (infos family)) where
  abbrev family : Family
  family = family_of_packet packet

  -- the walk over what a look-up finds
  abbrev walked : (ChainAt → Option (List Rule)) → Walked
  walked at = walked_by (journey_of (surroundings_of settings.config.addresses packet draws) at
      (initial_state packet lists))

  decides_if : (b : Bool) → has_tables_of family settings ≡ b
      → Agree (walked (λ q. get (chains_of_families settings infos) (place_in family q)))
      (decision_if b (view_of family settings) (infos family) packet draws lists)
  decides_if true has =
      subst (λ at. Agree (walked at)
      (decision_from (view_of family settings) (infos family) packet draws lists))
      (λ i q. sym (family_stands_alone settings infos family has (place_in family q)
      (table_is_own family q.table)) i)
      (walk_decides_by (view_of family settings) (infos family) packet draws lists refl by_draws
      prefixed (decided family has))
  decides_if false lacks =
      subst (λ at. Agree (walked at) (left_alone lists))
      (λ i q. sym (none_beside settings infos family lacks (place_in family q)
      (table_is_own family q.table) ∙ get-empty chain_cmp (place_in family q)) i)
      (without_chains settings.config.addresses packet draws lists)

pub walk_decides_among_by : WalkDecidesAmong
walk_decides_among_by settings infos packet draws lists by_draws prefixed decided =
    decides_if settings infos packet draws lists by_draws prefixed decided _ refl

pub walk_decides_objects_by : WalkDecidesObjects
walk_decides_objects_by settings o packet draws lists by_draws prefixed apart =
    let infos : Family → List PortInfo = infos_by_family settings o in
    walk_decides_among_by settings infos packet draws lists by_draws prefixed
    (λ family has. record {
      own = port_keys_once_by family (config_of_family family settings.config) o;
      known = known_ports_by family (config_of_family family settings.config) o;
      apart = (no_clash_in_families settings infos).0 apart family has;
    })

pub product_decides_by : ProductDecides
product_decides_by config o packet draws lists apart =
    walk_decides_objects_by (settings_of config) o packet draws lists refl
    (hashed_prefixed_by config.name_length) apart
