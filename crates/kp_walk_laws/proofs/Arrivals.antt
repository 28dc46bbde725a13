-- How a packet arrives at an endpoint that a door chooses: on the way through the chains of the
-- door's port, and in which state.
use Rattle.std.proofs.Common.{◌≡◌, ℕ, Bool, true, false, List, [], ◌∷◌, ◌++◌, ◌||◌, map, length, Contains, Option, Some, None, option_map, refl, sym, ap, subst}
use Rattle.kp_base.specs.Net.{RangeParts, same_address}
use Rattle.kp_base.specs.declared.key.Endpoint.{Endpoint}
use Rattle.kp_types.specs.Setting.{FamilyConfig, Setting}
use Rattle.kp_types.specs.declared.chain.TableName.TheVariants.{Nat}
use Rattle.kp_types.specs.declared.chain.ChainAt.{ChainAt}
use Rattle.kp_types.specs.declared.chain.PortChain.{PortChain}
use Rattle.kp_types.specs.declared.chain.PortChain.TheVariants.{Svc, Svl, Ext, Fw}
use Rattle.kp_types.specs.declared.decision.ChosenBy.{ChosenBy}
use Rattle.kp_types.specs.declared.decision.ChosenBy.TheVariants.{Affinity, Draws}
use Rattle.kp_types.specs.declared.decision.DoorKind.{DoorKind}
use Rattle.kp_types.specs.declared.decision.DoorKind.TheVariants as door
use Rattle.kp_types.specs.declared.decision.ListKind.{ListKind}
use Rattle.kp_types.specs.declared.decision.ListKind.TheVariants as list_kind
use Rattle.kp_types.specs.declared.rule.Rule.{Rule}
use Rattle.kp_types.specs.declared.walk.Ending.{Ending}
use Rattle.kp_types.specs.declared.walk.Ending.TheVariants as ending
use Rattle.kp_object_defs.specs.PortInfo.{PortInfo}
use Rattle.kp_door_defs.specs.Choice.{Chosen, chosen_endpoint}
use Rattle.kp_door_defs.specs.Decision.{Translation, translation_at}
use Rattle.kp_door_defs.specs.Doors.{Door, Offer, offer_of}
use Rattle.kp_door_defs.specs.Marks.{is_marked, marked_at}
use Rattle.kp_table_defs.specs.Keys.{all_endpoints, needs}
use Rattle.kp_table_defs.specs.Layout.{balancer_chain, chain_of_policy, endpoint_chain, endpoint_rules, port_chain, rules_of_kind}
use Rattle.kp_table_defs.specs.Matching.{WalkState, Surroundings}
use Rattle.kp_table_defs.specs.Walk.{Outcome, returned_from}
use Rattle.kp_table_defs.specs.Walk.Outcome.{Ended, Stuck}
use Rattle.kp_walk_laws.proofs.ChoiceRules.{used_after}
use Rattle.kp_walk_laws.proofs.EndpointChains.{marked_if}
use Rattle.kp_walk_laws.proofs.Matches.{packet_of}
use Rattle.kp_walk_laws.proofs.Outcomes.{IsLast, ended_last, stuck_last}

-- ---- The chains of a port

-- the chain of a port that the shared chains jump to, for a kind of door
abbrev pub entry_chain : DoorKind → PortInfo → PortChain
entry_chain door.Cluster i = chain_of_policy i.internal
entry_chain door.External i = Ext
entry_chain door.Balancer i = balancer_chain i.ranges
entry_chain door.Node i = Ext

-- a door that is reached from outside
abbrev pub is_outer : DoorKind → Bool
is_outer door.Cluster = false
is_outer door.External = true
is_outer door.Balancer = true
is_outer door.Node = true

-- a look-up finds the chains that a port needs, each with its rules
pub record FindsChains (setting : Setting) (at : ChainAt → Option (List Rule)) (i : PortInfo) :
    Type 0 where
  pub port : (kind : PortChain) → needs kind i ≡ true
      → at (record { table = Nat; chain = port_chain setting i kind })
      ≡ Some (rules_of_kind setting i kind)
  pub endpoint : (f : Endpoint) → Contains (all_endpoints i) f
      → at (record { table = Nat; chain = endpoint_chain setting i f })
      ≡ Some (endpoint_rules setting i f)

-- ---- The way to an endpoint

-- how many draws were used once an endpoint was chosen of so many
abbrev pub used_by : (ℕ → ℕ) → ℕ → ℕ → ChosenBy → ℕ
used_by draws used n Affinity = used
used_by draws used n Draws = used_after draws used n

-- the state of a packet that goes to a chosen endpoint of so many, and is marked on its way or not
abbrev pub sent_state : Surroundings → Bool → ℕ → WalkState → Chosen → WalkState
sent_state e marked n s c =
    marked_if marked (record s { used = used_by e.draws s.used n c.by; lists = c.lists })

-- the state in which a packet arrives that was translated
abbrev pub arrived_state : FamilyConfig → Surroundings → WalkState → Translation → WalkState
arrived_state config e s t =
    sent_state e (is_marked config t.door.kind t.door.info s.source t.chosen.endpoint)
    (length t.offer.endpoints) s t.chosen

-- the kind of chain that an offered list has
abbrev pub chain_of_list : ListKind → PortChain
chain_of_list list_kind.Cluster = Svc
chain_of_list list_kind.Local = Svl

-- the port's chains on the way to that of the list, at a kind of door
abbrev pub chains_before : DoorKind → Option (List RangeParts) → List PortChain
chains_before door.Cluster ranges = []
chains_before door.External ranges = Ext ∷ []
chains_before door.Balancer None = Ext ∷ []
chains_before door.Balancer (Some ranges) = Fw ∷ Ext ∷ []
chains_before door.Node ranges = Ext ∷ []

-- the port's chains on the way of a translation
abbrev pub way_of : Setting → Translation → List (List ℕ)
way_of setting t =
    map (port_chain setting t.door.info) (chains_before t.door.kind t.door.info.ranges)
    ++ port_chain setting t.door.info (chain_of_list t.offer.kind)
    ∷ endpoint_chain setting t.door.info t.chosen.endpoint ∷ []

-- the end by a translation, and what comes where there is none
abbrev pub arriving : Outcome → Setting → Surroundings → WalkState → Option Translation → Outcome
arriving otherwise setting e s None = otherwise
arriving otherwise setting e s (Some t) =
    Ended (ending.Dnat t.chosen.endpoint) (way_of setting t) (arrived_state setting.config e s t)

module _ (setting : Setting) (e : Surroundings) (s : WalkState) where
  -- what a port's own chains do with a packet that a door takes
  abbrev pub arrives : Door → Outcome
  arrives d = arriving Stuck setting e s (translation_at setting (packet_of e s) e.draws s.lists d)

-- ---- The chains on the way

-- the end of the chain of a list by an endpoint that was chosen of so many
abbrev pub chosen_outcome : Setting → PortInfo → Surroundings → Bool → ℕ → WalkState → Option Chosen
    → Outcome
chosen_outcome setting i e marked n s None = Stuck
chosen_outcome setting i e marked n s (Some c) =
    Ended (ending.Dnat c.endpoint) (endpoint_chain setting i c.endpoint ∷ [])
    (sent_state e (same_address c.endpoint.address s.source || marked) n s c)

-- what the chain of an offered list does
abbrev pub offer_outcome : Setting → PortInfo → Surroundings → Bool → WalkState → Offer → Outcome
offer_outcome setting i e marked s o =
    returned_from (port_chain setting i (chain_of_list o.kind))
    (chosen_outcome setting i e marked (length o.endpoints) s
    (chosen_endpoint setting i.key i.affinity s.source e.now e.draws o.endpoints s.lists))

-- an outcome behind jumps to chains of a port
abbrev pub through_chains : Setting → PortInfo → List PortChain → Outcome → Outcome
through_chains setting i [] o = o
through_chains setting i (kind ∷ kinds) o =
    returned_from (port_chain setting i kind) (through_chains setting i kinds o)

through_stuck : (setting : Setting) (i : PortInfo) (kinds : List PortChain)
    → through_chains setting i kinds Stuck ≡ Stuck
through_stuck setting i [] = refl
through_stuck setting i (kind ∷ kinds) =
    ap (returned_from (port_chain setting i kind)) (through_stuck setting i kinds)

through_ended : (setting : Setting) (i : PortInfo) (kinds : List PortChain) (end : Ending)
    (path : List (List ℕ)) (s : WalkState) → through_chains setting i kinds (Ended end path s)
    ≡ Ended end (map (port_chain setting i) kinds ++ path) s
through_ended setting i [] end path s = refl
through_ended setting i (kind ∷ kinds) end path s =
    ap (returned_from (port_chain setting i kind)) (through_ended setting i kinds end path s)

module _ (setting : Setting) (i : PortInfo) (e : Surroundings) (marked : Bool) (s : WalkState)
    (kinds : List PortChain) where
  chosen_last : (list : List ℕ) (n : ℕ) (c : Option Chosen)
      → IsLast (through_chains setting i kinds
      (returned_from list (chosen_outcome setting i e marked n s c)))
  chosen_last list n None = subst IsLast (sym (through_stuck setting i kinds)) stuck_last
  chosen_last list n (Some c) =
      subst IsLast (sym (through_ended setting i kinds _ _ _)) (ended_last _ _ _)

  -- nothing is tried behind the chain of an offered list
  pub offer_last : (o : Offer)
      → IsLast (through_chains setting i kinds (offer_outcome setting i e marked s o))
  offer_last o = chosen_last _ _ _

module _ (setting : Setting) (e : Surroundings) (s : WalkState) (d : Door) where
  arrives_chosen : (o : Offer) (c : Option Chosen)
      → through_chains setting d.info (chains_before d.kind d.info.ranges)
      (returned_from (port_chain setting d.info (chain_of_list o.kind))
      (chosen_outcome setting d.info e (marked_at setting.config d.kind d.info s.source)
      (length o.endpoints) s c))
      ≡ arriving Stuck setting e s
      (option_map (λ c. record { door = d; offer = o; chosen = c }) c)
  arrives_chosen o None = through_stuck setting d.info (chains_before d.kind d.info.ranges)
  arrives_chosen o (Some c) =
      through_ended setting d.info (chains_before d.kind d.info.ranges) _
      (port_chain setting d.info (chain_of_list o.kind)
      ∷ endpoint_chain setting d.info c.endpoint ∷ [])
      (sent_state e (is_marked setting.config d.kind d.info s.source c.endpoint)
      (length o.endpoints) s c)

  -- through its list's chain, and those before it, a packet arrives as its door says
  pub arrives_at : through_chains setting d.info (chains_before d.kind d.info.ranges)
      (offer_outcome setting d.info e (marked_at setting.config d.kind d.info s.source) s
      (offer_of setting.config (packet_of e s) d)) ≡ arrives setting e s d
  arrives_at = arrives_chosen _ _
