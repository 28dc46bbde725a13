-- What a jump to one of a port's own chains does: the packet arrives at an endpoint as its door
-- says, or the chain comes back and has changed nothing.
use Rattle.std.proofs.Common.{◌≡◌, ℕ, suc, Bool, true, false, not, cond, ◌&&◌, ◌||◌, List, [], ◌∷◌, Option, Some, None, refl, sym, ap, ◌∙◌}
use Rattle.std.specs.List.{list_any}
use Rattle.kp_base.specs.Net.{AddressParts, RangeParts, range_contains}
use Rattle.kp_types.specs.Setting.{Setting}
use Rattle.kp_types.specs.Rules.{rule_of}
use Rattle.kp_types.specs.Ports.{same_proto}
use Rattle.kp_types.specs.declared.chain.TableName.TheVariants.{Nat}
use Rattle.kp_types.specs.declared.chain.ChainAt.{ChainAt}
use Rattle.kp_types.specs.declared.chain.PortChain.TheVariants.{Ext, Fw}
use Rattle.kp_types.specs.declared.decision.DoorKind.{DoorKind}
use Rattle.kp_types.specs.declared.decision.DoorKind.TheVariants as door
use Rattle.kp_types.specs.declared.rule.Match.TheVariants as match
use Rattle.kp_types.specs.declared.rule.Rule.{Rule}
use Rattle.kp_types.specs.declared.rule.Target.TheVariants as target
use Rattle.kp_types.specs.declared.service.Policy.{Policy}
use Rattle.kp_types.specs.declared.service.Policy.TheVariants.{Cluster, Local}
use Rattle.kp_choice_defs.specs.Settings.{pick_by_draws}
use Rattle.kp_object_defs.specs.Desired.{is_empty}
use Rattle.kp_object_defs.specs.Lists.{is_local_policy, list_by_policy}
use Rattle.kp_object_defs.specs.PortInfo.{PortInfo, internal_list}
use Rattle.kp_door_defs.specs.Doors.{Offer, door_at, is_admitted, offer_by_policy, offer_if, offer_of, outer_offer}
use Rattle.kp_door_defs.specs.Marks.{marked_inside, marked_outside}
use Rattle.kp_table_defs.specs.Keys.{needs}
use Rattle.kp_table_defs.specs.Layout.{mark_masq, balancer_chain, chain_of_policy, firewall_chain_rules, firewall_rules, port_chain}
use Rattle.kp_table_defs.specs.Matching.{WalkState, Surroundings}
use Rattle.kp_table_defs.specs.Walk.{Outcome, and_then, found_outcome, returned_from, target_if, rules_outcome, chain_outcome}
use Rattle.kp_table_defs.specs.Walk.Outcome.{Next}
use Rattle.kp_walk_laws.specs.Laws.{OffersAny}
use Rattle.kp_walk_laws.proofs.Outcomes.{IsLast}
use Rattle.kp_walk_laws.proofs.Matches.{packet_of, rule_if, tried_alone}
use Rattle.kp_walk_laws.proofs.ListChains.{is_for_address, marks_packet}
use Rattle.kp_walk_laws.proofs.Arrivals.{FindsChains, arrives, arrives_at, chains_before, entry_chain, is_outer, offer_last, offer_outcome, through_chains}
use Rattle.kp_walk_laws.proofs.NeededChains.{needs_external, needs_list}
use Rattle.kp_walk_laws.proofs.ExternalChains.{external_outcome, marks_inside, policy_outcome}

-- a chain that ends or comes back, behind a jump to it
returned_if : (chain : List ℕ) (b : Bool) (o : Outcome) (s : WalkState)
    → returned_from chain (cond b o (Next s)) ≡ cond b (returned_from chain o) (Next s)
returned_if chain true o s = refl
returned_if chain false o s = refl

module _ (setting : Setting) (e : Surroundings) (i : PortInfo) (jump : List ℕ → WalkState → Outcome)
    (s : WalkState) (some : Bool) (o : Outcome) (last : IsLast o)
    (jumps : jump (port_chain setting i Ext) s ≡ cond some o (Next s)) where
  admit_before : (admitted here : Bool) (rest : WalkState → Outcome)
      → rest s ≡ cond (admitted && some) o (Next s)
      → and_then (target_if here jump (target.Jump (port_chain setting i Ext)) s) rest
      ≡ cond ((here || admitted) && some) o (Next s)
  admit_before admitted false rest behind = behind
  admit_before admitted true rest behind =
      ap (λ p. and_then p rest) jumps ∙ by_offer some refl
    where
      by_offer : (b : Bool) → some ≡ b → and_then (cond some o (Next s)) rest
          ≡ cond some o (Next s)
      by_offer true h = ap (λ b. and_then (cond b o (Next s)) rest) h ∙ last.stays rest
          ∙ ap (λ b. cond b o (Next s)) (sym h)
      by_offer false h = ap (λ b. and_then (cond b o (Next s)) rest) h ∙ behind
          ∙ ap (λ b. cond (admitted && b) o (Next s)) h ∙ no_matter admitted
          ∙ ap (λ b. cond b o (Next s)) (sym h)
        where
          no_matter : (a : Bool) → cond (a && false) o (Next s) ≡ Next s
          no_matter true = refl
          no_matter false = refl

  -- a source that is in one of the ranges goes on to the chain of what comes in from outside
  pub ranges_outcome : (ranges : List RangeParts)
      → rules_outcome e jump (firewall_rules setting i ranges) s
      ≡ cond (list_any (λ r. range_contains r s.source) ranges && some) o (Next s)
  ranges_outcome [] = refl
  ranges_outcome (r ∷ ranges) =
      let rest : WalkState → Outcome = rules_outcome e jump (firewall_rules setting i ranges) in
      ap (λ p. and_then p rest)
      (rule_if e jump s (match.Src r false ∷ []) (target.Jump (port_chain setting i Ext))
      (range_contains r s.source) (tried_alone s (range_contains r s.source)))
      ∙ admit_before (list_any (λ r. range_contains r s.source) ranges)
      (range_contains r s.source) rest (ranges_outcome ranges)

module _ (setting : Setting) (by_draws : setting.pick ≡ pick_by_draws) (e : Surroundings)
    (at : ChainAt → Option (List Rule))
    (mark : at (record { table = Nat; chain = mark_masq }) ≡ Some (rule_of [] target.SetMark ∷ []))
    (i : PortInfo) (finds : FindsChains setting at i)
    (proto : same_proto i.key.proto e.proto ≡ true) (s : WalkState) (fresh : s.used ≡ 0) where
  inside_by : (p : Policy) → i.internal ≡ p → not (is_empty (list_by_policy p i.lists)) ≡ true
      → is_for_address i (packet_of e s) ≡ true → (n : ℕ)
      → chain_outcome e at Nat (suc (suc (suc n))) (port_chain setting i (chain_of_policy p)) s
      ≡ offer_outcome setting i e (marked_inside setting.config s.source) s (offer_by_policy i p)
  inside_by p h some here n =
      policy_outcome setting by_draws e at mark i finds proto p some n s fresh
      ∙ ap (λ b. offer_outcome setting i e (b && marks_packet setting.config.masquerade_all
      setting.config.cluster i (packet_of e s)) s (offer_by_policy i p)) (inside p h)
      ∙ ap (λ b. offer_outcome setting i e (b && marked_inside setting.config s.source) s
      (offer_by_policy i p)) here
    where
      inside : (p : Policy) → i.internal ≡ p → marks_inside p i ≡ true
      inside Cluster h = ap (λ q. not (is_local_policy q)) h
      inside Local h = ap is_local_policy h

  -- a packet to the cluster address arrives as the port's cluster door says
  pub cluster_outcome : not (is_empty (internal_list i)) ≡ true
      → is_for_address i (packet_of e s) ≡ true → (n : ℕ)
      → chain_outcome e at Nat (suc (suc (suc n)))
      (port_chain setting i (chain_of_policy i.internal)) s
      ≡ arrives setting e s (door_at door.Cluster i i.address)
  cluster_outcome some here n =
      inside_by i.internal refl some here n
      ∙ arrives_at setting e s (door_at door.Cluster i i.address)

  module _ (own : e.node_addresses ≡ setting.config.addresses) (any : OffersAny i)
      (passed : is_for_address i (packet_of e s) ≡ true → is_empty (internal_list i) ≡ true) where
    -- what the external policy offers to the packet's source
    abbrev outside : Offer
    outside = outer_offer setting.config i i.outer s.source

    -- and whether it is marked on its way there
    abbrev marked : Bool
    marked = marked_outside setting.config i.outer s.source

    external_chain : needs Ext i ≡ true → (n : ℕ)
        → chain_outcome e at Nat (suc (suc (suc (suc n)))) (port_chain setting i Ext) s
        ≡ cond (not (is_empty outside.endpoints)) (returned_from (port_chain setting i Ext)
        (offer_outcome setting i e marked s outside)) (Next s)
    external_chain need n =
        ap (λ o. found_outcome e (chain_outcome e at Nat (suc (suc (suc n))))
        (port_chain setting i Ext) o s) (finds.port Ext need)
        ∙ ap (returned_from (port_chain setting i Ext)) (external_outcome setting by_draws e at
        mark i finds proto n s fresh passed (needs_list i any need) own i.outer)
        ∙ returned_if (port_chain setting i Ext) (not (is_empty outside.endpoints))
        (offer_outcome setting i e marked s outside) s

    -- an offer to those that are admitted
    by_admission : (admitted : Bool) (o : Offer) (taken : Offer → Outcome)
        → cond (admitted && not (is_empty o.endpoints)) (taken o) (Next s)
        ≡ cond (not (is_empty (offer_if admitted o).endpoints)) (taken (offer_if admitted o))
        (Next s)
    by_admission true o taken = refl
    by_admission false o taken = refl

    -- a jump from a load balancer's address
    balancer_outcome : (r : Option (List RangeParts)) → i.ranges ≡ r
        → needs (balancer_chain r) i ≡ true → (n : ℕ)
        → chain_outcome e at Nat (suc (suc (suc (suc (suc n)))))
        (port_chain setting i (balancer_chain r)) s
        ≡ cond (not (is_empty (offer_if (is_admitted r s.source) outside).endpoints))
        (through_chains setting i (chains_before door.Balancer r)
        (offer_outcome setting i e marked s (offer_if (is_admitted r s.source) outside)))
        (Next s)
    balancer_outcome None h need n = external_chain need (suc n)
    balancer_outcome (Some ranges) h need n =
        let jump : List ℕ → WalkState → Outcome =
        chain_outcome e at Nat (suc (suc (suc (suc n)))) in
        let fw : List ℕ = port_chain setting i Fw in
        let ext : List ℕ = port_chain setting i Ext in
        let taken : Outcome = returned_from ext (offer_outcome setting i e marked s outside) in
        let some : Bool = not (is_empty outside.endpoints) in
        ap (λ o. found_outcome e jump fw o s) (finds.port Fw need
        ∙ ap (λ r. Some (firewall_chain_rules setting i r)) h)
        ∙ ap (returned_from fw) (ranges_outcome setting e i jump s some taken
        (offer_last setting i e marked s (Ext ∷ []) outside)
        (external_chain (needs_external i need) n) ranges)
        ∙ returned_if fw (is_admitted (Some ranges) s.source && some) taken s
        ∙ by_admission (is_admitted (Some ranges) s.source) outside
        (λ o. returned_from fw (returned_from ext (offer_outcome setting i e marked s o)))

    -- a packet to a door from outside arrives as that door says, or comes back as it was
    pub outer_outcome : (kind : DoorKind) → is_outer kind ≡ true → (a : Option AddressParts)
        (number : ℕ) → needs (entry_chain kind i) i ≡ true → (n : ℕ)
        → chain_outcome e at Nat (suc (suc (suc (suc (suc n)))))
        (port_chain setting i (entry_chain kind i)) s
        ≡ cond (not (is_empty (offer_of setting.config (packet_of e s)
        (record { kind = kind; info = i; address = a; number = number })).endpoints))
        (arrives setting e s (record { kind = kind; info = i; address = a; number = number }))
        (Next s)
    outer_outcome door.Cluster h a number need n = absurd (cc)
    outer_outcome door.External h a number need n =
        external_chain need (suc n)
        ∙ ap (λ o. cond (not (is_empty outside.endpoints)) o (Next s)) (arrives_at setting e s
        (record { kind = door.External; info = i; address = a; number = number }))
    outer_outcome door.Node h a number need n =
        external_chain need (suc n)
        ∙ ap (λ o. cond (not (is_empty outside.endpoints)) o (Next s)) (arrives_at setting e s
        (record { kind = door.Node; info = i; address = a; number = number }))
    outer_outcome door.Balancer h a number need n =
        balancer_outcome i.ranges refl need n
        ∙ ap (λ o. cond (not (is_empty (offer_if (is_admitted i.ranges s.source)
        outside).endpoints)) o (Next s)) (arrives_at setting e s
        (record { kind = door.Balancer; info = i; address = a; number = number }))
