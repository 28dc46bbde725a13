-- What a door offers to a packet, whether it marks it, and how it chooses: these go by its port,
-- its kind and its values alone.
use Rattle.std.proofs.Common.{◌≡◌, ℕ, Bool, true, false, cond, ◌&&◌, ◌||◌, List, [], ◌∷◌, ◌++◌, Contains, Option, Some, None, refl, sym, ap, ap₂, subst, ◌∙◌}
use Rattle.std.proofs.Math.Bool.{and-false}
use Rattle.std.proofs.lemmas.List.Elements.{Contains-append_left, Contains-append_right}
use Rattle.kp_lemmas.proofs.Members.{none_in}
use Rattle.kp_base.specs.Net.{AddressParts, RangeParts, is_local_address}
use Rattle.kp_base.specs.declared.key.Endpoint.{Endpoint}
use Rattle.kp_base.specs.declared.key.PortKey.{PortKey}
use Rattle.kp_types.specs.Setting.{FamilyConfig}
use Rattle.kp_types.specs.declared.packet.Packet.{Packet}
use Rattle.kp_types.specs.declared.service.Policy.{Policy}
use Rattle.kp_types.specs.declared.service.Policy.TheVariants.{Cluster, Local}
use Rattle.kp_types.specs.declared.decision.DoorKind.{DoorKind}
use Rattle.kp_types.specs.declared.decision.DoorKind.TheVariants as door
use Rattle.kp_types.specs.declared.decision.ListKind.TheVariants as list_kind
use Rattle.kp_object_defs.specs.Lists.{list_by_policy}
use Rattle.kp_object_defs.specs.PortInfo.{PortInfo}
use Rattle.kp_door_defs.specs.Doors.{Door, Offer, is_admitted, is_in_cluster, offer_by_policy, offer_if, offer_of, offered, outer_offer}
use Rattle.kp_door_defs.specs.Marks.{marked_at, marked_inside, marked_outside}
use Rattle.kp_change_defs.specs.declared.DoorState.TheVariants.{Closed}
use Rattle.kp_change_defs.specs.DoorValues.{DoorValues, admits_nobody, policy_at, state_of_list, unless_closed, values_at, values_of}
use Rattle.kp_change_laws.proofs.DoorKinds.{IsOf}

-- ---- Offers by policies and lists

-- at a cluster address
abbrev pub inner_by : Policy → List Endpoint → Offer
inner_by Cluster es = record { kind = list_kind.Cluster; endpoints = es }
inner_by Local es = record { kind = list_kind.Local; endpoints = es }

-- at other doors, to a source inside or elsewhere, of which the first has a list of its own
abbrev pub outer_by : Policy → Bool → List Endpoint → List Endpoint → Offer
outer_by Cluster is_inside es inside = record { kind = list_kind.Cluster; endpoints = es }
outer_by Local is_inside es inside =
    cond is_inside (record { kind = list_kind.Cluster; endpoints = inside })
    (record { kind = list_kind.Local; endpoints = es })

-- a source of the cluster or of the node
abbrev pub is_inside : FamilyConfig → AddressParts → Bool
is_inside config source = is_in_cluster config source || is_local_address config.addresses source

-- what a door of a kind with these values offers to a source
abbrev pub offer_from : FamilyConfig → DoorKind → DoorValues → AddressParts → Offer
offer_from config door.Cluster v source = inner_by v.policy v.list
offer_from config door.External v source =
    outer_by v.policy (is_inside config source) v.list v.inside
offer_from config door.Balancer v source =
    offer_if (is_admitted v.sources source)
    (outer_by v.policy (is_inside config source) v.list v.inside)
offer_from config door.Node v source =
    outer_by v.policy (is_inside config source) v.list v.inside

inner : (i : PortInfo) (p : Policy) → offer_by_policy i p ≡ inner_by p (list_by_policy p i.lists)
inner i Cluster = refl
inner i Local = refl

outer : (config : FamilyConfig) (i : PortInfo) (p : Policy) (source : AddressParts)
    → outer_offer config i p source
    ≡ outer_by p (is_inside config source) (list_by_policy p i.lists) i.lists.cluster
outer config i Cluster source = refl
outer config i Local source = refl

-- a list of a door that isn't closed
in_state : (any : Bool) (es xs : List Endpoint) → unless_closed (state_of_list es any) xs ≡ xs
in_state any (e ∷ es) xs = refl
in_state true [] xs = refl
in_state false [] xs = refl

pub listed : (closed any : Bool) (es xs : List Endpoint) → closed ≡ false
    → unless_closed (cond closed Closed (state_of_list es any)) xs ≡ xs
listed closed any es xs h =
    ap (λ c. unless_closed (cond c Closed (state_of_list es any)) xs) h ∙ in_state any es xs

-- where a source is admitted, somebody is
admits_some : (ranges : Option (List RangeParts)) (source : AddressParts)
    → is_admitted ranges source ≡ true → admits_nobody ranges ≡ false
admits_some None source h = refl
admits_some (Some []) source h = absurd (cc)
admits_some (Some (r ∷ rs)) source h = refl

-- which list is offered doesn't go by the lists
same_kind : (p : Policy) (is_inside : Bool) (es inside fs others : List Endpoint)
    → (outer_by p is_inside es inside).kind ≡ (outer_by p is_inside fs others).kind
same_kind Cluster is_inside es inside fs others = refl
same_kind Local true es inside fs others = refl
same_kind Local false es inside fs others = refl

nothing : (a b : Offer) → a.kind ≡ b.kind → offer_if false a ≡ offer_if false b
nothing a b same = ap (λ k. record { kind = k; endpoints = [] }) same

module _ (config : FamilyConfig) (i : PortInfo) (source : AddressParts) where
  -- what the external policy offers at a door that isn't closed
  outer_listed : (closed : Bool) → closed ≡ false
      → outer_offer config i i.outer source
      ≡ outer_by i.outer (is_inside config source)
      (unless_closed
      (cond closed Closed (state_of_list (list_by_policy i.outer i.lists) i.lists.has_any))
      (list_by_policy i.outer i.lists))
      (unless_closed
      (cond closed Closed (state_of_list (list_by_policy i.outer i.lists) i.lists.has_any))
      i.lists.cluster)
  outer_listed closed unclosed =
      let es : List Endpoint = list_by_policy i.outer i.lists in
      outer config i i.outer source
      ∙ ap₂ (outer_by i.outer (is_inside config source))
      (sym (listed closed i.lists.has_any es es unclosed))
      (sym (listed closed i.lists.has_any es i.lists.cluster unclosed))

  -- and at one with source ranges
  admitted : (a : Bool) → is_admitted i.ranges source ≡ a
      → offer_if a (outer_offer config i i.outer source)
      ≡ offer_if a (outer_by i.outer (is_inside config source)
      (values_at door.Balancer i).list (values_at door.Balancer i).inside)
  admitted true h =
      outer_listed _ (ap (λ b. i.lists.has_any && b) (admits_some i.ranges source h)
      ∙ and-false i.lists.has_any)
  admitted false h =
      let es : List Endpoint = list_by_policy i.outer i.lists in
      let v : DoorValues = values_at door.Balancer i in
      nothing (outer_offer config i i.outer source)
      (outer_by i.outer (is_inside config source) v.list v.inside)
      (ap (λ (o : Offer). o.kind) (outer config i i.outer source)
      ∙ same_kind i.outer (is_inside config source) es i.lists.cluster v.list v.inside)

  -- what a port's door offers goes by its values
  pub offers : (k : DoorKind)
      → offered config k i source ≡ offer_from config k (values_at k i) source
  offers door.Cluster =
      inner i i.internal
      ∙ ap (inner_by i.internal) (sym (listed _ i.lists.has_any _ _ (and-false i.lists.has_any)))
  offers door.External = outer_listed _ (and-false i.lists.has_any)
  offers door.Balancer = admitted _ refl
  offers door.Node = outer_listed _ (and-false i.lists.has_any)

-- ---- Offered endpoints are those of the door

in_inner : (p : Policy) (es inside : List Endpoint) (e : Endpoint)
    → Contains (inner_by p es).endpoints e → Contains (es ++ inside) e
in_inner Cluster es inside e c = Contains-append_left es inside e c
in_inner Local es inside e c = Contains-append_left es inside e c

in_outer : (p : Policy) (b : Bool) (es inside : List Endpoint) (e : Endpoint)
    → Contains (outer_by p b es inside).endpoints e → Contains (es ++ inside) e
in_outer Cluster b es inside e c = Contains-append_left es inside e c
in_outer Local true es inside e c = Contains-append_right es inside e c
in_outer Local false es inside e c = Contains-append_left es inside e c

in_admitted : (a : Bool) (p : Policy) (b : Bool) (es inside : List Endpoint) (e : Endpoint)
    → Contains (offer_if a (outer_by p b es inside)).endpoints e → Contains (es ++ inside) e
in_admitted true p b es inside e c = in_outer p b es inside e c
in_admitted false p b es inside e c = absurd (none_in e c)

in_offer : (config : FamilyConfig) (k : DoorKind) (v : DoorValues) (source : AddressParts)
    (e : Endpoint) → Contains (offer_from config k v source).endpoints e
    → Contains (v.list ++ v.inside) e
in_offer config door.Cluster v source e c = in_inner v.policy v.list v.inside e c
in_offer config door.External v source e c = in_outer v.policy _ v.list v.inside e c
in_offer config door.Balancer v source e c = in_admitted _ v.policy _ v.list v.inside e c
in_offer config door.Node v source e c = in_outer v.policy _ v.list v.inside e c

pub of_door : (config : FamilyConfig) (packet : Packet) (d : Door) (e : Endpoint)
    → Contains (offer_of config packet d).endpoints e
    → Contains ((values_of d).list ++ (values_of d).inside) e
of_door config packet d e c =
    in_offer config d.kind (values_of d) packet.source e
    (subst (λ o. Contains o.endpoints e) (offers config d.info packet.source d.kind) c)

-- ---- Marks

abbrev marked_by : FamilyConfig → DoorKind → Policy → AddressParts → Bool
marked_by config door.Cluster p source = marked_inside config source
marked_by config door.External p source = marked_outside config p source
marked_by config door.Balancer p source = marked_outside config p source
marked_by config door.Node p source = marked_outside config p source

marks : (config : FamilyConfig) (k : DoorKind) (i : PortInfo) (source : AddressParts)
    → marked_at config k i source ≡ marked_by config k (policy_at k i) source
marks config door.Cluster i source = refl
marks config door.External i source = refl
marks config door.Balancer i source = refl
marks config door.Node i source = refl

-- ---- What a packet meets at a door

-- what a door makes of a packet
pub record Sight : Type 0 where
  pub kind : DoorKind
  pub key : PortKey
  pub affinity : Option ℕ
  pub offer : Offer
  pub marked : Bool

module _ (config : FamilyConfig) (packet : Packet) where
  -- at a door
  abbrev pub sight_of : Door → Sight
  sight_of d = record {
    kind = d.kind;
    key = d.info.key;
    affinity = d.info.affinity;
    offer = offer_of config packet d;
    marked = marked_at config d.kind d.info packet.source;
  }

  -- at a door of this kind and port with these values
  abbrev pub sight_from : DoorKind → PortKey → DoorValues → Sight
  sight_from k key v = record {
    kind = k;
    key = key;
    affinity = v.affinity;
    offer = offer_from config k v packet.source;
    marked = marked_by config k v.policy packet.source;
  }

  -- at a port's door of a kind
  pub sights : (k : DoorKind) (i : PortInfo) (d : Door) → IsOf k i d
      → sight_of d ≡ sight_from k i.key (values_at k i)
  sights k i d of =
      (λ j. sight_of (record {
        kind = of.kind j;
        info = of.info j;
        address = d.address;
        number = d.number;
      }))
      ∙ (λ j. record {
        kind = k;
        key = i.key;
        affinity = i.affinity;
        offer = offers config i packet.source k j;
        marked = marks config k i packet.source j;
      })
