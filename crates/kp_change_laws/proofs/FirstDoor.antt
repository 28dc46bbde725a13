-- The door that takes a packet, by what the packet sees of each port.
use Rattle.std.proofs.Common.{◌≡◌, Bool, true, false, not, cond, ◌&&◌, ◌||◌, List, [], ◌∷◌, ◌++◌, Contains, Option, Some, None, option_map, option_and_then, slice_get, refl, sym, ap, ap₂, ◌∙◌}
use Rattle.std.specs.List.{find, flat_map, list_any}
use Rattle.std.specs.Option.{option_or}
use Rattle.std.proofs.lemmas.List.Folds.{find-append}
use Rattle.kp_lemmas.proofs.Members.{first_in, later_in}
use Rattle.kp_lemmas.proofs.Options.{map_or}
use Rattle.kp_base.specs.Net.{AddressParts}
use Rattle.kp_base.specs.declared.address.Family.{Family}
use Rattle.kp_base.specs.declared.key.PortKey.{PortKey}
use Rattle.kp_types.specs.Setting.{FamilyConfig}
use Rattle.kp_types.specs.declared.packet.Packet.{Packet}
use Rattle.kp_types.specs.declared.decision.DoorKind.{DoorKind}
use Rattle.kp_types.specs.declared.decision.DoorKind.TheVariants as door
use Rattle.kp_object_defs.specs.Desired.{is_empty}
use Rattle.kp_object_defs.specs.PortInfo.{PortInfo}
use Rattle.kp_door_defs.specs.Doors.{Door, address_doors, fits, node_door, offer_of, taking_door, takes}
use Rattle.kp_table_laws.specs.Laws.{AreInOrder}
use Rattle.kp_change_defs.specs.DoorChanges.{info_named}
use Rattle.kp_change_defs.specs.DoorValues.{DoorValues, values_at}
use Rattle.kp_change_laws.proofs.Alike.{IsKnownSo}
use Rattle.kp_change_laws.proofs.FirstOf.{first_found, same_values_had}
use Rattle.kp_change_laws.proofs.DoorKinds.{doors_of_kind, of_kind, seen, seen_of}
use Rattle.kp_change_laws.proofs.Offers.{Sight, offer_from, sight_from, sight_of, sights}

-- ---- What a port has, by what is seen of it

-- what is seen at each kind
abbrev pub Views : Type 0
Views = DoorKind → Option DoorValues

-- nothing is seen
abbrev pub unseen : Views
unseen k = None

-- a value of a port that goes by its name and by what is seen of it, where this is known of it
pub by_views : {S : Type 0} (addresses : List AddressParts) (packet : Packet) (family : Family)
    (key : PortKey) (h : PortInfo → Option S) (from : PortKey → Views → Option S)
    → ((k : PortKey) → from k unseen ≡ None) → (o p : Option PortInfo)
    → IsKnownSo family key o → IsKnownSo family key p
    → ((i : PortInfo) → o ≡ Some i → h i ≡ from i.key (λ k. seen addresses packet k i))
    → ((i : PortInfo) → p ≡ Some i → h i ≡ from i.key (λ k. seen addresses packet k i))
    → ((k : DoorKind) → seen_of addresses packet k o ≡ seen_of addresses packet k p)
    → option_and_then h o ≡ option_and_then h p
by_views addresses packet family key h from none None None known knows had has same = refl
by_views addresses packet family key h from none None (Some i) known knows had has same =
    sym (has i refl ∙ (λ j. from i.key (λ k. sym (same k) j)) ∙ none i.key)
by_views addresses packet family key h from none (Some i) None known knows had has same =
    had i refl ∙ (λ j. from i.key (λ k. same k j)) ∙ none i.key
by_views addresses packet family key h from none (Some i) (Some e) known knows had has same =
    had i refl
    ∙ (λ j. from (((known i refl).name ∙ sym (knows e refl).name) j) (λ k. same k j))
    ∙ sym (has e refl)

-- a step that keeps nothing, at a value that may be missing
pub moved : {A B : Type 0} (f : Option A → Option B) → f None ≡ None → (b : Bool) (a : A)
    → cond b (f (Some a)) None ≡ f (cond b (Some a) None)
moved f none true a = refl
moved f none false a = sym none

-- ---- Doors that take the packet

-- what is found among elements that are alike but for one test
pub among : {X S : Type 0} (p t : X → Bool) (f : X → S) (b : Bool) (s : S) (xs : List X)
    → ((x : X) → Contains xs x → (t x ≡ b) × (f x ≡ s))
    → option_map f (find (λ x. p x && t x) xs) ≡ cond (list_any p xs) (cond b (Some s) None) None
among p t f b s [] h = refl
among {X} {S} p t f b s (x ∷ xs) h =
    by (p x) b (h x (first_in x xs)) (among p t f b s xs (λ y c. h y (later_in y x xs c)))
  where
    none : (c : Bool) → cond c (cond false (Some s) None) None ≡ None
    none true = refl
    none false = refl

    by : (passes c : Bool) → (t x ≡ c) × (f x ≡ s)
        → option_map f (find (λ y. p y && t y) xs)
        ≡ cond (list_any p xs) (cond c (Some s) None) None
        → option_map f (cond (passes && t x) (Some x) (find (λ y. p y && t y) xs))
        ≡ cond (passes || list_any p xs) (cond c (Some s) None) None
    by true true h rest =
        ap (λ d. option_map f (cond d (Some x) (find (λ y. p y && t y) xs))) h.0 ∙ ap Some h.1
    by true false h rest =
        ap (λ d. option_map f (cond d (Some x) (find (λ y. p y && t y) xs))) h.0
        ∙ rest ∙ none (list_any p xs)
    by false c h rest = rest

module _ (config : FamilyConfig) (packet : Packet) where
  -- the door of a kind that takes the packet, by what is seen there
  abbrev taken_from : DoorKind → PortKey → Option DoorValues → Option Sight
  taken_from k key None = None
  taken_from k key (Some v) =
      cond (not (is_empty (offer_from config k v packet.source).endpoints))
      (Some (sight_from config packet k key v)) None

  taken : (k : DoorKind) (i : PortInfo)
      → option_map (sight_of config packet) (find (takes config packet) (doors_of_kind k i))
      ≡ taken_from k i.key (seen config.addresses packet k i)
  taken k i =
      among (fits config.addresses packet)
      (λ d. not (is_empty (offer_of config packet d).endpoints)) (sight_of config packet)
      (not (is_empty (offer_from config k (values_at k i) packet.source).endpoints))
      (sight_from config packet k i.key (values_at k i)) (doors_of_kind k i) (λ d c.
      let same = sights config packet k i d (of_kind k i d c) in
      (ap (λ s. not (is_empty s.offer.endpoints)) same, same))
      ∙ moved (taken_from k i.key) refl
      (list_any (fits config.addresses packet) (doors_of_kind k i)) (values_at k i)

  -- the door at an address of a port
  abbrev address_from : PortKey → Views → Option Sight
  address_from key views =
      option_or (taken_from door.Cluster key (views door.Cluster))
      (option_or (taken_from door.External key (views door.External))
      (taken_from door.Balancer key (views door.Balancer)))

  at_address : (i : PortInfo)
      → option_map (sight_of config packet) (find (takes config packet) (address_doors i))
      ≡ address_from i.key (λ k. seen config.addresses packet k i)
  at_address i =
      let p : Door → Bool = takes config packet in
      let f : Door → Sight = sight_of config packet in
      let external : List Door = doors_of_kind door.External i in
      let balancer : List Door = doors_of_kind door.Balancer i in
      ap (option_map f) (find-append p (doors_of_kind door.Cluster i) (external ++ balancer))
      ∙ map_or f _ _
      ∙ ap₂ option_or (taken door.Cluster i)
      (ap (option_map f) (find-append p external balancer)
      ∙ map_or f _ _ ∙ ap₂ option_or (taken door.External i) (taken door.Balancer i))

  -- the door of a node port
  abbrev node_from : PortKey → Views → Option Sight
  node_from key views = taken_from door.Node key (views door.Node)

  module _ (before after : List PortInfo) (in_order : AreInOrder before)
      (after_in_order : AreInOrder after) (family : Family)
      (known : (q : PortKey) → IsKnownSo family q (info_named before q))
      (known_after : (q : PortKey) → IsKnownSo family q (info_named after q))
      (same : (q : PortKey) (k : DoorKind)
      → seen_of config.addresses packet k (info_named after q)
      ≡ seen_of config.addresses packet k (info_named before q)) where
    -- what doors of ports show first
    first_same : (g : PortInfo → List Door) (from : PortKey → Views → Option Sight)
        → ((k : PortKey) → from k unseen ≡ None)
        → ((i : PortInfo) → option_map (sight_of config packet) (find (takes config packet) (g i))
        ≡ from i.key (λ k. seen config.addresses packet k i))
        → option_map (sight_of config packet) (find (takes config packet) (flat_map g after))
        ≡ option_map (sight_of config packet) (find (takes config packet) (flat_map g before))
    first_same g from none had =
        first_found (takes config packet) (sight_of config packet) g after
        ∙ ap (λ l. slice_get l 0) (same_values_had _ after before after_in_order in_order (λ q.
        by_views config.addresses packet family q _ from none (info_named after q)
        (info_named before q) (known_after q) (known q) (λ i e. had i) (λ i e. had i) (same q)))
        ∙ sym (first_found (takes config packet) (sight_of config packet) g before)

    -- the door that takes a packet makes the same of it, where it sees the same of each port
    pub same_taking : option_map (sight_of config packet) (taking_door config after packet)
        ≡ option_map (sight_of config packet) (taking_door config before packet)
    same_taking =
        let p : Door → Bool = takes config packet in
        let f : Door → Sight = sight_of config packet in
        let nodes : PortInfo → List Door = λ i. node_door i i.node_port in
        ap (option_map f) (find-append p (flat_map address_doors after) (flat_map nodes after))
        ∙ map_or f _ _
        ∙ ap₂ option_or (first_same address_doors address_from (λ k. refl) at_address)
        (first_same nodes node_from (λ k. refl) (taken door.Node))
        ∙ sym (map_or f _ _)
        ∙ ap (option_map f)
        (sym (find-append p (flat_map address_doors before) (flat_map nodes before)))
