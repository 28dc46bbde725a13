-- The lines of the filter that a packet fits, by what it sees of a port.
use Rattle.std.proofs.Common.{◌≡◌, Bool, true, false, cond, ◌&&◌, ◌||◌, List, [], ◌∷◌, ◌++◌, map, Contains, Option, Some, None, is_some, option_map, append_assoc, refl, sym, ap, ap₂, ◌∙◌}
use Rattle.std.specs.List.{find, list_any}
use Rattle.std.specs.Option.{option_or}
use Rattle.std.proofs.Math.Bool.{and-false}
use Rattle.std.proofs.lemmas.Bool.{and_parts}
use Rattle.std.proofs.lemmas.List.{map-append}
use Rattle.std.proofs.lemmas.List.Folds.{find-append}
use Rattle.std.proofs.lemmas.Simd.{map-map}
use Rattle.kp_lemmas.proofs.Members.{first_in, later_in}
use Rattle.kp_lemmas.proofs.Options.{map_or}
use Rattle.kp_base.specs.Net.{AddressParts, RangeParts}
use Rattle.kp_base.specs.declared.address.Family.{Family}
use Rattle.kp_base.specs.declared.key.Endpoint.{Endpoint}
use Rattle.kp_base.specs.declared.key.PortKey.{PortKey}
use Rattle.kp_types.specs.declared.packet.Packet.{Packet}
use Rattle.kp_types.specs.declared.decision.DoorKind.{DoorKind}
use Rattle.kp_types.specs.declared.decision.DoorKind.TheVariants as door
use Rattle.kp_types.specs.declared.service.Policy.{Policy}
use Rattle.kp_types.specs.declared.service.Policy.TheVariants.{Cluster, Local}
use Rattle.kp_object_defs.specs.Desired.{is_empty}
use Rattle.kp_object_defs.specs.Lists.{list_by_policy}
use Rattle.kp_object_defs.specs.PortInfo.{PortInfo, external_list, internal_list}
use Rattle.kp_door_defs.specs.Doors.{Door, door_at, fits}
use Rattle.kp_door_defs.specs.Filter.{Line, Refusal, DropsClosed, external_lines, firewall_lines, line_of, refusal_by, service_lines}
use Rattle.kp_walk_laws.specs.Laws.{IsKnown}
use Rattle.kp_change_defs.specs.declared.DoorState.{DoorState}
use Rattle.kp_change_defs.specs.declared.DoorState.TheVariants.{Absent, Open, NoLocalEndpoints, NoEndpoints, Closed}
use Rattle.kp_change_defs.specs.DoorValues.{DoorValues, admits_nobody, state_of_list, values_at}
use Rattle.kp_change_laws.proofs.FirstDoor.{Views, moved}
use Rattle.kp_change_laws.proofs.DoorKinds.{IsOf, doors_of_kind, of_kind, seen}

-- what a line does, and at which door of which port
abbrev pub Refused : Type 0
Refused = Refusal × (DoorKind × PortKey)

abbrev pub refused_of : Line → Refused
refused_of l = (l.refusal, (l.door.kind, l.door.info.key))

-- a line that does this at a door of a kind of a port
abbrev pub told : Refusal → DoorKind → PortKey → Option Refused
told r k key = Some (r, (k, key))

-- ---- What states tell

-- the port has endpoints
abbrev has_any_of : DoorState → Bool
has_any_of Absent = false
has_any_of Open = true
has_any_of NoLocalEndpoints = true
has_any_of NoEndpoints = false
has_any_of Closed = true

-- the door's list is empty
abbrev is_shut : DoorState → Bool
is_shut Absent = false
is_shut Open = false
is_shut NoLocalEndpoints = true
is_shut NoEndpoints = true
is_shut Closed = false

-- a port without endpoints has none in a list
none_in_list : (family : Family) (i : PortInfo) → IsKnown family i → (p : Policy)
    → i.lists.has_any ≡ false → list_by_policy p i.lists ≡ []
none_in_list family i known Cluster h = (known.none h).0
none_in_list family i known Local h = (known.none h).1

any_told : (any nobody : Bool) (es : List Endpoint) → (any ≡ false → es ≡ [])
    → has_any_of (cond (any && nobody) Closed (state_of_list es any)) ≡ any
any_told true true es h = refl
any_told true false [] h = refl
any_told true false (e ∷ es) h = refl
any_told false nobody [] h = refl
any_told false nobody (e ∷ es) h = let none = h refl in absurd (cc)

-- ---- Lines of doors

-- a search where a condition doesn't hold
only_if : {X Y : Type 0} (p : X → Bool) (f : X → Y) (b : Bool) (xs : List X)
    → option_map f (find p (cond b xs [])) ≡ cond b (option_map f (find p xs)) None
only_if p f true xs = refl
only_if p f false xs = refl

or_only_if : {X : Type 0} (b : Bool) (o p : Option X)
    → cond b (option_or o p) None ≡ option_or (cond b o None) (cond b p None)
or_only_if true o p = refl
or_only_if false o p = refl

-- one condition goes before another
either_first : {X : Type 0} (b c : Bool) (o : Option X)
    → cond b (cond c o None) None ≡ cond c (cond b o None) None
either_first true true o = refl
either_first true false o = refl
either_first false true o = refl
either_first false false o = refl

module _ (addresses : List AddressParts) (packet : Packet) where
  -- the packet fits a line's door
  abbrev pub fits_line : Line → Bool
  fits_line l = fits addresses packet l.door

  -- the line that it fits among those of doors of one kind
  lines_of : (r : Refusal) (k : DoorKind) (i : PortInfo) (ds : List Door)
      → ((d : Door) → Contains ds d → IsOf k i d)
      → option_map refused_of (find fits_line (map (line_of r) ds))
      ≡ cond (list_any (fits addresses packet) ds) (told r k i.key) None
  lines_of r k i [] h = refl
  lines_of r k i (d ∷ ds) h =
      by (fits addresses packet d) (h d (first_in d ds))
      (lines_of r k i ds (λ e c. h e (later_in e d ds c)))
    where
      by : (b : Bool) → IsOf k i d
          → option_map refused_of (find fits_line (map (line_of r) ds))
          ≡ cond (list_any (fits addresses packet) ds) (told r k i.key) None
          → option_map refused_of
          (cond b (Some (line_of r d)) (find fits_line (map (line_of r) ds)))
          ≡ cond (b || list_any (fits addresses packet) ds) (told r k i.key) None
      by true of rest = λ j. Some (r, (of.kind j, (of.info j).key))
      by false of rest = rest

  -- those of a port's doors of a kind
  lines_at : (r : Refusal) (k : DoorKind) (i : PortInfo)
      → option_map refused_of (find fits_line (map (line_of r) (doors_of_kind k i)))
      ≡ cond (list_any (fits addresses packet) (doors_of_kind k i)) (told r k i.key) None
  lines_at r k i = lines_of r k i (doors_of_kind k i) (of_kind k i)

  -- ---- The firewall

  -- the firewall's line, by what is seen of a port
  abbrev pub firewall_from : PortKey → Option DoorValues → Option Refused
  firewall_from key None = None
  firewall_from key (Some v) =
      cond (is_some v.sources && has_any_of v.state) (told DropsClosed door.Balancer key) None

  pub firewall_line : (family : Family) (i : PortInfo) → IsKnown family i
      → option_map refused_of (find fits_line (firewall_lines i))
      ≡ firewall_from i.key (seen addresses packet door.Balancer i)
  firewall_line family i known =
      let fit : Bool = list_any (fits addresses packet) (doors_of_kind door.Balancer i) in
      let drop : Option Refused = told DropsClosed door.Balancer i.key in
      ap (λ ls. option_map refused_of
      (find fits_line (cond (is_some i.ranges && i.lists.has_any) ls [])))
      (sym (map-map (line_of DropsClosed) (door_at door.Balancer i) i.balancer))
      ∙ only_if fits_line refused_of (is_some i.ranges && i.lists.has_any)
      (map (line_of DropsClosed) (doors_of_kind door.Balancer i))
      ∙ ap (λ o. cond (is_some i.ranges && i.lists.has_any) o None)
      (lines_at DropsClosed door.Balancer i)
      ∙ either_first (is_some i.ranges && i.lists.has_any) fit drop
      ∙ ap (λ b. cond fit (cond (is_some i.ranges && b) drop None) None)
      (sym (any_told i.lists.has_any (admits_nobody i.ranges) (list_by_policy i.outer i.lists)
      (none_in_list family i known i.outer)))
      ∙ moved (firewall_from i.key) refl fit (values_at door.Balancer i)

  -- ---- Doors without endpoints

  -- the line of a door that is shut, by what is seen there
  abbrev shut_from : DoorKind → PortKey → Option DoorValues → Option Refused
  shut_from k key None = None
  shut_from k key (Some v) =
      cond (is_shut v.state) (told (refusal_by (has_any_of v.state)) k key) None

  shut_by_state : (k : DoorKind) (key : PortKey) (es : List Endpoint) (any : Bool)
      → cond (is_empty es) (told (refusal_by any) k key) None
      ≡ cond (is_shut (state_of_list es any))
      (told (refusal_by (has_any_of (state_of_list es any))) k key) None
  shut_by_state k key (e ∷ es) any = refl
  shut_by_state k key [] true = refl
  shut_by_state k key [] false = refl

  -- at a door that isn't closed
  shut_at : (k : DoorKind) (i : PortInfo) (es : List Endpoint) (closed : Bool)
      → (values_at k i).state ≡ cond closed Closed (state_of_list es i.lists.has_any)
      → (list_any (fits addresses packet) (doors_of_kind k i) ≡ true → closed ≡ false)
      → cond (is_empty es) (option_map refused_of (find fits_line
      (map (line_of (refusal_by i.lists.has_any)) (doors_of_kind k i)))) None
      ≡ shut_from k i.key (seen addresses packet k i)
  shut_at k i es closed state unclosed =
      let refused : Option Refused = told (refusal_by i.lists.has_any) k i.key in
      ap (λ o. cond (is_empty es) o None) (lines_at (refusal_by i.lists.has_any) k i)
      ∙ either_first (is_empty es) (list_any (fits addresses packet) (doors_of_kind k i)) refused
      ∙ by _ refl
      ∙ moved (shut_from k i.key) refl (list_any (fits addresses packet) (doors_of_kind k i))
      (values_at k i)
    where
      by : (b : Bool) → list_any (fits addresses packet) (doors_of_kind k i) ≡ b
          → cond b (cond (is_empty es) (told (refusal_by i.lists.has_any) k i.key) None) None
          ≡ cond b (shut_from k i.key (Some (values_at k i))) None
      by false fit = refl
      by true fit =
          shut_by_state k i.key es i.lists.has_any
          ∙ ap (λ s. cond (is_shut s) (told (refusal_by (has_any_of s)) k i.key) None)
          (sym (state ∙ ap (λ c. cond c Closed (state_of_list es i.lists.has_any)) (unclosed fit)))

  -- the lines for doors that are reached from outside
  abbrev pub external_from : PortKey → Views → Option Refused
  external_from key views =
      option_or (shut_from door.External key (views door.External))
      (option_or (shut_from door.Balancer key (views door.Balancer))
      (shut_from door.Node key (views door.Node)))

  -- where the packet fits none that is closed
  pub external_line : (i : PortInfo)
      → (list_any (fits addresses packet) (doors_of_kind door.Balancer i) ≡ true
      → i.lists.has_any && admits_nobody i.ranges ≡ false)
      → option_map refused_of (find fits_line (external_lines i))
      ≡ external_from i.key (λ k. seen addresses packet k i)
  external_line i unclosed =
      let es : List Endpoint = external_list i in
      let lines : DoorKind → List Line =
      λ k. map (line_of (refusal_by i.lists.has_any)) (doors_of_kind k i) in
      let line_at : DoorKind → Option Refused =
      λ k. option_map refused_of (find fits_line (lines k)) in
      let others : List Door = doors_of_kind door.Balancer i ++ doors_of_kind door.Node i in
      let plain : i.lists.has_any && false ≡ false = and-false i.lists.has_any in
      ap (λ ds. option_map refused_of (find fits_line
      (cond (is_empty es) (map (line_of (refusal_by i.lists.has_any)) ds) [])))
      (append_assoc (doors_of_kind door.External i) (doors_of_kind door.Balancer i)
      (doors_of_kind door.Node i))
      ∙ only_if fits_line refused_of (is_empty es)
      (map (line_of (refusal_by i.lists.has_any)) (doors_of_kind door.External i ++ others))
      ∙ ap (λ ls. cond (is_empty es) (option_map refused_of (find fits_line ls)) None)
      (map-append (line_of (refusal_by i.lists.has_any)) (doors_of_kind door.External i) others
      ∙ ap (λ ls. lines door.External ++ ls)
      (map-append (line_of (refusal_by i.lists.has_any)) (doors_of_kind door.Balancer i)
      (doors_of_kind door.Node i)))
      ∙ ap (λ o. cond (is_empty es) o None)
      (ap (option_map refused_of)
      (find-append fits_line (lines door.External) (lines door.Balancer ++ lines door.Node))
      ∙ map_or refused_of _ _
      ∙ ap (option_or (line_at door.External))
      (ap (option_map refused_of)
      (find-append fits_line (lines door.Balancer) (lines door.Node)) ∙ map_or refused_of _ _))
      ∙ or_only_if (is_empty es) (line_at door.External) _
      ∙ ap₂ option_or (shut_at door.External i es _ refl (λ h. plain))
      (or_only_if (is_empty es) (line_at door.Balancer) (line_at door.Node)
      ∙ ap₂ option_or (shut_at door.Balancer i es _ refl unclosed)
      (shut_at door.Node i es _ refl (λ h. plain)))

  -- the line of the cluster address
  abbrev pub service_from : PortKey → Views → Option Refused
  service_from key views = shut_from door.Cluster key (views door.Cluster)

  pub service_line : (i : PortInfo)
      → option_map refused_of (find fits_line (service_lines i))
      ≡ service_from i.key (λ k. seen addresses packet k i)
  service_line i =
      only_if fits_line refused_of (is_empty (internal_list i))
      (map (line_of (refusal_by i.lists.has_any)) (doors_of_kind door.Cluster i))
      ∙ shut_at door.Cluster i (internal_list i) _ refl (λ h. and-false i.lists.has_any)

  -- ---- Closed doors

  some_range : (ranges : Option (List RangeParts)) → admits_nobody ranges ≡ true
      → is_some ranges ≡ true
  some_range None h = absurd (cc)
  some_range (Some rs) h = refl

  -- where the firewall has no line for the packet, it fits no door that is closed
  pub not_closed : (i : PortInfo)
      → firewall_from i.key (seen addresses packet door.Balancer i) ≡ None
      → list_any (fits addresses packet) (doors_of_kind door.Balancer i) ≡ true
      → i.lists.has_any && admits_nobody i.ranges ≡ false
  not_closed i none fit = by _ refl
    where
      state_if : Bool → DoorState
      state_if closed = cond closed Closed (state_of_list (external_list i) i.lists.has_any)

      line_if : Bool → Bool → Option Refused
      line_if some any = cond (some && any) (told DropsClosed door.Balancer i.key) None

      by : (b : Bool) → i.lists.has_any && admits_nobody i.ranges ≡ b → b ≡ false
      by false e = refl
      by true e =
          let line : told DropsClosed door.Balancer i.key ≡ None =
          sym (ap (λ b. firewall_from i.key (cond b (Some (values_at door.Balancer i)) None)) fit
          ∙ ap (λ c. line_if (is_some i.ranges) (has_any_of (state_if c))) e
          ∙ ap (λ b. line_if b true)
          (some_range i.ranges (and_parts i.lists.has_any (admits_nobody i.ranges) e).1)) ∙ none in
          absurd (cc)
