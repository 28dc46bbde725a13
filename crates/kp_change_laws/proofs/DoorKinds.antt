-- The doors of a port, kind by kind, and what a packet sees at each kind: the values of the doors
-- that it fits, which are the same at all doors of one kind.
use Rattle.std.proofs.Common.{◌≡◌, inl, inr, ℕ, Bool, true, false, cond, List, [], ◌∷◌, ◌++◌, map, Contains, Option, Some, None, option_and_then, refl, sym, ap, subst, ◌∙◌}
use Rattle.std.specs.List.{find, list_any}
use Rattle.std.proofs.lemmas.List.Elements.{Contains-append_left, Contains-append_right, Contains-append_cases}
use Rattle.std.proofs.lemmas.Option.{same_Some}
use Rattle.kp_lemmas.proofs.Members.{any_from, first_in, from_map, in_cases, later_in, none_in}
use Rattle.kp_lemmas.proofs.Members.{passing}
use Rattle.kp_base.specs.Net.{AddressParts}
use Rattle.kp_types.specs.declared.packet.Packet.{Packet}
use Rattle.kp_types.specs.declared.decision.DoorKind.{DoorKind}
use Rattle.kp_types.specs.declared.decision.DoorKind.TheVariants as door
use Rattle.kp_object_defs.specs.PortInfo.{PortInfo}
use Rattle.kp_door_defs.specs.Doors.{Door, address_doors, door_at, fits, node_door}
use Rattle.kp_change_defs.specs.DoorChanges.{doors_of_port}
use Rattle.kp_change_defs.specs.DoorValues.{DoorValues, values_at, values_of}

-- ---- Elements that are found

-- what is found is an element that passes
pub found : {X : Type 0} (p : X → Bool) (xs : List X) (x : X) → find p xs ≡ Some x
    → Contains xs x × (p x ≡ true)
found p [] x h = absurd (cc)
found p (y ∷ ys) x h = by (p y) refl h (found p ys x)
  where
    by : (b : Bool) → p y ≡ b → cond b (Some y) (find p ys) ≡ Some x
        → (find p ys ≡ Some x → Contains ys x × (p x ≡ true))
        → Contains (y ∷ ys) x × (p x ≡ true)
    by true e g later =
        let same : y ≡ x = same_Some y x g in
        (subst (Contains (y ∷ ys)) same (first_in y ys), ap p (sym same) ∙ e)
    by false e g later = let (c, passes) = later g in (later_in x y ys c, passes)

-- ---- Doors of one kind

abbrev pub doors_of_kind : DoorKind → PortInfo → List Door
doors_of_kind door.Cluster i = door_at door.Cluster i i.address ∷ []
doors_of_kind door.External i = map (door_at door.External i) i.external
doors_of_kind door.Balancer i = map (door_at door.Balancer i) i.balancer
doors_of_kind door.Node i = node_door i i.node_port

-- what a door of a port and a kind is
pub record IsOf (k : DoorKind) (i : PortInfo) (d : Door) : Type 0 where
  pub kind : d.kind ≡ k
  pub info : d.info ≡ i

-- one that equals such a door
is_of : (k : DoorKind) (i : PortInfo) (c d : Door) → IsOf k i c → c ≡ d → IsOf k i d
is_of k i c d of e = subst (IsOf k i) e of

pub of_kind : (k : DoorKind) (i : PortInfo) (d : Door) → Contains (doors_of_kind k i) d → IsOf k i d
of_kind door.Cluster i d c =
    elim (in_cases d (door_at door.Cluster i i.address) [] c) [
      | inl e ↦ is_of _ _ _ d (record { kind = refl; info = refl }) e
      | inr n ↦ absurd (none_in d n)
    ]
of_kind door.External i d c =
    let (a, in_its, e) = from_map (door_at door.External i) d i.external c in
    is_of _ _ _ d (record { kind = refl; info = refl }) e
of_kind door.Balancer i d c =
    let (a, in_its, e) = from_map (door_at door.Balancer i) d i.balancer c in
    is_of _ _ _ d (record { kind = refl; info = refl }) e
of_kind door.Node i d c = of_number i.node_port c
  where
    of_number : (n : Option ℕ) → Contains (node_door i n) d → IsOf door.Node i d
    of_number None c = absurd (none_in d c)
    of_number (Some n) c =
        elim (in_cases d (record { kind = door.Node; info = i; address = None; number = n }) [] c) [
          | inl e ↦ is_of _ _ _ d (record { kind = refl; info = refl }) e
          | inr none ↦ absurd (none_in d none)
        ]

-- they are doors of the port
pub in_port : (k : DoorKind) (i : PortInfo) (d : Door) → Contains (doors_of_kind k i) d
    → Contains (doors_of_port (Some i)) d
in_port door.Cluster i d c =
    Contains-append_left (address_doors i) (doors_of_kind door.Node i) d
    (Contains-append_left (doors_of_kind door.Cluster i)
    (doors_of_kind door.External i ++ doors_of_kind door.Balancer i) d c)
in_port door.External i d c =
    Contains-append_left (address_doors i) (doors_of_kind door.Node i) d
    (Contains-append_right (doors_of_kind door.Cluster i)
    (doors_of_kind door.External i ++ doors_of_kind door.Balancer i) d
    (Contains-append_left (doors_of_kind door.External i) (doors_of_kind door.Balancer i) d c))
in_port door.Balancer i d c =
    Contains-append_left (address_doors i) (doors_of_kind door.Node i) d
    (Contains-append_right (doors_of_kind door.Cluster i)
    (doors_of_kind door.External i ++ doors_of_kind door.Balancer i) d
    (Contains-append_right (doors_of_kind door.External i) (doors_of_kind door.Balancer i) d c))
in_port door.Node i d c = Contains-append_right (address_doors i) (doors_of_kind door.Node i) d c

-- and each door of the port is one of its kind
pub by_kind : (i : PortInfo) (d : Door) → Contains (doors_of_port (Some i)) d
    → Contains (doors_of_kind d.kind i) d
by_kind i d c =
    elim (Contains-append_cases (address_doors i) (doors_of_kind door.Node i) d c) [
      | inl at_address ↦
          elim (Contains-append_cases (doors_of_kind door.Cluster i)
          (doors_of_kind door.External i ++ doors_of_kind door.Balancer i) d at_address) [
            | inl mine ↦ its door.Cluster mine
            | inr other ↦
                elim (Contains-append_cases (doors_of_kind door.External i)
                (doors_of_kind door.Balancer i) d other) [
                  | inl mine ↦ its door.External mine
                  | inr mine ↦ its door.Balancer mine
                ]
          ]
      | inr mine ↦ its door.Node mine
    ]
  where
    its : (k : DoorKind) → Contains (doors_of_kind k i) d → Contains (doors_of_kind d.kind i) d
    its k mine = subst (λ q. Contains (doors_of_kind q i) d) (sym (of_kind k i d mine).kind) mine

-- a door of a port tells what is known of the port
pub of_port : (o : Option PortInfo) (d : Door) → Contains (doors_of_port o) d → o ≡ Some d.info
of_port None d c = absurd (none_in d c)
of_port (Some i) d c = ap Some (sym (of_kind d.kind i d (by_kind i d c)).info)

-- ---- What a packet sees

module _ (addresses : List AddressParts) (packet : Packet) where
  -- the values of a port's doors of a kind, where the packet fits one
  abbrev pub seen : DoorKind → PortInfo → Option DoorValues
  seen k i = cond (list_any (fits addresses packet) (doors_of_kind k i)) (Some (values_at k i)) None

  -- those of a port, if it takes part
  abbrev pub seen_of : DoorKind → Option PortInfo → Option DoorValues
  seen_of k o = option_and_then (seen k) o

  -- the values of a door that it fits are seen
  pub shows : (o : Option PortInfo) (d : Door) → Contains (doors_of_port o) d
      → fits addresses packet d ≡ true → seen_of d.kind o ≡ Some (values_of d)
  shows None d c h = absurd (none_in d c)
  shows (Some i) d c h =
      let mine = by_kind i d c in
      ap (λ b. cond b (Some (values_at d.kind i)) None)
      (any_from (fits addresses packet) d (doors_of_kind d.kind i) mine h)
      ∙ ap (λ j. Some (values_at d.kind j)) (sym (of_kind d.kind i d mine).info)

  -- a door of a port and a kind that the packet fits, with these values
  pub record Shown (o : Option PortInfo) (k : DoorKind) (v : DoorValues) : Type 0 where
    pub shown : Door
    pub in_port : Contains (doors_of_port o) shown
    pub kind : shown.kind ≡ k
    pub fits : fits addresses packet shown ≡ true
    pub values : values_of shown ≡ v

  -- and what is seen are the values of such a door
  pub shown : (o : Option PortInfo) (k : DoorKind) (v : DoorValues) → seen_of k o ≡ Some v
      → Shown o k v
  shown None k v h = absurd (cc)
  shown (Some i) k v h = by _ refl h
    where
      by : (b : Bool) → list_any (fits addresses packet) (doors_of_kind k i) ≡ b
          → cond b (Some (values_at k i)) None ≡ Some v → Shown (Some i) k v
      by true any h =
          let (d, c, fit) = passing (fits addresses packet) (doors_of_kind k i) any in
          let of = of_kind k i d c in
          record {
            shown = d;
            in_port = in_port k i d c;
            kind = of.kind;
            fits = fit;
            values = (λ j. values_at (of.kind j) (of.info j)) ∙ same_Some (values_at k i) v h;
          }
      by false any h = absurd (cc)
