-- Doors of a port that are looked for without a list of them.
use Rattle.std.proofs.Common.{◌≡◌, ℕ, ◌==◌, ◌&&◌, ◌||◌, Bool, true, false, cond, List, [], ◌∷◌, ◌++◌, map, Option, Some, None, option_map, refl, sym, ap, subst, ◌∙◌}
use Rattle.std.specs.List.{find, list_any}
use Rattle.std.specs.Option.{option_or, IfSome}
use Rattle.std.proofs.lemmas.List.Folds.{find-append}
use Rattle.std.proofs.lemmas.Simd.{map-map}
use Rattle.kp_base.specs.Net.{AddressParts, same_address}
use Rattle.kp_base.proofs.SameParts.{same_address_exact}
use Rattle.kp_types.specs.Ports.{same_proto}
use Rattle.kp_types.specs.Setting.{FamilyConfig}
use Rattle.kp_types.specs.declared.packet.Packet.{Packet}
use Rattle.kp_types.specs.declared.decision.DoorKind.{DoorKind}
use Rattle.kp_types.specs.declared.decision.DoorKind.TheVariants as door
use Rattle.kp_object_defs.specs.PortInfo.{PortInfo}
use Rattle.kp_door_defs.specs.Doors.{Door, address_doors, door_at, fits, node_door, takes}
use Rattle.kp_door_defs.specs.Filter.{Line, Refusal, line_of}
use Rattle.kp_decide.specs.Listed.{group_doors, if_offers, offers}
use Rattle.kp_decide.specs.declared.doors.Group.{Group}
use Rattle.kp_decide.specs.declared.doors.Group.TheVariants as group

-- ---- a port's doors at some addresses

module _ (packet : Packet) (kind : DoorKind) (i : PortInfo) where
  -- the packet is for the port, by its protocol and its port
  abbrev pub is_for : Bool
  is_for = same_proto i.key.proto packet.proto && (i.number == packet.port)

  abbrev at_target : AddressParts → Bool
  at_target a = same_address a packet.target

  -- the first door that the packet fits is the one at its destination
  pub fitting : (own : List AddressParts) (b : Bool) → is_for ≡ b → (xs : List AddressParts) → find (fits own packet) (map (door_at kind i) xs) ≡ cond (b && list_any (λ a. same_address a packet.target) xs) (Some (door_at kind i packet.target)) None
  fitting own true is [] = refl
  fitting own false is [] = refl
  fitting own false is (a ∷ xs) =
      ap (λ b. cond (b && at_target a) (Some (door_at kind i a)) (find (fits own packet) (map (door_at kind i) xs))) is
      ∙ fitting own false is xs
  fitting own true is (a ∷ xs) =
      ap (λ b. cond (b && at_target a) (Some (door_at kind i a)) (find (fits own packet) (map (door_at kind i) xs))) is
      ∙ at (at_target a) refl (fitting own true is xs)
    where
      at : (c : Bool) → same_address a packet.target ≡ c → find (fits own packet) (map (door_at kind i) xs) ≡ cond (list_any (λ x. same_address x packet.target) xs) (Some (door_at kind i packet.target)) None → cond c (Some (door_at kind i a)) (find (fits own packet) (map (door_at kind i) xs)) ≡ cond (c || list_any (λ x. same_address x packet.target) xs) (Some (door_at kind i packet.target)) None
      at true same rest = ap (λ x. Some (door_at kind i x)) (same_address_exact a packet.target same)
      at false same rest = rest

-- ---- doors that take packets

module _ (config : FamilyConfig) (packet : Packet) (kind : DoorKind) (i : PortInfo) (b : AddressParts) where
  abbrev fitted : AddressParts → Bool
  fitted a = fits config.addresses packet (door_at kind i a)

  -- all doors of a kind offer alike
  abbrev offered_here : Bool
  offered_here = offers config packet (door_at kind i b)

  unoffered : offers config packet (door_at kind i b) ≡ false → (xs : List AddressParts) → find (takes config packet) (map (door_at kind i) xs) ≡ None
  unoffered none [] = refl
  unoffered none (a ∷ xs) = by (fitted a) (unoffered none xs)
    where
      by : (c : Bool) → find (takes config packet) (map (door_at kind i) xs) ≡ None → cond (c && offers config packet (door_at kind i b)) (Some (door_at kind i a)) (find (takes config packet) (map (door_at kind i) xs)) ≡ None
      by true rest = ap (λ d. cond d (Some (door_at kind i a)) (find (takes config packet) (map (door_at kind i) xs))) none ∙ rest
      by false rest = rest

  -- the first that takes the packet is the first that fits, where that offers an endpoint
  pub taking : (xs : List AddressParts) → find (takes config packet) (map (door_at kind i) xs) ≡ if_offers config packet (find (fits config.addresses packet) (map (door_at kind i) xs))
  taking [] = refl
  taking (a ∷ xs) = by (fitted a) (taking xs)
    where
      at : (o : Bool) → offers config packet (door_at kind i b) ≡ o → cond o (Some (door_at kind i a)) (find (takes config packet) (map (door_at kind i) xs)) ≡ cond o (Some (door_at kind i a)) None
      at true is = refl
      at false is = unoffered is xs

      by : (c : Bool) → find (takes config packet) (map (door_at kind i) xs) ≡ if_offers config packet (find (fits config.addresses packet) (map (door_at kind i) xs)) → cond (c && offers config packet (door_at kind i b)) (Some (door_at kind i a)) (find (takes config packet) (map (door_at kind i) xs)) ≡ if_offers config packet (cond c (Some (door_at kind i a)) (find (fits config.addresses packet) (map (door_at kind i) xs)))
      by true rest = at (offers config packet (door_at kind i b)) refl
      by false rest = rest

-- the same of one door
pub taking_one : (config : FamilyConfig) (packet : Packet) (d : Door) → find (takes config packet) (d ∷ []) ≡ if_offers config packet (find (fits config.addresses packet) (d ∷ []))
taking_one config packet d = by (fits config.addresses packet d)
  where
    by : (c : Bool) → cond (c && offers config packet d) (Some d) None ≡ if_offers config packet (cond c (Some d) None)
    by true = refl
    by false = refl

pub taking_node : (config : FamilyConfig) (packet : Packet) (i : PortInfo) (own : Option ℕ) → find (takes config packet) (node_door i own) ≡ if_offers config packet (find (fits config.addresses packet) (node_door i own))
taking_node config packet i None = refl
taking_node config packet i (Some n) =
    taking_one config packet (record { kind = door.Node; info = i; address = None; number = n })

-- the first door at an address that takes the packet, where the cluster address has none
pub taking_at : (config : FamilyConfig) (packet : Packet) (i : PortInfo) → takes config packet (door_at door.Cluster i i.address) ≡ false → find (takes config packet) (address_doors i) ≡ option_or (if_offers config packet (find (fits config.addresses packet) (map (door_at door.External i) i.external))) (if_offers config packet (find (fits config.addresses packet) (map (door_at door.Balancer i) i.balancer)))
taking_at config packet i none =
    ap (λ b. cond b (Some (door_at door.Cluster i i.address)) (find (takes config packet) (map (door_at door.External i) i.external ++ map (door_at door.Balancer i) i.balancer))) none
    ∙ find-append (takes config packet) (map (door_at door.External i) i.external) (map (door_at door.Balancer i) i.balancer)
    ∙ (λ j. option_or (taking config packet door.External i i.address i.external j) (taking config packet door.Balancer i i.address i.balancer j))

-- ---- what is known of a door's port

module _ (p : Door → Bool) (i : PortInfo) where
  abbrev IsOfPort : Option Door → Type 0
  IsOfPort o = IfSome o (λ d. d.info ≡ i)

  either : (a b : Option Door) → IsOfPort a → IsOfPort b → IsOfPort (option_or a b)
  either None b x y = y
  either (Some d) b x y = x

  first : (d : Door) (o : Option Door) → d.info ≡ i → IsOfPort o → (c : Bool) → IsOfPort (cond c (Some d) o)
  first d o x y true = x
  first d o x y false = y

  mapped : (kind : DoorKind) (xs : List AddressParts) → IsOfPort (find p (map (door_at kind i) xs))
  mapped kind [] = tt
  mapped kind (a ∷ xs) =
      first (door_at kind i a) (find p (map (door_at kind i) xs)) refl (mapped kind xs) (p (door_at kind i a))

  both : (xs ys : List Door) → IsOfPort (find p xs) → IsOfPort (find p ys) → IsOfPort (find p (xs ++ ys))
  both xs ys x y = subst IsOfPort (sym (find-append p xs ys)) (either (find p xs) (find p ys) x y)

  of_node : (own : Option ℕ) → IsOfPort (find p (node_door i own))
  of_node None = tt
  of_node (Some n) =
      let d : Door = record { kind = door.Node; info = i; address = None; number = n } in
      first d None refl tt (p d)

  -- a port's doors know it
  pub of_port : (g : Group) → IfSome (find p (group_doors g i)) (λ d. d.info ≡ i)
  of_port group.AtAddresses =
      first (door_at door.Cluster i i.address) (find p (map (door_at door.External i) i.external ++ map (door_at door.Balancer i) i.balancer)) refl
      (both (map (door_at door.External i) i.external) (map (door_at door.Balancer i) i.balancer) (mapped door.External i.external) (mapped door.Balancer i.balancer))
      (p (door_at door.Cluster i i.address))
  of_port group.AtNodePorts = of_node i.node_port

-- ---- lines

-- the first line that a packet fits is that of the first door
pub lined : (own : List AddressParts) (packet : Packet) (refusal : Refusal) (ds : List Door) → find (λ (l : Line). fits own packet l.door) (map (line_of refusal) ds) ≡ option_map (line_of refusal) (find (fits own packet) ds)
lined own packet refusal [] = refl
lined own packet refusal (d ∷ ds) = by (fits own packet d) (lined own packet refusal ds)
  where
    by : (c : Bool) → find (λ (l : Line). fits own packet l.door) (map (line_of refusal) ds) ≡ option_map (line_of refusal) (find (fits own packet) ds) → cond c (Some (line_of refusal d)) (find (λ (l : Line). fits own packet l.door) (map (line_of refusal) ds)) ≡ option_map (line_of refusal) (cond c (Some d) (find (fits own packet) ds))
    by true rest = refl
    by false rest = rest

-- the same of a port's doors at some addresses
pub lined_at : (own : List AddressParts) (packet : Packet) (refusal : Refusal) (kind : DoorKind) (i : PortInfo) (xs : List AddressParts) → find (λ (l : Line). fits own packet l.door) (map (λ a. line_of refusal (door_at kind i a)) xs) ≡ option_map (line_of refusal) (find (fits own packet) (map (door_at kind i) xs))
lined_at own packet refusal kind i xs =
    ap (find (λ (l : Line). fits own packet l.door)) (sym (map-map (line_of refusal) (door_at kind i) xs))
    ∙ lined own packet refusal (map (door_at kind i) xs)
