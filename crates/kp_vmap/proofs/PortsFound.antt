-- What is found at a packet's two destinations, as one list.
use Rattle.std.proofs.Common.{◌≡◌, ◌<◌, ◌≤◌, ◌^◌, Bool, true, false, cond, List, [], ◌∷◌, length}
use Rattle.std.proofs.Common.{filter, ap, ◌∙◌, arith}
use Rattle.std.specs.FinMap as finite
use Rattle.kp_types.specs.declared.packet.Packet.{Packet}
use Rattle.kp_object_defs.specs.PortInfo.{PortInfo}
use Rattle.kp_vmap.specs.Family.{IsPlaced, known_in}
use Rattle.kp_vmap.specs.Here.{at_address, at_node, is_here}
use Rattle.kp_vmap.specs.Merged.{merged}
use Rattle.kp_vmap.specs.Places.{at_place, stands_at}
use Rattle.kp_vmap.specs.declared.family.FamilyPorts.{FamilyPorts}
use Rattle.kp_vmap.proofs.LeftPorts.{values_left}
use Rattle.kp_vmap.proofs.MergedPorts.{merged_filters}
use Rattle.kp_vmap.proofs.PortsInOrder.{values_in_order}

-- the ports of which one stands there, in order
pub ports_found : (f : FamilyPorts) (packet : Packet) → IsPlaced f
    → merged (finite.values (at_place f.places.entries (at_address packet)))
    (finite.values (at_place f.places.entries (at_node packet)))
    ≡ filter (is_here packet) (finite.values (known_in f))
ports_found f packet h =
    let address = at_address packet in
    let node = at_node packet in
    (λ i. merged
    (values_left (stands_at address) (known_in f) (at_place f.places.entries address)
    (h.places address) i)
    (values_left (stands_at node) (known_in f) (at_place f.places.entries node) (h.places node) i))
    ∙ merged_filters (stands_at address) (stands_at node) (finite.values (known_in f))
    (values_in_order (known_in f) h.own)

no_longer : (p : PortInfo → Bool) (xs : List PortInfo) → length (filter p xs) ≤ length xs
no_longer p [] = omega arith
no_longer p (x ∷ xs) =
    let rest = no_longer p xs in
    elim (p x) as
    (λ b. length (cond b (x ∷ filter p xs) (filter p xs)) ≤ length (x ∷ xs)) [
      | true ↦ omega
          (arith, rest)
      | false ↦ omega (arith, rest)
    ]

-- what is left of few ports are few
pub few_left : (p : PortInfo → Bool) (all some : List PortInfo) → some ≡ filter p all
    → length all < 2 ^ 64 → length some < 2 ^ 64
few_left p all some is few = omega (arith, ap length is, no_longer p all, few)
