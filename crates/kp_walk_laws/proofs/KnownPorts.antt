-- The ports of some objects have keys of their own, and what is known of them hangs together.
use Rattle.std.proofs.Common.{◌≡◌, Bool, true, false, not, cond, ℕ, List, map, Option, Some, None, option_and_then, sym, ap, subst, ◌∙◌, T}
use Rattle.std.proofs.lemmas.Bool.{or_right}
use Rattle.std.specs.FinMap.{values}
use Rattle.std.proofs.Math.Bool.{not-not}
use Rattle.std.proofs.lemmas.Option.{cond_some}
use Rattle.kp_lemmas.proofs.Members.{from_filter_map, in_map}
use Rattle.kp_lemmas.proofs.Options.{from_option_map}
use Rattle.kp_base.specs.Net.{AddressParts}
use Rattle.kp_base.specs.declared.address.Family.{Family}
use Rattle.kp_base.specs.declared.address.Family.TheVariants.{V4, V6}
use Rattle.kp_base.specs.declared.key.PortKey.{PortKey}
use Rattle.kp_base.proofs.KeyOrder.{port_key_total}
use Rattle.kp_base.proofs.SameParts.{same_family_exact}
use Rattle.kp_types.specs.declared.info.ServiceSources.{ServiceSources}
use Rattle.kp_types.specs.declared.lists.Candidate.{Candidate}
use Rattle.kp_types.specs.declared.service.ClusterAddress.{ClusterAddress}
use Rattle.kp_types.specs.declared.service.ClusterAddress.TheVariants.{Absent, Headless, At}
use Rattle.kp_types.specs.declared.service.Service.{Service}
use Rattle.kp_types.specs.declared.service.ServicePort.{ServicePort}
use Rattle.kp_object_defs.specs.Desired.{address_in}
use Rattle.kp_object_defs.specs.Entries.{sources_of, entries_from}
use Rattle.kp_object_defs.specs.Lists.{has_any_endpoint}
use Rattle.kp_object_defs.specs.Objects.{zone_of}
use Rattle.kp_object_defs.specs.PortInfo.{PortInfo, port_infos, address_at, cluster_of_family, cluster_address_in, is_reachable_in, port_key_of, info_from, service_ports}
use Rattle.kp_object_laws.proofs.Lists.{none_usable, cluster_empty}
use Rattle.kp_table_laws.proofs.Entries.{one_sorted}
use Rattle.kp_table_laws.proofs.PortOrder.{ports_are_in_order}
use Rattle.kp_walk_laws.specs.Laws.{IsKnown, KnownPorts, PortKeysOnce}

-- an address of a family is of it
in_family : (family : Family) (a b : AddressParts) → address_in family a ≡ Some b
    → b.family ≡ family
in_family family a b h =
    let (is, same) = cond_some _ a b h in
    ap (λ (c : AddressParts). c.family) (sym same) ∙ same_family_exact a.family family is

at_family : (family : Family) (field : ClusterAddress) (b : AddressParts)
    → address_at family field ≡ Some b → b.family ≡ family
at_family family Absent b h = absurd (cc)
at_family family Headless b h = absurd (cc)
at_family family (At a) b h = in_family family a b h

of_option : (family : Family) (field : Option AddressParts) (b : AddressParts)
    → option_and_then (address_in family) field ≡ Some b → b.family ≡ family
of_option family None b h = absurd (cc)
of_option family (Some a) b h = in_family family a b h

-- what a Service gives for a family is of it
of_service : (family : Family) (s : Service) (b : AddressParts)
    → cluster_of_family family s ≡ Some b → b.family ≡ family
of_service V4 s b h = at_family V4 s.cluster b h
of_service V6 s b h = of_option V6 s.six.cluster b h

unless_name : (family : Family) (s : Service) (b : AddressParts) (name : Bool)
    → cond name None (cluster_of_family family s) ≡ Some b → b.family ≡ family
unless_name family s b true h = absurd (cc)
unless_name family s b false h = of_service family s b h

-- a cluster address in a family is of it
cluster_family : (family : Family) (s : Service) (b : AddressParts)
    → cluster_address_in family s ≡ Some b → b.family ≡ family
cluster_family family s b h = unless_name family s b _ h

-- what is known of a port
known_from : (family : Family) (s : Service) (p : ServicePort) (zone : Option (List ℕ))
    (entries : List Candidate) (address : AddressParts)
    → cluster_address_in family s ≡ Some address
    → IsKnown family (info_from family s p zone entries address)
known_from family s p zone entries address h = record {
  address = cluster_family family s address h;
  none = none_usable s.internal s.outer (is_reachable_in family s p) zone entries;
  any = λ reachable. sym (not-not (has_any_endpoint entries))
      ∙ ap not (sym (cluster_empty s.internal s.outer (is_reachable_in family s p) zone entries
      (or_right _ _ reachable)));
}

pub known_ports_by : KnownPorts
known_ports_by family config o i c =
    let zone : Option (List ℕ) = zone_of o config.node in
    let services : List ServiceSources = map (sources_of family config o) (values o.services) in
    let (sp, in_ports, made) = from_filter_map _ i (service_ports services) c in
    let entries : List Candidate =
    entries_from family config.node sp.0 (port_key_of sp.0.service sp.1) in
    let (address, found, is) = from_option_map (info_from family sp.0.service sp.1 zone entries)
    _ i made in
    subst (IsKnown family) is (known_from family sp.0.service sp.1 zone entries address found)

pub port_keys_once_by : PortKeysOnce
port_keys_once_by family config o i j ci cj same =
    let infos : List PortInfo = port_infos family config o in
    let named : PortInfo → PortKey × PortInfo = λ k. (k.key, k) in
    ap (λ (e : PortKey × PortInfo). e.1) (one_sorted port_key_total _
    (subst T (sym (ports_are_in_order family config o)) tt)
    _ _ (in_map named i infos ci) (in_map named j infos cj) same)
