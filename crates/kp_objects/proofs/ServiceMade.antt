-- The Service that was read, put together. The rows see to it that its ports differ.
use Rattle.std.proofs.Common.{◌≡◌, Bool, true, false, List, Option, None, option_map, Result, Ok, Err, codes, refl, ap, sym, subst, ◌∙◌}
use Rattle.std.proofs.Math.Bool.{Bool-set}
use Rattle.std.proofs.lemmas.Bool.{true≢false}
use Rattle.kp_json.specs.Answers.{Gives}
use Rattle.kp_json.specs.Places.{Place}
use Rattle.kp_json.specs.declared.fault.FieldFault.{FieldFault}
use Rattle.kp_json.specs.declared.fault.FieldFault.TheVariants.{Bad, NoMemory}
use Rattle.kp_base.specs.Net.{AddressParts, RangeParts}
use Rattle.kp_base.specs.declared.address.Family.{Family}
use Rattle.kp_base.specs.declared.address.Family.TheVariants.{V4}
use Rattle.kp_base.specs.declared.key.ObjectKey.{ObjectKey}
use Rattle.kp_types.specs.Ports.{distinct_ports}
use Rattle.kp_types.specs.declared.service.ClusterAddress.{ClusterAddress}
use Rattle.kp_types.specs.declared.service.Six.{Six}
use Rattle.kp_types.specs.declared.service.Service.{Service}
use Rattle.kp_row_defs.specs.Fields.{inner, key_in}
use Rattle.kp_row_defs.specs.Reads.{Reads}
use Rattle.kp_row_defs.specs.Rows.{rows_fault}
use Rattle.kp_event_defs.specs.FamilyParts.{addresses_of, ranges_in}
use Rattle.kp_event_defs.specs.ServiceText.{balancer_addresses, cluster_addresses, cluster_of, families_of, six_of_parts, service_from, service_ports, service_rows, service_unless, read_service}
use Rattle.kp_objects.specs.declared.service.spec.ServiceSpec.{ServiceSpec}
use Rattle.kp_objects.specs.ServiceParts.{Parts, clusters_of, made_of, spec_from}

-- what is read one after another at a place
abbrev parts_at : Place → Parts
parts_at p = (key_in p, spec_from (inner (codes "spec") p), balancer_addresses p)

-- what is read is one Service, however it is shown that the ports differ
unless_none : (p : Place) (b : Bool) (is : distinct_ports (service_ports p) ≡ b) (differ : distinct_ports (service_ports p) ≡ true)
    → service_unless None p b is ≡ Ok (made_of (parts_at p) differ)
unless_none p true is differ = ap (λ d. Ok (service_from p d)) (Bool-set (distinct_ports (service_ports p)) true is differ)
unless_none p false is differ = absurd (true≢false (sym differ ∙ is))

-- where no row is at fault, what is made of the parts is what reading gives
pub read_as : (p : Place) (parts : Parts) (differ : distinct_ports parts.1.ports ≡ true) → rows_fault service_rows p ≡ None → parts_at p ≡ parts
    → read_service p ≡ Ok (made_of parts differ)
read_as p parts differ none is =
    ap (λ fault. service_unless fault p (distinct_ports (service_ports p)) refl) none
    ∙ subst (λ f. (d : distinct_ports f.1.ports ≡ true) → service_unless None p (distinct_ports (service_ports p)) refl ≡ Ok (made_of f d)) is
    (unless_none p (distinct_ports (service_ports p)) refl) differ

-- what is made of the parts, where no row is at fault, is what reading gives
pub made_gives : (p : Place) (r : Result Service FieldFault) (parts : Parts) (differ : distinct_ports parts.1.ports ≡ true) → rows_fault service_rows p ≡ None
    → parts_at p ≡ parts → Reads (λ s. s) r None (made_of parts differ) → Gives (λ s. s) r (read_service p)
made_gives p (Ok s) parts differ none is h = read_as p parts differ none is ∙ ap Ok (sym h.1)
made_gives p (Err (NoMemory refused)) parts differ none is h = tt
made_gives p (Err (Bad e)) parts differ none is h = absurd (cc)

-- the parts as they were made
pub put_together : (key : ObjectKey) (spec : ServiceSpec) (given balancer external : List AddressParts) (cluster : ClusterAddress) (families : List Family)
    (ranges : Option (List RangeParts)) (six : Six) (d differ : distinct_ports spec.ports ≡ true)
    → cluster ≡ cluster_of (clusters_of spec) → families ≡ families_of spec.families (cluster_addresses (clusters_of spec))
    → external ≡ addresses_of V4 spec.external → ranges ≡ option_map (ranges_in V4) spec.ranges → balancer ≡ addresses_of V4 given
    → six ≡ six_of_parts (cluster_addresses (clusters_of spec)) spec.external given spec.ranges
    → record {
      key = key;
      kind = spec.kind;
      cluster = cluster;
      families = families;
      ports = spec.ports;
      selector = spec.selector;
      external = external;
      affinity = spec.affinity;
      internal = spec.internal;
      outer = spec.outer;
      publish_not_ready = spec.publish_not_ready;
      ranges = ranges;
      same_zone = spec.same_zone;
      health = spec.health;
      balancer = balancer;
      six = six;
      distinct = d;
    } ≡ made_of (key, spec, given) differ
put_together key spec given balancer external cluster families ranges six d differ at_cluster at_families at_external at_ranges at_balancer at_six =
    λ i. record {
      key = key;
      kind = spec.kind;
      cluster = at_cluster i;
      families = at_families i;
      ports = spec.ports;
      selector = spec.selector;
      external = at_external i;
      affinity = spec.affinity;
      internal = spec.internal;
      outer = spec.outer;
      publish_not_ready = spec.publish_not_ready;
      ranges = at_ranges i;
      same_zone = spec.same_zone;
      health = spec.health;
      balancer = at_balancer i;
      six = at_six i;
      distinct = Bool-set (distinct_ports spec.ports) true d differ i;
    }
