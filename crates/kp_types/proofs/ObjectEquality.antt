-- The derived tests of Services, of their parts and of endpoints are true at equal ones alone.
use Rattle.std.proofs.Common.{◌≡◌, true, List, Option, refl, sym, ap, subst, ◌∙◌}
use Rattle.std.proofs.Math.Bool.{Bool-set}
use Rattle.std.proofs.lemmas.Bool.{false≢true, and_parts}
use Rattle.std.proofs.lemmas.Map.Views.{exact_unsigned_eq}
use denote.Enum.Declared.{values_one}
use Rattle.kp_lemmas.specs.Exact.{IsExact}
use Rattle.kp_lemmas.proofs.Equality.{AreExact, variants_exact, lists_exact, options_exact, one_field}
use Rattle.kp_base.specs.Net.{AddressParts, RangeParts}
use Rattle.kp_base.specs.declared.address.Family.{Family}
use Rattle.kp_base.specs.declared.key.ObjectKey.{ObjectKey}
use Rattle.kp_base.specs.declared.key.Pair.{Pair}
use Rattle.kp_base.specs.contracts.key.ObjectKeyPartialEq.TheImpl as key_eq
use Rattle.kp_base.specs.contracts.key.PairPartialEq.TheImpl as pair_eq
use Rattle.kp_base.proofs.SameParts.{bool_exact, text_test_exact, family_test_exact, proto_test_exact, address_test_exact, range_test_exact, endpoint_test_exact}
use Rattle.kp_types.specs.Ports.{distinct_ports}
use Rattle.kp_types.specs.declared.service.Service.{Service}
use Rattle.kp_types.specs.declared.service.Six.{Six}
use Rattle.kp_types.specs.declared.service.ServicePort.{ServicePort}
use Rattle.kp_types.specs.declared.service.ServiceKind.TheVariants.{ClusterIp, NodePort, LoadBalancer, ExternalName}
use Rattle.kp_types.specs.contracts.service.ServiceKindPartialEq.TheImpl as kind_eq
use Rattle.kp_types.specs.declared.service.Policy.TheVariants.{Cluster, Local}
use Rattle.kp_types.specs.contracts.service.PolicyPartialEq.TheImpl as policy_eq
use Rattle.kp_types.specs.contracts.service.ClusterAddress as cluster_row
use Rattle.kp_types.specs.contracts.service.ClusterAddressPartialEq.TheImpl as cluster_eq
use Rattle.kp_types.specs.contracts.service.TargetPort as target_row
use Rattle.kp_types.specs.contracts.service.TargetPortPartialEq.TheImpl as target_eq
use Rattle.kp_types.specs.contracts.service.ServicePortPartialEq.TheImpl as port_eq
use Rattle.kp_types.specs.contracts.service.SixPartialEq.TheImpl as six_eq
use Rattle.kp_types.specs.contracts.service.ServicePartialEq.TheImpl as service_eq
use Rattle.kp_types.specs.contracts.lists.CandidatePartialEq.TheImpl as candidate_eq

key_test_exact : IsExact key_eq.ghosts.eq
key_test_exact a b h =
    let p = and_parts _ _ h in
    λ i. record { namespace = text_test_exact a.namespace b.namespace p.0 i; name = text_test_exact a.name b.name p.1 i }

pub pair_exact : IsExact pair_eq.ghosts.eq
pair_exact a b h =
    let p = and_parts _ _ h in
    λ i. record { key = text_test_exact a.key b.key p.0 i; value = text_test_exact a.value b.value p.1 i }

kind_exact : IsExact kind_eq.ghosts.eq
kind_exact ClusterIp ClusterIp h = refl
kind_exact ClusterIp NodePort h = absurd (false≢true h)
kind_exact ClusterIp LoadBalancer h = absurd (false≢true h)
kind_exact ClusterIp ExternalName h = absurd (false≢true h)
kind_exact NodePort ClusterIp h = absurd (false≢true h)
kind_exact NodePort NodePort h = refl
kind_exact NodePort LoadBalancer h = absurd (false≢true h)
kind_exact NodePort ExternalName h = absurd (false≢true h)
kind_exact LoadBalancer ClusterIp h = absurd (false≢true h)
kind_exact LoadBalancer NodePort h = absurd (false≢true h)
kind_exact LoadBalancer LoadBalancer h = refl
kind_exact LoadBalancer ExternalName h = absurd (false≢true h)
kind_exact ExternalName ClusterIp h = absurd (false≢true h)
kind_exact ExternalName NodePort h = absurd (false≢true h)
kind_exact ExternalName LoadBalancer h = absurd (false≢true h)
kind_exact ExternalName ExternalName h = refl

policy_exact : IsExact policy_eq.ghosts.eq
policy_exact Cluster Cluster h = refl
policy_exact Cluster Local h = absurd (false≢true h)
policy_exact Local Cluster h = absurd (false≢true h)
policy_exact Local Local h = refl

cluster_exact : IsExact cluster_eq.ghosts.eq
unfolding AreExact
cluster_exact a b h =
    values_one cluster_row.enum a b (variants_exact cluster_row.enum.parts _
    (λ x y h. refl, (λ x y h. refl, (one_field _ address_test_exact, tt)))
    (cluster_row.enum.as_values a) (cluster_row.enum.as_values b) h)

pub target_port_exact : IsExact target_eq.ghosts.eq
unfolding AreExact
target_port_exact a b h =
    values_one target_row.enum a b (variants_exact target_row.enum.parts _
    (one_field _ exact_unsigned_eq, (one_field _ text_test_exact, tt))
    (target_row.enum.as_values a) (target_row.enum.as_values b) h)

pub service_port_exact : IsExact port_eq.ghosts.eq
service_port_exact a b h =
    let p = and_parts _ _ h in
    let q = and_parts _ _ p.1 in
    let r = and_parts _ _ q.1 in
    let s = and_parts _ _ r.1 in
    λ i. record {
      name = text_test_exact a.name b.name p.0 i;
      proto = proto_test_exact a.proto b.proto q.0 i;
      port = exact_unsigned_eq a.port b.port r.0 i;
      target = target_port_exact a.target b.target s.0 i;
      node_port = options_exact _ exact_unsigned_eq a.node_port b.node_port s.1 i;
    }

six_exact : IsExact six_eq.ghosts.eq
six_exact a b h =
    let cluster = and_parts _ _ h in
    let external = and_parts _ _ cluster.1 in
    let balancer = and_parts _ _ external.1 in
    λ i. record {
      cluster = options_exact _ address_test_exact a.cluster b.cluster cluster.0 i;
      external = lists_exact _ address_test_exact a.external b.external external.0 i;
      balancer = lists_exact _ address_test_exact a.balancer b.balancer balancer.0 i;
      ranges = lists_exact _ range_test_exact a.ranges b.ranges balancer.1 i;
    }

-- equal ports differ among themselves in one way
same_proof : (a : Service) (ports : List ServicePort) → a.ports ≡ ports
    → (d : distinct_ports ports ≡ true) → a ≡ record a { ports = ports; distinct = d }
same_proof a ports e =
    subst (λ ps. (d : distinct_ports ps ≡ true) → a ≡ record a { ports = ps; distinct = d }) e
    (λ d. ap (λ p. record a { distinct = p }) (Bool-set _ _ a.distinct d))

-- a Service that is put together of copies of its parts is itself
pub copied_is_one : (a : Service) (key : ObjectKey) (families : List Family) (ports : List ServicePort)
    (selector : List Pair) (external balancer : List AddressParts) (ranges : Option (List RangeParts))
    (six : Six) (differ : distinct_ports ports ≡ true)
    → key ≡ a.key → ◌≡◌ {A = List Family × List ServicePort × List Pair} (families, ports, selector) (a.families, a.ports, a.selector)
    → ◌≡◌ {A = List AddressParts × List AddressParts × Option (List RangeParts)} (external, balancer, ranges) (a.external, a.balancer, a.ranges)
    → six ≡ a.six
    → record a {
      key = key;
      families = families;
      ports = ports;
      selector = selector;
      external = external;
      balancer = balancer;
      ranges = ranges;
      six = six;
      distinct = differ;
    } ≡ a
copied_is_one a key families ports selector external balancer ranges six differ k f e s =
    (λ i. record a {
      key = k i;
      families = (f i).0;
      ports = ports;
      selector = (f i).2;
      external = (e i).0;
      balancer = (e i).1;
      ranges = (e i).2;
      six = s i;
      distinct = differ;
    })
    ∙ sym (same_proof a ports (sym (ap (λ (p : List Family × List ServicePort × List Pair). p.1) f)) differ)

pub service_exact : IsExact service_eq.ghosts.eq
service_exact a b h =
    let key = and_parts _ _ h in
    let kind = and_parts _ _ key.1 in
    let cluster = and_parts _ _ kind.1 in
    let families = and_parts _ _ cluster.1 in
    let ports = and_parts _ _ families.1 in
    let selector = and_parts _ _ ports.1 in
    let external = and_parts _ _ selector.1 in
    let affinity = and_parts _ _ external.1 in
    let internal = and_parts _ _ affinity.1 in
    let outer = and_parts _ _ internal.1 in
    let publish = and_parts _ _ outer.1 in
    let ranges = and_parts _ _ publish.1 in
    let zone = and_parts _ _ ranges.1 in
    let health = and_parts _ _ zone.1 in
    let balancer = and_parts _ _ health.1 in
    same_proof a b.ports (lists_exact _ service_port_exact a.ports b.ports ports.0) b.distinct
    ∙ (λ i. record {
      key = key_test_exact a.key b.key key.0 i;
      kind = kind_exact a.kind b.kind kind.0 i;
      cluster = cluster_exact a.cluster b.cluster cluster.0 i;
      families = lists_exact _ family_test_exact a.families b.families families.0 i;
      ports = b.ports;
      selector = lists_exact _ pair_exact a.selector b.selector selector.0 i;
      external = lists_exact _ address_test_exact a.external b.external external.0 i;
      affinity = options_exact _ exact_unsigned_eq a.affinity b.affinity affinity.0 i;
      internal = policy_exact a.internal b.internal internal.0 i;
      outer = policy_exact a.outer b.outer outer.0 i;
      publish_not_ready = bool_exact a.publish_not_ready b.publish_not_ready publish.0 i;
      ranges = options_exact _ (lists_exact _ range_test_exact) a.ranges b.ranges ranges.0 i;
      same_zone = bool_exact a.same_zone b.same_zone zone.0 i;
      health = options_exact _ exact_unsigned_eq a.health b.health health.0 i;
      balancer = lists_exact _ address_test_exact a.balancer b.balancer balancer.0 i;
      six = six_exact a.six b.six balancer.1 i;
      distinct = b.distinct;
    })

pub candidate_exact : IsExact candidate_eq.ghosts.eq
candidate_exact a b h =
    let endpoint = and_parts _ _ h in
    let ready = and_parts _ _ endpoint.1 in
    let serving = and_parts _ _ ready.1 in
    let terminating = and_parts _ _ serving.1 in
    let local = and_parts _ _ terminating.1 in
    λ i. record {
      endpoint = endpoint_test_exact a.endpoint b.endpoint endpoint.0 i;
      ready = bool_exact a.ready b.ready ready.0 i;
      serving = bool_exact a.serving b.serving serving.0 i;
      terminating = bool_exact a.terminating b.terminating terminating.0 i;
      local = bool_exact a.local b.local local.0 i;
      hints = lists_exact _ text_test_exact a.hints b.hints local.1 i;
    }
