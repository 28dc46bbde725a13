-- Worked readings of Services (Kubernetes API, Service v1).
use Rattle.std.specs.Prelude.{ℕ, ◌+◌, ◌*◌, ◌^◌, true, false, refl, List, [], ◌∷◌, ◌++◌, codes, Option, Some, None}
use Rattle.kp_base.specs.Net.{AddressParts, RangeParts, v4_address, v6_address}
use Rattle.kp_base.specs.declared.address.Family.{Family}
use Rattle.kp_base.specs.declared.address.Family.TheVariants.{V4, V6}
use Rattle.kp_base.specs.declared.port.Proto.TheVariants.{Tcp, Udp, Sctp}
use Rattle.kp_json.specs.Answers.{fault_at}
use Rattle.kp_json.specs.declared.fault.Why.{Why}
use Rattle.kp_json.specs.declared.fault.Why.TheVariants.{BadAddress, BadCidr, OutOfRange}
use Rattle.kp_types.specs.declared.service.Service.{Service}
use Rattle.kp_types.specs.declared.service.Six.{Six}
use Rattle.kp_types.specs.declared.service.ServiceKind.{ServiceKind}
use Rattle.kp_types.specs.declared.service.ServiceKind.TheVariants.{ClusterIp, NodePort, LoadBalancer}
use Rattle.kp_types.specs.declared.service.ClusterAddress.{ClusterAddress}
use Rattle.kp_types.specs.declared.service.ClusterAddress.TheVariants.{Absent, Headless, At}
use Rattle.kp_types.specs.declared.service.Policy.TheVariants.{Cluster, Local}
use Rattle.kp_types.specs.declared.service.TargetPort.TheVariants.{Number, Named}
use Rattle.kp_event_defs.specs.ServiceText.{read_service}
use Rattle.kp_worked_texts.specs.Readings.{Reads, Refuses}

-- a text reads as a Service
abbrev pub Is : List ℕ → Service → Type 0
Is text service = Reads (λ s. s) read_service text service

-- an address of fd00::/112
abbrev pub local_six : ℕ → AddressParts
local_six n = v6_address (253 * 2 ^ 120 + n)

-- the range fd00::/8
abbrev pub local_range : RangeParts
local_range = record { base = local_six 0; bits = 8 }

-- nothing of IPv6
abbrev pub no_six : Six
no_six = record { cluster = None; external = []; balancer = []; ranges = [] }

-- a Service with all its members
abbrev pub All : Type 0
All =
    Is
    (codes "{'metadata':{'name':'web','namespace':'shop'},'spec':{'type':'LoadBalancer',"
    ++ codes "'clusterIP':'0.0.1.0','ports':[{'name':'http','port':65535,'targetPort':'web',"
    ++ codes "'nodePort':65535},{'name':'http','protocol':'UDP','port':1,'targetPort':65535},"
    ++ codes "{'protocol':'SCTP','port':2,'targetPort':0}],'selector':{'b':'y','a':'','c':null},"
    ++ codes "'externalIPs':['0.0.0.1','fd00::1'],'sessionAffinity':'ClientIP',"
    ++ codes "'sessionAffinityConfig':{'clientIP':{'timeoutSeconds':86400}},"
    ++ codes "'internalTrafficPolicy':'Local','externalTrafficPolicy':'Local',"
    ++ codes "'publishNotReadyAddresses':true,'loadBalancerSourceRanges':['0.0.1.7/24','fd00::7/8'],"
    ++ codes "'trafficDistribution':'PreferClose','healthCheckNodePort':65535},"
    ++ codes "'status':{'loadBalancer':{'ingress':["
    ++ codes "{'ip':'0.0.0.9'},{'ip':'0.0.0.8','ipMode':'Proxy'},{'ip':'0.0.0.7','ipMode':'VIP'},"
    ++ codes "{'hostname':'x'},{'ip':'fd00::9'}]}}}")
    (record {
      key = record { namespace = codes "shop"; name = codes "web" };
      kind = LoadBalancer;
      cluster = At (v4_address 256);
      families = V4 ∷ [];
      ports =
          record {
            name = codes "http";
            proto = Tcp;
            port = 65535;
            target = Named (codes "web");
            node_port = Some 65535;
          }
          ∷ record {
            name = codes "http";
            proto = Udp;
            port = 1;
            target = Number 65535;
            node_port = None;
          }
          ∷ record { name = []; proto = Sctp; port = 2; target = Number 2; node_port = None } ∷ [];
      selector =
          record { key = codes "a"; value = [] } ∷ record { key = codes "b"; value = codes "y" }
          ∷ [];
      external = v4_address 1 ∷ [];
      affinity = Some 86400;
      internal = Local;
      outer = Local;
      publish_not_ready = true;
      ranges = Some (record { base = v4_address 256; bits = 24 } ∷ []);
      same_zone = true;
      health = Some 65535;
      balancer = v4_address 9 ∷ v4_address 7 ∷ [];
      six = record {
        cluster = None;
        external = local_six 1 ∷ [];
        balancer = local_six 9 ∷ [];
        ranges = local_range ∷ [];
      };
      distinct = refl;
    })

-- the Service default/web without ports
abbrev pub bare : ServiceKind → ClusterAddress → Option ℕ → Option (List RangeParts) → Service
bare kind cluster affinity ranges = record {
  key = record { namespace = codes "default"; name = codes "web" };
  kind = kind;
  cluster = cluster;
  families = V4 ∷ [];
  ports = [];
  selector = [];
  external = [];
  affinity = affinity;
  internal = Cluster;
  outer = Cluster;
  publish_not_ready = false;
  ranges = ranges;
  same_zone = false;
  health = None;
  balancer = [];
  six = no_six;
  distinct = refl;
}

-- members that are absent have defaults
abbrev pub Defaults : Type 0
Defaults =
    Is (codes "{'metadata':{'name':'web','namespace':''},'spec':{}}")
    (bare ClusterIp Absent None None)

-- so do those that are empty
abbrev pub Empty : Type 0
Empty =
    Is
    (codes "{'metadata':{'name':'web'},'spec':{'type':'','clusterIP':'','ports':[{'name':'',"
    ++ codes "'protocol':'','port':1,'targetPort':'','nodePort':0}],'sessionAffinity':'',"
    ++ codes "'internalTrafficPolicy':'','externalTrafficPolicy':'','loadBalancerSourceRanges':[],"
    ++ codes "'clusterIPs':[],'ipFamilies':[],'healthCheckNodePort':0,"
    ++ codes "'trafficDistribution':''},'status':{'loadBalancer':{'ingress':[{'ip':''}]}}}")
    (record {
      key = record { namespace = codes "default"; name = codes "web" };
      kind = ClusterIp;
      cluster = Absent;
      families = V4 ∷ [];
      ports =
          record { name = []; proto = Tcp; port = 1; target = Number 1; node_port = None } ∷ [];
      selector = [];
      external = [];
      affinity = None;
      internal = Cluster;
      outer = Cluster;
      publish_not_ready = false;
      ranges = None;
      same_zone = false;
      health = None;
      balancer = [];
      six = no_six;
      distinct = refl;
    })

-- the Service default/web without ports, with these families and IPv6 cluster address
abbrev pub with_six : ClusterAddress → List Family → Option AddressParts → Service
with_six cluster families six = record (bare ClusterIp cluster None None) {
  families = families;
  six = record no_six { cluster = six };
}

-- an IPv6 cluster address; of a member that comes twice the last counts
abbrev pub SixAlone : Type 0
SixAlone =
    Is
    (codes "{'metadata':{'name':'web'},'spec':{'clusterIP':'fd00::1','type':'ExternalName',"
    ++ codes "'type':'ClusterIP'}}")
    (with_six Absent (V6 ∷ []) (Some (local_six 1)))

-- IPv6 stands first: each family has its address
abbrev pub SixFirst : Type 0
SixFirst =
    Is
    (codes "{'metadata':{'name':'web'},'spec':{'clusterIP':'fd00::6',"
    ++ codes "'clusterIPs':['fd00::6','10.96.1.6']}}")
    (with_six (At (v4_address 174063878)) (V6 ∷ V4 ∷ []) (Some (local_six 6)))

-- a list of cluster addresses hides the single one
abbrev pub ListHides : Type 0
ListHides =
    Is
    (codes "{'metadata':{'name':'web'},'spec':{'clusterIP':'10.96.1.6','clusterIPs':['fd00::6']}}")
    (with_six Absent (V6 ∷ []) (Some (local_six 6)))

-- families that are listed go before those of the addresses, and twice counts once
abbrev pub Listed : Type 0
Listed =
    Is
    (codes "{'metadata':{'name':'web'},'spec':{'clusterIP':'10.96.1.6',"
    ++ codes "'ipFamilies':['IPv6','IPv4','IPv6']}}")
    (with_six (At (v4_address 174063878)) (V6 ∷ V4 ∷ []) None)

-- a headless Service of IPv6
abbrev pub HeadlessSix : Type 0
HeadlessSix =
    Is (codes "{'metadata':{'name':'web'},'spec':{'clusterIPs':['None'],'ipFamilies':['IPv6']}}")
    (with_six Headless (V6 ∷ []) None)

-- `None` beside an address makes a Service headless in both families
abbrev pub NoneAnywhere : Type 0
NoneAnywhere =
    Is (codes "{'metadata':{'name':'web'},'spec':{'clusterIPs':['fd00::6','None']}}")
    (with_six Headless (V4 ∷ []) None)

-- the first address of a family counts
abbrev pub FirstOfFamily : Type 0
FirstOfFamily =
    Is (codes "{'metadata':{'name':'web'},'spec':{'clusterIPs':['fd00::6','fd00::7']}}")
    (with_six Absent (V6 ∷ []) (Some (local_six 6)))

-- the first fault of the Service with this specification
abbrev pub Fault : List ℕ → Why → List ℕ → Type 0
Fault spec why path =
    Refuses read_service (codes "{'metadata':{'name':'web'},'spec':" ++ spec ++ codes "}") (fault_at why path)

-- texts that are no address and no range of either family, no family, and no port
abbrev pub Faults : Type 0
Faults =
    Fault (codes "{'clusterIP':'None','clusterIPs':['10.96.1.6','']}") BadAddress (codes "spec.clusterIPs[1]")
    × Fault (codes "{'clusterIP':'x','clusterIPs':['fd00::6']}") BadAddress (codes "spec.clusterIP")
    × Fault (codes "{'ipFamilies':['IPv4','']}") OutOfRange (codes "spec.ipFamilies[1]")
    × Fault (codes "{'ipFamilies':['ipv6']}") OutOfRange (codes "spec.ipFamilies[0]")
    × Fault (codes "{'externalIPs':['fe80::1%eth0']}") BadAddress (codes "spec.externalIPs[0]")
    × Fault (codes "{'loadBalancerSourceRanges':['fd00::/129']}") BadCidr
    (codes "spec.loadBalancerSourceRanges[0]")
    × Fault (codes "{'healthCheckNodePort':65536}") OutOfRange (codes "spec.healthCheckNodePort")

-- a Service without a cluster address; source ranges of IPv6 alone admit nobody of IPv4
abbrev pub Closed : Type 0
Closed =
    Is
    (codes "{'metadata':{'name':'web'},'spec':{'clusterIP':'None','sessionAffinity':'ClientIP',"
    ++ codes "'loadBalancerSourceRanges':['fd00::/8'],'trafficDistribution':'Other',"
    ++ codes "'type':'NodePort'}}")
    (record (bare NodePort Headless (Some 10800) (Some [])) {
      six = record no_six { ranges = local_range ∷ [] };
    })
