-- Worked readings of EndpointSlices (Kubernetes API, EndpointSlice discovery.k8s.io/v1).
use Rattle.std.specs.Prelude.{ℕ, true, false, List, [], ◌∷◌, ◌++◌, codes, Option, Some, None}
use Rattle.kp_base.specs.Net.{AddressParts, v4_address}
use Rattle.kp_base.specs.declared.port.Proto.TheVariants.{Tcp, Udp}
use Rattle.kp_json.specs.Answers.{fault_at}
use Rattle.kp_json.specs.declared.fault.Why.TheVariants.{BadAddress}
use Rattle.kp_types.specs.declared.slice.AddressType.{AddressType}
use Rattle.kp_types.specs.declared.slice.AddressType.TheVariants.{Ipv4, Ipv6, Fqdn}
use Rattle.kp_types.specs.declared.slice.Slice.{Slice}
use Rattle.kp_event_defs.specs.SliceText.{read_slice}
use Rattle.kp_worked_texts.specs.Readings.{Reads, Refuses}
use Rattle.kp_worked_texts.specs.Services.{local_six}

-- a text reads as a slice
abbrev pub Is : List ℕ → Slice → Type 0
Is text slice = Reads (λ s. s) read_slice text slice

-- a slice with all its members
abbrev pub All : Type 0
All =
    Is
    (codes "{'metadata':{'name':'s','namespace':'shop','labels':{'kubernetes.io/service-name':'web',"
    ++ codes "'endpointslice.kubernetes.io/managed-by':'endpointslice-controller.k8s.io',"
    ++ codes "'x':null}},'addressType':'IPv4','ports':[{},{'name':'http','protocol':'UDP',"
    ++ codes "'port':65535}],'endpoints':[{'addresses':['0.0.0.1','x'],"
    ++ codes "'conditions':{'ready':false},'nodeName':'n1','zone':'A',"
    ++ codes "'hints':{'forZones':[{'name':'a'},{'name':'b'}]},"
    ++ codes "'targetRef':{'kind':'Pod','name':'p'}},{'addresses':['fd00::1'],"
    ++ codes "'conditions':{'serving':false,'terminating':true,'ready':null},"
    ++ codes "'targetRef':{'kind':'Pod','namespace':'other','name':'p'}},"
    ++ codes "{'addresses':['0.0.0.3'],'nodeName':'','zone':'',"
    ++ codes "'targetRef':{'kind':'Node','name':5}}]}")
    (record {
      key = record { namespace = codes "shop"; name = codes "s" };
      service = Some (codes "web");
      managed = true;
      family = Ipv4;
      ports =
          record { name = []; proto = Tcp; port = None }
          ∷ record { name = codes "http"; proto = Udp; port = Some 65535 } ∷ [];
      endpoints =
          record {
            address = Some (v4_address 1);
            ready = false;
            serving = false;
            terminating = false;
            node = Some (codes "n1");
            zone = Some (codes "A");
            hints = codes "a" ∷ codes "b" ∷ [];
            pod = Some (record { namespace = codes "shop"; name = codes "p" });
          }
          ∷ record {
            address = Some (local_six 1);
            ready = true;
            serving = false;
            terminating = true;
            node = None;
            zone = None;
            hints = [];
            pod = Some (record { namespace = codes "other"; name = codes "p" });
          }
          ∷ record {
            address = Some (v4_address 3);
            ready = true;
            serving = true;
            terminating = false;
            node = None;
            zone = None;
            hints = [];
            pod = None;
          }
          ∷ [];
    })

-- a slice of another address type, with one endpoint
abbrev pub other : AddressType → Option AddressParts → Slice
other family address = record {
  key = record { namespace = codes "default"; name = codes "s" };
  service = None;
  managed = false;
  family = family;
  ports = [];
  endpoints =
      record {
        address = address;
        ready = true;
        serving = true;
        terminating = false;
        node = None;
        zone = None;
        hints = [];
        pod = None;
      }
      ∷ [];
}

-- a slice of host names, which aren't read, with labels that are empty
abbrev pub HostNames : Type 0
HostNames =
    Is
    (codes "{'metadata':{'name':'s','labels':{'kubernetes.io/service-name':'',"
    ++ codes "'endpointslice.kubernetes.io/managed-by':''}},'addressType':'FQDN',"
    ++ codes "'endpoints':[{'addresses':['']}]}")
    (other Fqdn None)

-- one of IPv6
abbrev pub InSix : Type 0
InSix =
    Is
    (codes "{'metadata':{'name':'s'},'addressType':'IPv6','endpoints':[{'addresses':['FD00:0::2']}]}")
    (other Ipv6 (Some (local_six 2)))

-- an address of the other family stays with its endpoint
abbrev pub OtherFamily : Type 0
OtherFamily =
    Is
    (codes "{'metadata':{'name':'s'},'addressType':'IPv6','endpoints':[{'addresses':['10.244.1.2']}]}")
    (other Ipv6 (Some (v4_address 183763202)))

-- a text of neither family is refused
abbrev pub Fault : Type 0
Fault =
    Refuses read_slice
    (codes "{'metadata':{'name':'s'},'addressType':'IPv6','endpoints':[{'addresses':['x']}]}")
    (fault_at BadAddress (codes "endpoints[0].addresses[0]"))
