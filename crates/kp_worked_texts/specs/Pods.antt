-- Worked readings of Pods and Nodes (Kubernetes API, Pod v1 and Node v1).
use Rattle.std.specs.Prelude.{ℕ, Bool, true, false, List, [], ◌∷◌, ◌++◌, codes, Option, Some, None}
use Rattle.kp_base.specs.Net.{AddressParts, v4_address}
use Rattle.kp_base.specs.declared.port.Proto.TheVariants.{Tcp, Sctp}
use Rattle.kp_json.specs.Answers.{fault_at}
use Rattle.kp_json.specs.declared.fault.Why.TheVariants.{BadAddress}
use Rattle.kp_types.specs.declared.pod.Pod.{Pod}
use Rattle.kp_event_defs.specs.PodText.{read_pod, read_node}
use Rattle.kp_worked_texts.specs.Readings.{Reads, Refuses}
use Rattle.kp_worked_texts.specs.Services.{local_six}

-- a text reads as a Pod
abbrev pub Is : List ℕ → Pod → Type 0
Is text pod = Reads (λ p. p) read_pod text pod

-- a Pod with all its members
abbrev pub All : Type 0
All =
    Is
    (codes "{'metadata':{'name':'p','namespace':'shop','labels':{'b':'y','a':'x'},"
    ++ codes "'deletionTimestamp':'2024-01-01T00:00:00Z'},'spec':{'nodeName':'n1','containers':["
    ++ codes "{'ports':[{'name':'http','containerPort':65535}]},{},"
    ++ codes "{'ports':[{'protocol':'SCTP','containerPort':1}]}]},"
    ++ codes "'status':{'phase':'Running','podIP':'0.0.0.1','conditions':["
    ++ codes "{'type':'Initialized','status':'False'},{'type':'Ready','status':'True'},"
    ++ codes "{'type':'Ready','status':'False'}]}}")
    (record {
      key = record { namespace = codes "shop"; name = codes "p" };
      labels =
          record { key = codes "a"; value = codes "x" }
          ∷ record { key = codes "b"; value = codes "y" } ∷ [];
      deleting = true;
      node = Some (codes "n1");
      ports =
          record { name = codes "http"; proto = Tcp; port = 65535 }
          ∷ record { name = []; proto = Sctp; port = 1 } ∷ [];
      finished = false;
      address = Some (v4_address 1);
      address6 = None;
      ready = true;
    })

-- a Pod on no node, without an address and not ready, that may have finished
abbrev pub idle : Bool → Pod
idle finished = record {
  key = record { namespace = codes "default"; name = codes "p" };
  labels = [];
  deleting = false;
  node = None;
  ports = [];
  finished = finished;
  address = None;
  address6 = None;
  ready = false;
}

-- a Pod with these addresses alone
abbrev pub addressed : Option AddressParts → Option AddressParts → Pod
addressed four six = record (idle false) { address = four; address6 = six }

-- IPv6 stands first: each family has its address
abbrev pub SixFirst : Type 0
SixFirst =
    Is
    (codes "{'metadata':{'name':'p'},'status':{'podIP':'fd00::2',"
    ++ codes "'podIPs':[{'ip':'fd00::2'},{'ip':'10.244.1.2'}]}}")
    (addressed (Some (v4_address 183763202)) (Some (local_six 2)))

-- a list with an address of either family hides the single one
abbrev pub ListHides : Type 0
ListHides =
    Is
    (codes "{'metadata':{'name':'p'},'status':{'podIP':'10.244.1.2',"
    ++ codes "'podIPs':[{},{'ip':'fd00::2'},{'ip':'fd00::3'}]}}")
    (addressed None (Some (local_six 2)))

-- one without an address doesn't
abbrev pub EmptyList : Type 0
EmptyList =
    Is (codes "{'metadata':{'name':'p'},'status':{'podIP':'10.244.1.2','podIPs':[{},{'ip':''}]}}")
    (addressed (Some (v4_address 183763202)) None)

-- the single address is read for faults, and each of the list
abbrev pub Faults : Type 0
Faults =
    Refuses read_pod
    (codes "{'metadata':{'name':'p'},'status':{'podIP':'x','podIPs':[{'ip':'fd00::2'}]}}")
    (fault_at BadAddress (codes "status.podIP"))
    × Refuses read_pod
    (codes "{'metadata':{'name':'p'},'status':{'podIPs':[{'ip':'fd00::2'},{'ip':'::1%lo'}]}}")
    (fault_at BadAddress (codes "status.podIPs[1].ip"))

-- a Pod of IPv6 that succeeded; the first condition of readiness counts
abbrev pub Succeeded : Type 0
Succeeded =
    Is
    (codes "{'metadata':{'name':'p'},'status':{'phase':'Succeeded','podIP':'fd00::1','conditions':["
    ++ codes "{'type':'Ready','status':'False'},{'type':'Ready','status':'True'}]}}")
    (record (idle true) { address6 = Some (local_six 1) })

-- one that failed, with members that are empty
abbrev pub Failed : Type 0
Failed =
    Is
    (codes "{'metadata':{'name':'p','deletionTimestamp':''},'spec':{'nodeName':''},"
    ++ codes "'status':{'phase':'Failed','podIP':'','conditions':["
    ++ codes "{'type':'','status':'True'},{'status':'True'}]}}")
    (idle true)

-- a phase that isn't known is not the end
abbrev pub OtherPhase : Type 0
OtherPhase =
    Is (codes "{'metadata':{'name':'p'},'status':{'phase':'succeeded'}}") (idle false)

-- the node n1, in a zone or in none
abbrev pub IsNode : List ℕ → Option (List ℕ) → Type 0
IsNode text zone = Reads (λ n. n) read_node text (record { name = codes "n1"; zone = zone })

-- a node's zone is a label; a node has no namespace
abbrev pub Zoned : Type 0
Zoned =
    IsNode
    (codes "{'metadata':{'name':'n1','namespace':5,"
    ++ codes "'labels':{'topology.kubernetes.io/zone':'A.b_c'}}}")
    (Some (codes "A.b_c"))

-- a label that is empty is none
abbrev pub Unzoned : Type 0
Unzoned =
    IsNode (codes "{'metadata':{'name':'n1','labels':{'topology.kubernetes.io/zone':''}}}") None
