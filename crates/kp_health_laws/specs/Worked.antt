-- Health ports worked out: the Service of the other examples as one of type LoadBalancer with the
-- external policy Local and the health port 31000, on the node n1.
use Rattle.std.specs.Prelude.{◌≡◌, ℕ, true, false, List, [], ◌∷◌, ◌++◌, codes, length, Option, Some, None}
use Rattle.kp_base.specs.Net.{v6_address}
use Rattle.kp_base.specs.declared.address.Family.TheVariants.{V4}
use Rattle.kp_types.specs.declared.lists.Candidate.{Candidate}
use Rattle.kp_types.specs.declared.service.ClusterAddress.TheVariants.{Headless}
use Rattle.kp_types.specs.declared.service.Policy.TheVariants.{Cluster, Local}
use Rattle.kp_types.specs.declared.service.Service.{Service}
use Rattle.kp_types.specs.declared.service.ServiceKind.TheVariants.{LoadBalancer, NodePort}
use Rattle.kp_types.specs.declared.slice.SliceEndpoint.{SliceEndpoint}
use Rattle.kp_object_defs.specs.Entries.{entries_from}
use Rattle.kp_restore_defs.specs.BatchText.{batch_text_of}
use Rattle.kp_worked.specs.Setting.{config, default_key, first, ipv4, second, service_at, terminating, web_port, with_endpoints}
use Rattle.kp_health_defs.specs.AcceptRules.{health_batch_of}
use Rattle.kp_health_defs.specs.HealthPorts.{health_of}
use Rattle.kp_health_defs.specs.HealthText.{body_text, head_text, health_line, line_end}
use Rattle.kp_health_defs.specs.declared.health.Health.{Health}

-- the Service
abbrev pub asked : Service
asked =
    record (service_at (codes "web") (ipv4 10 96 0 10) (Some 30080)) {
      kind = LoadBalancer;
      outer = Local;
      health = Some 31000;
    }

-- the endpoints of its port, by those of its slice
abbrev pub of_port : List SliceEndpoint → List Candidate
of_port es = entries_from V4 (codes "n1") (with_endpoints asked es) web_port

-- what its health port answers
abbrev pub answered : List SliceEndpoint → Option Health
answered es = health_of config asked (of_port es ∷ [])

-- an answer of its health port
abbrev pub answer : ℕ → ℕ → Health
answer status count =
    record {
      service = default_key (codes "web");
      port = 31000;
      status = status;
      count = count;
    }

-- ---- What counts

-- one endpoint is on n1
abbrev pub OneHere : Type 0
OneHere = answered (first ∷ second ∷ []) ≡ Some (answer 200 1)

-- none is
abbrev pub NoneHere : Type 0
NoneHere = answered (second ∷ []) ≡ Some (answer 503 0)

-- the one on n1 serves and terminates
abbrev pub Terminates : Type 0
Terminates = answered (terminating first ∷ second ∷ []) ≡ Some (answer 503 0)

-- there is no port
abbrev pub WithoutPorts : Type 0
WithoutPorts = health_of config asked [] ≡ Some (answer 503 0)

-- two ports have one address
abbrev pub TwoPorts : Type 0
TwoPorts =
    health_of config asked (of_port (first ∷ []) ∷ of_port (first ∷ second ∷ []) ∷ [])
    ≡ Some (answer 200 1)

-- an endpoint of IPv6 on n1
abbrev pub six_here : Candidate
six_here =
    record {
      endpoint = record { address = v6_address 1; port = 8080 };
      ready = true;
      serving = true;
      terminating = false;
      local = true;
      hints = [];
    }

-- it doesn't count on a node without tables of IPv6
abbrev pub OtherFamily : Type 0
OtherFamily =
    health_of config asked ((six_here ∷ []) ∷ []) ≡ Some (answer 503 0)

-- and counts on one with them
abbrev pub BothFamilies : Type 0
BothFamilies =
    health_of (record config { dual = true }) asked ((six_here ∷ []) ∷ of_port (first ∷ []) ∷ [])
    ≡ Some (answer 200 2)

-- ---- Services without a health port

-- one of external policy Cluster
abbrev pub PolicyCluster : Type 0
PolicyCluster = health_of config (record asked { outer = Cluster }) [] ≡ None

-- one that no load balancer stands before
abbrev pub OtherType : Type 0
OtherType = health_of config (record asked { kind = NodePort }) [] ≡ None

-- one without a cluster address
abbrev pub NoAddress : Type 0
NoAddress = health_of config (record asked { cluster = Headless }) [] ≡ None

-- one that names no port
abbrev pub NoPort : Type 0
NoPort = health_of config (record asked { health = None }) [] ≡ None

-- ---- Texts

-- the line
abbrev pub Line : Type 0
Line = health_line (answer 200 1) ≡ codes "health default/web port 31000: 200 local 1\n"

-- the body where one address counts, as the response has it
abbrev pub one_here : List ℕ
one_here =
    codes "{\"service\":{\"namespace\":\"default\",\"name\":\"web\"},\"localEndpoints\":1}"

abbrev pub Body : Type 0
Body = body_text (answer 200 1) ≡ one_here

-- it has 67 bytes
abbrev pub BodyLength : Type 0
BodyLength = length one_here ≡ 67

-- the lines before it
abbrev pub head : List ℕ → List ℕ
head status =
    codes "HTTP/1.1 " ++ status ++ line_end ++ codes "Content-Type: application/json" ++ line_end
    ++ codes "Content-Length: 67" ++ line_end ++ line_end

-- where an address counts
abbrev pub HeadOk : Type 0
HeadOk = head_text 200 67 ≡ head (codes "200 OK")

-- and where none does
abbrev pub HeadUnavailable : Type 0
HeadUnavailable = head_text 503 67 ≡ head (codes "503 Service Unavailable")

-- the accept rules of two ports, one of them named twice
abbrev pub AcceptText : Type 0
AcceptText =
    batch_text_of V4 (health_batch_of (31001 ∷ 31000 ∷ 31001 ∷ []))
    ≡ codes "*filter\n:KUBE-NODEPORTS - [0:0]\n"
    ++ codes "-A KUBE-NODEPORTS -p tcp -m tcp --dport 31000 -j ACCEPT\n"
    ++ codes "-A KUBE-NODEPORTS -p tcp -m tcp --dport 31001 -j ACCEPT\nCOMMIT\n"

-- and of none
abbrev pub NoAcceptText : Type 0
NoAcceptText = batch_text_of V4 (health_batch_of []) ≡ []
