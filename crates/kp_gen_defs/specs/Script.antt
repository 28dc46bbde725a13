-- The script of the generator (this project's choice): a configuration, three Nodes, Services and Pods in the
-- form of the Kubernetes API, a sync, and four packets to each Service; then the delete of every tenth Pod,
-- a sync, and the same packets 20,000 seconds later. A seed picks the Pods' Services, Nodes and readiness.
use Rattle.std.specs.Prelude.{ℕ, ◌+◌, ◌*◌, ◌/◌, ◌%◌, ◌^◌, ◌==◌, ◌<◌, ◌≤◌, Bool, true, false, not, if◌then◌else◌, List, [], ◌∷◌, ◌++◌, map, replicate, codes, decimal}
use Rattle.std.specs.Int.{w64, to_le_bytes}
use Rattle.std.specs.List.{concat, flat_map, range_with_len}
use Rattle.rand_chacha.specs.ChaCha.{word_at, key_of}
use Rattle.kp_base.specs.declared.address.Family.TheVariants.{V4}
use Rattle.kp_choice_defs.specs.AddressText.{number_text}
use Rattle.kp_gen_defs.specs.declared.plan.ScriptPlan.{ScriptPlan}
use Rattle.kp_gen_defs.specs.declared.plan.ScriptPart.{ScriptPart}
use Rattle.kp_gen_defs.specs.declared.plan.ScriptPart.TheVariants as part

-- how large a script may be
pub record IsPlan (plan : ScriptPlan) : Type 0 where
  pub some : 0 < plan.services
  pub services : plan.services ≤ 10000
  pub pods : plan.pods ≤ 60000

-- ---- Words

-- the word of a seed at a place, from 0: that of ChaCha8 (RFC 8439, 2.3, with 8 rounds), where the key is the eight
-- bytes of the seed, the lowest first, and then 24 zero bytes; the stream is 0, which no line's draws have
abbrev pub word_of : ℕ → ℕ → ℕ
word_of seed k = word_at 4 (key_of (to_le_bytes w64 seed ++ replicate 24 0)) 0 k

-- ---- Lines of objects

-- the configuration, of a node with an address and a range of Pods
abbrev pub config_line : List ℕ
config_line =
    codes "{\"op\":\"config\",\"node\":\"n1\",\"nodeAddresses\":[\"10.0.0.1\"],\"clusterCIDR\":\"10.244.0.0/16\"}"

-- the zone of a Node
abbrev pub zone_text : ℕ → List ℕ
zone_text i = if i == 0 then codes "a" else (if i == 1 then codes "b" else codes "c")

-- a Node: n1, n2 and n3 in zones a, b and c
abbrev pub node_line : ℕ → List ℕ
node_line i = concat (
    codes "{\"apiVersion\":\"v1\",\"kind\":\"Node\",\"metadata\":{\"name\":\"n" ∷ decimal (1 + i)
    ∷ codes "\",\"labels\":{\"topology.kubernetes.io/zone\":\"" ∷ zone_text i ∷ codes "\"}}}" ∷ [])

-- the cluster address of a Service: 10.96.0.1 and those that follow
abbrev pub service_address : ℕ → List ℕ
service_address i = number_text V4 (10 * 2 ^ 24 + 96 * 2 ^ 16 + 1 + i)

-- what the second, third and fourth of four Services have beside their ports
abbrev pub service_policy : ℕ → List ℕ
service_policy place =
    if place == 1 then codes ",\"sessionAffinity\":\"ClientIP\""
    else (if place == 2 then codes ",\"internalTrafficPolicy\":\"Local\""
    else (if place == 3 then codes ",\"trafficDistribution\":\"PreferClose\""
    else []))

-- a Service: s0 and those that follow, which select the Pods that have its name as their label app
abbrev pub service_line : ℕ → List ℕ
service_line i = concat (
    codes "{\"apiVersion\":\"v1\",\"kind\":\"Service\",\"metadata\":{\"name\":\"s" ∷ decimal i
    ∷ codes "\"},\"spec\":{\"clusterIP\":\"" ∷ service_address i
    ∷ codes "\",\"ports\":[{\"port\":80,\"targetPort\":8080}],\"selector\":{\"app\":\"s" ∷ decimal i
    ∷ codes "\"}" ∷ service_policy (i % 4) ∷ codes "}}" ∷ [])

-- the address of a Pod: 10.244.0.1 and those that follow
abbrev pub pod_address : ℕ → List ℕ
pod_address j = number_text V4 (10 * 2 ^ 24 + 244 * 2 ^ 16 + 1 + j)

-- the status of a condition
abbrev pub status_text : Bool → List ℕ
status_text true = codes "True"
status_text false = codes "False"

-- a Pod of a Service on a Node
abbrev pub placed_pod_line : ℕ → ℕ → ℕ → Bool → List ℕ
placed_pod_line j service node ready = concat (
    codes "{\"apiVersion\":\"v1\",\"kind\":\"Pod\",\"metadata\":{\"name\":\"p" ∷ decimal j
    ∷ codes "\",\"labels\":{\"app\":\"s" ∷ decimal service
    ∷ codes "\"}},\"spec\":{\"nodeName\":\"n" ∷ decimal (1 + node)
    ∷ codes "\"},\"status\":{\"phase\":\"Running\",\"podIP\":\"" ∷ pod_address j
    ∷ codes "\",\"conditions\":[{\"type\":\"Ready\",\"status\":\"" ∷ status_text ready ∷ codes "\"}]}}" ∷ [])

-- a Pod: p0 and those that follow, of which the next three words choose the Service, the Node, and whether it is
-- ready, as seven of eight are
abbrev pub pod_line : ScriptPlan → ℕ → List ℕ
pod_line plan j =
    placed_pod_line j (word_of plan.seed (3 * j) % plan.services) (word_of plan.seed (3 * j + 1) % 3)
    (not (word_of plan.seed (3 * j + 2) % 8 == 0))

-- the delete of a Pod, as a watch tells it
abbrev pub delete_line : ℕ → List ℕ
delete_line j = concat (
    codes "{\"type\":\"DELETED\",\"object\":{\"apiVersion\":\"v1\",\"kind\":\"Pod\",\"metadata\":{\"name\":\"p" ∷ decimal j
    ∷ codes "\"}}}" ∷ [])

-- ---- Lines of operations

abbrev pub sync_line : List ℕ
sync_line = codes "{\"op\":\"sync\"}"

-- a packet from one of four clients to a Service, at a moment in seconds
abbrev pub client_line : ℕ → ℕ → ℕ → ℕ → List ℕ
client_line seed i t now = concat (
    codes "{\"op\":\"packet\",\"src\":\"10.244.255." ∷ decimal (1 + t) ∷ codes "\",\"dst\":\"" ∷ service_address i
    ∷ codes "\",\"dport\":80,\"seed\":" ∷ decimal seed ∷ codes ",\"now\":" ∷ decimal now ∷ codes "}" ∷ [])

-- the packet at a place, of four to each Service, one a second
abbrev pub packet_line : ScriptPlan → ℕ → ℕ → List ℕ
packet_line plan since k = client_line plan.seed (k / 4) (k % 4) (since + k % 4)

-- ---- The script

-- the line at a place of a part
abbrev pub line_in : ScriptPlan → ScriptPart → ℕ → List ℕ
line_in plan part.Config k = config_line
line_in plan part.Nodes k = node_line k
line_in plan part.Services k = service_line k
line_in plan part.Pods k = pod_line plan k
line_in plan part.Sync k = sync_line
line_in plan part.Packets k = packet_line plan 0 k
line_in plan part.Deletes k = delete_line (10 * k + 9)
line_in plan part.LaterPackets k = packet_line plan 20000 k

-- how many lines a part has
abbrev pub lines_in : ScriptPlan → ScriptPart → ℕ
lines_in plan part.Config = 1
lines_in plan part.Nodes = 3
lines_in plan part.Services = plan.services
lines_in plan part.Pods = plan.pods
lines_in plan part.Sync = 1
lines_in plan part.Packets = 4 * plan.services
lines_in plan part.Deletes = plan.pods / 10
lines_in plan part.LaterPackets = 4 * plan.services

-- the lines of a part
abbrev pub part_lines : ScriptPlan → ScriptPart → List (List ℕ)
part_lines plan p = map (line_in plan p) (range_with_len 0 (lines_in plan p))

-- the parts in their order
abbrev pub script_parts : List ScriptPart
script_parts =
    part.Config ∷ part.Nodes ∷ part.Services ∷ part.Pods ∷ part.Sync ∷ part.Packets ∷ part.Deletes ∷ part.Sync
    ∷ part.LaterPackets ∷ []

-- the lines of a script
abbrev pub script_of : ScriptPlan → List (List ℕ)
script_of plan = flat_map (part_lines plan) script_parts
