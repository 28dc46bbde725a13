-- The numbers of container ports by their names and protocols.
use Rattle.std.proofs.Common.{◌≡◌, ℕ, ◌+◌, ◌<◌, Bool, true, false, cond, bytes_eq, List, [], ◌∷◌, ◌++◌, take, length, get_or, Option, Some, None, is_some, option_map, refl, sym, ap, ◌∙◌, Bor}
use Rattle.std.specs.declared.cmp.Ordering.{Ordering}
use Rattle.std.specs.Ordering.{nat_cmp, eq_by_cmp, is_eq, ordering_then}
use Rattle.std.specs.Cmp.{IsTotalOrder, eq_by_cmp_equiv, both_tied}
use Rattle.std.specs.Cmp.Lexicographic.{texts_ties}
use Rattle.std.specs.List as list
use Rattle.std.specs.FinMap.{find, put}
use Rattle.std.specs.FinMap.Entries.{find-put, find_tied}
use Rattle.std.specs.BTreeMap.{is_at}
use Rattle.std.specs.Map.{lookup}
use Rattle.std.proofs.lemmas.Cmp.{on_total, then_total, nat_cmp_total}
use Rattle.std.proofs.lemmas.List.{take_more}
use Rattle.kp_lemmas.proofs.Orders.{equal_from_test}
use Rattle.kp_base.specs.Keys.{text_cmp, proto_place}
use Rattle.kp_base.specs.declared.port.Proto.{Proto}
use Rattle.kp_base.specs.declared.port.Proto.TheVariants.{Sctp, Tcp, Udp}
use Rattle.kp_base.specs.contracts.port.ProtoOrd.TheImpl as proto_ord
use Rattle.kp_base.proofs.KeyOrder.{text_total, proto_matches}
use Rattle.kp_types.specs.Ports.{same_proto}
use Rattle.kp_types.specs.declared.pod.ContainerPort.{ContainerPort}
use Rattle.kp_types.specs.declared.pod.Pod.{Pod}
use Rattle.kp_types.specs.declared.service.ServicePort.{ServicePort}
use Rattle.kp_types.specs.declared.service.TargetPort.{TargetPort}
use Rattle.kp_types.specs.declared.service.TargetPort.TheVariants.{Number, Named}
use Rattle.kp_object_defs.specs.Desired.{target_number, resolved_port}
use Rattle.kp_object_defs.proofs.InOrder.{first_some}
use Rattle.kp_desired.specs.Numbers.{port_name_cmp, named, is_named, number_among, with_number, target_in, resolved_in}

-- ---- names and protocols

pub port_name_total : IsTotalOrder port_name_cmp
port_name_total = then_total (on_total (λ n. n.0) text_total) (on_total (λ n. proto_place n.1) nat_cmp_total)

-- the order of a map's keys
pub keys_match : (name : List ℕ × Proto) (k : Bor (List ℕ) × Proto) → ordering_then (text_cmp name.0 k.0.now) (proto_ord.ghosts.cmp name.1 k.1) ≡ port_name_cmp name (k.0.now, k.1)
keys_match name k = ap (ordering_then (text_cmp name.0 k.0.now)) (proto_matches name.1 k.1)

one_place : (a b : Proto) → same_proto a b ≡ is_eq (nat_cmp (proto_place b) (proto_place a))
one_place Sctp Sctp = refl
one_place Sctp Tcp = refl
one_place Sctp Udp = refl
one_place Tcp Sctp = refl
one_place Tcp Tcp = refl
one_place Tcp Udp = refl
one_place Udp Sctp = refl
one_place Udp Tcp = refl
one_place Udp Udp = refl

-- the test of a name and protocol
tied : (name : List ℕ × Proto) (c : ContainerPort) → eq_by_cmp port_name_cmp name (c.name, c.proto) ≡ is_named name c
tied name c =
    sym (both_tied (bytes_eq c.name name.0) (same_proto c.proto name.1) (text_cmp name.0 c.name) (nat_cmp (proto_place name.1) (proto_place c.proto))
    (texts_ties c.name name.0 ∙ (eq_by_cmp_equiv text_total).symm c.name name.0) (one_place c.proto name.1))

-- ---- one more port

find-cond : (b : Bool) (name : List ℕ × Proto) (es fs : List ((List ℕ × Proto) × ℕ)) → find port_name_cmp name (cond b es fs) ≡ cond b (find port_name_cmp name es) (find port_name_cmp name fs)
find-cond true name es fs = refl
find-cond false name es fs = refl

-- a value counts where there is none at its key, by whether the key is the one asked for
first_counts : (t : Bool) (n : ℕ) (at o : Option ℕ) → (t ≡ true → at ≡ o) → cond (is_some at) o (cond t (Some n) o) ≡ first_some o (cond t (Some n) None)
first_counts false n (Some x) (Some y) same = refl
first_counts false n (Some x) None same = refl
first_counts false n None (Some y) same = refl
first_counts false n None None same = refl
first_counts true n (Some x) (Some y) same = refl
first_counts true n (Some x) None same = ap (λ o. cond (is_some o) None (Some n)) (same refl)
first_counts true n None (Some y) same = ap (λ o. cond (is_some o) (Some y) (Some n)) (same refl)
first_counts true n None None same = refl

-- what is found with the number of one more port
find-with_number : (name : List ℕ × Proto) (numbers : List ((List ℕ × Proto) × ℕ)) (c : ContainerPort) → find port_name_cmp name (with_number numbers c) ≡ first_some (find port_name_cmp name numbers) (cond (is_named name c) (Some c.port) None)
find-with_number name numbers c =
    let at = find port_name_cmp (c.name, c.proto) numbers in
    find-cond (is_some at) name numbers (put port_name_cmp (c.name, c.proto) c.port numbers)
    ∙ ap (cond (is_some at) (find port_name_cmp name numbers)) (find-put port_name_cmp port_name_total name (c.name, c.proto) c.port numbers)
    ∙ first_counts (eq_by_cmp port_name_cmp name (c.name, c.proto)) c.port at (find port_name_cmp name numbers) (λ t. find_tied port_name_cmp port_name_total name (c.name, c.proto) (equal_from_test _ t) numbers)
    ∙ ap (λ t. first_some (find port_name_cmp name numbers) (cond t (Some c.port) None)) (tied name c)

-- the first number with one more port
number-push : (name : List ℕ × Proto) (ports : List ContainerPort) (c : ContainerPort) → number_among (ports ++ c ∷ []) name ≡ first_some (number_among ports name) (cond (is_named name c) (Some c.port) None)
number-push name [] c =
    elim (is_named name c) as (λ b. option_map (λ p. p.port) (cond b (Some c) None) ≡ cond b (Some c.port) None) [
      | true ↦ refl
      | false ↦ refl
    ]
number-push name (p ∷ ports) c =
    elim (is_named name p) as (λ b. option_map (λ q. q.port) (cond b (Some p) (list.find (is_named name) (ports ++ c ∷ []))) ≡ first_some (option_map (λ q. q.port) (cond b (Some p) (list.find (is_named name) ports))) (cond (is_named name c) (Some c.port) None)) [
      | true ↦ refl
      | false ↦ number-push name ports c
    ]

-- a map of the numbers of the first i ports, with the next port
pub numbers_step : (ports : List ContainerPort) (i : ℕ) (c : ContainerPort) → i < length ports → c ≡ get_or ports i c → (numbers more : List ((List ℕ × Proto) × ℕ)) → more ≡ with_number numbers c → ((name : List ℕ × Proto) → find port_name_cmp name numbers ≡ number_among (take i ports) name) → (name : List ℕ × Proto) → find port_name_cmp name more ≡ number_among (take (i + 1) ports) name
numbers_step ports i c lt is numbers more same before name =
    ap (find port_name_cmp name) same
    ∙ find-with_number name numbers c
    ∙ ap (λ o. first_some o (cond (is_named name c) (Some c.port) None)) (before name)
    ∙ sym (number-push name (take i ports) c)
    ∙ ap (λ next. number_among (take i ports ++ next ∷ []) name) is
    ∙ ap (λ ps. number_among ps name) (sym (take_more ports i c lt))

-- ---- look-ups

-- what a map finds, through the names that it refers to
pub found-named : (name : List ℕ × Proto) (compare : Bor (List ℕ) × Proto → Ordering) → ((k : Bor (List ℕ) × Proto) → compare k ≡ port_name_cmp name (k.0.now, k.1)) → (es : List ((Bor (List ℕ) × Proto) × ℕ)) → lookup (is_at compare) es ≡ find port_name_cmp name (named es)
found-named name compare same [] = refl
found-named name compare same (e ∷ es) =
    ap (λ o. cond (is_eq o) (Some e.1) (lookup (is_at compare) es)) (same e.0)
    ∙ ap (cond (is_eq (port_name_cmp name (e.0.0.now, e.0.1))) (Some e.1)) (found-named name compare same es)

target-same : (pod : Pod) (numbers : List ((List ℕ × Proto) × ℕ)) → ((name : List ℕ × Proto) → find port_name_cmp name numbers ≡ number_among pod.ports name) → (proto : Proto) (target : TargetPort) → target_in numbers proto target ≡ target_number pod proto target
target-same pod numbers all proto (Number n) = refl
target-same pod numbers all proto (Named name) = all (name, proto)

-- a port by the numbers of a pod's ports is the port as the pod resolves it
pub resolved-same : (pod : Pod) (numbers : List ((List ℕ × Proto) × ℕ)) → ((name : List ℕ × Proto) → find port_name_cmp name numbers ≡ number_among pod.ports name) → (p : ServicePort) → resolved_in numbers p ≡ resolved_port pod p
resolved-same pod numbers all p =
    ap (option_map (λ n. record { name = p.name; proto = p.proto; port = Some n })) (target-same pod numbers all p.proto p.target)
