-- A list of ports that grows by one whose name and protocol are new.
use Rattle.std.proofs.Common.{◌≡◌, ℕ, ◌||◌, Bool, true, false, not, cond, List, [], ◌∷◌, ◌++◌, map, Option, Some, None, refl, ap, sym, ◌∙◌}
use Rattle.std.specs.List.{list_any}
use Rattle.std.proofs.lemmas.Bool.{and_parts, and_from, or_parts, or_from, not-true}
use Rattle.std.proofs.lemmas.List.{append_assoc, map-append}
use Rattle.std.proofs.lemmas.List.Folds.{list_any-append}
use Rattle.kp_base.specs.declared.port.Proto.{Proto}
use Rattle.kp_types.specs.Ports.{is_port, distinct_ports}
use Rattle.kp_types.specs.declared.service.ServicePort.{ServicePort}
use Rattle.kp_json.specs.Places.{Place}
use Rattle.kp_json.specs.declared.fault.BadField.{BadField}
use Rattle.kp_json.specs.Answers.{fault_at}
use Rattle.kp_json.specs.declared.fault.Why.TheVariants.{DuplicatePort}
use Rattle.kp_row_defs.specs.Rows.{or_then, ports_fault, port_id, same_id}
use Rattle.kp_event_defs.specs.ServiceText.{service_port}
use Rattle.kp_objects.specs.SeenIds.{id_of}

-- the test of what stands at the end comes first
end_first : (a b : Bool) → (a || (b || false)) ≡ (b || a)
end_first true true = refl
end_first true false = refl
end_first false true = refl
end_first false false = refl

-- a port that is new leaves the ports distinct
distinct_snoc : (ps : List ServicePort) (p : ServicePort) → distinct_ports ps ≡ true → list_any (same_id (id_of p)) (map id_of ps) ≡ false → distinct_ports (ps ++ p ∷ []) ≡ true
distinct_snoc [] p distinct new = refl
distinct_snoc (q ∷ qs) p distinct new =
    let d = and_parts (not (list_any (is_port q.name q.proto) qs)) (distinct_ports qs) distinct in
    let n = or_parts (same_id (id_of p) (id_of q)) (list_any (same_id (id_of p)) (map id_of qs)) new in
    and_from _ _ (ap not (list_any-append (is_port q.name q.proto) qs (p ∷ []) ∙ or_from _ _ (not-true _ d.0) (or_from _ _ n.0 refl))) (distinct_snoc qs p d.1 n.1)

-- the set of names and protocols with one more
any_id_snoc : (id : List ℕ × Proto) (ps : List ServicePort) (p : ServicePort) → list_any (same_id id) (map id_of (ps ++ p ∷ [])) ≡ (same_id id (id_of p) || list_any (same_id id) (map id_of ps))
any_id_snoc id ps p =
    ap (list_any (same_id id)) (map-append id_of ps (p ∷ [])) ∙ list_any-append (same_id id) (map id_of ps) (id_of p ∷ [])
    ∙ end_first (list_any (same_id id) (map id_of ps)) (same_id id (id_of p))

-- the fault of the ports that are left, where the first of them has none, and its name and protocol are new
fault_step : (faults : Place → Option BadField) (items : List ServicePort) (p : Place) (left : List Place)
    → faults p ≡ None → list_any (same_id (port_id p)) (map id_of items) ≡ false
    → ports_fault faults (map id_of (items ++ service_port p ∷ [])) left ≡ ports_fault faults (map id_of items) (p ∷ left)
fault_step faults items p left fine new =
    ap (λ earlier. ports_fault faults earlier left) (map-append id_of items (service_port p ∷ []))
    ∙ sym (λ i. or_then (fine i) (or_then (cond (new i) (Some (fault_at DuplicatePort p.path)) None) (ports_fault faults (map id_of items ++ port_id p ∷ []) left)))

-- What the loop keeps: the ports read so far and those left are all, the fault left is the whole fault, the ports
-- differ, and the set has their names and protocols.
abbrev pub IsSoFar : (Place → Option BadField) → List ServicePort → Option BadField → List ServicePort → List Place → (List ℕ × Proto → Bool) → Type 0
IsSoFar faults all fault items left has =
    (items ++ map service_port left ≡ all) × (ports_fault faults (map id_of items) left ≡ fault)
    × (distinct_ports items ≡ true) × ((id : List ℕ × Proto) → has id ≡ list_any (same_id id) (map id_of items))

-- one port more is read
pub port_step : (faults : Place → Option BadField) (all : List ServicePort) (fault : Option BadField) (items after : List ServicePort) (port : ServicePort)
    (p : Place) (before left : List Place) (had has : List ℕ × Proto → Bool) (added : Bool)
    → before ≡ p ∷ left → (faults p ≡ None) × (port ≡ service_port p) → added ≡ not (had (id_of port)) → added ≡ true
    → ((id : List ℕ × Proto) → has id ≡ (same_id id (id_of port) || had id)) → after ≡ items ++ port ∷ []
    → IsSoFar faults all fault items before had → IsSoFar faults all fault after left has
port_step faults all fault items after port p before left had has added next read is kept more grown (list, first, distinct, ids) =
    let new : list_any (same_id (id_of port)) (map id_of items) ≡ false = sym (ids (id_of port)) ∙ not-true (had (id_of port)) (sym is ∙ kept) in (
      ap (λ a. a ++ map service_port left) grown ∙ append_assoc items (port ∷ []) (map service_port left)
          ∙ ap (λ x. items ++ x ∷ map service_port left) read.1 ∙ sym (ap (λ b. items ++ map service_port b) next) ∙ list,
      ap (λ a. ports_fault faults (map id_of a) left) grown ∙ ap (λ x. ports_fault faults (map id_of (items ++ x ∷ [])) left) read.1
          ∙ fault_step faults items p left read.0 (sym (ap (λ x. list_any (same_id (id_of x)) (map id_of items)) read.1) ∙ new)
          ∙ sym (ap (ports_fault faults (map id_of items)) next) ∙ first,
      ap distinct_ports grown ∙ distinct_snoc items port distinct new,
      λ id. more id ∙ ap (λ b. same_id id (id_of port) || b) (ids id) ∙ sym (any_id_snoc id items port)
          ∙ sym (ap (λ a. list_any (same_id id) (map id_of a)) grown),
    )
