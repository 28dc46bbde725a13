-- Names and protocols of ports: their order is total, and it tells apart what the test tells apart.
use Rattle.std.proofs.Common.{◌≡◌, ℕ, ◌||◌, Bool, true, false, not, cond, List, refl, sym, ◌∙◌}
use Rattle.std.specs.declared.cmp.Ordering.{Ordering}
use Rattle.std.specs.Ordering.{nat_cmp, ordering_then, eq_by_cmp}
use Rattle.std.specs.Cmp.{IsTotalOrder, both_tied, eq_by_cmp_equiv, unsigned_ties}
use Rattle.std.specs.Cmp.Lexicographic.{texts_ties, nat_list_cmp_total}
use Rattle.std.specs.BTreeSet.{BTreeSet, contains}
use Rattle.std.proofs.lemmas.Cmp.{on_total, then_total, nat_cmp_total}
use Rattle.kp_base.specs.Keys.{text_cmp, proto_place}
use Rattle.kp_base.specs.declared.port.Proto.{Proto}
use Rattle.kp_base.proofs.KeyOrder.{proto_matches}
use Rattle.kp_row_defs.specs.Rows.{same_id}
use Rattle.kp_objects.specs.SeenIds.{id_cmp}
use Rattle.kp_objects.specs.declared.service.seen.PortId.{PortId}
use Rattle.kp_objects.specs.contracts.service.seen.PortIdOrd.TheImpl as id_ord

-- the order is total
id_total : IsTotalOrder id_cmp
id_total = then_total (on_total (λ k. k.name) nat_list_cmp_total) (on_total (λ k. proto_place k.proto) nat_cmp_total)

-- the derived order
id_matches : ◌≡◌ {A = PortId → PortId → Ordering} id_ord.ghosts.cmp id_cmp
id_matches = λ i a b. ordering_then (text_cmp a.name b.name) (proto_matches a.proto b.proto i)

-- the member of the set for a name and a protocol
abbrev id_at : List ℕ × Proto → PortId
id_at id = record { name = id.0; proto = id.1 }

-- the test, and the order
id_ties : (a b : List ℕ × Proto) → same_id a b ≡ eq_by_cmp id_cmp (id_at a) (id_at b)
id_ties a b =
    both_tied _ _ (text_cmp a.0 b.0) (nat_cmp (proto_place a.1) (proto_place b.1)) (texts_ties a.0 b.0) (unsigned_ties (proto_place a.1) (proto_place b.1))

-- the order the other way round
ties_id : (a b : List ℕ × Proto) → eq_by_cmp id_cmp (id_at b) (id_at a) ≡ same_id a b
ties_id a b = (eq_by_cmp_equiv id_total).symm (id_at b) (id_at a) ∙ sym (id_ties a b)

true_or : (a b : Bool) → cond a true b ≡ (a || b)
true_or true b = refl
true_or false b = refl

-- whether a port is new, by the derived order and by the order
pub id_is_new : (old : BTreeSet PortId) (name wanted : List ℕ) (proto : Proto) (answer : Bool) → name ≡ wanted
    → answer ≡ not (contains id_ord.ghosts.cmp old (id_at (name, proto))) → answer ≡ not (contains id_cmp old (id_at (wanted, proto)))
id_is_new old name wanted proto answer same h = h ∙ (λ i. not (contains (id_matches i) old (id_at (same i, proto))))

-- what the set has once a port was added
pub id_was_added : (old new : BTreeSet PortId) (name wanted : List ℕ) (proto : Proto) → name ≡ wanted
    → ((q : PortId) → contains id_ord.ghosts.cmp new q ≡ cond (eq_by_cmp id_ord.ghosts.cmp (id_at (name, proto)) q) true (contains id_ord.ghosts.cmp old q))
    → (id : List ℕ × Proto) → contains id_cmp new (id_at id) ≡ (same_id id (wanted, proto) || contains id_cmp old (id_at id))
id_was_added old new name wanted proto same h id =
    sym (λ i. contains (id_matches i) new (id_at id)) ∙ h (id_at id)
    ∙ (λ i. cond (eq_by_cmp (id_matches i) (id_at (same i, proto)) (id_at id)) true (contains (id_matches i) old (id_at id)))
    ∙ (λ i. cond (ties_id id (wanted, proto) i) true (contains id_cmp old (id_at id)))
    ∙ true_or (same_id id (wanted, proto)) (contains id_cmp old (id_at id))
