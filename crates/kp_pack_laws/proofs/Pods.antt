-- Pods of entries: their test is exact, and slices of the wanted endpoints have each pod once.
use Rattle.std.proofs.Common.{◌≡◌, ℕ, Bool, true, false, ◌&&◌, List, [], ◌∷◌, map, Option, Some, None, refl, sym, ap, subst, ◌∙◌, IsPermutation}
use Rattle.std.specs.List.{flat_map, AllByRecursion, IsDistinct}
use Rattle.std.specs.Cmp.Lexicographic.{nat_list_eq_equiv}
use Rattle.std.proofs.lemmas.Bool.{false≢true, and_parts}
use Rattle.std.proofs.lemmas.List.Sorted.{IsPermutation-map, IsPermutation-sym}
use Rattle.std.proofs.lemmas.Map.Keys.{IsDistinct-IsPermutation}
use Rattle.kp_base.specs.declared.key.ObjectKey.{ObjectKey}
use Rattle.kp_types.specs.declared.slice.Slice.{Slice}
use Rattle.kp_types.specs.declared.slice.Wanted.{Wanted}
use Rattle.kp_object_defs.specs.Packing.{same_option, same_object, sorted_ports}
use Rattle.kp_object_defs.proofs.SameObjects.{object_exact, object_itself}
use Rattle.kp_object_defs.specs.PackingLaws.{have_own_pods, entries_name_pods, entries_with_ports, IsPackingOf}
use Rattle.std.proofs.lemmas.Simd.{map-map}
use Rattle.kp_pack_laws.proofs.Shuffles.{mapped_pieces, same_pieces, all_of}
use Rattle.kp_pack_laws.proofs.Distinct.{distinct_from_test}

pub object_turned : (a b : ObjectKey) → same_object a b ≡ same_object b a
object_turned a b =
    λ i. nat_list_eq_equiv.symm a.namespace b.namespace i && nat_list_eq_equiv.symm a.name b.name i

-- the pod of an entry
abbrev pub same_pod : Option ObjectKey → Option ObjectKey → Bool
same_pod = same_option same_object

pub pod_exact : (a b : Option ObjectKey) → same_pod a b ≡ true → a ≡ b
pod_exact None None h = refl
pod_exact None (Some b) h = absurd (false≢true h)
pod_exact (Some a) None h = absurd (false≢true h)
pod_exact (Some a) (Some b) h = ap Some (object_exact a b h)

pub pod_same : (a : Option ObjectKey) → same_pod a a ≡ true
pod_same None = refl
pod_same (Some a) = object_itself a

pub pod_turned : (a b : Option ObjectKey) → same_pod a b ≡ same_pod b a
pod_turned None None = refl
pod_turned None (Some b) = refl
pod_turned (Some a) None = refl
pod_turned (Some a) (Some b) = object_turned a b

-- ---- each pod once

-- each entry names the pod of its wanted endpoint
abbrev pub AreNamed : List Wanted → Type 0
AreNamed ws = AllByRecursion (λ w. w.entry.pod ≡ Some w.pod) ws

pub are_named : (ws : List Wanted) → entries_name_pods ws ≡ true → AreNamed ws
are_named [] h = tt
are_named (w ∷ ws) h =
    let p = and_parts (same_pod w.entry.pod (Some w.pod)) (entries_name_pods ws) h in
    (pod_exact w.entry.pod _ p.0, are_named ws p.1)

-- no two wanted endpoints are of one pod
abbrev pub ArePodsApart : List Wanted → Type 0
ArePodsApart ws = IsDistinct same_object (map (λ w. w.pod) ws)

named_apart : (pod : Option ObjectKey) (own : ObjectKey) (ws : List Wanted) → pod ≡ Some own
    → AreNamed ws
    → AllByRecursion (λ p. same_object own p ≡ false) (map (λ w. w.pod) ws)
    → AllByRecursion (λ p. same_pod pod p ≡ false) (map (λ w. w.entry.pod) ws)
named_apart pod own [] is named apart = tt
named_apart pod own (w ∷ ws) is named apart =
    ((λ i. same_pod (is i) (named.0 i)) ∙ apart.0, named_apart pod own ws is named.1 apart.1)

wanted_once : (ws : List Wanted) → AreNamed ws → ArePodsApart ws
    → IsDistinct same_pod (map (λ w. w.entry.pod) ws)
unfolding IsDistinct
wanted_once [] named apart = tt
wanted_once (w ∷ ws) named apart =
    (named_apart w.entry.pod w.pod ws named.0 named.1 apart.0, wanted_once ws named.1 apart.1)

-- the pods of the entries of slices
abbrev pub pods_of : List Slice → List (Option ObjectKey)
pods_of slices = map (λ e. e.pod) (flat_map (λ s. s.endpoints) slices)

tagged_pods : (slices : List Slice)
    → map (λ t. t.1.pod) (entries_with_ports slices) ≡ pods_of slices
tagged_pods slices =
    mapped_pieces (λ t. t.1.pod) (λ s. map (λ e. (sorted_ports s.ports, e)) s.endpoints) slices
    ∙ same_pieces _ (λ s. map (λ e. e.pod) s.endpoints) slices
    (all_of _ (λ s. map-map (λ t. t.1.pod) (λ e. (sorted_ports s.ports, e)) s.endpoints) slices)
    ∙ sym (mapped_pieces (λ e. e.pod) (λ s. s.endpoints) slices)

pub pods_once : (most : ℕ) (wanted : List Wanted) (slices : List Slice)
    → have_own_pods wanted ≡ true
    → entries_name_pods wanted ≡ true → IsPackingOf most wanted slices
    → IsDistinct same_pod (pods_of slices)
pods_once most wanted slices own named packing =
    let once = wanted_once wanted (are_named wanted named) (distinct_from_test same_object _ own) in
    let wanted_pods = map-map (λ t. t.1.pod) (λ w. (sorted_ports w.ports, w.entry)) wanted in
    let same = IsPermutation-map (λ t. t.1.pod) _ _ packing.placed in
    IsDistinct-IsPermutation same_pod pod_turned _ _
    (subst (λ l. IsPermutation l (pods_of slices)) wanted_pods
    (subst (IsPermutation _) (tagged_pods slices) (IsPermutation-sym _ _ same))) once
