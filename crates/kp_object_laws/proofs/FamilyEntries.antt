-- Of what a port has in both families, what it has in one.
use Rattle.std.proofs.Common.{◌≡◌, Bool, true, false, cond, List, [], ◌∷◌, ◌++◌, filter, flat_map, refl, ap, ◌∙◌, append-nil, is_lt, Ordering}
use Rattle.std.specs.List.{list_all}
use Rattle.std.specs.Ordering.{nat_cmp, ordering_then}
use Rattle.std.proofs.lemmas.Bool.{and_from, and_parts}
use Rattle.std.proofs.lemmas.List.{map-append}
use Rattle.std.proofs.lemmas.List.Elements.{filter-append}
use Rattle.kp_lemmas.proofs.ListFacts.{filter_all, test_append}
use Rattle.kp_base.specs.Net.{same_family}
use Rattle.kp_base.specs.Keys.{endpoint_cmp, family_place}
use Rattle.kp_base.specs.declared.address.Family.{Family}
use Rattle.kp_base.specs.declared.address.Family.TheVariants.{V4, V6}
use Rattle.kp_base.specs.declared.key.Endpoint.{Endpoint}
use Rattle.kp_base.specs.declared.key.PortKey.{PortKey}
use Rattle.kp_base.proofs.SameParts.{same_family_exact}
use Rattle.kp_types.specs.Setting.{NodeConfig, both_families, config_of_family}
use Rattle.kp_types.specs.declared.info.ServiceSources.{ServiceSources}
use Rattle.kp_types.specs.declared.lists.Candidate.{Candidate}
use Rattle.kp_types.specs.declared.service.Service.{Service}
use Rattle.kp_object_defs.specs.Entries.{is_of_family, sources_of, entries_of}
use Rattle.kp_object_defs.specs.Objects.{Objects}
use Rattle.kp_object_defs.specs.Order.{rises}
use Rattle.kp_object_laws.specs.ListLaws.{are_in_order, endpoints_of, EntriesByFamily, EntriesOfBothInOrder}
use Rattle.kp_object_laws.proofs.Lists.{entries_in_order}
use Rattle.kp_object_laws.proofs.OneFamily.{entries_of_family}

-- a list of which all pass a test that none of the others passes
none_stays : {A : Type 0} (p q : A → Bool) → ((x : A) → q x ≡ true → p x ≡ false)
    → (xs : List A) → list_all q xs ≡ true → filter p xs ≡ []
none_stays p q apart [] h = refl
none_stays p q apart (x ∷ xs) h =
    let parts = and_parts (q x) (list_all q xs) h in
    ap (λ b. cond b (x ∷ filter p xs) (filter p xs)) (apart x parts.0)
    ∙ none_stays p q apart xs parts.1

-- what is of a family is not of another
of_other : (family other : Family) → same_family other family ≡ false
    → (c : Candidate) → is_of_family other c ≡ true → is_of_family family c ≡ false
of_other family other apart c of =
    ap (λ f. same_family f family) (same_family_exact c.endpoint.address.family other of) ∙ apart

-- of lists of both families, each of which has candidates of its own alone, those of a family
pub of_family_of_both : (lists : Family → List Candidate)
    → ((family : Family) → list_all (is_of_family family) (lists family) ≡ true)
    → (family : Family)
    → filter (is_of_family family) (flat_map lists both_families) ≡ lists family
of_family_of_both lists own V4 =
    filter-append (is_of_family V4) (lists V4) (lists V6 ++ [])
    ∙ (λ i. filter_all (is_of_family V4) (lists V4) (own V4) i
    ++ filter (is_of_family V4) (append-nil (lists V6) i))
    ∙ ap (λ rest. lists V4 ++ rest)
    (none_stays (is_of_family V4) (is_of_family V6) (of_other V4 V6 refl) (lists V6) (own V6))
    ∙ append-nil (lists V4)
of_family_of_both lists own V6 =
    filter-append (is_of_family V6) (lists V4) (lists V6 ++ [])
    ∙ (λ i.
    none_stays (is_of_family V6) (is_of_family V4) (of_other V6 V4 refl) (lists V4) (own V4) i
    ++ filter (is_of_family V6) (append-nil (lists V6) i))
    ∙ filter_all (is_of_family V6) (lists V6) (own V6)

-- ---- In order

-- keys that rise, before others that rise and that each of them is below
rises_append : {K : Type 0} (R : K → K → Ordering) (ks ls : List K)
    → list_all (λ k. list_all (λ l. is_lt (R k l)) ls) ks ≡ true
    → rises R ks ≡ true → rises R ls ≡ true → rises R (ks ++ ls) ≡ true
rises_append R [] ls below first later = later
rises_append R (k ∷ ks) ls below first later =
    let under =
    and_parts (list_all (λ l. is_lt (R k l)) ls)
    (list_all (λ m. list_all (λ l. is_lt (R m l)) ls) ks) below in
    let parts = and_parts (list_all (λ l. is_lt (R k l)) ks) (rises R ks) first in
    and_from (list_all (λ l. is_lt (R k l)) (ks ++ ls)) (rises R (ks ++ ls))
    (test_append (λ l. is_lt (R k l)) ks ls parts.0 under.0)
    (rises_append R ks ls under.1 parts.1 later)

-- an endpoint of IPv4 is below one of IPv6
four_below : (a b : Endpoint) → same_family a.address.family V4 ≡ true
    → same_family b.address.family V6 ≡ true → is_lt (endpoint_cmp a b) ≡ true
four_below a b of_four of_six =
    λ i. is_lt (ordering_then (ordering_then
    (nat_cmp (family_place (same_family_exact a.address.family V4 of_four i))
    (family_place (same_family_exact b.address.family V6 of_six i)))
    (nat_cmp a.address.number b.address.number)) (nat_cmp a.port b.port))

below_all : (a : Endpoint) → same_family a.address.family V4 ≡ true → (ys : List Candidate)
    → list_all (is_of_family V6) ys ≡ true
    → list_all (λ l. is_lt (endpoint_cmp a l)) (endpoints_of ys) ≡ true
below_all a of_four [] h = refl
below_all a of_four (y ∷ ys) h =
    let parts = and_parts (is_of_family V6 y) (list_all (is_of_family V6) ys) h in
    and_from (is_lt (endpoint_cmp a y.endpoint))
    (list_all (λ l. is_lt (endpoint_cmp a l)) (endpoints_of ys))
    (four_below a y.endpoint of_four parts.0) (below_all a of_four ys parts.1)

all_below : (xs ys : List Candidate) → list_all (is_of_family V4) xs ≡ true
    → list_all (is_of_family V6) ys ≡ true
    → list_all (λ k. list_all (λ l. is_lt (endpoint_cmp k l)) (endpoints_of ys)) (endpoints_of xs)
    ≡ true
all_below [] ys own six = refl
all_below (x ∷ xs) ys own six =
    let parts = and_parts (is_of_family V4 x) (list_all (is_of_family V4) xs) own in
    and_from (list_all (λ l. is_lt (endpoint_cmp x.endpoint l)) (endpoints_of ys))
    (list_all (λ k. list_all (λ l. is_lt (endpoint_cmp k l)) (endpoints_of ys)) (endpoints_of xs))
    (below_all x.endpoint parts.0 ys six) (all_below xs ys parts.1 six)

-- lists of both families that are each in order are so together, IPv4 before IPv6
pub both_in_order : (lists : Family → List Candidate)
    → ((family : Family) → list_all (is_of_family family) (lists family) ≡ true)
    → ((family : Family) → are_in_order (lists family) ≡ true)
    → are_in_order (flat_map lists both_families) ≡ true
both_in_order lists own ordered =
    ap (λ rest. are_in_order (lists V4 ++ rest)) (append-nil (lists V6))
    ∙ ap (rises endpoint_cmp) (map-append (λ c. c.endpoint) (lists V4) (lists V6))
    ∙ rises_append endpoint_cmp (endpoints_of (lists V4)) (endpoints_of (lists V6))
    (all_below (lists V4) (lists V6) (own V4) (own V6)) (ordered V4) (ordered V6)

-- the endpoints of a port in a family, by what they are taken from, are of it
entries_own : (config : NodeConfig) (o : Objects) (s : Service) (port : PortKey) (family : Family)
    → list_all (is_of_family family)
    (entries_of family (config_of_family family config) o s port) ≡ true
entries_own config o s port family =
    let from : ServiceSources = sources_of family (config_of_family family config) o s in
    entries_of_family family config.node port from.wanted from.slices

-- of the endpoints of a port in both families, those of a family
pub entries_of_both_in : EntriesByFamily
entries_of_both_in config o s port =
    of_family_of_both (λ f. entries_of f (config_of_family f config) o s port)
    (entries_own config o s port)

pub entries_of_both_in_order : EntriesOfBothInOrder
entries_of_both_in_order config o s port =
    both_in_order (λ f. entries_of f (config_of_family f config) o s port)
    (entries_own config o s port)
    (λ f. entries_in_order f config.node (sources_of f (config_of_family f config) o s) port)
