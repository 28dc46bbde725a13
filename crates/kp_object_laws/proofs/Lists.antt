-- The endpoints of a Service port in order, and its lists.
use Rattle.std.proofs.Common.{◌≡◌, true≢false, Bool, true, false, cond, not, ◌&&◌, ◌||◌, ℕ, List, [], ◌∷◌, ◌++◌, map, reverse, Contains, Option, Some, None, filter, refl, sym, ap, subst, ◌∙◌, Ordering, is_lt}
use Rattle.std.proofs.Math.Bool.{not-not}
use Rattle.std.specs.List.{list_all}
use Rattle.std.specs.FinMap.{is_sorted}
use Rattle.std.specs.FinMap.Entries.{below_all}
use Rattle.std.proofs.lemmas.Bool.{and_from, and_parts, or_left, or_right}
use Rattle.kp_base.specs.Keys.{endpoint_cmp}
use Rattle.kp_base.specs.declared.key.Endpoint.{Endpoint}
use Rattle.kp_base.proofs.KeyOrder.{endpoint_total, endpoint_exact}
use Rattle.kp_types.specs.declared.lists.Candidate.{Candidate}
use Rattle.kp_object_defs.specs.Desired.{is_empty}
use Rattle.kp_object_defs.specs.Entries.{counted_once, candidates_from}
use Rattle.kp_object_defs.specs.Lists.{is_ready, is_serving_terminating, hints_zone, in_zone, or_else, cluster_endpoints, local_endpoints, has_any_endpoint, used}
use Rattle.kp_object_defs.specs.Order.{rises}
use Rattle.kp_object_laws.specs.ListLaws.{are_in_order, endpoints_of, usable, is_usable, local, AreAmong, CountedInOrder, EntriesInOrder, ListsAmongUsable, ListsInOrder, NoneUsable, ClusterListEmpty, LocalListEmpty}
use Rattle.kp_lemmas.proofs.Members.{none_passes, without_elements, none_in, in_filter, from_filter, in_map, from_map}
use Rattle.kp_object_laws.proofs.OwnEntries.{owned, first_in_order}
use Rattle.kp_object_laws.proofs.Usable.{has_any_is, some_or_else, some_filtered, any_or, is_some_list}

-- ---- Endpoints in order

module _ {K X : Type 0} (R : K → K → Ordering) (key : X → K) where
  below_same : (k : K) (xs : List X) → below_all R k (owned key xs) ≡ list_all (λ l. is_lt (R k l)) (map key xs)
  below_same k [] = refl
  below_same k (x ∷ xs) = ap (λ b. is_lt (R k (key x)) && b) (below_same k xs)

  -- keys rise where elements by their own keys are in order
  pub rises_same : (xs : List X) → is_sorted R (owned key xs) ≡ rises R (map key xs)
  rises_same [] = refl
  rises_same (x ∷ xs) = λ i. below_same (key x) xs i && rises_same xs i

  all_filter : (q : K → Bool) (p : X → Bool) (xs : List X) → list_all q (map key xs) ≡ true → list_all q (map key (filter p xs)) ≡ true
  all_filter q p [] h = refl
  all_filter q p (x ∷ xs) h =
      let parts = and_parts (q (key x)) (list_all q (map key xs)) h in
      let rest = all_filter q p xs parts.1 in
      elim (p x) as (λ b. list_all q (map key (cond b (x ∷ filter p xs) (filter p xs))) ≡ true) [ true ↦ and_from _ _ parts.0 rest | false ↦ rest ]

  -- they rise too where some elements are left out
  rises_filter : (p : X → Bool) (xs : List X) → rises R (map key xs) ≡ true → rises R (map key (filter p xs)) ≡ true
  rises_filter p [] h = refl
  rises_filter p (x ∷ xs) h =
      let parts = and_parts (list_all (λ l. is_lt (R (key x) l)) (map key xs)) (rises R (map key xs)) h in
      let rest = rises_filter p xs parts.1 in
      elim (p x) as (λ b. rises R (map key (cond b (x ∷ filter p xs) (filter p xs))) ≡ true) [
        | true ↦ and_from _ _ (all_filter (λ l. is_lt (R (key x) l)) p xs parts.0) rest
        | false ↦ rest
      ]

pub counted_in_order : CountedInOrder
counted_in_order cs =
    sym (rises_same endpoint_cmp (λ c. c.endpoint) (counted_once cs))
    ∙ first_in_order endpoint_total endpoint_exact (λ c. c.endpoint) (reverse (filter (λ c. c.local) cs) ++ cs)

pub entries_in_order : EntriesInOrder
entries_in_order family node sources port = counted_in_order (candidates_from family node port sources.wanted sources.slices)

-- ---- What holds of lists that are made by filters

module _ (P : List Candidate → Type 0) (kept : (p : Candidate → Bool) (cs : List Candidate) → P cs → P (filter p cs)) where
  of_either : (xs ys : List Candidate) → P xs → P ys → P (or_else xs ys)
  of_either [] ys h k = k
  of_either (x ∷ xs) ys h k = h

  of_zone : (zone : Option (List ℕ)) (cs : List Candidate) → P cs → P (in_zone zone cs)
  of_zone None cs h = h
  of_zone (Some z) cs h = kept (hints_zone z) cs h

  of_hints : (b : Bool) (zone : Option (List ℕ)) (cs : List Candidate) → P cs → P (cond b (in_zone zone cs) cs)
  of_hints true zone cs h = of_zone zone cs h
  of_hints false zone cs h = h

  of_cluster : (zone : Option (List ℕ)) (cs : List Candidate) → P (filter is_ready cs) → P (filter is_serving_terminating cs) → P (cluster_endpoints zone cs)
  of_cluster zone cs h k = of_either _ _ (of_hints _ zone _ h) k

  of_local : (cs : List Candidate) → P (filter is_ready (local cs)) → P (filter is_serving_terminating (local cs)) → P (local_endpoints cs)
  of_local cs h k = of_either _ _ h k

-- ---- Lists among the usable

-- candidates are all among others
IsPart : List Candidate → List Candidate → Type 0
IsPart cs ds = (c : Candidate) → Contains ds c → Contains cs c

part_filter : (cs : List Candidate) (p : Candidate → Bool) (ds : List Candidate) → IsPart cs ds → IsPart cs (filter p ds)
unfolding IsPart
part_filter cs p ds h c d = h c (from_filter p c ds d).0

ready_usable : (cs : List Candidate) → IsPart (usable cs) (filter is_ready cs)
unfolding IsPart
ready_usable cs c d = let (in_cs, is) = from_filter is_ready c cs d in in_filter is_usable c cs in_cs (or_left _ _ is)

serving_usable : (cs : List Candidate) → IsPart (usable cs) (filter is_serving_terminating cs)
unfolding IsPart
serving_usable cs c d = let (in_cs, is) = from_filter _ c cs d in in_filter is_usable c cs in_cs (or_right _ _ is)

endpoints_among : (cs ds : List Candidate) (b : Bool) → IsPart cs ds → AreAmong cs (used b ds)
unfolding IsPart
endpoints_among cs ds false h e c = absurd (none_in e c)
endpoints_among cs ds true h e c = let (d, in_ds, is) = from_map (λ (d : Candidate). d.endpoint) e ds c in subst (Contains (endpoints_of cs)) is (in_map (λ (d : Candidate). d.endpoint) d cs (h d in_ds))

pub among_usable : ListsAmongUsable
among_usable internal outer accessible zone cs =
    (endpoints_among _ _ _ (of_cluster _ (part_filter _) zone cs (ready_usable cs) (serving_usable cs)), endpoints_among _ _ _ (of_local _ (part_filter _) cs (ready_usable (local cs)) (serving_usable (local cs))))

-- ---- Lists in order

used_rises : (b : Bool) (cs : List Candidate) → are_in_order cs ≡ true → rises endpoint_cmp (used b cs) ≡ true
used_rises true cs h = h
used_rises false cs h = refl

InOrder : List Candidate → Type 0
InOrder cs = are_in_order cs ≡ true

pub lists_in_order : ListsInOrder
unfolding InOrder
lists_in_order internal outer accessible zone cs h =
    let kept : (p : Candidate → Bool) (ds : List Candidate) → InOrder ds → InOrder (filter p ds) = λ p ds. rises_filter endpoint_cmp (λ (c : Candidate). c.endpoint) p ds in
    let here = kept (λ c. c.local) cs h in
    (used_rises _ (cluster_endpoints zone cs) (of_cluster InOrder kept zone cs (kept is_ready cs h) (kept is_serving_terminating cs h)), used_rises _ (local_endpoints cs) (of_local InOrder kept cs (kept is_ready (local cs) here) (kept is_serving_terminating (local cs) here)))

-- ---- Empty lists

none_among : (cs ds : List Candidate) (es : List Endpoint) → has_any_endpoint cs ≡ false → ((c : Candidate) → Contains ds c → Contains cs c) → AreAmong (usable ds) es → es ≡ []
none_among cs ds es none part among =
    without_elements es (λ e c.
    let (d, in_usable, is) = from_map (λ (d : Candidate). d.endpoint) e _ (among e c) in
    let (in_ds, passes) = from_filter is_usable d ds in_usable in
    true≢false (sym passes ∙ none_passes is_usable d cs none (part d in_ds)))

pub none_usable : NoneUsable
none_usable internal outer accessible zone cs none =
    let among = among_usable internal outer accessible zone cs in
    (none_among cs cs _ none (λ c d. d) among.0, none_among cs _ _ none (λ c d. (from_filter (λ (x : Candidate). x.local) c cs d).0) among.1)

empty_mapped : (b : Bool) (cs : List Candidate) → b ≡ true → is_empty (used b cs) ≡ is_empty cs
empty_mapped true [] h = refl
empty_mapped true (c ∷ cs) h = refl
empty_mapped false cs h = absurd (true≢false (sym h))

pub cluster_empty : ClusterListEmpty
cluster_empty internal outer accessible zone cs is_used =
    empty_mapped _ _ is_used ∙ sym (not-not _) ∙ ap not (sym (has_any_is zone cs))

local_any : (cs : List Candidate) → is_some_list (local_endpoints cs) ≡ has_any_endpoint (local cs)
local_any cs =
    some_or_else _ _
    ∙ (λ i. some_filtered is_ready (local cs) i || some_filtered is_serving_terminating (local cs) i)
    ∙ sym (any_or is_ready _ (local cs))

pub local_empty : LocalListEmpty
local_empty internal outer accessible zone cs is_used =
    empty_mapped _ _ is_used ∙ sym (not-not _) ∙ ap not (local_any cs)
