-- The slices after packing meet the conditions of packing.
use Rattle.std.proofs.Common.{◌≡◌, ℕ, Bool, true, not, List, [], ◌∷◌, ◌++◌, map, bytes_eq, refl, sym, ap, subst, ◌∙◌}
use Rattle.std.specs.declared.cmp.Ordering.{Ordering}
use Rattle.std.specs.declared.cmp.Ordering.TheVariants.{Less, Equal, Greater}
use Rattle.std.specs.List.{list_all, list_any, AllByRecursion}
use Rattle.std.specs.Ordering.{eq_by_cmp}
use Rattle.std.specs.Option.{is_some}
use Rattle.std.specs.Cmp.Lexicographic.{texts_ties, nat_list_eq_equiv}
use Rattle.std.specs.FinMap.{put}
use Rattle.std.specs.FinMap.Entries.{by_order, is_some-find}
use Rattle.std.proofs.lemmas.Bool.{and_from, or_left, or_right}
use Rattle.std.proofs.lemmas.List.Folds.{list_any-append}
use Rattle.kp_base.specs.Keys.{text_cmp}
use Rattle.kp_base.specs.declared.address.Family.{Family}
use Rattle.kp_base.specs.declared.address.Family.TheVariants.{V4, V6}
use Rattle.kp_base.specs.declared.key.ObjectKey.{ObjectKey}
use Rattle.kp_base.proofs.KeyOrder.{text_total}
use Rattle.kp_types.specs.declared.slice.Slice.{Slice}
use Rattle.kp_object_defs.specs.Entries.{is_type_of}
use Rattle.kp_object_defs.specs.Order.{in_order, distinct_in_order}
use Rattle.kp_object_defs.specs.Packing.{Filling, NewSlice, type_of, new_slice, new_slices, filled_slice, stays, slice_names}
use Rattle.kp_object_defs.specs.PackingLaws.{is_managed_for, PackingGoesOn}
use Rattle.kp_object_defs.proofs.InOrder.{find-in_order}
use Rattle.std.proofs.lemmas.Simd.{map-map}
use Rattle.kp_lemmas.proofs.ListFacts.{all_tested, all_append, all_filter, all_weaker}
use Rattle.kp_pack_laws.proofs.Shuffles.{same_itself, all_mapped, all_unmapped, all_of}
use Rattle.kp_pack_laws.proofs.Distinct.{test_from_distinct, each_there}
use Rattle.kp_pack_laws.proofs.Names.{new_names_free, new_all}
use Rattle.kp_pack_laws.proofs.Keeping.{slices_of}
use Rattle.kp_pack_laws.proofs.Pods.{pods_once}
use Rattle.kp_pack_laws.proofs.Packs.{all_fillings, all_made}
use Rattle.kp_pack_laws.proofs.Theorem.{name_of, ordered_differ, ordered_all, stayed, stayed_taken, packs, placed_slices, placed_differ, few_made, filled_all, filled_taken, is_packing}

-- ---- tests of all elements

test_all : {X : Type 0} (p : X → Bool) (xs : List X) → AllByRecursion (λ x. p x ≡ true) xs
    → list_all p xs ≡ true
test_all p [] all = refl
test_all p (x ∷ xs) all = and_from (p x) _ all.0 (test_all p xs all.1)

-- ---- names in order

module _ {K X : Type 0} (R : K → K → Ordering) (P : K → Type 0) where
  keys_put : (k : K) (v : X) (es : List (K × X)) → P k → AllByRecursion P (map (λ e. e.0) es)
      → AllByRecursion P (map (λ e. e.0) (put R k v es))
  keys_put k v [] own all = (own, tt)
  keys_put k v (e ∷ es) own all = by _ (keys_put k v es own all.1)
    where
      by : (o : Ordering) → AllByRecursion P (map (λ e. e.0) (put R k v es))
          → AllByRecursion P (map (λ e. e.0)
          (by_order o ((k, v) ∷ e ∷ es) ((e.0, v) ∷ es) (e ∷ put R k v es)))
      by Less rest = (own, all)
      by Equal rest = all
      by Greater rest = (all.0, rest)

  keys_in_order : (es : List (K × X)) → AllByRecursion P (map (λ e. e.0) es)
      → AllByRecursion P (map (λ e. e.0) (in_order R es))
  keys_in_order [] all = tt
  keys_in_order (e ∷ es) all = keys_put e.0 e.1 _ all.0 (keys_in_order es all.1)

keys_are : {K : Type 0} (ks : List K) → map {A = K × K} (λ e. e.0) (map (λ k. (k, k)) ks) ≡ ks
keys_are {K = K} ks = map-map {B = K × K} (λ e. e.0) (λ k. (k, k)) ks ∙ same_itself ks

all_distinct : {K : Type 0} (R : K → K → Ordering) (P : K → Type 0) (ks : List K)
    → AllByRecursion P ks
    → AllByRecursion P (distinct_in_order R ks)
all_distinct R P ks all = keys_in_order R P _ (subst (AllByRecursion P) (sym (keys_are ks)) all)

-- a name is in the list exactly if it was
in_names : (name : List ℕ) (names : List (List ℕ))
    → list_any (bytes_eq name) (distinct_in_order text_cmp names) ≡ list_any (bytes_eq name) names
in_names name names =
    let es = map (λ (k : List ℕ). (k, k)) names in
    (λ i. list_any (λ other. texts_ties name other i) (distinct_in_order text_cmp names))
    ∙ sym (is_some-find text_cmp name (in_order text_cmp es))
    ∙ ap is_some (find-in_order text_total name es)
    ∙ is_some-find text_cmp name es
    ∙ ap (list_any (eq_by_cmp text_cmp name)) (keys_are names)
    ∙ (λ i. list_any (λ other. sym (texts_ties name other) i) names)

-- ---- managed slices

type_same : (family : Family) → is_type_of family (type_of family) ≡ true
type_same V4 = refl
type_same V6 = refl

new_managed : (family : Family) (service : ObjectKey) (name : List ℕ) (m : NewSlice)
    → is_managed_for family service (new_slice family service (name, m)) ≡ true
new_managed family service name m =
    and_from _ _
    (and_from _ _ (nat_list_eq_equiv.refl service.namespace) (nat_list_eq_equiv.refl service.name))
    (type_same family)

-- what holds of a slice with whatever endpoints holds of it as it became
stayed_all : (P : Slice → Type 0) → ((f : Filling) → P f.slice → P (filled_slice f))
    → (fs : List Filling)
    → AllByRecursion P (slices_of fs) → AllByRecursion P (stayed fs)
stayed_all P keeps fs all =
    all_mapped P filled_slice _ (all_weaker _ _ keeps _
    (all_filter (λ f. P f.slice) stays fs (all_unmapped P (λ f. f.slice) fs all)))

-- ---- the law

pub packing_goes_on : PackingGoesOn
packing_goes_on family service before wanted most taken some small managed own are =
    let fs = all_fillings (packs family service before wanted most taken) in
    let made = all_made (packs family service before wanted most taken) in
    let news = new_slices family service taken made in
    let placed = placed_slices family service before wanted most taken in
    let differ = placed_differ family service before wanted most taken some small own are in
    let few = few_made family service before wanted most taken some small own are in
    let Managed = λ (s : Slice). is_managed_for family service s ≡ true in
    let known = λ (name : List ℕ). list_any (bytes_eq name) (taken ++ slice_names news) ≡ true in
    let all_managed = all_append Managed _ news (stayed_all Managed (λ f h. h) fs
    (filled_all family service before wanted most taken some small own are Managed
    (all_tested _ before managed))) (new_all family service (λ m. Unit {0}) Managed
    (λ name m h. new_managed family service name m) taken made (all_of _ (λ m. tt) made)) in
    let old_known = all_unmapped known name_of _
    (all_weaker _ known (λ name h. list_any-append _ taken _
    ∙ or_left _ _ h) _ (stayed_taken taken fs
    (filled_taken family service before wanted most taken some small own are))) in
    let new_known = all_unmapped known name_of news
    (all_weaker _ known (λ name h. list_any-append _ taken _
    ∙ or_right _ _ (in_names name _ ∙ h)) _ (each_there bytes_eq nat_list_eq_equiv _)) in
    record {
      managed = test_all _ _ (ordered_all Managed placed differ all_managed);
      names = test_from_distinct bytes_eq _ (ordered_differ placed differ);
      fresh = test_all (λ name. not (list_any (bytes_eq name) taken)) _
          (all_distinct text_cmp _ _ (new_names_free family service taken made few));
      known = test_all (λ s. list_any (bytes_eq s.key.name) (taken ++ slice_names news)) _
          (ordered_all (λ s. known s.key.name) placed differ
          (all_append (λ s. known s.key.name) _ news old_known new_known));
      pods = λ pods named. test_from_distinct _ _
          (pods_once most wanted _ pods named
          (is_packing family service before wanted most taken some small own are));
    }
