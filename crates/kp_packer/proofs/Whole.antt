-- All groups together.
use Rattle.std.proofs.Common.{◌≡◌, ℕ, Bool, true, cond, not, ◌&&◌, List, [], ◌∷◌, map, refl, sym, ap, ◌∙◌, filter}
use Rattle.std.specs.List.{list_any, list_all}
use Rattle.kp_types.specs.declared.slice.SlicePort.{SlicePort}
use Rattle.kp_types.specs.declared.slice.Slice.{Slice}
use Rattle.kp_types.specs.declared.slice.Wanted.{Wanted}
use Rattle.kp_object_defs.specs.Packing.{pack_group, is_in_group, is_left_over, groups_of, same_object}
use Rattle.kp_object_defs.specs.PackingLaws.{are_distinct, have_own_pods}
use Rattle.kp_packer.specs.Views.{packings_of}
use Rattle.kp_packer.proofs.Grouping.{any_map, distinct-filter}

-- each group is packed by itself
pub all_packings : {K : Type 0} (view : K → List SlicePort) (most : ℕ) (slices : List Slice) (wanted : List Wanted) (ks : List K)
    → packings_of most (map view ks) (map (λ k. filter (λ s. is_in_group (view k) s.ports) slices) ks) (map (λ k. filter (λ w. is_in_group (view k) w.ports) wanted) ks)
    ≡ map (pack_group most slices wanted) (map view ks)
all_packings view most slices wanted [] = refl
all_packings view most slices wanted (k ∷ ks) =
    ap (λ l. pack_group most slices wanted (view k) ∷ l) (all_packings view most slices wanted ks)

filter_same : {X : Type 0} (p q : X → Bool) → ((x : X) → p x ≡ q x) → (xs : List X) → filter p xs ≡ filter q xs
filter_same p q same [] = refl
filter_same p q same (x ∷ xs) = λ i. cond (same x i) (x ∷ filter_same p q same xs i) (filter_same p q same xs i)

-- the slices of no group
pub no_group : {K : Type 0} (view : K → List SlicePort) (wanted : List Wanted) (ks : List K) → map view ks ≡ groups_of wanted → (slices : List Slice)
    → filter (λ s. not (list_any (λ k. is_in_group (view k) s.ports) ks)) slices ≡ filter (is_left_over wanted) slices
no_group view wanted ks groups slices =
    filter_same (λ s. not (list_any (λ k. is_in_group (view k) s.ports) ks)) (is_left_over wanted)
    (λ s. ap not (any_map view (λ g. is_in_group g s.ports) ks ∙ ap (list_any (λ g. is_in_group g s.ports)) groups)) slices

-- ---- pods

pods_by : (ws : List Wanted) → have_own_pods ws ≡ are_distinct (λ a b. same_object a.pod b.pod) ws
pods_by [] = refl
pods_by (w ∷ ws) = λ i. not (sym (any_map (λ v. v.pod) (same_object w.pod) ws) i) && pods_by ws i

own_filter : (p : Wanted → Bool) (ws : List Wanted) → have_own_pods ws ≡ true → have_own_pods (filter p ws) ≡ true
own_filter p ws own = pods_by (filter p ws) ∙ distinct-filter (λ a b. same_object a.pod b.pod) p ws (sym (pods_by ws) ∙ own)

all_own : {K : Type 0} (view : K → List SlicePort) (wanted : List Wanted) → have_own_pods wanted ≡ true → (ks : List K) → list_all have_own_pods (map (λ k. filter (λ w. is_in_group (view k) w.ports) wanted) ks) ≡ true
all_own view wanted own [] = refl
all_own view wanted own (k ∷ ks) = λ i. own_filter (λ w. is_in_group (view k) w.ports) wanted own i && all_own view wanted own ks i

all_map : {A B : Type 0} (f : A → B) (p : B → Bool) (xs : List A) → list_all (λ x. p (f x)) xs ≡ list_all p (map f xs)
all_map f p [] = refl
all_map f p (x ∷ xs) = ap (λ b. p (f x) && b) (all_map f p xs)

-- the wanted endpoints of each group are of different pods
pub lists_own : {K V : Type 0} (view : K → List SlicePort) (shows : V → List Wanted) (wanted : List Wanted) → have_own_pods wanted ≡ true → (ks : List K) (lists : List V)
    → map shows lists ≡ map (λ k. filter (λ w. is_in_group (view k) w.ports) wanted) ks → list_all (λ v. have_own_pods (shows v)) lists ≡ true
lists_own view shows wanted own ks lists is =
    all_map shows have_own_pods lists ∙ ap (list_all have_own_pods) is ∙ all_own view wanted own ks
