-- A test of all elements of lists that are made of others.
use Rattle.std.proofs.Common.{◌≡◌, Bool, true, false, cond, List, [], ◌∷◌, map, reverse, Option, Some, None, refl, ap, ◌∙◌}
use Rattle.std.specs.declared.cmp.Ordering.{Ordering}
use Rattle.std.specs.declared.cmp.Ordering.TheVariants.{Less, Equal, Greater}
use Rattle.std.specs.List.{list_all, filter, filter_map, flat_map, cons_option}
use Rattle.std.specs.FinMap.{put}
use Rattle.std.specs.FinMap.Entries.{by_order}
use Rattle.std.proofs.lemmas.List.{reverse-append}
use Rattle.std.proofs.lemmas.Bool.{and_from, and_parts}
use Rattle.kp_lemmas.proofs.ListFacts.{test_append}
use Rattle.kp_object_defs.specs.Order.{in_order, values_of}

module _ {X : Type 0} (p : X → Bool) where
  pub all_filter : (q : X → Bool) (xs : List X) → list_all p xs ≡ true → list_all p (filter q xs) ≡ true
  all_filter q [] h = refl
  all_filter q (x ∷ xs) h =
      let rest = all_filter q xs (and_parts (p x) (list_all p xs) h).1 in
      elim (q x) as (λ b. list_all p (cond b (x ∷ filter q xs) (filter q xs)) ≡ true) [
        | true ↦ and_from (p x) (list_all p (filter q xs)) (and_parts (p x) (list_all p xs) h).0 rest
        | false ↦ rest
      ]

  pub all_reverse : (xs : List X) → list_all p xs ≡ true → list_all p (reverse xs) ≡ true
  all_reverse [] h = refl
  all_reverse (x ∷ xs) h =
      ap (list_all p) (reverse-append (x ∷ []) xs)
      ∙ test_append p (reverse xs) (x ∷ []) (all_reverse xs (and_parts (p x) (list_all p xs) h).1) (and_from (p x) true (and_parts (p x) (list_all p xs) h).0 refl)

  -- the test of a value, if there is one
  abbrev pub holds_of : Option X → Bool
  holds_of None = true
  holds_of (Some x) = p x

  pub all_filter_map : {Y : Type 0} (h : Y → Option X) → ((y : Y) → holds_of (h y) ≡ true) → (ys : List Y) → list_all p (filter_map h ys) ≡ true
  all_filter_map h each [] = refl
  all_filter_map h each (y ∷ ys) =
      let rest = all_filter_map h each ys in
      elim (h y) as (λ o. holds_of o ≡ true → list_all p (cons_option o (filter_map h ys)) ≡ true) [
        | None ↦ λ _. rest
        | Some x ↦ λ first. and_from (p x) (list_all p (filter_map h ys)) first rest
      ] (each y)

  pub all_flat_map : {Y : Type 0} (h : Y → List X) → ((y : Y) → list_all p (h y) ≡ true) → (ys : List Y) → list_all p (flat_map h ys) ≡ true
  all_flat_map h each [] = refl
  all_flat_map h each (y ∷ ys) = test_append p (h y) (flat_map h ys) (each y) (all_flat_map h each ys)

  -- the test of the values of entries
  abbrev pub all_values : {K : Type 0} → List (K × X) → Bool
  all_values es = list_all p (values_of es)

  pub all_put : {K : Type 0} (R : K → K → Ordering) (k : K) (v : X) (es : List (K × X)) → p v ≡ true → all_values es ≡ true → all_values (put R k v es) ≡ true
  all_put R k v [] g h = and_from (p v) true g refl
  all_put R k v (e ∷ es) g h =
      let first = (and_parts (p e.1) (all_values es) h).0 in
      let rest = (and_parts (p e.1) (all_values es) h).1 in
      elim (R k e.0) as (λ o. all_values (by_order o ((k, v) ∷ e ∷ es) ((e.0, v) ∷ es) (e ∷ put R k v es)) ≡ true) [
        | Less ↦ and_from (p v) (all_values (e ∷ es)) g h
        | Equal ↦ and_from (p v) (all_values es) g rest
        | Greater ↦ and_from (p e.1) (all_values (put R k v es)) first (all_put R k v es g rest)
      ]

  pub all_in_order : {K : Type 0} (R : K → K → Ordering) (es : List (K × X)) → all_values es ≡ true → all_values (in_order R es) ≡ true
  all_in_order R [] h = refl
  all_in_order R (e ∷ es) h = all_put R e.0 e.1 (in_order R es) (and_parts (p e.1) (all_values es) h).0 (all_in_order R es (and_parts (p e.1) (all_values es) h).1)

  pub all_named : {K : Type 0} (key : X → K) (xs : List X) → list_all p xs ≡ true → all_values (map (λ x. (key x, x)) xs) ≡ true
  all_named key [] h = refl
  all_named key (x ∷ xs) h = and_from (p x) (all_values (map (λ y. (key y, y)) xs)) (and_parts (p x) (list_all p xs) h).0 (all_named key xs (and_parts (p x) (list_all p xs) h).1)
