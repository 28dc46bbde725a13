-- Groups: lists of ports, each once, and what belongs to them.
use Rattle.std.proofs.Common.{◌≡◌, ℕ, zero, suc, ◌+◌, ◌<◌, ◌≤◌, Bool, true, false, cond, not, ◌&&◌, ◌||◌, if◌then◌else◌, List, [], ◌∷◌, ◌++◌, map, length, get_or, filter, replicate, slice_set, Option, Some, None, refl, sym, ap, subst, ◌∙◌, arith}
use Rattle.std.specs.Prelude.{⊤}
use Rattle.std.specs.List.{list_any, position, position_or_len}
use Rattle.std.specs.Cmp.{IsEquivalence}
use Rattle.std.proofs.lemmas.Bool.{or_parts, and_parts, not-true}
use Rattle.std.proofs.lemmas.Cmp.{lists_equiv}
use Rattle.std.proofs.lemmas.List.{append-nil, map-append}
use Rattle.std.proofs.lemmas.List.Elements.{filter-append}
use Rattle.std.proofs.lemmas.Map.Views.{any-filter_same}
use Rattle.kp_types.specs.declared.slice.SlicePort.{SlicePort}
use Rattle.kp_types.specs.contracts.slice.SlicePortEq.TheImpl.Laws as port_laws
use Rattle.kp_object_defs.specs.Order.{first_places}
use Rattle.kp_object_defs.specs.Packing.{same_ports, sorted_ports, is_in_group}
use Rattle.std.proofs.lemmas.List.Quantifiers.{position-Some}
use Rattle.kp_packer.specs.Views.{added_at}
use Rattle.kp_packer.proofs.Placing.{position_past}
use Rattle.kp_object_defs.specs.PackingLaws.{are_distinct}

pub ports_alike : IsEquivalence same_ports
ports_alike = lists_equiv port_laws.laws-law

-- ---- elements that stand once

fewer : {A : Type 0} (p test : A → Bool) (xs : List A) → list_any test xs ≡ false → list_any test (filter p xs) ≡ false
fewer p test [] none = refl
fewer p test (x ∷ xs) none =
    let parts = or_parts (test x) (list_any test xs) none in by (p x) refl (fewer p test xs parts.1) parts.0
  where
    by : (b : Bool) → p x ≡ b → list_any test (filter p xs) ≡ false → test x ≡ false → list_any test (cond (p x) (x ∷ filter p xs) (filter p xs)) ≡ false
    by true e rest here = ap (λ b. list_any test (cond b (x ∷ filter p xs) (filter p xs))) e ∙ (λ i. here i || rest i)
    by false e rest here = ap (λ b. list_any test (cond b (x ∷ filter p xs) (filter p xs))) e ∙ rest

module _ {A : Type 0} (same : A → A → Bool) where
  -- what is filtered stays distinct
  pub distinct-filter : (p : A → Bool) (xs : List A) → are_distinct same xs ≡ true → are_distinct same (filter p xs) ≡ true
  distinct-filter p [] own = refl
  distinct-filter p (x ∷ xs) own =
      let parts = and_parts (not (list_any (same x) xs)) (are_distinct same xs) own in
      by (p x) refl (distinct-filter p xs parts.1) (fewer p (same x) xs (not-true (list_any (same x) xs) parts.0))
    where
      by : (b : Bool) → p x ≡ b → are_distinct same (filter p xs) ≡ true → list_any (same x) (filter p xs) ≡ false → are_distinct same (cond (p x) (x ∷ filter p xs) (filter p xs)) ≡ true
      by true e rest none = ap (λ b. are_distinct same (cond b (x ∷ filter p xs) (filter p xs))) e ∙ (λ i. not (none i) && rest i)
      by false e rest none = ap (λ b. are_distinct same (cond b (x ∷ filter p xs) (filter p xs))) e ∙ rest

  -- first places are distinct
  pub first_distinct : (xs : List A) → are_distinct same (first_places same xs) ≡ true
  first_distinct [] = refl
  first_distinct (x ∷ xs) =
      let none = any-filter_same (same x) (λ y. not (same x y)) false (λ k e. ap not e) (first_places same xs) in
      λ i. not (none i) && distinct-filter (λ y. not (same x y)) (first_places same xs) (first_distinct xs) i

-- ---- keys that are seen as lists of ports

pub any_map : {K A : Type 0} (view : K → A) (p : A → Bool) (ks : List K) → list_any (λ k. p (view k)) ks ≡ list_any p (map view ks)
any_map view p [] = refl
any_map view p (k ∷ ks) = ap (λ b. p (view k) || b) (any_map view p ks)

any_same : {K : Type 0} (p q : K → Bool) → ((k : K) → p k ≡ q k) → (ks : List K) → list_any p ks ≡ list_any q ks
any_same p q same [] = refl
any_same p q same (k ∷ ks) = λ i. same k i || any_same p q same ks i

-- at most one of the keys passes
abbrev pub AtMostOne : {K : Type 0} → (K → Bool) → List K → Type 0
AtMostOne p [] = ⊤
AtMostOne p (k ∷ ks) = (p k ≡ true → list_any p ks ≡ false) × AtMostOne p ks

module _ {K A : Type 0} (view : K → A) (same : A → A → Bool) where
  -- a set with one more key
  pub seen_insert : (ks : List K) (v : K) → map view (if list_any (λ k. same (view v) (view k)) ks then ks else ks ++ v ∷ []) ≡ cond (list_any (same (view v)) (map view ks)) (map view ks) (map view ks ++ view v ∷ [])
  seen_insert ks v = by (list_any (λ k. same (view v) (view k)) ks) ∙ ap (λ b. cond b (map view ks) (map view ks ++ view v ∷ [])) (any_map view (same (view v)) ks)
    where
      by : (b : Bool) → map view (if b then ks else ks ++ v ∷ []) ≡ cond b (map view ks) (map view ks ++ view v ∷ [])
      by true = refl
      by false = map-append view ks (v ∷ [])

  -- where keys are distinct, at most one is as an element
  pub at_most_one : IsEquivalence same → (a : A) (ks : List K) → are_distinct same (map view ks) ≡ true → AtMostOne (λ k. same a (view k)) ks
  at_most_one laws a [] own = tt
  at_most_one laws a (k ∷ ks) own =
      let parts = and_parts (not (list_any (same (view k)) (map view ks))) (are_distinct same (map view ks)) own in (
        (λ here. any_same (λ x. same a (view x)) (λ x. same (view k) (view x)) (λ x. laws.congr a (view k) (view x) here) ks
            ∙ any_map view (same (view k)) ks ∙ not-true (list_any (same (view k)) (map view ks)) parts.0),
        at_most_one laws a ks parts.1,
      )

module _ {K R : Type 0} (p : K → Bool) (old new : K → R) (grown : R → R) (hit : (k : K) → p k ≡ true → new k ≡ grown (old k)) (miss : (k : K) → p k ≡ false → new k ≡ old k) where
  all_missed : (ks : List K) → list_any p ks ≡ false → map new ks ≡ map old ks
  all_missed [] none = refl
  all_missed (k ∷ ks) none =
      let parts = or_parts (p k) (list_any p ks) none in λ i. miss k parts.0 i ∷ all_missed ks parts.1 i

  one_hit : (ks : List K) (i : ℕ) (d : K) (e v : R) → i < length ks → p (get_or ks i d) ≡ true → ((j : ℕ) → j < i → p (get_or ks j d) ≡ false) → AtMostOne p ks → v ≡ grown (get_or (map old ks) i e) → map new ks ≡ slice_set (map old ks) i v
  one_hit [] i d e v within fits none one is = absurd (omega (arith, within))
  one_hit (k ∷ ks) zero d e v within fits none one is = λ j. (hit k fits ∙ sym is) j ∷ all_missed ks (one.0 fits) j
  one_hit (k ∷ ks) (suc i) d e v within fits none one is =
      λ j. miss k (none 0 (omega arith)) j ∷ one_hit ks i d e v (omega (arith, within)) fits (λ m below. none (suc m) (omega (arith, below))) one.1 is j

-- ---- one more value in the lists of all groups

passes_none : {K : Type 0} (p : K → Bool) (ks : List K) → length ks ≤ position_or_len p ks → list_any p ks ≡ false
passes_none p [] past = refl
passes_none p (k ∷ ks) past = by (p k) refl (passes_none p ks)
  where
    by : (b : Bool) → p k ≡ b → (length ks ≤ position_or_len p ks → list_any p ks ≡ false) → (p k || list_any p ks) ≡ false
    by true e rest = absurd (let past = subst (λ b. length (k ∷ ks) ≤ cond (not b) (1 + position_or_len p ks) 0) e past in omega (arith, past))
    by false e rest =
        let past = subst (λ b. length (k ∷ ks) ≤ cond (not b) (1 + position_or_len p ks) 0) e past in
        λ i. e i || rest (omega (arith, past)) i

module _ {K X : Type 0} (view : K → List SlicePort) (ports : X → List SlicePort) (xs : List X) (x : X) where
  hits : (k : K) → is_in_group (view k) (ports x) ≡ true → filter (λ y. is_in_group (view k) (ports y)) (xs ++ x ∷ []) ≡ filter (λ y. is_in_group (view k) (ports y)) xs ++ x ∷ []
  hits k fits =
      filter-append (λ y. is_in_group (view k) (ports y)) xs (x ∷ [])
      ∙ ap (λ b. filter (λ y. is_in_group (view k) (ports y)) xs ++ cond b (x ∷ []) []) fits

  misses : (k : K) → is_in_group (view k) (ports x) ≡ false → filter (λ y. is_in_group (view k) (ports y)) (xs ++ x ∷ []) ≡ filter (λ y. is_in_group (view k) (ports y)) xs
  misses k fails =
      filter-append (λ y. is_in_group (view k) (ports y)) xs (x ∷ [])
      ∙ ap (λ b. filter (λ y. is_in_group (view k) (ports y)) xs ++ cond b (x ∷ []) []) fails
      ∙ append-nil (filter (λ y. is_in_group (view k) (ports y)) xs)

  grown_by : (ks : List K) → are_distinct same_ports (map view ks) ≡ true → (d : K) (o : Option ℕ) → position (λ k. is_in_group (view k) (ports x)) ks ≡ o
      → map (λ k. filter (λ y. is_in_group (view k) (ports y)) (xs ++ x ∷ [])) ks ≡ added_at o x (map (λ k. filter (λ y. is_in_group (view k) (ports y)) xs) ks)
  grown_by ks own d None at =
      all_missed (λ k. is_in_group (view k) (ports x)) (λ k. filter (λ y. is_in_group (view k) (ports y)) xs) (λ k. filter (λ y. is_in_group (view k) (ports y)) (xs ++ x ∷ [])) (λ l. l ++ x ∷ []) hits misses ks
      (passes_none (λ k. is_in_group (view k) (ports x)) ks (position_past (λ k. is_in_group (view k) (ports x)) ks at))
  grown_by ks own d (Some i) at =
      let first = position-Some (λ k. is_in_group (view k) (ports x)) ks i d at in
      one_hit (λ k. is_in_group (view k) (ports x)) (λ k. filter (λ y. is_in_group (view k) (ports y)) xs) (λ k. filter (λ y. is_in_group (view k) (ports y)) (xs ++ x ∷ [])) (λ l. l ++ x ∷ []) hits misses
      ks i d [] _ first.0 first.1 first.2 (at_most_one view same_ports ports_alike (sorted_ports (ports x)) ks own) refl

  -- the list of the value's group has it behind the others
  pub one_grown : (ks : List K) → are_distinct same_ports (map view ks) ≡ true
      → map (λ k. filter (λ y. is_in_group (view k) (ports y)) (xs ++ x ∷ [])) ks ≡ added_at (position (λ k. is_in_group (view k) (ports x)) ks) x (map (λ k. filter (λ y. is_in_group (view k) (ports y)) xs) ks)
  one_grown [] own = refl
  one_grown (k ∷ ks) own = grown_by (k ∷ ks) own k (position (λ k. is_in_group (view k) (ports x)) (k ∷ ks)) refl

-- so many empty lists
pub all_empty : {K X : Type 0} (f : K → List X) → ((k : K) → f k ≡ []) → (ks : List K) → replicate (length ks) [] ≡ map f ks
all_empty f is [] = refl
all_empty f is (k ∷ ks) = λ i. sym (is k) i ∷ all_empty f is ks i
