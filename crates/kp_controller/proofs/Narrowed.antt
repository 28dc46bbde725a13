-- A Service's new slices get the names that they would get of all names of its namespace where only those are known
-- that could clash.
use Rattle.std.proofs.Common.{◌≡◌, ◌≢◌, ℕ, zero, suc, ◌+◌, ◌/◌, ◌%◌, ◌^◌, ◌<◌, ◌≤◌, ◌==◌, nat_lt, Bool, true, false, cond, not, ◌&&◌, ◌||◌, List, [], ◌∷◌, ◌++◌, map, length, get_or, filter, zip, Option, Some, None, option_to_list, bytes_eq, refl, sym, ap, subst, append_assoc, true≢false, ne_eqb, suc-le-suc, zero-lt-suc, ◌∙◌, arith}
use mathlib.Core.Bool.{or-false}
use Rattle.std.specs.Prelude.{codes}
use Rattle.std.specs.Fmt.{decimal, digits, digits_onto, digit_glyph}
use Rattle.std.specs.List.{flat_map, list_any}
use Rattle.std.specs.Cmp.Lexicographic.{nat_list_eq_equiv}
use Rattle.std.proofs.lemmas.Bool.{and_parts, and_from, or_left, or_right, false_from_ne_true}
use Rattle.std.proofs.lemmas.List.{length-map}
use Rattle.std.proofs.lemmas.List.Folds.{list_any-append}
use Rattle.std.proofs.lemmas.List.Sums.{length-filter, count_by-le-length}
use Rattle.std.proofs.lemmas.Slice.Eq.{bytes_eq-Decides}
use Rattle.kp_lemmas.proofs.Members.{all_from, any_from, from_filter, in_map}
use Rattle.kp_base.specs.declared.address.Family.{Family}
use Rattle.kp_base.specs.declared.key.ObjectKey.{ObjectKey}
use Rattle.kp_types.specs.declared.slice.Slice.{Slice}
use Rattle.kp_types.specs.declared.slice.Wanted.{Wanted}
use Rattle.kp_object_defs.specs.Entries.{is_of_service, is_named, is_type_of}
use Rattle.kp_object_defs.specs.Packing.{NewSlice, free_names, in_slice_order, is_left_over, new_slice, new_slices, pack_groups, packed_by, packed_slices, slice_name, slice_names_from}
use Rattle.kp_object_defs.specs.PackingLaws.{are_taken, is_managed_for}
use Rattle.kp_pack_laws.proofs.Names.{enough_free}
use Rattle.kp_pack_laws.proofs.Packs.{all_made, made_few}
use Rattle.kp_controller.specs.Clashing.{may_clash, near_names, stem, stem_behind}

-- ---- names that are free

module _ (service : ObjectKey) where
  same_free : (p q : List ℕ → Bool) → ((i : ℕ) → p (slice_name service i) ≡ q (slice_name service i)) → (n k : ℕ) → filter p (slice_names_from service n k) ≡ filter q (slice_names_from service n k)
  same_free p q h zero k = refl
  same_free p q h (suc n) k = λ i. cond (h k i) (slice_name service k ∷ same_free p q h n (suc k) i) (same_free p q h n (suc k) i)

  -- more names are the same ones, and others behind them
  front : (p : List ℕ → Bool) (few many k : ℕ) → few ≤ many → (rest : List (List ℕ)) × (filter p (slice_names_from service many k) ≡ filter p (slice_names_from service few k) ++ rest)
  front p zero many k less = (filter p (slice_names_from service many k), refl)
  front p (suc few) zero k less = absurd (omega (arith, less))
  front p (suc few) (suc many) k less =
      let more = front p few many (suc k) (omega (arith, less)) in (
        more.0,
        elim (p (slice_name service k)) as (λ b. cond b (slice_name service k ∷ filter p (slice_names_from service many (suc k))) (filter p (slice_names_from service many (suc k)))
            ≡ cond b (slice_name service k ∷ filter p (slice_names_from service few (suc k))) (filter p (slice_names_from service few (suc k))) ++ more.0) [
              | true ↦ ap (λ names. slice_name service k ∷ names) more.1
              | false ↦ more.1
            ],
      )

zip_front : {A B : Type 0} (xs ys : List A) (ms : List B) → length ms ≤ length xs → zip (xs ++ ys) ms ≡ zip xs ms
zip_front [] [] [] few = refl
zip_front [] (y ∷ ys) [] few = refl
zip_front [] ys (m ∷ ms) few = absurd (omega arith)
zip_front (x ∷ xs) ys [] few = refl
zip_front (x ∷ xs) ys (m ∷ ms) few = ap (λ rest. (x, m) ∷ rest) (zip_front xs ys ms (omega arith))

-- of two lists of taken names that agree on the Service's own names the shorter one is enough
fewer_taken : (family : Family) (service : ObjectKey) (taken kept : List (List ℕ)) (made : List NewSlice) → length kept ≤ length taken → length kept + length made < 10 ^ 64
    → ((i : ℕ) → list_any (bytes_eq (slice_name service i)) kept ≡ list_any (bytes_eq (slice_name service i)) taken) → new_slices family service kept made ≡ new_slices family service taken made
fewer_taken family service taken kept made fewer small same =
    let p = λ (name : List ℕ). not (list_any (bytes_eq name) taken) in
    let q = λ (name : List ℕ). not (list_any (bytes_eq name) kept) in
    let n = length made in
    let more = front service p (length kept + n) (length taken + n) 1 (omega (arith, fewer)) in
    let known : free_names service kept n ≡ filter p (slice_names_from service (length kept + n) 1) = same_free service q p (λ i. ap not (same i)) (length kept + n) 1 in
    let all : free_names service taken n ≡ free_names service kept n ++ more.0 =
    more.1 ∙ ap (λ names. names ++ more.0) (sym known) in
    sym (ap (λ names. map (new_slice family service) (zip names made)) all
    ∙ ap (map (new_slice family service)) (zip_front (free_names service kept n) more.0 made (enough_free service kept n small)))

-- ---- names before their last hyphen

-- a byte that is no hyphen, before a text without one
no_stem_before : (b : ℕ) (bs : List ℕ) → b ≢ 45 → stem bs ≡ None → stem (b ∷ bs) ≡ None
no_stem_before b bs other none = ap (stem_behind b) none ∙ ap (λ t. cond t (Some []) None) (ne_eqb b 45 other)

-- no hyphen, no stem
pub no_stem : (ys : List ℕ) → ((i : ℕ) → i < length ys → get_or ys i 0 ≢ 45) → stem ys ≡ None
no_stem [] free = refl
no_stem (y ∷ ys) free = no_stem_before y ys (free zero (zero-lt-suc _)) (no_stem ys (λ i l. free (suc i) (suc-le-suc l)))

-- a text before its last hyphen is its stem
last_hyphen : (xs ys : List ℕ) → stem ys ≡ None → stem (xs ++ 45 ∷ ys) ≡ Some xs
last_hyphen [] ys none = ap (stem_behind 45) none
last_hyphen (x ∷ xs) ys none = ap (stem_behind x) (last_hyphen xs ys none)

-- what stands before a hyphen, behind which there is none
pub stem_at : (xs ys : List ℕ) → ((i : ℕ) → i < length ys → get_or ys i 0 ≢ 45) → stem (xs ++ 45 ∷ ys) ≡ Some xs
stem_at xs ys free = last_hyphen xs ys (no_stem ys free)

-- digits are no hyphens, however many a number has
digit_apart : (d : ℕ) → digit_glyph false d ≢ 45
digit_apart d = elim (nat_lt d 10) as (λ b. cond b (48 + d) (87 + d) ≢ 45) [ true ↦ λ e. omega arith | false ↦ λ e. omega arith ]

no_stem_digits : (k n : ℕ) (acc : List ℕ) → stem acc ≡ None → stem (digits_onto k 10 false n acc) ≡ None
no_stem_digits zero n acc none = none
no_stem_digits (suc k) n acc none =
    let more = digit_glyph false (n % 10) ∷ acc in
    let one : stem more ≡ None = no_stem_before (digit_glyph false (n % 10)) acc (digit_apart (n % 10)) none in
    elim (n / 10 == 0) as (λ b. stem (cond b more (digits_onto k 10 false (n / 10) more)) ≡ None) [ true ↦ one | false ↦ no_stem_digits k (n / 10) more one ]

no_stem_decimal : (n : ℕ) → stem (decimal n) ≡ None
unfolding digits
no_stem_decimal n = no_stem_digits 64 n [] refl

-- so the name of a new slice has the Service's before its last hyphen
slice_stem : (service : ObjectKey) (i : ℕ) → stem (slice_name service i) ≡ Some service.name
slice_stem service i =
    ap stem (append_assoc service.name (codes "-kp") (decimal i))
    ∙ last_hyphen service.name (107 ∷ 112 ∷ decimal i) (ap (λ o. stem_behind 107 (stem_behind 112 o)) (no_stem_decimal i))

-- ---- names that may clash

-- what a stronger test finds, it finds among those that pass a weaker one
filter_within : {X : Type 0} (p q : X → Bool) → ((x : X) → p x ≡ true → q x ≡ true) → (xs : List X) → filter p (filter q xs) ≡ filter p xs
filter_within p q weaker [] = refl
filter_within p q weaker (x ∷ xs) = by (q x) refl (filter_within p q weaker xs)
  where
    by : (b : Bool) → q x ≡ b → filter p (filter q xs) ≡ filter p xs → filter p (cond b (x ∷ filter q xs) (filter q xs)) ≡ cond (p x) (x ∷ filter p xs) (filter p xs)
    by true is rest = ap (λ ys. cond (p x) (x ∷ ys) ys) rest
    by false is rest = rest ∙ ap (λ b. cond b (x ∷ filter p xs) (filter p xs)) (sym (false_from_ne_true (p x) (λ e. true≢false (sym (weaker x e) ∙ is))))

-- a condition beside a test of each element
any_and : {X : Type 0} (b : Bool) (p : X → Bool) (xs : List X) → list_any (λ x. b && p x) xs ≡ (b && list_any p xs)
any_and true p xs = refl
any_and false p [] = refl
any_and false p (x ∷ xs) = any_and false p xs

-- the name in an option, if there is one
named_in : (name : List ℕ) (o : Option (List ℕ)) → list_any (bytes_eq name) (option_to_list o) ≡ is_named name o
named_in name None = refl
named_in name (Some other) = or-false (bytes_eq name other) ∙ nat_list_eq_equiv.symm name other

module _ (service : ObjectKey) where
  abbrev in_namespace : Slice → Bool
  in_namespace s = bytes_eq s.key.namespace service.namespace

  abbrev names : (Slice → Bool) → List Slice → List (List ℕ)
  names p slices = map (λ s. s.key.name) (filter p slices)

  abbrev near : Slice → Bool
  near s = is_named service.name s.service || is_named service.name (stem s.key.name)

  -- those that may clash are those of the namespace that are near
  clash_parts : (s : Slice) → may_clash service s ≡ (in_namespace s && near s)
  clash_parts s =
      let is_near : list_any (bytes_eq service.name) (near_names s) ≡ near s =
      list_any-append (bytes_eq service.name) (option_to_list s.service) (option_to_list (stem s.key.name))
      ∙ (λ i. named_in service.name s.service i || named_in service.name (stem s.key.name) i) in
      any_and (bytes_eq service.namespace s.key.namespace) (bytes_eq service.name) (near_names s)
      ∙ (λ i. nat_list_eq_equiv.symm service.namespace s.key.namespace i && is_near i)

  -- a name that isn't near is no name of a new slice
  apart : (i : ℕ) (s : Slice) → near s ≡ false → bytes_eq (slice_name service i) s.key.name ≡ false
  apart i s far =
      false_from_ne_true _ (λ e.
      let is : stem s.key.name ≡ Some service.name = ap stem (sym ((bytes_eq-Decides (slice_name service i) s.key.name).0 e)) ∙ slice_stem service i in
      let named : is_named service.name (stem s.key.name) ≡ true = ap (is_named service.name) is ∙ nat_list_eq_equiv.refl service.name in
      true≢false (sym (or_right (is_named service.name s.service) (is_named service.name (stem s.key.name)) named) ∙ far))

  -- so all names of the namespace and those that may clash agree on these
  agree : (i : ℕ) (slices : List Slice) → list_any (bytes_eq (slice_name service i)) (names (may_clash service) slices) ≡ list_any (bytes_eq (slice_name service i)) (names in_namespace slices)
  agree i [] = refl
  agree i (s ∷ slices) = ap with_first (clash_parts s) ∙ by (in_namespace s) (near s) refl (agree i slices)
    where
      test : List ℕ → Bool
      test = bytes_eq (slice_name service i)

      with_first : Bool → Bool
      with_first b = list_any test (map (λ s. s.key.name) (cond b (s ∷ filter (may_clash service) slices) (filter (may_clash service) slices)))

      by : (a b : Bool) → near s ≡ b → list_any test (names (may_clash service) slices) ≡ list_any test (names in_namespace slices)
          → with_first (a && b) ≡ list_any test (map (λ s. s.key.name) (cond a (s ∷ filter in_namespace slices) (filter in_namespace slices)))
      by false b is rest = rest
      by true true is rest = ap (λ t. test s.key.name || t) rest
      by true false is rest = rest ∙ ap (λ b. b || list_any test (names in_namespace slices)) (sym (apart i s is))

  fewer : (slices : List Slice) → length (names (may_clash service) slices) ≤ length (names in_namespace slices)
  fewer slices =
      let all = filter in_namespace slices in
      let within = filter_within (may_clash service) in_namespace (λ s clash. (and_parts (in_namespace s) (near s) (sym (clash_parts s) ∙ clash)).0) slices in
      omega (arith, length-map (filter (may_clash service) slices) (λ s. s.key.name), length-map all (λ s. s.key.name), ap length within, length-filter (may_clash service) all, count_by-le-length (may_clash service) all)

  -- a slice whose label names the Service may clash
  pub own_may_clash : (s : Slice) → is_of_service service s ≡ true → may_clash service s ≡ true
  own_may_clash s of =
      let own = and_parts (in_namespace s) (is_named service.name s.service) of in
      clash_parts s
      ∙ and_from (in_namespace s) (near s) own.0
      (or_left (is_named service.name s.service) (is_named service.name (stem s.key.name)) own.1)

  -- those managed for the Service are among those that may clash
  pub managed_near : (family : Family) (slices : List Slice)
      → filter (is_managed_for family service) (filter (may_clash service) slices)
      ≡ filter (is_managed_for family service) slices
  managed_near family =
      filter_within (is_managed_for family service) (may_clash service) (λ s managed.
      own_may_clash s (and_parts (is_of_service service s)
      (s.managed && is_type_of family s.family) managed).0)

  -- the names of those that may clash
  abbrev near_ones : List Slice → List (List ℕ)
  near_ones slices = names (may_clash service) slices

  -- the Service's own names may clash
  pub own_taken : (family : Family) (slices : List Slice)
      → are_taken (near_ones slices) (filter (is_managed_for family service) slices) ≡ true
  own_taken family slices =
      let near = filter (may_clash service) slices in
      subst (λ own. are_taken (near_ones slices) own ≡ true) (managed_near family slices)
      (all_from (λ s. list_any (bytes_eq s.key.name) (near_ones slices))
      (filter (is_managed_for family service) near) (λ s there.
      any_from (bytes_eq s.key.name) s.key.name (near_ones slices)
      (in_map (λ s. s.key.name) s near (from_filter (is_managed_for family service) s near there).0)
      (nat_list_eq_equiv.refl s.key.name)))

  -- packing sees no more names than may clash
  pub narrowed : (family : Family) (before : List Slice) (wanted : List Wanted) (most : ℕ)
      (slices : List Slice) → 1 ≤ most → length (near_ones slices) < 2 ^ 64
      → length wanted < 2 ^ 64
      → packed_slices family service before wanted most (near_ones slices)
      ≡ packed_slices family service before wanted most (names in_namespace slices)
  narrowed family before wanted most slices some few many =
      let groups = pack_groups most (in_slice_order before) wanted in
      ap (packed_by (filter (is_left_over wanted) before) (flat_map (λ g. g.fillings) groups))
      (fewer_taken family service (names in_namespace slices) (near_ones slices) (all_made groups)
      (fewer slices)
      (omega (arith, few, many, made_few most some (in_slice_order before) wanted))
      (λ i. agree i slices))
