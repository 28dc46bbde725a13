-- Where each row of a family's tables makes a chain more, no two chains that are needed in the family
-- have one name.
use Rattle.std.proofs.Common.{◌≡◌, inl, inr, ◌≤◌, ◌+◌, ◌==◌, ℕ, suc, Bool, true, false, cond, List, [], ◌∷◌, ◌++◌, map, length, Contains, Option, Some, None, is_some, flat_map, refl, sym, ap, ap₂, subst, ◌∙◌, arith}
use Rattle.std.specs.FinMap.{entries, get, get-insert, keys, len, len-entries, len-insert, contains_key}
use Rattle.std.specs.Ordering.{eq_by_cmp}
use Rattle.std.proofs.lemmas.Bool.Decides.{nat_tests}
use Rattle.std.proofs.lemmas.List.{length-map, map-append}
use Rattle.std.proofs.lemmas.Simd.{map-map}
use Rattle.kp_lemmas.proofs.Members.{none_in, in_cases, in_map}
use Rattle.kp_lemmas.proofs.Orders.{tie_of_itself}
use Rattle.kp_types.specs.Places.{chain_cmp, nat_of}
use Rattle.kp_types.specs.Setting.{Setting}
use Rattle.kp_types.specs.declared.chain.ChainAt.{ChainAt}
use Rattle.kp_types.specs.declared.chain.ChainKey.{ChainKey}
use Rattle.kp_types.specs.declared.rule.Rule.{Rule}
use Rattle.kp_types.proofs.ChainOrder.{chain_total}
use Rattle.kp_object_defs.specs.PortInfo.{PortInfo}
use Rattle.kp_table_defs.specs.Keys.{own_keys}
use Rattle.kp_table_defs.specs.Layout.{filter_rows, nat_rows, place_of_key, port_rows, row_of_key, rows_of}
use Rattle.kp_table_defs.specs.Rebuild.{Chains, clash_among}
use Rattle.kp_table_laws.proofs.KeyRows.{Row}
use Rattle.kp_table_laws.proofs.NeededKeys.{no_clash_is_own_names}
use Rattle.kp_chains.specs.Tables.{chains_with}

-- the places of rows
abbrev places : List Row → List ChainAt
places rows = map (λ r. r.0) rows

true_false : true ≡ false → ⊥
true_false h = absurd (cc)

-- ---- Places that stand once each

-- no place stands again behind itself
Apart : List ChainAt → Type 0
Apart [] = Unit {0}
Apart (p ∷ ps) = ((q : ChainAt) → Contains ps q → p ≡ q → ⊥) × Apart ps

-- so it is behind others
apart_behind : (ps qs : List ChainAt) → Apart (ps ++ qs) → Apart qs
unfolding Apart
apart_behind [] qs h = h
apart_behind (p ∷ ps) qs h = apart_behind ps qs h.1

module _ (m : Chains) where
  -- the row of a place is found
  found_by : (b : Bool) (r : Row) (o : Option (List Rule)) → (b ≡ false → is_some o ≡ true)
      → is_some (cond b (Some r.1) o) ≡ true
  found_by true r o later = refl
  found_by false r o later = later refl

  found : (q : ChainAt) (rows : List Row) → Contains (places rows) q
      → contains_key (chains_with rows m) q ≡ true
  found q [] c = absurd (none_in q c)
  found q (r ∷ rows) c =
      ap is_some (get-insert chain_total (chains_with rows m) r.0 r.1 q)
      ∙ found_by (eq_by_cmp chain_cmp q r.0) r (get (chains_with rows m) q) (λ other.
      elim (in_cases q r.0 (places rows) c) [
        | inl e ↦ absurd (true_false (sym (tie_of_itself chain_total q)
            ∙ ap (eq_by_cmp chain_cmp q) (sym e) ∙ other))
        | inr d ↦ found q rows d
      ])

  at_most_one : (b : Bool) (n : ℕ) → cond b n (n + 1) ≤ n + 1
  at_most_one true n = omega arith
  at_most_one false n = omega arith

  at_most : (rows : List Row) → len (chains_with rows m) ≤ len m + length rows
  at_most [] = omega arith
  at_most (r ∷ rows) =
      let had = chains_with rows m in
      omega (
        arith,
        at_most rows,
        len-insert chain_total had r.0 r.1,
        at_most_one (contains_key had r.0) (len had),
      )

  -- a map that grew lacked the key
  grew : (b : Bool) (n k : ℕ) → suc k ≡ cond b n (n + 1) → n ≤ k → (b ≡ false) × (n ≡ k)
  grew true n k h le = absurd (omega arith)
  grew false n k h le = (refl, omega arith)

  -- where each row makes a chain more, each place stands once
  apart_rows : (rows : List Row) → len (chains_with rows m) ≡ len m + length rows
      → Apart (places rows)
  unfolding Apart
  apart_rows [] h = tt
  apart_rows (r ∷ rows) h =
      let had = chains_with rows m in
      let more : suc (len m + length rows) ≡ len m + length (r ∷ rows) = omega arith in
      let grown : suc (len m + length rows) ≡ cond (contains_key had r.0) (len had) (len had + 1) =
      more ∙ sym h ∙ len-insert chain_total had r.0 r.1 in
      let new = grew (contains_key had r.0) (len had) (len m + length rows) grown (at_most rows) in (
        (λ q c same. true_false (sym (found q rows c) ∙ ap (contains_key had) (sym same) ∙ new.0)),
        apart_rows rows new.1,
      )

-- of what has places that stand once, no two have one place
one_of_place : (place : ChainKey → ChainAt) (ks : List ChainKey) → Apart (map place ks)
    → (a b : ChainKey) → Contains ks a → Contains ks b → place a ≡ place b → a ≡ b
unfolding Apart
one_of_place place [] h a b ca cb same = absurd (none_in a ca)
one_of_place place (k ∷ ks) h a b ca cb same =
    elim (in_cases a k ks ca) [
      | inl e ↦ elim (in_cases b k ks cb) [
        | inl f ↦ sym e ∙ f
        | inr d ↦ absurd (h.0 (place b) (in_map place b ks d) (ap place e ∙ same))
      ]
      | inr c ↦ elim (in_cases b k ks cb) [
        | inl f ↦ absurd (h.0 (place a) (in_map place a ks c) (ap place f ∙ sym same))
        | inr d ↦ one_of_place place ks h.1 a b c d same
      ]
    ]

-- ---- The rows of ports

-- the places of the ports' own chains are those of the ports' keys
port_places : (setting : Setting) (infos : List PortInfo)
    → places (flat_map (port_rows setting) infos)
    ≡ map (place_of_key setting) (flat_map own_keys infos)
port_places setting [] = refl
port_places setting (i ∷ infos) =
    map-append (λ (r : Row). r.0) (port_rows setting i) (flat_map (port_rows setting) infos)
    ∙ ap₂ (λ ps qs. ps ++ qs) (map-map (λ (r : Row). r.0) (row_of_key setting i) (own_keys i))
    (port_places setting infos)
    ∙ sym (map-append (place_of_key setting) (own_keys i) (flat_map own_keys infos))

length_keys : (m : Chains) → length (keys m) ≡ len m
length_keys m = length-map (entries m) (λ e. e.0) ∙ sym (len-entries m)

-- where each row of a family's tables makes a chain more, no two needed chains have one name
pub none_share : (setting : Setting) (infos : List PortInfo) (before after : Chains)
    → after ≡ chains_with (rows_of setting infos) before
    → length (keys after) ≡ length (keys before) + length (rows_of setting infos)
    → clash_among setting infos ≡ None
none_share setting infos before after put grown =
    let rows = rows_of setting infos in
    let fixed = nat_rows setting infos ++ filter_rows setting.family infos in
    let own = flat_map (port_rows setting) infos in
    let all : Apart (places rows) = apart_rows before rows (ap len (sym put)
    ∙ sym (length_keys after) ∙ grown ∙ ap (λ n. n + length rows) (length_keys before)) in
    let once : Apart (map (place_of_key setting) (flat_map own_keys infos)) =
    subst Apart (port_places setting infos) (apart_behind (places fixed) (places own)
    (subst Apart (map-append (λ (r : Row). r.0) fixed own) all)) in
    (no_clash_is_own_names setting.name_of infos).1 (λ k l ck cl same.
    one_of_place (place_of_key setting) (flat_map own_keys infos) once k l ck cl
    (ap (λ n. record { table = nat_of setting.family; chain = n }) same))

pub one_number : (a b : ℕ) → (a == b) ≡ true → a ≡ b
one_number a b h = grind (arith, nat_tests)
