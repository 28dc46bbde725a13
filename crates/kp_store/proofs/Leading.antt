-- A pod's labels lead along the path of each selector that selects it.
use Rattle.std.proofs.Common.{◌≡◌, ℕ, ◌+◌, ◌<◌, suc, arith, ◌&&◌, ◌||◌, Bool, true, false, not, cond, List, [], ◌∷◌, ◌++◌, map, flat_map, filter, drop, length, get_or, bytes_eq, Option, Some, None, is_some, nat_cmp, refl, sym, ap, subst, ◌∙◌, Contains, inl, inr}
use Rattle.std.specs.List.{fold, list_any, list_all}
use Rattle.std.specs.Ordering.{eq_by_cmp}
use Rattle.std.specs.Cmp.{IsEquivalence, nat_cmp_total}
use Rattle.std.specs.FinMap.{find, get, get-empty, get-entries, get-insert, insert, empty, entries, entries_sorted, keys, contains_key, nat_cmp-IsAntisymmetric}
use Rattle.std.specs.FinMap.Entries.{find-where_key, is_sorted-where_key, same_entries, where_key}
use Rattle.std.proofs.Math.Seq.{drop-cons}
use Rattle.std.proofs.lemmas.Bool.{and_parts, or_cases, or_left, or_right}
use Rattle.std.proofs.lemmas.List.Elements.{Contains-append_left, Contains-append_right}
use Rattle.std.proofs.lemmas.List.Folds.{list_any-append}
use Rattle.std.proofs.lemmas.Slice.Eq.{bytes_eq-Decides}
use Rattle.kp_lemmas.proofs.Members.{all_from, any_from, passing}
use Rattle.kp_lemmas.proofs.Orders.{tie_of_itself}
use Rattle.kp_base.specs.declared.key.Pair.{Pair}
use Rattle.kp_types.specs.declared.pod.Pod.{Pod}
use Rattle.kp_types.specs.declared.service.Service.{Service}
use Rattle.kp_object_defs.specs.Desired.{has_label, has_selector, is_empty, is_external_name, selects}
use Rattle.kp_store.specs.Indexes.{is_among, is_tagged}
use Rattle.kp_store.specs.LookUps.{selects_if}
use Rattle.kp_store.specs.Numbers.{Numbers, joined, number_of, number_set, numbers_of, start_of, with_pair}
use Rattle.kp_store.specs.Paths.{any_leads, leads}
use Rattle.kp_store.specs.Tags.{path_tag, path_tags, selector_tags, tags_of, tags_of_port}
use Rattle.kp_store.specs.declared.tags.ServiceTag.{ServiceTag}
use Rattle.kp_store.specs.declared.tags.ServiceTag.TheVariants.{Selector, Prefix}
use Rattle.kp_store.proofs.Buckets.{some_or}
use Rattle.kp_store.proofs.Selected.{selected_parts}

-- ---- numbers of pairs

abbrev has_number : ℕ → Pair → Bool
has_number q p = eq_by_cmp nat_cmp q (number_of p)

one_more : (any tie old : Bool) → any || (tie || old) ≡ (tie || any) || old
one_more true true old = refl
one_more true false old = refl
one_more false true old = refl
one_more false false old = refl

in_numbers : (pairs : List Pair) (m : Numbers) (q : ℕ) → contains_key (fold with_pair m pairs) q ≡ list_any (has_number q) pairs || contains_key m q
in_numbers [] m q = refl
in_numbers (p ∷ ps) m q =
    in_numbers ps (with_pair m p) q
    ∙ ap (λ b. list_any (has_number q) ps || b) (ap is_some (get-insert nat_cmp_total m (number_of p) tt q) ∙ some_or (has_number q p) tt (get m q))
    ∙ one_more (list_any (has_number q) ps) (has_number q p) (contains_key m q)

pub or_none : (a b : Bool) → b ≡ false → a || b ≡ a
or_none true b h = refl
or_none false b h = h

in_set : (pairs : List Pair) (q : ℕ) → contains_key (number_set pairs) q ≡ list_any (has_number q) pairs
in_set pairs q =
    in_numbers pairs empty q
    ∙ or_none (list_any (has_number q) pairs) (contains_key (empty {X = Unit {0}} {R = nat_cmp}) q) (ap is_some (get-empty {X = Unit {0}} nat_cmp q))

-- the number of a term is that of the label that matches it
same_number : (q : ℕ) (term l : Pair) → has_number q term ≡ true → bytes_eq l.key term.key && bytes_eq l.value term.value ≡ true → has_number q l ≡ true
same_number q term l is matches =
    let parts = and_parts (bytes_eq l.key term.key) (bytes_eq l.value term.value) matches in
    let one : l ≡ term = λ i. record { key = (bytes_eq-Decides l.key term.key).0 parts.0 i; value = (bytes_eq-Decides l.value term.value).0 parts.1 i } in
    ap (has_number q) one ∙ is

-- the labels of a pod have the numbers of the terms that they match
matched : (pod : Pod) (q : ℕ) (terms : List Pair) → list_all (has_label pod) terms ≡ true → list_any (has_number q) terms ≡ true → list_any (has_number q) pod.labels ≡ true
matched pod q [] all some = absurd (cc)
matched pod q (t ∷ ts) all some =
    let parts = and_parts (has_label pod t) (list_all (has_label pod) ts) all in
    elim (or_cases (has_number q t) (list_any (has_number q) ts) some) [
      | inl first ↦
          let (l, in_labels, is) = passing (λ (l : Pair). bytes_eq l.key t.key && bytes_eq l.value t.value) pod.labels parts.0 in
          any_from (has_number q) l pod.labels in_labels (same_number q t l first is)
      | inr later ↦ matched pod q ts parts.1 later
    ]

-- ---- fewer numbers are those of more that are among them

one_option : (a b : Option (Unit {0})) → (is_some a ≡ true → is_some b ≡ true) → a ≡ cond (is_some a) b None
one_option None b h = refl
one_option (Some x) None h = let e : false ≡ true = h refl in absurd (cc)
one_option (Some x) (Some y) h = refl

fewer : (a b : Numbers) → ((q : ℕ) → contains_key a q ≡ true → contains_key b q ≡ true) → entries a ≡ where_key nat_cmp (contains_key a) (entries b)
fewer a b within =
    same_entries nat_cmp nat_cmp_total nat_cmp-IsAntisymmetric (entries a) (where_key nat_cmp (contains_key a) (entries b)) (entries_sorted a) (is_sorted-where_key nat_cmp (contains_key a) (entries b) (entries_sorted b)) (λ q.
    sym (get-entries a q)
    ∙ one_option (get a q) (get b q) (within q)
    ∙ ap (λ o. cond (contains_key a q) o None) (get-entries b q)
    ∙ sym (find-where_key nat_cmp (contains_key a) q (λ x tie. ap (contains_key a) (sym (nat_cmp-IsAntisymmetric q x tie))) (entries b)))

keys_kept : (p : ℕ → Bool) (es : List (ℕ × Unit {0})) → map (λ e. e.0) (filter (λ e. p e.0) es) ≡ filter p (map (λ e. e.0) es)
keys_kept p [] = refl
keys_kept p (e ∷ es) = by (p e.0) (keys_kept p es)
  where
    by : (b : Bool) → map (λ e. e.0) (filter (λ e. p e.0) es) ≡ filter p (map (λ e. e.0) es) → map (λ e. e.0) (cond b (e ∷ filter (λ e. p e.0) es) (filter (λ e. p e.0) es)) ≡ cond b (e.0 ∷ filter p (map (λ e. e.0) es)) (filter p (map (λ e. e.0) es))
    by true rest = ap (λ ks. e.0 ∷ ks) rest
    by false rest = rest

among_more : (a b : Numbers) → ((q : ℕ) → contains_key a q ≡ true → contains_key b q ≡ true) → keys a ≡ filter (contains_key a) (keys b)
among_more a b within = ap (map (λ e. e.0)) (fewer a b within) ∙ keys_kept (contains_key a) (entries b)

-- where there is a pair, there is a number
some_number : (t : Pair) (ts : List Pair) → is_empty (numbers_of (t ∷ ts)) ≡ false
some_number t ts = by (entries (number_set (t ∷ ts))) refl
  where
    there : contains_key (number_set (t ∷ ts)) (number_of t) ≡ true
    there = in_set (t ∷ ts) (number_of t) ∙ or_left (has_number (number_of t) t) (list_any (has_number (number_of t)) ts) (tie_of_itself nat_cmp_total (number_of t))

    by : (es : List (ℕ × Unit {0})) → entries (number_set (t ∷ ts)) ≡ es → is_empty (map (λ e. e.0) es) ≡ false
    by [] is =
        let none : contains_key (number_set (t ∷ ts)) (number_of t) ≡ false = ap is_some (get-entries (number_set (t ∷ ts)) (number_of t) ∙ ap (find nat_cmp (number_of t)) is) in
        let e : true ≡ false = sym there ∙ none in absurd (cc)
    by (e ∷ es) is = refl

-- ---- paths

module _ (has : ServiceTag → Bool) (at n : ℕ) (ns : List ℕ) where
  abbrev here : Bool
  here = has (Selector (joined at n))

  abbrev beyond : Bool
  beyond = has (Prefix (joined at n)) && leads has (joined at n) ns

  -- a number that passes leads on, with the others that do
  through : (rest : List ℕ) → (list_all has (path_tags (joined at n) rest) ≡ true → is_empty rest ≡ false → leads has (joined at n) ns ≡ true) → list_all has (path_tag rest (joined at n) ∷ path_tags (joined at n) rest) ≡ true → here || (beyond || leads has at ns) ≡ true
  through [] next all = or_left here (beyond || leads has at ns) (and_parts here true all).0
  through (m ∷ ms) next all =
      let parts = and_parts (has (Prefix (joined at n))) (list_all has (path_tags (joined at n) (m ∷ ms))) all in
      let later = next parts.1 refl in
      or_right here (beyond || leads has at ns) (or_left beyond (leads has at ns) (λ i. parts.0 i && later i))

  one_number : (rest : List ℕ) → (list_all has (path_tags (joined at n) rest) ≡ true → is_empty rest ≡ false → leads has (joined at n) ns ≡ true) → (list_all has (path_tags at rest) ≡ true → is_empty rest ≡ false → leads has at ns ≡ true) → (b : Bool) → list_all has (path_tags at (cond b (n ∷ rest) rest)) ≡ true → is_empty (cond b (n ∷ rest) rest) ≡ false → here || (beyond || leads has at ns) ≡ true
  one_number rest next same true all some = through rest next all
  one_number rest next same false all some = or_right here (beyond || leads has at ns) (or_right beyond (leads has at ns) (same all some))

-- numbers lead along the path of those that pass
along : (has : ServiceTag → Bool) (p : ℕ → Bool) (at : ℕ) (ns : List ℕ) → list_all has (path_tags at (filter p ns)) ≡ true → is_empty (filter p ns) ≡ false → leads has at ns ≡ true
along has p at [] all some = absurd (cc)
along has p at (n ∷ ns) all some = one_number has at n ns (filter p ns) (along has p (joined at n) ns) (along has p at ns) (p n) all some

module _ (same : ServiceTag → ServiceTag → Bool) (laws : IsEquivalence same) where
  -- a Service has the tags of its selector
  own_tags : (s : Service) → list_all (is_among same (tags_of s)) (selector_tags s) ≡ true
  own_tags s =
      all_from (is_among same (tags_of s)) (selector_tags s) (λ t is.
      any_from (same t) t (tags_of s) (Contains-append_left (selector_tags s) (flat_map (tags_of_port s) s.ports) t is) (laws.refl t))

  -- the labels of a pod lead to a Service that selects it
  pub led_to : (s : Service) (pod : Pod) → selects s pod ≡ true → leads (is_among same (tags_of s)) (start_of pod.key.namespace) (numbers_of pod.labels) ≡ true
  led_to s pod h =
      let parts = selected_parts s pod h in
      let within : (q : ℕ) → contains_key (number_set s.selector) q ≡ true → contains_key (number_set pod.labels) q ≡ true = λ q is. in_set pod.labels q ∙ matched pod q s.selector parts.1.1 (sym (in_set s.selector q) ∙ is) in
      let path : numbers_of s.selector ≡ filter (contains_key (number_set s.selector)) (numbers_of pod.labels) = among_more (number_set s.selector) (number_set pod.labels) within in
      along (is_among same (tags_of s)) (contains_key (number_set s.selector)) (start_of pod.key.namespace) (numbers_of pod.labels)
      (ap (λ ns. list_all (is_among same (tags_of s)) (path_tags (start_of pod.key.namespace) ns)) (sym path)
      ∙ ap (λ n. list_all (is_among same (tags_of s)) (path_tags (start_of n) (numbers_of s.selector))) parts.1.0
      ∙ own_tags s)
      (ap (λ (ns : List ℕ). is_empty ns) (sym path) ∙ some s.selector parts.0)
    where
      some : (terms : List Pair) → not (is_empty terms) && not (is_external_name s.kind) ≡ true → is_empty (numbers_of terms) ≡ false
      some [] h = absurd (cc)
      some (t ∷ ts) h = some_number t ts

  -- from the start, where there is one
  pub led_at : (pod : Pod) (o : Option Service) → selects_if pod o ≡ true → any_leads (λ t. is_tagged same tags_of t o) (start_of pod.key.namespace ∷ []) (numbers_of pod.labels) ≡ true
  led_at pod None h = absurd (cc)
  led_at pod (Some s) h = or_left (leads (is_among same (tags_of s)) (start_of pod.key.namespace) (numbers_of pod.labels)) false (led_to s pod h)

pub same_truth : (a b : Bool) → (a ≡ true → b ≡ true) → (b ≡ true → a ≡ true) → a ≡ b
same_truth true b f g = sym (f refl)
same_truth false true f g = g refl
same_truth false false f g = refl

-- ---- one step

-- a path that goes on
goes : (here now any prefix beyond stays others : Bool) → (stays ≡ true → any ≡ true) → now || (any || ((here || ((prefix && beyond) || stays)) || others)) ≡ true → (here || now) || ((any || beyond) || others) ≡ true
goes true now any prefix beyond stays others kept h = refl
goes false true any prefix beyond stays others kept h = refl
goes false false true prefix beyond stays others kept h = refl
goes false false false prefix true stays others kept h = refl
goes false false false prefix false true others kept h = let e : false ≡ true = kept refl in absurd (cc)
goes false false false true false false others kept h = h
goes false false false false false false others kept h = h

-- and one that ends
ends : (here now any prefix beyond stays others : Bool) → prefix ≡ false → (stays ≡ true → any ≡ true) → now || (any || ((here || ((prefix && beyond) || stays)) || others)) ≡ true → (here || now) || (any || others) ≡ true
ends true now any prefix beyond stays others none kept h = refl
ends false true any prefix beyond stays others none kept h = refl
ends false false true prefix beyond stays others none kept h = refl
ends false false false true beyond stays others none kept h = absurd (cc)
ends false false false false beyond true others none kept h = let e : false ≡ true = kept refl in absurd (cc)
ends false false false false beyond false others none kept h = h

with_none : (b : Bool) → b || false ≡ b
with_none true = refl
with_none false = refl

module _ (has : ServiceTag → Bool) (at number : ℕ) (rest paths others : List ℕ) (now : Bool) (there : Contains paths at) where
  still : leads has at rest ≡ true → any_leads has paths rest ≡ true
  still is = any_from (λ at. leads has at rest) at paths there is

  pub one_on : now || (any_leads has paths rest || any_leads has (at ∷ others) (number ∷ rest)) ≡ true → (has (Selector (joined at number)) || now) || (any_leads has (paths ++ joined at number ∷ []) rest || any_leads has others (number ∷ rest)) ≡ true
  one_on h =
      ap (λ b. (has (Selector (joined at number)) || now) || (b || any_leads has others (number ∷ rest))) (list_any-append (λ at. leads has at rest) paths (joined at number ∷ []) ∙ ap (λ b. any_leads has paths rest || b) (with_none (leads has (joined at number) rest)))
      ∙ goes (has (Selector (joined at number))) now (any_leads has paths rest) (has (Prefix (joined at number))) (leads has (joined at number) rest) (leads has at rest) (any_leads has others (number ∷ rest)) still h

  pub no_further : has (Prefix (joined at number)) ≡ false → now || (any_leads has paths rest || any_leads has (at ∷ others) (number ∷ rest)) ≡ true → (has (Selector (joined at number)) || now) || (any_leads has paths rest || any_leads has others (number ∷ rest)) ≡ true
  no_further none h =
      ends (has (Selector (joined at number))) now (any_leads has paths rest) (has (Prefix (joined at number))) (leads has (joined at number) rest) (leads has at rest) (any_leads has others (number ∷ rest)) none still h

-- no numbers lead nowhere
pub lead_nowhere : (has : ServiceTag → Bool) (paths : List ℕ) → any_leads has paths [] ≡ false
lead_nowhere has [] = refl
lead_nowhere has (at ∷ paths) = lead_nowhere has paths
