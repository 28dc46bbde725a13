-- The places of a table's chains as a set, while edits are made.
use Rattle.std.proofs.Common.{◌≡◌, ◌||◌, ◌&&◌, ◌+◌, ◌<◌, ◌≤◌, ◌-◌, ◌∷◌, ◌++◌, [], ℕ, suc, Bool, true, false, cond, List, Option, Some, None, is_some, fold, length, drop, arith, refl, sym, ap, ◌∙◌, subst, ◌⊎◌, inl, inr, ⊎_elim}
use Rattle.std.specs.declared.cmp.Ordering.{Ordering}
use Rattle.std.specs.BTreeSet.{BTreeSet, IsOrdered}
use Rattle.std.specs.Cmp.{IsTotalOrder, eq_by_cmp_equiv}
use Rattle.std.specs.FinMap.{IsAntisymmetric, keys, contains_key, contains_key-keys, empty, get, get-empty, get-insert, get-remove}
use Rattle.std.specs.List.{list_any}
use Rattle.std.specs.List.Sorted.{IsStrictlySortedBy}
use Rattle.std.specs.Ordering.{eq_by_cmp}
use Rattle.std.proofs.lemmas.Bool.{false≢true, or_cases, or_left, or_right}
use denote.Ref.{Bor}
use lib.ListN.{get_or}
use Rattle.std.specs.Option.{option_copied}
use Rattle.std.proofs.lemmas.List.Folds.{list_any-append, list_any_at}
use Rattle.std.proofs.Math.Seq.{drop-cons}
use Rattle.std.proofs.lemmas.Map.Lookups.{btree_set_from_contains}
use Rattle.kp_types.specs.Places.{chain_cmp}
use Rattle.kp_types.specs.declared.chain.ChainAt.{ChainAt}
use Rattle.kp_types.specs.declared.rule.Rule.{Rule}
use Rattle.kp_types.specs.declared.rule.Edit.{Edit}
use Rattle.kp_types.specs.declared.rule.Edit.TheVariants.{Write, Remove}
use Rattle.kp_types.specs.contracts.chain.ChainAtOrd.TheImpl as order
use Rattle.kp_types.proofs.ChainOrder.{chain_total, chain_exact, chain_matches, chain_tree_ties}
use Rattle.kp_table_defs.specs.Rebuild.{Chains}
use Rattle.kp_table_defs.specs.Edits.{chains_after_edit, is_write}
use Rattle.kp_lemmas.proofs.Orders.{one_from_tie}
use Rattle.kp_rules.specs.Placed.{has_place, place_of, is_at, is_edited, is_written, ArePlaces, AreStaged, HaveWritten}
use Rattle.kp_rules.proofs.MapPlaces.{keys-sorted}

-- ---- the places of all chains

same_order : ◌≡◌ {A = ChainAt → ChainAt → Ordering} order.ghosts.cmp chain_cmp
same_order = λ i a b. chain_matches a b i

order_total : IsTotalOrder order.ghosts.cmp
order_total = subst IsTotalOrder (sym same_order) chain_total

order_exact : IsAntisymmetric order.ghosts.cmp
order_exact = subst IsAntisymmetric (sym same_order) chain_exact

-- are known by where there is a chain
place_tests : (m : Chains) (q : ChainAt) → list_any (eq_by_cmp order.ghosts.cmp q) (keys m) ≡ contains_key m q
place_tests m q =
    ap (λ R. list_any (eq_by_cmp R q) (keys m)) same_order ∙ sym (contains_key-keys m q)

keys_ordered : (m : Chains) → IsStrictlySortedBy order.ghosts.cmp (keys m)
keys_ordered m = subst (λ R. IsStrictlySortedBy R (keys m)) (sym same_order) (keys-sorted m)

pub places_are : (places : BTreeSet ChainAt) (m : Chains) → IsOrdered order.ghosts.cmp places
    → ((q : ChainAt) → has_place places q ≡ contains_key m q) → ArePlaces places m
places_are places m ordered same =
    btree_set_from_contains order_total places (record { keys = keys m }) ordered (keys_ordered m)
    (λ q. same q ∙ sym (place_tests m q)) order_exact

pub places_tell : (places : BTreeSet ChainAt) (m : Chains) → ArePlaces places m → (q : ChainAt)
    → has_place places q ≡ contains_key m q
places_tell places m same q =
    ap (list_any (eq_by_cmp order.ghosts.cmp q)) same ∙ place_tests m q

-- none where there is no chain
pub no_places : (places : BTreeSet ChainAt) (m : Chains) → IsOrdered order.ghosts.cmp places → places.keys ≡ []
    → m ≡ empty → ArePlaces places m
no_places places m ordered none nothing =
    places_are places m ordered (λ q.
    ap (list_any (eq_by_cmp order.ghosts.cmp q)) none
    ∙ sym (ap (λ n. contains_key n q) nothing ∙ ap is_some (get-empty {X = List Rule} chain_cmp q)))

-- ---- one edit

tie : (at q : ChainAt) → eq_by_cmp chain_cmp q at ≡ eq_by_cmp order.ghosts.cmp at q
tie at q = (eq_by_cmp_equiv chain_total).symm q at ∙ sym (chain_tree_ties at q)

one_place : (e : Edit) (q : ChainAt) → is_at q e ≡ true → place_of e ≡ q
one_place e q t = one_from_tie chain_exact (place_of e) q (sym (chain_tree_ties (place_of e) q) ∙ t)

some_of : {X : Type 0} (b : Bool) (o n : Option X) → is_some (cond b n o) ≡ cond b (is_some n) (is_some o)
some_of true o n = refl
some_of false o n = refl

-- where there is a chain after it
pub found_after : (m : Chains) (e : Edit) (q : ChainAt)
    → contains_key (chains_after_edit m e) q ≡ cond (is_at q e) (is_write e) (contains_key m q)
found_after m (Write at rules) q =
    ap is_some (get-insert chain_total m at rules q)
    ∙ (some_of (eq_by_cmp chain_cmp q at) (get m q) (Some rules) ∙ ap (λ b. cond b true (contains_key m q)) (tie at q))
found_after m (Remove at) q =
    ap is_some (get-remove chain_total m at q)
    ∙ (some_of (eq_by_cmp chain_cmp q at) (get m q) None ∙ ap (λ b. cond b false (contains_key m q)) (tie at q))

-- a place more
pub places_more : (places more : BTreeSet ChainAt) (m : Chains) (at : ChainAt) (rules : List Rule) → ArePlaces places m
    → IsOrdered order.ghosts.cmp more
    → ((q : ChainAt) → has_place more q ≡ cond (eq_by_cmp order.ghosts.cmp at q) true (has_place places q))
    → ArePlaces more (chains_after_edit m (Write at rules))
places_more places more m at rules same ordered put =
    places_are more _ ordered (λ q.
    put q ∙ (ap (λ h. cond (eq_by_cmp order.ghosts.cmp at q) true h) (places_tell places m same q) ∙ sym (found_after m (Write at rules) q)))

-- ---- many edits

-- a chain that is found afterwards was there, or is written
found_or_written : (t w h r s : Bool) → (cond t w h ≡ true) ⊎ (s ≡ true) → h || ((w && t) || s) ≡ true
found_or_written t w true r s p = refl
found_or_written true w false r s (inl p) = ap (λ b. (b && true) || s) p
found_or_written false w false r s (inl p) = absurd (false≢true p)
found_or_written t w false r s (inr p) = or_right (w && t) s p

pub found_among : (es : List Edit) (m : Chains) (q : ChainAt)
    → contains_key (fold chains_after_edit m es) q ≡ true → contains_key m q || is_written es q ≡ true
found_among [] m q h = or_left (contains_key m q) false h
found_among (e ∷ es) m q h =
    let before = or_cases _ _ (found_among es (chains_after_edit m e) q h) in
    found_or_written (is_at q e) (is_write e) (contains_key m q) true (is_written es q)
    (subst (λ b. (b ≡ true) ⊎ (is_written es q ≡ true)) (found_after m e q) before)

-- where there is no edit all is as it was
elsewhere : (t s w h : Bool) → t || s ≡ false → (cond t w h ≡ h) × (s ≡ false)
elsewhere true s w h p = absurd (cc p)
elsewhere false s w h p = (refl, p)

pub untouched : (es : List Edit) (m : Chains) (q : ChainAt) → is_edited es q ≡ false
    → contains_key (fold chains_after_edit m es) q ≡ contains_key m q
untouched [] m q h = refl
untouched (e ∷ es) m q h =
    let other = elsewhere (is_at q e) (is_edited es q) (is_write e) (contains_key m q) h in
    untouched es (chains_after_edit m e) q other.1 ∙ (found_after m e q ∙ other.0)

-- ---- places beside edits

either_way : (a b : Bool) → (a ≡ true → b ≡ true) → (b ≡ true → a ≡ true) → a ≡ b
either_way true b f g = sym (f refl)
either_way false true f g = g refl
either_way false false f g = refl

-- places that have a chain are staged for all edits
pub staged_first : (places : BTreeSet ChainAt) (m : Chains) (es : List Edit) → ArePlaces places m → AreStaged places m es
staged_first places m es same = record {
  sorted = subst (IsStrictlySortedBy order.ghosts.cmp) (sym same) (keys_ordered m);
  filled = λ q h. places_tell places m same q ∙ h;
  edited = λ q h. or_left _ _ (sym (places_tell places m same q) ∙ h);
}

-- and stay so where the place of one of them is put in
pub kept : (t h : Bool) → h ≡ true → cond t true h ≡ true
kept true h p = refl
kept false h p = p

pub staged_more : (places more : BTreeSet ChainAt) (m : Chains) (es : List Edit) (i : ℕ) (e : Edit) → i < length es
    → e ≡ get_or es i e → IsOrdered order.ghosts.cmp more
    → ((q : ChainAt) → has_place more q ≡ cond (is_at q e) true (has_place places q))
    → AreStaged places m es → AreStaged more m es
staged_more places more m es i e lt is ordered put staged = record {
  sorted = ordered;
  filled = λ q h. put q ∙ kept (is_at q e) (has_place places q) (staged.filled q h);
  edited = λ q h. by q (is_at q e) refl (sym (put q) ∙ h);
}
  where
    by : (q : ChainAt) (t : Bool) → is_at q e ≡ t → cond t true (has_place places q) ≡ true
        → contains_key m q || is_edited es q ≡ true
    by q true t h = or_right _ _ (list_any_at (is_at q) es i e lt (ap (is_at q) (sym is) ∙ t))
    by q false t h = staged.edited q h

-- once all that is written is there, places are staged for the chains after the edits too
pub staged_after : (places : BTreeSet ChainAt) (m : Chains) (es : List Edit) → AreStaged places m es
    → HaveWritten places es → AreStaged places (fold chains_after_edit m es) es
staged_after places m es staged written = record {
  sorted = staged.sorted;
  filled = λ q h. ⊎_elim (staged.filled q) (written q) (or_cases _ _ (found_among es m q h));
  edited = λ q h. by q (is_edited es q) refl (staged.edited q h);
}
  where
    by : (q : ChainAt) (e : Bool) → is_edited es q ≡ e → contains_key m q || e ≡ true
        → contains_key (fold chains_after_edit m es) q || e ≡ true
    by q true k h = or_right _ true refl
    by q false k h = ap (λ b. b || false) (untouched es m q k) ∙ h

-- the place of the first edit that is left keeps a chain
pub staged_kept : (places : BTreeSet ChainAt) (m : Chains) (e : Edit) (es : List Edit) → AreStaged places m (e ∷ es)
    → contains_key m (place_of e) ≡ true → AreStaged places m es
staged_kept places m e es staged found = record {
  sorted = staged.sorted;
  filled = staged.filled;
  edited = λ q h. by q (is_at q e) refl (staged.edited q h);
}
  where
    by : (q : ChainAt) (t : Bool) → is_at q e ≡ t → contains_key m q || (t || is_edited es q) ≡ true
        → contains_key m q || is_edited es q ≡ true
    by q true t h = or_left _ _ (sym (ap (contains_key m) (one_place e q t)) ∙ found)
    by q false t h = h

-- or is taken out
pub staged_less : (places less : BTreeSet ChainAt) (m : Chains) (e : Edit) (es : List Edit) → AreStaged places m (e ∷ es)
    → contains_key m (place_of e) ≡ false → IsOrdered order.ghosts.cmp less
    → ((q : ChainAt) → has_place less q ≡ cond (is_at q e) false (has_place places q)) → AreStaged less m es
staged_less places less m e es staged none ordered taken = record {
  sorted = ordered;
  filled = λ q h. taken q ∙ kept q (is_at q e) refl h;
  edited = λ q h. by q (is_at q e) (sym (taken q) ∙ h) (staged.edited q);
}
  where
    kept : (q : ChainAt) (t : Bool) → is_at q e ≡ t → contains_key m q ≡ true → cond t false (has_place places q) ≡ true
    kept q true t h = absurd (false≢true (sym none ∙ (ap (contains_key m) (one_place e q t) ∙ h)))
    kept q false t h = staged.filled q h

    by : (q : ChainAt) (t : Bool) → cond t false (has_place places q) ≡ true
        → (has_place places q ≡ true → contains_key m q || (t || is_edited es q) ≡ true)
        → contains_key m q || is_edited es q ≡ true
    by q true h k = absurd (false≢true h)
    by q false h k = k h

-- until no edit is left
pub staged_last : (places : BTreeSet ChainAt) (m : Chains) → AreStaged places m [] → ArePlaces places m
staged_last places m staged =
    places_are places m staged.sorted (λ q.
    either_way (has_place places q) (contains_key m q)
    (λ h. ⊎_elim (λ k. k) (λ k. absurd (false≢true k)) (or_cases _ _ (staged.edited q h))) (staged.filled q))

-- ---- copies

-- a set that is told as a list in order is a copy of it
pub copy_is : (copy places : BTreeSet ChainAt) (ps : List ChainAt) → IsOrdered order.ghosts.cmp copy
    → IsOrdered order.ghosts.cmp places
    → ((q : ChainAt) → has_place copy q ≡ list_any (eq_by_cmp order.ghosts.cmp q) ps) → ps ≡ places.keys
    → copy.keys ≡ places.keys
copy_is copy places ps c p same all =
    btree_set_from_contains order_total copy places c p
    (λ q. same q ∙ ap (list_any (eq_by_cmp order.ghosts.cmp q)) all) order_exact

-- one place more is told
more_told : (t h : Bool) → cond t true h ≡ h || (t || false)
more_told true true = refl
more_told true false = refl
more_told false true = refl
more_told false false = refl

pub told_more : (copy more : BTreeSet ChainAt) (at : ChainAt) (ps : List ChainAt)
    → ((q : ChainAt) → has_place more q ≡ cond (eq_by_cmp order.ghosts.cmp at q) true (has_place copy q))
    → ((q : ChainAt) → has_place copy q ≡ list_any (eq_by_cmp order.ghosts.cmp q) ps)
    → (q : ChainAt) → has_place more q ≡ list_any (eq_by_cmp order.ghosts.cmp q) (ps ++ at ∷ [])
told_more copy more at ps put same q =
    put q ∙ ((λ i. cond ((eq_by_cmp_equiv order_total).symm at q i) true (same q i))
    ∙ (more_told (eq_by_cmp order.ghosts.cmp q at) (list_any (eq_by_cmp order.ghosts.cmp q) ps)
    ∙ sym (list_any-append (eq_by_cmp order.ghosts.cmp q) ps (at ∷ []))))

-- ---- at a step of a loop over edits

-- those that are left have this one first
pub staged_left : (places : BTreeSet ChainAt) (m : Chains) (es : List Edit) (i : ℕ) (e : Edit) → i < length es
    → e ≡ get_or es i e → AreStaged places m (drop i es) → AreStaged places m (e ∷ drop (i + 1) es)
staged_left places m es i e lt is =
    let next : suc i ≡ i + 1 = omega arith in
    subst (AreStaged places m) (drop-cons es i e lt ∙ (λ j. sym is j ∷ drop (next j) es))

-- and those after it, and it, are written
pub written_before : (places more : BTreeSet ChainAt) (es : List Edit) (i : ℕ) (e : Edit) → 0 < i
    → i ≤ length es → e ≡ get_or es (i - 1) e
    → ((q : ChainAt) → has_place places q ≡ true → has_place more q ≡ true)
    → ((q : ChainAt) → is_write e && is_at q e ≡ true → has_place more q ≡ true)
    → HaveWritten places (drop i es) → HaveWritten more (drop (i - 1) es)
written_before places more es i e some within is old new written q h =
    let inside : i - 1 < length es = omega (arith, some, within) in
    let next : suc (i - 1) ≡ i = omega (arith, some) in
    let cut : drop (i - 1) es ≡ e ∷ drop i es =
    drop-cons es (i - 1) e inside ∙ (λ k. sym is k ∷ drop (next k) es) in
    ⊎_elim (new q) (λ k. old q (written q k)) (or_cases _ _ (sym (ap (λ xs. is_written xs q) cut) ∙ h))

-- what is put in is there
pub there : (t h : Bool) → t ≡ true → cond t true h ≡ true
there t h p = ap (λ b. cond b true h) p

-- whether there is a value behind a reference
pub copied_is : {X : Type 0} (o : Option (Bor X)) → is_some (option_copied o) ≡ is_some o
copied_is None = refl
copied_is (Some x) = refl
