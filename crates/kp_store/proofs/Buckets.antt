-- What stands in which bucket once a key is added to one or removed.
use Rattle.std.proofs.Common.{◌≡◌, ℕ, zero, suc, ◌+◌, ◌<◌, ◌&&◌, ◌||◌, Bool, true, false, not, cond, List, [], ◌∷◌, filter, take, length, get_or, Option, Some, None, is_some, refl, sym, ap, ◌∙◌}
use Rattle.std.specs.Map.{lookup}
use Rattle.std.specs.Option.{unwrap_or}
use Rattle.std.specs.Ordering.{eq_by_cmp}
use Rattle.std.specs.Cmp.{IsEquivalence}
use Rattle.std.specs.FinMap.{get, get-empty, get-insert, get-remove, insert, remove, empty, contains_key, same_map}
use Rattle.std.proofs.lemmas.List.Folds.{list_any_more}
use mathlib.Core.Bool.{and-false}
use Rattle.kp_lemmas.proofs.Orders.{one_from_tie}
use Rattle.kp_base.specs.Keys.{key_cmp}
use Rattle.kp_base.specs.declared.key.ObjectKey.{ObjectKey}
use Rattle.kp_base.proofs.KeyOrder.{key_total, key_exact}
use Rattle.kp_store.specs.Indexes.{Keys, has, is_among, is_pair, is_tag_of}

-- ---- truth values

one_less : (s e m old : Bool) → not (s && e) && (not (e && m) && old) ≡ not (e && (m || s)) && old
one_less true true true old = refl
one_less true true false old = refl
one_less true false m old = refl
one_less false true true old = refl
one_less false true false old = refl
one_less false false m old = refl

one_more_tag : (s e m old : Bool) → (s && e) || ((e && m) || old) ≡ (e && (m || s)) || old
one_more_tag true true true old = refl
one_more_tag true true false old = refl
one_more_tag true false m old = refl
one_more_tag false true true old = refl
one_more_tag false true false old = refl
one_more_tag false false m old = refl

back : (b m some old : Bool) → (b ≡ true → m ≡ true → old ≡ false) → (some ≡ true → m ≡ true) → not (b && m) && ((b && some) || old) ≡ old
back false m some old absent all = refl
back true true some true absent all = let h : true ≡ false = absent refl refl in absurd (cc)
back true true some false absent all = refl
back true false true old absent all = let h : false ≡ true = all refl in absurd (cc)
back true false false old absent all = refl

pub or_later : (a p q : Bool) → (p ≡ true → q ≡ true) → a || p ≡ true → a || q ≡ true
or_later true p q f h = refl
or_later false p q f h = f h

-- ---- one bucket

pub some_or : {X : Type 0} (b : Bool) (x : X) (o : Option X) → is_some (cond b (Some x) o) ≡ b || is_some o
some_or true x o = refl
some_or false x o = refl

some_and : {X : Type 0} (b : Bool) (o : Option X) → is_some (cond b None o) ≡ not b && is_some o
some_and true o = refl
some_and false o = refl

pub in_inserted : (m : Keys) (key k : ObjectKey) → contains_key (insert m key tt) k ≡ eq_by_cmp key_cmp k key || contains_key m k
in_inserted m key k = ap is_some (get-insert key_total m key tt k) ∙ some_or (eq_by_cmp key_cmp k key) tt (get m k)

pub in_removed : (m : Keys) (key k : ObjectKey) → contains_key (remove m key) k ≡ not (eq_by_cmp key_cmp k key) && contains_key m k
in_removed m key k = ap is_some (get-remove key_total m key k) ∙ some_and (eq_by_cmp key_cmp k key) (get m k)

-- nothing is taken out of no keys
pub none_taken : (key : ObjectKey) → remove (empty {X = Unit {0}} {R = key_cmp}) key ≡ empty
none_taken key =
    same_map key_total key_exact _ _ (λ q. get-remove key_total empty key q ∙ by q (eq_by_cmp key_cmp q key))
  where
    by : (q : ObjectKey) (b : Bool) → cond b None (get (empty {X = Unit {0}} {R = key_cmp}) q) ≡ get (empty {X = Unit {0}} {R = key_cmp}) q
    by q true = sym (get-empty key_cmp q)
    by q false = refl

module _ {T : Type 0} (same : T → T → Bool) (laws : IsEquivalence same) where
  -- tags that are the same have one bucket
  pub lookup_tied : (tag t : T) → same tag t ≡ true → (es : List (T × Keys)) → lookup (same t) es ≡ lookup (same tag) es
  lookup_tied tag t tie [] = refl
  lookup_tied tag t tie (e ∷ es) = λ i. cond (sym (laws.congr tag t e.0 tie) i) (Some e.1) (lookup_tied tag t tie es i)

  among_tied : (tag t : T) → same tag t ≡ true → (tags : List T) → is_among same tags t ≡ is_among same tags tag
  among_tied tag t tie [] = refl
  among_tied tag t tie (u ∷ us) = λ i. sym (laws.congr tag t u tie) i || among_tied tag t tie us i

  -- tags without others
  pub among_others : (others tags : List T) (t : T) → is_among same (filter (λ u. not (is_among same others u)) tags) t ≡ is_among same tags t && not (is_among same others t)
  among_others others [] t = refl
  among_others others (u ∷ us) t = by (same t u) (not (is_among same others u)) refl (λ tie. ap not (sym (among_tied u t (laws.symm u t ∙ tie) others))) (among_others others us t)
    where
      by : (tie out : Bool) → same t u ≡ tie → (tie ≡ true → out ≡ not (is_among same others t)) → is_among same (filter (λ u. not (is_among same others u)) us) t ≡ is_among same us t && not (is_among same others t) → is_among same (cond out (u ∷ filter (λ u. not (is_among same others u)) us) (filter (λ u. not (is_among same others u)) us)) t ≡ (tie || is_among same us t) && not (is_among same others t)
      by true true is one rest = ap (λ b. b || is_among same (filter (λ u. not (is_among same others u)) us) t) is ∙ one refl
      by true false is one rest = rest ∙ ap (λ b. is_among same us t && b) (sym (one refl)) ∙ and-false (is_among same us t) ∙ one refl
      by false true is one rest = ap (λ b. b || is_among same (filter (λ u. not (is_among same others u)) us) t) is ∙ rest
      by false false is one rest = rest

  module _ (es fs : List (T × Keys)) (tag : T) (w : Keys) (h : (t : T) → lookup (same t) fs ≡ cond (same tag t) (Some w) (lookup (same t) es)) where
    -- what the new bucket is, and that others stay
    here : (t : T) (k : ObjectKey) → same tag t ≡ true → has same fs t k ≡ contains_key w k
    here t k e = ap (λ o. contains_key (unwrap_or o empty) k) (h t ∙ ap (λ b. cond b (Some w) (lookup (same t) es)) e)

    before : (t : T) (k : ObjectKey) → same tag t ≡ true → contains_key (unwrap_or (lookup (same tag) es) empty) k ≡ has same es t k
    before t k e = ap (λ o. contains_key (unwrap_or o empty) k) (sym (lookup_tied tag t e es))

    elsewhere : (t : T) (k : ObjectKey) → same tag t ≡ false → has same fs t k ≡ has same es t k
    elsewhere t k e = ap (λ o. contains_key (unwrap_or o empty) k) (h t ∙ ap (λ b. cond b (Some w) (lookup (same t) es)) e)

    turned : (t : T) (b : Bool) → same tag t ≡ b → same t tag ≡ b
    turned t b e = laws.symm t tag ∙ e

    added_by : (key : ObjectKey) → ((k : ObjectKey) → contains_key w k ≡ eq_by_cmp key_cmp k key || contains_key (unwrap_or (lookup (same tag) es) empty) k) → (t : T) (k : ObjectKey) (b : Bool) → same tag t ≡ b → has same fs t k ≡ is_pair same tag key t k || has same es t k
    added_by key is t k true e =
        here t k e
        ∙ is k
        ∙ ap (λ b. eq_by_cmp key_cmp k key || b) (before t k e)
        ∙ ap (λ b. (b && eq_by_cmp key_cmp k key) || has same es t k) (sym (turned t true e))
    added_by key is t k false e =
        elsewhere t k e
        ∙ ap (λ b. (b && eq_by_cmp key_cmp k key) || has same es t k) (sym (turned t false e))

    pub added : (key : ObjectKey) → ((k : ObjectKey) → contains_key w k ≡ eq_by_cmp key_cmp k key || contains_key (unwrap_or (lookup (same tag) es) empty) k) → (t : T) (k : ObjectKey) → has same fs t k ≡ is_pair same tag key t k || has same es t k
    added key is t k = added_by key is t k (same tag t) refl

    removed_by : (key : ObjectKey) → ((k : ObjectKey) → contains_key w k ≡ not (eq_by_cmp key_cmp k key) && contains_key (unwrap_or (lookup (same tag) es) empty) k) → (t : T) (k : ObjectKey) (b : Bool) → same tag t ≡ b → has same fs t k ≡ not (is_pair same tag key t k) && has same es t k
    removed_by key is t k true e =
        here t k e
        ∙ is k
        ∙ ap (λ b. not (eq_by_cmp key_cmp k key) && b) (before t k e)
        ∙ ap (λ b. not (b && eq_by_cmp key_cmp k key) && has same es t k) (sym (turned t true e))
    removed_by key is t k false e =
        elsewhere t k e
        ∙ ap (λ b. not (b && eq_by_cmp key_cmp k key) && has same es t k) (sym (turned t false e))

    pub removed : (key : ObjectKey) → ((k : ObjectKey) → contains_key w k ≡ not (eq_by_cmp key_cmp k key) && contains_key (unwrap_or (lookup (same tag) es) empty) k) → (t : T) (k : ObjectKey) → has same fs t k ≡ not (is_pair same tag key t k) && has same es t k
    removed key is t k = removed_by key is t k (same tag t) refl

    stayed_by : w ≡ unwrap_or (lookup (same tag) es) empty → (t : T) (k : ObjectKey) (b : Bool) → same tag t ≡ b → has same fs t k ≡ has same es t k
    stayed_by is t k true e = here t k e ∙ ap (λ m. contains_key m k) is ∙ before t k e
    stayed_by is t k false e = elsewhere t k e

    -- a bucket that was written back as it was
    pub stayed : w ≡ unwrap_or (lookup (same tag) es) empty → (t : T) (k : ObjectKey) → has same fs t k ≡ has same es t k
    stayed is t k = stayed_by is t k (same tag t) refl

  -- a tag that has no bucket has no keys to remove
  pub none_removed : (es : List (T × Keys)) (tag : T) (key : ObjectKey) → lookup (same tag) es ≡ None → (t : T) (k : ObjectKey) → has same es t k ≡ not (is_pair same tag key t k) && has same es t k
  none_removed es tag key none t k = by (same tag t) refl
    where
      by : (b : Bool) → same tag t ≡ b → has same es t k ≡ not (is_pair same tag key t k) && has same es t k
      by true e =
          let nothing : has same es t k ≡ false = ap (λ o. contains_key (unwrap_or o empty) k) (lookup_tied tag t e es ∙ none) ∙ ap is_some (get-empty key_cmp k) in
          nothing ∙ sym (and-false (not (is_pair same tag key t k))) ∙ ap (λ b. not (is_pair same tag key t k) && b) (sym nothing)
      by false e = ap (λ b. not (b && eq_by_cmp key_cmp k key) && has same es t k) (sym (laws.symm t tag ∙ e))

  -- an empty bucket that is forgotten was of no use
  pub forgotten : (es fs : List (T × Keys)) (tag : T) (b : Keys) → Some b ≡ lookup (same tag) es → ((k : ObjectKey) → contains_key b k ≡ false) → ((t : T) → lookup (same t) fs ≡ cond (same tag t) None (lookup (same t) es)) → (t : T) (k : ObjectKey) → has same fs t k ≡ has same es t k
  forgotten es fs tag b is none h t k = by (same tag t) refl
    where
      by : (c : Bool) → same tag t ≡ c → has same fs t k ≡ has same es t k
      by true e =
          ap (λ o. contains_key (unwrap_or o empty) k) (h t ∙ ap (λ c. cond c None (lookup (same t) es)) e)
          ∙ ap is_some (get-empty key_cmp k)
          ∙ sym (ap (λ o. contains_key (unwrap_or o empty) k) (lookup_tied tag t e es ∙ sym is) ∙ none k)
      by false e = ap (λ o. contains_key (unwrap_or o empty) k) (h t ∙ ap (λ c. cond c None (lookup (same t) es)) e)

  -- a key that stands in the bucket of a tag that is kept is added already
  pub kept_there : (es : List (T × Keys)) (tag : T) (key : ObjectKey) → has same es tag key ≡ true → (t : T) (k : ObjectKey) → has same es t k ≡ is_pair same tag key t k || has same es t k
  kept_there es tag key there t k = by (same t tag) (eq_by_cmp key_cmp k key) refl refl
    where
      by : (c d : Bool) → same t tag ≡ c → eq_by_cmp key_cmp k key ≡ d → has same es t k ≡ (c && d) || has same es t k
      by false d e f = refl
      by true false e f = refl
      by true true e f =
          ap (has same es t) (one_from_tie key_exact k key f)
          ∙ ap (λ o. contains_key (unwrap_or o empty) key) (lookup_tied tag t (laws.symm tag t ∙ e) es)
          ∙ there

  -- ---- tags one after the other

  among_more : (tags : List T) (i : ℕ) (tag t : T) → i < length tags → tag ≡ get_or tags i tag → is_among same (take (i + 1) tags) t ≡ is_among same (take i tags) t || same t tag
  among_more tags i tag t lt is =
      list_any_more (same t) tags i tag lt ∙ ap (λ u. is_among same (take i tags) t || same t u) (sym is)

  -- one more tag that a key is added for
  pub add_step : (tags : List T) (i : ℕ) (tag : T) → i < length tags → tag ≡ get_or tags i tag → (key : ObjectKey) (t : T) (k : ObjectKey) (old : Bool) → is_pair same tag key t k || (is_tag_of same (take i tags) key t k || old) ≡ is_tag_of same (take (i + 1) tags) key t k || old
  add_step tags i tag lt is key t k old =
      one_more_tag (same t tag) (eq_by_cmp key_cmp k key) (is_among same (take i tags) t) old
      ∙ ap (λ b. (eq_by_cmp key_cmp k key && b) || old) (sym (among_more tags i tag t lt is))

  -- one more tag that is gone
  pub trim_step : (tags : List T) (i : ℕ) (tag : T) → i < length tags → tag ≡ get_or tags i tag → (key : ObjectKey) (t : T) (k : ObjectKey) (old : Bool) → not (is_pair same tag key t k) && (not (is_tag_of same (take i tags) key t k) && old) ≡ not (is_tag_of same (take (i + 1) tags) key t k) && old
  trim_step tags i tag lt is key t k old =
      one_less (same t tag) (eq_by_cmp key_cmp k key) (is_among same (take i tags) t) old
      ∙ ap (λ b. not (eq_by_cmp key_cmp k key && b) && old) (sym (among_more tags i tag t lt is))

  among_some : (i : ℕ) (tags : List T) (t : T) → is_among same (take i tags) t ≡ true → is_among same tags t ≡ true
  among_some zero tags t h = absurd (cc)
  among_some (suc i) [] t h = h
  among_some (suc i) (u ∷ us) t h = or_later (same t u) (is_among same (take i us) t) (is_among same us t) (among_some i us t) h

  -- tags that were added in part, and removed again
  pub undone : (tags : List T) (i : ℕ) (key : ObjectKey) (t : T) (k : ObjectKey) (old : Bool) → (eq_by_cmp key_cmp k key ≡ true → is_among same tags t ≡ true → old ≡ false) → not (is_tag_of same tags key t k) && (is_tag_of same (take i tags) key t k || old) ≡ old
  undone tags i key t k old absent = back (eq_by_cmp key_cmp k key) (is_among same tags t) (is_among same (take i tags) t) old absent (among_some i tags t)

  -- and all of them
  pub undone_all : (tags : List T) (key : ObjectKey) (t : T) (k : ObjectKey) (old : Bool) → (eq_by_cmp key_cmp k key ≡ true → is_among same tags t ≡ true → old ≡ false) → not (is_tag_of same tags key t k) && (is_tag_of same tags key t k || old) ≡ old
  undone_all tags key t k old absent = back (eq_by_cmp key_cmp k key) (is_among same tags t) (is_among same tags t) old absent (λ e. e)

-- nothing is gone
pub trim_none : (b old : Bool) → old ≡ not (b && false) && old
trim_none true old = refl
trim_none false old = refl
