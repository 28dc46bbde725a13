-- What is found among slices, once some of them are taken out or put in.
use Rattle.std.proofs.Common.{◌≡◌, ◌⊎◌, inl, inr, Bool, true, false, cond, not, List, [], ◌∷◌, Contains, filter, Option, Some, None, refl, sym, ap, ◌∙◌}
use Rattle.std.specs.Ordering.{eq_by_cmp}
use Rattle.std.specs.FinMap as finite
use Rattle.std.specs.FinMap.{find, is_sorted, get, get-entries, get-from_entries, entries_sorted}
use Rattle.std.specs.FinMap.Entries.{below_all}
use Rattle.std.proofs.lemmas.Bool.{and_parts}
use Rattle.std.proofs.lemmas.Option.{same_Some}
use Rattle.kp_lemmas.proofs.Booleans.{true_from_fact}
use Rattle.kp_lemmas.proofs.Orders.{one_from_tie}
use Rattle.kp_base.specs.Keys.{key_cmp}
use Rattle.kp_base.specs.declared.address.Family.{Family}
use Rattle.kp_base.specs.declared.key.ObjectKey.{ObjectKey}
use Rattle.kp_base.proofs.KeyOrder.{key_total, key_exact}
use Rattle.kp_types.specs.declared.slice.Slice.{Slice}
use Rattle.kp_object_defs.specs.Objects.{Objects}
use Rattle.kp_object_defs.specs.PackingLaws.{is_managed_for}
use Rattle.kp_object_defs.specs.SlicesNow.{Slices, is_leftover, with_managed, without_leftovers}
use Rattle.kp_object_defs.proofs.InOrder.{find-append, first_some}
use Rattle.kp_object_laws.proofs.OwnEntries.{found_in, missing, owned}
use Rattle.kp_settle_laws.specs.SettleLaws.{AreOwn}

-- what is behind an entry in order isn't found at its key
pub not_behind : (q : ObjectKey) (e : ObjectKey × Slice) (es : List (ObjectKey × Slice))
    → below_all key_cmp e.0 es ≡ true → eq_by_cmp key_cmp q e.0 ≡ true
    → find key_cmp q es ≡ None
not_behind q e es below tied =
    ap (λ k. find key_cmp k es) (one_from_tie key_exact q e.0 tied)
    ∙ missing key_cmp e.0 es below

module _ (test : Slice → Bool) where
  -- a slice that is found, where it doesn't pass
  abbrev pub kept : (found : Option Slice) → Option Slice
  kept None = None
  kept (Some s) = cond (not (test s)) (Some s) None

  -- the entries whose slices don't pass
  abbrev pub others : (es : List (ObjectKey × Slice)) → List (ObjectKey × Slice)
  others es = filter (λ e. not (test e.1)) es

  -- among entries in order the others are found where they were
  pub found_kept : (es : List (ObjectKey × Slice)) → is_sorted key_cmp es ≡ true
      → (q : ObjectKey) → find key_cmp q (others es) ≡ kept (find key_cmp q es)
  found_kept [] sorted q = refl
  found_kept (e ∷ es) sorted q =
      let parts = and_parts (below_all key_cmp e.0 es) (is_sorted key_cmp es) sorted in
      by parts.0 (found_kept es parts.1 q) (test e.1) refl (eq_by_cmp key_cmp q e.0) refl
    where
      by : below_all key_cmp e.0 es ≡ true
          → find key_cmp q (others es) ≡ kept (find key_cmp q es)
          → (t : Bool) → test e.1 ≡ t → (b : Bool) → eq_by_cmp key_cmp q e.0 ≡ b
          → find key_cmp q (cond (not t) (e ∷ others es) (others es))
          ≡ kept (cond b (Some e.1) (find key_cmp q es))
      by below rest true is true tied =
          rest ∙ ap kept (not_behind q e es below tied)
          ∙ ap (λ t. cond (not t) (Some e.1) None) (sym is)
      by below rest true is false tied = rest
      by below rest false is true tied =
          ap (λ b. cond b (Some e.1) (find key_cmp q (others es))) tied
          ∙ ap (λ t. cond (not t) (Some e.1) None) (sym is)
      by below rest false is false tied =
          ap (λ b. cond b (Some e.1) (find key_cmp q (others es))) tied ∙ rest

  -- so what is found among the others of a map is what it has there, where that doesn't pass
  pub found_others : (m : Slices) (q : ObjectKey)
      → find key_cmp q (others (finite.entries m)) ≡ kept (get m q)
  found_others m q =
      found_kept (finite.entries m) (true_from_fact _ (entries_sorted m)) q
      ∙ ap kept (sym (get-entries m q))

  -- what is kept was there, and doesn't pass
  pub from_kept : (o : Option Slice) (s : Slice) → kept o ≡ Some s
      → (o ≡ Some s) × (test s ≡ false)
  from_kept None s h = absurd (cc)
  from_kept (Some t) s h = by (test t) refl h
    where
      by : (b : Bool) → test t ≡ b → cond (not b) (Some t) None ≡ Some s
          → (Some t ≡ Some s) × (test s ≡ false)
      by true is h = absurd (cc)
      by false is h = (h, ap test (sym (same_Some t s h)) ∙ is)

  pub in_kept : (o : Option Slice) (s : Slice) → o ≡ Some s → test s ≡ false → kept o ≡ Some s
  in_kept o s at is = ap kept at ∙ ap (λ b. cond (not b) (Some s) None) is

-- ---- Without those that are left over

pub found_without : (o : Objects) (m : Slices) (q : ObjectKey)
    → get (without_leftovers o m) q ≡ kept (is_leftover o) (get m q)
found_without o m q = get-from_entries key_total _ q ∙ found_others (is_leftover o) m q

pub own_without : (o : Objects) (m : Slices) → AreOwn m → AreOwn (without_leftovers o m)
own_without o m own q s at =
    own q s (from_kept (is_leftover o) (get m q) s (sym (found_without o m q) ∙ at)).0

-- ---- With other managed slices

module _ (family : Family) (service : ObjectKey) (packed : List Slice) (m : Slices) where
  abbrev pub placed : Slices
  placed = with_managed family service packed m

  -- whether a slice is managed for the Service
  abbrev pub managed : Slice → Bool
  managed s = is_managed_for family service s

  -- what is packed, by its own keys
  abbrev pub entries_of_packed : List (ObjectKey × Slice)
  entries_of_packed = owned (λ s. s.key) packed

  -- what is found is packed, or wasn't managed and is there still
  pub found_placed : (q : ObjectKey)
      → get placed q ≡ first_some (find key_cmp q entries_of_packed) (kept managed (get m q))
  found_placed q =
      get-from_entries key_total _ q
      ∙ find-append key_cmp q entries_of_packed (others managed (finite.entries m))
      ∙ ap (first_some (find key_cmp q entries_of_packed)) (found_others managed m q)

  -- where something is packed, that is found
  pub packed_first : (q : ObjectKey) (s : Slice) → find key_cmp q entries_of_packed ≡ Some s
      → get placed q ≡ Some s
  packed_first q s at =
      found_placed q ∙ ap (λ o. first_some o (kept managed (get m q))) at

  -- where nothing is
  pub kept_behind : (q : ObjectKey) → find key_cmp q entries_of_packed ≡ None
      → get placed q ≡ kept managed (get m q)
  kept_behind q at = found_placed q ∙ ap (λ o. first_some o (kept managed (get m q))) at

  -- a slice that is found is packed, or is there still
  pub from_placed : (q : ObjectKey) (s : Slice) → get placed q ≡ Some s
      → (Contains packed s × (s.key ≡ q)) ⊎ ((get m q ≡ Some s) × (managed s ≡ false))
  from_placed q s at = by (find key_cmp q entries_of_packed) refl
    where
      by : (o : Option Slice) → find key_cmp q entries_of_packed ≡ o
          → (Contains packed s × (s.key ≡ q)) ⊎ ((get m q ≡ Some s) × (managed s ≡ false))
      by None is = inr (from_kept managed (get m q) s (sym (kept_behind q is) ∙ at))
      by (Some t) is =
          inl (found_in key_total key_exact (λ (r : Slice). r.key) q packed s
          (is ∙ sym (packed_first q t is) ∙ at))

  pub own_placed : AreOwn m → AreOwn placed
  own_placed own q s at =
      elim (from_placed q s at) [
        | inl h ↦ h.1
        | inr h ↦ own q s h.0
      ]
