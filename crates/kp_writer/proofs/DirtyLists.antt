-- The ports that differ, by the keys that are pending, and the ports that stay.
use Rattle.std.proofs.Common.{◌≡◌, Bool, true, false, cond, List, [], ◌∷◌, map, filter}
use Rattle.std.proofs.Common.{Option, Some, None, Contains, refl, sym, ap, ◌∙◌}
use Rattle.std.specs.declared.cmp.Ordering.{Ordering}
use Rattle.std.specs.List.{AllByRecursion, cons_option, filter_map, list_any}
use Rattle.std.specs.List.Sorted.{IsStrictlySortedBy}
use Rattle.std.specs.Ordering.{eq_by_cmp}
use Rattle.std.specs.FinMap.{FinMap, contains_key-keys, entries, entries_sorted, get, keys, values}
use Rattle.kp_lemmas.proofs.Entries.{entries_found}
use Rattle.kp_lemmas.proofs.Members.{any_from, first_in, later_in}
use Rattle.kp_lemmas.proofs.Options.{none_of}
use Rattle.kp_lemmas.proofs.Orders.{tie_of_itself}
use Rattle.kp_base.specs.Keys.{port_key_cmp}
use Rattle.kp_base.specs.declared.key.PortKey.{PortKey}
use Rattle.kp_base.proofs.KeyOrder.{port_key_total, port_key_exact}
use Rattle.kp_object_defs.specs.PortInfo.{PortInfo}
use Rattle.kp_writer_laws.proofs.KeyLists as key_lists
use Rattle.kp_writer_laws.proofs.LocalChanges.{in_either, same_given}
use Rattle.kp_writer.specs.Written.{AreUnderOwnKeys, Ports}

-- ---- Keys of a finite map

module _ {K X : Type 0} (R : K → K → Ordering) where
  -- they rise
  pub keys_rise : (m : FinMap R X) → IsStrictlySortedBy R (keys m)
  keys_rise m = key_lists.keys_rise R (entries m) (entries_sorted m)

  -- what isn't among the keys isn't found
  pub not_found : (m : FinMap R X) (k : K) → list_any (eq_by_cmp R k) (keys m) ≡ false
      → get m k ≡ None
  not_found m k h = none_of (get m k) (contains_key-keys m k ∙ h)

-- ---- Ports that pass a test of their keys

-- an element before others where it passes
pub one_passed : {X : Type 0} (b : Bool) (x : X) (xs : List X)
    → cons_option (cond b (Some x) None) xs ≡ cond b (x ∷ xs) xs
one_passed true x xs = refl
one_passed false x xs = refl

module _ (test : PortKey → Bool) where
  -- a port that passes
  abbrev pub passed : Ports → PortKey → Option PortInfo
  passed m k = cond (test k) (get m k) None

  by_entries : (m : Ports) → AreUnderOwnKeys m → (es : List (PortKey × PortInfo))
      → AllByRecursion (λ e. get m e.0 ≡ Some e.1) es
      → filter_map (passed m) (map (λ e. e.0) es)
      ≡ filter (λ i. test i.key) (map (λ e. e.1) es)
  by_entries m own [] h = refl
  by_entries m own (e ∷ es) h =
      (λ i. cons_option (cond (test (sym (own e.0 e.1 h.0) i)) (h.0 i) None)
      (by_entries m own es h.1 i))
      ∙ one_passed (test e.1.key) e.1 (filter (λ i. test i.key) (map (λ e. e.1) es))

  -- they are those of the keys that pass
  pub by_keys : (m : Ports) → AreUnderOwnKeys m
      → filter_map (passed m) (keys m) ≡ filter (λ i. test i.key) (values m)
  by_keys m own = by_entries m own (entries m) (entries_found port_key_total m)

  fails : (m : Ports) (k : PortKey) → test k ≡ false → passed m k ≡ None
  fails m k h = ap (λ b. cond b (get m k) None) h

  all_pass : (m : Ports) (ks : List PortKey) → ((k : PortKey) → Contains ks k → test k ≡ true)
      → filter_map (get m) ks ≡ filter_map (passed m) ks
  all_pass m [] h = refl
  all_pass m (k ∷ ks) h =
      λ i. cons_option (cond (sym (h k (first_in k ks)) i) (get m k) None) (all_pass m ks (λ l c.
      h l (later_in l k ks c)) i)

  -- the ports of keys in order, which are exactly those that pass
  pub of_keys : (m : Ports) → AreUnderOwnKeys m → (ks : List PortKey)
      → IsStrictlySortedBy port_key_cmp ks
      → ((k : PortKey) → list_any (eq_by_cmp port_key_cmp k) ks ≡ test k)
      → filter_map (get m) ks ≡ filter (λ i. test i.key) (values m)
  of_keys m own ks rise each =
      all_pass m ks (λ k c. sym (each k) ∙ any_from (eq_by_cmp port_key_cmp k) k ks c
      (tie_of_itself port_key_total k))
      ∙ same_given port_key_cmp (passed m) port_key_exact port_key_total ks (keys m)
      (λ k here out. in_either (test k) (not_found port_key_cmp m k out))
      (λ k here out. fails m k (sym (each k) ∙ out))
      rise (keys_rise port_key_cmp m)
      ∙ by_keys m own

  pass_alike : (m n : Ports) → ((k : PortKey) → test k ≡ true → get m k ≡ get n k) → (b : Bool)
      → (k : PortKey) → test k ≡ b → cond b (get m k) None ≡ cond b (get n k) None
  pass_alike m n same true k h = same k h
  pass_alike m n same false k h = refl

  passed_alike : (m n : Ports) → ((k : PortKey) → test k ≡ true → get m k ≡ get n k)
      → (k : PortKey) → passed m k ≡ passed n k
  passed_alike m n same k =
      pass_alike m n same (test k) k refl

  -- ports that are found alike where they pass are the same
  pub same_passed : (m n : Ports) → AreUnderOwnKeys m → AreUnderOwnKeys n
      → ((k : PortKey) → test k ≡ true → get m k ≡ get n k)
      → filter (λ i. test i.key) (values m) ≡ filter (λ i. test i.key) (values n)
  same_passed m n own its same =
      sym (by_keys m own)
      ∙ same_given port_key_cmp (passed m) port_key_exact port_key_total (keys m) (keys n)
      (λ k here out. passed_alike m n same k ∙ in_either (test k) (not_found port_key_cmp n k out))
      (λ k here out. in_either (test k) (not_found port_key_cmp m k out))
      (keys_rise port_key_cmp m) (keys_rise port_key_cmp n)
      ∙ ap (λ f. filter_map f (keys n)) (λ i k. passed_alike m n same k i)
      ∙ by_keys n its
