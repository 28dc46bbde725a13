-- Ports whose rules in a chain are the same, port by port, have the same rules there together.
use Rattle.std.proofs.Common.{◌≡◌, List, [], ◌∷◌, ◌++◌, map, flat_map, Option, Some, None}
use Rattle.std.proofs.Common.{refl, sym, ap, ◌∙◌}
use Rattle.std.specs.List.{AllByRecursion, cons_option, filter_map}
use Rattle.std.specs.FinMap.{entries, get, keys, values}
use Rattle.kp_lemmas.proofs.Entries.{entries_found}
use Rattle.kp_base.specs.Keys.{port_key_cmp}
use Rattle.kp_base.specs.declared.key.PortKey.{PortKey}
use Rattle.kp_base.proofs.KeyOrder.{port_key_total, port_key_exact}
use Rattle.kp_types.specs.declared.rule.Rule.{Rule}
use Rattle.kp_object_defs.specs.PortInfo.{PortInfo}
use Rattle.kp_writer_laws.proofs.LocalChanges.{same_given}
use Rattle.kp_writer.specs.Written.{Ports}
use Rattle.kp_writer.proofs.DirtyLists.{keys_rise, not_found}

-- rules, if there are some
abbrev some_rules : List Rule → Option (List Rule)
some_rules [] = None
some_rules (r ∷ rs) = Some (r ∷ rs)

-- lists of rules, one after another
abbrev all_of : List (List Rule) → List Rule
all_of rules = flat_map (λ rs. rs) rules

joined : (rs : List Rule) (more : List (List Rule))
    → all_of (cons_option (some_rules rs) more) ≡ rs ++ all_of more
joined [] more = refl
joined (r ∷ rs) more = refl

module _ (rules : PortInfo → List Rule) where
  -- the rules of a port, if there is one
  abbrev pub rules_if : Option PortInfo → List Rule
  rules_if None = []
  rules_if (Some i) = rules i

  -- the rules under a key, if there are some
  abbrev gives : Ports → PortKey → Option (List Rule)
  gives m k = some_rules (rules_if (get m k))

  by_entries : (m : Ports) (es : List (PortKey × PortInfo))
      → AllByRecursion (λ e. get m e.0 ≡ Some e.1) es
      → all_of (filter_map (gives m) (map (λ e. e.0) es)) ≡ flat_map rules (map (λ e. e.1) es)
  by_entries m [] h = refl
  by_entries m (e ∷ es) h =
      joined (rules_if (get m e.0)) (filter_map (gives m) (map (λ e. e.0) es))
      ∙ (λ i. rules_if (h.0 i) ++ by_entries m es h.1 i)

  by_keys : (m : Ports) → all_of (filter_map (gives m) (keys m)) ≡ flat_map rules (values m)
  by_keys m = by_entries m (entries m) (entries_found port_key_total m)

  none_given : (m : Ports) (k : PortKey) → get m k ≡ None → gives m k ≡ None
  none_given m k h = ap (λ o. some_rules (rules_if o)) h

  pub same_together : (m n : Ports) → ((k : PortKey) → rules_if (get m k) ≡ rules_if (get n k))
      → flat_map rules (values m) ≡ flat_map rules (values n)
  same_together m n same =
      let alike : (k : PortKey) → gives m k ≡ gives n k = λ k. ap some_rules (same k) in
      sym (by_keys m)
      ∙ ap all_of (same_given port_key_cmp (gives m) port_key_exact port_key_total (keys m) (keys n)
      (λ k here out. alike k ∙ none_given n k (not_found port_key_cmp n k out))
      (λ k here out. none_given m k (not_found port_key_cmp m k out))
      (keys_rise port_key_cmp m) (keys_rise port_key_cmp n)
      ∙ ap (λ f. filter_map f (keys n)) (λ i k. alike k i))
      ∙ by_keys n
