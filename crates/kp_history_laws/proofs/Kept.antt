-- Contributions of ports that are kept, where some are made anew.
use Rattle.std.proofs.Common.{◌≡◌, Bool, true, false, cond, ◌||◌, List, [], ◌∷◌, map, filter_map, Option, Some, None, option_map, refl, sym, ap, ◌∙◌}
use Rattle.std.specs.List.{fold, cons_option}
use Rattle.std.specs.Ordering.{eq_by_cmp}
use Rattle.std.specs.FinMap.{find, get, get-insert, get-remove, get-from_entries, same_map}
use Rattle.kp_lemmas.proofs.Orders.{one_from_tie}
use Rattle.kp_base.specs.Keys.{port_key_cmp}
use Rattle.kp_base.specs.declared.key.PortKey.{PortKey}
use Rattle.kp_base.proofs.KeyOrder.{port_key_total, port_key_exact}
use Rattle.kp_types.specs.Setting.{view_of}
use Rattle.kp_object_defs.specs.Objects.{objects_step}
use Rattle.kp_object_defs.specs.PortInfo.{PortInfo, port_infos}
use Rattle.kp_object_defs.specs.PortByKey.{port_keys, info_at}
use Rattle.kp_object_laws.specs.ObjectLaws.{OwnKeysAfterEvent}
use Rattle.kp_object_laws.specs.PortLaws.{InfoHasKey, InfosByKeys}
use Rattle.kp_table_defs.specs.Parts.{PortRules, RulesByPort, rules_of_port, rules_of_objects}
use Rattle.kp_history_defs.specs.Affected.{affected_ports}
use Rattle.kp_history_defs.specs.Inputs.{changed_ports}
use Rattle.kp_history_defs.specs.KeptRules.{rules_at, with_rules, with_rules_of}
use Rattle.kp_history_laws.specs.DirtyLaws.{InfosByName}
use Rattle.kp_history_laws.specs.EventLaws.{has_port, UnaffectedRules}
use Rattle.kp_history_laws.specs.KeptLaws.{RulesByName, EnoughByRules, AffectedAreEnough, ChangedAreEnough}
use Rattle.kp_history_laws.proofs.Affected.{same_rules}
use Rattle.kp_history_laws.proofs.Changed.{unchanged_inputs}
use Rattle.kp_history_laws.proofs.Ports.{no_info}

-- ---- What is found among the contributions of objects

module _ {X Y : Type 0} (g : PortKey → Option X) (name : X → PortKey) (named : (k : PortKey) (x : X) → g k ≡ Some x → name x ≡ k) (f : X → Y) where
  abbrev made : List PortKey → List (PortKey × Y)
  made ks = map (λ x. (name x, f x)) (filter_map g ks)

  found_by : (q k : PortKey) (ks : List PortKey) → find port_key_cmp q (made ks) ≡ cond (has_port ks q) (option_map f (g q)) None
      → (o : Option X) → g k ≡ o → (b : Bool) → eq_by_cmp port_key_cmp q k ≡ b
      → find port_key_cmp q (map (λ x. (name x, f x)) (cons_option o (filter_map g ks))) ≡ cond (b || has_port ks q) (option_map f (g q)) None
  found_by q k ks rest None at true is =
      let none : option_map f (g q) ≡ None = ap (λ key. option_map f (g key)) (one_from_tie port_key_exact q k is) ∙ ap (option_map f) at in
      rest ∙ ap (λ o. cond (has_port ks q) o None) none ∙ same _ ∙ sym none
    where
      same : (b : Bool) → ◌≡◌ {A = Option Y} (cond b None None) None
      same true = refl
      same false = refl
  found_by q k ks rest None at false is = rest
  found_by q k ks rest (Some x) at true is =
      ap (λ key. cond (eq_by_cmp port_key_cmp q key) (Some (f x)) (find port_key_cmp q (made ks))) (named k x at)
      ∙ ap (λ b. cond b (Some (f x)) (find port_key_cmp q (made ks))) is
      ∙ sym (ap (λ key. option_map f (g key)) (one_from_tie port_key_exact q k is) ∙ ap (option_map f) at)
  found_by q k ks rest (Some x) at false is =
      ap (λ key. cond (eq_by_cmp port_key_cmp q key) (Some (f x)) (find port_key_cmp q (made ks))) (named k x at)
      ∙ ap (λ b. cond b (Some (f x)) (find port_key_cmp q (made ks))) is
      ∙ rest

  found : (q : PortKey) (ks : List PortKey) → find port_key_cmp q (made ks) ≡ cond (has_port ks q) (option_map f (g q)) None
  found q [] = refl
  found q (k ∷ ks) = found_by q k ks (found q ks) (g k) refl _ refl

module _ (has_key : InfoHasKey) (by_keys : InfosByKeys) where
  pub rules_by_name : RulesByName
  rules_by_name setting o key own =
      get-from_entries port_key_total (map (λ i. (i.key, rules_of_port setting i)) (port_infos setting.family setting.config o)) key
      ∙ ap (λ infos. find port_key_cmp key (map (λ (i : PortInfo). (i.key, rules_of_port setting i)) infos)) (by_keys setting.family setting.config o own)
      ∙ found _ (λ i. i.key) (λ k i at. has_key setting.family setting.config o k i own at) _ key _
      ∙ by _ refl
    where
      by : (b : Bool) → has_port (port_keys o) key ≡ b → cond b (rules_at setting o key) None ≡ rules_at setting o key
      by true is = refl
      by false is = sym (ap (option_map (rules_of_port setting)) (no_info o own key setting.family setting.config is))

  pub infos_by_name : InfosByName
  infos_by_name setting o key own =
      ap (λ infos. find port_key_cmp key (map (λ (i : PortInfo). (i.key, i)) infos))
      (by_keys setting.family setting.config o own)
      ∙ found _ (λ i. i.key) (λ k i at. has_key setting.family setting.config o k i own at) (λ i. i) key _
      ∙ by _ refl
    where
      all : (found : Option PortInfo) → option_map (λ i. i) found ≡ found
      all None = refl
      all (Some i) = refl

      by : (b : Bool) → has_port (port_keys o) key ≡ b
          → cond b (option_map (λ i. i) (info_at setting.family setting.config o key)) None
          ≡ info_at setting.family setting.config o key
      by true is = all _
      by false is = sym (no_info o own key setting.family setting.config is)

-- ---- Contributions made anew

get_with_rules : (kept : RulesByPort) (key : PortKey) (rules : Option PortRules) (q : PortKey) → get (with_rules kept key rules) q ≡ cond (eq_by_cmp port_key_cmp q key) rules (get kept q)
get_with_rules kept key None q = get-remove port_key_total kept key q
get_with_rules kept key (Some rules) q = get-insert port_key_total kept key rules q

module _ (at : PortKey → Option PortRules) (q : PortKey) where
  newest : (k : PortKey) (old : Option PortRules) (b : Bool) → eq_by_cmp port_key_cmp q k ≡ b → (c : Bool) → cond c (at q) (cond b (at k) old) ≡ cond (b || c) (at q) old
  newest k old true is true = refl
  newest k old true is false = ap at (sym (one_from_tie port_key_exact q k is))
  newest k old false is c = refl

  get_made_anew : (keys : List PortKey) (kept : RulesByPort) → get (fold (λ m k. with_rules m k (at k)) kept keys) q ≡ cond (has_port keys q) (at q) (get kept q)
  get_made_anew [] kept = refl
  get_made_anew (k ∷ ks) kept =
      get_made_anew ks _
      ∙ ap (cond (has_port ks q) (at q)) (get_with_rules kept k (at k) q) ∙ newest k _ _ refl _

module _ (by_name : RulesByName) where
  pub enough_by_rules : EnoughByRules
  enough_by_rules setting before after keys own own_after others =
      same_map port_key_total port_key_exact (with_rules_of setting after keys (rules_of_objects setting before)) (rules_of_objects setting after) (λ q.
      get_made_anew _ q keys _
      ∙ ap (cond (has_port keys q) (rules_at setting after q)) (by_name setting before q own)
      ∙ either q _ refl ∙ sym (by_name setting after q own_after))
    where
      either : (q : PortKey) (b : Bool) → has_port keys q ≡ b → cond b (rules_at setting after q) (rules_at setting before q) ≡ rules_at setting after q
      either q true is = refl
      either q false is = sym (others q is)

  pub affected_are_enough : OwnKeysAfterEvent → UnaffectedRules → AffectedAreEnough
  affected_are_enough own_after unaffected settings family o event own =
      enough_by_rules (view_of family settings) o (objects_step o event)
      (affected_ports settings o event) own (own_after o event own)
      (λ key h. unaffected family settings o event key own h)

-- ---- Changed ports

module _ (by_name : RulesByName) where
  pub changed_are_enough : ChangedAreEnough
  changed_are_enough settings family before after own own_after =
      enough_by_rules by_name (view_of family settings) before after
      (changed_ports settings before after) own own_after (λ key h.
      same_rules settings family before after key
      (unchanged_inputs settings before after key own own_after h))
