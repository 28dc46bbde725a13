-- What is made of the ports of different Services is at most what dirty ports have.
use Rattle.std.proofs.Common.{◌≡◌, ◌≤◌, ◌+◌, ◌||◌, ◌&&◌, ◌⊎◌, inl, inr, ℕ, Bool, true, false}
use Rattle.std.proofs.Common.{true≢false, not, cond, List, [], ◌∷◌, map, filter, Option, Some}
use Rattle.std.proofs.Common.{None, flat_map, append-nil, refl, sym, ap, ◌∙◌, arith}
use Rattle.std.proofs.Math.Bool.{or-true}
use Rattle.std.specs.FinMap as finite
use Rattle.std.specs.List.{AllByRecursion, cons_option, filter_map, list_any}
use Rattle.std.specs.List.Sorted.{IsStrictlySortedBy}
use Rattle.std.specs.Option.{option_eq, option_to_list}
use Rattle.std.specs.Ordering.{eq_by_cmp, is_eq}
use Rattle.std.specs.declared.cmp.Ordering.TheVariants.{Less}
use Rattle.std.specs.Cmp.{eq_by_cmp_equiv}
use Rattle.std.proofs.lemmas.Bool.{and_parts, or_cases}
use Rattle.std.proofs.lemmas.List.Elements.{filter_map-append}
use Rattle.std.proofs.lemmas.List.Kept.{IsStrictlySortedBy-filter}
use Rattle.kp_lemmas.proofs.Orders.{one_from_tie, tie_of_itself}
use Rattle.kp_base.specs.Keys.{key_cmp, port_key_cmp}
use Rattle.kp_base.specs.declared.key.ObjectKey.{ObjectKey}
use Rattle.kp_base.specs.declared.key.PortKey.{PortKey}
use Rattle.kp_base.proofs.KeyOrder.{key_exact, key_total, port_key_exact, port_key_total}
use Rattle.kp_types.specs.Setting.{Setting}
use Rattle.kp_types.specs.declared.service.Service.{Service}
use Rattle.kp_types.specs.declared.service.ServicePort.{ServicePort}
use Rattle.kp_object_defs.specs.Objects.{Objects}
use Rattle.kp_object_defs.specs.OwnKeys.{AreUnderOwnKeys}
use Rattle.kp_object_defs.specs.PortByKey.{info_at, port_keys_of}
use Rattle.kp_object_defs.specs.PortInfo.{PortInfo, port_key_of}
use Rattle.kp_object_laws.specs.PortLaws.{InfoHasKey}
use Rattle.kp_history_defs.specs.DirtyPorts.{same_info}
use Rattle.kp_store.specs.Indexes.{Keys}
use Rattle.kp_blocks.specs.Joined.{is_port_of}
use Rattle.kp_writer_laws.specs.LocalLaws.{is_one_of}
use Rattle.kp_writer_laws.proofs.LocalChanges.{in_either, same_given}
use Rattle.kp_writer.specs.Known.{port_keys_at}
use Rattle.kp_writer.specs.Old.{is_known, unwritten}
use Rattle.kp_writer.specs.Shared.{shared_rule_count}
use Rattle.kp_writer.specs.Written.{Ports}
use Rattle.kp_writer.proofs.DirtyLists.{keys_rise, one_passed}
use Rattle.kp_writer.proofs.KnownPorts.{itself}
use Rattle.kp_writer.proofs.OneList.{distinct_has, distinct_rise, filter_has}
use Rattle.kp_writer.proofs.RuleCounts.{shared_parts}
use Rattle.kp_plane.specs.Known.{AreDirty, is_port_of_one, made_count, rules_of}

-- ---- Services and their ports

-- the names of a Service's ports are those of its ports
named : (s : Service) (service : ObjectKey) → s.key ≡ service → (ps : List ServicePort)
    → (k : PortKey) → is_one_of (map (port_key_of s) ps) k ≡ true → is_port_of service k ≡ true
named s service own [] k h = absurd (true≢false (sym h))
named s service own (p ∷ ps) k h =
    by (named s service own ps k)
    (or_cases (eq_by_cmp port_key_cmp k (port_key_of s p)) (is_one_of (map (port_key_of s) ps) k) h)
  where
    by : (is_one_of (map (port_key_of s) ps) k ≡ true → is_port_of service k ≡ true)
        → (eq_by_cmp port_key_cmp k (port_key_of s p) ≡ true)
        ⊎ (is_one_of (map (port_key_of s) ps) k ≡ true)
        → is_port_of service k ≡ true
    by rest (inl tie) =
        ap (is_port_of service) (one_from_tie port_key_exact k (port_key_of s p) tie)
        ∙ ap (eq_by_cmp key_cmp service) own ∙ tie_of_itself key_total service
    by rest (inr among) = rest among

of_service : (o : Objects) → AreUnderOwnKeys o → (service : ObjectKey) (k : PortKey)
    → is_one_of (port_keys_at o service) k ≡ true → is_port_of service k ≡ true
of_service o own service k h =
    by (finite.get o.services service) refl
    (sym (distinct_has port_key_cmp port_key_total
    (flat_map port_keys_of (option_to_list (finite.get o.services service))) k) ∙ h)
  where
    by : (found : Option Service) → finite.get o.services service ≡ found
        → is_one_of (flat_map port_keys_of (option_to_list found)) k ≡ true
        → is_port_of service k ≡ true
    by None at some = absurd (true≢false (sym some))
    by (Some s) at some =
        named s service (own.services service s at) s.ports k
        (ap (λ ks. is_one_of ks k) (sym (append-nil (port_keys_of s))) ∙ some)

-- a key is none of those after it
not_among : (s : ObjectKey) (ss : List ObjectKey) → AllByRecursion (λ t. key_cmp s t ≡ Less) ss
    → list_any (eq_by_cmp key_cmp s) ss ≡ false
not_among s [] h = refl
not_among s (t ∷ ss) h = λ n. is_eq (h.0 n) || not_among s ss h.1 n

-- what counts in one of two parts that are apart counts in both together
apart : (x : ℕ) (a b c : Bool) → (a ≡ true → (b ≡ false) × (c ≡ true)) → (b ≡ true → c ≡ true)
    → cond a x 0 + cond b x 0 ≤ cond c x 0
apart x true b c f g =
    let outside : cond b x 0 ≡ 0 = ap (λ d. cond d x 0) (f refl).0 in
    let inside : cond c x 0 ≡ x = ap (λ d. cond d x 0) (f refl).1 in
    omega (arith, outside, inside)
apart x false true c f g =
    let inside : cond c x 0 ≡ x = ap (λ d. cond d x 0) (g refl) in
    omega (arith, inside)
apart x false false c f g = omega arith

-- ---- Rules of ports by their names

module _ (setting : Setting) where
  -- one port more
  one_more : (i : Option PortInfo) (is : List PortInfo)
      → shared_rule_count setting (cons_option i is)
      ≡ shared_rule_count setting (option_to_list i) + shared_rule_count setting is
  one_more None is = omega arith
  one_more (Some i) is = omega arith

  module _ (gives : PortKey → Option PortInfo) where
    -- the rules of what names give
    abbrev count : List PortKey → ℕ
    count ks = shared_rule_count setting (filter_map gives ks)

    -- and of what one gives
    abbrev one : PortKey → ℕ
    one k = shared_rule_count setting (option_to_list (gives k))

    counted_if : (k : PortKey) (ks : List PortKey) (b : Bool)
        → count (cond b (k ∷ ks) ks) ≡ cond b (one k) 0 + count ks
    counted_if k ks true = one_more (gives k) (filter_map gives ks)
    counted_if k ks false = omega arith

    -- names in one of two parts that are apart are in both together
    two_parts : (a b c : PortKey → Bool)
        → ((k : PortKey) → a k ≡ true → (b k ≡ false) × (c k ≡ true))
        → ((k : PortKey) → b k ≡ true → c k ≡ true) → (ks : List PortKey)
        → count (filter a ks) + count (filter b ks) ≤ count (filter c ks)
    two_parts a b c f g [] = omega arith
    two_parts a b c f g (k ∷ ks) =
        omega (
          arith,
          two_parts a b c f g ks,
          counted_if k (filter a ks) (a k),
          counted_if k (filter b ks) (b k),
          counted_if k (filter c ks) (c k),
          apart (one k) (a k) (b k) (c k) (f k) (g k),
        )

  -- where names give the same or nothing, those that pass a test count at most as much
  fewer : (gives all : PortKey → Option PortInfo)
      → ((k : PortKey) → one gives k ≤ one all k) → (test : PortKey → Bool) (ks : List PortKey)
      → count gives (filter test ks) ≤ count all ks
  fewer gives all few test [] = omega arith
  fewer gives all few test (k ∷ ks) =
      omega (
        arith,
        fewer gives all few test ks,
        counted_if gives k (filter test ks) (test k),
        one_more (all k) (filter_map all ks),
        at_most (one gives k) (test k),
        few k,
      )
    where
      at_most : (x : ℕ) (b : Bool) → cond b x 0 ≤ x
      at_most x true = omega arith
      at_most x false = omega arith

-- ---- What is made

module _ (setting : Setting) (written : Ports) (o : Objects) (own : AreUnderOwnKeys o)
    (has_key : InfoHasKey) where
  abbrev known : PortKey → Option PortInfo
  known = info_at setting.family setting.config o

  -- whether something else was written of a port
  abbrev differs : PortKey → Bool
  differs k = not (option_eq same_info (finite.get written k) (known k))

  -- what is known of it then
  abbrev made : PortKey → Option PortInfo
  made k = cond (differs k) (known k) None

  one_made : (k : PortKey) (is : List PortInfo) (i : Option PortInfo) → known k ≡ i
      → unwritten written (cons_option i is) ≡ cons_option (made k) (unwritten written is)
  one_made k is None at =
      ap (λ i. cons_option i (unwritten written is)) (sym (in_either (differs k) at))
  one_made k is (Some i) at =
      let key = has_key setting.family setting.config o k i own at in
      (λ n. cond (not (is_known (finite.get written (key n)) i))
      (i ∷ unwritten written is) (unwritten written is))
      ∙ sym (one_passed (not (is_known (finite.get written k) i)) i (unwritten written is))
      ∙ (λ n. cons_option
      (cond (not (option_eq same_info (finite.get written k) (sym at n))) (sym at n) None)
      (unwritten written is))

  made_of : (ks : List PortKey)
      → unwritten written (filter_map known ks) ≡ filter_map made ks
  made_of [] = refl
  made_of (k ∷ ks) =
      one_made k (filter_map known ks) (known k) refl ∙ ap (cons_option (made k)) (made_of ks)

  few_known : (k : PortKey) → one setting made k ≤ one setting known k
  few_known k = by (differs k)
    where
      by : (b : Bool)
          → shared_rule_count setting (option_to_list (cond b (known k) None))
          ≤ shared_rule_count setting (option_to_list (known k))
      by true = omega arith
      by false = omega arith

  module _ (dirty : List PortKey) (are : AreDirty setting written o dirty) where
    -- nothing is made of a port that isn't dirty
    none_made : (k : PortKey) → is_one_of dirty k ≡ false → made k ≡ None
    none_made k h =
        ap (λ b. cond b (known k) None)
        ((λ n. not (option_eq same_info (are.rest k h n) (known k))) ∙ ap not (itself (known k)))

    -- what is made of one Service's ports is made of dirty ones
    of_one : (ks : List PortKey) → IsStrictlySortedBy port_key_cmp ks
        → filter_map made ks ≡ filter_map made (filter (is_one_of ks) dirty)
    of_one ks rise =
        same_given port_key_cmp made port_key_exact port_key_total ks (filter (is_one_of ks) dirty)
        (λ k here out. none_made k (sym (ap (λ b. b && is_one_of dirty k) here)
        ∙ sym (has k) ∙ out))
        (λ k here out. absurd (true≢false (sym (and_parts _ _ (sym (has k) ∙ here)).0 ∙ out)))
        rise (IsStrictlySortedBy-filter port_key_cmp (is_one_of ks) dirty are.in_order)
      where
        has : (k : PortKey) → is_one_of (filter (is_one_of ks) dirty) k
            ≡ (is_one_of ks k && is_one_of dirty k)
        has k = filter_has port_key_cmp port_key_total port_key_exact (is_one_of ks) dirty k

    -- a port of one Service is none of those after it
    outside : (s : ObjectKey) (ss : List ObjectKey) → AllByRecursion (λ t. key_cmp s t ≡ Less) ss
        → (k : PortKey) → is_one_of (port_keys_at o s) k ≡ true
        → (is_port_of_one ss k ≡ false) × (is_port_of_one (s ∷ ss) k ≡ true)
    outside s ss after k here =
        let its = of_service o own s k here in (
          ap (λ q. list_any (eq_by_cmp key_cmp q) ss) (sym (one_from_tie key_exact s k.object its))
              ∙ not_among s ss after,
          ap (λ b. b || is_port_of_one ss k) ((eq_by_cmp_equiv key_total).symm k.object s ∙ its),
        )

    -- and of more Services, which are different
    of_more : (ss : List ObjectKey) → IsStrictlySortedBy key_cmp ss
        → count setting made (flat_map (port_keys_at o) ss)
        ≤ count setting made (filter (is_port_of_one ss) dirty)
    unfolding IsStrictlySortedBy
    of_more [] rise = omega arith
    of_more (s ∷ ss) rise =
        let ks = port_keys_at o s in
        let rest = flat_map (port_keys_at o) ss in
        let split = ap (shared_rule_count setting) (filter_map-append made ks rest)
        ∙ shared_parts setting (filter_map made ks) (filter_map made rest) in
        let first = ap (shared_rule_count setting) (of_one ks (distinct_rise port_key_cmp
        port_key_total (flat_map port_keys_of (option_to_list (finite.get o.services s))))) in
        let both = two_parts setting made (is_one_of ks) (is_port_of_one ss)
        (is_port_of_one (s ∷ ss)) (outside s ss rise.0)
        (λ k there. ap (λ b. eq_by_cmp key_cmp k.object s || b) there ∙ or-true _) dirty in
        omega (arith, split, first, both, of_more ss rise.1)

    pub few_made : (services : Keys)
        → made_count setting written o (finite.keys services) ≤ rules_of setting o dirty
    few_made services =
        let ss = finite.keys services in
        let same = ap (shared_rule_count setting) (made_of (flat_map (port_keys_at o) ss)) in
        let few = of_more ss (keys_rise key_cmp services) in
        let all = fewer setting made known few_known (is_port_of_one ss) dirty in
        omega (arith, same, few, all)
