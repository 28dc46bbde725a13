-- What is known of ports once those of Services are made anew.
use Rattle.std.proofs.Common.{◌≡◌, ◌||◌, ◌+◌, Bool, true, false, List, [], ◌∷◌, ◌++◌, map, refl, sym}
use Rattle.std.proofs.Common.{ap, subst, ◌∙◌, ◌≤◌, Option, None, cond}
use Rattle.std.proofs.Common.{Result, Ok, Err, Some, ℕ, append-nil, filter, flat_map, inl, inr, ◌⊎◌}
use Rattle.std.specs.List.{Contains, filter_map, list_any, sum_by}
use Rattle.std.specs.Ordering.{eq_by_cmp}
use Rattle.std.specs.Result.{OnOk}
use Rattle.std.specs.Option.{option_and_then}
use Rattle.std.specs.Cmp.{eq_by_cmp_equiv}
use Rattle.std.specs.FinMap as finite
use Rattle.std.specs.FinMap.{contains_key-keys}
use Rattle.std.proofs.Math.Bool.{or-true}
use Rattle.std.proofs.lemmas.Bool.{false_from_ne_true, or_parts}
use Rattle.std.proofs.lemmas.List.Elements.{filter_map-append}
use Rattle.std.proofs.lemmas.List.Folds.{list_any-append}
use Rattle.std.proofs.lemmas.List.Concat.{flat_map-append}
use Rattle.std.proofs.lemmas.List.Sums.{sum_by-append}
use Rattle.kp_lemmas.proofs.Members.{in_cases, none_in}
use Rattle.kp_base.specs.Keys.{key_cmp, port_key_cmp}
use Rattle.kp_base.proofs.KeyOrder.{key_total, key_exact, port_key_exact}
use Rattle.kp_lemmas.proofs.Orders.{one_from_tie, tie_of_itself}
use Rattle.std.proofs.Common.{is_some}
use Rattle.std.specs.FinMap.{FinMap}
use Rattle.std.specs.declared.cmp.Ordering.{Ordering}
use Rattle.kp_base.specs.declared.address.Family.{Family}
use Rattle.kp_base.specs.declared.config.Config.{Config}
use Rattle.kp_base.specs.declared.key.ObjectKey.{ObjectKey}
use Rattle.kp_base.specs.declared.key.PortKey.{PortKey}
use Rattle.kp_types.specs.Setting.{Setting}
use Rattle.kp_types.specs.declared.service.Service.{Service}
use Rattle.kp_object_defs.specs.Objects.{Objects}
use Rattle.kp_object_defs.specs.PortByKey.{info_at, info_in}
use Rattle.kp_object_defs.specs.PortInfo.{PortInfo}
use Rattle.kp_known_ports.specs.Known.{AreStored}
use Rattle.kp_store.specs.Indexes.{Keys}
use Rattle.kp_store.specs.Touched.{is_touched}
use Rattle.kp_store.specs.declared.touched.Touched.{Touched}
use Rattle.kp_blocks.specs.Joined.{is_port_of}
use Rattle.kp_writer_laws.specs.LocalLaws.{info_of}
use Rattle.kp_writer.specs.Known.{ArePortsOf, KnownOfService, port_keys_at}
use Rattle.kp_writer.specs.Refresh.{OthersStay, Refreshes}
use Rattle.kp_writer.specs.Old.{unwritten}
use Rattle.kp_writer.specs.Shared.{shared_rule_count}
use Rattle.kp_writer.specs.Written.{Ports, WriterParts, with_newest}
use Rattle.kp_writer.proofs.RuleCounts.{unwritten_parts}
use Rattle.kp_object_defs.specs.OwnKeys.{AreUnderOwnKeys}
use Rattle.kp_plane.specs.Families.{IsWritten}
use Rattle.kp_plane.specs.Known.{IsKnown, KnowsOthers, KnowsService, infos_in, is_listed}
use Rattle.kp_plane.specs.Known.{is_port_of_one, made_count}
use Rattle.kp_plane.proofs.FewAsked.{few_of_all, few_of_passing}
use Rattle.kp_plane.proofs.Sums.{sum_all, sum_more}
use Rattle.kp_plane.proofs.Touching.{both_answers}

module _ (old new : List ObjectKey) (k : ObjectKey) (is : old ≡ new ++ k ∷ []) where
  split : (key : PortKey)
      → is_port_of_one old key ≡ is_port_of_one new key || (is_port_of k key || false)
  split key =
      ap (list_any (eq_by_cmp key_cmp key.object)) is
      ∙ list_any-append (eq_by_cmp key_cmp key.object) new (k ∷ [])
      ∙ ap (λ b. is_port_of_one new key || (b || false))
      ((eq_by_cmp_equiv key_total).symm key.object k)

  module _ (all : ObjectKey → Bool)
      (among : (key : PortKey) → all key.object ≡ false → is_port_of_one old key ≡ false) where
    -- without the last there are no more
    pub still_among : (key : PortKey) → all key.object ≡ false → is_port_of_one new key ≡ false
    still_among key none = (or_parts _ _ (sym (split key) ∙ among key none)).0

    last_not : (key : PortKey) → all key.object ≡ false → is_port_of k key ≡ false
    last_not key none = (or_parts _ _ (or_parts _ _ (sym (split key) ∙ among key none)).1).0

    -- and those of other Services than all stay known
    pub still_others : (setting : Setting) (o : Objects) (before after : Ports)
        → KnowsOthers setting o (is_listed old) before → OthersStay k before after
        → KnowsOthers setting o all after
    still_others setting o before after knows others = λ key none.
        others key (last_not key none) ∙ knows key (among key none)

  -- the ports of one Service more are known
  pub one_fewer : (setting : Setting) (o : Objects) (before after : Ports)
      → KnowsOthers setting o (is_listed old) before → OthersStay k before after
      → KnowsService setting o k after → KnowsOthers setting o (is_listed new) after
  one_fewer setting o before after knows others made = λ key none. by key none (is_port_of k key) refl
    where
      by : (key : PortKey) → is_port_of_one new key ≡ false → (b : Bool) → is_port_of k key ≡ b
          → IsKnown setting o after key
      by key none true e = made key e
      by key none false e =
          others key e ∙ knows key (split key ∙ (λ i. none i || (e i || false)))

  -- what counts of all counts of the last and of those before it
  pub count_split : (f : Service → ℕ) (o : Objects)
      → sum_by f (filter_map (finite.get o.services) old)
      ≡ sum_by f (filter_map (finite.get o.services) new)
      + sum_by f (filter_map (finite.get o.services) (k ∷ []))
  count_split f o =
      ap (λ ks. sum_by f (filter_map (finite.get o.services) ks)) is
      ∙ ap (sum_by f) (filter_map-append (finite.get o.services) new (k ∷ []))
      ∙ sum_by-append f (filter_map (finite.get o.services) new)
      (filter_map (finite.get o.services) (k ∷ []))

  -- so does what is made of their ports
  pub made_split : (setting : Setting) (written : Ports) (o : Objects)
      → made_count setting written o old
      ≡ made_count setting written o new + made_count setting written o (k ∷ [])
  made_split setting written o =
      let known : PortKey → Option PortInfo = info_at setting.family setting.config o in
      ap (made_count setting written o) is
      ∙ ap (λ ks. shared_rule_count setting (unwritten written (filter_map known ks)))
      (flat_map-append (port_keys_at o) new (k ∷ []))
      ∙ ap (λ is. shared_rule_count setting (unwritten written is))
      (filter_map-append known (flat_map (port_keys_at o) new)
      (flat_map (port_keys_at o) (k ∷ [])))
      ∙ unwritten_parts setting written (infos_in setting o new) (infos_in setting o (k ∷ []))

module _ (setting : Setting) (o : Objects) where
  -- where all are done, all ports are known
  pub all_done : (left : List ObjectKey) (ports : Ports) → left ≡ []
      → KnowsOthers setting o (is_listed left) ports → ArePortsOf setting o ports
  all_done left ports none knows =
      λ key. knows key (ap (λ (ks : List ObjectKey). is_port_of_one ks key) none)

  -- the ports of a Service that are made anew are known
  pub service_done : KnownOfService → AreUnderOwnKeys o → (service : ObjectKey)
      → (infos : List PortInfo) (before after : Ports)
      → infos ≡ filter_map (info_at setting.family setting.config o) (port_keys_at o service)
      → {X E : Type 0} (r : Result X E) → Refreshes r service infos before after
      → OnOk r (KnowsService setting o service after)
  service_done known own service infos before after are (Ok done) made = λ key is.
      made key
      ∙ ap (λ b. cond b (info_of infos key) (finite.get before key)) is
      ∙ ap (λ is. info_of is key) are
      ∙ known setting o service key own is
  service_done known own service infos before after are (Err fault) made = tt

  -- of a port of a Service that isn't there nothing is known
  pub none_known : (ports : Ports) (all : Keys)
      → ((key : PortKey) → finite.contains_key all key.object ≡ false → finite.get ports key ≡ None)
      → ((key : ObjectKey) → finite.contains_key all key ≡ false → finite.get o.services key ≡ None)
      → KnowsOthers setting o (finite.contains_key all) ports
  none_known ports all by_ports by_services = λ key none.
      by_ports key none
      ∙ sym (ap (option_and_then (info_in setting.family setting.config o key))
      (by_services key.object none))

  module _ (touched : Touched) (ports : Ports) where
    -- where not all Services are touched, these are those of the keys
    pub by_keys : touched.all ≡ false → KnowsOthers setting o (is_touched touched) ports
        → KnowsOthers setting o (finite.contains_key touched.keys) ports
    by_keys some knows = λ key none.
        knows key ((λ i. some i || finite.contains_key touched.keys key.object) ∙ none)

    pub from_keys : touched.all ≡ false
        → KnowsOthers setting o (finite.contains_key touched.keys) ports
        → KnowsOthers setting o (is_touched touched) ports
    from_keys some knows = λ key none.
        knows key (ap (λ b. b || finite.contains_key touched.keys key.object) (sym some) ∙ none)

    -- where all are, nothing is asked for
    pub none_left : touched.all ≡ true → KnowsOthers setting o (is_touched touched) ports
    none_left all = λ key none.
        absurd (both_answers true refl
        (ap (λ b. b || finite.contains_key touched.keys key.object) (sym all) ∙ none))

-- what Services with different keys count is at most what all do
pub few_of_services : (f : Service → ℕ) (o : Objects) (s : Keys)
    → sum_by f (filter_map (finite.get o.services) (finite.keys s))
    ≤ sum_by f (finite.values o.services)
few_of_services f o s = few_of_all key_total key_exact f o.services s

module _ (f : Service → ℕ) (o : Objects) (t : Touched) where
  -- what those of the keys count that were touched is at most what all do that were touched
  pub few_of_touched : AreUnderOwnKeys o
      → sum_by f (filter_map (finite.get o.services) (finite.keys t.keys))
      ≤ sum_by f (filter (λ (s : Service). is_touched t s.key) (finite.values o.services))
  few_of_touched own =
      few_of_passing key_total key_exact f (λ (s : Service). s.key) (is_touched t) o.services
      own.services t.keys (λ k there. ap (λ b. t.all || b) there ∙ or-true t.all)

  -- where all Services were touched, all count
  pub all_of_touched : t.all ≡ true
      → sum_by f (finite.values o.services)
      ≤ sum_by f (filter (λ (s : Service). is_touched t s.key) (finite.values o.services))
  all_of_touched all =
      sum_all f (λ (s : Service). is_touched t s.key)
      (λ s. ap (λ b. b || finite.contains_key t.keys s.key) all) (finite.values o.services)

-- where more Services were touched, more counts
pub more_touched : (f : Service → ℕ) (o : Objects) (some more : ObjectKey → Bool)
    → ((k : ObjectKey) → some k ≡ true → more k ≡ true)
    → sum_by f (filter (λ (s : Service). some s.key) (finite.values o.services))
    ≤ sum_by f (filter (λ (s : Service). more s.key) (finite.values o.services))
more_touched f o some more as_well =
    sum_more f (λ (s : Service). some s.key) (λ (s : Service). more s.key)
    (λ s. as_well s.key) (finite.values o.services)

module _ (o : Objects) (own : AreUnderOwnKeys o) (service : ObjectKey) (s : Service)
    (is : finite.get o.services service ≡ Some s) where
  -- the Service at a key is stored
  pub one_stored : AreStored o (s ∷ [])
  one_stored t among =
      let same : s ≡ t = only_one t (in_cases t s [] among) in
      ap (finite.get o.services) (ap (λ (u : Service). u.key) (sym same) ∙ own.services service s is)
      ∙ is ∙ ap Some same
    where
      only_one : (t : Service) → (s ≡ t) ⊎ Contains [] t → s ≡ t
      only_one t (inl e) = e
      only_one t (inr none) = absurd (none_in t none)

-- of ports of other Services the same is known, whether or not those of one are made anew
pub others_stay : {X E : Type 0} (r : Result X E) (service : ObjectKey) (infos : List PortInfo)
    → (before after : Ports) → Refreshes r service infos before after → OthersStay service before after
others_stay (Ok done) service infos before after is =
    λ key out. is key ∙ ap (λ b. cond b (info_of infos key) (finite.get before key)) out
others_stay (Err fault) service infos before after is = is.1

-- a writer that knows other ports wrote the same
pub still_written : (config : Config) (o : Objects) (family : Family) (w v : WriterParts)
    → v ≡ with_newest w v.newest → IsWritten config o family w → IsWritten config o family v
still_written config o family w v value is =
    subst (IsWritten config o family) (sym value)
    (record { family = is.family; config = is.config; written = is.written })

-- what is made of the ports of one Service
pub made_one : (setting : Setting) (written : Ports) (o : Objects) (service : ObjectKey)
    → (infos : List PortInfo)
    → infos ≡ filter_map (info_at setting.family setting.config o) (port_keys_at o service)
    → shared_rule_count setting (unwritten written infos)
    ≡ made_count setting written o (service ∷ [])
made_one setting written o service infos are =
    ap (λ is. shared_rule_count setting (unwritten written is)) are
    ∙ ap (λ ks. shared_rule_count setting (unwritten written
    (filter_map (info_at setting.family setting.config o) ks)))
    (sym (append-nil (port_keys_at o service)))

-- ---- All Services

absent : {K X : Type 0} {R : K → K → Ordering} (m : FinMap R X) (k : K) (o : Option X)
    → finite.get m k ≡ o → is_some o ≡ false → finite.get m k ≡ None
absent m k None e f = e
absent m k (Some x) e f = absurd (cc)

-- a key that isn't listed has nothing
pub not_listed : {K X : Type 0} {R : K → K → Ordering} (m : FinMap R X) (k : K)
    → list_any (eq_by_cmp R k) (finite.keys m) ≡ false → finite.get m k ≡ None
not_listed m k out = absent m k (finite.get m k) refl (contains_key-keys m k ∙ out)

-- a port of other Services is another port
pub other_ports : (port : PortKey) (ks : List PortKey)
    → list_any (eq_by_cmp key_cmp port.object) (map (λ k. k.object) ks) ≡ false
    → list_any (eq_by_cmp port_key_cmp port) ks ≡ false
other_ports port [] out = refl
other_ports port (k ∷ ks) out =
    let parts = or_parts _ _ out in
    let other : eq_by_cmp port_key_cmp port k ≡ false =
    false_from_ne_true _ (λ tie.
    both_answers (eq_by_cmp key_cmp port.object k.object)
    (ap (λ (q : PortKey). eq_by_cmp key_cmp port.object q.object)
    (sym (one_from_tie port_key_exact port k tie)) ∙ tie_of_itself key_total port.object) parts.0) in
    λ i. other i || other_ports port ks parts.1 i

-- keys that were put, and then others
pub put_twice : (before first second : Keys) (known stored : List ObjectKey)
    → ((k : ObjectKey) → finite.contains_key first k
    ≡ list_any (eq_by_cmp key_cmp k) known || finite.contains_key before k)
    → ((k : ObjectKey) → finite.contains_key second k
    ≡ list_any (eq_by_cmp key_cmp k) stored || finite.contains_key first k)
    → (k : ObjectKey) → finite.contains_key second k ≡ false
    → (list_any (eq_by_cmp key_cmp k) known ≡ false) × (list_any (eq_by_cmp key_cmp k) stored ≡ false)
put_twice before first second known stored one two k out =
    let parts = or_parts _ _ (sym (two k) ∙ out) in
    ((or_parts _ _ (sym (one k) ∙ parts.1)).0, parts.0)
