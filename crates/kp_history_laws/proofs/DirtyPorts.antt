-- The list of dirty ports.
use Rattle.std.proofs.Common.{◌≡◌, Bool, true, false, true≢false, not, ◌&&◌, option_and_then}
use Rattle.std.proofs.Common.{Option, Some, None, refl, sym, ap, ◌∙◌}
use Rattle.std.specs.Cmp.{nat_eq_equiv}
use Rattle.std.specs.Cmp.Lexicographic.{lists_equiv, options_equiv}
use Rattle.std.specs.Option.{option_eq}
use Rattle.std.specs.contracts.prelude.BoolEq.TheImpl.Laws as bool_laws
use Rattle.std.proofs.Math.Bool.{and-true, not-not}
use Rattle.std.proofs.lemmas.Bool.{and_from, and_parts, or_parts}
use Rattle.std.proofs.lemmas.Map.Views.{exact_unsigned_eq}
use Rattle.kp_lemmas.specs.Exact.{IsExact}
use Rattle.kp_lemmas.proofs.Equality.{lists_exact, options_exact}
use Rattle.kp_lemmas.proofs.Members.{none_pass}
use Rattle.kp_lemmas.proofs.Orders.{one_from_tie}
use Rattle.kp_base.specs.Keys.{port_key_cmp}
use Rattle.kp_base.specs.contracts.address.AddressEq.TheImpl.Laws as address_laws
use Rattle.kp_base.specs.contracts.key.EndpointEq.TheImpl.Laws as endpoint_laws
use Rattle.kp_base.specs.contracts.key.PortKeyEq.TheImpl.Laws as key_laws
use Rattle.kp_base.specs.contracts.range.CidrEq.TheImpl.Laws as range_laws
use Rattle.kp_base.specs.declared.address.Family.{Family}
use Rattle.kp_base.specs.declared.key.PortKey.{PortKey}
use Rattle.kp_base.proofs.KeyOrder.{port_key_exact, port_key_ties}
use Rattle.kp_base.proofs.SameParts.{address_test_exact, bool_exact, endpoint_test_exact}
use Rattle.kp_base.proofs.SameParts.{range_test_exact}
use Rattle.kp_types.specs.Setting.{Setting, Settings, view_of}
use Rattle.kp_types.specs.contracts.service.PolicyEq.TheImpl.Laws as policy_laws
use Rattle.kp_types.specs.contracts.service.PolicyPartialEq.TheImpl as policy_eq
use Rattle.kp_types.specs.declared.lists.Lists.{Lists}
use Rattle.kp_types.specs.declared.service.Policy.{Policy}
use Rattle.kp_types.specs.declared.service.Policy.TheVariants.{Cluster, Local}
use Rattle.kp_object_defs.specs.Objects.{Objects}
use Rattle.kp_object_defs.specs.OwnKeys.{AreUnderOwnKeys}
use Rattle.kp_object_defs.specs.PortByKey.{info_at}
use Rattle.kp_object_defs.specs.PortInfo.{PortInfo}
use Rattle.kp_history_defs.specs.DirtyPorts.{same_destinations, same_policies, same_lists}
use Rattle.kp_history_defs.specs.DirtyPorts.{same_info, keeps_info, dirty_keys}
use Rattle.kp_history_defs.specs.Inputs.{inputs_of, changed_ports, ports_of_either}
use Rattle.kp_history_laws.specs.DirtyLaws.{AreKnownAlike, DirtyInfos, CleanInfos}
use Rattle.kp_history_laws.specs.DirtyLaws.{DirtyAreChanged, NoneDirty, DirtyInOrder}
use Rattle.kp_history_laws.specs.EventLaws.{has_port}
use Rattle.kp_history_laws.specs.PortLaws.{UnchangedInputs}
use Rattle.kp_history_laws.proofs.Changed.{rises_filter, either_rise}
use Rattle.kp_history_laws.proofs.Ports.{has_filtered, has_either, no_info}
use Rattle.kp_history_laws.proofs.Ports.{info_by, info_by_inputs}

-- ---- The same is known of equal ports alone

policies_exact : (p q : Policy) → policy_eq.ghosts.eq p q ≡ true → p ≡ q
policies_exact Cluster Cluster h = refl
policies_exact Cluster Local h = absurd (cc)
policies_exact Local Cluster h = absurd (cc)
policies_exact Local Local h = refl

-- with the same endpoints
lists_same : IsExact same_lists
lists_same a b h =
    let cluster = and_parts _ _ h in
    let rest = and_parts _ _ cluster.1 in
    λ i. record {
      cluster = lists_exact _ endpoint_test_exact a.cluster b.cluster cluster.0 i;
      local = lists_exact _ endpoint_test_exact a.local b.local rest.0 i;
      has_any = bool_exact a.has_any b.has_any rest.1 i;
    }

pub infos_exact : IsExact same_info
infos_exact a b h =
    let both =
    and_parts (same_destinations a b) (same_policies a b && same_lists a.lists b.lists) h in
    let key = and_parts _ _ both.0 in
    let number = and_parts _ _ key.1 in
    let address = and_parts _ _ number.1 in
    let external = and_parts _ _ address.1 in
    let balancer = and_parts _ _ external.1 in
    let other = and_parts (same_policies a b) (same_lists a.lists b.lists) both.1 in
    let ranges = and_parts _ _ other.0 in
    let affinity = and_parts _ _ ranges.1 in
    let policies = and_parts _ _ affinity.1 in
    λ i. record {
      key = one_from_tie port_key_exact a.key b.key (sym (port_key_ties a.key b.key) ∙ key.0) i;
      number = exact_unsigned_eq a.number b.number number.0 i;
      address = address_test_exact a.address b.address address.0 i;
      external = lists_exact _ address_test_exact a.external b.external external.0 i;
      balancer = lists_exact _ address_test_exact a.balancer b.balancer balancer.0 i;
      node_port = options_exact _ exact_unsigned_eq a.node_port b.node_port balancer.1 i;
      ranges = options_exact _ (lists_exact _ range_test_exact) a.ranges b.ranges ranges.0 i;
      affinity = options_exact _ exact_unsigned_eq a.affinity b.affinity affinity.0 i;
      internal = policies_exact a.internal b.internal policies.0 i;
      outer = policies_exact a.outer b.outer policies.1 i;
      lists = lists_same a.lists b.lists other.1 i;
    }

-- ---- The same is known of each port as of itself

lists_itself : (ls : Lists) → same_lists ls ls ≡ true
lists_itself ls =
    and_from _ _ ((lists_equiv endpoint_laws.laws-law).refl ls.cluster) (and_from _ _
    ((lists_equiv endpoint_laws.laws-law).refl ls.local) (bool_laws.laws-law.refl ls.has_any))

policies_itself : (p : PortInfo) → same_policies p p ≡ true
policies_itself p =
    and_from _ _ ((options_equiv (lists_equiv range_laws.laws-law)).refl p.ranges) (and_from _ _
    ((options_equiv nat_eq_equiv).refl p.affinity) (and_from _ _
    (policy_laws.laws-law.refl p.internal) (policy_laws.laws-law.refl p.outer)))

destinations_itself : (p : PortInfo) → same_destinations p p ≡ true
destinations_itself p =
    and_from _ _ (key_laws.laws-law.refl p.key) (and_from _ _
    (nat_eq_equiv.refl p.number) (and_from _ _
    (address_laws.laws-law.refl p.address) (and_from _ _
    ((lists_equiv address_laws.laws-law).refl p.external) (and_from _ _
    ((lists_equiv address_laws.laws-law).refl p.balancer)
    ((options_equiv nat_eq_equiv).refl p.node_port)))))

pub info_itself : (p : PortInfo) → same_info p p ≡ true
info_itself p =
    and_from _ _ (destinations_itself p) (and_from _ _ (policies_itself p) (lists_itself p.lists))

-- a port of which the same is known keeps it
kept_by : (setting : Setting) (before after : Objects) (key : PortKey)
    → AreKnownAlike setting before after key → keeps_info setting before after key ≡ true
kept_by setting before after key same =
    ap (option_eq same_info (info_at setting.family setting.config before key)) same
    ∙ itself (info_at setting.family setting.config before key)
  where
    itself : (o : Option PortInfo) → option_eq same_info o o ≡ true
    itself None = refl
    itself (Some p) = info_itself p

-- ---- What the list holds

pub dirty_infos : DirtyInfos
dirty_infos setting before after key has same =
    let parts =
    and_parts (not (keeps_info setting before after key))
    (has_port (ports_of_either before after) key)
    (sym (has_filtered (λ k. not (keeps_info setting before after k)) _ key) ∙ has) in
    true≢false (sym parts.0 ∙ ap not (kept_by setting before after key same))

-- where the inputs are the same, so is what is known in each family
same_known : (settings : Settings) (family : Family) (before after : Objects) (key : PortKey)
    → inputs_of settings after key ≡ inputs_of settings before key
    → AreKnownAlike (view_of family settings) before after key
same_known settings family before after key same =
    info_by_inputs settings family after key ∙ ap (option_and_then (info_by family key)) same
    ∙ sym (info_by_inputs settings family before key)

module _ (setting : Setting) (before after : Objects) (own : AreUnderOwnKeys before)
    (own_after : AreUnderOwnKeys after) (key : PortKey) where
  clean_by : has_port (dirty_keys setting before after) key ≡ false
      → (b : Bool) → has_port (ports_of_either before after) key ≡ b
      → AreKnownAlike setting before after key
  clean_by h true is =
      let kept : not (keeps_info setting before after key) ≡ false = sym (and-true _)
      ∙ sym (ap (λ b. not (keeps_info setting before after key) && b) is)
      ∙ sym (has_filtered (λ k. not (keeps_info setting before after k)) _ key) ∙ h in
      sym (options_exact same_info infos_exact (info_at setting.family setting.config before key)
      (info_at setting.family setting.config after key) (sym (not-not _) ∙ ap not kept))
  clean_by h false is =
      let parts = or_parts _ _ (sym (has_either before after key) ∙ is) in
      no_info after own_after key setting.family setting.config parts.1
      ∙ sym (no_info before own key setting.family setting.config parts.0)

pub clean_infos : CleanInfos
clean_infos setting before after key own own_after h =
    clean_by setting before after own own_after key h _ refl

pub dirty_are_changed : UnchangedInputs → DirtyAreChanged
dirty_are_changed unchanged settings family before after key own own_after dirty = by _ refl
  where
    by : (b : Bool) → has_port (changed_ports settings before after) key ≡ b → b ≡ true
    by true is = refl
    by false is =
        absurd (dirty_infos (view_of family settings) before after key dirty
        (same_known settings family before after key
        (unchanged settings before after key own own_after is)))

pub none_dirty : NoneDirty
none_dirty setting o =
    none_pass (λ key. not (keeps_info setting o o key))
    (λ key. ap not (kept_by setting o o key refl)) _

pub dirty_in_order : DirtyInOrder
dirty_in_order setting before after =
    rises_filter port_key_cmp (λ key. not (keeps_info setting before after key)) _
    (either_rise before after)
