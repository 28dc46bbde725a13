-- The lists of changed and of affected ports.
use Rattle.std.proofs.Common.{◌≡◌, Bool, true, false, true≢false, cond, not, ◌&&◌, List, [], ◌∷◌, ◌++◌, map, filter, flat_map, bytes_eq, Option, Some, None, refl, sym, ap, ◌∙◌, is_lt, Ordering}
use Rattle.std.proofs.Math.Bool.{and-true, not-not}
use Rattle.std.specs.List.{list_all}
use Rattle.std.specs.Cmp.Lexicographic.{pointwise, nat_list_eq_equiv}
use Rattle.std.specs.FinMap.{is_sorted, values}
use Rattle.std.specs.FinMap.Entries.{below_all}
use Rattle.std.proofs.lemmas.Bool.{and_from, and_parts, or_parts}
use Rattle.std.proofs.lemmas.Cmp.{lists_equiv}
use Rattle.std.proofs.lemmas.Slice.Eq.{bytes_eq-Decides}
use Rattle.kp_lemmas.specs.Exact.{IsExact}
use Rattle.kp_lemmas.proofs.Equality.{lists_exact}
use Rattle.kp_lemmas.proofs.Members.{none_pass}
use Rattle.kp_base.specs.Keys.{port_key_cmp}
use Rattle.kp_base.specs.declared.key.PortKey.{PortKey}
use Rattle.kp_base.proofs.KeyOrder.{port_key_total}
use Rattle.kp_types.specs.Setting.{Settings}
use Rattle.kp_types.specs.contracts.lists.CandidateEq.TheImpl.Laws as candidate_laws
use Rattle.kp_types.specs.contracts.lists.CandidatePartialEq.TheImpl as same_candidate
use Rattle.kp_types.specs.contracts.service.ServiceEq.TheImpl.Laws as service_laws
use Rattle.kp_types.proofs.ObjectEquality.{service_exact, candidate_exact}
use Rattle.kp_object_defs.specs.Objects.{Objects, objects_step}
use Rattle.kp_object_defs.specs.Order.{rises, in_order, distinct_in_order}
use Rattle.kp_object_defs.specs.OwnKeys.{AreUnderOwnKeys}
use Rattle.kp_object_defs.specs.Packing.{same_option}
use Rattle.kp_object_defs.specs.PortByKey.{port_keys_of}
use Rattle.kp_object_defs.proofs.AllOf.{all_filter}
use Rattle.kp_object_defs.proofs.InOrder.{sorted-in_order}
use Rattle.kp_history_defs.specs.Affected.{affects, affected_ports}
use Rattle.kp_history_defs.specs.Inputs.{PortInputs, inputs_of, same_inputs, keeps_inputs, ports_of_either, changed_ports}
use Rattle.kp_history_laws.specs.EventLaws.{has_port, UnaffectedInputs}
use Rattle.kp_history_laws.specs.PortLaws.{ChangedInputs, UnchangedInputs, NoneChanged, AffectedHoldChanged, ChangedInOrder, AffectedInOrder}
use Rattle.kp_history_laws.proofs.Ports.{has_filtered, has_either, no_inputs}

-- ---- Ports that aren't changed

-- that two values that may be missing are the same is told by a test of values
pub options_same : {X : Type 0} (test : X → X → Bool) → IsExact test → IsExact (same_option test)
options_same test exact None None h = refl
options_same test exact None (Some y) h = absurd (cc)
options_same test exact (Some x) None h = absurd (cc)
options_same test exact (Some x) (Some y) h = ap Some (exact x y h)

inputs_exact : IsExact same_inputs
inputs_exact a b h =
    let service = and_parts _ _ h in
    let rest = and_parts (pointwise same_candidate.ghosts.eq a.entries b.entries) (same_option bytes_eq a.zone b.zone) service.1 in
    λ i. record {
      service = service_exact a.service b.service service.0 i;
      entries = lists_exact _ candidate_exact a.entries b.entries rest.0 i;
      zone = options_same bytes_eq (λ x y e. (bytes_eq-Decides x y).0 e) a.zone b.zone rest.1 i;
    }

module _ (settings : Settings) (before after : Objects) (own : AreUnderOwnKeys before) (own_after : AreUnderOwnKeys after) (key : PortKey) where
  unchanged_by : has_port (changed_ports settings before after) key ≡ false → (b : Bool) → has_port (ports_of_either before after) key ≡ b → inputs_of settings after key ≡ inputs_of settings before key
  unchanged_by h true is =
      let kept : not (keeps_inputs settings before after key) ≡ false = sym (and-true _)
      ∙ sym (ap (λ b. not (keeps_inputs settings before after key) && b) is)
      ∙ sym (has_filtered (λ k. not (keeps_inputs settings before after k)) _ key) ∙ h in
      sym (options_same same_inputs inputs_exact (inputs_of settings before key) (inputs_of settings after key) (sym (not-not _) ∙ ap not kept))
  unchanged_by h false is =
      let parts = or_parts _ _ (sym (has_either before after key) ∙ is) in
      no_inputs after own_after key settings parts.1 ∙ sym (no_inputs before own key settings parts.0)

pub unchanged_inputs : UnchangedInputs
unchanged_inputs settings before after key own own_after h =
    unchanged_by settings before after own own_after key h _ refl

-- ---- Inputs are the same as themselves

option_itself : {X : Type 0} (test : X → X → Bool) → ((x : X) → test x x ≡ true) → (o : Option X) → same_option test o o ≡ true
option_itself test each None = refl
option_itself test each (Some x) = each x

inputs_itself : (inputs : PortInputs) → same_inputs inputs inputs ≡ true
inputs_itself inputs =
    and_from _ _ (service_laws.laws-law.refl inputs.service) (and_from _ _
    ((lists_equiv candidate_laws.laws-law).refl inputs.entries) (option_itself bytes_eq nat_list_eq_equiv.refl inputs.zone))

-- a port with the same inputs keeps them
kept_by : (settings : Settings) (before after : Objects) (key : PortKey) → inputs_of settings after key ≡ inputs_of settings before key → keeps_inputs settings before after key ≡ true
kept_by settings before after key same =
    ap (same_option same_inputs (inputs_of settings before key)) same ∙ option_itself same_inputs inputs_itself (inputs_of settings before key)

pub changed_inputs : ChangedInputs
changed_inputs settings before after key has same =
    let parts = and_parts (not (keeps_inputs settings before after key)) (has_port (ports_of_either before after) key)
    (sym (has_filtered (λ k. not (keeps_inputs settings before after k)) _ key) ∙ has) in
    true≢false (sym parts.0 ∙ ap not (kept_by settings before after key same))

-- ---- What the lists hold

pub none_changed : NoneChanged
none_changed settings o = none_pass (λ key. not (keeps_inputs settings o o key)) (λ key. ap not (kept_by settings o o key refl)) _

pub affected_hold_changed : UnaffectedInputs → AffectedHoldChanged
affected_hold_changed unaffected settings o event key own changed = by _ refl
  where
    by : (b : Bool) → has_port (affected_ports settings o event) key ≡ b → b ≡ true
    by true is = refl
    by false is = absurd (changed_inputs settings o (objects_step o event) key changed (unaffected settings o event key own is))

-- ---- In order

module _ {K X : Type 0} (R : K → K → Ordering) where
  below_keys : (k : K) (es : List (K × X)) → below_all R k es ≡ list_all (λ l. is_lt (R k l)) (map (λ e. e.0) es)
  below_keys k [] = refl
  below_keys k (e ∷ es) = ap (λ b. is_lt (R k e.0) && b) (below_keys k es)

  -- the keys of entries in order rise
  rises_keys : (es : List (K × X)) → is_sorted R es ≡ rises R (map (λ e. e.0) es)
  rises_keys [] = refl
  rises_keys (e ∷ es) = λ i. below_keys e.0 es i && rises_keys es i

-- so do those of them that pass a test
pub rises_filter : {K : Type 0} (R : K → K → Ordering) (p : K → Bool) (ks : List K) → rises R ks ≡ true → rises R (filter p ks) ≡ true
rises_filter R p [] h = refl
rises_filter R p (k ∷ ks) h =
    let parts = and_parts (list_all (λ l. is_lt (R k l)) ks) (rises R ks) h in
    let rest = rises_filter R p ks parts.1 in
    elim (p k) as (λ b. rises R (cond b (k ∷ filter p ks) (filter p ks)) ≡ true) [
      | true ↦ and_from _ _ (all_filter (λ l. is_lt (R k l)) p ks parts.0) rest
      | false ↦ rest
    ]

distinct_rise : (keys : List PortKey) → rises port_key_cmp (distinct_in_order port_key_cmp keys) ≡ true
distinct_rise keys =
    let es : List (PortKey × PortKey) = in_order port_key_cmp (map (λ k. (k, k)) keys) in
    sym (rises_keys port_key_cmp es) ∙ sorted-in_order port_key_total (map (λ k. (k, k)) keys)

pub either_rise : (before after : Objects) → rises port_key_cmp (ports_of_either before after) ≡ true
either_rise before after =
    distinct_rise (flat_map port_keys_of (values _) ++ flat_map port_keys_of (values _))

pub changed_in_order : ChangedInOrder
changed_in_order settings before after = rises_filter port_key_cmp (λ key. not (keeps_inputs settings before after key)) _ (either_rise before after)

pub affected_in_order : AffectedInOrder
affected_in_order settings o event = rises_filter port_key_cmp (λ key. affects settings o event key.object) _ (either_rise o (objects_step o event))
