-- Ports in order are the same but for those of some names, where of each other name the same is
-- known.
use Rattle.std.proofs.Common.{◌≡◌, Bool, true, false, cond, not, List, [], ◌∷◌, map, filter}
use Rattle.std.proofs.Common.{Option, Some, None, refl, sym, ap, ◌∙◌}
use Rattle.std.specs.List.{AllByRecursion, cons_option, filter_map, list_any}
use Rattle.std.specs.Ordering.{eq_by_cmp}
use Rattle.std.specs.FinMap.{find}
use Rattle.kp_lemmas.proofs.Booleans.{fact_from_true}
use Rattle.kp_lemmas.proofs.Entries.{sorted_found}
use Rattle.kp_base.specs.Keys.{port_key_cmp}
use Rattle.kp_base.specs.declared.key.PortKey.{PortKey}
use Rattle.kp_base.proofs.KeyOrder.{port_key_total, port_key_exact}
use Rattle.kp_object_defs.specs.PortInfo.{PortInfo}
use Rattle.kp_writer_laws.specs.LocalLaws.{OtherPortsStay, info_of, is_one_of}
use Rattle.kp_writer_laws.proofs.KeyLists.{keys_rise, not_found}
use Rattle.kp_writer_laws.proofs.LocalChanges.{same_given}

-- ports under their names
abbrev named : List PortInfo → List (PortKey × PortInfo)
named infos = map (λ i. (i.key, i)) infos

-- the names of ports
abbrev names : List PortInfo → List PortKey
names infos = map (λ e. e.0) (named infos)

module _ (keys : List PortKey) where
  -- what is known under another name
  abbrev other : List PortInfo → PortKey → Option PortInfo
  other infos key = cond (is_one_of keys key) None (info_of infos key)

  one_other : (b : Bool) (i : PortInfo) (is : List PortInfo)
      → cons_option (cond b None (Some i)) is ≡ cond (not b) (i ∷ is) is
  one_other true i is = refl
  one_other false i is = refl

  -- what is known under other names are the ports of these
  others : (all some : List PortInfo)
      → AllByRecursion (λ e. find port_key_cmp e.0 (named all) ≡ Some e.1) (named some)
      → filter_map (other all) (names some) ≡ filter (λ i. not (is_one_of keys i.key)) some
  others all [] h = refl
  others all (i ∷ is) h =
      (λ n. cons_option (cond (is_one_of keys i.key) None (h.0 n)) (others all is h.1 n))
      ∙ one_other (is_one_of keys i.key) i (filter (λ i. not (is_one_of keys i.key)) is)

  none_other : (b : Bool) {o : Option PortInfo} → o ≡ None → cond b None o ≡ None
  none_other true h = refl
  none_other false h = h

  no_other : (infos : List PortInfo) (key : PortKey)
      → list_any (eq_by_cmp port_key_cmp key) (names infos) ≡ false → other infos key ≡ None
  no_other infos key out =
      none_other (is_one_of keys key) (not_found port_key_cmp (named infos) key out)

  module _ (before after : List PortInfo)
      (same : (key : PortKey) → is_one_of keys key ≡ false → info_of after key
      ≡ info_of before key) where
    alike_by : (key : PortKey) (b : Bool) → is_one_of keys key ≡ b
        → cond b None (info_of before key) ≡ cond b None (info_of after key)
    alike_by key true h = refl
    alike_by key false h = sym (same key h)

    pub alike : (key : PortKey) → other before key ≡ other after key
    alike key = alike_by key (is_one_of keys key) refl

pub other_ports_stay : OtherPortsStay
other_ports_stay before after keys ordered ordered_after same =
    let sorted = fact_from_true ordered in
    let sorted_after = fact_from_true ordered_after in
    let stays = alike keys before after same in
    sym (others keys before before (sorted_found port_key_total (named before) sorted))
    ∙ same_given port_key_cmp (other keys before) port_key_exact port_key_total (names before)
    (names after)
    (λ key here out. stays key ∙ no_other keys after key out)
    (λ key here out. no_other keys before key out)
    (keys_rise port_key_cmp (named before) sorted)
    (keys_rise port_key_cmp (named after) sorted_after)
    ∙ ap (λ f. filter_map f (names after)) (λ n key. stays key n)
    ∙ others keys after after (sorted_found port_key_total (named after) sorted_after)
