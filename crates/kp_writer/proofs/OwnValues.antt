-- Ports under their own keys, as a list.
use Rattle.std.proofs.Common.{◌≡◌, inl, inr, List, [], ◌∷◌, map, Contains, Some}
use Rattle.std.proofs.Common.{unwrap_or, refl, sym, ap, ◌∙◌}
use Rattle.std.specs.List.{AllByRecursion, cons_option, filter_map}
use Rattle.std.specs.FinMap.{entries, get, keys, values}
use Rattle.kp_lemmas.proofs.Entries.{entries_found}
use Rattle.kp_lemmas.proofs.Members.{in_cases, none_in}
use Rattle.kp_base.specs.declared.key.PortKey.{PortKey}
use Rattle.kp_base.proofs.KeyOrder.{port_key_total}
use Rattle.kp_object_defs.specs.PortInfo.{PortInfo}
use Rattle.kp_table_laws.specs.Laws.{HaveOwnKeys}
use Rattle.kp_writer.specs.Sync.{infos_at}
use Rattle.kp_writer.specs.Written.{AreUnderOwnKeys, Ports}

-- ---- A port of the list is found by its key

found_in : (m : Ports) → AreUnderOwnKeys m → (es : List (PortKey × PortInfo))
    → AllByRecursion (λ e. get m e.0 ≡ Some e.1) es → (i : PortInfo)
    → Contains (map (λ e. e.1) es) i → get m i.key ≡ Some i
found_in m own [] h i c = absurd (none_in i c)
found_in m own (e ∷ es) h i c =
    elim (in_cases i e.1 (map (λ f. f.1) es) c) [
      | inl is ↦
          ap (λ (j : PortInfo). get m j.key) (sym is) ∙ ap (get m) (own e.0 e.1 h.0)
          ∙ h.0 ∙ ap Some is
      | inr d ↦ found_in m own es h.1 i d
    ]

found_by_key : (m : Ports) → AreUnderOwnKeys m → (i : PortInfo) → Contains (values m) i
    → get m i.key ≡ Some i
found_by_key m own = found_in m own (entries m) (entries_found port_key_total m)

-- so of two of one key both are one
pub own_values : (m : Ports) → AreUnderOwnKeys m → HaveOwnKeys (values m)
own_values m own i j ci cj same =
    ap (λ o. unwrap_or o i) (sym (found_by_key m own i ci) ∙ ap (get m) same
    ∙ found_by_key m own j cj)

-- ---- The ports of all keys are all

found_of : (m : Ports) (es : List (PortKey × PortInfo))
    → AllByRecursion (λ e. get m e.0 ≡ Some e.1) es
    → filter_map (get m) (map (λ e. e.0) es) ≡ map (λ e. e.1) es
found_of m [] h = refl
found_of m (e ∷ es) h = λ i. cons_option (h.0 i) (found_of m es h.1 i)

pub all_found : (m : Ports) → infos_at m (keys m) ≡ values m
all_found m = found_of m (entries m) (entries_found port_key_total m)
