-- A Service without a cluster address of a family has no port that is known in it.
use Rattle.std.proofs.Common.{◌≡◌, Bool, true, false, cond, List, [], ◌∷◌, ◌++◌, map, filter, filter_map, flat_map, Option, Some, None, is_some, option_map, option_and_then, refl, sym, ap, ◌∙◌}
use Rattle.std.specs.List.{cons_option}
use Rattle.std.specs.FinMap.{get}
use Rattle.std.proofs.lemmas.List.Elements.{filter-append}
use Rattle.kp_lemmas.proofs.Members.{first_in, later_in, from_filter}
use Rattle.kp_lemmas.proofs.Options.{none_of}
use Rattle.kp_base.specs.Keys.{port_key_cmp}
use Rattle.kp_base.specs.declared.address.Family.{Family}
use Rattle.kp_base.specs.declared.key.PortKey.{PortKey}
use Rattle.kp_types.specs.Setting.{FamilyConfig}
use Rattle.kp_types.specs.declared.info.ServiceSources.{ServiceSources}
use Rattle.kp_types.specs.declared.service.Service.{Service}
use Rattle.kp_types.specs.declared.service.ServicePort.{ServicePort}
use Rattle.kp_object_defs.specs.Entries.{sources_of, entries_from}
use Rattle.kp_object_defs.specs.Objects.{Objects, zone_of}
use Rattle.kp_object_defs.specs.Order.{distinct_in_order}
use Rattle.kp_object_defs.specs.PortByKey.{info_at, info_in, port_keys_of, port_named}
use Rattle.kp_object_defs.specs.PortInfo.{cluster_address_in, info_from, info_of, infos_from, port_key_of, ports_of}
use Rattle.kp_object_laws.proofs.KeptNames.{distinct_kept}
use Rattle.kp_object_laws.proofs.PortByKey.{infos_by_names, sources_service}
use Rattle.kp_known_ports.specs.Known.{AreStored, parts_of}

-- what is made of the elements that make something is what is made of all
made_of_makers : {A B : Type 0} (f : A → Option B) (xs : List A)
    → filter_map f (filter (λ x. is_some (f x)) xs) ≡ filter_map f xs
made_of_makers f [] = refl
made_of_makers {B = B} f (x ∷ xs) = by (f x) refl (made_of_makers f xs)
  where
    by : (o : Option B) → f x ≡ o
        → filter_map f (filter (λ y. is_some (f y)) xs) ≡ filter_map f xs
        → filter_map f (cond (is_some o) (x ∷ filter (λ y. is_some (f y)) xs)
        (filter (λ y. is_some (f y)) xs)) ≡ cons_option o (filter_map f xs)
    by None is rest = rest
    by (Some y) is rest = λ i. cons_option (is i) (rest i)

module _ (family : Family) (config : FamilyConfig) (o : Objects) where
  abbrev takes : Service → Bool
  takes s = is_some (cluster_address_in family s)

  -- the ports of the Services that take part
  pub parts_taking : (ss : List Service)
      → flat_map (parts_of family config o) ss ≡ flat_map ports_of (map (sources_of family config o) (filter takes ss))
  parts_taking [] = refl
  parts_taking (s ∷ ss) =
      ap (λ rest. parts_of family config o s ++ rest) (parts_taking ss)
      ∙ by (takes s)
    where
      by : (b : Bool) → cond b (ports_of (sources_of family config o s)) [] ++ flat_map ports_of (map (sources_of family config o) (filter takes ss))
          ≡ flat_map ports_of (map (sources_of family config o) (cond b (s ∷ filter takes ss) (filter takes ss)))
      by true = refl
      by false = refl

  -- a port is found by its name only where its Service takes part
  unknown : (s : Service) → takes s ≡ false → (key : PortKey) → info_in family config o key s ≡ None
  unknown s out key = by (port_named key s)
    where
      by : (found : Option ServicePort) → option_and_then (λ p. info_of family config.node (zone_of o config.node) (sources_of family config o s, p)) found ≡ None
      by None = refl
      by (Some p) =
          let from : ServiceSources = sources_of family config o s in
          ap (option_map (info_from family from.service p (zone_of o config.node) (entries_from family config.node from (port_key_of from.service p))))
          (ap (cluster_address_in family) (sources_service family config o s) ∙ none_of (cluster_address_in family s) out)

  abbrev is_known : PortKey → Bool
  is_known key = is_some (info_at family config o key)

  none_known : (s : Service) → get o.services s.key ≡ Some s → takes s ≡ false → (ps : List ServicePort) → filter is_known (map (port_key_of s) ps) ≡ []
  none_known s stored out [] = refl
  none_known s stored out (p ∷ ps) =
      ap (λ b. cond b (port_key_of s p ∷ filter is_known (map (port_key_of s) ps)) (filter is_known (map (port_key_of s) ps)))
      (ap is_some (ap (option_and_then (info_in family config o (port_key_of s p))) stored ∙ unknown s out (port_key_of s p)))
      ∙ none_known s stored out ps

  -- the names of known ports are those of Services that take part
  known_names : (ss : List Service) → AreStored o ss → filter is_known (flat_map port_keys_of (filter takes ss)) ≡ filter is_known (flat_map port_keys_of ss)
  known_names [] stored = refl
  known_names (s ∷ ss) stored =
      by (takes s) refl (known_names ss (λ t c. stored t (later_in t s ss c)))
    where
      by : (b : Bool) → takes s ≡ b
          → filter is_known (flat_map port_keys_of (filter takes ss))
          ≡ filter is_known (flat_map port_keys_of ss)
          → filter is_known
          (flat_map port_keys_of (cond b (s ∷ filter takes ss) (filter takes ss)))
          ≡ filter is_known (port_keys_of s ++ flat_map port_keys_of ss)
      by true is rest =
          filter-append is_known (port_keys_of s) (flat_map port_keys_of (filter takes ss))
          ∙ ap (λ more. filter is_known (port_keys_of s) ++ more) rest
          ∙ sym (filter-append is_known (port_keys_of s) (flat_map port_keys_of ss))
      by false is rest =
          rest
          ∙ ap (λ own. own ++ filter is_known (flat_map port_keys_of ss)) (sym (none_known s (stored s (first_in s ss)) is s.ports))
          ∙ sym (filter-append is_known (port_keys_of s) (flat_map port_keys_of ss))

  -- what is known of the ports of Services is found by the names of all their ports
  pub found_by_names : (ss : List Service) → AreStored o ss
      → infos_from family config.node (zone_of o config.node) (map (sources_of family config o) (filter takes ss))
      ≡ filter_map (info_at family config o) (distinct_in_order port_key_cmp (flat_map port_keys_of ss))
  found_by_names ss stored =
      infos_by_names family config o (filter takes ss) (λ s c. stored s (from_filter takes s ss c).0)
      ∙ sym (made_of_makers (info_at family config o) (distinct_in_order port_key_cmp (flat_map port_keys_of (filter takes ss))))
      ∙ ap (filter_map (info_at family config o))
      (sym (distinct_kept is_known (flat_map port_keys_of (filter takes ss)))
      ∙ ap (distinct_in_order port_key_cmp) (known_names ss stored)
      ∙ distinct_kept is_known (flat_map port_keys_of ss))
      ∙ made_of_makers (info_at family config o) (distinct_in_order port_key_cmp (flat_map port_keys_of ss))
