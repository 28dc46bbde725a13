-- The names of the ports of the Services that pass a test, in order.
use Rattle.std.proofs.Common.{◌≡◌, Bool, true, false, cond, List, [], ◌∷◌, ◌++◌, map, filter, flat_map, Contains, Option, Some, None, refl, sym, ap, ◌∙◌}
use Rattle.std.specs.FinMap as finite
use Rattle.std.specs.FinMap.{get}
use Rattle.std.proofs.lemmas.List.Elements.{filter-append}
use Rattle.kp_lemmas.proofs.Members.{first_in, later_in}
use Rattle.kp_base.specs.Keys.{port_key_cmp}
use Rattle.kp_base.specs.declared.key.PortKey.{PortKey}
use Rattle.kp_types.specs.declared.service.Service.{Service}
use Rattle.kp_types.specs.declared.service.ServicePort.{ServicePort}
use Rattle.kp_object_defs.specs.Objects.{Objects}
use Rattle.kp_object_defs.specs.Order.{distinct_in_order}
use Rattle.kp_object_defs.specs.OwnKeys.{AreUnderOwnKeys}
use Rattle.kp_object_defs.specs.PortInfo.{port_key_of}
use Rattle.kp_object_defs.specs.PortByKey.{port_keys, port_keys_of}
use Rattle.kp_object_laws.proofs.KeptNames.{distinct_kept}
use Rattle.kp_object_laws.proofs.PortByKey.{all_stored}

module _ (o : Objects) (own : AreUnderOwnKeys o) (passes : Service → Bool) where
  abbrev pub passes_in : Option Service → Bool
  passes_in None = false
  passes_in (Some s) = passes s

  -- the Service of a name is there and passes
  abbrev pub is_kept : PortKey → Bool
  is_kept key = passes_in (get o.services key.object)

  kept_ports : (s : Service) (b : Bool) (ps : List ServicePort) → passes_in (get o.services s.key) ≡ b → filter is_kept (map (port_key_of s) ps) ≡ cond b (map (port_key_of s) ps) []
  kept_ports s true [] is = refl
  kept_ports s false [] is = refl
  kept_ports s true (p ∷ ps) is =
      ap (λ b. cond b (port_key_of s p ∷ filter is_kept (map (port_key_of s) ps)) (filter is_kept (map (port_key_of s) ps))) is
      ∙ ap (λ rest. port_key_of s p ∷ rest) (kept_ports s true ps is)
  kept_ports s false (p ∷ ps) is =
      ap (λ b. cond b (port_key_of s p ∷ filter is_kept (map (port_key_of s) ps)) (filter is_kept (map (port_key_of s) ps))) is
      ∙ kept_ports s false ps is

  pulled : (s : Service) (rest : List Service) (b : Bool) → flat_map port_keys_of (cond b (s ∷ rest) rest) ≡ cond b (port_keys_of s) [] ++ flat_map port_keys_of rest
  pulled s rest true = refl
  pulled s rest false = refl

  all_kept : (ss : List Service) → ((s : Service) → Contains ss s → Contains (finite.values o.services) s) → flat_map port_keys_of (filter passes ss) ≡ filter is_kept (flat_map port_keys_of ss)
  all_kept [] among = refl
  all_kept (s ∷ ss) among =
      pulled s (filter passes ss) (passes s)
      ∙ (λ i. sym (kept_ports s (passes s) s.ports (ap passes_in (all_stored o own s (among s (first_in s ss))))) i ++ all_kept ss (λ t c. among t (later_in t s ss c)) i)
      ∙ sym (filter-append is_kept (port_keys_of s) (flat_map port_keys_of ss))

  -- in order
  pub keys_are : distinct_in_order port_key_cmp (flat_map port_keys_of (filter passes (finite.values o.services))) ≡ filter is_kept (port_keys o)
  keys_are =
      ap (distinct_in_order port_key_cmp) (all_kept (finite.values o.services) (λ s c. c))
      ∙ distinct_kept is_kept (flat_map port_keys_of (finite.values o.services))
