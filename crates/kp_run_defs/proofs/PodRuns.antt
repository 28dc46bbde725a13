-- Runs whose events are about pods alone: there is no Service, so there is no clash.
use Rattle.std.proofs.Common.{◌≡◌, ℕ, zero, suc, List, [], ◌∷◌, map, take, Option, None, slice_get, refl, ap, ◌∙◌}
use Rattle.std.specs.List.{cons_option, filter_map, fold}
use Rattle.std.specs.FinMap as finite
use Rattle.kp_base.specs.Keys.{key_cmp}
use Rattle.kp_types.specs.declared.chain.Clash.{Clash}
use Rattle.kp_base.proofs.KeyOrder.{key_total}
use Rattle.kp_base.specs.declared.address.Family.{Family}
use Rattle.kp_types.specs.Setting.{Setting, Settings, view_of}
use Rattle.kp_types.specs.declared.info.ServiceSources.{ServiceSources}
use Rattle.kp_types.specs.declared.service.Service.{Service}
use Rattle.kp_object_defs.specs.Objects.{Objects, no_objects, objects_step, objects_after, zone_of}
use Rattle.kp_object_defs.specs.PortInfo.{infos_by_family, infos_from, port_infos}
use Rattle.kp_object_defs.proofs.InOrder.{entries_in_order}
use Rattle.kp_table_defs.specs.Rebuild.{clash_among, clash_of, needed_keys}
use Rattle.kp_choice_defs.specs.Names.{first_clash}
use Rattle.kp_run_defs.specs.WorkedLive.{gone}

-- the clash among what ports of these Services are made of
abbrev clash_with : Setting → Objects → List ServiceSources → Option Clash
clash_with setting o services =
    first_clash setting.name_of (needed_keys
    (infos_from setting.family setting.config.node (zone_of o setting.config.node) services))

-- a map of nothing has no value
none_in : {B : Type 0} (f : Service → B)
    → map f (finite.values (finite.empty {R = key_cmp})) ≡ []
none_in f = ap (λ es. map f (map (λ e. e.1) es)) (entries_in_order key_total [])

-- without a Service there is no clash in a family
no_clash_in : (setting : Setting) (o : Objects) → o.services ≡ finite.empty
    → clash_among setting (port_infos setting.family setting.config o) ≡ None
no_clash_in setting o h =
    ap (λ services. clash_among setting
    (port_infos setting.family setting.config (record o { services = services }))) h
    ∙ ap (clash_with setting o) (none_in _)

-- and so in none
pub no_clash : (settings : Settings) (o : Objects) → o.services ≡ finite.empty
    → clash_of settings o ≡ None
no_clash settings o h = ap (λ clashes. slice_get clashes 0) (none_of settings.families)
  where
    clashes_in : List Family → List Clash
    clashes_in families =
        filter_map
        (λ family. clash_among (view_of family settings) (infos_by_family settings o family)) families

    none_of : (families : List Family) → clashes_in families ≡ []
    none_of [] = refl
    none_of (family ∷ families) =
        ap (λ clash. cons_option clash (clashes_in families))
        (no_clash_in (view_of family settings) o h) ∙ none_of families

-- pods that go leave the Services
stays : (k : ℕ) (names : List (List ℕ)) (o : Objects)
    → (fold objects_step o (take k (map gone names))).services ≡ o.services
stays zero names o = refl
stays (suc k) [] o = refl
stays (suc k) (name ∷ names) o = stays k names (objects_step o (gone name))

-- all of them do
all_stay : (names : List (List ℕ)) (o : Objects)
    → (fold objects_step o (map gone names)).services ≡ o.services
all_stay [] o = refl
all_stay (name ∷ names) o = all_stay names (objects_step o (gone name))

-- after some first pods went there is no clash
pub no_clash_after : (settings : Settings) (k : ℕ) (names : List (List ℕ))
    → clash_of settings (objects_after (take k (map gone names))) ≡ None
no_clash_after settings k names = no_clash settings _ (stays k names no_objects)

-- nor after all of them
pub no_clash_at_end : (settings : Settings) (names : List (List ℕ))
    → clash_of settings (objects_after (map gone names)) ≡ None
no_clash_at_end settings names = no_clash settings _ (all_stay names no_objects)
