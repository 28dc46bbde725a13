-- Packets get what the source of their kind says.
use Rattle.std.proofs.Common.{◌≡◌, inl, inr, ℕ, true, false, not, ◌&&◌, ◌||◌, List, [], map, Contains, Option, Some, None, is_some, option_and_then, option_map, filter, refl, sym, ap, subst, ◌∙◌}
use Rattle.std.specs.List.{list_any}
use Rattle.std.specs.Option.{option_to_list}
use Rattle.std.proofs.lemmas.Bool.{and_parts}
use Rattle.std.proofs.lemmas.Option.{same_Some}
use Rattle.kp_lemmas.proofs.Members.{from_flat_map, from_map, in_cases, none_in, none_passes}
use Rattle.kp_base.specs.Net.{same_address}
use Rattle.kp_base.specs.declared.key.Endpoint.{Endpoint}
use Rattle.kp_types.specs.Setting.{FamilyConfig, Setting}
use Rattle.kp_types.specs.declared.packet.Packet.{Packet}
use Rattle.kp_types.specs.declared.verdict.Verdict.TheVariants.{To}
use Rattle.kp_choice_defs.specs.Recent.{RecentParts}
use Rattle.kp_choice_defs.specs.Settings.{pick_by_draws}
use Rattle.kp_object_defs.specs.Desired.{is_empty}
use Rattle.kp_object_defs.specs.PortInfo.{PortInfo}
use Rattle.kp_door_defs.specs.Choice.{Chosen}
use Rattle.kp_door_defs.specs.Decision.{Translation, by_filter, choice_at, decision_by, refused_by, sent_to, translation_at}
use Rattle.kp_door_defs.specs.Doors.{Door, doors_of, fits, offer_of, taking_door, takes}
use Rattle.kp_door_defs.specs.Filter.{DropsClosed, DropsNoLocal, Line, Refusal, Rejects, filtered}
use Rattle.kp_door_defs.specs.Marks.{leaves_node, marked_at}
use Rattle.kp_walk_laws.proofs.Translations.{translates}
use Rattle.kp_change_laws.proofs.Chosen.{chosen_in}
use Rattle.kp_change_laws.proofs.DoorKinds.{found}
use Rattle.kp_path_defs.specs.Paths.{refusing_door}
use Rattle.kp_path_defs.specs.Sources.{Served, Source, asked_from, is_within, kinds_of, same_kind, served_by, served_of, source_at, verdict_of, verdict_untaken, whence_of}
use Rattle.kp_path_defs.specs.Sources as sources
use Rattle.kp_path_laws.proofs.Served.{served_alike}
use Rattle.kp_path_laws.proofs.SourceKinds.{from_kind}
use Rattle.kp_path_laws.specs.SourceLaws.{AsSaid, IsNoEndpoint, Says, asked_of, offered_by, verdict_sent}

refused_verdict : (r : Refusal) (d : Door) (lists : RecentParts) → (refused_by r d lists).verdict
    ≡ verdict_of r
refused_verdict Rejects d lists = refl
refused_verdict DropsClosed d lists = refl
refused_verdict DropsNoLocal d lists = refl

module _ (setting : Setting) (by_draws : setting.pick ≡ pick_by_draws) (infos : List PortInfo)
    (packet : Packet) (draws : ℕ → ℕ) (lists : RecentParts)
    (other : IsNoEndpoint setting.config infos packet) where
  abbrev SaysOf : Served → Option Translation → Type 0
  SaysOf served t = Says setting.config infos packet served t
      (decision_by setting.config infos packet lists t).verdict

  untaken : (o : Option Line) → (by_filter setting.config packet None lists o).verdict
      ≡ verdict_untaken o
  untaken None = refl
  untaken (Some line) = refused_verdict line.refusal line.door lists

  sent : (t : Translation) → same_address t.chosen.endpoint.address packet.source ≡ false
      → (o : Option Line)
      → (by_filter setting.config packet (Some t) t.chosen.lists o).verdict
      ≡ verdict_sent setting.config packet t.door t.chosen.endpoint o
  sent t differs (Some line) = refused_verdict line.refusal line.door t.chosen.lists
  sent t differs None =
      ap (λ b. To t.chosen.endpoint
      ((b || marked_at setting.config t.door.kind t.door.info packet.source)
      && leaves_node setting.config packet t.chosen.endpoint.address)) differs

  abbrev at : Door → Chosen → Translation
  at d c = record { door = d; offer = offer_of setting.config packet d; chosen = c }

  at_door : (d : Door) → taking_door setting.config infos packet ≡ Some d
      → SaysOf (sources.Opens
      (sources.counts_of setting.config infos packet d
      (offer_of setting.config packet d).endpoints) d (offer_of setting.config packet d))
      (translation_at setting packet draws lists d)
  at_door d h = by (choice_at setting packet draws lists d) refl
      (translates setting by_draws packet draws lists d offers)
    where
      takes_it : takes setting.config packet d ≡ true
      takes_it = (found (takes setting.config packet) (doors_of infos) d h).1

      offers : not (is_empty (offer_of setting.config packet d).endpoints) ≡ true
      offers = (and_parts (fits setting.config.addresses packet d)
          (not (is_empty (offer_of setting.config packet d).endpoints)) takes_it).1

      none : list_any (λ (e : Endpoint). same_address e.address packet.source)
          (offer_of setting.config packet d).endpoints ≡ false
      none = ap (λ o. list_any (λ (e : Endpoint). same_address e.address packet.source)
          (offered_by setting.config packet o)) (sym h) ∙ other

      by : (c : Option Chosen) → choice_at setting packet draws lists d ≡ c
          → is_some (option_map (at d) c) ≡ true
          → SaysOf (sources.Opens
          (sources.counts_of setting.config infos packet d
          (offer_of setting.config packet d).endpoints) d (offer_of setting.config packet d))
          (option_map (at d) c)
      by None e some = absurd (cc)
      by (Some c) e some =
          let es = (offer_of setting.config packet d).endpoints in
          let t = at d c in
          let mine = chosen_in setting d.info.key packet.source packet.now draws es d.info.affinity
          lists c e in (
            t,
            refl,
            refl,
            refl,
            refl,
            mine,
            sent t (none_passes (λ (e : Endpoint). same_address e.address packet.source) c.endpoint
                es none mine) (filtered setting.config infos (sent_to packet c.endpoint)),
          )

  by_doors : (served : Served) (taking refusing : Option Door)
      → taking_door setting.config infos packet ≡ taking
      → refusing_door setting.config infos packet ≡ refusing
      → served_by setting.config infos packet taking refusing ≡ Some served
      → SaysOf served (option_and_then (translation_at setting packet draws lists) taking)
  by_doors served (Some d) refusing e f h =
      subst (λ x. SaysOf x (translation_at setting packet draws lists d)) (same_Some _ served h)
      (at_door d e)
  by_doors served None (Some d) e f h =
      subst (λ x. SaysOf x None) (same_Some _ served h)
      (refl, untaken (filtered setting.config infos packet), f, refl)
  by_doors served None None e f h = absurd (cc)

only_option : {X : Type 0} (o : Option X) (x : X) → Contains (option_to_list o) x → o ≡ Some x
only_option None x c = absurd (none_in x c)
only_option (Some y) x c = elim (in_cases x y [] c)
    [ inl e ↦ ap Some e | inr n ↦ absurd (none_in x n) ]

pub as_said : AsSaid
as_said family setting infos packet draws lists a s by_draws there kind other =
    let config : FamilyConfig = setting.config in
    let rs = asked_of config infos packet in
    let (k, of_kinds, at) = from_flat_map (source_at config infos packet rs) s
    (kinds_of family config rs) there in
    let made : Served → Source = λ served. record {
      address = k;
      whence = whence_of config k;
      within = map (λ r. r.port)
          (filter (is_within k) rs);
      served = served;
    } in
    let (served, in_it, is) = from_map made s
    (option_to_list (served_of config infos (asked_from config packet k))) at in
    let of_k : same_kind config rs a k ≡ true =
    ap (λ (x : Source). same_kind config rs a x.address) is ∙ kind in
    let alike = from_kind config rs a k of_k in
    let gets : served_of config infos (asked_from config packet a) ≡ Some s.served =
    served_alike config infos packet a k of_k
    ∙ only_option (served_of config infos (asked_from config packet k)) served in_it
    ∙ ap (λ (x : Source). Some x.served) is in
    let whence : whence_of config a
    ≡ whence_of config k = λ i. record { cluster = alike.cluster i; node = alike.own i } in (
      whence ∙ ap (λ (x : Source). x.whence) is,
      by_doors setting by_draws infos (asked_from config packet a) draws lists other s.served
          (taking_door config infos (asked_from config packet a))
          (refusing_door config infos (asked_from config packet a)) refl refl gets,
    )
