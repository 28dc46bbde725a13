-- What is decided for addresses of one kind that are no endpoints and in no recent list.
use Rattle.std.proofs.Common.{◌≡◌, ℕ, suc, Bool, false, ◌&&◌, ◌||◌, cond, List, [], ◌∷◌, length, Contains, Option, Some, None, option_and_then, option_map, filter, slice_get, refl, sym, ap, subst, ◌∙◌}
use Rattle.std.specs.List.{list_any}
use Rattle.std.proofs.lemmas.Bool.{or_parts}
use Rattle.kp_lemmas.proofs.Members.{none_passes}
use Rattle.kp_lemmas.proofs.Options.{from_and_then, from_option_map}
use Rattle.kp_base.specs.Net.{AddressParts, same_address}
use Rattle.kp_base.specs.declared.key.Endpoint.{Endpoint}
use Rattle.kp_base.specs.declared.key.PortKey.{PortKey}
use Rattle.kp_types.specs.Setting.{FamilyConfig, Setting}
use Rattle.kp_types.specs.declared.decision.Decision.{Decision}
use Rattle.kp_types.specs.declared.decision.Reason.TheVariants as reason
use Rattle.kp_types.specs.declared.packet.Packet.{Packet}
use Rattle.kp_types.specs.declared.verdict.Verdict.TheVariants.{LeftAlone}
use Rattle.kp_choice_defs.specs.Recent.{RecentParts, is_live, is_of, is_within, reaped, shard_of, sightings}
use Rattle.kp_object_defs.specs.PortInfo.{PortInfo}
use Rattle.kp_door_defs.specs.Choice.{Chosen, chosen_endpoint, drawn, drawn_as, drawn_at, found_or, live_endpoint, recent_name, remembered}
use Rattle.kp_door_defs.specs.Decision.{Translation, by_filter, choice_at, decision_by, refused_by, sent_to, translation_at, translation_of}
use Rattle.kp_door_defs.specs.Doors.{Door, Offer, offer_of, taking_door}
use Rattle.kp_door_defs.specs.Filter.{DropsClosed, DropsNoLocal, Line, Refusal, Rejects, filtered}
use Rattle.kp_door_defs.specs.Marks.{is_masqueraded}
use Rattle.kp_decide.specs.Told.{choice_of, passed_by, told, translation_told}
use Rattle.kp_decide.specs.declared.choice.Choice.{Choice}
use Rattle.kp_decide.specs.declared.translation.Translation as telling
use Rattle.kp_decide.proofs.Affinity.{live_still}
use Rattle.kp_change_laws.proofs.Chosen.{chosen_in}
use Rattle.kp_path_defs.specs.Sources.{asked_from}
use Rattle.kp_path_laws.proofs.Served.{filtered_alike, leaves_alike, marked_alike, offer_alike, taking_alike, taking_fits}
use Rattle.kp_path_laws.proofs.SourceKinds.{IsAlike, from_kind}
use Rattle.kp_path_laws.specs.SourceLaws.{DecidedAlike, IsNoEndpoint, IsUnseen, asked_of, offered_by}

-- ---- Choices for a source that no list has

none_kept : {X : Type 0} (p w : X → Bool) (xs : List X) → list_any p xs ≡ false
    → list_any w (filter p xs) ≡ false
none_kept p w [] h = refl
none_kept p w (x ∷ xs) h =
    let parts = or_parts (p x) (list_any p xs) h in
    ap (λ b. list_any w (cond b (x ∷ filter p xs) (filter p xs))) parts.0 ∙ none_kept p w xs parts.1

module _ (source : AddressParts) (now : ℕ) where
  module _ (name : Endpoint → List ℕ) (seconds : ℕ) where
    none_found : (place : ℕ) (es : List Endpoint) (lists : RecentParts)
        → ((n : List ℕ) → is_live lists n source now seconds ≡ false)
        → (live_endpoint name source now seconds place es lists).found ≡ None
    none_found place [] lists h = refl
    none_found place (e ∷ es) lists h =
        let after = reaped lists (name e) source now seconds in
        ap (λ b. (cond b (record { found = Some (e, place); lists = after })
        (live_endpoint name source now seconds (suc place) es after)).found) (h (name e))
        ∙ none_found (suc place) es after
        (λ n. live_still lists (name e) n source now seconds ∙ h n)

  told_remembered : (name : Endpoint → List ℕ) (c : Option Chosen)
      → option_map choice_of (remembered name source now c) ≡ option_map choice_of c
  told_remembered name None = refl
  told_remembered name (Some c) = refl

  told_drawn : (es : List Endpoint) (place : ℕ) (lists other : RecentParts)
      → option_map choice_of (drawn_at es place lists)
      ≡ option_map choice_of (drawn_at es place other)
  told_drawn es place lists other = by (slice_get es place)
    where
      by : (o : Option Endpoint) → option_map choice_of (option_map (drawn_as place lists) o)
          ≡ option_map choice_of (option_map (drawn_as place other) o)
      by None = refl
      by (Some e) = refl

  -- its choice is by draws
  choice_unseen : (setting : Setting) (port : PortKey) (affinity : Option ℕ) (draws : ℕ → ℕ)
      (es : List Endpoint) (lists : RecentParts) → IsUnseen lists source
      → option_map choice_of (chosen_endpoint setting port affinity source now draws es lists)
      ≡ option_map choice_of (drawn setting draws es lists)
  choice_unseen setting port None draws es lists unseen = refl
  choice_unseen setting port (Some seconds) draws es lists unseen =
      let name = recent_name setting port in
      let look = live_endpoint name source now seconds 0 es lists in
      ap (λ f. option_map choice_of
      (remembered name source now (found_or setting draws es look.lists f)))
      (none_found name seconds 0 es lists
      (λ n. none_kept (is_of source) (is_within now seconds)
      (sightings lists (shard_of n source)) (unseen n)))
      ∙ told_remembered name (drawn setting draws es look.lists)
      ∙ told_drawn es (setting.pick draws (length es)) look.lists lists

-- ---- What is told of a decision

told_at : (d : Door) (o : Offer) (c : Option Chosen)
    → option_map translation_told (option_map (λ x. record { door = d; offer = o; chosen = x }) c)
    ≡ option_map (λ (x : Choice). record { door = d; offer = o; choice = x })
    (option_map choice_of c)
told_at d o None = refl
told_at d o (Some c) = refl

module _ (config : FamilyConfig) (infos : List PortInfo) (lists : RecentParts) where
  abbrev lone : Decision
  lone = record { verdict = LeftAlone; reason = reason.NoDoor }

  abbrev by_line : Option Line → Decision → Decision
  by_line (Some line) passed = told (refused_by line.refusal line.door lists)
  by_line None passed = passed

  abbrev told_by : Packet → Option telling.Translation → Decision
  told_by packet None = by_line (filtered config infos packet) lone
  told_by packet (Some t) =
      by_line (filtered config infos (sent_to packet t.choice.endpoint))
      (passed_by t (is_masqueraded config t.door.kind t.door.info packet t.choice.endpoint))

  told_refused : (r : Refusal) (d : Door) (left : RecentParts) → told (refused_by r d left)
      ≡ told (refused_by r d lists)
  told_refused Rejects d left = refl
  told_refused DropsClosed d left = refl
  told_refused DropsNoLocal d left = refl

  -- it is what is told of the translation
  told_decision : (packet : Packet) (t : Option Translation)
      → told (decision_by config infos packet lists t)
      ≡ told_by packet (option_map translation_told t)
  told_decision packet None = by (filtered config infos packet)
    where
      by : (o : Option Line) → told (by_filter config packet None lists o) ≡ by_line o lone
      by None = refl
      by (Some line) = told_refused line.refusal line.door lists
  told_decision packet (Some t) = by (filtered config infos (sent_to packet t.chosen.endpoint))
    where
      by : (o : Option Line) → told (by_filter config packet (Some t) t.chosen.lists o)
          ≡ by_line o (passed_by (translation_told t)
          (is_masqueraded config t.door.kind t.door.info packet t.chosen.endpoint))
      by None = refl
      by (Some line) = told_refused line.refusal line.door t.chosen.lists

-- ---- Two addresses of one kind

module _ (setting : Setting) (infos : List PortInfo) (packet : Packet) (draws : ℕ → ℕ)
    (lists : RecentParts) (a b : AddressParts)
    (alike : IsAlike setting.config (asked_of setting.config infos packet) a b)
    (unseen_a : IsUnseen lists a) (unseen_b : IsUnseen lists b)
    (other_a : IsNoEndpoint setting.config infos (asked_from setting.config packet a))
    (other_b : IsNoEndpoint setting.config infos (asked_from setting.config packet b)) where
  abbrev from_a : Packet
  from_a = asked_from setting.config packet a

  abbrev from_b : Packet
  from_b = asked_from setting.config packet b

  abbrev taking : Option Door
  taking = taking_door setting.config infos from_a

  abbrev told_from : Packet → Option Door → Option telling.Translation
  told_from p taken = option_map translation_told
      (option_and_then (translation_at setting p draws lists) taken)

  translations_at : (taken : Option Door) → taking ≡ taken → told_from from_a taken
      ≡ told_from from_b taken
  translations_at None e = refl
  translations_at (Some d) e =
      let of_a = offer_of setting.config from_a d in
      let of_b = offer_of setting.config from_b d in
      let same : of_a ≡ of_b = offer_alike setting.config infos packet a b alike d
      (taking_fits setting.config infos packet a b alike d e) in
      let choices : option_map choice_of (choice_at setting from_a draws lists d)
      ≡ option_map choice_of (choice_at setting from_b draws lists d) =
      choice_unseen a packet.now setting d.info.key d.info.affinity draws of_a.endpoints lists
      unseen_a
      ∙ ap (λ (o : Offer). option_map choice_of (drawn setting draws o.endpoints lists)) same
      ∙ sym (choice_unseen b packet.now setting d.info.key d.info.affinity draws of_b.endpoints
      lists unseen_b) in
      told_at d of_a (choice_at setting from_a draws lists d)
      ∙ (λ i. option_map (λ (x : Choice). record { door = d; offer = same i; choice = x })
      (choices i))
      ∙ sym (told_at d of_b (choice_at setting from_b draws lists d))

  translations : told_from from_a taking
      ≡ told_from from_b (taking_door setting.config infos from_b)
  translations = translations_at taking refl
      ∙ ap (told_from from_b) (taking_alike setting.config infos packet a b alike)

  marked : (t : telling.Translation) → same_address t.choice.endpoint.address a ≡ false
      → same_address t.choice.endpoint.address b ≡ false
      → is_masqueraded setting.config t.door.kind t.door.info from_a t.choice.endpoint
      ≡ is_masqueraded setting.config t.door.kind t.door.info from_b t.choice.endpoint
  marked t no_a no_b =
      λ i. ((no_a ∙ sym no_b) i
      || marked_alike setting.config a b alike.cluster alike.own t.door.kind t.door.info i)
      && leaves_alike setting.config infos packet a b alike t.choice.endpoint.address i

  -- the chosen endpoint has neither address
  others : (t : Translation) → translation_of setting infos from_a draws lists ≡ Some t
      → (same_address t.chosen.endpoint.address a ≡ false)
      × (same_address t.chosen.endpoint.address b ≡ false)
  others t h =
      let (d, takes, at) = from_and_then (translation_at setting from_a draws lists) taking t h in
      let (c, choice, is) = from_option_map
      (λ (c : Chosen). record
      { door = d; offer = offer_of setting.config from_a d; chosen = c })
      (choice_at setting from_a draws lists d) t at in
      let of_a = offer_of setting.config from_a d in
      let of_b = offer_of setting.config from_b d in
      let same : of_a ≡ of_b = offer_alike setting.config infos packet a b alike d
      (taking_fits setting.config infos packet a b alike d takes) in
      let mine = chosen_in setting d.info.key a packet.now draws of_a.endpoints d.info.affinity
      lists c choice in
      let none_a : list_any (λ (e : Endpoint). same_address e.address a) of_a.endpoints ≡ false =
      ap (λ o. list_any (λ (e : Endpoint). same_address e.address a)
      (offered_by setting.config from_a o)) (sym takes) ∙ other_a in
      let none_b : list_any (λ (e : Endpoint). same_address e.address b) of_b.endpoints ≡ false =
      ap (λ o. list_any (λ (e : Endpoint). same_address e.address b)
      (offered_by setting.config from_b o))
      (sym takes ∙ taking_alike setting.config infos packet a b alike) ∙ other_b in
      subst (λ (x : Translation). (same_address x.chosen.endpoint.address a ≡ false)
      × (same_address x.chosen.endpoint.address b ≡ false)) is (
        none_passes (λ (e : Endpoint). same_address e.address a) c.endpoint of_a.endpoints none_a
            mine,
        none_passes (λ (e : Endpoint). same_address e.address b) c.endpoint of_b.endpoints none_b
            (subst (λ (o : Offer). Contains o.endpoints c.endpoint) same mine),
      )

  told_alike : (t : Option Translation) → translation_of setting infos from_a draws lists ≡ t
      → told_by setting.config infos lists from_a (option_map translation_told t)
      ≡ told_by setting.config infos lists from_b (option_map translation_told t)
  told_alike None h = ap (λ o. by_line setting.config infos lists o
      (lone setting.config infos lists))
      (filtered_alike setting.config a b alike.cluster alike.own infos packet)
  told_alike (Some t) h =
      let (no_a, no_b) = others t h in
      λ i. by_line setting.config infos lists
      (filtered_alike setting.config a b alike.cluster alike.own infos
      (sent_to packet t.chosen.endpoint) i)
      (passed_by (translation_told t) (marked (translation_told t) no_a no_b i))

  same_told : told (decision_by setting.config infos from_a lists
      (translation_of setting infos from_a draws lists))
      ≡ told (decision_by setting.config infos from_b lists
      (translation_of setting infos from_b draws lists))
  same_told =
      told_decision setting.config infos lists from_a
      (translation_of setting infos from_a draws lists)
      ∙ told_alike (translation_of setting infos from_a draws lists) refl
      ∙ ap (told_by setting.config infos lists from_b) translations
      ∙ sym (told_decision setting.config infos lists from_b
      (translation_of setting infos from_b draws lists))

pub decided_alike : DecidedAlike
decided_alike setting infos packet draws lists a b kind unseen_a unseen_b other_a other_b =
    same_told setting infos packet draws lists a b
    (from_kind setting.config (asked_of setting.config infos packet) a b kind) unseen_a unseen_b
    other_a other_b
