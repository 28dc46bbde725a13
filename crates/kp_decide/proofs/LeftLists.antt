-- The recent lists that a decision leaves, by the endpoints that were looked at.
use Rattle.std.proofs.Common.{◌≡◌, ℕ, ◌||◌, Bool, true, false, cond, List, [], slice_get, length, Option, Some, None, option_map, option_and_then, refl, sym, ap, ◌∙◌}
use Rattle.std.proofs.lemmas.Option.{same_Some}
use Rattle.kp_base.specs.Net.{AddressParts, is_local_address}
use Rattle.kp_base.specs.declared.key.Endpoint.{Endpoint}
use Rattle.kp_base.specs.declared.key.PortKey.{PortKey}
use Rattle.kp_types.specs.Setting.{FamilyConfig, Setting}
use Rattle.kp_types.specs.declared.packet.Packet.{Packet}
use Rattle.kp_types.specs.declared.decision.DoorKind.{DoorKind}
use Rattle.kp_types.specs.declared.decision.DoorKind.TheVariants as door
use Rattle.kp_types.specs.declared.service.Policy.{Policy}
use Rattle.kp_types.specs.declared.service.Policy.TheVariants.{Cluster, Local}
use Rattle.kp_choice_defs.specs.Recent.{RecentParts}
use Rattle.kp_object_defs.specs.PortInfo.{PortInfo}
use Rattle.kp_door_defs.specs.Choice.{Chosen, chosen_endpoint, drawn_as, drawn_at, found_or, live_endpoint, recent_name, remembered}
use Rattle.kp_door_defs.specs.Decision.{Translation, by_filter, choice_at, decision_from, lists_after, passed, refused_by, translated, translation_at, translation_of}
use Rattle.kp_door_defs.specs.Doors.{Door, Offer, is_admitted, is_in_cluster, offer_by_policy, offer_if, offer_of, offered, outer_offer, taking_door}
use Rattle.kp_door_defs.specs.Filter.{Line, Refusal, Rejects, DropsClosed, DropsNoLocal, filtered}
use Rattle.kp_decide.specs.Looked.{IsOf, looked, looked_among, looked_at, set_if}
use Rattle.kp_decide.specs.Told.{translation_told}
use Rattle.kp_decide.specs.declared.translation.Translation as told_of
use Rattle.kp_decide.proofs.Cases.{of_none, of_translation}

-- ---- offers are lists of their port

of_policy : (i : PortInfo) (p : Policy) → IsOf i (offer_by_policy i p)
of_policy i Cluster place e at = at
of_policy i Local place e at = at

module _ (config : FamilyConfig) (i : PortInfo) (source : AddressParts) where
  of_outer : (p : Policy) → IsOf i (outer_offer config i p source)
  of_outer Cluster = of_policy i Cluster
  of_outer Local = by (is_in_cluster config source || is_local_address config.addresses source)
    where
      by : (b : Bool) → IsOf i (cond b (offer_by_policy i Cluster) (offer_by_policy i Local))
      by true = of_policy i Cluster
      by false = of_policy i Local

  of_admitted : (o : Offer) → IsOf i o → (b : Bool) → IsOf i (offer_if b o)
  of_admitted o h true = h
  of_admitted o h false = λ place e at. absurd (cc)

  pub of_offered : (kind : DoorKind) → IsOf i (offered config kind i source)
  of_offered door.Cluster = of_policy i i.internal
  of_offered door.External = of_outer i.outer
  of_offered door.Balancer = of_admitted (outer_offer config i i.outer source) (of_outer i.outer) (is_admitted i.ranges source)
  of_offered door.Node = of_outer i.outer

-- ---- what a choice leaves

drawn_lists : (es : List Endpoint) (place : ℕ) (lists : RecentParts) (c : Chosen) → drawn_at es place lists ≡ Some c → c.lists ≡ lists
drawn_lists es place lists c is = by (slice_get es place) is
  where
    by : (o : Option Endpoint) → option_map (drawn_as place lists) o ≡ Some c → c.lists ≡ lists
    by None h = absurd (cc)
    by (Some e) h = sym (ap (λ (d : Chosen). d.lists) (same_Some (drawn_as place lists e) c h))

module _ (setting : Setting) (port : PortKey) (source : AddressParts) (now : ℕ) (draws : ℕ → ℕ) (es : List Endpoint) (lists : RecentParts) where
  abbrev name : Endpoint → List ℕ
  name = recent_name setting port

  found_lists : (left : RecentParts) (o : Option (Endpoint × ℕ)) (c : Chosen) → found_or setting draws es left o ≡ Some c → c.lists ≡ left
  found_lists left None c h = drawn_lists es (setting.pick draws (length es)) left c h
  found_lists left (Some p) c h = sym (ap (λ (o : Option Chosen). lists_or left o) h)
    where
      lists_or : RecentParts → Option Chosen → RecentParts
      lists_or l None = l
      lists_or l (Some d) = d.lists

  set_lists : (left : RecentParts) (x : Option Chosen) (c : Chosen) → ((d : Chosen) → x ≡ Some d → d.lists ≡ left) → remembered (recent_name setting port) source now x ≡ Some c → c.lists ≡ set_if (Some 0) (recent_name setting port c.endpoint) source now left
  set_lists left None c same h = absurd (cc)
  set_lists left (Some d) c same h =
      let is = same_Some _ c h in
      sym (ap (λ (x : Chosen). x.lists) is)
      ∙ (λ j. set_if (Some 0) (recent_name setting port (is j).endpoint) source now (same d refl j))

  pub chosen_lists : (affinity : Option ℕ) (c : Chosen) → chosen_endpoint setting port affinity source now draws es lists ≡ Some c → c.lists ≡ set_if affinity (recent_name setting port c.endpoint) source now (looked (recent_name setting port) affinity source now es lists)
  chosen_lists None c h = drawn_lists es (setting.pick draws (length es)) lists c h
  chosen_lists (Some seconds) c h =
      let look = live_endpoint (recent_name setting port) source now seconds 0 es lists in
      set_lists look.lists (found_or setting draws es look.lists look.found) c (found_lists look.lists look.found) h

-- nothing is looked at where there is no endpoint
pub none_looked : (name : Endpoint → List ℕ) (affinity : Option ℕ) (source : AddressParts) (now : ℕ) (es : List Endpoint) (lists : RecentParts) → es ≡ [] → looked name affinity source now es lists ≡ lists
none_looked name affinity source now es lists none = ap (λ xs. looked name affinity source now xs lists) none ∙ by affinity
  where
    by : (a : Option ℕ) → looked name a source now [] lists ≡ lists
    by None = refl
    by (Some seconds) = refl

-- ---- what a decision leaves

module _ (setting : Setting) (packet : Packet) (draws : ℕ → ℕ) (lists : RecentParts) where
  -- the lists once a translation's source is set
  abbrev pub set_after : Translation → RecentParts → RecentParts
  set_after t left =
      set_if t.door.info.affinity (recent_name setting t.door.info.key t.chosen.endpoint) packet.source packet.now left

  at_choice : (d : Door) (t : Translation) (o : Option Chosen) → choice_at setting packet draws lists d ≡ o → option_map (λ c. record { door = d; offer = offer_of setting.config packet d; chosen = c }) o ≡ Some t → t.chosen.lists ≡ set_after t (looked_at setting packet lists (Some d))
  at_choice d t None is h = absurd (cc)
  at_choice d t (Some c) is h =
      let same = same_Some _ t h in
      sym (ap (λ (u : Translation). u.chosen.lists) same)
      ∙ chosen_lists setting d.info.key packet.source packet.now draws (offer_of setting.config packet d).endpoints lists d.info.affinity c is
      ∙ ap (λ (u : Translation). set_after u (looked_at setting packet lists (Some d))) same

  at_taking : (t : Translation) (o : Option Door) → option_and_then (translation_at setting packet draws lists) o ≡ Some t → t.chosen.lists ≡ set_after t (looked_at setting packet lists o)
  at_taking t None h = absurd (cc)
  at_taking t (Some d) h = at_choice d t (choice_at setting packet draws lists d) refl h

  pub translated_lists : (infos : List PortInfo) (t : Translation) → translation_of setting infos packet draws lists ≡ Some t → t.chosen.lists ≡ set_after t (looked_among setting infos packet lists)
  translated_lists infos t h = at_taking t (taking_door setting.config infos packet) h

refused_lists : (r : Refusal) (d : Door) (lists : RecentParts) → (refused_by r d lists).lists ≡ lists
refused_lists Rejects d lists = refl
refused_lists DropsClosed d lists = refl
refused_lists DropsNoLocal d lists = refl

passed_lists : (config : FamilyConfig) (packet : Packet) (t : Option Translation) (lists : RecentParts) → (passed config packet t lists).lists ≡ lists
passed_lists config packet None lists = refl
passed_lists config packet (Some t) lists = refl

-- the filter changes no lists
pub filter_lists : (config : FamilyConfig) (packet : Packet) (t : Option Translation) (lists : RecentParts) (line : Option Line) → (by_filter config packet t lists line).lists ≡ lists
filter_lists config packet t lists None = passed_lists config packet t lists
filter_lists config packet t lists (Some line) = refused_lists line.refusal line.door lists

module _ (setting : Setting) (infos : List PortInfo) (packet : Packet) (draws : ℕ → ℕ) (before : RecentParts) where
  abbrev decided_lists : RecentParts
  decided_lists = (decision_from setting infos packet draws before).lists

  -- the lists by the translation
  by_translation : (t : Option Translation) → translation_of setting infos packet draws before ≡ t → lists_after t before ≡ decided_lists
  by_translation t is =
      ap (λ u. lists_after u before) (sym is)
      ∙ sym (filter_lists setting.config packet (translation_of setting infos packet draws before) (lists_after (translation_of setting infos packet draws before) before) (filtered setting.config infos (translated packet (translation_of setting infos packet draws before))))

  -- the lists were looked at, and then the source was set
  all_left : (changes : Bool) (now after : RecentParts) (t : Translation) → translation_of setting infos packet draws before ≡ Some t → now ≡ cond changes (looked_among setting infos packet before) before → after ≡ cond changes (set_after setting packet draws before t now) now → after ≡ cond changes (decision_from setting infos packet draws before).lists before
  all_left true now after t is looks sets =
      sets ∙ ap (set_after setting packet draws before t) looks
      ∙ sym (translated_lists setting packet draws before infos t is)
      ∙ by_translation (Some t) is
  all_left false now after t is looks sets = sets ∙ looks

  -- nothing was looked at
  none_left_over : (changes : Bool) → translation_of setting infos packet draws before ≡ None → before ≡ cond changes (decision_from setting infos packet draws before).lists before
  none_left_over true is = by_translation None is
  none_left_over false is = refl

  -- what is told of the translation tells what was set
  pub left_told : (changes : Bool) (now after : RecentParts) (shown : told_of.Translation) → Some shown ≡ option_map translation_told (translation_of setting infos packet draws before) → now ≡ cond changes (looked_among setting infos packet before) before → after ≡ cond changes (set_if shown.door.info.affinity (recent_name setting shown.door.info.key shown.choice.endpoint) packet.source packet.now now) now → after ≡ cond changes (decision_from setting infos packet draws before).lists before
  left_told changes now after shown is looks sets =
      of_translation (λ o. translation_of setting infos packet draws before ≡ o → after ≡ cond changes (decision_from setting infos packet draws before).lists before)
      (translation_of setting infos packet draws before) shown is
      (λ t same at. all_left changes now after t at looks (sets ∙ ap (λ (u : told_of.Translation). cond changes (set_if u.door.info.affinity (recent_name setting u.door.info.key u.choice.endpoint) packet.source packet.now now) now) same))
      refl

  -- nothing is told of a translation
  pub left_untold : (changes : Bool) → None ≡ option_map translation_told (translation_of setting infos packet draws before) → before ≡ cond changes (decision_from setting infos packet draws before).lists before
  left_untold changes is =
      of_none (λ o. translation_of setting infos packet draws before ≡ o → before ≡ cond changes (decision_from setting infos packet draws before).lists before)
      (translation_of setting infos packet draws before) is (none_left_over changes) refl
