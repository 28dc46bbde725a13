-- A decision by what is known of ports looks at the part of its packet's source alone, and changes
-- that part alone.
use Rattle.std.proofs.Common.{◌≡◌, ℕ, suc, Bool, true, false, cond, List, [], ◌∷◌, Option, Some}
use Rattle.std.proofs.Common.{None, option_map, option_and_then, slice_get, length, refl, sym, ap}
use Rattle.std.proofs.Common.{◌∙◌}
use Rattle.kp_base.specs.Net.{AddressParts}
use Rattle.kp_base.specs.declared.address.Family.{Family}
use Rattle.kp_base.specs.declared.key.Endpoint.{Endpoint}
use Rattle.kp_base.specs.declared.key.PortKey.{PortKey}
use Rattle.kp_types.specs.Packets.{family_of_packet}
use Rattle.kp_types.specs.Setting.{FamilyConfig, Setting, Settings, has_tables_of, view_of}
use Rattle.kp_types.specs.declared.packet.Packet.{Packet}
use Rattle.kp_object_defs.specs.PortInfo.{PortInfo}
use Rattle.kp_choice_defs.specs.Recent.{RecentParts, is_live, reaped}
use Rattle.kp_door_defs.specs.Choice.{Chosen, Look, chosen_endpoint, drawn_as, found_or}
use Rattle.kp_door_defs.specs.Choice.{live_endpoint, recent_name, remembered, found_or_drawn}
use Rattle.kp_door_defs.specs.Decision.{Translation, by_filter, choice_at, decision_among}
use Rattle.kp_door_defs.specs.Decision.{decision_by, decision_if, refused_by, translated}
use Rattle.kp_door_defs.specs.Decision.{translation_at}
use Rattle.kp_door_defs.specs.Doors.{Door, offer_of, taking_door}
use Rattle.kp_door_defs.specs.Filter.{Line, Refusal, Rejects, DropsClosed, DropsNoLocal, filtered}
use Rattle.kp_part_laws.specs.Unseen.{IsUnseen, decided_with}

module _ (source : AddressParts) (change : RecentParts → RecentParts)
    (unseen : IsUnseen source change) where
  -- ---- The choice

  abbrev changed_chosen : Chosen → Chosen
  changed_chosen c = record c { lists = change c.lists }

  abbrev changed_look : Look → Look
  changed_look l = record { found = l.found; lists = change l.lists }

  drawn_same : (place : ℕ) (lists : RecentParts) (o : Option Endpoint)
      → option_map (drawn_as place (change lists)) o ≡ option_map changed_chosen
      (option_map (drawn_as place lists) o)
  drawn_same place lists None = refl
  drawn_same place lists (Some e) = refl

  either_look : (b : Bool) (x y : Look)
      → cond b (changed_look x) (changed_look y) ≡ changed_look (cond b x y)
  either_look true x y = refl
  either_look false x y = refl

  look_same : (name : Endpoint → List ℕ) (now seconds place : ℕ) (es : List Endpoint)
      (lists : RecentParts)
      → live_endpoint name source now seconds place es (change lists)
      ≡ changed_look (live_endpoint name source now seconds place es lists)
  look_same name now seconds place [] lists = refl
  look_same name now seconds place (e ∷ es) lists =
      (λ i. cond (unseen.live lists (name e) now seconds i)
      (record { found = Some (e, place); lists = unseen.reaps lists (name e) now seconds i })
      (live_endpoint name source now seconds (suc place) es
      (unseen.reaps lists (name e) now seconds i)))
      ∙ ap (cond (is_live lists (name e) source now seconds)
      (record {
        found = Some (e, place);
        lists = change
            (reaped lists (name e) source now seconds);
      }))
      (look_same name now seconds (suc place) es (reaped lists (name e) source now seconds))
      ∙ either_look (is_live lists (name e) source now seconds) _ _

  found_same : (setting : Setting) (draws : ℕ → ℕ) (es : List Endpoint) (lists : RecentParts)
      (found : Option (Endpoint × ℕ))
      → found_or setting draws es (change lists) found ≡ option_map changed_chosen
      (found_or setting draws es lists found)
  found_same setting draws es lists None =
      drawn_same (setting.pick draws (length es)) lists
      (slice_get es (setting.pick draws (length es)))
  found_same setting draws es lists (Some p) = refl

  remembered_same : (name : Endpoint → List ℕ) (now : ℕ) (c : Option Chosen)
      → remembered name source now (option_map changed_chosen c) ≡ option_map changed_chosen
      (remembered name source now c)
  remembered_same name now None = refl
  remembered_same name now (Some c) =
      λ i. Some (record c { lists = unseen.sets c.lists (name c.endpoint) now i })

  chosen_same : (setting : Setting) (port : PortKey) (affinity : Option ℕ) (now : ℕ) (draws : ℕ → ℕ)
      (es : List Endpoint) (lists : RecentParts)
      → chosen_endpoint setting port affinity source now draws es (change lists)
      ≡ option_map changed_chosen (chosen_endpoint setting port affinity source now draws es lists)
  chosen_same setting port None now draws es lists =
      drawn_same (setting.pick draws (length es)) lists
      (slice_get es (setting.pick draws (length es)))
  chosen_same setting port (Some seconds) now draws es lists =
      let name = recent_name setting port in
      let look = live_endpoint name source now seconds 0 es lists in
      ap (λ l. remembered name source now (found_or_drawn setting draws es l))
      (look_same name now seconds 0 es lists)
      ∙ ap (remembered name source now) (found_same setting draws es look.lists look.found)
      ∙ remembered_same name now (found_or_drawn setting draws es look)

  -- ---- The decision

  refused_same : (r : Refusal) (d : Door) (lists : RecentParts)
      → refused_by r d (change lists) ≡ decided_with change (refused_by r d lists)
  refused_same Rejects d lists = refl
  refused_same DropsClosed d lists = refl
  refused_same DropsNoLocal d lists = refl

  abbrev changed_translation : Translation → Translation
  changed_translation t = record t { chosen = changed_chosen t.chosen }

  untranslated_same : (config : FamilyConfig) (packet : Packet) (lists : RecentParts)
      (line : Option Line)
      → by_filter config packet None (change lists) line ≡ decided_with change
      (by_filter config packet None lists line)
  untranslated_same config packet lists None = refl
  untranslated_same config packet lists (Some line) = refused_same line.refusal line.door lists

  translated_same : (config : FamilyConfig) (packet : Packet) (t : Translation) (line : Option Line)
      → by_filter config packet (Some (changed_translation t)) (change t.chosen.lists) line
      ≡ decided_with change (by_filter config packet (Some t) t.chosen.lists line)
  translated_same config packet t None = refl
  translated_same config packet t (Some line) = refused_same line.refusal line.door t.chosen.lists

  by_choice : (setting : Setting) (infos : List PortInfo) (packet : Packet) (lists : RecentParts)
      (d : Door) (c : Option Chosen)
      → decision_by setting.config infos packet (change lists)
      (option_map (λ x. record { door = d; offer = offer_of setting.config packet d; chosen = x })
      (option_map changed_chosen c))
      ≡ decided_with change
      (decision_by setting.config infos packet lists
      (option_map
      (λ x. record { door = d; offer = offer_of setting.config packet d; chosen = x }) c))
  by_choice setting infos packet lists d None =
      untranslated_same setting.config packet lists (filtered setting.config infos packet)
  by_choice setting infos packet lists d (Some c) =
      let t : Translation = record { door = d; offer = offer_of setting.config packet d; chosen = c } in
      translated_same setting.config packet t
      (filtered setting.config infos (translated packet (Some t)))

  by_door : (setting : Setting) (infos : List PortInfo) (packet : Packet) (draws : ℕ → ℕ)
      (lists : RecentParts) → packet.source ≡ source → (o : Option Door)
      → decision_by setting.config infos packet (change lists)
      (option_and_then (translation_at setting packet draws (change lists)) o)
      ≡ decided_with change
      (decision_by setting.config infos packet lists
      (option_and_then (translation_at setting packet draws lists) o))
  by_door setting infos packet draws lists own None =
      untranslated_same setting.config packet lists (filtered setting.config infos packet)
  by_door setting infos packet draws lists own (Some d) =
      ap (λ c. decision_by setting.config infos packet (change lists)
      (option_map
      (λ x. record { door = d; offer = offer_of setting.config packet d; chosen = x }) c))
      ((λ i. chosen_endpoint setting d.info.key d.info.affinity (own i) packet.now draws
      (offer_of setting.config packet d).endpoints (change lists))
      ∙ chosen_same setting d.info.key d.info.affinity packet.now draws
      (offer_of setting.config packet d).endpoints lists
      ∙ (λ i. option_map changed_chosen
      (chosen_endpoint setting d.info.key d.info.affinity (sym own i) packet.now draws
      (offer_of setting.config packet d).endpoints lists)))
      ∙ by_choice setting infos packet lists d (choice_at setting packet draws lists d)

  by_family : (b : Bool) (setting : Setting) (infos : List PortInfo) (packet : Packet)
      (draws : ℕ → ℕ) (lists : RecentParts) → packet.source ≡ source
      → decision_if b setting infos packet draws (change lists)
      ≡ decided_with change (decision_if b setting infos packet draws lists)
  by_family true setting infos packet draws lists own =
      by_door setting infos packet draws lists own (taking_door setting.config infos packet)
  by_family false setting infos packet draws lists own = refl

-- by what is known of the ports of each family
pub decides_among : (change : RecentParts → RecentParts) (settings : Settings)
    (infos : Family → List PortInfo)
    (packet : Packet) (draws : ℕ → ℕ) (lists : RecentParts)
    → IsUnseen packet.source change
    → decision_among settings infos packet draws (change lists)
    ≡ decided_with change (decision_among settings infos packet draws lists)
decides_among change settings infos packet draws lists unseen =
    let family = family_of_packet packet in
    by_family packet.source change unseen (has_tables_of family settings) (view_of family settings)
    (infos family) packet draws lists refl
