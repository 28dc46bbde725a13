-- The decision with a translation, without one, and by ports that are enough.
use Rattle.std.proofs.Common.{◌≡◌, ℕ, Bool, List, cond, Option, Some, None, option_map, option_and_then, refl, sym, ap, ◌∙◌}
use Rattle.std.proofs.lemmas.Option.{same_Some}
use Rattle.kp_base.specs.declared.address.Family.{Family}
use Rattle.kp_base.specs.declared.config.Config.{Config}
use Rattle.kp_types.specs.Setting.{Pick, Setting, config_for}
use Rattle.kp_types.specs.declared.packet.Packet.{Packet}
use Rattle.kp_object_defs.specs.PortInfo.{PortInfo}
use Rattle.kp_choice_defs.specs.Recent.{RecentParts}
use Rattle.kp_choice_defs.specs.Settings.{setting_of}
use Rattle.kp_door_defs.specs.Decision as definition
use Rattle.kp_door_defs.specs.Decision.{translation_at, translation_of}
use Rattle.kp_door_defs.specs.Choice.{Chosen, chosen_endpoint}
use Rattle.kp_door_defs.specs.Doors.{Door, Offer}
use Rattle.kp_decide.specs.Enough.{AreEnough}
use Rattle.kp_decide.specs.Looked.{looked_among, looked_at}
use Rattle.kp_decide.specs.Picks.{with_pick}
use Rattle.kp_decide.specs.Told.{choice_of, translation_told}
use Rattle.kp_decide.specs.declared.choice.Choice.{Choice}
use Rattle.kp_decide.specs.declared.translation.Translation.{Translation}

-- a translation at a door that makes this offer
abbrev pub translated_by : Door → Offer → Choice → Translation
translated_by d o c = record { door = d; offer = o; choice = c }

-- what is told of the translation by a choice is made of what is told of the choice
told_at : (d : Door) (o : Offer) (c : Option Chosen) → option_map translation_told (option_map (λ x. record { door = d; offer = o; chosen = x }) c) ≡ option_map (translated_by d o) (option_map choice_of c)
told_at d o None = refl
told_at d o (Some c) = refl

-- the translation by an offer and a choice that are told
pub told_translation : (d : Door) (made offer : Offer) (choice : Choice) (c : Option Chosen) → made ≡ offer → Some choice ≡ option_map choice_of c → Some (translated_by d made choice) ≡ option_map translation_told (option_map (λ x. record { door = d; offer = offer; chosen = x }) c)
told_translation d made offer choice c same is =
    ap (λ o. Some (translated_by d o choice)) same
    ∙ ap (option_map (translated_by d offer)) is
    ∙ sym (told_at d offer c)

-- and none by no choice
pub told_none : (d : Door) (offer : Offer) (c : Option Chosen) → None ≡ option_map choice_of c
    → None ≡ option_map translation_told
    (option_map (λ x. record { door = d; offer = offer; chosen = x }) c)
told_none d offer c is = ap (option_map (translated_by d offer)) is ∙ sym (told_at d offer c)

-- the same door with the same offer chooses alike
pub same_choice : (setting : Setting) (packet : Packet) (draws : ℕ → ℕ) (lists : RecentParts) {seen d : Door} {made offer : Offer} → seen ≡ d → made ≡ offer → option_map choice_of (chosen_endpoint setting seen.info.key seen.info.affinity packet.source packet.now draws made.endpoints lists) ≡ option_map choice_of (chosen_endpoint setting d.info.key d.info.affinity packet.source packet.now draws offer.endpoints lists)
same_choice setting packet draws lists door_is offer_is =
    λ i. option_map choice_of (chosen_endpoint setting (door_is i).info.key (door_is i).info.affinity packet.source packet.now draws (offer_is i).endpoints lists)

-- ports that are enough translate alike
pub same_translation : (setting : Setting) (packet : Packet) (draws : ℕ → ℕ) (lists : RecentParts) (some all : List PortInfo) → AreEnough setting.config packet some all → translation_of setting some packet draws lists ≡ translation_of setting all packet draws lists
same_translation setting packet draws lists some all h =
    ap (option_and_then (translation_at setting packet draws lists)) h.door

-- what is told of a translation is told of the one that there is
pub of_translation : (P : Option definition.Translation → Type 0) (t : Option definition.Translation) (shown : Translation) → Some shown ≡ option_map translation_told t → ((u : definition.Translation) → shown ≡ translation_told u → P (Some u)) → P t
of_translation P None shown h k = absurd (cc)
of_translation P (Some u) shown h k = k u (same_Some shown (translation_told u) h)

-- no translation is told of none
pub of_none : (P : Option definition.Translation → Type 0) (t : Option definition.Translation) → None ≡ option_map translation_told t → P None → P t
of_none P None h k = k
of_none P (Some u) h k = absurd (cc)

-- ports that are enough, under the configuration that was handed out
module _ (family : Family) (packet : Packet) (before : RecentParts) {used config : Config} {some all : List PortInfo} (same : used ≡ config) (enough : AreEnough (config_for family config) packet some all) where
  -- the same is told of the translation
  pub enough_told : (pick : Pick) (draws : ℕ → ℕ) → option_map translation_told (translation_of (with_pick pick (setting_of family used)) some packet draws before) ≡ option_map translation_told (translation_of (with_pick pick (setting_of family config)) all packet draws before)
  enough_told pick draws =
      (λ j. option_map translation_told (translation_of (with_pick pick (setting_of family (same j))) some packet draws before))
      ∙ ap (option_map translation_told) (same_translation (with_pick pick (setting_of family config)) packet draws before some all enough)

  -- the same is looked at
  pub enough_looked : (changes : Bool) → cond changes (looked_among (setting_of family used) some packet before) before ≡ cond changes (looked_among (setting_of family config) all packet before) before
  enough_looked changes =
      (λ j. cond changes (looked_among (setting_of family (same j)) some packet before) before)
      ∙ ap (λ d. cond changes (looked_at (setting_of family config) packet before d) before) enough.door
