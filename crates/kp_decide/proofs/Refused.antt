-- What stands where memory was refused, and what was refused.
use Rattle.std.proofs.Common.{◌≡◌, ℕ, Bool, true, false, cond, List, Some, option_map, is_some, inr, refl, sym, ap, ◌∙◌}
use Rattle.kp_types.specs.Setting.{Setting}
use Rattle.kp_types.specs.declared.packet.Packet.{Packet}
use Rattle.kp_choice_defs.specs.Recent.{RecentParts}
use Rattle.kp_object_defs.specs.PortInfo.{PortInfo}
use Rattle.kp_door_defs.specs.Choice.{recent_name}
use Rattle.kp_door_defs.specs.Decision.{Translation, translation_of}
use Rattle.kp_decide.specs.Looked.{IsLooked, IsNewSource, has_source, looked_among}
use Rattle.kp_decide.specs.Told.{translation_told}
use Rattle.kp_decide.specs.declared.translation.Translation as told_of
use Rattle.kp_decide.proofs.Cases.{of_translation}

-- the lists stand as they were looked at
pub as_looked : (refuses : Bool) (before looked after : RecentParts) → after ≡ looked → IsLooked refuses before looked after
as_looked true before looked after is = inr is
as_looked false before looked after is = is

module _ (setting : Setting) (infos : List PortInfo) (packet : Packet) (draws : ℕ → ℕ) (before : RecentParts) where
  -- the set of a translation's source was refused
  new_at : (changes : Bool) (now : RecentParts) (t : Translation) → translation_of setting infos packet draws before ≡ Some t → now ≡ cond changes (looked_among setting infos packet before) before → changes ≡ true → is_some t.door.info.affinity ≡ true → has_source now (recent_name setting t.door.info.key t.chosen.endpoint) packet.source ≡ false → IsNewSource changes setting infos packet draws before
  new_at true now t is looks changed affinity lacks = record {
    changed = refl;
    translation = t;
    translated = is;
    has_affinity = affinity;
    lacks =
        ap (λ lists. has_source lists (recent_name setting t.door.info.key t.chosen.endpoint) packet.source) (sym looks)
        ∙ lacks;
  }
  new_at false now t is looks changed affinity lacks = absurd (cc)

  -- what is told of the translation tells which
  pub new_told : (changes : Bool) (now : RecentParts) (shown : told_of.Translation) → Some shown ≡ option_map translation_told (translation_of setting infos packet draws before) → now ≡ cond changes (looked_among setting infos packet before) before → changes ≡ true → is_some shown.door.info.affinity ≡ true → has_source now (recent_name setting shown.door.info.key shown.choice.endpoint) packet.source ≡ false → IsNewSource changes setting infos packet draws before
  new_told changes now shown is looks changed affinity lacks =
      of_translation (λ o. translation_of setting infos packet draws before ≡ o → IsNewSource changes setting infos packet draws before)
      (translation_of setting infos packet draws before) shown is
      (λ t same at.
      new_at changes now t at looks changed
      (ap (λ (u : told_of.Translation). is_some u.door.info.affinity) (sym same) ∙ affinity)
      (ap (λ (u : told_of.Translation). has_source now (recent_name setting u.door.info.key u.choice.endpoint) packet.source) (sym same) ∙ lacks))
      refl
