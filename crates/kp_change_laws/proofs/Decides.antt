-- A packet in whose way no door stands that differs is decided as before.
use Rattle.std.proofs.Common.{◌≡◌, ℕ, suc, true, ◌&&◌, ◌||◌, List, length, Contains, Option, Some, None, option_and_then, option_map, refl, ap, ◌∙◌}
use Rattle.std.proofs.lemmas.Bool.{and_parts}
use Rattle.std.proofs.lemmas.List.Elements.{Contains-append_left}
use Rattle.std.proofs.lemmas.Option.{same_Some}
use Rattle.kp_base.specs.Net.{same_address}
use Rattle.kp_types.specs.Setting.{FamilyConfig, Setting}
use Rattle.kp_types.specs.declared.packet.Packet.{Packet}
use Rattle.kp_types.specs.declared.verdict.Verdict.TheVariants.{To, Rejected, Dropped}
use Rattle.kp_types.specs.declared.decision.Reason.TheVariants as reason
use Rattle.kp_choice_defs.specs.Recent.{RecentParts}
use Rattle.kp_object_defs.specs.PortInfo.{PortInfo}
use Rattle.kp_door_defs.specs.Choice.{Chosen, chosen_endpoint}
use Rattle.kp_door_defs.specs.Decision.{Translation, by_filter, choice_at, decision_by, passed, refused_by, sent_to, translation_at}
use Rattle.kp_door_defs.specs.Doors.{Door, doors_of, fits, offer_of, taking_door, takes}
use Rattle.kp_door_defs.specs.Filter.{Line, Refusal, Rejects, DropsClosed, DropsNoLocal, filtered}
use Rattle.kp_door_defs.specs.Marks.{leaves_node}
use Rattle.kp_change_laws.specs.Laws.{AreKnown, DecidesAsBefore, FitsNoChange, IsUntouched}
use Rattle.kp_change_laws.proofs.Chosen.{chosen_in}
use Rattle.kp_change_laws.proofs.DoorKinds.{found}
use Rattle.kp_change_laws.proofs.Filtered.{filtered_same, known_so, same_views}
use Rattle.kp_change_laws.proofs.FirstDoor.{same_taking}
use Rattle.kp_change_laws.proofs.Lines.{refused_of}
use Rattle.kp_change_laws.proofs.Offers.{of_door, sight_of}

-- ---- What a decision goes by

-- a refusal goes by the door's kind and port
refused_alike : (r : Refusal) (d e : Door) (lists : RecentParts) → d.kind ≡ e.kind
    → d.info.key ≡ e.info.key → refused_by r d lists ≡ refused_by r e lists
refused_alike Rejects d e lists kind key =
    λ j. record { verdict = Rejected; reason = reason.NoEndpoints (kind j) (key j); lists = lists }
refused_alike DropsClosed d e lists kind key =
    λ j. record { verdict = Dropped; reason = reason.Closed (kind j) (key j); lists = lists }
refused_alike DropsNoLocal d e lists kind key =
    λ j. record { verdict = Dropped; reason = reason.NoLocal (kind j) (key j); lists = lists }

module _ (config : FamilyConfig) (packet : Packet) where
  -- a decision goes by what the filter says, and else by what passes
  by_lines : (t u : Option Translation) (lists : RecentParts) (l m : Option Line)
      → option_map refused_of l ≡ option_map refused_of m
      → passed config packet t lists ≡ passed config packet u lists
      → by_filter config packet t lists l ≡ by_filter config packet u lists m
  by_lines t u lists None None line pass = pass
  by_lines t u lists None (Some m) line pass = absurd (cc)
  by_lines t u lists (Some l) None line pass = absurd (cc)
  by_lines t u lists (Some l) (Some m) line pass =
      let same = same_Some (refused_of l) (refused_of m) line in
      ap (λ r. refused_by r l.door lists) (ap (λ x. x.0) same)
      ∙ refused_alike m.refusal l.door m.door lists (ap (λ x. x.1.0) same) (ap (λ x. x.1.1) same)

  -- a translation at a door
  abbrev translation : Door → Chosen → Translation
  translation d c = record { door = d; offer = offer_of config packet d; chosen = c }

  -- what passes goes by what the door makes of the packet
  passed_alike : (d e : Door) (c : Chosen) (lists : RecentParts)
      → sight_of config packet d ≡ sight_of config packet e
      → passed config packet (Some (translation d c)) lists
      ≡ passed config packet (Some (translation e c)) lists
  passed_alike d e c lists same =
      λ j. record {
        verdict =
            To c.endpoint ((same_address c.endpoint.address packet.source || (same j).marked)
            && leaves_node config packet c.endpoint.address);
        reason =
            reason.Door (same j).kind (same j).key (same j).offer.kind
            (length (same j).offer.endpoints) c.by (suc c.place);
        lists = lists;
      }

module _ (setting : Setting) (before after : List PortInfo) (packet : Packet) (draws : ℕ → ℕ)
    (lists : RecentParts) (known : AreKnown setting.family before)
    (known_after : AreKnown setting.family after)
    (untouched : IsUntouched setting.config.addresses before after packet) where
  abbrev choice : Door → Option Chosen
  choice d = choice_at setting packet draws lists d

  -- the choice at a door goes by what it makes of the packet
  choice_alike : (d e : Door)
      → sight_of setting.config packet d ≡ sight_of setting.config packet e → choice d ≡ choice e
  choice_alike d e same =
      λ j. chosen_endpoint setting (same j).key (same j).affinity packet.source packet.now draws
      (same j).offer.endpoints lists

  -- the filter says the same
  lines_same : (p : Packet) → FitsNoChange setting.config.addresses before after p
      → option_map refused_of (filtered setting.config after p)
      ≡ option_map refused_of (filtered setting.config before p)
  lines_same p way =
      filtered_same setting.config setting.family before after known known_after p way

  -- of a packet that no door translates
  untranslated : decision_by setting.config after packet lists None
      ≡ decision_by setting.config before packet lists None
  untranslated =
      by_lines setting.config packet None None lists _ _
      (lines_same packet untouched.as_it_comes) refl

  -- and of one that is translated alike
  translated_alike : (d e : Door)
      → sight_of setting.config packet e ≡ sight_of setting.config packet d
      → Contains (doors_of before) d → fits setting.config.addresses packet d ≡ true
      → (c : Option Chosen) → choice d ≡ c
      → decision_by setting.config after packet lists
      (option_map (translation setting.config packet e) c)
      ≡ decision_by setting.config before packet lists
      (option_map (translation setting.config packet d) c)
  translated_alike d e same there fit None is = untranslated
  translated_alike d e same there fit (Some c) is =
      by_lines setting.config packet (Some (translation setting.config packet e c))
      (Some (translation setting.config packet d c)) c.lists _ _
      (lines_same (sent_to packet c.endpoint) (untouched.at_endpoints d c.endpoint
      (Contains-append_left (doors_of before) (doors_of after) d there) fit
      (of_door setting.config packet d c.endpoint
      (chosen_in setting d.info.key packet.source packet.now draws
      (offer_of setting.config packet d).endpoints d.info.affinity lists c is))))
      (passed_alike setting.config packet e d c c.lists same)

  -- by the doors that take the packet
  by_doors : (o p : Option Door) → taking_door setting.config before packet ≡ o
      → option_map (sight_of setting.config packet) p
      ≡ option_map (sight_of setting.config packet) o
      → decision_by setting.config after packet lists
      (option_and_then (translation_at setting packet draws lists) p)
      ≡ decision_by setting.config before packet lists
      (option_and_then (translation_at setting packet draws lists) o)
  by_doors None None taking same = untranslated
  by_doors None (Some e) taking same = absurd (cc)
  by_doors (Some d) None taking same = absurd (cc)
  by_doors (Some d) (Some e) taking same =
      let alike =
      same_Some (sight_of setting.config packet e) (sight_of setting.config packet d) same in
      let (there, takes_it) =
      found (takes setting.config packet) (doors_of before) d taking in
      ap (λ c. decision_by setting.config after packet lists
      (option_map (translation setting.config packet e) c)) (choice_alike e d alike)
      ∙ translated_alike d e alike there (and_parts _ _ takes_it).0 (choice d) refl

  pub decided : decision_by setting.config after packet lists
      (option_and_then (translation_at setting packet draws lists)
      (taking_door setting.config after packet))
      ≡ decision_by setting.config before packet lists
      (option_and_then (translation_at setting packet draws lists)
      (taking_door setting.config before packet))
  decided =
      by_doors _ _ refl (same_taking setting.config packet before after known.in_order
      known_after.in_order setting.family (known_so setting.family before known)
      (known_so setting.family after known_after)
      (same_views setting.config setting.family before after known known_after packet
      untouched.as_it_comes))

pub decides_as_before_by : DecidesAsBefore
decides_as_before_by setting before after packet draws lists known known_after untouched =
    decided setting before after packet draws lists known known_after untouched
