-- The law of changes over objects: what is known of their ports is such as the law asks for, and
-- where nothing is printed no door differs.
use Rattle.std.proofs.Common.{◌≡◌, inl, inr, ℕ, Bool, true, false, List, [], ◌∷◌, ◌++◌, Contains, Option, Some, None, refl, sym, ap, subst, ◌∙◌}
use Rattle.std.specs.List.{flat_map, list_any}
use Rattle.std.proofs.lemmas.List.Elements.{Contains-append_left, Contains-append_right}
use Rattle.kp_lemmas.proofs.Members.{in_flat_map, in_map, none_in, in_cases, passing}
use Rattle.kp_base.specs.Net.{same_family}
use Rattle.kp_base.specs.declared.address.Family.{Family}
use Rattle.kp_base.specs.declared.key.PortKey.{PortKey}
use Rattle.kp_base.proofs.KeyOrder.{port_key_exact, port_key_total}
use Rattle.kp_base.proofs.SameParts.{same_family_exact}
use Rattle.kp_types.specs.Packets.{family_of_packet}
use Rattle.kp_types.specs.Setting.{FamilyConfig, Naming, Settings, has_tables_of, view_of}
use Rattle.kp_types.specs.declared.packet.Packet.{Packet}
use Rattle.kp_choice_defs.specs.Recent.{RecentParts}
use Rattle.kp_object_defs.specs.Objects.{Objects}
use Rattle.kp_object_defs.specs.PortInfo.{PortInfo, infos_by_family, port_infos}
use Rattle.kp_door_defs.specs.Decision.{decision_if, sent_to}
use Rattle.kp_door_defs.specs.Doors.{fits}
use Rattle.kp_table_laws.proofs.Entries.{in_distinct}
use Rattle.kp_table_laws.proofs.PortOrder.{ports_are_in_order}
use Rattle.kp_walk_laws.proofs.KnownPorts.{known_ports_by}
use Rattle.kp_change_defs.specs.ChangeText.{change_line, change_lines, change_text, port_lines}
use Rattle.kp_change_defs.specs.DoorChanges.{DoorChange, door_changes, info_named, names_of, ports_in}
use Rattle.kp_change_laws.specs.Laws.{AreKnown, FitsNoChange, IsUntouched, ObjectsDecideAsBefore, SilenceDecidesAsBefore}
use Rattle.kp_change_laws.proofs.Decides.{decides_as_before_by}
use Rattle.kp_change_laws.proofs.Filtered.{named_in}

known_of : (family : Family) (config : FamilyConfig) (o : Objects)
    → AreKnown family (port_infos family config o)
known_of family config o = record {
  in_order = ports_are_in_order family config o;
  each = λ i c. known_ports_by family config o i c;
}

module _ (settings : Settings) (before after : Objects) (packet : Packet) (draws : ℕ → ℕ)
    (lists : RecentParts) where
  abbrev family : Family
  family = family_of_packet packet

  -- of a family that the node has tables of, or not
  abbrev AsBefore : Bool → Type 0
  AsBefore has_tables =
      decision_if has_tables (view_of family settings)
      (infos_by_family settings after family) packet draws lists
      ≡ decision_if has_tables (view_of family settings)
      (infos_by_family settings before family) packet draws lists

  with_tables : IsUntouched settings.config.addresses (infos_by_family settings before family)
      (infos_by_family settings after family) packet → AsBefore true
  with_tables untouched =
      decides_as_before_by (view_of family settings) (infos_by_family settings before family)
      (infos_by_family settings after family) packet draws lists
      (known_of family (view_of family settings).config before)
      (known_of family (view_of family settings).config after) untouched

  by_tables : (b : Bool) → has_tables_of family settings ≡ b
      → (has_tables_of family settings ≡ true
      → IsUntouched settings.config.addresses (infos_by_family settings before family)
      (infos_by_family settings after family) packet) → AsBefore b
  by_tables true has untouched = with_tables (untouched has)
  by_tables false has untouched = refl

pub objects_decide_by : ObjectsDecideAsBefore
objects_decide_by settings before after packet draws lists untouched =
    by_tables settings before after packet draws lists _ refl (λ has. untouched)

-- ---- Nothing printed

none_of_both : {X : Type 0} (xs ys : List X) → xs ++ ys ≡ [] → (xs ≡ []) × (ys ≡ [])
none_of_both [] ys h = (refl, h)
none_of_both (x ∷ xs) ys h = absurd (cc)

none_of_each : {X Y : Type 0} (f : X → List Y) (xs : List X) → flat_map f xs ≡ [] → (x : X)
    → Contains xs x → f x ≡ []
none_of_each f [] h x c = absurd (none_in x c)
none_of_each f (y ∷ ys) h x c =
    let both = none_of_both (f y) (flat_map f ys) h in
    elim (in_cases x y ys c) [
      | inl e ↦ ap f (sym e) ∙ both.0
      | inr d ↦ none_of_each f ys both.1 x d
    ]

-- a line has text
line_told : (name_of : Naming) (infos : List PortInfo) (c : DoorChange)
    → change_line name_of infos c ≡ [] → ⊥
line_told name_of infos c h = absurd (cc)

none_told : (name_of : Naming) (infos : List PortInfo) (cs : List DoorChange)
    → flat_map (change_line name_of infos) cs ≡ [] → cs ≡ []
none_told name_of infos [] h = refl
none_told name_of infos (c ∷ cs) h =
    absurd (line_told name_of infos c
    (none_of_both (change_line name_of infos c) (flat_map (change_line name_of infos) cs) h).0)

module _ (settings : Settings) (before after : Family → List PortInfo)
    (silent : change_text settings before after ≡ []) (family : Family)
    (tables : Contains settings.families family) (q : PortKey) where
  -- no door differs of a port that is known
  of_named : Contains (names_of (before family) ++ names_of (after family)) q
      → door_changes (info_named (before family) q) (info_named (after family) q) ≡ []
  of_named c =
      none_told settings.name_of (after family) _
      (none_of_each (port_lines settings.name_of before after q) settings.families
      (none_of_each (change_lines settings before after) (ports_in settings before after) silent q
      (in_distinct port_key_total port_key_exact _ q
      (in_flat_map (λ f. names_of (before f) ++ names_of (after f)) family q settings.families
      tables c)))
      family tables)

  named : (infos : List PortInfo) (i : PortInfo) → info_named infos q ≡ Some i
      → Contains (names_of infos) q
  named infos i e =
      let (c, is) = named_in infos q i e in
      subst (Contains (names_of infos)) is (in_map (λ (x : PortInfo). x.key) i infos c)

  of_either : (o p : Option PortInfo) → info_named (before family) q ≡ o
      → info_named (after family) q ≡ p
      → door_changes (info_named (before family) q) (info_named (after family) q) ≡ []
  of_either None None e f = λ j. door_changes (e j) (f j)
  of_either (Some i) p e f =
      of_named (Contains-append_left (names_of (before family)) (names_of (after family)) q
      (named (before family) i e))
  of_either None (Some i) e f =
      of_named (Contains-append_right (names_of (before family)) (names_of (after family)) q
      (named (after family) i f))

  -- so no packet fits one
  pub no_change : (packet : Packet)
      → list_any (λ c. fits settings.config.addresses packet c.door)
      (door_changes (info_named (before family) q) (info_named (after family) q)) ≡ false
  no_change packet =
      ap (list_any (λ c. fits settings.config.addresses packet c.door)) (of_either _ _ refl refl)

pub silence_decides_by : SilenceDecidesAsBefore
silence_decides_by settings before after silent packet draws lists =
    by_tables settings before after packet draws lists _ refl (λ has.
    let none : (p : Packet) → FitsNoChange settings.config.addresses
    (infos_by_family settings before (family_of_packet packet))
    (infos_by_family settings after (family_of_packet packet)) p =
    λ p q. no_change settings (infos_by_family settings before) (infos_by_family settings after)
    silent (family_of_packet packet) (its_tables has) q p in
    record { as_it_comes = none packet; at_endpoints = λ d e c fit among. none (sent_to packet e) })
  where
    its_tables : has_tables_of (family_of_packet packet) settings ≡ true
        → Contains settings.families (family_of_packet packet)
    its_tables has =
        let (f, c, same) =
        passing (same_family (family_of_packet packet)) settings.families has in
        subst (Contains settings.families)
        (sym (same_family_exact (family_of_packet packet) f same)) c
