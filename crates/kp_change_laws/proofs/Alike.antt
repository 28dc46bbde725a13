-- Where no door of a port that differs fits a packet, it sees the same of the port before and
-- after.
use Rattle.std.proofs.Common.{◌≡◌, Bool, true, false, true≢false, ◌&&◌, ◌==◌, not, List, map, Contains, Option, Some, None, refl, sym, ap, ◌∙◌}
use Rattle.std.specs.List.{find, list_any}
use Rattle.std.proofs.lemmas.List.Elements.{Contains-append_left, Contains-append_right}
use Rattle.kp_lemmas.proofs.Members.{in_filter, in_map, none_passes, passing}
use Rattle.kp_base.specs.Net.{AddressParts}
use Rattle.kp_base.specs.declared.address.Family.{Family}
use Rattle.kp_base.specs.declared.key.PortKey.{PortKey}
use Rattle.kp_types.specs.Ports.{same_proto}
use Rattle.kp_types.specs.declared.packet.Packet.{Packet}
use Rattle.kp_types.specs.declared.decision.DoorKind.{DoorKind}
use Rattle.kp_object_defs.specs.PortInfo.{PortInfo}
use Rattle.kp_door_defs.specs.Doors.{Door, fits, is_at}
use Rattle.kp_change_defs.specs.DoorChanges.{DoorChange, change_from, change_to, changes_of_doors, differs, door_changes, doors_gone, doors_of_port, same_door, values_or_absent}
use Rattle.kp_change_defs.specs.DoorValues.{DoorValues, same_values, values_of}
use Rattle.kp_change_laws.specs.Laws.{fits_changed}
use Rattle.kp_change_laws.proofs.SameValues.{not_absent, one_door, values_exact}
use Rattle.kp_change_laws.proofs.DoorKinds.{found, of_port, seen_of, shown, shows}

-- two options with the same values are one
one_option : {X : Type 0} (o p : Option X) → ((x : X) → o ≡ Some x → p ≡ Some x)
    → ((x : X) → p ≡ Some x → o ≡ Some x) → o ≡ p
one_option None None f g = refl
one_option None (Some y) f g = g y refl
one_option (Some x) p f g = sym (f x refl)

-- what is known of a port of this name in a family
pub record IsKnownAs (family : Family) (key : PortKey) (i : PortInfo) : Type 0 where
  pub name : i.key ≡ key
  pub of_family : i.address.family ≡ family

-- it is, if anything is
abbrev pub IsKnownSo : Family → PortKey → Option PortInfo → Type 0
IsKnownSo family key o = (i : PortInfo) → o ≡ Some i → IsKnownAs family key i

module _ (addresses : List AddressParts) (packet : Packet) (family : Family) (key : PortKey) where
  -- a packet that fits a door fits what is the same door of another record
  fit_alike : (o p : Option PortInfo) → IsKnownSo family key o → IsKnownSo family key p
      → (d e : Door) → Contains (doors_of_port o) d → Contains (doors_of_port p) e
      → same_door d e ≡ true → fits addresses packet d ≡ fits addresses packet e
  fit_alike o p known_o known_p d e c k h =
      let one = one_door d e h in
      let x = known_o d.info (of_port o d c) in
      let y = known_p e.info (of_port p e k) in
      λ j. same_proto ((x.name ∙ sym y.name) j).proto packet.proto
      && (one.number j == packet.port)
      && is_at ((x.of_family ∙ sym y.of_family) j) addresses (one.address j) packet.target

  module _ (before after : Option PortInfo) (known : IsKnownSo family key before)
      (known_after : IsKnownSo family key after)
      (untouched : fits_changed addresses packet before after ≡ false) where
    -- the values of a door that the packet fits are kept
    kept : (c : DoorChange)
        → Contains (changes_of_doors (doors_of_port before) (doors_of_port after)) c
        → fits addresses packet c.door ≡ true → c.before ≡ c.after
    kept c among fit = values_exact c.before c.after (by _ refl)
      where
        by : (b : Bool) → same_values c.before c.after ≡ b → b ≡ true
        by true e = refl
        by false e =
            absurd (true≢false (sym fit
            ∙ none_passes (λ x. fits addresses packet x.door) c (door_changes before after)
            untouched (in_filter differs c
            (changes_of_doors (doors_of_port before) (doors_of_port after)) among (ap not e))))

    -- the door before that a door after was
    pub record Earlier (d : Door) : Type 0 where
      pub was : Door
      pub there : Contains (doors_of_port before) was
      pub one : same_door d was ≡ true
      pub values : values_of was ≡ values_of d

    earlier : (d : Door) → Contains (doors_of_port after) d → fits addresses packet d ≡ true
        → Earlier d
    earlier d c fit = by _ refl
      where
        same : values_or_absent (find (same_door d) (doors_of_port before)) ≡ values_of d
        same =
            kept (change_to (doors_of_port before) d)
            (Contains-append_left (map (change_to (doors_of_port before)) (doors_of_port after))
            (map change_from (doors_gone (doors_of_port before) (doors_of_port after)))
            (change_to (doors_of_port before) d)
            (in_map (change_to (doors_of_port before)) d (doors_of_port after) c)) fit

        by : (o : Option Door) → find (same_door d) (doors_of_port before) ≡ o → Earlier d
        by None e = absurd (not_absent d (sym same ∙ ap values_or_absent e))
        by (Some was) e =
            let (there, one) = found (same_door d) (doors_of_port before) was e in
            record {
              was = was;
              there = there;
              one = one;
              values = sym (ap values_or_absent e) ∙ same;
            }

    -- a door before is there after
    later : (d : Door) → Contains (doors_of_port before) d → fits addresses packet d ≡ true
        → (e : Door) × Contains (doors_of_port after) e × (same_door d e ≡ true)
    later d c fit = by _ refl
      where
        by : (b : Bool) → list_any (same_door d) (doors_of_port after) ≡ b
            → (e : Door) × Contains (doors_of_port after) e × (same_door d e ≡ true)
        by true e = passing (same_door d) (doors_of_port after) e
        by false e =
            absurd (not_absent d (kept (change_from d)
            (Contains-append_right (map (change_to (doors_of_port before)) (doors_of_port after))
            (map change_from (doors_gone (doors_of_port before) (doors_of_port after)))
            (change_from d)
            (in_map change_from d (doors_gone (doors_of_port before) (doors_of_port after))
            (in_filter (λ x. not (list_any (same_door x) (doors_of_port after))) d
            (doors_of_port before) c (ap not e)))) fit))

    -- what is seen after was seen before
    from_after : (k : DoorKind) (v : DoorValues) → seen_of addresses packet k after ≡ Some v
        → seen_of addresses packet k before ≡ Some v
    from_after k v h =
        let s = shown addresses packet after k v h in
        let e = earlier s.shown s.in_port s.fits in
        let fit =
        sym (fit_alike after before known_after known s.shown e.was s.in_port e.there e.one)
        ∙ s.fits in
        ap (λ q. seen_of addresses packet q before)
        (sym s.kind ∙ (one_door s.shown e.was e.one).kind)
        ∙ shows addresses packet before e.was e.there fit ∙ ap Some (e.values ∙ s.values)

    -- and what was seen before is
    from_before : (k : DoorKind) (v : DoorValues) → seen_of addresses packet k before ≡ Some v
        → seen_of addresses packet k after ≡ Some v
    from_before k v h =
        let s = shown addresses packet before k v h in
        let (d, there, one) = later s.shown s.in_port s.fits in
        let fit =
        sym (fit_alike before after known known_after s.shown d s.in_port there one) ∙ s.fits in
        let now : seen_of addresses packet k after ≡ Some (values_of d) =
        ap (λ q. seen_of addresses packet q after)
        (sym s.kind ∙ (one_door s.shown d one).kind)
        ∙ shows addresses packet after d there fit in
        now ∙ sym (from_after k _ now) ∙ h

    pub alike : (k : DoorKind)
        → seen_of addresses packet k after ≡ seen_of addresses packet k before
    alike k = one_option _ _ (from_after k) (from_before k)
