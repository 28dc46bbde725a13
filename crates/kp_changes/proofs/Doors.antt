-- Doors that stay as they are have no changes.
use Rattle.std.proofs.Common.{◌≡◌, Bool, true, false, true≢false, cond, not, List, [], ◌∷◌, ◌++◌, map, filter, Contains, Option, Some, None, inl, inr, refl, sym, ap, ◌∙◌}
use Rattle.std.specs.List.{find, list_any}
use Rattle.std.specs.Cmp.{nat_eq_equiv}
use Rattle.std.specs.Cmp.Lexicographic.{lists_equiv, options_equiv}
use Rattle.std.proofs.lemmas.Bool.{and_from}
use Rattle.std.proofs.lemmas.List.Elements.{filter-append}
use Rattle.std.proofs.lemmas.Option.{same_Some}
use Rattle.kp_lemmas.proofs.Members.{any_from, from_filter, from_map, in_cases, none_in, without_elements}
use Rattle.kp_base.specs.contracts.address.AddressEq.TheImpl.Laws as address_laws
use Rattle.kp_base.specs.contracts.key.EndpointEq.TheImpl.Laws as endpoint_laws
use Rattle.kp_base.specs.contracts.range.CidrEq.TheImpl.Laws as range_laws
use Rattle.kp_types.specs.contracts.decision.DoorKindEq.TheImpl.Laws as kind_laws
use Rattle.kp_types.specs.contracts.service.PolicyEq.TheImpl.Laws as policy_laws
use Rattle.kp_object_defs.specs.PortInfo.{PortInfo}
use Rattle.kp_door_defs.specs.Doors.{Door}
use Rattle.kp_change_defs.specs.DoorChanges.{change_from, change_to, differs, door_changes, doors_gone, doors_of_port, same_door, values_or_absent}
use Rattle.kp_change_defs.specs.DoorValues.{DoorValues, same_values, values_at, values_of}
use Rattle.kp_change_defs.specs.contracts.DoorStateEq.TheImpl.Laws as state_laws
use Rattle.kp_change_laws.proofs.DoorKinds.{found, of_port}
use Rattle.kp_change_laws.proofs.SameValues.{one_door}

-- values are the same as themselves
values_itself : (v : DoorValues) → same_values v v ≡ true
values_itself v =
    and_from _ _ (state_laws.laws-law.refl v.state) (and_from _ _
    (and_from _ _ ((lists_equiv endpoint_laws.laws-law).refl v.list)
    ((lists_equiv endpoint_laws.laws-law).refl v.inside)) (and_from _ _
    (policy_laws.laws-law.refl v.policy) (and_from _ _
    ((options_equiv nat_eq_equiv).refl v.affinity)
    ((options_equiv (lists_equiv range_laws.laws-law)).refl v.sources))))

-- and so is a door
door_itself : (d : Door) → same_door d d ≡ true
door_itself d =
    and_from _ _ (kind_laws.laws-law.refl d.kind) (and_from _ _
    ((options_equiv address_laws.laws-law).refl d.address) (nat_eq_equiv.refl d.number))

-- where nothing is found, no element passes
missed : {X : Type 0} (p : X → Bool) (xs : List X) (x : X) → find p xs ≡ None → Contains xs x
    → p x ≡ false
missed p [] x h c = absurd (none_in x c)
missed {X} p (y ∷ ys) x h c = by (p y) refl h (missed p ys x)
  where
    by : (b : Bool) → p y ≡ b → cond b (Some y) (find p ys) ≡ None
        → (find p ys ≡ None → Contains ys x → p x ≡ false) → p x ≡ false
    by true is h later = absurd (cc)
    by false is h later =
        elim (in_cases x y ys c) [ inl e ↦ ap p (sym e) ∙ is | inr d ↦ later h d ]

-- no door goes
none_gone : (ds : List Door) → doors_gone ds ds ≡ []
none_gone ds =
    without_elements (doors_gone ds ds) (λ d c.
    let (there, gone) = from_filter (λ e. not (list_any (same_door e) ds)) d ds c in
    true≢false (sym gone ∙ ap not (any_from (same_door d) d ds there (door_itself d))))

module _ (i : PortInfo) where
  abbrev doors : List Door
  doors = doors_of_port (Some i)

  of_this : (d : Door) → Contains doors d → i ≡ d.info
  of_this d c = same_Some i d.info (of_port (Some i) d c)

  -- each door has the values that it had
  stays : (d : Door) → Contains doors d → differs (change_to doors d) ≡ false
  stays d c = by (find (same_door d) doors) refl
    where
      by : (old : Option Door) → find (same_door d) doors ≡ old
          → not (same_values (values_or_absent old) (values_of d)) ≡ false
      by None is =
          absurd (true≢false (sym (door_itself d) ∙ missed (same_door d) doors d is c))
      by (Some e) is =
          let (there, same) = found (same_door d) doors e is in
          let info : e.info ≡ d.info = sym (of_this e there) ∙ of_this d c in
          ap not
          (ap (λ v. same_values v (values_of d))
          (λ j. values_at (sym (one_door d e same).kind j) (info j))
          ∙ values_itself (values_of d))

  none_differ : filter differs (map (change_to doors) doors) ≡ []
  none_differ =
      without_elements (filter differs (map (change_to doors) doors)) (λ c k.
      let (made, other) = from_filter differs c (map (change_to doors) doors) k in
      let (d, there, is) = from_map (change_to doors) c doors made in
      true≢false (sym other ∙ ap differs (sym is) ∙ stays d there))

-- where the same is known of a port, nothing changes
pub unchanged : (o : Option PortInfo) → door_changes o o ≡ []
unchanged None = refl
unchanged (Some i) =
    filter-append differs (map (change_to (doors i)) (doors i))
    (map change_from (doors_gone (doors i) (doors i)))
    ∙ (λ j. none_differ i j ++ filter differs (map change_from (none_gone (doors i) j)))
