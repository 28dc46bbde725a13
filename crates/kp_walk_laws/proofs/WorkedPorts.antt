-- Two Services of different names, and one with every kind of door, meet the premises of the law of
-- walking.
use Rattle.std.proofs.Common.{◌≡◌, inl, inr, true, false, not, Option, ℕ, List, [], ◌∷◌, Contains, get_or, codes, refl, sym, ap, subst, ◌∙◌, arith}
use Rattle.std.proofs.lemmas.Bool.{false≢true}
use Rattle.kp_lemmas.proofs.Members.{none_in, in_cases}
use Rattle.kp_base.specs.declared.key.Endpoint.{Endpoint}
use Rattle.kp_base.specs.declared.address.Family.{Family}
use Rattle.kp_base.specs.declared.address.Family.TheVariants.{V4, V6}
use Rattle.kp_types.specs.Setting.{has_tables_of}
use Rattle.kp_choice_defs.specs.Settings.{setting_of, settings_of}
use Rattle.kp_object_defs.specs.Desired.{is_empty}
use Rattle.kp_object_defs.specs.PortInfo.{PortInfo}
use Rattle.kp_table_defs.specs.StandIn.{stand_in_setting, stand_in_settings}
use Rattle.kp_table_laws.specs.Laws.{HaveOwnKeys}
use Rattle.kp_walk_laws.specs.Laws.{IsDecided, IsKnown}
use Rattle.kp_walk_laws.specs.Rows.{EveryDoorDecided, TwoDecided, config, endpoint_at, every_door, port_of, port_with, prefix_config, two_ports}
use Rattle.kp_walk_laws.proofs.Ranked.{hashed_prefixed_by, stand_in_prefixed_by}
use Rattle.kp_walk_laws.proofs.Theorem.{walk_decides_among_by}

-- the port with an endpoint
abbrev first : PortInfo
first = port_with (endpoint_at 1 ∷ [])

-- and the one without
abbrev second : PortInfo
second = port_of (codes "api") 2 []

other_key : first.key ≡ second.key → ⊥
other_key h = let byte : ◌≡◌ {A = ℕ} 119 97 = ap (λ k. get_or k.object.name 0 0) h in omega arith

-- what is in a list of two is one of them
of_two : {X : Type 0} (P : X → Type 0) (x y z : X) → P x → P y → Contains (x ∷ y ∷ []) z → P z
of_two P x y z p q c =
    elim (in_cases z x (y ∷ []) c) [
      | inl e ↦ subst P e p
      | inr d ↦ elim (in_cases z y [] d) [ inl e ↦ subst P e q | inr n ↦ absurd (none_in z n) ]
    ]

two_keys : HaveOwnKeys two_ports
two_keys i j ci cj =
    of_two (λ x. x.key ≡ j.key → x ≡ j) first second i
    (of_two (λ y. first.key ≡ y.key → first ≡ y) first second j (λ h. refl)
    (λ h. absurd (other_key h)) cj)
    (of_two (λ y. second.key ≡ y.key → second ≡ y) first second j (λ h. absurd (other_key (sym h)))
    (λ h. refl) cj) ci

without_endpoints : (es : List Endpoint) → not (is_empty es) ≡ false → es ≡ []
without_endpoints [] h = refl
without_endpoints (e ∷ es) h = absurd (cc)

known_port : (name : List ℕ) (n : ℕ) (es : List Endpoint) → IsKnown V4 (port_of name n es)
known_port name n es =
    record { address = refl; none = λ h. (without_endpoints es h, refl); any = λ h. refl }

two_are_decided : (family : Family) → has_tables_of family (settings_of prefix_config) ≡ true
    → IsDecided (setting_of family prefix_config) two_ports
two_are_decided V4 has = record {
  own = two_keys;
  known = λ i c. of_two (IsKnown V4) first second i
      (known_port (codes "web") 1 (endpoint_at 1 ∷ [])) (known_port (codes "api") 2 []) c;
  apart = refl;
}
two_are_decided V6 has = absurd (false≢true has)

pub two_decided_by : TwoDecided
two_decided_by packet draws lists =
    walk_decides_among_by (settings_of prefix_config) (λ family. two_ports) packet draws lists refl
    (hashed_prefixed_by 0) two_are_decided

-- ---- A port with every kind of door

one_key : (affinity : Option ℕ) → HaveOwnKeys (every_door affinity ∷ [])
one_key affinity i j ci cj same =
    sym (only_one (every_door affinity) i ci) ∙ only_one (every_door affinity) j cj
  where
    only_one : (x y : PortInfo) → Contains (x ∷ []) y → x ≡ y
    only_one x y c = elim (in_cases y x [] c) [ inl e ↦ e | inr n ↦ absurd (none_in y n) ]

known_doors : (affinity : Option ℕ) → IsKnown V4 (every_door affinity)
known_doors affinity = record { address = refl; none = λ h. absurd (cc); any = λ h. refl }

door_is_decided : (affinity : Option ℕ) (family : Family)
    → has_tables_of family (stand_in_settings config) ≡ true
    → IsDecided (stand_in_setting family config) (every_door affinity ∷ [])
door_is_decided affinity V4 has = record {
  own = one_key affinity;
  known = λ i c. elim (in_cases i (every_door affinity) [] c) [
    | inl e ↦ subst (IsKnown V4) e (known_doors affinity)
    | inr n ↦ absurd (none_in i n)
  ];
  apart = refl;
}
door_is_decided affinity V6 has = absurd (false≢true has)

pub every_door_by : EveryDoorDecided
every_door_by affinity packet draws lists =
    walk_decides_among_by (stand_in_settings config) (λ family. every_door affinity ∷ []) packet
    draws lists refl stand_in_prefixed_by (door_is_decided affinity)
