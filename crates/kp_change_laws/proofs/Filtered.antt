-- The filter says the same of a packet before and after, where it fits no door that differs.
use Rattle.std.proofs.Common.{◌≡◌, Bool, List, [], ◌∷◌, ◌++◌, Contains, Option, Some, None, option_map, slice_get, refl, sym, ap, ◌∙◌}
use Rattle.std.specs.List.{find, flat_map}
use Rattle.std.specs.Option.{option_or}
use Rattle.std.proofs.lemmas.List.Folds.{find-append}
use Rattle.kp_lemmas.proofs.Options.{none_of_map}
use Rattle.kp_base.specs.declared.address.Family.{Family}
use Rattle.kp_base.specs.declared.key.PortKey.{PortKey}
use Rattle.kp_base.proofs.KeyOrder.{port_key_exact, port_key_total}
use Rattle.kp_types.specs.Setting.{FamilyConfig}
use Rattle.kp_types.specs.declared.packet.Packet.{Packet}
use Rattle.kp_types.specs.declared.decision.DoorKind.{DoorKind}
use Rattle.kp_types.specs.declared.decision.DoorKind.TheVariants as door
use Rattle.kp_object_defs.specs.PortInfo.{PortInfo}
use Rattle.kp_object_laws.proofs.OwnEntries.{found_in}
use Rattle.kp_door_defs.specs.Filter.{Hook, Input, Forward, Output, Line, external_lines, filtered, firewall_lines, hook_lines, hooks_of, service_lines}
use Rattle.kp_walk_laws.proofs.Outcomes.{none_in_each}
use Rattle.kp_change_defs.specs.DoorChanges.{info_named}
use Rattle.kp_change_laws.specs.Laws.{AreKnown, FitsNoChange}
use Rattle.kp_change_laws.proofs.Alike.{IsKnownSo, alike}
use Rattle.kp_change_laws.proofs.FirstDoor.{Views, by_views, unseen}
use Rattle.kp_change_laws.proofs.FirstOf.{first_found, same_values_had}
use Rattle.kp_change_laws.proofs.DoorKinds.{seen, seen_of}
use Rattle.kp_change_laws.proofs.Lines.{Refused, external_from, external_line, firewall_from, firewall_line, fits_line, not_closed, refused_of, service_from, service_line}

-- ---- Searches in lists, one behind the other

either_same : {X S : Type 0} (f : X → S) (o p q r : Option X)
    → option_map f o ≡ option_map f q
    → (option_map f o ≡ None → option_map f p ≡ option_map f r)
    → option_map f (option_or o p) ≡ option_map f (option_or q r)
either_same f None p None r same rest = rest refl
either_same f (Some x) p (Some y) r same rest = same
either_same f None p (Some y) r same rest = absurd (cc)
either_same f (Some x) p None r same rest = absurd (cc)

-- what is first found in two lists, one behind the other
both_same : {X S : Type 0} (p : X → Bool) (f : X → S) (xs ys zs ws : List X)
    → option_map f (find p xs) ≡ option_map f (find p zs)
    → (option_map f (find p xs) ≡ None → option_map f (find p ys) ≡ option_map f (find p ws))
    → option_map f (find p (xs ++ ys)) ≡ option_map f (find p (zs ++ ws))
both_same p f xs ys zs ws first rest =
    ap (option_map f) (find-append p xs ys)
    ∙ either_same f (find p xs) (find p ys) (find p zs) (find p ws) first rest
    ∙ ap (option_map f) (sym (find-append p zs ws))

-- ---- Ports that are known

-- a port that is found by its name is one of the list
pub named_in : (infos : List PortInfo) (q : PortKey) (i : PortInfo) → info_named infos q ≡ Some i
    → Contains infos i × (i.key ≡ q)
named_in infos q i e =
    found_in port_key_total port_key_exact (λ (x : PortInfo). x.key) q infos i e

pub known_so : (family : Family) (infos : List PortInfo) → AreKnown family infos → (q : PortKey)
    → IsKnownSo family q (info_named infos q)
known_so family infos known q i e =
    let (c, name) = named_in infos q i e in
    record { name = name; of_family = (known.each i c).address }

module _ (config : FamilyConfig) (family : Family) (before after : List PortInfo)
    (known : AreKnown family before) (known_after : AreKnown family after) (packet : Packet)
    (untouched : FitsNoChange config.addresses before after packet) where
  -- a packet that fits no door that differs sees the same of each port
  pub same_views : (q : PortKey) (k : DoorKind)
      → seen_of config.addresses packet k (info_named after q)
      ≡ seen_of config.addresses packet k (info_named before q)
  same_views q k =
      alike config.addresses packet family q (info_named before q) (info_named after q)
      (known_so family before known q) (known_so family after known_after q) (untouched q) k

  -- the line that it fits among some lines of all ports
  abbrev line_in : (PortInfo → List Line) → List PortInfo → Option Refused
  line_in g infos =
      option_map refused_of (find (fits_line config.addresses packet) (flat_map g infos))

  -- such lines go by what is seen
  abbrev GoBy : (PortInfo → List Line) → (PortKey → Views → Option Refused) → List PortInfo → Type 0
  GoBy g from infos =
      (i : PortInfo) → Contains infos i
      → option_map refused_of (find (fits_line config.addresses packet) (g i))
      ≡ from i.key (λ k. seen config.addresses packet k i)

  line_same : (g : PortInfo → List Line) (from : PortKey → Views → Option Refused)
      → ((k : PortKey) → from k unseen ≡ None) → GoBy g from before → GoBy g from after
      → line_in g after ≡ line_in g before
  line_same g from none had had_after =
      first_found (fits_line config.addresses packet) refused_of g after
      ∙ ap (λ l. slice_get l 0) (same_values_had _ after before known_after.in_order known.in_order
      (λ q. by_views config.addresses packet family q _ from none (info_named after q)
      (info_named before q) (known_so family after known_after q) (known_so family before known q)
      (λ i e. had_after i (named_in after q i e).0) (λ i e. had i (named_in before q i e).0)
      (same_views q)))
      ∙ sym (first_found (fits_line config.addresses packet) refused_of g before)

  firewall_same : line_in firewall_lines after ≡ line_in firewall_lines before
  firewall_same =
      line_same firewall_lines
      (λ key views. firewall_from config.addresses packet key (views door.Balancer)) (λ k. refl)
      (λ i c. firewall_line config.addresses packet family i (known.each i c))
      (λ i c. firewall_line config.addresses packet family i (known_after.each i c))

  service_same : line_in service_lines after ≡ line_in service_lines before
  service_same =
      line_same service_lines (service_from config.addresses packet) (λ k. refl)
      (λ i c. service_line config.addresses packet i)
      (λ i c. service_line config.addresses packet i)

  -- where no line of the firewall fits, a port's lines for doors from outside go by what is seen
  external_by : (infos : List PortInfo) → AreKnown family infos
      → line_in firewall_lines infos ≡ None
      → GoBy external_lines (external_from config.addresses packet) infos
  external_by infos all none i c =
      external_line config.addresses packet i (not_closed config.addresses packet i
      (sym (firewall_line config.addresses packet family i (all.each i c))
      ∙ ap (option_map refused_of) (none_in_each (fits_line config.addresses packet) firewall_lines
      infos (none_of_map refused_of _ none) i c)))

  external_same : line_in firewall_lines after ≡ None
      → line_in external_lines after ≡ line_in external_lines before
  external_same none =
      line_same external_lines (external_from config.addresses packet) (λ k. refl)
      (external_by before known (sym firewall_same ∙ none)) (external_by after known_after none)

  -- the lines for what comes to the node's own addresses say the same
  input_same : option_map refused_of
      (find (fits_line config.addresses packet) (hook_lines Input after))
      ≡ option_map refused_of
      (find (fits_line config.addresses packet) (hook_lines Input before))
  input_same =
      both_same (fits_line config.addresses packet) refused_of (flat_map firewall_lines after)
      (flat_map external_lines after) (flat_map firewall_lines before)
      (flat_map external_lines before) firewall_same external_same

  -- each hook says the same
  hook_same : (h : Hook)
      → option_map refused_of (find (fits_line config.addresses packet) (hook_lines h after))
      ≡ option_map refused_of (find (fits_line config.addresses packet) (hook_lines h before))
  hook_same Input = input_same
  hook_same Forward =
      both_same (fits_line config.addresses packet) refused_of
      (flat_map firewall_lines after ++ flat_map external_lines after)
      (flat_map service_lines after)
      (flat_map firewall_lines before ++ flat_map external_lines before)
      (flat_map service_lines before) input_same (λ none. service_same)
  hook_same Output =
      both_same (fits_line config.addresses packet) refused_of (flat_map firewall_lines after)
      (flat_map service_lines after) (flat_map firewall_lines before)
      (flat_map service_lines before) firewall_same (λ none. service_same)

  hooks_same : (hs : List Hook)
      → option_map refused_of
      (find (fits_line config.addresses packet) (flat_map (λ h. hook_lines h after) hs))
      ≡ option_map refused_of
      (find (fits_line config.addresses packet) (flat_map (λ h. hook_lines h before) hs))
  hooks_same [] = refl
  hooks_same (h ∷ hs) =
      both_same (fits_line config.addresses packet) refused_of (hook_lines h after)
      (flat_map (λ g. hook_lines g after) hs) (hook_lines h before)
      (flat_map (λ g. hook_lines g before) hs) (hook_same h) (λ none. hooks_same hs)

  pub filtered_same : option_map refused_of (filtered config after packet)
      ≡ option_map refused_of (filtered config before packet)
  filtered_same = hooks_same (hooks_of config packet)
