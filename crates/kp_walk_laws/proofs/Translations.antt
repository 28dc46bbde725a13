-- A door that offers an endpoint translates, and what that makes of a packet.
use Rattle.std.proofs.Common.{◌≡◌, ℕ, suc, zero, ◌<◌, Bool, true, false, not, List, [], ◌∷◌, length, slice_get, Option, Some, None, is_some, option_map, if◌then◌else◌, refl, ap, ◌∙◌, arith}
use Rattle.kp_base.specs.Net.{AddressParts}
use Rattle.kp_base.specs.declared.key.Endpoint.{Endpoint}
use Rattle.kp_base.specs.declared.key.PortKey.{PortKey}
use Rattle.kp_types.specs.Setting.{Pick, Setting}
use Rattle.kp_types.specs.declared.packet.Packet.{Packet}
use Rattle.kp_choice_defs.specs.Draws.{selected_index}
use Rattle.kp_choice_defs.specs.Recent.{RecentParts}
use Rattle.kp_choice_defs.specs.Settings.{pick_by_draws}
use Rattle.kp_object_defs.specs.Desired.{is_empty}
use Rattle.kp_door_defs.specs.Choice.{Chosen, chosen_endpoint, drawn_at, drawn, found_or, live_endpoint, recent_name, remembered}
use Rattle.kp_door_defs.specs.Decision.{translation_at}
use Rattle.kp_door_defs.specs.Doors.{Door, offer_of}

below_if : (b : Bool) (x n : ℕ) → x < n → (if b then 0 else suc x) < suc n
below_if true x n h = omega arith
below_if false x n h = omega arith

-- the selected place is in the list
pub selected_below : (draws : ℕ → ℕ) (k n : ℕ) → selected_index draws k (suc n) < suc n
selected_below draws k zero = omega arith
selected_below draws k (suc n) = below_if _ _ (suc n) (selected_below draws (suc k) n)

-- a place in a list has an element
get_below : {X : Type 0} (xs : List X) (k : ℕ) → k < length xs → is_some (slice_get xs k) ≡ true
get_below [] k h = absurd (omega arith)
get_below (x ∷ xs) zero h = refl
get_below (x ∷ xs) (suc k) h = get_below xs k (omega arith)

-- an endpoint is selected of a list that isn't empty
pub selected_some : {X : Type 0} (draws : ℕ → ℕ) (xs : List X) → not (is_empty xs) ≡ true
    → is_some (slice_get xs (selected_index draws 0 (length xs))) ≡ true
selected_some draws [] h = absurd (cc)
selected_some draws (x ∷ xs) h = get_below (x ∷ xs) (selected_index draws 0 (suc (length xs)))
    (selected_below draws 0 (length xs))

some_of_map : {X Y : Type 0} (f : X → Y) (o : Option X) → is_some (option_map f o) ≡ is_some o
some_of_map f None = refl
some_of_map f (Some x) = refl

some_remembered : (name : Endpoint → List ℕ) (source : AddressParts) (now : ℕ) (c : Option Chosen)
    → is_some (remembered name source now c) ≡ is_some c
some_remembered name source now None = refl
some_remembered name source now (Some c) = refl

module _ (setting : Setting) (by_draws : setting.pick ≡ pick_by_draws) where
  drawn_some : (draws : ℕ → ℕ) (es : List Endpoint) (lists : RecentParts) → not (is_empty es) ≡ true
      → is_some (drawn setting draws es lists) ≡ true
  drawn_some draws es lists h =
      ap (λ (p : Pick). is_some (drawn_at es (p draws (length es)) lists)) by_draws
      ∙ some_of_map _ _ ∙ selected_some draws es h

  found_some : (draws : ℕ → ℕ) (es : List Endpoint) (lists : RecentParts)
      (found : Option (Endpoint × ℕ)) → not (is_empty es) ≡ true
      → is_some (found_or setting draws es lists found) ≡ true
  found_some draws es lists None h = drawn_some draws es lists h
  found_some draws es lists (Some p) h = refl

  -- an endpoint is chosen of a list that isn't empty
  chosen_some : (port : PortKey) (affinity : Option ℕ) (source : AddressParts) (now : ℕ)
      (draws : ℕ → ℕ) (es : List Endpoint) (lists : RecentParts)
      → not (is_empty es) ≡ true
      → is_some (chosen_endpoint setting port affinity source now draws es lists) ≡ true
  chosen_some port None source now draws es lists h = drawn_some draws es lists h
  chosen_some port (Some seconds) source now draws es lists h =
      let look = live_endpoint (recent_name setting port) source now seconds 0 es lists in
      some_remembered _ source now _ ∙ found_some draws es look.lists look.found h

  -- a door that offers an endpoint translates
  pub translates : (packet : Packet) (draws : ℕ → ℕ) (lists : RecentParts) (d : Door)
      → not (is_empty (offer_of setting.config packet d).endpoints) ≡ true
      → is_some (translation_at setting packet draws lists d) ≡ true
  translates packet draws lists d h =
      some_of_map _ _
      ∙ chosen_some d.info.key _ _ packet.now draws
      (offer_of setting.config packet d).endpoints lists h
