-- A list that isn't empty gives an endpoint whatever the pick, so the pick changes neither door nor list.
use Rattle.std.proofs.Common.{◌≡◌, ℕ, zero, suc, ◌%◌, ◌<◌, true, List, [], ◌∷◌, length, slice_get, Option, Some, None, is_some, option_and_then, option_map, refl, sym, ap, ◌∙◌, arith}
use Rattle.kp_base.specs.Net.{AddressParts}
use Rattle.kp_base.specs.declared.config.Config.{Config}
use Rattle.kp_base.specs.declared.address.Family.{Family}
use Rattle.kp_base.specs.declared.key.Endpoint.{Endpoint}
use Rattle.kp_base.specs.declared.key.PortKey.{PortKey}
use Rattle.kp_types.specs.Setting.{Setting}
use Rattle.kp_types.specs.declared.packet.Packet.{Packet}
use Rattle.kp_choice_defs.specs.Recent.{RecentParts}
use Rattle.kp_choice_defs.specs.Settings.{pick_by_draws, setting_of}
use Rattle.kp_door_defs.specs.Choice.{Chosen, chosen_endpoint, drawn_as, drawn_at, found_or, live_endpoint, recent_name, remembered}
use Rattle.kp_door_defs.specs.Decision.{choice_at, translation_at}
use Rattle.kp_door_defs.specs.Doors.{Door, Offer, offer_of, taking_door}
use Rattle.kp_decide.specs.Picks.{pick_by_remainder, with_pick}
use Rattle.kp_walk_laws.proofs.Translations.{selected_below}
use Rattle.kp_vmap_defs.specs.MapLaws.{SameDoorAndList, SameWhereFound, door_and_list}

-- a place in a list has an element
drawn_some : (es : List Endpoint) (place : ℕ) (lists : RecentParts) → place < length es → is_some (drawn_at es place lists) ≡ true
drawn_some es place lists h = of_found es place h
  where
    of_found : (es : List Endpoint) (at : ℕ) → at < length es → is_some (option_map (drawn_as place lists) (slice_get es at)) ≡ true
    of_found [] at h = absurd (omega arith)
    of_found (e ∷ es) zero h = refl
    of_found (e ∷ es) (suc at) h = of_found es at (omega arith)

-- a list gives an endpoint by the one pick where it does by the other
same_drawn : (draws : ℕ → ℕ) (es : List Endpoint) (lists other : RecentParts)
    → is_some (drawn_at es (pick_by_remainder draws (length es)) lists)
    ≡ is_some (drawn_at es (pick_by_draws draws (length es)) other)
same_drawn draws [] lists other = refl
same_drawn draws (e ∷ es) lists other =
    drawn_some (e ∷ es) (draws 0 % suc (length es)) lists (omega arith)
    ∙ sym (drawn_some (e ∷ es) (pick_by_draws draws (suc (length es))) other (selected_below draws 0 (length es)))

module _ (family : Family) (config : Config) (draws : ℕ → ℕ) where
  abbrev by_draws : Setting
  by_draws = setting_of family config

  abbrev by_remainder : Setting
  by_remainder = with_pick pick_by_remainder by_draws

  same_found : (es : List Endpoint) (lists : RecentParts) (found : Option (Endpoint × ℕ))
      → is_some (found_or by_remainder draws es lists found) ≡ is_some (found_or by_draws draws es lists found)
  same_found es lists None = same_drawn draws es lists lists
  same_found es lists (Some p) = refl

  still_some : (name : Endpoint → List ℕ) (source : AddressParts) (now : ℕ) (c : Option Chosen)
      → is_some (remembered name source now c) ≡ is_some c
  still_some name source now None = refl
  still_some name source now (Some c) = refl

  same_choice : (port : PortKey) (affinity : Option ℕ) (source : AddressParts) (now : ℕ) (es : List Endpoint) (lists : RecentParts)
      → is_some (chosen_endpoint by_remainder port affinity source now draws es lists)
      ≡ is_some (chosen_endpoint by_draws port affinity source now draws es lists)
  same_choice port None source now es lists = same_drawn draws es lists lists
  same_choice port (Some seconds) source now es lists =
      let name = recent_name by_draws port in
      let look = live_endpoint name source now seconds 0 es lists in
      still_some name source now (found_or by_remainder draws es look.lists look.found)
      ∙ same_found es look.lists look.found
      ∙ sym (still_some name source now (found_or by_draws draws es look.lists look.found))

  of_choices : (d : Door) (o : Offer) (a b : Option Chosen) → is_some a ≡ is_some b
      → option_map door_and_list (option_map (λ c. record { door = d; offer = o; chosen = c }) a)
      ≡ option_map door_and_list (option_map (λ c. record { door = d; offer = o; chosen = c }) b)
  of_choices d o None None h = refl
  of_choices d o None (Some b) h = absurd (cc)
  of_choices d o (Some a) None h = absurd (cc)
  of_choices d o (Some a) (Some b) h = refl

  of_door : (packet : Packet) (lists : RecentParts) (found : Option Door)
      → option_map door_and_list (option_and_then (translation_at by_remainder packet draws lists) found)
      ≡ option_map door_and_list (option_and_then (translation_at by_draws packet draws lists) found)
  of_door packet lists None = refl
  of_door packet lists (Some d) =
      let offer = offer_of by_draws.config packet d in
      of_choices d offer (choice_at by_remainder packet draws lists d) (choice_at by_draws packet draws lists d)
      (same_choice d.info.key d.info.affinity packet.source packet.now offer.endpoints lists)

pub same_door_and_list : SameDoorAndList
same_door_and_list family config infos packet draws lists =
    of_door family config draws packet lists (taking_door (setting_of family config).config infos packet)

pub same_where_found : SameWhereFound
same_where_found family config port seconds source now draws es lists e found =
    let setting = setting_of family config in
    let name = recent_name setting port in
    let look = live_endpoint name source now seconds 0 es lists in
    ap (λ o. remembered name source now (found_or (with_pick pick_by_remainder setting) draws es look.lists o)) found
    ∙ sym (ap (λ o. remembered name source now (found_or setting draws es look.lists o)) found)
