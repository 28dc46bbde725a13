-- Draws reach a choice by its pick alone, and draws that reach each place.
use Rattle.std.proofs.Common.{◌≡◌, ℕ, zero, suc, ◌+◌, ◌-◌, ◌*◌, ◌/◌, ◌%◌, ◌^◌, ◌<◌, ◌≤◌, ◌==◌, ◌&&◌, ◌||◌, min, Bool, true, false, not, nat_lt, cond, if◌then◌else◌, List, [], ◌∷◌, length, map, slice_get, Option, Some, None, option_and_then, option_map, refl, sym, ap, subst, ◌∙◌, arith}
use Rattle.std.specs.List.{range_with_len}
use Rattle.std.proofs.Math.Nat.{div-le_of_le-mul, mod-lt}
use Rattle.std.proofs.lemmas.Nat.{div-add-mod'}
use Rattle.std.proofs.lemmas.Bool.{and_parts}
use Rattle.std.proofs.lemmas.Bool.Decides.{nat_tests}
use Rattle.std.proofs.lemmas.List.FromFn.{length-map-range_with_len}
use Rattle.kp_base.specs.Net.{AddressParts}
use Rattle.kp_base.specs.declared.key.Endpoint.{Endpoint}
use Rattle.kp_base.specs.declared.key.PortKey.{PortKey}
use Rattle.kp_types.specs.Packets.{family_of_packet}
use Rattle.kp_types.specs.Setting.{Pick, Setting, view_of}
use Rattle.kp_types.specs.declared.packet.Packet.{Packet}
use Rattle.kp_choice_defs.specs.Draws.{draw_at, draw_matches, probability_of, selected_index}
use Rattle.kp_choice_defs.specs.Recent.{RecentParts}
use Rattle.kp_choice_defs.specs.Settings.{pick_by_draws, settings_of}
use Rattle.kp_object_defs.specs.Desired.{is_empty}
use Rattle.kp_object_defs.specs.PortInfo.{PortInfo, infos_by_family}
use Rattle.kp_door_defs.specs.Choice.{Chosen, chosen_endpoint, drawn_at, found_or, live_endpoint, recent_name, remembered}
use Rattle.kp_door_defs.specs.Decision as decision
use Rattle.kp_door_defs.specs.Decision.{Translation, choice_at, decision_by, decision_if, left_alone, translation_of}
use Rattle.kp_door_defs.specs.Doors.{Door, Offer, doors_of, fits, offer_of, taking_door, takes}
use Rattle.kp_choice_defs.proofs.Rounding.{half_even_le}
use Rattle.kp_change_laws.proofs.DoorKinds.{found}
use Rattle.kp_walk_laws.proofs.Translations.{selected_below}
use Rattle.kp_path_defs.specs.Paths.{at_place, path_at, path_count, paths_among, picked_from}
use Rattle.kp_path_laws.specs.DrawLaws.{DecidedByPath, DecidedWithTables, DecidedWithoutTables, IsOfPath, PathByDraws, PathWithTables, PathsByPlace, PicksPlaces, draws_to}

-- ---- Paths by place

mapped_at : {X : Type 0} (f : ℕ → X) (a n i : ℕ) → i < n
    → slice_get (map f (range_with_len a n)) i ≡ Some (f (a + i))
mapped_at f a zero i h = absurd (omega arith)
mapped_at f a (suc n) zero h = ap (λ k. Some (f k)) (omega arith)
mapped_at f a (suc n) (suc i) h =
    mapped_at f (a + 1) n i (omega arith) ∙ ap (λ k. Some (f k)) (omega arith)

pub paths_by_place : PathsByPlace
paths_by_place setting infos packet lists =
    let count = paths_among setting infos packet lists in (
      length-map-range_with_len (path_at setting infos packet lists) 0 count,
      λ place below. mapped_at (path_at setting infos packet lists) 0 count place below
          ∙ ap (λ k. Some (path_at setting infos packet lists k)) (omega arith),
    )

-- ---- Choices

-- how many places a choice of a list may have
abbrev pub count_of : List Endpoint → Option Chosen → ℕ
count_of es None = 1
count_of es (Some c) = picked_from c.by (length es)

module _ (setting : Setting) (draws : ℕ → ℕ) (es : List Endpoint) where
  -- the choice by draws is one by its place, of those that there are
  abbrev IsPlaced : Option Chosen → (ℕ → Option Chosen) → Type 0
  IsPlaced choice at = (place : ℕ) × (place < count_of es (at 0)) × (choice ≡ at place)

-- of a list that isn't empty the first place has an endpoint
drawn_count : (e : Endpoint) (es : List Endpoint) (lists : RecentParts)
    → count_of (e ∷ es) (drawn_at (e ∷ es) 0 lists) ≡ length (e ∷ es)
drawn_count e es lists = refl

pub remembered_count : (name : Endpoint → List ℕ) (source : AddressParts) (now : ℕ)
    (es : List Endpoint) (c : Option Chosen)
    → count_of es (remembered name source now c) ≡ count_of es c
remembered_count name source now es None = refl
remembered_count name source now es (Some c) = refl

module _ (setting : Setting) (draws : ℕ → ℕ) (e : Endpoint) (es : List Endpoint)
    (below : setting.pick draws (suc (length es)) < suc (length es)) where
  abbrev here : List Endpoint
  here = e ∷ es

  abbrev pick : ℕ
  pick = setting.pick draws (length here)

  found_placed : (name : Endpoint → List ℕ) (source : AddressParts) (now : ℕ) (lists : RecentParts)
      (found : Option (Endpoint × ℕ))
      → IsPlaced setting draws here
      (remembered name source now (found_or setting draws here lists found))
      (λ place. remembered name source now
      (found_or (at_place place setting) (λ _draw. 0) here lists found))
  found_placed name source now lists None = (
    pick,
    subst (λ n. pick < n)
        (sym (remembered_count name source now here (drawn_at here 0 lists))) below,
    refl,
  )
  found_placed name source now lists (Some p) = (0, omega arith, refl)

  placed : (port : PortKey) (affinity : Option ℕ) (source : AddressParts) (now : ℕ)
      (lists : RecentParts)
      → IsPlaced setting draws here
      (chosen_endpoint setting port affinity source now draws here lists)
      (λ place. chosen_endpoint (at_place place setting) port affinity source now (λ _draw. 0) here
      lists)
  placed port None source now lists = (pick, below, refl)
  placed port (Some seconds) source now lists =
      let look = live_endpoint (recent_name setting port) source now seconds 0 here lists in
      found_placed (recent_name setting port) source now look.lists look.found

-- ---- Translations

pub count_of_translation : (d : Door) (o : Offer) (c : Option Chosen)
    → path_count (option_map (λ x. record { door = d; offer = o; chosen = x }) c)
    ≡ count_of o.endpoints c
count_of_translation d o None = refl
count_of_translation d o (Some c) = refl

module _ (setting : Setting) (infos : List PortInfo) (packet : Packet) (draws : ℕ → ℕ)
    (lists : RecentParts) where
  -- the translation by draws is that for which a place is picked
  abbrev IsTranslated : Option Door → Type 0
  IsTranslated taken =
      (place : ℕ) × (place < path_count
      (option_and_then (decision.translation_at (at_place 0 setting) packet (λ _draw. 0) lists)
      taken))
      × (option_and_then (decision.translation_at setting packet draws lists) taken
      ≡ option_and_then (decision.translation_at (at_place place setting) packet (λ _draw. 0) lists)
      taken)

  of_choice : (d : Door)
      → IsPlaced setting draws (offer_of setting.config packet d).endpoints
      (choice_at setting packet draws lists d)
      (λ place. choice_at (at_place place setting) packet (λ _draw. 0) lists d)
      → IsTranslated (Some d)
  of_choice d (place, below, same) =
      let offer = offer_of setting.config packet d in (
        place,
        subst (λ n. place < n)
            (sym (count_of_translation d offer
            (choice_at (at_place 0 setting) packet (λ _draw. 0) lists d))) below,
        ap (option_map (λ x. record { door = d; offer = offer; chosen = x })) same,
      )

  module _ (below : PicksPlaces setting.pick) where
    of_offer : (d : Door) (es : List Endpoint) → not (is_empty es) ≡ true
        → IsPlaced setting draws es
        (chosen_endpoint setting d.info.key d.info.affinity packet.source packet.now draws es
        lists)
        (λ place. chosen_endpoint (at_place place setting) d.info.key d.info.affinity packet.source
        packet.now (λ _draw. 0) es lists)
    of_offer d [] h = absurd (cc)
    of_offer d (e ∷ es) h = placed setting draws e es (below draws (suc (length es)) (omega arith))
        d.info.key d.info.affinity packet.source packet.now lists

    of_taken : (taken : Option Door) → taking_door setting.config infos packet ≡ taken
        → IsTranslated taken
    of_taken None h = (0, omega arith, refl)
    of_taken (Some d) h =
        let (there, takes_it) = found (takes setting.config packet) (doors_of infos) d h in
        let offers = (and_parts (fits setting.config.addresses packet d)
        (not (is_empty (offer_of setting.config packet d).endpoints)) takes_it).1 in
        of_choice d (of_offer d (offer_of setting.config packet d).endpoints offers)

pub decided_by_path : DecidedByPath
decided_by_path setting infos packet draws lists below =
    let (place, fewer, same) = of_taken setting infos packet draws lists below
    (taking_door setting.config infos packet) refl in
    (place, fewer, ap (decision_by setting.config infos packet lists) same)

-- ---- By the objects

pick_places : PicksPlaces pick_by_draws
pick_places draws zero h = absurd (omega arith)
pick_places draws (suc n) h = selected_below draws 0 n

pub decided_with_tables : DecidedWithTables
decided_with_tables config o packet draws lists has =
    let settings = settings_of config in
    let family = family_of_packet packet in
    let setting = view_of family settings in
    let infos = infos_by_family settings o family in
    subst (λ b. IsOfPath setting infos packet lists
    (decision_if b setting infos packet draws lists)) (sym has)
    (decided_by_path setting infos packet draws lists pick_places)

pub decided_without_tables : DecidedWithoutTables
decided_without_tables config o packet draws lists has =
    let settings = settings_of config in
    let family = family_of_packet packet in
    ap (λ b. decision_if b (view_of family settings) (infos_by_family settings o family) packet
    draws lists) has

-- ---- Draws that reach a place

least : (q n r : ℕ) → q * n + r ≡ 10 ^ 10 → r < n → n < 4 * 10 ^ 9
    → 3 ≤ (if nat_lt (2 * r) n || ((2 * r == n) && (q % 2 == 0)) then q else q + 1)
least zero n r is rest few = absurd (omega (arith, is, rest, few))
least (suc zero) n r is rest few = absurd (omega (arith, is, rest, few))
least (suc (suc zero)) n r is rest few =
    let test : (nat_lt (2 * r) n || ((2 * r == n) && true))
    ≡ false = grind (arith, nat_tests, is, rest, few) in
    subst (λ b. 3 ≤ (if b then 2 else 2 + 1)) (sym test) (omega arith)
least (suc (suc (suc q))) n r is rest few = rounded
    (nat_lt (2 * r) n || ((2 * r == n) && (suc (suc (suc q)) % 2 == 0)))
  where
    rounded : (b : Bool) → 3 ≤ (if b then suc (suc (suc q)) else suc (suc (suc q)) + 1)
    rounded true = omega arith
    rounded false = omega arith

-- of fewer than 4 · 10^9 endpoints each test matches at 0
share_at_least : (n : ℕ) → 0 < n → n < 4 * 10 ^ 9 → 3 ≤ probability_of n
share_at_least n some few =
    least (10 ^ 10 / n) n (10 ^ 10 % n) (div-add-mod' (10 ^ 10) n) (mod-lt (10 ^ 10) some) few

matches_at_zero : (n : ℕ) → 0 < n → n < 4 * 10 ^ 9 → draw_matches (probability_of n) 0 ≡ true
matches_at_zero n some few =
    let least = share_at_least n some few in grind (arith, nat_tests, least)

-- and none of more than one at the greatest draw
pub share_at_most : (n : ℕ) → 1 < n → probability_of n ≤ 5 * 10 ^ 9 + 1
share_at_most n more =
    let rounded = half_even_le (10 ^ 10) n in
    let quotient : 10 ^ 10 / n ≤ 5 * 10 ^ 9 = div-le_of_le-mul n (omega (arith, more)) in
    omega (arith, rounded, quotient)

misses_at_most : (n : ℕ) → 1 < n → draw_matches (probability_of n) 2147483647 ≡ false
misses_at_most n more =
    let most = share_at_most n more in grind (arith, nat_tests, most)

-- the draw of a test at its place, or before it
draw_there : (k : ℕ) → k < 4 * 10 ^ 9 → draw_at (draws_to (k + 0)) k ≡ 0
draw_there k few =
    let test : nat_lt (min k (2 ^ 32 - 1)) (k + 0) ≡ false = grind (arith, nat_tests, few) in
    ap (λ b. cond b 2147483647 0) test

draw_before : (k place : ℕ) → k < 4 * 10 ^ 9 → draw_at (draws_to (k + suc place)) k ≡ 2147483647
draw_before k place few =
    let test : nat_lt (min k (2 ^ 32 - 1)) (k + suc place) ≡ true = grind (arith, nat_tests, few) in
    ap (λ b. cond b 2147483647 0) test

reaches : (place k n : ℕ) → place < n → k + n < 4 * 10 ^ 9
    → selected_index (draws_to (k + place)) k n ≡ place
reaches place k zero below few = absurd (omega arith)
reaches zero k (suc zero) below few = refl
reaches (suc place) k (suc zero) below few = absurd (omega arith)
reaches zero k (suc (suc n)) below few =
    let test = ap (draw_matches (probability_of (suc (suc n)))) (draw_there k (omega arith))
    ∙ matches_at_zero (suc (suc n)) (omega arith) (omega arith) in
    ap (λ b. if b then 0 else suc (selected_index (draws_to (k + 0)) (suc k) (suc n))) test
reaches (suc place) k (suc (suc n)) below few =
    let draws = draws_to (k + suc place) in
    let test = ap (draw_matches (probability_of (suc (suc n)))) (draw_before k place (omega arith))
    ∙ misses_at_most (suc (suc n)) (omega arith) in
    ap (λ b. if b then 0 else suc (selected_index draws (suc k) (suc n))) test
    ∙ ap (λ to. suc (selected_index (draws_to to) (suc k) (suc n))) (omega arith)
    ∙ ap suc (reaches place (suc k) (suc n) (omega arith) (omega arith))

-- ---- Each place by its draws

module _ (setting : Setting) (by_draws : setting.pick ≡ pick_by_draws) (place : ℕ) where
  -- the choice by these draws is that at the place
  abbrev IsReached : List Endpoint → Option Chosen → (ℕ → Option Chosen) → Type 0
  IsReached es choice at = count_of es (at 0) < 4 * 10 ^ 9 → place < count_of es (at 0) → choice
      ≡ at place

  drawn_to : (es : List Endpoint) (lists : RecentParts)
      → IsReached es (drawn_at es (setting.pick (draws_to place) (length es)) lists)
      (λ p. drawn_at es p lists)
  drawn_to [] lists few below = refl
  drawn_to (e ∷ es) lists few below =
      ap (λ (pick : Pick). drawn_at (e ∷ es) (pick (draws_to place) (length (e ∷ es))) lists)
      by_draws
      ∙ ap (λ to. drawn_at (e ∷ es) (selected_index (draws_to to) 0 (length (e ∷ es))) lists)
      (omega arith)
      ∙ ap (λ p. drawn_at (e ∷ es) p lists)
      (reaches place 0 (length (e ∷ es)) below (omega (arith, few)))

  found_to : (name : Endpoint → List ℕ) (source : AddressParts) (now : ℕ) (es : List Endpoint)
      (lists : RecentParts) (found : Option (Endpoint × ℕ))
      → IsReached es (remembered name source now (found_or setting (draws_to place) es lists found))
      (λ p. remembered name source now (found_or (at_place p setting) (λ _draw. 0) es lists found))
  found_to name source now es lists None few below =
      let count = remembered_count name source now es (drawn_at es 0 lists) in
      ap (remembered name source now)
      (drawn_to es lists (subst (λ n. n < 4 * 10 ^ 9) count few)
      (subst (λ n. place < n) count below))
  found_to name source now es lists (Some p) few below = refl

  chosen_to : (port : PortKey) (affinity : Option ℕ) (source : AddressParts) (now : ℕ)
      (es : List Endpoint) (lists : RecentParts)
      → IsReached es (chosen_endpoint setting port affinity source now (draws_to place) es lists)
      (λ p. chosen_endpoint (at_place p setting) port affinity source now (λ _draw. 0) es lists)
  chosen_to port None source now es lists = drawn_to es lists
  chosen_to port (Some seconds) source now es lists =
      let look = live_endpoint (recent_name setting port) source now seconds 0 es lists in
      found_to (recent_name setting port) source now es look.lists look.found

  module _ (packet : Packet) (lists : RecentParts) where
    translated_to : (taken : Option Door)
        → path_count (option_and_then
        (decision.translation_at (at_place 0 setting) packet (λ _draw. 0) lists) taken) < 4 * 10
        ^ 9
        → place < path_count (option_and_then
        (decision.translation_at (at_place 0 setting) packet (λ _draw. 0) lists) taken)
        → option_and_then (decision.translation_at setting packet (draws_to place) lists) taken
        ≡ option_and_then (decision.translation_at (at_place place setting) packet (λ _draw. 0)
        lists) taken
    translated_to None few below = refl
    translated_to (Some d) few below =
        let offer = offer_of setting.config packet d in
        let count = count_of_translation d offer
        (choice_at (at_place 0 setting) packet (λ _draw. 0) lists d) in
        ap (option_map (λ x. record { door = d; offer = offer; chosen = x }))
        (chosen_to d.info.key d.info.affinity packet.source packet.now offer.endpoints lists
        (subst (λ n. n < 4 * 10 ^ 9) count few) (subst (λ n. place < n) count below))

pub path_by_draws : PathByDraws
path_by_draws setting infos packet lists place by_draws few below =
    ap (decision_by setting.config infos packet lists)
    (translated_to setting by_draws place packet lists (taking_door setting.config infos packet) few
    below)

pub path_with_tables : PathWithTables
path_with_tables config o packet lists place has few below =
    let settings = settings_of config in
    let family = family_of_packet packet in
    let setting = view_of family settings in
    let infos = infos_by_family settings o family in
    ap (λ b. decision_if b setting infos packet (draws_to place) lists) has
    ∙ path_by_draws setting infos packet lists place refl few below
