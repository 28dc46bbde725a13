-- The paths of a list are sent to its endpoints, in order.
use Rattle.std.proofs.Common.{◌≡◌, ℕ, zero, suc, ◌+◌, List, [], ◌∷◌, ◌++◌, length, map, slice_get, Option, Some, None, option_and_then, option_map, flat_map, refl, sym, ap, ◌∙◌, arith}
use Rattle.std.specs.List.{range_with_len}
use Rattle.std.specs.Option.{option_to_list}
use Rattle.kp_base.specs.Net.{AddressParts}
use Rattle.kp_base.specs.declared.key.Endpoint.{Endpoint}
use Rattle.kp_base.specs.declared.key.PortKey.{PortKey}
use Rattle.kp_types.specs.Setting.{Setting}
use Rattle.kp_types.specs.declared.packet.Packet.{Packet}
use Rattle.kp_choice_defs.specs.Recent.{RecentParts}
use Rattle.kp_door_defs.specs.Choice.{Chosen, chosen_endpoint, drawn_as, drawn_at, found_or, live_endpoint, recent_name, remembered}
use Rattle.kp_door_defs.specs.Decision as decision
use Rattle.kp_door_defs.specs.Decision.{Translation, choice_at}
use Rattle.kp_door_defs.specs.Doors.{Door, Offer, offer_of, taking_door}
use Rattle.kp_path_defs.specs.Asides.{reached, reached_by}
use Rattle.kp_path_defs.specs.Paths.{at_place, path_at, path_count, paths_among}
use Rattle.kp_path_laws.proofs.Draws.{count_of, count_of_translation, remembered_count}
use Rattle.kp_path_laws.specs.EndpointLaws.{PathsReach, sent_by}

-- ---- Pieces over a range

module _ {A : Type 0} where
  pieces_of_map : {X Y : Type 0} (f : Y → List A) (g : X → Y) (xs : List X) → flat_map f (map g xs)
      ≡ flat_map (λ x. f (g x)) xs
  pieces_of_map f g [] = refl
  pieces_of_map f g (x ∷ xs) = ap (λ rest. f (g x) ++ rest) (pieces_of_map f g xs)

  same_pieces : {X : Type 0} (f g : X → List A) → ((x : X) → f x ≡ g x) → (xs : List X)
      → flat_map f xs ≡ flat_map g xs
  same_pieces f g same [] = refl
  same_pieces f g same (x ∷ xs) = λ i. same x i ++ same_pieces f g same xs i

  shifted : (f : ℕ → List A) (a n : ℕ) → flat_map f (range_with_len (a + 1) n)
      ≡ flat_map (λ k. f (suc k)) (range_with_len a n)
  shifted f a zero = refl
  shifted f a (suc n) =
      ap (λ k. f k ++ flat_map f (range_with_len ((a + 1) + 1) n)) (omega arith)
      ∙ ap (λ rest. f (suc a) ++ rest) (shifted f (a + 1) n)

  -- the elements at all places are those of the list
  at_places : (xs : List A)
      → flat_map (λ k. option_to_list (slice_get xs k)) (range_with_len 0 (length xs)) ≡ xs
  at_places [] = refl
  at_places (x ∷ xs) =
      ap (λ rest. x ∷ rest)
      (shifted (λ k. option_to_list (slice_get (x ∷ xs) k)) 0 (length xs) ∙ at_places xs)

-- ---- Choices

-- the endpoint of a choice
abbrev sent_of : Option Chosen → List Endpoint
sent_of c = option_to_list (option_map (λ x. x.endpoint) c)

-- the endpoints that a choice of a list may reach
abbrev reached_of : List Endpoint → Option Chosen → List Endpoint
reached_of es None = []
reached_of es (Some c) = reached_by c.by es c.endpoint

sent_drawn : (es : List Endpoint) (place : ℕ) (lists : RecentParts)
    → sent_of (drawn_at es place lists) ≡ option_to_list (slice_get es place)
sent_drawn es place lists = by (slice_get es place)
  where
    by : (o : Option Endpoint) → sent_of (option_map (drawn_as place lists) o) ≡ option_to_list o
    by None = refl
    by (Some e) = refl

sent_remembered : (name : Endpoint → List ℕ) (source : AddressParts) (now : ℕ) (c : Option Chosen)
    → sent_of (remembered name source now c) ≡ sent_of c
sent_remembered name source now None = refl
sent_remembered name source now (Some c) = refl

reached_remembered : (name : Endpoint → List ℕ) (source : AddressParts) (now : ℕ)
    (es : List Endpoint) (c : Option Chosen) → reached_of es (remembered name source now c)
    ≡ reached_of es c
reached_remembered name source now es None = refl
reached_remembered name source now es (Some c) = refl

-- the choices at all places are sent to what is reached
abbrev Reach : List Endpoint → (ℕ → Option Chosen) → Type 0
Reach es at = flat_map (λ place. sent_of (at place)) (range_with_len 0 (count_of es (at 0)))
    ≡ reached_of es (at 0)

drawn_reach : (es : List Endpoint) (lists : RecentParts)
    → Reach es (λ place. drawn_at es place lists)
drawn_reach [] lists = refl
drawn_reach (e ∷ es) lists =
    same_pieces _ _ (λ place. sent_drawn (e ∷ es) place lists) (range_with_len 0 (length (e ∷ es)))
    ∙ at_places (e ∷ es)

module _ (setting : Setting) where
  found_reach : (name : Endpoint → List ℕ) (source : AddressParts) (now : ℕ) (es : List Endpoint)
      (lists : RecentParts) (found : Option (Endpoint × ℕ))
      → Reach es (λ place. remembered name source now
      (found_or (at_place place setting) (λ _draw. 0) es lists found))
  found_reach name source now es lists (Some p) = refl
  found_reach name source now es lists None =
      let count = remembered_count name source now es (drawn_at es 0 lists) in
      same_pieces _ _ (λ place. sent_remembered name source now (drawn_at es place lists))
      (range_with_len 0 (count_of es (remembered name source now (drawn_at es 0 lists))))
      ∙ ap (λ n. flat_map (λ place. sent_of (drawn_at es place lists)) (range_with_len 0 n)) count
      ∙ drawn_reach es lists
      ∙ sym (reached_remembered name source now es (drawn_at es 0 lists))

  chosen_reach : (port : PortKey) (affinity : Option ℕ) (source : AddressParts) (now : ℕ)
      (es : List Endpoint) (lists : RecentParts)
      → Reach es (λ place. chosen_endpoint (at_place place setting) port affinity source now
      (λ _draw. 0) es lists)
  chosen_reach port None source now es lists = drawn_reach es lists
  chosen_reach port (Some seconds) source now es lists =
      let look = live_endpoint (recent_name setting port) source now seconds 0 es lists in
      found_reach (recent_name setting port) source now es look.lists look.found

-- ---- Translations

abbrev translation_by : Door → Offer → Option Chosen → Option Translation
translation_by d offer c = option_map (λ x. record { door = d; offer = offer; chosen = x }) c

sent_translated : (d : Door) (offer : Offer) (c : Option Chosen)
    → option_to_list (option_map (λ t. t.chosen.endpoint) (translation_by d offer c)) ≡ sent_of c
sent_translated d offer None = refl
sent_translated d offer (Some c) = refl

reached_translated : (d : Door) (offer : Offer) (c : Option Chosen)
    → reached (translation_by d offer c) ≡ reached_of offer.endpoints c
reached_translated d offer None = refl
reached_translated d offer (Some c) = refl

module _ (setting : Setting) (packet : Packet) (lists : RecentParts) where
  abbrev translated_at : Option Door → ℕ → Option Translation
  translated_at taken place = option_and_then
      (decision.translation_at (at_place place setting) packet (λ _draw. 0) lists) taken

  of_taken : (taken : Option Door)
      → flat_map (λ place. option_to_list
      (option_map (λ t. t.chosen.endpoint) (translated_at taken place)))
      (range_with_len 0 (path_count (translated_at taken 0)))
      ≡ reached (translated_at taken 0)
  of_taken None = refl
  of_taken (Some d) =
      let offer = offer_of setting.config packet d in
      let choice : ℕ → Option Chosen = λ place. choice_at (at_place place setting) packet
      (λ _draw. 0) lists d in
      same_pieces _ _ (λ place. sent_translated d offer (choice place))
      (range_with_len 0 (path_count (translated_at (Some d) 0)))
      ∙ ap (λ n. flat_map (λ place. sent_of (choice place)) (range_with_len 0 n))
      (count_of_translation d offer (choice 0))
      ∙ chosen_reach setting d.info.key d.info.affinity packet.source packet.now offer.endpoints
      lists
      ∙ sym (reached_translated d offer (choice 0))

pub paths_reach : PathsReach
paths_reach setting infos packet lists =
    pieces_of_map sent_by (path_at setting infos packet lists)
    (range_with_len 0 (paths_among setting infos packet lists))
    ∙ of_taken setting packet lists (taking_door setting.config infos packet)
