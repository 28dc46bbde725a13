-- Decisions one after another, with the recent lists given as a list of their parts.
use Rattle.std.proofs.Common.{◌≡◌, ℕ, suc, Bool, true, false, cond, not, List, [], ◌∷◌, filter, take, length, Option, Some, None, option_and_then, option_map, slice_get, refl, sym, ap, ◌∙◌}
use Rattle.std.specs.Prelude.{unwrap_or}
use Rattle.std.specs.List.{list_any}
use Rattle.std.specs.Cmp.{IsTotalOrder}
use Rattle.std.specs.FinMap.{find, from_entries, get-from_entries, IsAntisymmetric, nat_cmp-IsAntisymmetric}
use Rattle.std.specs.Ordering.{nat_cmp}
use Rattle.std.proofs.lemmas.Cmp.{on_total, then_total, nat_cmp_total}
use Rattle.std.proofs.lemmas.Map.Lookups.{exact_pairs}
use Rattle.kp_base.proofs.KeyOrder.{text_total, text_exact}
use Rattle.kp_base.specs.Keys.{text_cmp}
use Rattle.kp_base.specs.Net.{AddressParts}
use Rattle.kp_base.specs.declared.key.Endpoint.{Endpoint}
use Rattle.kp_base.specs.declared.key.PortKey.{PortKey}
use Rattle.kp_types.specs.declared.packet.Packet.{Packet}
use Rattle.kp_types.specs.declared.decision.ChosenBy.{ChosenBy}
use Rattle.kp_types.specs.declared.decision.ChosenBy.TheVariants.{Affinity, Draws}
use Rattle.kp_types.specs.declared.decision.Decision.{Decision}
use Rattle.kp_choice_defs.specs.Draws.{selected_index, draw_of_list}
use Rattle.kp_object_defs.specs.PortInfo.{PortInfo}
use Rattle.kp_door_defs.specs.Choice.{Chosen, Look, live_endpoint, drawn_as, found_or, found_or_drawn, remembered, chosen_endpoint, recent_name}
use Rattle.kp_door_defs.specs.Decision.{Decided, Translation, translation_at, lists_after, refused_by, passed, by_filter, decision_by, decision_from}
use Rattle.kp_door_defs.specs.Doors.{Door, offer_of, taking_door}
use Rattle.kp_door_defs.specs.Filter.{Line, Refusal, Rejects, DropsClosed, DropsNoLocal}
use Rattle.kp_worked.proofs.MapLists.{without, removed_are}
use Rattle.kp_worked.specs.Affinity.{answers}
use Rattle.kp_worked.specs.Setting.{setting}
use Rattle.kp_choice_defs.specs.Recent.{Sighting, Shard, shard_cmp, RecentParts, shard_of, sightings, is_within, is_of, is_live, with_sightings, reaped, set_at}

-- the parts of recent lists, in any order
abbrev Parts : Type 0
Parts = List (Shard × List Sighting)

abbrev pub listed : ℕ → Parts → RecentParts
listed size parts = record { size = size; parts = from_entries parts }

shard_total : IsTotalOrder shard_cmp
shard_total = then_total (on_total (λ s. s.list) text_total) (on_total (λ s. s.part) nat_cmp_total)

shard_exact : IsAntisymmetric shard_cmp
shard_exact a b h =
    ap (λ (p : List ℕ × ℕ). record { list = p.0; part = p.1 }) (exact_pairs text_cmp nat_cmp text_exact nat_cmp-IsAntisymmetric (a.list, a.part) (b.list, b.part) h)

-- ---- Parts

abbrev found_in : Parts → Shard → List Sighting
found_in parts at = unwrap_or (find shard_cmp at parts) []

abbrev placed : Parts → Shard → List Sighting → Parts
placed parts at [] = without shard_cmp at parts
placed parts at (s ∷ ss) = (at, s ∷ ss) ∷ parts

-- what stands in a part
sightings_are : (size : ℕ) (parts : Parts) (at : Shard) → sightings (listed size parts) at ≡ found_in parts at
sightings_are size parts at = ap (λ o. unwrap_or o []) (get-from_entries shard_total parts at)

placed_are : (size : ℕ) (parts : Parts) (at : Shard) (ss : List Sighting) → with_sightings (listed size parts) at ss ≡ listed size (placed parts at ss)
placed_are size parts at [] = ap (λ m. record { size = size; parts = m }) (sym (removed_are shard_total shard_exact parts at))
placed_are size parts at (s ∷ ss) = refl

-- ---- Recent lists

module _ (size : ℕ) (list : List ℕ) (source : AddressParts) (now : ℕ) where
  abbrev live_in : ℕ → Parts → Bool
  live_in seconds parts = list_any (is_within now seconds) (filter (is_of source) (found_in parts (shard_of list source)))

  live_is : (seconds : ℕ) (parts : Parts) → is_live (listed size parts) list source now seconds ≡ live_in seconds parts
  live_is seconds parts = ap (λ ss. list_any (is_within now seconds) (filter (is_of source) ss)) (sightings_are size parts (shard_of list source))

  abbrev reaped_in : ℕ → Parts → Parts
  reaped_in seconds parts = placed parts (shard_of list source) (filter (is_within now seconds) (found_in parts (shard_of list source)))

  reaped_is : (seconds : ℕ) (parts : Parts) → reaped (listed size parts) list source now seconds ≡ listed size (reaped_in seconds parts)
  reaped_is seconds parts =
      ap (λ ss. with_sightings (listed size parts) (shard_of list source) (filter (is_within now seconds) ss)) (sightings_are size parts (shard_of list source))
      ∙ placed_are size parts (shard_of list source) (filter (is_within now seconds) (found_in parts (shard_of list source)))

  abbrev set_in : Parts → Parts
  set_in parts =
      placed parts (shard_of list source)
      (take size (record { source = source; moment = now } ∷ filter (λ s. not (is_of source s)) (found_in parts (shard_of list source))))

  set_is : (parts : Parts) → set_at (listed size parts) list source now ≡ listed size (set_in parts)
  set_is parts =
      ap (λ ss. with_sightings (listed size parts) (shard_of list source) (take size (record { source = source; moment = now } ∷ filter (λ s. not (is_of source s)) ss)))
      (sightings_are size parts (shard_of list source))
      ∙ placed_are size parts (shard_of list source) _

-- ---- The choice

-- an endpoint and its place, if one was found, and the parts
abbrev Found : Type 0
Found = Option (Endpoint × ℕ) × Parts

abbrev as_look : ℕ → Found → Look
as_look size f = record { found = f.0; lists = listed size f.1 }

through_look : (size : ℕ) (b : Bool) (f g : Found) → cond b (as_look size f) (as_look size g) ≡ as_look size (cond b f g)
through_look size true f g = refl
through_look size false f g = refl

module _ (size : ℕ) (name : Endpoint → List ℕ) (source : AddressParts) (now seconds : ℕ) where
  abbrev look_in : ℕ → List Endpoint → Parts → Found
  look_in place [] parts = (None, parts)
  look_in place (e ∷ es) parts =
      cond (live_in size (name e) source now seconds parts) (Some (e, place), reaped_in size (name e) source now seconds parts)
      (look_in (suc place) es (reaped_in size (name e) source now seconds parts))

  look_is : (place : ℕ) (es : List Endpoint) (parts : Parts) → live_endpoint name source now seconds place es (listed size parts) ≡ as_look size (look_in place es parts)
  look_is place [] parts = refl
  look_is place (e ∷ es) parts =
      (λ i. cond (live_is size (name e) source now seconds parts i)
      (record { found = Some (e, place); lists = reaped_is size (name e) source now seconds parts i })
      (live_endpoint name source now seconds (suc place) es (reaped_is size (name e) source now seconds parts i)))
      ∙ ap (cond (live_in size (name e) source now seconds parts) (as_look size (Some (e, place), reaped_in size (name e) source now seconds parts)))
      (look_is (suc place) es (reaped_in size (name e) source now seconds parts))
      ∙ through_look size (live_in size (name e) source now seconds parts) _ _

-- a choice, and the parts
record Choice : Type 0 where
  endpoint : Endpoint
  place : ℕ
  by : ChosenBy
  parts : Parts

abbrev as_chosen : ℕ → Choice → Chosen
as_chosen size c = record { endpoint = c.endpoint; place = c.place; by = c.by; lists = listed size c.parts }

abbrev as_choice : ℕ → Option Choice → Option Chosen
as_choice size None = None
as_choice size (Some c) = Some (as_chosen size c)

abbrev drawn_in : ℕ → Parts → Option Endpoint → Option Choice
drawn_in place parts None = None
drawn_in place parts (Some e) = Some (record { endpoint = e; place = place; by = Draws; parts = parts })

drawn_is : (size place : ℕ) (parts : Parts) (e : Option Endpoint) → option_map (drawn_as place (listed size parts)) e ≡ as_choice size (drawn_in place parts e)
drawn_is size place parts None = refl
drawn_is size place parts (Some e) = refl

abbrev found_or_in : (ℕ → ℕ) → List Endpoint → Parts → Option (Endpoint × ℕ) → Option Choice
found_or_in draws es parts None = drawn_in (selected_index draws 0 (length es)) parts (slice_get es (selected_index draws 0 (length es)))
found_or_in draws es parts (Some p) = Some (record { endpoint = p.0; place = p.1; by = Affinity; parts = parts })

found_or_is : (size : ℕ) (draws : ℕ → ℕ) (es : List Endpoint) (parts : Parts) (p : Option (Endpoint × ℕ)) → found_or setting draws es (listed size parts) p ≡ as_choice size (found_or_in draws es parts p)
found_or_is size draws es parts None = drawn_is size _ parts (slice_get es (selected_index draws 0 (length es)))
found_or_is size draws es parts (Some p) = refl

abbrev remembered_in : ℕ → (Endpoint → List ℕ) → AddressParts → ℕ → Option Choice → Option Choice
remembered_in size name source now None = None
remembered_in size name source now (Some c) = Some (record c { parts = set_in size (name c.endpoint) source now c.parts })

remembered_is : (size : ℕ) (name : Endpoint → List ℕ) (source : AddressParts) (now : ℕ) (c : Option Choice)
    → remembered name source now (as_choice size c) ≡ as_choice size (remembered_in size name source now c)
remembered_is size name source now None = refl
remembered_is size name source now (Some c) =
    ap (λ l. Some (record { endpoint = c.endpoint; place = c.place; by = c.by; lists = l })) (set_is size (name c.endpoint) source now c.parts)

abbrev choice_in : ℕ → PortKey → Option ℕ → AddressParts → ℕ → (ℕ → ℕ) → List Endpoint → Parts → Option Choice
choice_in size port None source now draws es parts = drawn_in (selected_index draws 0 (length es)) parts (slice_get es (selected_index draws 0 (length es)))
choice_in size port (Some seconds) source now draws es parts =
    let name = recent_name setting port in
    let found = look_in size name source now seconds 0 es parts in
    remembered_in size name source now (found_or_in draws es found.1 found.0)

choice_is : (size : ℕ) (port : PortKey) (affinity : Option ℕ) (source : AddressParts) (now : ℕ) (draws : ℕ → ℕ) (es : List Endpoint) (parts : Parts)
    → chosen_endpoint setting port affinity source now draws es (listed size parts) ≡ as_choice size (choice_in size port affinity source now draws es parts)
choice_is size port None source now draws es parts = drawn_is size _ parts (slice_get es (selected_index draws 0 (length es)))
choice_is size port (Some seconds) source now draws es parts =
    let name = recent_name setting port in
    ap (λ l. remembered name source now (found_or_drawn setting draws es l)) (look_is size name source now seconds 0 es parts)
    ∙ ap (remembered name source now) (found_or_is size draws es (look_in size name source now seconds 0 es parts).1 (look_in size name source now seconds 0 es parts).0)
    ∙ remembered_is size name source now _

-- ---- The decision

-- a choice at a door
abbrev choice_at_door : ℕ → Packet → (ℕ → ℕ) → Parts → Door → Option Choice
choice_at_door size packet draws parts d =
    choice_in size d.info.key d.info.affinity packet.source packet.now draws (offer_of setting.config packet d).endpoints parts

abbrev translated_in : ℕ → Packet → Door → Option Choice → Option Translation
translated_in size packet d None = None
translated_in size packet d (Some c) = Some (record { door = d; offer = offer_of setting.config packet d; chosen = as_chosen size c })

abbrev translation_in : ℕ → Packet → (ℕ → ℕ) → Parts → Option Door → Option Translation
translation_in size packet draws parts None = None
translation_in size packet draws parts (Some d) = translated_in size packet d (choice_at_door size packet draws parts d)

mapped : (size : ℕ) (packet : Packet) (d : Door) (c : Option Choice)
    → option_map (λ c. record { door = d; offer = offer_of setting.config packet d; chosen = c }) (as_choice size c) ≡ translated_in size packet d c
mapped size packet d None = refl
mapped size packet d (Some c) = refl

translation_is : (size : ℕ) (packet : Packet) (draws : ℕ → ℕ) (parts : Parts) (d : Option Door)
    → option_and_then (translation_at setting packet draws (listed size parts)) d ≡ translation_in size packet draws parts d
translation_is size packet draws parts None = refl
translation_is size packet draws parts (Some d) =
    ap (λ c. option_map (λ c. record { door = d; offer = offer_of setting.config packet d; chosen = c }) c)
    (choice_is size d.info.key d.info.affinity packet.source packet.now draws (offer_of setting.config packet d).endpoints parts)
    ∙ mapped size packet d (choice_at_door size packet draws parts d)

-- the parts after a translation
abbrev parts_of : Parts → Option Choice → Parts
parts_of parts None = parts
parts_of parts (Some c) = c.parts

abbrev parts_after : ℕ → Packet → (ℕ → ℕ) → Parts → Option Door → Parts
parts_after size packet draws parts None = parts
parts_after size packet draws parts (Some d) = parts_of parts (choice_at_door size packet draws parts d)

after_choice : (size : ℕ) (packet : Packet) (d : Door) (parts : Parts) (c : Option Choice) → lists_after (translated_in size packet d c) (listed size parts) ≡ listed size (parts_of parts c)
after_choice size packet d parts None = refl
after_choice size packet d parts (Some c) = refl

lists_after_is : (size : ℕ) (packet : Packet) (draws : ℕ → ℕ) (parts : Parts) (d : Option Door)
    → lists_after (translation_in size packet draws parts d) (listed size parts) ≡ listed size (parts_after size packet draws parts d)
lists_after_is size packet draws parts None = refl
lists_after_is size packet draws parts (Some d) = after_choice size packet d parts (choice_at_door size packet draws parts d)

-- the filter keeps the recent lists
kept_by : (r : Refusal) (d : Door) (lists : RecentParts) → (refused_by r d lists).lists ≡ lists
kept_by Rejects d lists = refl
kept_by DropsClosed d lists = refl
kept_by DropsNoLocal d lists = refl

kept_by_passing : (packet : Packet) (t : Option Translation) (lists : RecentParts) → (passed setting.config packet t lists).lists ≡ lists
kept_by_passing packet None lists = refl
kept_by_passing packet (Some t) lists = refl

kept : (packet : Packet) (t : Option Translation) (lists : RecentParts) (line : Option Line) → (by_filter setting.config packet t lists line).lists ≡ lists
kept packet t lists None = kept_by_passing packet t lists
kept packet t lists (Some line) = kept_by line.refusal line.door lists

-- ---- Decisions one after another

module _ (size : ℕ) (ports : List PortInfo) where
  -- the decision on a packet
  abbrev decided_in : Packet × List ℕ → Parts → Decided
  decided_in p parts =
      decision_by setting.config ports p.0 (listed size parts)
      (translation_in size p.0 (draw_of_list p.1) parts (taking_door setting.config ports p.0))

  decided_is : (p : Packet × List ℕ) (parts : Parts) → decision_from setting ports p.0 (draw_of_list p.1) (listed size parts) ≡ decided_in p parts
  decided_is p parts = ap (decision_by setting.config ports p.0 (listed size parts)) (translation_is size p.0 (draw_of_list p.1) parts (taking_door setting.config ports p.0))

  abbrev next_parts : Packet × List ℕ → Parts → Parts
  next_parts p parts = parts_after size p.0 (draw_of_list p.1) parts (taking_door setting.config ports p.0)

  next_is : (p : Packet × List ℕ) (parts : Parts) → (decided_in p parts).lists ≡ listed size (next_parts p parts)
  next_is p parts =
      kept p.0 (translation_in size p.0 (draw_of_list p.1) parts (taking_door setting.config ports p.0)) _ _
      ∙ lists_after_is size p.0 (draw_of_list p.1) parts (taking_door setting.config ports p.0)

  abbrev pub answers_in : List (Packet × List ℕ) → Parts → List Decision
  answers_in [] parts = []
  answers_in (p ∷ ps) parts =
      record { verdict = (decided_in p parts).verdict; reason = (decided_in p parts).reason } ∷ answers_in ps (next_parts p parts)

  pub answers_are : (ps : List (Packet × List ℕ)) (parts : Parts) → answers ports ps (listed size parts) ≡ answers_in ps parts
  answers_are [] parts = refl
  answers_are (p ∷ ps) parts =
      ap (λ d. record { verdict = d.verdict; reason = d.reason } ∷ answers ports ps d.lists) (decided_is p parts)
      ∙ ap (λ l. record { verdict = (decided_in p parts).verdict; reason = (decided_in p parts).reason } ∷ answers ports ps l) (next_is p parts)
      ∙ ap (λ rest. record { verdict = (decided_in p parts).verdict; reason = (decided_in p parts).reason } ∷ rest) (answers_are ps (next_parts p parts))
