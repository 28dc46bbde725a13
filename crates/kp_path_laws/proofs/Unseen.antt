-- The lines of paths by recent lists that the packet's source can't tell from others.
use Rattle.std.proofs.Common.{◌≡◌, ◌++◌, ℕ, suc, Bool, true, false, cond, List, [], ◌∷◌, Option, Some, None}
use Rattle.std.proofs.Common.{option_map, option_and_then, slice_get, length, map, refl, sym, ap, ◌∙◌}
use Rattle.std.specs.List.{range_with_len}
use Rattle.kp_base.specs.Net.{AddressParts}
use Rattle.kp_base.specs.declared.key.Endpoint.{Endpoint}
use Rattle.kp_base.specs.declared.key.PortKey.{PortKey}
use Rattle.kp_types.specs.Packets.{family_of_packet}
use Rattle.kp_types.specs.Setting.{FamilyConfig, Setting, has_tables_of, view_of}
use Rattle.kp_types.specs.declared.lists.Candidate.{Candidate}
use Rattle.kp_types.specs.declared.packet.Packet.{Packet}
use Rattle.kp_choice_defs.specs.Recent.{RecentParts, is_live, reaped}
use Rattle.kp_object_defs.specs.PortInfo.{PortInfo, infos_by_family}
use Rattle.kp_door_defs.specs.Choice.{Chosen, Look, chosen_endpoint, drawn_as, found_or, live_endpoint, recent_name, remembered, found_or_drawn}
use Rattle.kp_door_defs.specs.Decision.{Translation, choice_at, translated}
use Rattle.kp_door_defs.specs.Decision as decision
use Rattle.kp_door_defs.specs.Doors.{Door, offer_of, taking_door}
use Rattle.kp_door_defs.specs.Filter.{Line, Refusal, Rejects, DropsClosed, DropsNoLocal, filtered}
use Rattle.kp_part_laws.specs.Unseen.{IsUnseen}
use Rattle.kp_path_defs.specs.Asides.{entries_of_port}
use Rattle.kp_path_defs.specs.Chances.{chances_of}
use Rattle.kp_path_defs.specs.Paths.{Path, answering_door, at_place, path_at, path_by, path_count, paths_among, translation_at}
use Rattle.kp_path_defs.specs.PathText.{behind_text, lines_if, lines_in, path_lines, path_text}
use Rattle.kp_path_laws.specs.UnseenLaws.{LinesUnseen}

module _ (change : RecentParts → RecentParts) where
  -- what is chosen, and a translation, with changed lists
  abbrev changed_chosen : Chosen → Chosen
  changed_chosen c = record c { lists = change c.lists }

  abbrev changed : Translation → Translation
  changed t = record t { chosen = changed_chosen t.chosen }

  -- ---- A path's text tells no lists

  path_refused : (line place count chance : ℕ) (config : FamilyConfig) (packet : Packet)
      (t : Option Translation) (l : Line) (lists : RecentParts) (r : Refusal)
      → path_text line place count chance
      (record { translation = option_map changed t; decided = decision.refused_by r l.door (change lists) })
      ≡ path_text line place count chance
      (record { translation = t; decided = decision.refused_by r l.door lists })
  path_refused line place count chance config packet None l lists Rejects = refl
  path_refused line place count chance config packet None l lists DropsClosed = refl
  path_refused line place count chance config packet None l lists DropsNoLocal = refl
  path_refused line place count chance config packet (Some t) l lists Rejects = refl
  path_refused line place count chance config packet (Some t) l lists DropsClosed = refl
  path_refused line place count chance config packet (Some t) l lists DropsNoLocal = refl

  path_filtered : (line place count chance : ℕ) (config : FamilyConfig) (packet : Packet)
      (t : Option Translation) (lists : RecentParts) (l : Option Line)
      → path_text line place count chance
      (record { translation = option_map changed t; decided = decision.by_filter config packet (option_map changed t) (change lists) l })
      ≡ path_text line place count chance
      (record { translation = t; decided = decision.by_filter config packet t lists l })
  path_filtered line place count chance config packet None lists None = refl
  path_filtered line place count chance config packet (Some t) lists None = refl
  path_filtered line place count chance config packet t lists (Some l) =
      path_refused line place count chance config packet t l lists l.refusal

  path_same : (line place count chance : ℕ) (config : FamilyConfig) (infos : List PortInfo)
      (packet : Packet) (lists : RecentParts) (t : Option Translation)
      → path_text line place count chance
      (path_by config infos packet (change lists) (option_map changed t))
      ≡ path_text line place count chance (path_by config infos packet lists t)
  path_same line place count chance config infos packet lists None =
      path_filtered line place count chance config packet None lists (filtered config infos packet)
  path_same line place count chance config infos packet lists (Some t) =
      path_filtered line place count chance config packet (Some t) t.chosen.lists
      (filtered config infos (translated packet (Some t)))

  -- ---- Nor do asides and sources

  count_same : (t : Option Translation) → path_count (option_map changed t) ≡ path_count t
  count_same None = refl
  count_same (Some t) = refl

  behind_same : (setting : Setting) (infos : List PortInfo) (entries : PortKey → List Candidate)
      (line : ℕ) (packet : Packet) (t : Option Translation)
      → behind_text setting infos entries line packet (option_map changed t)
      (answering_door setting.config infos packet (option_map changed t))
      ≡ behind_text setting infos entries line packet t
      (answering_door setting.config infos packet t)
  behind_same setting infos entries line packet None = refl
  behind_same setting infos entries line packet (Some t) = refl

  module _ (source : AddressParts) (unseen : IsUnseen source change) where
    -- ---- What is chosen

    abbrev changed_look : Look → Look
    changed_look l = record { found = l.found; lists = change l.lists }

    drawn_same : (place : ℕ) (lists : RecentParts) (o : Option Endpoint)
        → option_map (drawn_as place (change lists)) o ≡ option_map changed_chosen (option_map (drawn_as place lists) o)
    drawn_same place lists None = refl
    drawn_same place lists (Some e) = refl

    either_look : (b : Bool) (x y : Look) → cond b (changed_look x) (changed_look y) ≡ changed_look (cond b x y)
    either_look true x y = refl
    either_look false x y = refl

    look_same : (name : Endpoint → List ℕ) (now seconds place : ℕ) (es : List Endpoint) (lists : RecentParts)
        → live_endpoint name source now seconds place es (change lists) ≡ changed_look (live_endpoint name source now seconds place es lists)
    look_same name now seconds place [] lists = refl
    look_same name now seconds place (e ∷ es) lists =
        (λ i. cond (unseen.live lists (name e) now seconds i)
        (record { found = Some (e, place); lists = unseen.reaps lists (name e) now seconds i })
        (live_endpoint name source now seconds (suc place) es (unseen.reaps lists (name e) now seconds i)))
        ∙ ap (cond (is_live lists (name e) source now seconds) (record { found = Some (e, place); lists = change (reaped lists (name e) source now seconds) }))
        (look_same name now seconds (suc place) es (reaped lists (name e) source now seconds))
        ∙ either_look (is_live lists (name e) source now seconds) _ _

    found_same : (setting : Setting) (draws : ℕ → ℕ) (es : List Endpoint) (lists : RecentParts) (found : Option (Endpoint × ℕ))
        → found_or setting draws es (change lists) found ≡ option_map changed_chosen (found_or setting draws es lists found)
    found_same setting draws es lists None = drawn_same (setting.pick draws (length es)) lists (slice_get es (setting.pick draws (length es)))
    found_same setting draws es lists (Some p) = refl

    remembered_same : (name : Endpoint → List ℕ) (now : ℕ) (c : Option Chosen)
        → remembered name source now (option_map changed_chosen c) ≡ option_map changed_chosen (remembered name source now c)
    remembered_same name now None = refl
    remembered_same name now (Some c) = λ i. Some (record c { lists = unseen.sets c.lists (name c.endpoint) now i })

    chosen_same : (setting : Setting) (port : PortKey) (affinity : Option ℕ) (now : ℕ) (draws : ℕ → ℕ) (es : List Endpoint) (lists : RecentParts)
        → chosen_endpoint setting port affinity source now draws es (change lists) ≡ option_map changed_chosen (chosen_endpoint setting port affinity source now draws es lists)
    chosen_same setting port None now draws es lists = drawn_same (setting.pick draws (length es)) lists (slice_get es (setting.pick draws (length es)))
    chosen_same setting port (Some seconds) now draws es lists =
        let name = recent_name setting port in
        let look = live_endpoint name source now seconds 0 es lists in
        ap (λ l. remembered name source now (found_or_drawn setting draws es l)) (look_same name now seconds 0 es lists)
        ∙ ap (remembered name source now) (found_same setting draws es look.lists look.found)
        ∙ remembered_same name now (found_or_drawn setting draws es look)

  -- ---- The translation

  by_choice : (setting : Setting) (packet : Packet) (d : Door) (c : Option Chosen)
      → option_map (λ x. record { door = d; offer = offer_of setting.config packet d; chosen = x }) (option_map changed_chosen c)
      ≡ option_map changed (option_map (λ x. record { door = d; offer = offer_of setting.config packet d; chosen = x }) c)
  by_choice setting packet d None = refl
  by_choice setting packet d (Some c) = refl

  by_door : (setting : Setting) (packet : Packet) (draws : ℕ → ℕ) (lists : RecentParts)
      → IsUnseen packet.source change → (o : Option Door)
      → option_and_then (decision.translation_at setting packet draws (change lists)) o
      ≡ option_map changed (option_and_then (decision.translation_at setting packet draws lists) o)
  by_door setting packet draws lists unseen None = refl
  by_door setting packet draws lists unseen (Some d) =
      ap (option_map (λ x. record { door = d; offer = offer_of setting.config packet d; chosen = x }))
      (chosen_same packet.source unseen setting d.info.key d.info.affinity packet.now draws (offer_of setting.config packet d).endpoints lists)
      ∙ by_choice setting packet d (choice_at setting packet draws lists d)

  translation_same : (setting : Setting) (infos : List PortInfo) (packet : Packet)
      (lists : RecentParts) → IsUnseen packet.source change → (place : ℕ)
      → translation_at setting infos packet (change lists) place
      ≡ option_map changed (translation_at setting infos packet lists place)
  translation_same setting infos packet lists unseen place =
      by_door (at_place place setting) packet (λ _draw. 0) lists unseen
      (taking_door setting.config infos packet)

  -- ---- The lines

  path_at_same : (setting : Setting) (infos : List PortInfo) (packet : Packet) (lists : RecentParts)
      → IsUnseen packet.source change → (line at count chance place : ℕ)
      → path_text line at count chance (path_at setting infos packet (change lists) place)
      ≡ path_text line at count chance (path_at setting infos packet lists place)
  path_at_same setting infos packet lists unseen line at count chance place =
      ap (λ t. path_text line at count chance (path_by setting.config infos packet (change lists) t))
      (translation_same setting infos packet lists unseen place)
      ∙ path_same line at count chance setting.config infos packet lists
      (translation_at setting infos packet lists place)

  -- paths whose texts are the same, place by place
  lines_alike : (f g : ℕ → Path) (line count : ℕ)
      → ((at chance place : ℕ) → path_text line at count chance (f place) ≡ path_text line at count chance (g place))
      → (at : ℕ) (chances places : List ℕ)
      → path_lines line count at chances (map f places) ≡ path_lines line count at chances (map g places)
  lines_alike f g line count alike at chances [] = refl
  lines_alike f g line count alike at [] (place ∷ places) = refl
  lines_alike f g line count alike at (chance ∷ chances) (place ∷ places) =
      λ i. alike at chance place i
      ++ lines_alike f g line count alike (suc at) chances places i

  same_count : (f g : ℕ → Path) (places : List ℕ) → length (map f places) ≡ length (map g places)
  same_count f g [] = refl
  same_count f g (place ∷ places) = ap suc (same_count f g places)

  paths_same : (setting : Setting) (infos : List PortInfo) (packet : Packet) (lists : RecentParts)
      → IsUnseen packet.source change → (line : ℕ) (places : List ℕ)
      → (let f = map (path_at setting infos packet (change lists)) places in path_lines line (length f) 1 (chances_of (length f)) f)
      ≡ (let g = map (path_at setting infos packet lists) places in path_lines line (length g) 1 (chances_of (length g)) g)
  paths_same setting infos packet lists unseen line places =
      let f = path_at setting infos packet (change lists) in
      let g = path_at setting infos packet lists in
      ap (λ n. path_lines line n 1 (chances_of n) (map f places)) (same_count f g places)
      ∙ lines_alike f g line (length (map g places)) (λ at chance place. path_at_same setting infos packet lists unseen line at (length (map g places)) chance place)
      1 (chances_of (length (map g places))) places

  among_same : (setting : Setting) (infos : List PortInfo) (packet : Packet) (lists : RecentParts)
      → IsUnseen packet.source change
      → paths_among setting infos packet (change lists) ≡ paths_among setting infos packet lists
  among_same setting infos packet lists unseen =
      ap path_count (translation_same setting infos packet lists unseen 0)
      ∙ count_same (translation_at setting infos packet lists 0)

  in_same : (setting : Setting) (infos : List PortInfo) (entries : PortKey → List Candidate)
      (line : ℕ) (packet : Packet) (lists : RecentParts) → IsUnseen packet.source change
      → lines_in setting infos entries line packet (change lists)
      ≡ lines_in setting infos entries line packet lists
  in_same setting infos entries line packet lists unseen =
      (λ i. (let f = map (path_at setting infos packet (change lists)) (range_with_len 0 (among_same setting infos packet lists unseen i)) in path_lines line (length f) 1 (chances_of (length f)) f)
      ++ (let t = translation_same setting infos packet lists unseen 0 i in behind_text setting infos entries line packet t (answering_door setting.config infos packet t)))
      ∙ (λ i. paths_same setting infos packet lists unseen line (range_with_len 0 (paths_among setting infos packet lists)) i
      ++ behind_same setting infos entries line packet (translation_at setting infos packet lists 0) i)

  if_same : (b : Bool) (setting : Setting) (infos : List PortInfo) (entries : PortKey → List Candidate)
      (line : ℕ) (packet : Packet) (lists : RecentParts) → IsUnseen packet.source change
      → lines_if b setting infos entries line packet (change lists)
      ≡ lines_if b setting infos entries line packet lists
  if_same true setting infos entries line packet lists unseen =
      in_same setting infos entries line packet lists unseen
  if_same false setting infos entries line packet lists unseen = refl

pub lines_unseen : LinesUnseen
lines_unseen change settings objects line packet lists unseen =
    let family = family_of_packet packet in
    if_same change (has_tables_of family settings) (view_of family settings)
    (infos_by_family settings objects family)
    (entries_of_port family (view_of family settings).config objects) line packet lists unseen
