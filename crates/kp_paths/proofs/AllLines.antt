-- All lines of a packet are told by what is told of its translation.
use Rattle.std.proofs.Common.{◌≡◌, ℕ, suc, Bool, true, false, cond, not, List, [], ◌∷◌, ◌++◌, codes, map, filter, flat_map, Option, Some, None, option_and_then, option_map, slice_get, refl, sym, ap, ◌∙◌}
use Rattle.std.specs.List.{find, range_with_len}
use Rattle.kp_base.specs.Net.{AddressParts}
use Rattle.std.proofs.lemmas.List.{append-nil}
use Rattle.kp_base.specs.declared.address.Family.{Family}
use Rattle.kp_base.specs.declared.config.Config.{Config}
use Rattle.kp_base.specs.declared.key.Endpoint.{Endpoint}
use Rattle.kp_base.specs.declared.key.PortKey.{PortKey}
use Rattle.kp_types.specs.Packets.{family_of_packet}
use Rattle.kp_types.specs.Setting.{FamilyConfig, Setting, config_for, has_tables_of, view_of}
use Rattle.kp_types.specs.declared.decision.ChosenBy.TheVariants.{Draws}
use Rattle.kp_types.specs.declared.lists.Candidate.{Candidate}
use Rattle.kp_types.specs.declared.packet.Packet.{Packet}
use Rattle.kp_choice_defs.specs.Recent.{RecentParts}
use Rattle.kp_choice_defs.specs.Settings.{setting_of, settings_of}
use Rattle.kp_object_defs.specs.Objects.{Objects}
use Rattle.kp_object_defs.specs.PortInfo.{PortInfo, infos_by_family, port_infos}
use Rattle.kp_door_defs.specs.Choice.{Chosen, Look, chosen_endpoint, drawn_as, drawn_at, found_or, live_endpoint, recent_name, remembered}
use Rattle.kp_door_defs.specs.Decision as definition
use Rattle.kp_door_defs.specs.Decision.{Translation, left_alone}
use Rattle.kp_door_defs.specs.Doors.{Door, Offer, doors_of, fits, offer_of, taking_door}
use Rattle.kp_door_defs.specs.Filter.{Line, filtered}
use Rattle.kp_decide.specs.Told.{translation_told}
use Rattle.kp_decide.specs.declared.translation.Translation as told
use Rattle.kp_path_defs.specs.Asides.{Aside, admits, asides_among, entries_of_port, has_endpoint, list_at, reached, why_of}
use Rattle.kp_path_defs.specs.PathText.{aside_text, behind_text, lines_if, lines_in, lines_of, path_text, paths_text, source_text, why_text}
use Rattle.kp_path_defs.specs.Chances.{whole}
use Rattle.kp_path_defs.specs.Paths.{answering_door, at_place, first_of, path_count, paths_of, translation_at}
use Rattle.kp_path_defs.specs.Sources.{sources_of}
use Rattle.kp_paths.specs.Beside.{aside_line, asides_text, reached_told, why_by}
use Rattle.kp_paths.specs.Lines.{answering_told, behind_told, lines_told, only, paths_told}
use Rattle.kp_paths.specs.Told.{count_told, path_told}
use Rattle.kp_paths.specs.Words.{decided_words, path_words, stand_words}
use Rattle.kp_report.proofs.Pieces.{two_added}
use Rattle.kp_paths.proofs.PathWords.{head_and}
use Rattle.kp_paths.proofs.AllPlaces.{drawn_lines, one_line, path_of}

-- ---- Paths

module _ (setting : Setting) (infos : List PortInfo) (packet : Packet) (lists : RecentParts) (number : ℕ) where
  -- the text of paths whose translations are these
  abbrev text_of : (ℕ → Option Translation) → List ℕ
  text_of t =
      paths_text number
      (map (path_of setting.config infos packet lists number t)
      (range_with_len 0 (path_count (t 0))))

  -- they are told by the first translation
  abbrev AreTold : (ℕ → Option Translation) → Type 0
  AreTold t =
      text_of t
      ≡ paths_told setting.config infos number packet (option_map translation_told (t 0))

  -- none
  of_none : (t : ℕ → Option Translation) → option_map translation_told (t 0) ≡ None → AreTold t
  of_none t is =
      one_line setting.config infos packet lists number t (ap count_told is)
      ∙ ap (path_told setting.config infos packet (only number)) is
      ∙ ap (paths_told setting.config infos number packet) (sym is)

  module _ (d : Door) (o : Offer) where
    -- the translation that is told of an endpoint at a place
    abbrev told_of : ℕ → Endpoint → told.Translation
    told_of place e = record {
      door = d;
      offer = o;
      choice = record { endpoint = e; place = suc place; by = Draws };
    }

    -- by draws
    of_draws : (t : ℕ → Option Translation) (first : Option Endpoint)
        → slice_get o.endpoints 0 ≡ first
        → ((place : ℕ) → option_map translation_told (t place)
        ≡ option_map (told_of place) (slice_get o.endpoints place))
        → AreTold t
    of_draws t None is are = of_none t (are 0 ∙ ap (option_map (told_of 0)) is)
    of_draws t (Some e) is are =
        let at : option_map translation_told (t 0) ≡ Some (told_of 0 e) =
        are 0 ∙ ap (option_map (told_of 0)) is in
        drawn_lines setting.config infos packet lists number t (told_of 0 e) are (ap count_told at)
        ∙ ap (paths_told setting.config infos number packet) (sym at)

    -- the translation by a choice
    abbrev by_choice : Option Chosen → Option Translation
    by_choice c = option_map (λ x. record { door = d; offer = o; chosen = x }) c

    -- what is told of an endpoint that is drawn
    told_drawn : (place : ℕ) (lists : RecentParts) (e : Option Endpoint)
        → option_map translation_told (by_choice (option_map (drawn_as place lists) e))
        ≡ option_map (told_of place) e
    told_drawn place lists None = refl
    told_drawn place lists (Some e) = refl

    -- and remembered
    told_remembered : (name : Endpoint → List ℕ) (source : AddressParts) (now place : ℕ)
        (lists : RecentParts) (e : Option Endpoint)
        → option_map translation_told
        (by_choice (remembered name source now (option_map (drawn_as place lists) e)))
        ≡ option_map (told_of place) e
    told_remembered name source now place lists None = refl
    told_remembered name source now place lists (Some e) = refl

    -- by what a look found, or else by draws
    of_look : (name : Endpoint → List ℕ) (source : AddressParts) (now : ℕ) (lists : RecentParts)
        (found : Option (Endpoint × ℕ))
        → AreTold (λ place. by_choice (remembered name source now
        (found_or (at_place place setting) (λ _draw. 0) o.endpoints lists found)))
    of_look name source now lists None =
        of_draws
        (λ place. by_choice (remembered name source now (drawn_at o.endpoints place lists)))
        (slice_get o.endpoints 0) refl
        (λ place. told_remembered name source now place lists (slice_get o.endpoints place))
    of_look name source now looked (Some p) =
        one_line setting.config infos packet lists number
        (λ _place. by_choice (remembered name source now
        (found_or setting (λ _draw. 0) o.endpoints looked (Some p))))
        refl

    -- under an affinity timeout, or without one
    of_affinity : (key : PortKey) (source : AddressParts) (now : ℕ) (affinity : Option ℕ)
        → AreTold (λ place. by_choice (chosen_endpoint (at_place place setting) key affinity source
        now (λ _draw. 0) o.endpoints lists))
    of_affinity key source now None =
        of_draws (λ place. by_choice (drawn_at o.endpoints place lists))
        (slice_get o.endpoints 0) refl
        (λ place. told_drawn place lists (slice_get o.endpoints place))
    of_affinity key source now (Some seconds) =
        let look : Look =
        live_endpoint (recent_name setting key) source now seconds 0 o.endpoints lists in
        of_look (recent_name setting key) source now look.lists look.found

  -- at a door, or at none
  of_door : (d : Option Door)
      → AreTold (λ place. option_and_then
      (definition.translation_at (at_place place setting) packet (λ _draw. 0) lists) d)
  of_door None = of_none (λ _place. None) refl
  of_door (Some d) =
      of_affinity d (offer_of setting.config packet d) d.info.key packet.source packet.now
      d.info.affinity

  -- all paths
  pub all_paths : paths_text number (paths_of setting infos packet lists)
      ≡ paths_told setting.config infos number packet
      (option_map translation_told (translation_at setting infos packet lists 0))
  all_paths = of_door (taking_door setting.config infos packet)

-- ---- Endpoints beside them

-- the endpoints that a packet may be sent to
reached_by_told : (t : Option Translation)
    → reached t ≡ reached_told (option_map translation_told t)
reached_by_told None = refl
reached_by_told (Some t) = refl

-- of those that don't pass a test each has its piece
pieces_of : {A B : Type 0} (q : A → Bool) (g : A → B) (f : B → List ℕ) (h : A → List ℕ)
    → ((x : A) → f (g x) ≡ h x) → (xs : List A)
    → flat_map f (map g (filter (λ x. not (q x)) xs)) ≡ flat_map (λ x. cond (q x) [] (h x)) xs
pieces_of q g f h same [] = refl
pieces_of q g f h same (x ∷ xs) = by (q x) (pieces_of q g f h same xs)
  where
    by : (b : Bool)
        → flat_map f (map g (filter (λ x. not (q x)) xs)) ≡ flat_map (λ x. cond (q x) [] (h x)) xs
        → flat_map f (map g (cond (not b) (x ∷ filter (λ x. not (q x)) xs)
        (filter (λ x. not (q x)) xs)))
        ≡ cond b [] (h x) ++ flat_map (λ x. cond (q x) [] (h x)) xs
    by true more = more
    by false more = λ i. same x i ++ more i

-- the line of an endpoint
line_of_aside : (number : ℕ) (key : PortKey) (a : Aside)
    → aside_text number key a ≡ aside_line number key a.endpoint (why_text a.why)
line_of_aside number key a = refl

-- all of them
all_asides : (number : ℕ) (config : FamilyConfig) (d : Door) (source : AddressParts)
    (t : Option Translation) (entries : List Candidate)
    → flat_map (aside_text number d.info.key) (asides_among config d source t entries)
    ≡ asides_text number config d source (option_map translation_told t) entries
all_asides number config d source t entries =
    let offer : Offer = list_at config d.kind d.info source in
    let admitted : Bool = admits d.kind d.info source in
    pieces_of (λ c. has_endpoint (reached t) c.endpoint)
    (λ c. record { endpoint = c.endpoint; why = why_of config d source c })
    (aside_text number d.info.key)
    (λ c. aside_line number d.info.key c.endpoint (why_text (why_by offer admitted c)))
    (λ c. line_of_aside number d.info.key
    (record { endpoint = c.endpoint; why = why_of config d source c }))
    entries
    ∙ ap (λ (es : List Endpoint). flat_map (λ c. cond (has_endpoint es c.endpoint) []
    (aside_line number d.info.key c.endpoint (why_text (why_by offer admitted c)))) entries)
    (reached_by_told t)

-- ---- All lines

module _ (setting : Setting) (infos : List PortInfo) (entries : PortKey → List Candidate) (number : ℕ) (packet : Packet) where
  -- what stands behind the paths
  behind : (t : Option Translation) (d : Option Door)
      → behind_text setting infos entries number packet t d
      ≡ behind_told setting.config setting.family infos entries number packet
      (option_map translation_told t) d
  behind t None = refl
  behind t (Some d) =
      ap (λ (asides : List ℕ). asides ++ flat_map (source_text number)
      (sources_of setting.family setting.config infos packet))
      (all_asides number setting.config d packet.source t (entries d.info.key))

  -- the door that answers
  answering : (t : Option Translation)
      → answering_door setting.config infos packet t
      ≡ answering_told setting.config infos packet (option_map translation_told t)
  answering None = refl
  answering (Some t) = refl

  -- all lines
  pub all_lines : (lists : RecentParts)
      → lines_in setting infos entries number packet lists
      ≡ lines_told setting.config setting.family infos entries number packet
      (option_map translation_told (translation_at setting infos packet lists 0))
  all_lines lists =
      let t : Option Translation = translation_at setting infos packet lists 0 in
      (λ i. all_paths setting infos packet lists number i
      ++ behind t (answering_door setting.config infos packet t) i)
      ∙ ap (λ (d : Option Door). paths_told setting.config infos number packet
      (option_map translation_told t)
      ++ behind_told setting.config setting.family infos entries number packet
      (option_map translation_told t) d) (answering t)

-- the lines of a packet that isn't translated
pub untranslated : (config : FamilyConfig) (family : Family) (infos : List PortInfo)
    (entries : PortKey → List Candidate) (number : ℕ) (packet : Packet) (line : Option Line)
    (old mid new : List ℕ)
    → line ≡ filtered config infos packet
    → mid ≡ old ++ path_words (only number) (decided_words line None false)
    → new ≡ mid ++ behind_told config family infos entries number packet None
    (first_of (option_map (λ l. l.door) line)
    (find (fits config.addresses packet) (doors_of infos)))
    → new ≡ old ++ lines_told config family infos entries number packet None
untranslated config family infos entries number packet line old mid new is first second =
    two_added old mid new (path_words (only number) (decided_words line None false))
    (behind_told config family infos entries number packet None
    (first_of (option_map (λ l. l.door) line)
    (find (fits config.addresses packet) (doors_of infos))))
    first second
    ∙ ap (λ (l : Option Line). old ++ (path_words (only number) (decided_words l None false)
    ++ behind_told config family infos entries number packet None
    (first_of (option_map (λ l. l.door) l)
    (find (fits config.addresses packet) (doors_of infos))))) is

-- the lines of a packet of a family that the node has tables of
pub with_tables : (config : Config) (o : Objects) (number : ℕ) (packet : Packet)
    (lists : RecentParts) (family : Family)
    → family ≡ family_of_packet packet → has_tables_of family (settings_of config) ≡ true
    → lines_in (setting_of family config) (port_infos family (config_for family config) o)
    (entries_of_port family (config_for family config) o) number packet lists
    ≡ lines_of (settings_of config) o number packet lists
with_tables config o number packet lists family same has =
    let at : Family → Bool → List ℕ = λ f b. lines_if b (view_of f (settings_of config))
    (infos_by_family (settings_of config) o f) (entries_of_port f (config_for f config) o) number
    packet lists in
    ap (at family) (sym has)
    ∙ ap (λ (f : Family). at f (has_tables_of f (settings_of config))) same

-- and of one that it has none of
pub without_tables : (config : Config) (o : Objects) (number : ℕ) (packet : Packet)
    (lists : RecentParts) (family : Family)
    → family ≡ family_of_packet packet → has_tables_of family (settings_of config) ≡ false
    → path_words (only number) (decided_words None None false)
    ≡ lines_of (settings_of config) o number packet lists
without_tables config o number packet lists family same has =
    let at : Family → Bool → List ℕ = λ f b. lines_if b (view_of f (settings_of config))
    (infos_by_family (settings_of config) o f) (entries_of_port f (config_for f config) o) number
    packet lists in
    ap (λ words. words ++ codes "\n") (head_and (stand_words (only number)) (codes "left alone")
    (codes "; ") (codes "no door decides") [])
    ∙ sym (append-nil (path_text number 1 1 whole (record {
      translation = None;
      decided = left_alone lists;
    })))
    ∙ ap (at family) (sym has)
    ∙ ap (λ (f : Family). at f (has_tables_of f (settings_of config))) same
