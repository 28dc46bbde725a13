-- Draws reach a decision by the pick alone.
use Rattle.std.specs.Prelude.{◌≡◌, ◌<◌, ◌*◌, ◌^◌, ℕ, nat_lt, true, false, List, length, cond, slice_get, Some}
use Rattle.kp_base.specs.declared.config.Config.{Config}
use Rattle.kp_types.specs.Packets.{family_of_packet}
use Rattle.kp_types.specs.Setting.{Pick, Setting, has_tables_of, view_of}
use Rattle.kp_types.specs.declared.packet.Packet.{Packet}
use Rattle.kp_choice_defs.specs.Recent.{RecentParts}
use Rattle.kp_choice_defs.specs.Settings.{pick_by_draws, settings_of}
use Rattle.kp_object_defs.specs.Objects.{Objects}
use Rattle.kp_object_defs.specs.PortInfo.{PortInfo, infos_by_family}
use Rattle.kp_door_defs.specs.Decision.{Decided, decision_from, decision_of, left_alone}
use Rattle.kp_path_defs.specs.Paths.{path_at, paths_among, paths_of}

-- a pick of a list that isn't empty is one of its places
abbrev pub PicksPlaces : Pick → Type 0
PicksPlaces pick = (draws : ℕ → ℕ) (n : ℕ) → 0 < n → pick draws n < n

-- a decision is that of a path
abbrev pub IsOfPath : Setting → List PortInfo → Packet → RecentParts → Decided → Type 0
IsOfPath setting infos packet lists decided =
    (place : ℕ) × (place < paths_among setting infos packet lists)
    × (decided ≡ (path_at setting infos packet lists place).decided)

-- so many draws that no test matches, and then draws that each test matches
abbrev pub draws_to : ℕ → ℕ → ℕ
draws_to place k = cond (nat_lt k place) 2147483647 0

-- The paths of a packet are as many as are said, each at its place.
abbrev pub PathsByPlace : Type 0
PathsByPlace =
    (setting : Setting) (infos : List PortInfo) (packet : Packet) (lists : RecentParts)
    → (length (paths_of setting infos packet lists) ≡ paths_among setting infos packet lists)
    × ((place : ℕ) → place < paths_among setting infos packet lists
    → slice_get (paths_of setting infos packet lists) place
    ≡ Some (path_at setting infos packet lists place))

-- For all draws the decision is that of a path.
abbrev pub DecidedByPath : Type 0
DecidedByPath =
    (setting : Setting) (infos : List PortInfo) (packet : Packet) (draws : ℕ → ℕ)
    (lists : RecentParts)
    → PicksPlaces setting.pick
    → IsOfPath setting infos packet lists (decision_from setting infos packet draws lists)

-- So is the decision by the objects in a family that the node has tables of.
abbrev pub DecidedWithTables : Type 0
DecidedWithTables =
    (config : Config) (o : Objects) (packet : Packet) (draws : ℕ → ℕ) (lists : RecentParts)
    → let settings = settings_of config in
    let family = family_of_packet packet in
    has_tables_of family settings ≡ true
    → IsOfPath (view_of family settings) (infos_by_family settings o family) packet lists
    (decision_of settings o packet draws lists)

-- In any other family the packet is left alone, whatever its draws.
abbrev pub DecidedWithoutTables : Type 0
DecidedWithoutTables =
    (config : Config) (o : Objects) (packet : Packet) (draws : ℕ → ℕ) (lists : RecentParts)
    → has_tables_of (family_of_packet packet) (settings_of config) ≡ false
    → decision_of (settings_of config) o packet draws lists ≡ left_alone lists

-- Each of fewer than 4 · 10^9 paths is the decision for as many draws that no test matches as there
-- are places before its own, and then draws that each test matches.
abbrev pub PathByDraws : Type 0
PathByDraws =
    (setting : Setting) (infos : List PortInfo) (packet : Packet) (lists : RecentParts) (place : ℕ)
    → setting.pick ≡ pick_by_draws
    → paths_among setting infos packet lists < 4 * 10 ^ 9
    → place < paths_among setting infos packet lists
    → decision_from setting infos packet (draws_to place) lists
    ≡ (path_at setting infos packet lists place).decided

-- And so by the objects in a family that the node has tables of.
abbrev pub PathWithTables : Type 0
PathWithTables =
    (config : Config) (o : Objects) (packet : Packet) (lists : RecentParts) (place : ℕ)
    → let settings = settings_of config in
    let family = family_of_packet packet in
    let setting = view_of family settings in
    let infos = infos_by_family settings o family in
    has_tables_of family settings ≡ true
    → paths_among setting infos packet lists < 4 * 10 ^ 9
    → place < paths_among setting infos packet lists
    → decision_of settings o packet (draws_to place) lists
    ≡ (path_at setting infos packet lists place).decided
