-- Laws of endpoints that stand.
use Rattle.std.specs.Prelude.{◌≡◌, ℕ, Bool, true, false, List, None}
use Rattle.std.specs.List.{AllByRecursion}
use Rattle.kp_base.specs.Keys.{same_proto}
use Rattle.kp_base.specs.declared.config.Config.{Config}
use Rattle.kp_base.specs.declared.key.Endpoint.{Endpoint}
use Rattle.kp_base.specs.declared.port.Proto.TheVariants.{Udp}
use Rattle.kp_types.specs.declared.packet.Packet.{Packet}
use Rattle.kp_types.specs.declared.verdict.Verdict.TheVariants.{To}
use Rattle.kp_choice_defs.specs.Recent.{RecentParts}
use Rattle.kp_choice_defs.specs.Settings.{settings_of}
use Rattle.kp_object_defs.specs.Objects.{Objects}
use Rattle.kp_door_defs.specs.Decision.{decision_of}
use Rattle.kp_table_defs.specs.Rebuild.{clash_of, full_table}
use Rattle.kp_track_defs.specs.Kept.{Kept, kept_after_sync, without_endpoints}
use Rattle.kp_track_defs.specs.Stands.{stands_by}
use Rattle.kp_track_defs.specs.Tracking.{loses}
use Rattle.kp_conntrack.specs.Standing.{table_stands}
use Rattle.kp_udp_endpoints.specs.Counts.{HaveFallen}

-- where a packet of UDP is sent, an endpoint stands
abbrev pub UdpSent : Type 0
UdpSent =
    (config : Config) (o : Objects) (packet : Packet) (draws : ℕ → ℕ) (lists : RecentParts) (e : Endpoint) (masked : Bool)
    → same_proto packet.proto Udp ≡ true
    → (decision_of (settings_of config) o packet draws lists).verdict ≡ To e masked
    → stands_by config o e ≡ true

-- In a full table without a clash an endpoint is the target of a rule for UDP exactly where it stands by the objects.
abbrev pub TargetsStand : Type 0
TargetsStand =
    (config : Config) (o : Objects) (e : Endpoint)
    → clash_of (settings_of config) o ≡ None
    → table_stands (full_table (settings_of config) o).chains e ≡ stands_by config o e

-- So where the endpoint of each UDP entry stood before a sync, to clear the endpoints that fell leaves what settling by
-- the table after it does.
abbrev pub ClearedAsSettled : Type 0
ClearedAsSettled =
    (config : Config) (before after : Objects) (k : Kept) (fallen : List Endpoint)
    → clash_of (settings_of config) after ≡ None
    → AllByRecursion (λ e. loses (stands_by config before) e ≡ false) k.entries
    → HaveFallen config before after fallen
    → without_endpoints fallen k
    ≡ kept_after_sync (table_stands (full_table (settings_of config) after).chains) k
