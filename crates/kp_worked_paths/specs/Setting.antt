-- The node of the worked texts of paths: n1 in zone a, with 192.168.1.11, and pods in 10.244.0.0/16.
use Rattle.std.specs.Prelude.{ℕ, true, false, List, [], ◌∷◌, codes, bytes_eq, cond, Some}
use Rattle.std.specs.List.{flat_map}
use Rattle.kp_base.specs.declared.address.Family.TheVariants.{V4}
use Rattle.kp_base.specs.declared.key.PortKey.{PortKey}
use Rattle.kp_types.specs.Setting.{Setting}
use Rattle.kp_types.specs.declared.info.ServiceSources.{ServiceSources}
use Rattle.kp_types.specs.declared.lists.Candidate.{Candidate}
use Rattle.kp_types.specs.declared.packet.Packet.{Packet}
use Rattle.kp_types.specs.declared.slice.SliceEndpoint.{SliceEndpoint}
use Rattle.kp_choice_defs.specs.Recent.{RecentParts}
use Rattle.kp_object_defs.specs.Entries.{entries_from}
use Rattle.kp_object_defs.specs.PortInfo.{PortInfo}
use Rattle.kp_path_defs.specs.PathText.{lines_in}
use Rattle.kp_worked.specs.Setting.{config, infos_in, ipv4, setting_under}

-- its setting
abbrev pub here : Setting
here = setting_under (record config { addresses = ipv4 192 168 1 11 ∷ []; controller = false })

-- what it knows of the ports of Services
abbrev pub known : List ServiceSources → List PortInfo
known services = infos_in (Some (codes "a")) services

-- the endpoints of a port, if it is one of this Service
abbrev pub entries_of : PortKey → ServiceSources → List Candidate
entries_of port s =
    cond (bytes_eq s.service.key.name port.object.name) (entries_from V4 (codes "n1") s port) []

-- the endpoints of a port
abbrev pub entries_in : List ServiceSources → PortKey → List Candidate
entries_in services port = flat_map (entries_of port) services

-- the lines of a packet at line 9
abbrev pub lines_for : List ServiceSources → Packet → RecentParts → List ℕ
lines_for services packet lists =
    lines_in here (known services) (entries_in services) 9 packet lists

-- an endpoint that is not ready
abbrev pub unready : SliceEndpoint → SliceEndpoint
unready e = record e { ready = false; serving = false }

-- an endpoint that terminates and serves no more
abbrev pub ended : SliceEndpoint → SliceEndpoint
ended e = record e { ready = false; serving = false; terminating = true }
