-- The lines of paths, of endpoints beside them, and of sources (this project's choice).
use Rattle.std.specs.Prelude.{ℕ, zero, suc, Bool, true, false, List, [], ◌∷◌, ◌++◌, length, codes, decimal, Option, Some, None}
use Rattle.std.specs.List.{flat_map}
use Rattle.kp_base.specs.declared.key.PortKey.{PortKey}
use Rattle.kp_types.specs.Packets.{family_of_packet}
use Rattle.kp_types.specs.Setting.{Setting, Settings, has_tables_of, view_of}
use Rattle.kp_types.specs.declared.decision.Reason.TheVariants as reason
use Rattle.kp_types.specs.declared.lists.Candidate.{Candidate}
use Rattle.kp_types.specs.declared.packet.Packet.{Packet}
use Rattle.kp_types.specs.declared.verdict.Verdict.{Verdict}
use Rattle.kp_types.specs.declared.verdict.Verdict.TheVariants.{To, Rejected, Dropped, LeftAlone}
use Rattle.kp_choice_defs.specs.AddressText.{address_text, endpoint_text}
use Rattle.kp_choice_defs.specs.Draws.{probability_text_of}
use Rattle.kp_choice_defs.specs.Recent.{RecentParts}
use Rattle.kp_object_defs.specs.Objects.{Objects}
use Rattle.kp_object_defs.specs.PortInfo.{PortInfo, infos_by_family}
use Rattle.kp_door_defs.specs.Decision.{Translation, left_alone}
use Rattle.kp_door_defs.specs.Doors.{Door}
use Rattle.kp_text_defs.specs.Answers.{door_text, list_kind_text, reason_text}
use Rattle.kp_text_defs.specs.Keys.{port_text}
use Rattle.kp_text_defs.specs.Printed.{verdict_text}
use Rattle.kp_path_defs.specs.Asides.{Aside, Why, NotReady, OtherNode, Terminating, OtherZone, NotAdmitted, KeptElsewhere, asides_among, entries_of_port}
use Rattle.kp_path_defs.specs.Chances.{chances_of}
use Rattle.kp_path_defs.specs.Paths.{Path, answering_door, paths_of, translation_at}
use Rattle.kp_path_defs.specs.Sources as source
use Rattle.kp_path_defs.specs.Sources.{Cause, Counts, Served, Opens, Closes, Source, Whence, sources_of}

-- ---- Paths

-- where a packet was sent by a translation, and by which door
abbrev pub translation_text : Option Translation → List ℕ
translation_text None = []
translation_text (Some t) =
    codes "; sent to " ++ endpoint_text t.chosen.endpoint ++ codes "; "
    ++ reason_text (reason.Door t.door.kind t.door.info.key t.offer.kind (length t.offer.endpoints) t.chosen.by (suc t.chosen.place))

-- where a packet was sent that the filter refuses after its translation
abbrev pub sent_text : Verdict → Option Translation → List ℕ
sent_text (To endpoint masked) t = []
sent_text Rejected t = translation_text t
sent_text Dropped t = translation_text t
sent_text LeftAlone t = []

-- a path, by its line, its place from 1 and how many there are, and its chance
abbrev pub path_text : ℕ → ℕ → ℕ → ℕ → Path → List ℕ
path_text line place count chance p =
    codes "path " ++ decimal line ++ codes " " ++ decimal place ++ codes " of " ++ decimal count
    ++ codes " chance " ++ probability_text_of chance ++ codes ": " ++ verdict_text p.decided.verdict
    ++ codes "; " ++ reason_text p.decided.reason ++ sent_text p.decided.verdict p.translation
    ++ codes "\n"

-- paths from a place on, with their chances
abbrev pub path_lines : ℕ → ℕ → ℕ → List ℕ → List Path → List ℕ
path_lines line count place chances [] = []
path_lines line count place [] (p ∷ ps) = []
path_lines line count place (chance ∷ chances) (p ∷ ps) =
    path_text line place count chance p ++ path_lines line count (suc place) chances ps

-- all paths
abbrev pub paths_text : ℕ → List Path → List ℕ
paths_text line ps = path_lines line (length ps) 1 (chances_of (length ps)) ps

-- ---- Endpoints beside them

abbrev pub why_text : Why → List ℕ
why_text NotReady = codes "not ready"
why_text OtherNode = codes "other node"
why_text Terminating = codes "terminating"
why_text OtherZone = codes "other zone"
why_text NotAdmitted = codes "not admitted"
why_text KeptElsewhere = codes "kept elsewhere"

-- an endpoint of a port that the packet isn't sent to
abbrev pub aside_text : ℕ → PortKey → Aside → List ℕ
aside_text line port a =
    codes "aside " ++ decimal line ++ codes " " ++ port_text port ++ codes ": "
    ++ endpoint_text a.endpoint ++ codes " " ++ why_text a.why ++ codes "\n"

-- ---- Sources

-- where an address is
abbrev pub whence_by : Bool → Bool → List ℕ
whence_by false false = codes "outside"
whence_by true false = codes "cluster"
whence_by false true = codes "node"
whence_by true true = codes "cluster and node"

-- a number of endpoints, where it isn't 0
abbrev pub number_text : List ℕ → ℕ → List ℕ
number_text word zero = []
number_text word (suc n) = codes ", " ++ word ++ codes " " ++ decimal (suc n)

-- the numbers of a list
abbrev pub counts_text : Counts → List ℕ
counts_text c =
    codes "open " ++ decimal c.served ++ number_text (codes "masked") c.masked
    ++ number_text (codes "refused") c.refused

abbrev pub cause_text : Cause → List ℕ
cause_text source.NoEndpoints = codes "no endpoints"
cause_text source.NotAdmitted = codes "not admitted"
cause_text source.NoLocalEndpoints = codes "no local endpoints"

-- what a kind of source gets
abbrev pub served_text : Served → List ℕ
served_text (Opens counts d offer) =
    counts_text counts ++ codes "; " ++ door_text d.kind d.info.key ++ codes " list "
    ++ list_kind_text offer.kind
served_text (Closes verdict cause d) =
    verdict_text verdict ++ codes ", " ++ cause_text cause ++ codes "; "
    ++ door_text d.kind d.info.key

-- the load balancers in whose ranges it is
abbrev pub within_text : PortKey → List ℕ
within_text port = codes ", in ranges of " ++ port_text port

-- a kind of source
abbrev pub source_text : ℕ → Source → List ℕ
source_text line s =
    codes "source " ++ decimal line ++ codes " " ++ address_text s.address ++ codes ", "
    ++ whence_by s.whence.cluster s.whence.node ++ flat_map within_text s.within ++ codes ": "
    ++ served_text s.served ++ codes "\n"

-- ---- All lines behind an explanation

-- what stands behind the paths of a packet that some door answers, by the endpoints of each port
abbrev pub behind_text :
    Setting → List PortInfo → (PortKey → List Candidate) → ℕ → Packet → Option Translation
    → Option Door → List ℕ
behind_text setting infos entries line packet t None = []
behind_text setting infos entries line packet t (Some d) =
    flat_map (aside_text line d.info.key)
    (asides_among setting.config d packet.source t (entries d.info.key))
    ++ flat_map (source_text line) (sources_of setting.family setting.config infos packet)

-- the lines of a packet, by what its family knows of the ports and by the endpoints of each
abbrev pub lines_in :
    Setting → List PortInfo → (PortKey → List Candidate) → ℕ → Packet → RecentParts → List ℕ
lines_in setting infos entries line packet lists =
    let t = translation_at setting infos packet lists 0 in
    paths_text line (paths_of setting infos packet lists)
    ++ behind_text setting infos entries line packet t
    (answering_door setting.config infos packet t)

-- the one line of a packet of a family without tables
abbrev pub lines_without : ℕ → RecentParts → List ℕ
lines_without line lists =
    paths_text line (record { translation = None; decided = left_alone lists } ∷ [])

abbrev pub lines_if :
    Bool → Setting → List PortInfo → (PortKey → List Candidate) → ℕ → Packet → RecentParts → List ℕ
lines_if true setting infos entries line packet lists =
    lines_in setting infos entries line packet lists
lines_if false setting infos entries line packet lists = lines_without line lists

-- the lines behind the explanation of a packet, by its line
abbrev pub lines_of : Settings → Objects → ℕ → Packet → RecentParts → List ℕ
lines_of settings o line packet lists =
    let family = family_of_packet packet in
    let setting = view_of family settings in
    lines_if (has_tables_of family settings) setting (infos_by_family settings o family)
    (entries_of_port family setting.config o) line packet lists
