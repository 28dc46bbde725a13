-- Worked lines of changes: what comes, turns, opens and closes (this project's choice). Hashes were
-- computed by sha256sum and base32 of coreutils.
use Rattle.std.specs.Prelude.{◌≡◌, [], ◌∷◌, ◌++◌, codes, Some, None}
use Rattle.kp_types.specs.declared.service.Policy.TheVariants.{Cluster, Local}
use Rattle.kp_change_defs.specs.ChangeText.{change_text}
use Rattle.kp_change_laws.specs.WorkedPorts.{balanced, first_db, ipv4, lines, of_both, second_db, settings, web4, web6}

-- a Service loses an address that another one has, too
abbrev pub AddressGoes : Type 0
AddressGoes =
    lines (first_db (ipv4 203 0 113 5 ∷ []) ∷ second_db (ipv4 203 0 113 5 ∷ []) ∷ [])
    (first_db [] ∷ second_db (ipv4 203 0 113 5 ∷ []) ∷ [])
    ≡ codes "change default/db/TCP external 203.0.113.5:5432 by KUBE-EXT-2KHWPRMFJERXUJE3: open 1,"
    ++ codes " now absent; gone 10.244.1.20:5432; beside shop/db/TCP external\n"

-- a Service comes
abbrev pub ServiceComes : Type 0
ServiceComes =
    lines [] (web4 None Cluster ∷ [])
    ≡ codes "change default/web:http/TCP cluster 10.96.0.20:80 by KUBE-SVC-CDGGSHYLG3RE2FKL:"
    ++ codes " absent, now open 2; new 10.244.1.10:8080, 10.244.2.10:8080\n"

-- its external policy turns to Local, where the cluster address keeps its list
abbrev pub PolicyTurns : Type 0
PolicyTurns =
    lines (web4 (Some 30080) Cluster ∷ []) (web4 (Some 30080) Local ∷ [])
    ≡ codes "change default/web:http/TCP node *:30080 by KUBE-EXT-CDGGSHYLG3RE2FKL: open 2,"
    ++ codes " now open 1; gone 10.244.2.10:8080; policy Cluster, now policy Local; inside open 2\n"

-- and back
abbrev pub PolicyTurnsBack : Type 0
PolicyTurnsBack =
    lines (web4 (Some 30080) Local ∷ []) (web4 (Some 30080) Cluster ∷ [])
    ≡ codes "change default/web:http/TCP node *:30080 by KUBE-EXT-CDGGSHYLG3RE2FKL: open 1,"
    ++ codes " now open 2; new 10.244.2.10:8080; policy Local, now policy Cluster; inside open 2\n"

-- session affinity is turned on
abbrev pub AffinityTurns : Type 0
AffinityTurns =
    lines (web4 None Cluster ∷ []) (record (web4 None Cluster) { affinity = Some 10800 } ∷ [])
    ≡ codes "change default/web:http/TCP cluster 10.96.0.20:80 by KUBE-SVC-CDGGSHYLG3RE2FKL:"
    ++ codes " open 2; affinity none, now affinity 10800\n"

-- where nothing changes, nothing is printed
abbrev pub NothingChanges : Type 0
NothingChanges = lines (web4 (Some 30080) Local ∷ []) (web4 (Some 30080) Local ∷ []) ≡ []

-- ---- Source ranges

abbrev pub RangesSet : Type 0
RangesSet =
    lines (balanced Cluster None ∷ [])
    (balanced Cluster (Some (record { base = ipv4 192 0 2 0; bits = 24 } ∷ [])) ∷ [])
    ≡ codes "change default/web:http/TCP balancer 198.51.100.7:80 by KUBE-FW-CDGGSHYLG3RE2FKL:"
    ++ codes " open 2; sources any, now sources 192.0.2.0/24\n"

-- where no range is of the family, the door is closed
abbrev pub DoorCloses : Type 0
DoorCloses =
    lines (balanced Cluster None ∷ []) (balanced Cluster (Some []) ∷ [])
    ≡ codes "change default/web:http/TCP balancer 198.51.100.7:80 by KUBE-FW-CDGGSHYLG3RE2FKL:"
    ++ codes " open 2, now closed; gone 10.244.1.10:8080, 10.244.2.10:8080;"
    ++ codes " sources any, now sources none\n"

-- they are lifted, under Local
abbrev pub RangesLifted : Type 0
RangesLifted =
    lines (balanced Local (Some []) ∷ []) (balanced Local None ∷ [])
    ≡ codes "change default/web:http/TCP balancer 198.51.100.7:80 by KUBE-EXT-CDGGSHYLG3RE2FKL:"
    ++ codes " closed, now open 1; new 10.244.1.10:8080; sources none, now sources any;"
    ++ codes " inside open 0, now inside open 2; inside new 10.244.1.10:8080, 10.244.2.10:8080\n"

-- ---- IPv6

-- a Service comes in both families, in IPv6 under Local
abbrev pub ComesInBoth : Type 0
ComesInBoth =
    change_text settings (of_both [] [])
    (of_both (web4 None Cluster ∷ []) (web6 (Some 30080) Local ∷ []))
    ≡ codes "change default/web:http/TCP cluster 10.96.0.20:80 by KUBE-SVC-CDGGSHYLG3RE2FKL:"
    ++ codes " absent, now open 2; new 10.244.1.10:8080, 10.244.2.10:8080\n"
    ++ codes "change default/web:http/TCP cluster [fd00::20]:80 by KUBE-SVC-CDGGSHYLG3RE2FKL:"
    ++ codes " absent, now open 2; new [fd00::100]:8080, [fd00::101]:8080\n"
    ++ codes "change default/web:http/TCP node [*]:30080 by KUBE-EXT-CDGGSHYLG3RE2FKL: absent,"
    ++ codes " now open 1; new [fd00::100]:8080; policy Local; inside open 2;"
    ++ codes " inside new [fd00::100]:8080, [fd00::101]:8080\n"
