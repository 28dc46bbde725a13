-- Worked lines of changes: what moves and what goes (this project's choice).
use Rattle.std.specs.Prelude.{◌≡◌, List, [], ◌∷◌, ◌++◌, codes, Some}
use Rattle.kp_base.specs.Net.{AddressParts}
use Rattle.kp_types.specs.declared.service.Policy.TheVariants.{Cluster, Local}
use Rattle.kp_object_defs.specs.PortInfo.{PortInfo}
use Rattle.kp_change_laws.specs.WorkedPorts.{at, ipv4, letter, lines, web, web4}

-- a pod takes the place of another
abbrev pub Rollout : Type 0
Rollout =
    lines (web4 (Some 30080) Cluster ∷ [])
    (web (ipv4 10 96 0 20) (Some 30080) Cluster (at (ipv4 10 244 1 11) 8080)
    (at (ipv4 10 244 2 10) 8080) ∷ [])
    ≡ codes "change default/web:http/TCP cluster 10.96.0.20:80 by KUBE-SVC-CDGGSHYLG3RE2FKL:"
    ++ codes " open 2; new 10.244.1.11:8080; gone 10.244.1.10:8080\n"
    ++ codes "change default/web:http/TCP node *:30080 by KUBE-EXT-CDGGSHYLG3RE2FKL:"
    ++ codes " open 2; new 10.244.1.11:8080; gone 10.244.1.10:8080\n"

-- a Service goes
abbrev pub ServiceGoes : Type 0
ServiceGoes =
    lines (web4 (Some 30080) Local ∷ []) []
    ≡ codes "change default/web:http/TCP cluster 10.96.0.20:80 by KUBE-SVC-CDGGSHYLG3RE2FKL:"
    ++ codes " open 2, now absent; gone 10.244.1.10:8080, 10.244.2.10:8080\n"
    ++ codes "change default/web:http/TCP node *:30080 by KUBE-EXT-CDGGSHYLG3RE2FKL:"
    ++ codes " open 1, now absent; gone 10.244.1.10:8080\n"

-- an address moves from one Service to another
abbrev pub AddressMoves : Type 0
AddressMoves =
    lines (letter (codes "a") 1 80 (ipv4 203 0 113 6 ∷ []) ∷ letter (codes "b") 2 80 [] ∷ [])
    (letter (codes "a") 1 80 [] ∷ letter (codes "b") 2 80 (ipv4 203 0 113 6 ∷ []) ∷ [])
    ≡ codes "change default/a/TCP external 203.0.113.6:80 by KUBE-EXT-BFAXMEHTCSARXUJS: open 1,"
    ++ codes " now absent; gone 10.244.1.1:8080; beside default/b/TCP external\n"
    ++ codes "change default/b/TCP external 203.0.113.6:80 by KUBE-EXT-W2ANRT3464REVKG6: absent,"
    ++ codes " now open 1; new 10.244.1.2:8080\n"

-- two Services come with one external address
abbrev pub OneAddress : Type 0
OneAddress =
    lines []
    (letter (codes "a") 1 80 (ipv4 203 0 113 6 ∷ [])
    ∷ letter (codes "b") 2 80 (ipv4 203 0 113 6 ∷ []) ∷ [])
    ≡ codes "change default/a/TCP cluster 10.96.0.1:80 by KUBE-SVC-BFAXMEHTCSARXUJS: absent,"
    ++ codes " now open 1; new 10.244.1.1:8080\n"
    ++ codes "change default/a/TCP external 203.0.113.6:80 by KUBE-EXT-BFAXMEHTCSARXUJS: absent,"
    ++ codes " now open 1; new 10.244.1.1:8080; beside default/b/TCP external\n"
    ++ codes "change default/b/TCP cluster 10.96.0.2:80 by KUBE-SVC-W2ANRT3464REVKG6: absent,"
    ++ codes " now open 1; new 10.244.1.2:8080\n"
    ++ codes "change default/b/TCP external 203.0.113.6:80 by KUBE-EXT-W2ANRT3464REVKG6: absent,"
    ++ codes " now open 1; new 10.244.1.2:8080; beside default/a/TCP external\n"

-- a Service comes to an external address where four others are
abbrev pub CrowdedAddress : Type 0
CrowdedAddress =
    lines (letter (codes "a") 1 80 [] ∷ others) (letter (codes "a") 1 80 shared ∷ others)
    ≡ codes "change default/a/TCP external 203.0.113.6:80 by KUBE-EXT-BFAXMEHTCSARXUJS: absent,"
    ++ codes " now open 1; new 10.244.1.1:8080; beside default/b/TCP external"
    ++ codes "; beside default/c/TCP external; beside default/d/TCP external; 1 more beside\n"
  where
    shared : List AddressParts
    shared = ipv4 203 0 113 6 ∷ []

    others : List PortInfo
    others =
        letter (codes "b") 2 80 shared ∷ letter (codes "c") 3 80 shared
        ∷ letter (codes "d") 4 80 shared ∷ letter (codes "e") 5 80 shared ∷ []

-- a door moves to another port
abbrev pub PortMoves : Type 0
PortMoves =
    lines (letter (codes "a") 1 80 [] ∷ []) (letter (codes "a") 1 8080 [] ∷ [])
    ≡ codes "change default/a/TCP cluster 10.96.0.1:8080 by KUBE-SVC-BFAXMEHTCSARXUJS: absent,"
    ++ codes " now open 1; new 10.244.1.1:8080\n"
    ++ codes "change default/a/TCP cluster 10.96.0.1:80 by KUBE-SVC-BFAXMEHTCSARXUJS: open 1,"
    ++ codes " now absent; gone 10.244.1.1:8080\n"
