-- Worked lines of answers, explained answers and trails (this project's choice).
use Rattle.std.specs.Prelude.{◌≡◌, ℕ, true, false, List, [], ◌∷◌, map, codes}
use Rattle.kp_types.specs.declared.verdict.Verdict.{Verdict}
use Rattle.kp_types.specs.declared.verdict.Verdict.TheVariants.{To, Rejected, Dropped, LeftAlone}
use Rattle.kp_types.specs.declared.verdict.Pass.{Pass}
use Rattle.kp_types.specs.declared.decision.DoorKind.TheVariants as door
use Rattle.kp_types.specs.declared.decision.ListKind.TheVariants as list
use Rattle.kp_types.specs.declared.decision.ChosenBy.TheVariants.{Affinity, Draws}
use Rattle.kp_types.specs.declared.decision.Reason.{Reason}
use Rattle.kp_types.specs.declared.decision.Reason.TheVariants.{Door, NoEndpoints, NoLocal, Closed, NoDoor}
use Rattle.kp_text_defs.specs.Answers.{explain_text, trail_text}
use Rattle.kp_text_defs.specs.Printed.{packet_text, sync_text, usage_text}
use Rattle.kp_worked_texts.specs.Setting.{web, first}

-- each verdict
abbrev pub Verdicts : Type 0
Verdicts =
    map (packet_text 5 1) (To first false ∷ To first true ∷ Rejected ∷ Dropped ∷ LeftAlone ∷ [])
    ≡ codes "packet 5 at 1: to 10.244.1.2:8080\n" ∷ codes "packet 5 at 1: to 10.244.1.2:8080 masked\n"
    ∷ codes "packet 5 at 1: rejected\n" ∷ codes "packet 5 at 1: dropped\n" ∷ codes "packet 5 at 1: left alone\n" ∷ []

-- a sync
abbrev pub Sync : Type 0
Sync = sync_text 1 2 4 0 ≡ codes "sync 1: events 2, written 4, removed 0\n"

-- words that don't fit
abbrev pub Usage : Type 0
Usage = usage_text ≡ codes "usage: kproxy replay [--workers N] | kproxy live | kproxy gen SEED SERVICES PODS\n"

-- the line of a decision
abbrev pub explained : Verdict → Reason → List ℕ
explained verdict reason = explain_text 5 1 (record { verdict = verdict; reason = reason })

-- an endpoint that draws chose
abbrev pub ByDraws : Type 0
ByDraws =
    explained (To first false) (Door door.Cluster (web []) list.Cluster 2 Draws 1)
    ≡ codes "explain 5 at 1: to 10.244.1.2:8080; door cluster default/web/TCP list cluster size 2 by draws place 1\n"

-- one that affinity kept
abbrev pub ByAffinity : Type 0
ByAffinity =
    explained (To first true) (Door door.Node (web (codes "http")) list.Local 1 Affinity 1)
    ≡ codes "explain 5 at 1: to 10.244.1.2:8080 masked; door node default/web:http/TCP list local size 1 by affinity place 1\n"

-- doors that lead nowhere
abbrev pub ShutDoors : Type 0
ShutDoors =
    explained Rejected (NoEndpoints door.Balancer (web [])) ∷ explained Dropped (NoLocal door.Cluster (web []))
    ∷ explained Dropped (Closed door.External (web [])) ∷ explained LeftAlone NoDoor ∷ []
    ≡ codes "explain 5 at 1: rejected; door balancer default/web/TCP has no endpoints\n"
    ∷ codes "explain 5 at 1: dropped; door cluster default/web/TCP has no local endpoints\n"
    ∷ codes "explain 5 at 1: dropped; door external default/web/TCP is closed to the source\n"
    ∷ codes "explain 5 at 1: left alone; no door decides\n" ∷ []

-- the chains of a traversal
abbrev pub pass : List (List ℕ) → Pass
pass chains = record { chains = record { items = chains } }

-- the way through the nat table
abbrev pub nat : Pass
nat = pass (codes "PREROUTING" ∷ codes "KUBE-SERVICES" ∷ codes "KUBE-SVC-" ∷ codes "KUBE-SEP-" ∷ [])

-- the way through the filter table
abbrev pub filter : Pass
filter = pass (codes "FORWARD" ∷ codes "KUBE-FORWARD" ∷ [])

-- the line of a trail
abbrev pub trail : List Pass → List ℕ
trail passes = trail_text 5 (record { passes = record { items = passes } })

-- trails of no, one and two traversals
abbrev pub Trails : Type 0
Trails =
    map trail ([] ∷ (nat ∷ []) ∷ (nat ∷ filter ∷ []) ∷ [])
    ≡ codes "trail 5: none\n" ∷ codes "trail 5: PREROUTING KUBE-SERVICES KUBE-SVC- KUBE-SEP-\n"
    ∷ codes "trail 5: PREROUTING KUBE-SERVICES KUBE-SVC- KUBE-SEP-, FORWARD KUBE-FORWARD\n" ∷ []
