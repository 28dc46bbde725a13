-- Worked lines of a live run and of the generator (this project's choice).
use Rattle.std.specs.Prelude.{◌≡◌, [], ◌∷◌, map, codes, Some, None}
use Rattle.kp_types.specs.declared.event.Kind.TheVariants as kind
use Rattle.kp_types.specs.declared.event.Object.TheVariants as object
use Rattle.kp_types.specs.declared.event.Event.TheVariants.{Apply, Delete}
use Rattle.kp_text_defs.specs.Live.{event_text, record_text, live_sync_text, final_text, totals_text}
use Rattle.kp_worked_texts.specs.Setting as setting

-- changes of each kind of object
abbrev pub Events : Type 0
Events =
    map (event_text 2 (codes "main") 1)
    (Apply (object.Node (record { name = codes "n1"; zone = None }))
    ∷ Delete kind.Node (record { namespace = []; name = codes "n1" })
    ∷ Delete kind.Service (setting.object (codes "web")) ∷ Delete kind.EndpointSlice (setting.object (codes "web"))
    ∷ Delete kind.Pod (setting.object (codes "web")) ∷ [])
    ≡ codes "event 2: main 1 apply Node n1\n" ∷ codes "event 2: main 1 delete Node n1\n"
    ∷ codes "event 2: main 1 delete Service default/web\n" ∷ codes "event 2: main 1 delete EndpointSlice default/web\n"
    ∷ codes "event 2: main 1 delete Pod default/web\n" ∷ []

-- a record
abbrev pub Record : Type 0
Record = record_text 1 2 3 0 ≡ codes "record 1: events 2, written 3, removed 0\n"

-- a sync
abbrev pub Sync : Type 0
Sync = live_sync_text 4 1 ≡ codes "sync 4: record 1\n"

-- the last record
abbrev pub Final : Type 0
Final = final_text 2 None ≡ codes "final: record 2\n"

-- a clash in its place
abbrev pub FinalClash : Type 0
FinalClash =
    final_text 0 (Some setting.clash)
    ≡ codes "final: refused: chain name KUBE-SEP- of default/web/TCP 10.244.1.2:8080 and of default/web/TCP 10.244.2.3:8080\n"

-- what was generated
abbrev pub Totals : Type 0
Totals =
    totals_text (record {
      events = 5;
      syncs = 2;
      packets = 16;
      to = 0;
      rejected = 16;
      dropped = 0;
      left_alone = 0;
      written = 1;
      removed = 0;
    })
    ≡ codes "gen: events 5, syncs 2, packets 16, to 0, rejected 16, dropped 0, left alone 0, written 1, removed 0\n"
