use Rattle.std.proofs.Common.{List, ◌++◌, subst}
use Rattle.kp_types.specs.declared.sync.SyncRecord.{SyncRecord}
use Rattle.kp_publish.specs.Entries.{records_of}
use Rattle.kp_hub.specs.Ready.{AreReady}
use Rattle.kp_hub.proofs.Publishing.{kept_pending, open_still, records_still}
use Rattle.kp_hub.proofs.Readiness.{ready_next}
use Rattle.kp_hub.proofs.outlet.publish_first.Goals as goal

pub push_and_publish-requires-clause-number : goal.push_and_publish-requires-clause-number
push_and_publish-requires-clause-number g c =
    let before = records_of c.args.publisher.now.newest in
    (ready_next g.J.Publication.start before c.in-Some.next c.pop_front.new.self.items
    (subst (λ (ws : List SyncRecord). AreReady g.J.Publication.start (before ++ ws)) c.in-Some.ensures.items c.requires.ready)).0

pub push_and_publish-requires-clause-ready : goal.push_and_publish-requires-clause-ready
push_and_publish-requires-clause-ready g c =
    let before = records_of c.args.publisher.now.newest in
    (ready_next g.J.Publication.start before c.in-Some.next c.pop_front.new.self.items
    (subst (λ (ws : List SyncRecord). AreReady g.J.Publication.start (before ++ ws)) c.in-Some.ensures.items c.requires.ready)).1

pub returns-in-Ok-clause-open : goal.returns-in-Ok-clause-open
returns-in-Ok-clause-open g c =
    open_still c.args.publisher.now.newest c.push_and_publish.new.self.newest c.in-Some.next c.requires.«open» c.in-Ok.ensures.ok

pub returns-in-Ok-clause-records : goal.returns-in-Ok-clause-records
returns-in-Ok-clause-records g c =
    records_still c.args.publisher.now.newest c.push_and_publish.new.self.newest c.in-Some.next c.requires.«open» c.in-Ok.ensures.ok
    c.pop_front.new.self.items c.args.waiting.now.items c.in-Some.ensures.items

pub returns-in-Err-NoMemoryPending-clause-open : goal.returns-in-Err-NoMemoryPending-clause-open
returns-in-Err-NoMemoryPending-clause-open g c =
    open_still c.args.publisher.now.newest c.push_and_publish.new.self.newest c.in-Some.next c.requires.«open»
    (kept_pending c.in-Err-NoMemoryPending.field-0 _ c.in-Some.next c.args.publisher.now c.push_and_publish.new.self c.in-Err-NoMemoryPending.field-0-is c.in-Err-NoMemoryPending.ensures.record)

pub returns-in-Err-NoMemoryPending-clause-records : goal.returns-in-Err-NoMemoryPending-clause-records
returns-in-Err-NoMemoryPending-clause-records g c =
    records_still c.args.publisher.now.newest c.push_and_publish.new.self.newest c.in-Some.next c.requires.«open»
    (kept_pending c.in-Err-NoMemoryPending.field-0 _ c.in-Some.next c.args.publisher.now c.push_and_publish.new.self c.in-Err-NoMemoryPending.field-0-is c.in-Err-NoMemoryPending.ensures.record)
    c.pop_front.new.self.items c.args.waiting.now.items c.in-Some.ensures.items
