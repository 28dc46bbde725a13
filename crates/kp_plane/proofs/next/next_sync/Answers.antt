use Rattle.std.proofs.Common.{◌≡◌, ◌*◌, List, length, sum, sym, ap, subst, ◌∙◌, arith}
use Rattle.std.proofs.lemmas.Result.{IfOk-weaker, IfErr-weaker}
use Rattle.kp_base.specs.declared.address.Family.{Family}
use Rattle.kp_base.specs.declared.key.PortKey.{PortKey}
use Rattle.kp_choice_defs.specs.Settings.{settings_of}
use Rattle.kp_object_defs.specs.Objects.{objects_after}
use Rattle.kp_full_table.specs.Faults.{TellsClash}
use Rattle.kp_writer.specs.Batch.{own_rules_written}
use Rattle.kp_plane.specs.Families.{Both, HasDirty, IsWritten, listed, rules_in}
use Rattle.kp_plane.specs.Known.{touched_count}
use Rattle.kp_plane.specs.Invariant.{AreTouchedBetween, IsAtPlace, IsBroughtOn, IsUpToDate, parts_of}
use Rattle.kp_plane.specs.Invariant.{touched_between}
use Rattle.kp_plane.specs.Parts.{next_dirty, objects_in}
use Rattle.kp_plane.proofs.Between.{all_stand, are_dirty, asked_since, brought_on, counted_none}
use Rattle.kp_plane.proofs.Between.{counted_some, counted_within, few_made, makes_next, most_made}
use Rattle.kp_plane.proofs.Between.{next_clash, nothing_next, rules_are}
use Rattle.kp_plane.proofs.Each.{both_weaker}
use Rattle.kp_plane.proofs.Synced.{some_left}
use Rattle.kp_plane.proofs.next.next_sync.Goals as goal

pub bring_on-requires-clause-config : goal.bring_on-requires-clause-config
bring_on-requires-clause-config g c =
    let p = parts_of c.args.config.now c.args.journal.now c.args.history.now in
    both_weaker (IsWritten p.config (objects_in p)) (λ family w. w.config ≡ p.config)
    c.args.ports.now.writers (λ family w is. is.config) c.requires.ports.written

pub bring_on-requires-clause-place : goal.bring_on-requires-clause-place
bring_on-requires-clause-place g c =
    subst (λ es. IsAtPlace es c.args.ports.now.latest) (sym c.events-events.ensures)
    c.requires.ports.place

pub made-requires : goal.made-requires
made-requires g c =
    let p = parts_of c.args.config.now c.args.journal.now c.args.history.now in
    let s = c.args.ports.now in
    let t = c.bring_on.new.self in
    let on = subst (λ es. IsBroughtOn c.args.config.now es s t) c.events-events.ensures
    c.bring_on.ensures.goes_on in
    let is = brought_on p s t c.requires.ports on in
    all_stand c.known_ports.ensures c.own_keys.ensures.after_events p t.writers is.dual is.written
    c.family_stands_alone.ensures c.no_clash_in_families.ensures c.args.history.now
    c.requires.history

pub returns-then-events-history-clause-next : goal.returns-then-events-history-clause-next
returns-then-events-history-clause-next g c =
    let p = parts_of c.args.config.now c.args.journal.now c.args.history.now in
    nothing_next c.same_rules_are_equal.ensures c.dirty_ports.ensures.none p c.args.history.now
    c.requires.history (ap length (sym c.events-events.ensures) ∙ c.if-events-history.true)
    c.args.ports.now c.nothing.result c.nothing.ensures.edits c.nothing.ensures.dirty

pub returns-then-events-history-clause-steps : goal.returns-then-events-history-clause-steps
returns-then-events-history-clause-steps g c = counted_none _ _ _

pub returns-then-events-history-clause-asked : goal.returns-then-events-history-clause-asked
returns-then-events-history-clause-asked g c = counted_none _ _ _

pub returns-then-events-history-clause-made : goal.returns-then-events-history-clause-made
returns-then-events-history-clause-made g c =
    let none = ap own_rules_written c.nothing.ensures.edits in omega (arith, none)

pub returns-in_err-bring_on-clause-ports : goal.returns-in_err-bring_on-clause-ports
returns-in_err-bring_on-clause-ports g c =
    let p = parts_of c.args.config.now c.args.journal.now c.args.history.now in
    let s = c.args.ports.now in
    let t = c.bring_on.new.self in
    brought_on p s t c.requires.ports
    (subst (λ es. IsBroughtOn c.args.config.now es s t) c.events-events.ensures
    c.bring_on.ensures.goes_on)

pub returns-in_err-bring_on-clause-steps : goal.returns-in_err-bring_on-clause-steps
returns-in_err-bring_on-clause-steps g c =
    let p = parts_of c.args.config.now c.args.journal.now c.args.history.now in
    let x = c.args.ports.now.writers in
    let names : Family → List PortKey = λ family. next_dirty family p in
    let dirty = subst (λ es. Both (HasDirty (objects_after es) names) x)
    (sym c.events-events.ensures)
    (are_dirty c.dirty_ports.ensures.clean c.own_keys.ensures.after_events p x
    c.requires.ports.written) in
    let few = ap (λ es. rules_in (objects_after es) names x) c.events-events.ensures in
    let blocks = c.bring_on.ensures.steps names dirty in
    let all = few_made c.known_ports.ensures c.own_keys.ensures.after_events p x
    c.requires.ports.dual c.requires.ports.written in
    counted_within (some_left p c.args.history.now c.requires.history c.if-events-history.false
    (ap length c.events-events.ensures))
    (omega (arith, few, blocks, all))

pub returns-in_err-bring_on-clause-asked : goal.returns-in_err-bring_on-clause-asked
returns-in_err-bring_on-clause-asked g c =
    let settings = settings_of c.args.config.now in
    let p = parts_of c.args.config.now c.args.journal.now c.args.history.now in
    let from = sum p.counts in
    let s = c.args.ports.now in
    let since = subst (λ es. AreTouchedBetween settings es from s.latest.at s.touched)
    (sym c.events-events.ensures) c.requires.ports.since in
    counted_some (some_left p c.args.history.now c.requires.history c.if-events-history.false
    (ap length c.events-events.ensures))
    (ap (λ es. length (listed s.writers)
    * touched_count (objects_after es) (touched_between settings es from (length es)))
    c.events-events.ensures
    ∙ asked_since c.known_ports.ensures c.own_keys.ensures.after_events p s.writers
    c.requires.ports.dual c.requires.ports.written)
    (c.bring_on.ensures.asked from since)

pub returns-clause-ports : goal.returns-clause-ports
returns-clause-ports g c =
    let p = parts_of c.args.config.now c.args.journal.now c.args.history.now in
    let s = c.args.ports.now in
    let t = c.bring_on.new.self in
    brought_on p s t c.requires.ports
    (subst (λ es. IsBroughtOn c.args.config.now es s t) c.events-events.ensures
    c.bring_on.ensures.goes_on)

pub returns-clause-next : goal.returns-clause-next
returns-clause-next g c =
    let p = parts_of c.args.config.now c.args.journal.now c.args.history.now in
    let s = c.args.ports.now in
    let t = c.bring_on.new.self in
    let on = subst (λ es. IsBroughtOn c.args.config.now es s t) c.events-events.ensures
    c.bring_on.ensures.goes_on in
    let is = brought_on p s t c.requires.ports on in
    let up = subst (λ es. IsUpToDate es t) c.events-events.ensures c.in_ok-bring_on.ensures.ok in
    IfOk-weaker c.made.result _ _
    (makes_next c.known_ports.ensures c.own_keys.ensures.after_events p t.writers is.dual is.written
    up.newest c.changes_of_node.ensures c.known_dirty_ports.ensures.ports t up)
    c.made.ensures.next

pub returns-clause-clash : goal.returns-clause-clash
returns-clause-clash g c =
    let p = parts_of c.args.config.now c.args.journal.now c.args.history.now in
    let s = c.args.ports.now in
    let t = c.bring_on.new.self in
    let on = subst (λ es. IsBroughtOn c.args.config.now es s t) c.events-events.ensures
    c.bring_on.ensures.goes_on in
    let is = brought_on p s t c.requires.ports on in
    let up = subst (λ es. IsUpToDate es t) c.events-events.ensures c.in_ok-bring_on.ensures.ok in
    IfErr-weaker c.made.result _ _
    (λ fault told.
    subst (λ clash. TellsClash clash fault)
    (next_clash c.known_ports.ensures c.own_keys.ensures.after_events p t.writers is.dual
    is.written up.newest) told)
    c.made.ensures.clash

pub returns-clause-steps : goal.returns-clause-steps
returns-clause-steps g c =
    let config = c.args.config.now in
    let p = parts_of config c.args.journal.now c.args.history.now in
    let s = c.args.ports.now in
    let t = c.bring_on.new.self in
    let names : Family → List PortKey = λ family. next_dirty family p in
    let dirty = subst (λ es. Both (HasDirty (objects_after es) names) s.writers)
    (sym c.events-events.ensures)
    (are_dirty c.dirty_ports.ensures.clean c.own_keys.ensures.after_events p s.writers
    c.requires.ports.written) in
    let few = ap (λ es. rules_in (objects_after es) names s.writers) c.events-events.ensures in
    let blocks = c.bring_on.ensures.steps names dirty in
    let on = subst (λ es. IsBroughtOn config es s t) c.events-events.ensures
    c.bring_on.ensures.goes_on in
    let is = brought_on p s t c.requires.ports on in
    let up = subst (λ es. IsUpToDate es t) c.events-events.ensures c.in_ok-bring_on.ensures.ok in
    let before = rules_are c.known_ports.ensures c.own_keys.ensures.after_events p s.writers
    c.requires.ports.dual c.requires.ports.written in
    let now = rules_are c.known_ports.ensures c.own_keys.ensures.after_events p t.writers
    is.dual is.written in
    let edited = most_made c.known_ports.ensures c.own_keys.ensures.after_events p t.writers
    is.dual is.written up.newest c.known_dirty_ports.ensures.newest in
    counted_within (some_left p c.args.history.now c.requires.history c.if-events-history.false
    (ap length c.events-events.ensures))
    (omega (arith, few, blocks, before, now, edited, c.made.ensures.steps))

pub returns-clause-asked : goal.returns-clause-asked
returns-clause-asked g c =
    let settings = settings_of c.args.config.now in
    let p = parts_of c.args.config.now c.args.journal.now c.args.history.now in
    let from = sum p.counts in
    let s = c.args.ports.now in
    let since = subst (λ es. AreTouchedBetween settings es from s.latest.at s.touched)
    (sym c.events-events.ensures) c.requires.ports.since in
    counted_some (some_left p c.args.history.now c.requires.history c.if-events-history.false
    (ap length c.events-events.ensures))
    (ap (λ es. length (listed s.writers)
    * touched_count (objects_after es) (touched_between settings es from (length es)))
    c.events-events.ensures
    ∙ asked_since c.known_ports.ensures c.own_keys.ensures.after_events p s.writers
    c.requires.ports.dual c.requires.ports.written)
    (c.bring_on.ensures.asked from since)
