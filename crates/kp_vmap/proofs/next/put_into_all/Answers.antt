use Rattle.std.proofs.Common.{◌≡◌, ◌∷◌, [], ◌++◌, ◌+◌, take, sym, ap, ◌∙◌}
use Rattle.std.specs.FinMap as finite
use Rattle.std.specs.Ordering.{eq_by_cmp}
use Rattle.std.proofs.lemmas.List.{take_more}
use Rattle.kp_base.proofs.Maps.{inserted}
use Rattle.kp_vmap_defs.proofs.Destinations.{destination_exact, destination_total}
use Rattle.kp_vmap_defs.proofs.Destinations.{destination_tree_ties}
use Rattle.kp_vmap_defs.specs.VerdictMap.{destination_cmp}
use Rattle.kp_vmap.specs.Places.{is_one_at, put_at, staged_at}
use Rattle.kp_vmap.proofs.Staging.{staged_more, put_into_more}
use Rattle.kp_vmap.proofs.next.put_into_all.Goals as goal

pub loop-door-preserved : goal.loop-door-preserved
loop-door-preserved c = λ d.
    let doors = c.args.doors.now in
    let i = c.loop-door.door-index in
    let door = c.door-item.result in
    let kept = c.args.kept.now.entries in
    let start = c.args.staged.now.entries in
    let before = c.loop-door.staged.entries in
    let middle = c.ports_at.new.staged.entries in
    let after = c.insert.new.self.entries in
    let at = c.destination_of-at.result in
    let next : take i doors ++ door ∷ [] ≡ take (i + 1) doors =
    ap (λ q. take i doors ++ q ∷ []) c.door-item.is
    ∙ sym (take_more doors i door c.loop-door-test.true) in
    put_into_more kept before after (staged_at kept start) (take i doors) door c.args.port.now
    c.loop-door.invariant
    (λ e.
    staged_more kept before middle after at c.in_ok-ports.ports c.put.new.self
    (λ m. finite.insert m c.args.port.now.key c.args.port.now)
    (inserted destination_total destination_tree_ties destination_exact middle after at
    c.put.new.self c.in_ok-insert.ensures.updates.0)
    (c.in_ok-put.ensures ∙ ap (λ i. finite.insert c.in_ok-ports.ports i.key i) c.in_ok-copy.ensures)
    c.in_ok-ports.ensures.ports c.in_ok-ports.ensures.others e
    ∙ ap (λ t. put_at (eq_by_cmp destination_cmp e t) c.args.port.now (staged_at kept before e))
    c.destination_of-at.ensures)
    d
    ∙ ap (λ ds. put_at (is_one_at ds d) c.args.port.now (staged_at kept start d)) next
