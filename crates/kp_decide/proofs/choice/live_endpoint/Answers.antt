use Rattle.std.proofs.Common.{◌+◌, arith, cond, length, refl, sym, ap, ◌∙◌}
use Rattle.std.proofs.lemmas.Option.{slice_get_read}
use Rattle.kp_choice_defs.specs.Names.{endpoint_chain_name}
use Rattle.kp_choice_defs.specs.Recent.{is_live, reaped}
use Rattle.kp_decide.proofs.Affinity.{begun, found_there, lists_there, one_more}
use Rattle.kp_decide.proofs.choice.live_endpoint.Goals as goal

pub loop-place-init : goal.loop-place-init
loop-place-init g c = begun _ _ _ _ _ _ _

pub name-name-requires-clause-place : goal.name-name-requires-clause-place
name-name-requires-clause-place g c =
    let es = c.args.endpoints.now in
    let place = c.loop-place.place in
    c.requires.offer place c.index-endpoints-place.result (slice_get_read es (length es) place c.index-endpoints-place.result refl c.loop-place-test.true c.index-endpoints-place.is)

pub returns-then-look-clause-placed : goal.returns-then-look-clause-placed
returns-then-look-clause-placed g c =
    let es = c.args.endpoints.now in
    slice_get_read es (length es) c.loop-place.place c.index-endpoints-place.result refl c.loop-place-test.true c.index-endpoints-place.is

-- the endpoint has the source
pub returns-then-look-clause-found : goal.returns-then-look-clause-found
returns-then-look-clause-found g c =
    let es = c.args.endpoints.now in
    let source = c.args.packet.now.source in
    let now = c.args.packet.now.now in
    let after = g.L.Looks.lists c.loop-place.lists in
    let e = c.index-endpoints-place.result in
    found_there (endpoint_chain_name (g.R.PortRow.name_length c.args.ports.now) c.args.info.now.key) source now c.args.seconds es (g.L.Looks.lists c.args.lists.now) g.L.Looks.changes c.loop-place.place after (g.L.Looks.lists c.look.new.self) e c.loop-place.invariant
    (slice_get_read es (length es) c.loop-place.place e refl c.loop-place-test.true c.index-endpoints-place.is)
    (sym (ap (λ n. is_live after n source now c.args.seconds) c.name-name.ensures) ∙ sym c.look.ensures.live ∙ c.if-look.true)
    (c.look.ensures.lists ∙ ap (λ n. cond g.L.Looks.changes (reaped after n source now c.args.seconds) after) c.name-name.ensures)

pub returns-then-look-clause-lists : goal.returns-then-look-clause-lists
returns-then-look-clause-lists g c =
    let es = c.args.endpoints.now in
    let source = c.args.packet.now.source in
    let now = c.args.packet.now.now in
    let after = g.L.Looks.lists c.loop-place.lists in
    let e = c.index-endpoints-place.result in
    lists_there (endpoint_chain_name (g.R.PortRow.name_length c.args.ports.now) c.args.info.now.key) source now c.args.seconds es (g.L.Looks.lists c.args.lists.now) g.L.Looks.changes c.loop-place.place after (g.L.Looks.lists c.look.new.self) e c.loop-place.invariant
    (slice_get_read es (length es) c.loop-place.place e refl c.loop-place-test.true c.index-endpoints-place.is)
    (sym (ap (λ n. is_live after n source now c.args.seconds) c.name-name.ensures) ∙ sym c.look.ensures.live ∙ c.if-look.true)
    (c.look.ensures.lists ∙ ap (λ n. cond g.L.Looks.changes (reaped after n source now c.args.seconds) after) c.name-name.ensures)

-- the endpoint doesn't have it
pub loop-place-preserved : goal.loop-place-preserved
loop-place-preserved g c =
    let es = c.args.endpoints.now in
    let source = c.args.packet.now.source in
    let now = c.args.packet.now.now in
    let after = g.L.Looks.lists c.loop-place.lists in
    let e = c.index-endpoints-place.result in
    one_more (endpoint_chain_name (g.R.PortRow.name_length c.args.ports.now) c.args.info.now.key) source now c.args.seconds es (g.L.Looks.lists c.args.lists.now) g.L.Looks.changes c.loop-place.place (c.loop-place.place + 1) after (g.L.Looks.lists c.look.new.self) e (omega arith) c.loop-place.invariant
    (slice_get_read es (length es) c.loop-place.place e refl c.loop-place-test.true c.index-endpoints-place.is)
    (sym (ap (λ n. is_live after n source now c.args.seconds) c.name-name.ensures) ∙ sym c.look.ensures.live ∙ c.if-look.false)
    (c.look.ensures.lists ∙ ap (λ n. cond g.L.Looks.changes (reaped after n source now c.args.seconds) after) c.name-name.ensures)
