use Rattle.std.proofs.Common.{◌<◌, ◌==◌, ◌∙◌, ap, refl, arith, rules}
use Rattle.std.specs.FinMap.{get}
use Rattle.kp_choice_defs.specs.Recent.{RecentParts}
use Rattle.kp_part_laws.specs.Beside.{worker_of}
use Rattle.kp_workers.specs.Walks.{HaveDraws, walk_step}
use Rattle.kp_workers.proofs.WalkLemmas.{each_walked, finished, taken_sized, walk_local}
use Rattle.kp_workers.proofs.walks.walk_all.Goals as goal

pub unite-requires-clause-sized : goal.unite-requires-clause-sized
unite-requires-clause-sized g c =
    taken_sized c.args.lists.now (λ w part. worker_of c.min-count.result part == w)
    c.in_ok-values.values c.in_ok-values.ensures.parts c.in_ok-walkers.walkers.items
    c.run_all.new.walkers.items c.in_ok-walkers.ensures c.run_all.ensures.long
    c.run_all.ensures.sizes c.in_ok-values-2.values _ c.in_ok-values-2.ensures.lists
    (ap (λ (l : RecentParts). l.size) c.in_ok-values.ensures.rest)

pub returns-clause-answers : goal.returns-clause-answers
returns-clause-answers g c =
    let asked : 0 < c.args.workers = search rules in
    let some : 0 < c.min-count.result = omega (arith, c.min-count.ensures, asked) in
    let have : HaveDraws (λ number k draw. g.F.Fn.post c.args.draws.now (number, (k, tt)) draw)
    c.args.packets.now g.drawn = search rules in
    let at = get c.args.table.now.chains in
    finished (walk_step at c.args.node.now g.drawn) (walk_local at c.args.node.now g.drawn)
    c.args.packets.now c.args.lists.now c.in_ok-values.values c.min-count.result
    c.in_ok-values.ensures.count some c.in_ok-values.ensures.parts
    c.in_ok-walkers.walkers.items c.run_all.new.walkers.items c.in_ok-walkers.ensures
    c.run_all.ensures.long
    (each_walked (λ number k draw. g.F.Fn.post c.args.draws.now (number, (k, tt)) draw) at
    c.args.node.now c.as_slice.result.now c.args.packets.now g.drawn
    c.in_ok-walkers.walkers.items c.run_all.new.walkers.items c.as_slice.ensures
    have c.run_all.ensures.walked)
    c.in_ok-values-2.ensures.none (λ x. x.answers) (λ q. q.items) (λ x. refl)
    c.as_slice-2.result.now c.as_mut_slice.result.now c.in_ok-values-2.values _
    c.in_ok-answers.answers c.unite.new.self c.as_slice-2.ensures
    (c.as_mut_slice.ensures.value ∙ c.in_ok-values-2.ensures.queues)
    c.in_ok-values-2.ensures.lists (ap (λ (l : RecentParts). l.size) c.in_ok-values.ensures.rest)
    c.in_ok-answers.ensures c.unite.ensures
