use Rattle.std.proofs.Common.{◌∙◌, ap, sym}
use Rattle.std.proofs.lemmas.Result.{on_ok_weaker}
use Rattle.kp_choice_defs.specs.Recent.{RecentParts}
use Rattle.kp_workers.proofs.BesideLemmas.{answered, own_lists, size_stays, stay_alike}
use Rattle.kp_workers.proofs.beside.answer_all.Goals as goal

pub invariant_of-lists : goal.invariant_of-lists
invariant_of-lists g c =
    stay_alike c.lists.inside.workers.items c.run_all.new.workers.items c.run_all.ensures.long
    c.run_all.ensures.sizes c.lists.invariant

pub returns-clause-text : goal.returns-clause-text
returns-clause-text g c =
    on_ok_weaker c.push_in_turn.result (λ both. both.0)
    (answered (g.W.Work.part c.args.work.now) (g.W.Work.step c.args.work.now) c.requires.local
    c.args.items.now c.lists.inside.workers.items c.run_all.new.workers.items c.lists.invariant
    c.run_all.ensures.long c.run_all.ensures.sizes c.run_all.ensures.done c.push_in_turn.result
    c.args.out.now.items c.push_in_turn.new.out.items c.as_slice.result.now c.args.lists.now
    c.as_slice.ensures.value (sym c.lists.view_is) c.push_in_turn.ensures.none
    c.push_in_turn.ensures.told)

pub returns-clause-lists : goal.returns-clause-lists
returns-clause-lists g c =
    on_ok_weaker c.push_in_turn.result (λ both. both.1)
    (answered (g.W.Work.part c.args.work.now) (g.W.Work.step c.args.work.now) c.requires.local
    c.args.items.now c.lists.inside.workers.items c.run_all.new.workers.items c.lists.invariant
    c.run_all.ensures.long c.run_all.ensures.sizes c.run_all.ensures.done c.push_in_turn.result
    c.args.out.now.items c.push_in_turn.new.out.items c.as_slice.result.now c.args.lists.now
    c.as_slice.ensures.value (sym c.lists.view_is) c.push_in_turn.ensures.none
    c.push_in_turn.ensures.told)

pub returns-clause-size : goal.returns-clause-size
returns-clause-size g c =
    size_stays own_lists c.lists.inside.workers.items c.run_all.new.workers.items c.run_all.ensures.long
    c.run_all.ensures.sizes
    ∙ ap (λ (l : RecentParts). l.size) c.lists.view_is
