use Rattle.std.proofs.Common.{ℕ, Ok, rules}
use Rattle.std.proofs.lemmas.Iterator.{YieldsList-from_slice, YieldsList-from_take}
use Rattle.std.proofs.lemmas.Iterator.Consumers.{map_from_collect, YieldsList-at, YieldsList-from_filter}
use Rattle.kp_changes.specs.Neighbours.{is_other}
use Rattle.kp_changes.proofs.beside.first_others.Goals as goal

pub returns : goal.returns
returns c =
    map_from_collect {E = ℕ} (Ok c.in_ok-collect.field-0) c.in_ok-collect.ensures.ran
    (YieldsList-from_take {s = c.take.result} 3
    (YieldsList-at c.take.ensures.source
    (YieldsList-from_filter _ (is_other c.args.door.now) (YieldsList-from_slice c.args.crowd.now cc)
    c.filter.ensures.closure (λ x r q k. search rules)))
    c.take.ensures.count)
