use Rattle.std.proofs.Common.{ℕ, Ok, filter, ap, rules, ◌∙◌}
use Rattle.std.specs.FinMap as finite
use Rattle.std.specs.Iterator.Adapters.{map_callee, map_source}
use Rattle.std.specs.Map.Iter.{deref_pair}
use Rattle.std.proofs.lemmas.Iterator.{YieldsList-from_map_by}
use Rattle.std.proofs.lemmas.Iterator.Consumers.{map_from_collect, YieldsList-from_rest}
use Rattle.std.proofs.lemmas.Iterator.Search.{YieldsList-from_take_while}
use Rattle.kp_base.proofs.KeyOrder.{key_ties}
use Rattle.kp_blocks.specs.Joined.{is_port_of}
use Rattle.kp_blocks.proofs.BlockValues.{block_ports}
use Rattle.kp_blocks.proofs.ServiceRun.{service_run}
use Rattle.kp_blocks.proofs.blocks.Blocks.ports_of.Goals as goal

pub returns : goal.returns
returns c =
    let es = c.self.inside.ports.entries in
    map_from_collect {E = ℕ} (Ok c.in_ok-collect.field-0) c.in_ok-collect.ensures.ran
    (YieldsList-from_take_while _ (is_port_of c.args.service.now)
    (YieldsList-from_map_by _ (λ k. k.now) (λ e. e.0)
    (YieldsList-from_rest {shows = deref_pair} c.range.result
    (ap map_source c.take_while.ensures.source ∙ c.map.ensures.source))
    (ap map_callee c.take_while.ensures.source ∙ c.map.ensures.closure)
    (λ x r q k. search rules))
    c.take_while.ensures.closure c.take_while.ensures.done (λ x b q k. search (rules, key_ties)))
    ∙ service_run c.args.service.now c.in_ok-first.first c.in_ok-first.ensures es c.range.result
    (c.range.ensures.between tt) c.range.ensures.ordered
    ∙ ap (filter (is_port_of c.args.service.now))
    (block_ports es c.range.ensures.ordered ∙ ap finite.keys c.self.view_is)
