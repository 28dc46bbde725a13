use Rattle.std.proofs.Common.{ℕ, map, Ok, ap, ◌∙◌}
use Rattle.std.specs.FinMap as finite
use Rattle.std.proofs.lemmas.Iterator.Consumers.{map_from_collect, YieldsList-from_rest}
use Rattle.kp_blocks.proofs.BlockValues.{block_ports}
use Rattle.kp_blocks.proofs.blocks.Blocks.ports.Goals as goal

pub returns : goal.returns
returns c =
    let es = c.self.inside.ports.entries in
    map_from_collect {E = ℕ} (Ok c.in_ok-collect.field-0) c.in_ok-collect.ensures.ran
    (YieldsList-from_rest {shows = λ k. k.now} (map (λ e. e.0) es) c.keys.ensures.rest)
    ∙ block_ports es c.keys.ensures.ordered
    ∙ ap finite.keys c.self.view_is
