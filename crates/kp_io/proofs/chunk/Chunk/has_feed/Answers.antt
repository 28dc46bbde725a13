use Rattle.std.proofs.Common.{◌-◌, take, drop, ap, ◌∙◌}
use Rattle.std.specs.Prelude.{is_some}
use Rattle.std.specs.List.{list_any}
use Rattle.kp_io.specs.Lines.{is_line_feed}
use Rattle.kp_io.proofs.LineLemmas.{is_some-position}
use Rattle.kp_io.proofs.chunk.Chunk.has_feed.Goals as goal

pub returns : goal.returns
returns c =
    let inside = c.self.inside in
    c.is_some.ensures
    ∙ ap is_some c.self.invariant.3
    ∙ is_some-position (take (inside.end - inside.start) (drop inside.start inside.buffer.items))
    ∙ ap (list_any is_line_feed) c.self.view_is
