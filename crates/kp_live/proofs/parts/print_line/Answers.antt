use Rattle.std.proofs.Common.{ap, sym, ◌∙◌}
use Rattle.kp_live.proofs.Lines.{printed_line}
use Rattle.kp_live.proofs.parts.print_line.Goals as goal

-- the next answer of its stream was written
pub returns-clause-left : goal.returns-clause-left
returns-clause-left g c = λ t are.
    (printed_line c.args.refusals.now t c.args.line.now c.args.told.now c.index-told-place.result
    c.print_next.new.told c.print_next.result (g.K.Sink.output c.args.sink.now)
    (g.K.Sink.output c.print_next.new.sink)
    (sym c.is_answered.ensures ∙ c.if-not-is_answered.false) c.if-place-told.false
    (record {
      next = c.print_next.ensures.next;
      none = λ holds.
          let n = c.print_next.ensures.none holds in
          (n.0, n.1, ap (λ s. g.K.Sink.output s) n.2);
    }) are).left

pub returns-clause-printed : goal.returns-clause-printed
returns-clause-printed g c = λ t are.
    (printed_line c.args.refusals.now t c.args.line.now c.args.told.now c.index-told-place.result
    c.print_next.new.told c.print_next.result (g.K.Sink.output c.args.sink.now)
    (g.K.Sink.output c.print_next.new.sink)
    (sym c.is_answered.ensures ∙ c.if-not-is_answered.false) c.if-place-told.false
    (record {
      next = c.print_next.ensures.next;
      none = λ holds.
          let n = c.print_next.ensures.none holds in
          (n.0, n.1, ap (λ s. g.K.Sink.output s) n.2);
    }) are).printed
