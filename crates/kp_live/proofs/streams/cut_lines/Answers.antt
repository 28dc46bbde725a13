use Rattle.std.proofs.Common.{arith, map}
use Rattle.kp_live.proofs.Cutting.{none_more, own_more, set_same}
use Rattle.kp_live.proofs.streams.cut_lines.Goals as goal

-- a line of no stream
pub loop-line-preserved-then-place-streams : goal.loop-line-preserved-then-place-streams
loop-line-preserved-then-place-streams g c = record {
  standing = c.loop-line.invariant.standing;
  own =
      none_more c.loop-line.streams (λ s. map (λ x. x.now) s.lines.items) c.args.lines.now
      c.loop-line.line-index c.line-item.result c.loop-line-test.true c.line-item.is
      c.loop-line.invariant.own (omega (arith, c.if-place-streams.true, c.loop-line.auto.streams));
}

-- without memory
pub returns-in_err-add-clause-standing : goal.returns-in_err-add-clause-standing
returns-in_err-add-clause-standing g c =
    set_same c.loop-line.streams c.line-item.result.stream c.add.new.self
    c.index-streams-place.result (λ s. s.standing) _ c.add.ensures.standing
    c.loop-line.invariant.standing

-- a stream has one more
pub loop-line-preserved : goal.loop-line-preserved
loop-line-preserved g c = record {
  standing =
      set_same c.loop-line.streams c.line-item.result.stream c.add.new.self
      c.index-streams-place.result (λ s. s.standing) _ c.add.ensures.standing
      c.loop-line.invariant.standing;
  own =
      own_more c.loop-line.streams (λ s. map (λ x. x.now) s.lines.items) c.args.lines.now
      c.loop-line.line-index c.line-item.result c.loop-line-test.true c.line-item.is
      c.loop-line.invariant.own c.add.new.self c.index-streams-place.result
      (omega (arith, c.if-place-streams.false, c.loop-line.auto.streams))
      c.in_ok-add.ensures.lines;
}
