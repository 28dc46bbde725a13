use Rattle.std.proofs.Common.{◌+◌, ◌-◌, sym, ap, ◌∙◌, arith}
use Rattle.kp_rule_text.specs.Reading.{matches_of}
use Rattle.kp_rule_text.proofs.Rules.{after, all_read, one_more}
use Rattle.kp_rule_text.proofs.read.read_matches.Goals as goal

-- one more match is read
pub loop-preserved : goal.loop-preserved
loop-preserved c =
    let before = c.loop.invariant.count in
    record {
      count = omega (arith, before, c.push.ensures.len);
      read =
          ap (λ ms. after ms (matches_of c.args.family (4 - (c.loop.counter + 1)) c.in-Some.behind.now)) c.push.ensures.items
          ∙ sym (one_more c.args.family (4 - c.loop.counter) (4 - (c.loop.counter + 1)) c.loop.matches.items c.in-Some.matched c.loop.rest.now c.in-Some.behind.now (omega arith) c.in-Some.ensures)
          ∙ c.loop.invariant.read;
    }

pub returns : goal.returns
returns c = sym (all_read c.args.family (4 - c.loop.counter) c.loop.matches.items c.loop.rest.now (omega arith)) ∙ c.loop.invariant.read
