use Rattle.std.proofs.Common.{ap, length, refl, sym, subst, arith, rules}
use Rattle.std.specs.Prelude.{string_bytes}
use Rattle.std.specs.Vec.Iter.{into_iter_items}
use Rattle.kp_replay.specs.Steps.{LosesNothing, standing_of}
use Rattle.kp_replay.proofs.KeptLemmas.{begins_as, goes_on_kept, read_kept}
use Rattle.kp_replay.proofs.StepLemmas.{first_later, goes_on, rest_later, rest_read}
use Rattle.kp_replay.proofs.replay.Replay.take_reads.Goals as goal

pub take_read-requires : goal.take_read-requires
take_read-requires c =
    first_later (into_iter_items c.loop-read.read-iterator) c.in-Some.read
    (into_iter_items c.next.new.self) c.loop-read.invariant.later c.in-Some.ensures.steps.0

-- one more was taken
pub loop-read-preserved : goal.loop-read-preserved
loop-read-preserved c =
    let at = c.loop-read in
    let is = c.in-Some.ensures.steps.0 in
    let took = c.in_ok-take_read.ensures.took in
    record {
      lines =
          goes_on (string_bytes at.printed) (string_bytes c.take_read.new.text) (standing_of at.self)
          (standing_of c.take_read.new.self) (into_iter_items at.read-iterator) c.in-Some.read
          (into_iter_items c.next.new.self) _ is took.stands took.text at.invariant.lines;
      later =
          rest_later (into_iter_items at.read-iterator) c.in-Some.read
          (into_iter_items c.next.new.self) at.invariant.later is;
      read =
          rest_read (into_iter_items at.read-iterator) c.in-Some.read
          (into_iter_items c.next.new.self) c.args.reads.items is c.in_ok-take_read.ensures.read
          at.invariant.read;
      kept =
          goes_on_kept (standing_of c.args.self.now) (standing_of at.self)
          (standing_of c.take_read.new.self) at.invariant.kept
          (subst (LosesNothing (standing_of at.self)) (sym took.stands)
          (read_kept c.in-Some.read (standing_of at.self)
          (first_later (into_iter_items at.read-iterator) c.in-Some.read
          (into_iter_items c.next.new.self) at.invariant.later is)));
      left = let long = ap length is in omega (arith, c.in-Some.ensures.steps.1, long, at.invariant.left);
    }

pub returns-in_err-take_read-clause-kept : goal.returns-in_err-take_read-clause-kept
returns-in_err-take_read-clause-kept c =
    let kept = goes_on_kept (standing_of c.args.self.now) (standing_of c.loop-read.self)
    (standing_of c.take_read.new.self) c.loop-read.invariant.kept c.in_err-take_read.ensures.took.0 in
    search rules

pub returns-in_err-take_read-clause-front : goal.returns-in_err-take_read-clause-front
returns-in_err-take_read-clause-front c =
    let text = c.args.text.now.items in
    let front = begins_as text text refl in
    search rules
