use Rattle.std.proofs.Common.{◌≡◌, ◌+◌, ℕ, List, [], length, map, append-nil, ap, sym, refl, subst, arith, rules}
use Rattle.std.proofs.lemmas.Result.{on_err_weaker}
use Rattle.kp_replay.specs.Groups.{AreReadAs}
use Rattle.kp_replay.specs.Steps.{standing_of}
use Rattle.kp_replay.proofs.AheadLemmas.{ends_there, ends_with, goes_further, kept_between, later_between, texts_cut, texts_none}
use Rattle.kp_replay.proofs.KeptLemmas.{goes_on_kept}
use Rattle.kp_replay.proofs.OkLemmas.{both_ok}
use Rattle.kp_replay.proofs.StepLemmas.{length-map}
use Rattle.kp_replay.proofs.replay.Replay.take_beside.Goals as goal

pub take_ahead-requires-clause-later : goal.take_ahead-requires-clause-later
take_ahead-requires-clause-later g c κs within =
    later_between _ _ _ _ _ _ _ _ _ c.loop-rest.invariant.between

pub take_ahead-requires-2-clause-later : goal.take_ahead-requires-2-clause-later
take_ahead-requires-2-clause-later g c κs within =
    later_between _ _ _ _ _ _ _ _ _ c.loop-rest.invariant.between

-- the first lines were read
pub loop-rest-init : goal.loop-rest-init
loop-rest-init g c =
    let cut = c.split_at in
    let first = map (λ line. line.now) cut.result.0.now in
    let number = c.args.number in
    let none : number ≡ number + length {A = List ℕ} [] = omega arith in
    record {
      between = record {
        done = [];
        held = first;
        whole =
            texts_cut (λ line. line.now) _ c.args.lines.now cut.result.0.now cut.result.1.now
            cut.ensures.front cut.ensures.back;
        are = subst (λ n. AreReadAs n first c.read_lines.new.reads.items) none c.in_ok-read_lines.ensures;
        place = omega (arith, none, length-map (λ line. line.now) cut.result.0.now);
        stands = refl;
        text = sym (append-nil c.args.text.now.items);
      };
      all = omega (arith, cut.ensures.front_len, cut.ensures.back_len);
    }

-- some more were taken, and the next ones were read
pub loop-rest-preserved : goal.loop-rest-preserved
loop-rest-preserved g c =
    let at = c.loop-rest in
    let cut = c.split_at-in-loop-rest in
    let ahead = cut.result.0.now in
    let later = cut.result.1.now in
    let took = c.in_ok-take_ahead.ensures in
    record {
      between =
          goes_further _ _ _ _ _ _ _ _ _ at.invariant.between c.requires.begun
          (standing_of c.take_ahead.new.self) c.take_ahead.new.text.items took.read
          took.takes.stands took.takes.text (map (λ line. line.now) ahead)
          (map (λ line. line.now) later) c.take_ahead.new.reads.current.items
          (at.next + length ahead)
          (texts_cut (λ line. line.now) _ at.rest.now ahead later cut.ensures.front cut.ensures.back)
          took.next (ap (λ n. at.next + n) (sym (length-map (λ line. line.now) ahead)));
      all = omega (arith, at.invariant.all, cut.ensures.front_len, cut.ensures.back_len);
    }

pub returns-in_err-take_ahead-clause-kept : goal.returns-in_err-take_ahead-clause-kept
returns-in_err-take_ahead-clause-kept g c =
    let at = c.loop-rest in
    let start = standing_of c.args.self.now in
    let kept = goes_on_kept start (standing_of at.self) (standing_of c.take_ahead.new.self)
    (kept_between _ _ _ _ _ _ _ _ _ at.invariant.between c.requires.begun)
    c.in_err-take_ahead.ensures.kept in
    search rules

-- no more were left
pub returns-clause-takes : goal.returns-clause-takes
returns-clause-takes g c =
    let at = c.loop-rest in
    let left : length at.rest.now ≡ 0 = search rules in
    let none = texts_none (λ line. line.now) at.rest.now left in
    let end = standing_of c.take_ahead-2.new.self in
    let last = c.take_ahead-2.new.text.items in
    both_ok _ _ _ c.take_ahead-2.result c.take_ahead-2.ensures.takes c.take_ahead-2.ensures.read (λ took were.
    record {
      stands =
          ends_there _ _ _ _ _ _ _ _ _ at.invariant.between c.requires.begun end last were
          took.stands took.text none;
      text =
          ends_with _ _ _ _ _ _ _ _ _ at.invariant.between c.requires.begun end last were
          took.stands took.text none;
    })

pub returns-clause-kept : goal.returns-clause-kept
returns-clause-kept g c =
    let at = c.loop-rest in
    on_err_weaker c.take_ahead-2.result (goes_on_kept (standing_of c.args.self.now)
    (standing_of at.self) (standing_of c.take_ahead-2.new.self)
    (kept_between _ _ _ _ _ _ _ _ _ at.invariant.between c.requires.begun))
    c.take_ahead-2.ensures.kept
