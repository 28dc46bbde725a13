use Rattle.std.proofs.Common.{rules, ◌≡◌, ◌+◌, length, refl, ap, sym, ◌∙◌, arith}
use Rattle.std.proofs.lemmas.List.{nil_from_length}
use Rattle.std.proofs.lemmas.Result.{err_from_is_err_and}
use Rattle.kp_io.specs.Gather.{told_from}
use Rattle.kp_io.specs.declared.next_line.TheConstants.{INPUT_LIMIT}
use Rattle.kp_io.proofs.ComeLemmas.{unasked_source}
use Rattle.kp_io.proofs.FeedLemmas.{feeds_first, feeds_line, feeds_more, feeds_stop}
use Rattle.kp_io.proofs.GatherLemmas.{gathered_is, gathered_size, found_length, kept_first, kept_found, kept_none, kept_read, kept_end, feed_clash, read_first, read_more, read_taken, read_no_feed, before_within, asked_once}
use Rattle.kp_io.proofs.LineLemmas.{after_first-none}
use Rattle.kp_io.proofs.gather.gather_line.Goals as goal

pub loop-chunk-init : goal.loop-chunk-init
loop-chunk-init g c =
    let left = (g.S.Source.input c.args.source.now).left in
    record {
      part = c.requires.part;
      room = c.requires.chunk;
      kept = kept_first c.args.part.now c.args.chunk.now left;
      size = omega arith;
      feeds = feeds_first INPUT_LIMIT c.args.chunk.now c.args.taken.now left;
      read = read_first c.args.taken.now c.args.chunk.now left;
      more = omega arith;
      most = c.requires.taken;
      same = refl;
      unasked = λ _. (refl, refl);
      asked = unasked_source g.S.Source.input c.args.source.now;
    }

pub returns-then-branch-clause-part : goal.returns-then-branch-clause-part
returns-then-branch-clause-part g c =
    gathered_is c.loop-chunk.part c.gather.new.part c.loop-chunk.chunk c.loop-chunk.invariant.part c.in_ok-gather.ensures.part

pub returns-then-branch-clause-gathers : goal.returns-then-branch-clause-gathers
returns-then-branch-clause-gathers g c =
    kept_found c.loop-chunk.part c.gather.new.part c.loop-chunk.chunk c.gather.new.chunk
    (told_from c.args.part.now c.args.chunk.now (g.S.Source.input c.args.source.now).left) (g.S.Source.input c.loop-chunk.source).left
    c.loop-chunk.invariant.part (sym c.in_ok-gather.ensures.whole ∙ c.if-branch.true) c.in_ok-gather.ensures.part c.in_ok-gather.ensures.rest c.loop-chunk.invariant.kept

pub returns-then-branch-clause-size : goal.returns-then-branch-clause-size
returns-then-branch-clause-size g c =
    let found = sym c.in_ok-gather.ensures.whole ∙ c.if-branch.true in
    omega (arith, c.loop-chunk.invariant.size, found_length c.loop-chunk.chunk found, gathered_size c.loop-chunk.part c.gather.new.part c.loop-chunk.chunk c.in_ok-gather.ensures.part, ap length c.in_ok-gather.ensures.rest)

pub returns-then-branch-clause-feeds : goal.returns-then-branch-clause-feeds
returns-then-branch-clause-feeds g c =
    feeds_line INPUT_LIMIT c.args.chunk.now c.loop-chunk.chunk c.gather.new.chunk c.args.taken.now c.loop-chunk.taken
    (g.S.Source.input c.args.source.now).left (g.S.Source.input c.loop-chunk.source).left
    (sym c.in_ok-gather.ensures.whole ∙ c.if-branch.true) c.loop-chunk.invariant.most c.in_ok-gather.ensures.rest c.loop-chunk.invariant.feeds

pub fill-requires-clause-empty : goal.fill-requires-clause-empty
fill-requires-clause-empty g c =
    c.in_ok-gather.ensures.rest ∙ after_first-none c.loop-chunk.chunk (sym c.in_ok-gather.ensures.whole ∙ c.if-branch.false)

pub returns-in_err-count-clause-part : goal.returns-in_err-count-clause-part
returns-in_err-count-clause-part g c =
    gathered_is c.loop-chunk.part c.gather.new.part c.loop-chunk.chunk c.loop-chunk.invariant.part c.in_ok-gather.ensures.part

pub returns-in_err-count-clause-gathers : goal.returns-in_err-count-clause-gathers
returns-in_err-count-clause-gathers g c =
    let fault = err_from_is_err_and c.from_residual-in_err-count.result c.from_residual-in_err-count.ensures.1 in
    let told = told_from c.args.part.now c.args.chunk.now (g.S.Source.input c.args.source.now).left in
    let left = (g.S.Source.input c.loop-chunk.source).left in
    let unfound = sym c.in_ok-gather.ensures.whole ∙ c.if-branch.false in
    rw fault.1
    (kept_read c.gather.new.part c.gather.new.chunk c.fill.new.self told left (g.S.Source.input c.fill.new.source).left
    (c.in_ok-gather.ensures.rest ∙ after_first-none c.loop-chunk.chunk unfound)
    (kept_none c.loop-chunk.part c.gather.new.part c.loop-chunk.chunk c.gather.new.chunk told left c.loop-chunk.invariant.part unfound c.in_ok-gather.ensures.part c.in_ok-gather.ensures.rest c.loop-chunk.invariant.kept)
    c.fill.ensures.bytes)

pub returns-in_err-count-clause-feeds : goal.returns-in_err-count-clause-feeds
returns-in_err-count-clause-feeds g c =
    let fault = err_from_is_err_and c.from_residual-in_err-count.result c.from_residual-in_err-count.ensures.1 in
    rw fault.1
    (feeds_stop INPUT_LIMIT c.args.chunk.now c.loop-chunk.chunk c.fill.new.self c.args.taken.now c.loop-chunk.taken c.loop-chunk.taken
    (g.S.Source.input c.args.source.now).left (g.S.Source.input c.loop-chunk.source).left (g.S.Source.input c.fill.new.source).left
    (sym c.in_ok-gather.ensures.whole ∙ c.if-branch.false) c.loop-chunk.invariant.most (omega (arith, ap length c.in_err-count.ensures.err))
    c.loop-chunk.invariant.feeds c.fill.ensures.bytes)

pub returns-then-count-eq0-clause-part : goal.returns-then-count-eq0-clause-part
returns-then-count-eq0-clause-part g c =
    gathered_is c.loop-chunk.part c.gather.new.part c.loop-chunk.chunk c.loop-chunk.invariant.part c.in_ok-gather.ensures.part

pub returns-then-count-eq0-clause-gathers : goal.returns-then-count-eq0-clause-gathers
returns-then-count-eq0-clause-gathers g c =
    let told = told_from c.args.part.now c.args.chunk.now (g.S.Source.input c.args.source.now).left in
    let left = (g.S.Source.input c.loop-chunk.source).left in
    let now = (g.S.Source.input c.fill.new.source).left in
    let unfound = sym c.in_ok-gather.ensures.whole ∙ c.if-branch.false in
    let none : length c.fill.new.self ≡ 0 = sym c.in_ok-count.ensures.count.0 ∙ c.if-count-eq0.true in
    kept_end c.gather.new.part c.fill.new.self told now (nil_from_length c.fill.new.self none) (c.in_ok-count.ensures.ended c.if-count-eq0.true)
    (kept_read c.gather.new.part c.gather.new.chunk c.fill.new.self told left now
    (c.in_ok-gather.ensures.rest ∙ after_first-none c.loop-chunk.chunk unfound)
    (kept_none c.loop-chunk.part c.gather.new.part c.loop-chunk.chunk c.gather.new.chunk told left c.loop-chunk.invariant.part unfound c.in_ok-gather.ensures.part c.in_ok-gather.ensures.rest c.loop-chunk.invariant.kept)
    c.fill.ensures.bytes)

pub returns-then-count-eq0-clause-feeds : goal.returns-then-count-eq0-clause-feeds
returns-then-count-eq0-clause-feeds g c =
    feeds_stop INPUT_LIMIT c.args.chunk.now c.loop-chunk.chunk c.fill.new.self c.args.taken.now c.loop-chunk.taken c.loop-chunk.taken
    (g.S.Source.input c.args.source.now).left (g.S.Source.input c.loop-chunk.source).left (g.S.Source.input c.fill.new.source).left
    (sym c.in_ok-gather.ensures.whole ∙ c.if-branch.false) c.loop-chunk.invariant.most (omega (arith, c.in_ok-count.ensures.count.0, c.if-count-eq0.true))
    c.loop-chunk.invariant.feeds c.fill.ensures.bytes

pub returns-then-taken-gt-INPUT_LIMIT-clause-part :
    goal.returns-then-taken-gt-INPUT_LIMIT-clause-part
returns-then-taken-gt-INPUT_LIMIT-clause-part g c =
    gathered_is c.loop-chunk.part c.gather.new.part c.loop-chunk.chunk c.loop-chunk.invariant.part c.in_ok-gather.ensures.part

pub returns-then-taken-gt-INPUT_LIMIT-clause-gathers :
    goal.returns-then-taken-gt-INPUT_LIMIT-clause-gathers
returns-then-taken-gt-INPUT_LIMIT-clause-gathers g c =
    let told = told_from c.args.part.now c.args.chunk.now (g.S.Source.input c.args.source.now).left in
    let left = (g.S.Source.input c.loop-chunk.source).left in
    let unfound = sym c.in_ok-gather.ensures.whole ∙ c.if-branch.false in
    kept_read c.gather.new.part c.gather.new.chunk c.fill.new.self told left (g.S.Source.input c.fill.new.source).left
    (c.in_ok-gather.ensures.rest ∙ after_first-none c.loop-chunk.chunk unfound)
    (kept_none c.loop-chunk.part c.gather.new.part c.loop-chunk.chunk c.gather.new.chunk told left c.loop-chunk.invariant.part unfound c.in_ok-gather.ensures.part c.in_ok-gather.ensures.rest c.loop-chunk.invariant.kept)
    c.fill.ensures.bytes

pub returns-then-taken-gt-INPUT_LIMIT-clause-feeds :
    goal.returns-then-taken-gt-INPUT_LIMIT-clause-feeds
returns-then-taken-gt-INPUT_LIMIT-clause-feeds g c =
    feeds_stop INPUT_LIMIT c.args.chunk.now c.loop-chunk.chunk c.fill.new.self c.args.taken.now c.loop-chunk.taken (c.loop-chunk.taken + c.in_ok-count.count)
    (g.S.Source.input c.args.source.now).left (g.S.Source.input c.loop-chunk.source).left (g.S.Source.input c.fill.new.source).left
    (sym c.in_ok-gather.ensures.whole ∙ c.if-branch.false) c.loop-chunk.invariant.most (ap (λ n. c.loop-chunk.taken + n) c.in_ok-count.ensures.count.0)
    c.loop-chunk.invariant.feeds c.fill.ensures.bytes

pub returns-then-taken-gt-INPUT_LIMIT-clause-input :
    goal.returns-then-taken-gt-INPUT_LIMIT-clause-input
returns-then-taken-gt-INPUT_LIMIT-clause-input g c =
    let first = (g.S.Source.input c.args.source.now).left in
    let left = (g.S.Source.input c.loop-chunk.source).left in
    let now = (g.S.Source.input c.fill.new.source).left in
    let taken = c.loop-chunk.taken + c.in_ok-count.count in
    record {
      more = omega (arith, c.loop-chunk.invariant.more);
      all =
          read_taken c.args.taken.now taken c.fill.new.self first now
          (read_more c.args.taken.now c.loop-chunk.taken taken c.loop-chunk.chunk c.fill.new.self first left now
          (sym c.in_ok-gather.ensures.whole ∙ c.if-branch.false) (ap (λ n. c.loop-chunk.taken + n) c.in_ok-count.ensures.count.0) c.loop-chunk.invariant.read c.fill.ensures.bytes);
      limit = search rules;
    }

pub loop-chunk-preserved : goal.loop-chunk-preserved
loop-chunk-preserved g c =
    let was = c.loop-chunk.invariant in
    let told = told_from c.args.part.now c.args.chunk.now (g.S.Source.input c.args.source.now).left in
    let first = (g.S.Source.input c.args.source.now).left in
    let left = (g.S.Source.input c.loop-chunk.source).left in
    let now = (g.S.Source.input c.fill.new.source).left in
    let taken = c.loop-chunk.taken + c.in_ok-count.count in
    let more : taken ≡ c.loop-chunk.taken + length c.fill.new.self = ap (λ n. c.loop-chunk.taken + n) c.in_ok-count.ensures.count.0 in
    let unfound = sym c.in_ok-gather.ensures.whole ∙ c.if-branch.false in
    let empty = c.in_ok-gather.ensures.rest ∙ after_first-none c.loop-chunk.chunk unfound in
    record {
      part = gathered_is c.loop-chunk.part c.gather.new.part c.loop-chunk.chunk was.part c.in_ok-gather.ensures.part;
      room = omega (arith, c.in_ok-count.ensures.count.0, c.in_ok-count.ensures.count.1, c.bytes_to_ask.ensures.room);
      kept =
          kept_read c.gather.new.part c.gather.new.chunk c.fill.new.self told left now empty
          (kept_none c.loop-chunk.part c.gather.new.part c.loop-chunk.chunk c.gather.new.chunk told left was.part unfound c.in_ok-gather.ensures.part c.in_ok-gather.ensures.rest was.kept)
          c.fill.ensures.bytes;
      size = omega (arith, was.size, more, gathered_size c.loop-chunk.part c.gather.new.part c.loop-chunk.chunk c.in_ok-gather.ensures.part, before_within c.loop-chunk.chunk);
      feeds = feeds_more INPUT_LIMIT c.args.chunk.now c.loop-chunk.chunk c.fill.new.self c.args.taken.now c.loop-chunk.taken taken first left now unfound was.most more was.feeds c.fill.ensures.bytes;
      read = read_more c.args.taken.now c.loop-chunk.taken taken c.loop-chunk.chunk c.fill.new.self first left now unfound more was.read c.fill.ensures.bytes;
      more = omega (arith, was.more);
      most = search rules;
      same = c.in_ok-count.ensures.cause.kept ∙ was.same;
      unasked = λ yes. absurd (feed_clash c.loop-chunk.chunk c.args.chunk.now (was.unasked yes).1 unfound yes);
      asked = record {
        last = c.loop-chunk.source;
        once = asked_once (g.S.Source.input c.loop-chunk.source).asked (g.S.Source.input c.fill.new.source).asked c.fill.ensures.asked;
        none = read_no_feed c.args.taken.now c.loop-chunk.taken c.loop-chunk.chunk first left unfound was.read;
      };
    }
