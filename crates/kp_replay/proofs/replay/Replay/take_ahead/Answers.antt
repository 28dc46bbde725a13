use Rattle.std.proofs.Common.{◌≡◌, ◌++◌, true, take, ap, sym, ◌∙◌, rules}
use Rattle.std.specs.List.{list_all}
use Rattle.kp_replay.specs.Groups.{is_aside, reads_line, says_later, was_read}
use Rattle.kp_replay.specs.Steps.{standing_of}
use Rattle.kp_replay.specs.declared.reads.Read.{Read}
use Rattle.kp_replay.proofs.ReadLemmas.{both_read}
use Rattle.kp_replay.proofs.TogetherLemmas.{all_dropped, group_stands, group_text}
use Rattle.kp_replay.proofs.replay.Replay.take_ahead.Goals as goal

pub answer_reads-requires-clause-aside : goal.answer_reads-requires-clause-aside
answer_reads-requires-clause-aside g c κs within =
    let reads = c.args.reads.now.current.items in
    let items : c.as_slice-front.result.now ≡ take c.aside_len.result reads = search rules in
    let front : list_all is_aside (take c.aside_len.result reads) ≡ true = search rules in
    ap (list_all is_aside) items ∙ front

pub take_reads-requires : goal.take_reads-requires
take_reads-requires g c =
    let later = λ (r : Read). says_later r.said in
    let reads = c.args.reads.now.current.items in
    ap (list_all later) c.in_ok-others.ensures.tail
    ∙ all_dropped later c.aside_len.result reads c.requires.later

pub returns-clause-takes : goal.returns-clause-takes
returns-clause-takes g c =
    let reads = c.args.reads.now.current.items in
    let n = c.aside_len.result in
    let s = standing_of c.args.self.now in
    let mid = standing_of c.answer_reads.new.self in
    let end = standing_of c.take_reads.new.self in
    let before = c.args.text.now.items in
    let first = c.answer_reads.new.text.items in
    let last = c.take_reads.new.text.items in
    let items : c.as_slice-front.result.now ≡ take n reads = search rules in
    let rest = c.in_ok-others.ensures.tail in
    let took = c.in_ok-answer_reads.ensures.takes in
    let others = c.in_ok-take_reads.ensures.takes in
    let stands = took.stands ∙ ap (λ rs. (reads_line rs s).next) items in
    let text = took.text ∙ ap (λ rs. before ++ (reads_line rs s).text) items in
    let stands_last = others.stands ∙ ap (λ rs. (reads_line rs mid).next) rest in
    let text_last = others.text ∙ ap (λ rs. first ++ (reads_line rs mid).text) rest in
    record {
      stands =
          group_stands s mid end reads n before first last stands text stands_last text_last;
      text =
          group_text s mid end reads n before first last stands text stands_last text_last;
    }

pub returns-clause-read : goal.returns-clause-read
returns-clause-read g c =
    let reads = c.args.reads.now.current.items in
    let front : list_all is_aside (take c.aside_len.result reads) ≡ true = search rules in
    both_read c.aside_len.result reads front
    (ap (list_all (λ r. was_read r.said)) (sym c.in_ok-others.ensures.tail) ∙ c.in_ok-take_reads.ensures.read)
