use Rattle.std.proofs.Common.{rules, ◌≡◌, ◌++◌, ◌∙◌, true, map, take, ap, sym, subst}
use Rattle.std.specs.List.{list_all}
use Rattle.std.proofs.lemmas.List.{length-map}
use Rattle.kp_restore_text.specs.Pieces.{no_line_feed}
use Rattle.kp_restore_defs.specs.TableText.{text_of_lines}
use Rattle.kp_replay.specs.Groups.{lines_from}
use Rattle.kp_replay.specs.Steps.{standing_of}
use Rattle.kp_run.proofs.beside.Beside.answer_group.Goals as goal

pub returns : goal.returns
returns g c =
    let group = c.in_ok-group in
    let slice = c.as_slice-lines.result.now in
    let all : slice ≡ group.group.lines.items = search rules in
    let lines = map (λ line. line.now) slice in
    let took = c.in_ok-take_group.ensures.takes in
    record {
      lines = lines;
      front =
          subst (λ xs. take group.group.bytes c.args.held.now ≡ text_of_lines (map (λ line. line.now) xs))
          (sym all) group.ensures.lines;
      within = group.ensures.within;
      feedless =
          subst (λ xs. list_all no_line_feed (map (λ line. line.now) xs) ≡ true) (sym all) group.ensures.feedless;
      counted = sym (length-map slice (λ line. line.now));
      stands = took.stands;
      text =
          took.text
          ∙ ap (λ t. t ++ (lines_from c.args.number lines (standing_of c.args.replay.now)).text)
          c.clear.ensures.items;
    }
