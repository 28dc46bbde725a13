use Rattle.std.proofs.Common.{◌≡◌, ◌++◌, ◌∙◌, append_assoc}
use Rattle.std.specs.Prelude.{string_bytes}
use Rattle.kp_choice_defs.specs.Settings.{settings_of}
use Rattle.kp_mode_defs.specs.Mode.{explained}
use Rattle.kp_mode.specs.Calls.{covered_by}
use Rattle.kp_path_defs.specs.PathText.{lines_of}
use Rattle.kp_plane.specs.Parts.{objects_in}
use Rattle.kp_modes.proofs.PathsSeen.{sees_lines}
use Rattle.kp_modes.proofs.pathing.PathingMode.explain.Goals as goal

pub returns-clause-explains : goal.returns-clause-explains
returns-clause-explains c = λ state stands.
    let p = c.args.plane.now in
    let packet = c.args.line.now.packet in
    let plane = c.explained.ensures.plane in
    let lines = c.deref.ensures
    ∙ c.in_ok-lines.ensures.right
    ∙ (λ i. lines_of (settings_of (plane i).config) (objects_in (plane i)) c.args.number packet c.own.result.now)
    ∙ sees_lines c.lines_unseen.ensures (settings_of p.config) (objects_in p) c.args.number packet c.own.result.now c.args.lists.now c.own.ensures in (
      c.in_ok-push_str.ensures.bytes
          ∙ (λ i. c.in_ok-explained.ensures.text i ++ lines i)
          ∙ append_assoc (string_bytes c.args.text.now)
          (explained (covered_by p) c.args.number c.args.line.now c.args.lists.now state)
          (lines_of (settings_of p.config) (objects_in p) c.args.number packet c.args.lists.now),
      tt,
    )
