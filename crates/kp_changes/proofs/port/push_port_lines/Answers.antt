use Rattle.std.proofs.Common.{◌≡◌, ◌++◌, ap, filter, flat_map, sym, ◌∙◌, option_copied, string_bytes}
use Rattle.std.proofs.lemmas.Result.{on_ok_weaker}
use Rattle.kp_change_defs.specs.DoorChanges.{changes_of_doors, differs, doors_of_port}
use Rattle.kp_report.proofs.Pieces.{two_added}
use Rattle.kp_changes.specs.Lines.{line_if_gone, line_of}
use Rattle.kp_changes.proofs.PortLines.{by_doors}
use Rattle.kp_changes.proofs.port.push_port_lines.Goals as goal

pub returns-clause-added : goal.returns-clause-added
returns-clause-added c =
    let line = line_of c.args.family c.args.now.now.synced.config c.args.now.now.synced.objects in
    let olds = c.as_slice-before.result.now in
    let news = c.as_slice-after.result.now in
    let old : olds ≡ doors_of_port (option_copied c.args.before) =
    c.as_slice-before.ensures.value ∙ c.in_ok-before.ensures in
    let new : news ≡ doors_of_port (option_copied c.args.after) =
    c.as_slice-after.ensures.value ∙ c.in_ok-after.ensures in
    let same = c.in_ok-push_there.ensures.same in
    on_ok_weaker c.push_gone.result
    (λ last. two_added _ _ _ _ _ c.in_ok-push_there.ensures.added
    (last ∙ (λ i. string_bytes c.push_there.new.text
    ++ flat_map (line_if_gone c.args.family (same i).config (same i).objects news) olds))
    ∙ ap (λ l. string_bytes c.args.text.now ++ l)
    (sym (by_doors line olds news)
    ∙ (λ i. flat_map line (filter differs (changes_of_doors (old i) (new i))))))
    c.push_gone.ensures.added
