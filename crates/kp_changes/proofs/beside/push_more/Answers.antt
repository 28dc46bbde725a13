use Rattle.std.proofs.Common.{◌≡◌, ◌++◌, ◌==◌, false, ap, sym, ◌∙◌, arith, codes, decimal, string_bytes}
use Rattle.std.proofs.lemmas.Bool.Decides.{nat_tests}
use Rattle.std.proofs.lemmas.Result.{on_ok_weaker}
use Rattle.kp_change_defs.specs.ValueText.{unless}
use Rattle.kp_report.proofs.Pieces.{two_added}
use Rattle.kp_changes.proofs.beside.push_more.Goals as goal

pub returns-clause-added : goal.returns-clause-added
returns-clause-added c =
    let more = c.args.more in
    let some : (more == 0) ≡ false = grind (arith, nat_tests) in
    on_ok_weaker c.push.result
    (λ h. two_added _ _ _ (codes "; " ++ decimal more) (codes " more beside")
    c.in_ok-push_labelled.ensures.added h
    ∙ ap (λ none. string_bytes c.args.text.now
    ++ unless none (codes "; " ++ decimal more ++ codes " more beside")) (sym some))
    c.push.ensures.added
