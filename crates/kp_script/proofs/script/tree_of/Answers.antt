use Rattle.std.proofs.Common.{Err, ap, sym, subst}
use Rattle.serde_json.specs.Data.{Data}
use Rattle.kp_text_defs.specs.JsonText.{json_of}
use Rattle.kp_text_defs.specs.ScriptLines.{or_refusal}
use Rattle.kp_text_defs.specs.declared.line_refusal.LineRefusal.TheVariants.{BadJson}
use Rattle.kp_script.specs.ScriptAnswers.{Told}
use Rattle.kp_script.proofs.ScriptJson.{tree_read, tree_refused}
use Rattle.kp_script.proofs.script.tree_of.Goals as goal

pub returns-in-Ok : goal.returns-in-Ok
returns-in-Ok c = tree_read _ _ c.in-Ok.ensures.ok

pub returns-in-Err : goal.returns-in-Err
returns-in-Err c =
    subst (λ f. Told {Y = Data} f (or_refusal BadJson (json_of c.args.bytes.now))) (sym c.json_fault.ensures)
    (tree_refused c.args.bytes.now c.in-Err.fault (λ is. c.in-Err.ensures.bad (ap Err is)))
