use Rattle.std.proofs.Common.{◌+◌, ◌∙◌, ◌++◌, ap, add-one, refl, subst, sym}
use Rattle.std.specs.Option.{option_copied}
use Rattle.kp_lemmas.proofs.Results.{on_ok}
use Rattle.kp_gen_defs.specs.Script.{line_in}
use Rattle.kp_mode_defs.specs.Mode.{Place, given_in}
use Rattle.kp_mode_defs.specs.Summing.{summing}
use Rattle.kp_text_defs.specs.declared.totals.Totals.{Totals}
use Rattle.kp_replay.specs.Steps.{standing_of, IsReady}
use Rattle.kp_run.specs.Given.{place}
use Rattle.kp_run.specs.Sums.{counted_in}
use Rattle.kp_run.proofs.ComeLemmas.{ready_in}
use Rattle.kp_run.proofs.SumLemmas.{counted_more, leads_on}
use Rattle.kp_run.proofs.generated.Counting.take.Goals as goal

pub returns : goal.returns
returns c =
    let was = counted_in c.args.self.now in
    let number = c.args.self.now.number + 1 in
    let given = option_copied c.fitting.result in
    let leads =
    leads_on c.take_line_in.result _ (given_in summing number given was.at) _ _ _ _ _ (c.take_line_in.ensures was.at.state refl) in
    record {
      counted = on_ok _ _ c.take_line_in.result leads (λ leads.
          counted_more was number c.as_bytes.result.now (line_in c.args.plan c.args.part c.args.place) given
          (place (standing_of c.take_line_in.new.self) c.take_line_in.new.mode.totals) (add-one c.args.self.now.number)
          (c.as_bytes.ensures.value ∙ c.in_ok-push_line.ensures.added ∙ ap (λ t. t ++ line_in c.args.plan c.args.part c.args.place) c.clear.ensures.bytes)
          c.fitting.ensures leads);
      ready = on_ok _ _ c.take_line_in.result leads (λ leads.
          subst (λ (at : Place Totals). IsReady at.standing) (sym leads) (ready_in summing number given was.at c.requires.ready));
    }
