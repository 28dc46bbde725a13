use Rattle.std.proofs.Common.{rules, ap, ap₂, codes, List, Option, map, string_bytes, ◌≡◌, ◌∙◌}
use Rattle.std.proofs.Common.{true}
use Rattle.std.proofs.lemmas.Result.{IfErr-weaker, IfOk-weaker}
use Rattle.clap.specs.Walk.{Row, all_of, first_of, rule_of}
use Rattle.clap.specs.Matches.{found_of}
use Rattle.clap.specs.Simple.{App, Shape, app_of, app_of_fields, is_simple, matches_of, new_app}
use Rattle.clap.specs.Simple.{on_top, with_rule}
use Rattle.clap.specs.Takes.{takes}
use Rattle.clap.proofs.WalkLemmas.{first_value-rows, raw_values-rows}
use Rattle.kp_words.specs.Command.{workers, others, mode_of_matches}
use Rattle.kp_words.specs.declared.mode.Mode.{Mode}
use Rattle.kp_words.proofs.FormLemmas.{fit}
use Rattle.kp_words.proofs.command.matches_of.Goals as goal

abbrev without_help : Shape → Shape
without_help s = record s { disable_help_flag = true }

abbrev in_rows : List Row → Option Mode
in_rows rows = mode_of_matches (first_of (codes "workers") rows) (all_of (codes "others") rows)

pub returns : goal.returns
returns c =
    let words = map string_bytes c.args.words.now in
    let fits = fit words c.requires in
    let workers_is : rule_of c.long-workers.result ≡ workers = search rules in
    let others_is : rule_of c.action-others.result ≡ others = search rules in
    let bare = on_top without_help (new_app (codes "kproxy")) in
    let bare_is : app_of c.disable_help_flag.result ≡ bare =
    ap app_of_fields c.disable_help_flag.ensures
    ∙ ap (on_top without_help) c.new-3.ensures.app in
    let kproxy_is = c.in_ok-arg-2.ensures.shape (search rules)
    ∙ ap₂ with_rule (c.in_ok-arg.ensures.shape (search rules)
    ∙ ap₂ with_rule bare_is workers_is) others_is in
    let parse = c.try_get_matches_from in
    record {
      ok = IfOk-weaker parse.result _ _ (λ m h.
          ap₂ mode_of_matches (first_value-rows (found_of m) (codes "workers"))
          (raw_values-rows (found_of m) (codes "others"))
          ∙ ap in_rows ((h (ap is_simple kproxy_is)).0
          ∙ ap (λ (a : App). matches_of a words) kproxy_is) ∙ fits.found) parse.ensures.matches;
      err = IfErr-weaker parse.result _ _
          (λ e h. h (ap (λ (a : App). takes a words) kproxy_is ∙ fits.taken)) parse.ensures.passes;
    }
