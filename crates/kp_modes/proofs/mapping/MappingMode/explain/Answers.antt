use Rattle.std.proofs.Common.{◌≡◌, ◌++◌, ◌⊎◌, inl, ◌∙◌}
use Rattle.std.specs.Prelude.{string_bytes}
use Rattle.std.proofs.lemmas.Result.{on_ok_weaker}
use Rattle.kp_lemmas.proofs.Results.{err_anyhow, ok_anyhow}
use Rattle.kp_mode.proofs.CallLemmas.{adds, adds_none}
use Rattle.kp_mode.specs.Calls.{covered_by}
use Rattle.kp_plane.specs.Parts.{objects_in}
use Rattle.kp_text_defs.specs.Answers.{explain_text}
use Rattle.kp_vmap_defs.specs.VerdictMap.{map_of}
use Rattle.kp_modes.specs.Mapping.{mapping}
use Rattle.kp_modes.proofs.Mapped.{explained_alike}
use Rattle.kp_modes.proofs.mapping.MappingMode.explain.Goals as goal

pub returns-clause-explains : goal.returns-clause-explains
returns-clause-explains c = λ state stands.
    let p = c.args.plane.now in
    let m = c.args.self.now.map in
    let here = m ≡ map_of p.config (objects_in p) in
    let same = c.in_ok-decision.ensures
    ∙ explained_alike p m c.args.number c.args.line.now c.own-own.result.now c.args.lists.now stands c.own-own.ensures in
    adds c.push_explain.result (λ s. here) (here ⊎ here) c.args.text.now c.push_explain.new.text
    (mapping.explain (covered_by p) c.args.number c.args.line.now c.args.lists.now state) state
    (on_ok_weaker c.push_explain.result
    (λ text. text ∙ (λ i. string_bytes c.args.text.now
    ++ explain_text c.args.number (c.syncs-sync.ensures.count i) (same i)))
    c.push_explain.ensures.added)
    (ok_anyhow c.push_explain.result here stands) c.push_explain.ensures.front
    (err_anyhow c.push_explain.result (here ⊎ here) (inl stands))

pub returns-in_err-decision-clause-explains : goal.returns-in_err-decision-clause-explains
returns-in_err-decision-clause-explains c = λ state stands.
    let p = c.args.plane.now in
    let here = c.args.self.now.map ≡ map_of p.config (objects_in p) in
    adds_none _ (λ s. here) (here ⊎ here) c.args.text.now
    (mapping.explain (covered_by p) c.args.number c.args.line.now c.args.lists.now state) state
    c.from_residual.result c.from_residual.ensures.1 (inl stands)
