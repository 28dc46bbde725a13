use Rattle.std.proofs.Common.{ℕ, map, Ok, sym, ap, ◌∙◌}
use Rattle.std.specs.FinMap as finite
use Rattle.std.proofs.lemmas.Iterator.Consumers.{map_from_collect, YieldsList-from_rest}
use Rattle.kp_base.proofs.KeyOrder.{key_total, key_exact}
use Rattle.kp_store.proofs.SortedEntries.{entries_of}
use Rattle.kp_health.proofs.answers.HealthCounts.healths.Goals as goal

pub returns : goal.returns
returns c =
    let es = c.self.inside.answers.entries in
    map_from_collect {E = ℕ} (Ok c.in_ok-collect.field-0) c.in_ok-collect.ensures.ran
    (YieldsList-from_rest {shows = λ h. h.now} (map (λ e. e.1) es) c.values.ensures.rest)
    ∙ ap (map (λ e. e.1)) (sym (entries_of key_total key_exact es c.values.ensures.ordered))
    ∙ ap finite.values c.self.view_is
