use Rattle.std.proofs.Common.{ℕ, map, Ok, sym, ap, ◌∙◌}
use Rattle.std.specs.FinMap as finite
use Rattle.std.specs.List.{list_any}
use Rattle.std.specs.Ordering.{eq_by_cmp}
use Rattle.std.proofs.lemmas.Iterator.Consumers.{map_from_collect, YieldsList-from_rest}
use Rattle.kp_base.specs.Keys.{key_cmp}
use Rattle.kp_store.proofs.Ordered.{has_entries}
use Rattle.kp_store.proofs.loose_keys.LooseKeys.keys.Goals as goal

pub returns : goal.returns
returns c = λ k.
    let es = c.self.inside.entries.entries in
    ap (list_any (eq_by_cmp key_cmp k)) (map_from_collect {E = ℕ} (Ok c.in_ok-collect.field-0) c.in_ok-collect.ensures.ran (YieldsList-from_rest {shows = λ k. k.now} (map (λ e. e.0) es) c.keys.ensures.rest))
    ∙ sym (has_entries k es)
    ∙ ap (λ m. finite.contains_key m k) c.self.view_is
