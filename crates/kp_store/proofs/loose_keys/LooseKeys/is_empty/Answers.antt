use Rattle.std.proofs.Common.{length, sym, ap, ◌∙◌}
use Rattle.std.specs.FinMap as finite
use Rattle.kp_base.specs.Keys.{key_cmp}
use Rattle.std.proofs.lemmas.List.{nil_from_length}
use Rattle.kp_store.proofs.Filled.{no_entries}
use Rattle.kp_store.proofs.loose_keys.LooseKeys.is_empty.Goals as goal

pub returns : goal.returns
returns c =
    let es = c.self.inside.entries.entries in (
      (λ is. sym c.self.view_is ∙ ap (λ es. finite.from_entries {R = key_cmp} es) (nil_from_length es (c.is_empty.ensures.0 is))),
      (λ none. c.is_empty.ensures.1 (ap length (no_entries es (c.self.view_is ∙ none)))),
    )
