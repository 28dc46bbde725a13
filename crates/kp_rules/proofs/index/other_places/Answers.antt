use Rattle.std.proofs.Common.{rules, ℕ, Ok}
use Rattle.std.proofs.lemmas.Iterator.{items_from_collect, YieldsList-from_slice}
use Rattle.std.proofs.lemmas.Iterator.Consumers.{YieldsList-at, YieldsList-from_enumerate, YieldsList-from_filter_map}
use Rattle.kp_rules.specs.Index.{other_place}
use Rattle.kp_rules.proofs.index.other_places.Goals as goal

pub returns : goal.returns
returns c =
    items_from_collect {E = ℕ} (Ok c.in_ok-collect.field-0) c.in_ok-collect.ensures.ran
    (YieldsList-from_filter_map _ other_place (YieldsList-at c.filter_map.ensures.source (YieldsList-from_enumerate (YieldsList-at c.enumerate.ensures.source (YieldsList-from_slice c.args.rules.now (cc))) c.enumerate.ensures.count)) c.filter_map.ensures.closure (λ x r q k. search rules))
