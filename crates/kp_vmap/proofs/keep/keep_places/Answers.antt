use Rattle.std.proofs.Common.{sym, ◌∙◌}
use Rattle.kp_vmap.proofs.Keeping.{none_staged}
use Rattle.kp_vmap.proofs.keep.keep_places.Goals as goal

pub returns : goal.returns
returns c = λ d.
    sym (none_staged c.keep_all.new.places.entries c.keep_all.new.staged.entries
    c.keep_all.ensures.none d)
    ∙ c.keep_all.ensures.places d
