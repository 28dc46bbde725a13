use Rattle.std.proofs.Common.{ap, ◌∙◌}
use Rattle.std.specs.FinMap as finite
use Rattle.kp_store.proofs.Ordered.{none_before}
use Rattle.kp_store.proofs.touched.Touched.new.Goals as goal

pub returns : goal.returns
returns c = λ k. ap (λ m. finite.contains_key m k) c.new.ensures ∙ none_before k
