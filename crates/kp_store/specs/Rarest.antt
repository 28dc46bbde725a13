-- The pair of a selector that the fewest pods have, by which the pods of a Service are found (this
-- project's choice).
use Rattle.std.specs.Prelude.{ℕ, ◌≤◌, ◌<◌, List, get_or, length, map}
use Rattle.std.specs.List.{filter}
use Rattle.std.specs.FinMap as finite
use Rattle.kp_base.specs.Keys.{key_cmp}
use Rattle.kp_types.specs.declared.pod.Pod.{Pod}
use Rattle.kp_types.specs.declared.service.Service.{Service}
use Rattle.kp_store.specs.Indexes.{is_among}
use Rattle.kp_store.specs.Tags.{label_tag, tags_of_pod}
use Rattle.kp_store.specs.declared.tags.PodTag.{PodTag}
use Rattle.kp_store.specs.contracts.tags.PodTagPartialEq.TheImpl as tag_eq

-- how many pods have a tag
abbrev pub count_of : finite.FinMap key_cmp Pod → PodTag → ℕ
count_of pods tag =
    length (filter (λ p. is_among tag_eq.ghosts.eq (tags_of_pod p) tag) (finite.values pods))

-- how many pods have each pair of a Service's selector
abbrev pub counts : finite.FinMap key_cmp Pod → Service → List ℕ
counts pods s = map (λ pair. count_of pods (label_tag s.key.namespace pair)) s.selector

-- no pair of the selector is that of fewer pods than the pair at this place
abbrev pub IsRarest : finite.FinMap key_cmp Pod → Service → ℕ → Type 0
IsRarest pods s place =
    (other : ℕ) → other < length s.selector →
    get_or (counts pods s) place 0 ≤ get_or (counts pods s) other 0
