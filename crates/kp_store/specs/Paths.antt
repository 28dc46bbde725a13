-- Going along the paths of selectors by the numbers of a pod's labels: what is found is a Service that
-- selects the pod, and none of these is passed over.
use Rattle.std.specs.Prelude.{◌≡◌, ℕ, ◌&&◌, ◌||◌, Bool, true, false, List, [], ◌∷◌}
use Rattle.std.specs.List.{list_any}
use Rattle.std.specs.FinMap as finite
use Rattle.kp_base.specs.Keys.{key_cmp}
use Rattle.kp_base.specs.declared.key.ObjectKey.{ObjectKey}
use Rattle.kp_types.specs.declared.pod.Pod.{Pod}
use Rattle.kp_types.specs.declared.service.Service.{Service}
use Rattle.kp_store.specs.Indexes.{Keys, is_tagged}
use Rattle.kp_store.specs.LookUps.{selects_if}
use Rattle.kp_store.specs.Numbers.{joined}
use Rattle.kp_store.specs.Tags.{tags_of}
use Rattle.kp_store.specs.declared.tags.ServiceTag.{ServiceTag}
use Rattle.kp_store.specs.declared.tags.ServiceTag.TheVariants.{Selector, Prefix}
use Rattle.kp_store.specs.contracts.tags.ServiceTagPartialEq.TheImpl as tag_eq

-- some of the numbers, in their order, lead from a path to a selector, over prefixes alone
abbrev pub leads : (ServiceTag → Bool) → ℕ → List ℕ → Bool
leads has at [] = false
leads has at (n ∷ ns) =
    has (Selector (joined at n))
    || ((has (Prefix (joined at n)) && leads has (joined at n) ns) || leads has at ns)

-- they do from one of some paths
abbrev pub any_leads : (ServiceTag → Bool) → List ℕ → List ℕ → Bool
any_leads has paths numbers = list_any (λ at. leads has at numbers) paths

-- the Service of this key has a tag
abbrev pub has_tag : finite.FinMap key_cmp Service → ObjectKey → ServiceTag → Bool
has_tag services k t = is_tagged tag_eq.ghosts.eq tags_of t (finite.get services k)

-- keys that are new are those of Services that select the pod
abbrev pub IsSound : finite.FinMap key_cmp Service → Pod → Keys → Keys → Type 0
IsSound services pod before after =
    (k : ObjectKey) → finite.contains_key after k ≡ true
    → finite.contains_key before k || selects_if pod (finite.get services k) ≡ true

-- a Service that selects the pod is there, or some paths lead to it
abbrev pub IsFound : finite.FinMap key_cmp Service → ObjectKey → List ℕ → List ℕ → Keys → Type 0
IsFound services k paths numbers keys =
    finite.contains_key keys k || any_leads (has_tag services k) paths numbers ≡ true

-- it still is, once the paths went on with a number
abbrev pub IsComplete : finite.FinMap key_cmp Service → Pod → ℕ → List ℕ → Keys → List ℕ → Keys → Type 0
IsComplete services pod number paths_before before paths_after after =
    (k : ObjectKey) (rest : List ℕ) → selects_if pod (finite.get services k) ≡ true
    → IsFound services k paths_before (number ∷ rest) before
    → IsFound services k paths_after rest after
