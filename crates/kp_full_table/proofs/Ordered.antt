-- Endpoints once each, in order: one more of them, taken off the end of a list.
use Rattle.std.proofs.Common.{◌≡◌, List, ◌∷◌, map, ap, sym, ◌∙◌}
use Rattle.std.specs.BTreeSet.{insert_key}
use Rattle.kp_lemmas.proofs.Entries.{put_keys}
use Rattle.kp_base.specs.Keys.{endpoint_cmp}
use Rattle.kp_base.specs.declared.key.Endpoint.{Endpoint}
use Rattle.kp_base.specs.contracts.key.EndpointOrd.TheImpl as endpoint_ord
use Rattle.kp_base.proofs.KeyOrder.{endpoint_matches}
use Rattle.kp_object_defs.specs.Order.{in_order, distinct_in_order}

-- one more element in front
pub distinct_more : (k : Endpoint) (ks : List Endpoint) → insert_key endpoint_ord.ghosts.cmp (distinct_in_order endpoint_cmp ks) k ≡ distinct_in_order endpoint_cmp (k ∷ ks)
distinct_more k ks =
    ap (λ R. insert_key R (distinct_in_order endpoint_cmp ks) k) (λ i a b. endpoint_matches a b i)
    ∙ sym (put_keys endpoint_cmp k k (in_order endpoint_cmp (map (λ x. (x, x)) ks)))
