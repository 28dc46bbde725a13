-- Names of ports once each, in order: one more of them.
use Rattle.std.proofs.Common.{◌≡◌, List, ◌∷◌, map, ap, sym, ◌∙◌}
use Rattle.std.specs.BTreeSet.{insert_key}
use Rattle.kp_lemmas.proofs.Entries.{put_keys}
use Rattle.kp_base.specs.Keys.{port_key_cmp}
use Rattle.kp_base.specs.declared.key.PortKey.{PortKey}
use Rattle.kp_base.specs.contracts.key.PortKeyOrd.TheImpl as port_key_ord
use Rattle.kp_base.proofs.KeyOrder.{port_key_matches}
use Rattle.kp_object_defs.specs.Order.{in_order, distinct_in_order}

-- one more name in front
pub distinct_more : (k : PortKey) (ks : List PortKey)
    → insert_key port_key_ord.ghosts.cmp (distinct_in_order port_key_cmp ks) k
    ≡ distinct_in_order port_key_cmp (k ∷ ks)
distinct_more k ks =
    ap (λ R. insert_key R (distinct_in_order port_key_cmp ks) k) (λ i a b. port_key_matches a b i)
    ∙ sym (put_keys port_key_cmp k k (in_order port_key_cmp (map (λ x. (x, x)) ks)))
