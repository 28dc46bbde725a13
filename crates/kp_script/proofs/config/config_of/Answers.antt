use Rattle.std.proofs.Common.{None}
use Rattle.kp_row_defs.specs.Rows.{or_then}
use Rattle.kp_text_defs.proofs.LinesMade.{same_config}
use Rattle.kp_script.proofs.config.config_of.Goals as goal

-- no row has a fault, and each field is that of the place
pub returns : goal.returns
returns c = (
  λ i. or_then (c.in_ok-node.ensures.0 i) (or_then (c.in_ok-addresses.ensures.0 i)
      (or_then (c.in_ok-cluster.ensures.0 i) (or_then (c.in_ok-masquerade_all.ensures.0 i)
      (or_then (c.in_ok-dual.ensures.0 i) (or_then (c.in_ok-controller.ensures.0 i)
      (or_then (c.in_ok-max_per_slice.ensures.number.0 i)
      (or_then (c.in_ok-max_events.ensures.number.0 i)
      (or_then (c.in_ok-recent_size.ensures.number.0 i)
      (or_then (c.in_ok-name_length.ensures.number.0 i) None))))))))),
  same_config _ _ (λ i. (
    c.in_ok-node.ensures.1 i,
    c.in_ok-addresses.ensures.1 i,
    (c.in_ok-cluster.ensures.1 i).0,
    (c.in_ok-cluster.ensures.1 i).1,
    c.in_ok-dual.ensures.1 i,
    c.in_ok-masquerade_all.ensures.1 i,
    c.in_ok-controller.ensures.1 i,
    c.in_ok-max_per_slice.ensures.number.1 i,
    c.in_ok-max_events.ensures.number.1 i,
    c.in_ok-recent_size.ensures.number.1 i,
    c.in_ok-name_length.ensures.number.1 i,
  )),
)
