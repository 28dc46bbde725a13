use Rattle.kp_gen.proofs.pods.push_placed_pod.Goals as goal

pub returns-clause-added : goal.returns-clause-added
returns-clause-added c =
    rw (c.format.ensures.text, c.format-2.ensures.text, c.format-3.ensures.text, c.as_str.ensures.value, c.pod_address-address.ensures, c.status_word.ensures) at
    c.push_all.ensures.added
