use Rattle.kp_gen.proofs.operations.push_client.Goals as goal

pub returns-clause-added : goal.returns-clause-added
returns-clause-added c =
    rw (c.format.ensures.text, c.format-2.ensures.text, c.format-3.ensures.text, c.as_str.ensures.value, c.service_address-address.ensures) at
    c.push_all.ensures.added
