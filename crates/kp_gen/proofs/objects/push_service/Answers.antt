use Rattle.kp_gen.proofs.objects.push_service.Goals as goal

pub returns-clause-added : goal.returns-clause-added
returns-clause-added c =
    rw (c.format-digits.ensures.text, c.as_str.ensures.value, c.service_address-address.ensures, c.service_policy.ensures) at
    c.push_all.ensures.added
