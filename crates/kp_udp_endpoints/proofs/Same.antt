-- The test of endpoints: their order ties at equal ones alone.
use Rattle.std.proofs.Common.{◌≡◌, ◌==◌, ◌&&◌, Bool, true, sym, ap, ◌∙◌}
use Rattle.std.specs.Cmp.{eq_by_cmp_equiv}
use Rattle.std.specs.Ordering.{eq_by_cmp}
use Rattle.kp_lemmas.proofs.Orders.{one_from_tie}
use Rattle.kp_base.specs.Keys.{endpoint_cmp}
use Rattle.kp_base.specs.declared.key.Endpoint.{Endpoint}
use Rattle.kp_base.proofs.KeyOrder.{endpoint_exact, endpoint_ties, endpoint_total}
use Rattle.kp_base.proofs.SameParts.{address_same}
use Rattle.kp_track_defs.specs.Stands.{is_endpoint}

pub tie : (a b : Endpoint) → eq_by_cmp endpoint_cmp a b ≡ is_endpoint a b
tie a b =
    sym (endpoint_ties a b) ∙ ap (λ t. t && (a.port == b.port)) (address_same a.address b.address)

pub exact : (a b : Endpoint) → is_endpoint a b ≡ true → a ≡ b
exact a b h = one_from_tie endpoint_exact a b (tie a b ∙ h)

pub turned : (a b : Endpoint) → is_endpoint a b ≡ is_endpoint b a
turned a b = sym (tie a b) ∙ (eq_by_cmp_equiv endpoint_total).symm a b ∙ tie b a
