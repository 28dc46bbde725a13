-- The tests of the derived orders are those of addresses and of ranges.
use Rattle.std.proofs.Common.{◌≡◌, ◌==◌, ◌&&◌, List, sym, ap, ◌∙◌}
use Rattle.std.specs.Ordering.{eq_by_cmp}
use Rattle.kp_base.specs.Net.{AddressParts, RangeParts, same_address}
use Rattle.kp_base.specs.contracts.address.AddressOrd.TheImpl as address_ord
use Rattle.kp_base.specs.contracts.address.AddressOrd.TheImpl.Laws as address_laws
use Rattle.kp_base.specs.contracts.range.CidrOrd.TheImpl as range_ord
use Rattle.kp_base.specs.contracts.range.CidrOrd.TheImpl.Laws as range_laws
use Rattle.kp_base.proofs.SameParts.{address_same}
use Rattle.kp_object_defs.specs.Order.{first_places}
use Rattle.kp_object_defs.specs.PortInfo.{same_range}

address_test : (a b : AddressParts) → eq_by_cmp address_ord.ghosts.cmp a b ≡ same_address a b
address_test a b = sym (address_laws.matches_eq-law a b) ∙ address_same a b

range_test : (a b : RangeParts) → eq_by_cmp range_ord.ghosts.cmp a b ≡ same_range a b
range_test a b = sym (range_laws.matches_eq-law a b) ∙ ap (λ t. t && (a.bits == b.bits)) (address_same a.base b.base)

pub first_addresses : (found some all : List AddressParts) → found ≡ first_places (eq_by_cmp address_ord.ghosts.cmp) some
    → some ≡ all → found ≡ first_places same_address all
first_addresses found some all h is = h ∙ ap (first_places (eq_by_cmp address_ord.ghosts.cmp)) is ∙ ap (λ test. first_places test all) (λ k a b. address_test a b k)

pub first_ranges : (found some all : List RangeParts) → found ≡ first_places (eq_by_cmp range_ord.ghosts.cmp) some
    → some ≡ all → found ≡ first_places same_range all
first_ranges found some all h is = h ∙ ap (first_places (eq_by_cmp range_ord.ghosts.cmp)) is ∙ ap (λ test. first_places test all) (λ k a b. range_test a b k)
