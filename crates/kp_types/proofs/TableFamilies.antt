-- The tables of a family are of it.
use Rattle.std.proofs.Common.{◌≡◌, refl}
use Rattle.kp_base.specs.declared.address.Family.{Family}
use Rattle.kp_base.specs.declared.address.Family.TheVariants.{V4, V6}
use Rattle.kp_types.specs.Places.{family_of_table, filter_of, nat_of}

pub nat_is_own : (family : Family) → family_of_table (nat_of family) ≡ family
nat_is_own V4 = refl
nat_is_own V6 = refl

pub filter_is_own : (family : Family) → family_of_table (filter_of family) ≡ family
filter_is_own V4 = refl
filter_is_own V6 = refl
