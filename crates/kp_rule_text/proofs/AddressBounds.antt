-- The addresses and ranges that texts write are within the bounds of their families.
use Rattle.std.proofs.Common.{◌≡◌, ℕ, zero, suc, ◌+◌, ◌-◌, ◌*◌, ◌%◌, ◌^◌, ◌<◌, ◌≤◌, ◌==◌, List, [], ◌∷◌, ◌++◌, length, map, replicate, Bool, true, false, ◌&&◌, nat_lt, nat_le, Option, Some, None, option_map, IfSome, refl, sym, ap, subst, ◌∙◌, inl, inr, arith, lit≤, lit<, ne_eqb, length-append}
use Rattle.std.specs.List.{slice_split, fold, AllByRecursion}
use Rattle.std.specs.Option.{option_or}
use Rattle.std.specs.Int.Digits.{number_from_digits_after}
use Rattle.std.specs.Net.Addr.{segments_of}
use Rattle.std.specs.Net.Grammar.{IsDotted, IsGroup, IsGroupsAfter, IsColonHex}
use Rattle.std.specs.Net.Reader.{Read, read_ipv6, whole_value}
use Rattle.std.proofs.lemmas.Bool.{and_parts, and_from}
use Rattle.std.proofs.lemmas.Bool.Decides.{nat_tests, Decides-eqb}
use Rattle.std.proofs.lemmas.Int.Digits.{digits_value-lt, number_lt}
use Rattle.std.proofs.lemmas.List.{length-replicate}
use Rattle.std.proofs.lemmas.Option.{IfSome_then}
use Rattle.std.proofs.Math.Nat.{pow-le-pow_right}
use Rattle.std.proofs.NetLemmas.Ipv6.{read_ipv6_sound}
use Rattle.kp_lemmas.proofs.ListFacts.{all_append}
use Rattle.kp_lemmas.proofs.Numbers.{cleared}
use Rattle.kp_base.specs.Net.{AddressParts, RangeParts, v4_address, v6_address, width, range_size}
use Rattle.kp_base.specs.Dotted.{is_decimal, decimal_up_to, digits_number, four_numbers, address_of, range_from, split_once}
use Rattle.kp_base.specs.Six.{groups_number, six_of, any_address_of, any_range_of_parts, any_range_of}
use Rattle.kp_base.specs.declared.address.Family.{Family}
use Rattle.kp_base.specs.declared.address.Family.TheVariants.{V4, V6}
use Rattle.kp_base.proofs.SameParts.{family_itself, same_family_exact}
use Rattle.kp_restore_defs.specs.RuleText.{is_canonical_address, is_canonical_range}
use Rattle.kp_rule_text.proofs.Cuts.{if_kept}
use Rattle.kp_rule_text.proofs.Words.{if_then, if_map, of_some}

-- an address of a family, and a range of a family
abbrev pub IsAddressOf : Family → AddressParts → Type 0
IsAddressOf family a = is_canonical_address family a ≡ true

abbrev pub IsRangeOf : Family → RangeParts → Type 0
IsRangeOf family r = is_canonical_range family r ≡ true

-- those of their own family
abbrev pub IsAddress : AddressParts → Type 0
IsAddress a = IsAddressOf a.family a

abbrev pub IsRange : RangeParts → Type 0
IsRange r = IsRangeOf r.base.family r

-- ---- IPv4

decimal_low : (most : ℕ) (text : List ℕ) → IfSome (decimal_up_to most text) (λ n. n ≤ most)
decimal_low most text =
    if_kept (λ n. n ≤ most) (is_decimal text && nat_le (digits_number 0 text) most) (Some (digits_number 0 text))
    (λ h. let low : nat_le (digits_number 0 text) most ≡ true = (and_parts _ _ h).1 in grind (arith, nat_tests))

-- numbers of one byte
AreLow : List (Option ℕ) → Type 0
AreLow [] = Unit {0}
AreLow (x ∷ xs) = IfSome x (λ n. n ≤ 255) × AreLow xs

all_low : (texts : List (List ℕ)) → AreLow (map (decimal_up_to 255) texts)
unfolding AreLow
all_low [] = tt
all_low (t ∷ ts) = (decimal_low 255 t, all_low ts)

v4_fits : (n : ℕ) → n < 2 ^ 32 → IsAddressOf V4 (v4_address n)
v4_fits n low = grind (arith, nat_tests)

four_valid : (xs : List (Option ℕ)) → AreLow xs → IfSome (four_numbers xs) (IsAddressOf V4)
unfolding AreLow
four_valid [] low = tt
four_valid (None ∷ xs) low = tt
four_valid (Some a ∷ []) low = tt
four_valid (Some a ∷ None ∷ xs) low = tt
four_valid (Some a ∷ Some b ∷ []) low = tt
four_valid (Some a ∷ Some b ∷ None ∷ xs) low = tt
four_valid (Some a ∷ Some b ∷ Some c ∷ []) low = tt
four_valid (Some a ∷ Some b ∷ Some c ∷ None ∷ xs) low = tt
four_valid (Some a ∷ Some b ∷ Some c ∷ Some d ∷ []) low =
    let la : a ≤ 255 = low.0 in
    let lb : b ≤ 255 = low.1.0 in
    let lc : c ≤ 255 = low.1.1.0 in
    let ld : d ≤ 255 = low.1.1.1.0 in
    v4_fits (((a * 256 + b) * 256 + c) * 256 + d) (omega (arith, la, lb, lc, ld))
four_valid (Some a ∷ Some b ∷ Some c ∷ Some d ∷ x ∷ xs) low = tt

-- an IPv4 address that a text writes is one of 32 bits
pub v4_valid : (text : List ℕ) → IfSome (address_of text) (IsAddressOf V4)
v4_valid text = four_valid (map (decimal_up_to 255) (slice_split (λ b. b == 46) text)) (all_low (slice_split (λ b. b == 46) text))

-- ---- the groups of an IPv6 address (RFC 4291, 2.2)

-- groups of sixteen bits
abbrev AreGroups : List ℕ → Type 0
AreGroups groups = AllByRecursion (λ g. g < 65536) groups

group_low : (text : List ℕ) (g : ℕ) → IsGroup text g → g < 65536
group_low text g h =
    let below = digits_value-lt 16 text h.0.0.1 in
    let most : 16 ^ length text ≤ 16 ^ 4 = pow-le-pow_right (lit≤ tt) h.1 in
    omega (arith, below, most, h.0.1)

dotted_low : (text octets : List ℕ) → IsDotted text octets → AreGroups (segments_of octets)
dotted_low text octets h =
    let fit = h.fit in
    let high : h.a * 256 + h.b < 65536 = omega (arith, fit.0, fit.1) in
    let low : h.c * 256 + h.d < 65536 = omega (arith, fit.2, fit.3) in
    subst (λ o. AreGroups (segments_of o)) (sym h.value) (high, (low, tt))

after_low : (ipv4 : Bool) (before text groups : List ℕ) → IsGroupsAfter ipv4 before text groups → AreGroups groups
after_low ipv4 before text [] h = tt
after_low ipv4 before text (g ∷ gs) (inl h) = (group_low h.0 g h.3, after_low ipv4 (58 ∷ []) h.1 gs h.4)
after_low ipv4 before text (g ∷ gs) (inr h) = subst AreGroups (sym h.5) (dotted_low h.0 h.1 h.4)

zeros_low : (n : ℕ) → AreGroups (replicate n 0)
zeros_low zero = tt
zeros_low (suc n) = (lit< tt, zeros_low n)

-- the groups of a text are eight
colon_low : (text groups : List ℕ) → IsColonHex text groups → AreGroups groups × (length groups ≡ 8)
colon_low text groups (inl h) = (after_low true [] text groups h.0, h.1)
colon_low text groups (inr h) =
    let zeros = 8 - length h.head - length h.tail in
    let front = all_append (λ g. g < 65536) h.head (replicate zeros 0) (after_low false [] h.head_text h.head h.head_groups) (zeros_low zeros) in
    let all = all_append (λ g. g < 65536) (h.head ++ replicate zeros 0) h.tail front (after_low true [] h.tail_text h.tail h.tail_groups) in
    let long : length (h.head ++ replicate zeros 0 ++ h.tail) ≡ 8 =
    omega (arith, h.room, length-append (h.head ++ replicate zeros 0) h.tail, length-append h.head (replicate zeros 0), length-replicate {A = ℕ} zeros 0) in
    (subst AreGroups (sym h.value) all, ap length h.value ∙ long)

from_digits : (n : ℕ) (groups : List ℕ) → fold (λ n group. n * 65536 + group) n groups ≡ number_from_digits_after 65536 n groups
from_digits n [] = refl
from_digits n (g ∷ gs) = from_digits (n * 65536 + g) gs

groups_low : (groups : List ℕ) → AreGroups groups → length groups ≡ 8 → groups_number groups < 2 ^ 128
groups_low groups h eight =
    let below = number_lt 65536 groups h in
    omega (arith, below, from_digits 0 groups, ap (λ n. 65536 ^ n) eight)

v6_fits : (n : ℕ) → n < 2 ^ 128 → IsAddressOf V6 (v6_address n)
v6_fits n low = grind (arith, nat_tests)

whole_valid : (text : List ℕ) (r : Read (List ℕ)) → read_ipv6 text ≡ r → IfSome (option_map (λ groups. v6_address (groups_number groups)) (whole_value r)) (IsAddressOf V6)
whole_valid text None e = tt
whole_valid text (Some (groups, b ∷ rest)) e = rw (ne_eqb (length (b ∷ rest)) 0 (omega arith)) tt
whole_valid text (Some (groups, [])) e =
    let (front, split, h) = read_ipv6_sound text groups [] e in
    let low = colon_low front groups h in
    v6_fits (groups_number groups) (groups_low groups low.0 low.1)

-- an IPv6 address that a text writes is one of 128 bits
pub v6_valid : (text : List ℕ) → IfSome (six_of text) (IsAddressOf V6)
v6_valid text = whole_valid text (read_ipv6 text) refl

-- ---- both families

own_family : (family : Family) (a : AddressParts) → IsAddressOf family a → IsAddress a
own_family family a h = subst (λ f. is_canonical_address f a ≡ true) (sym (same_family_exact a.family family (and_parts _ _ h).0)) h

first_valid : (o p : Option AddressParts) → IfSome o (IsAddressOf V4) → IfSome p (IsAddressOf V6) → IfSome (option_or o p) IsAddress
first_valid None p h g = IfSome_then p g (own_family V6)
first_valid (Some a) p h g = own_family V4 a h

-- an address that a text writes is one of its family
pub any_valid : (text : List ℕ) → IfSome (any_address_of text) IsAddress
any_valid text = first_valid (address_of text) (six_of text) (v4_valid text) (v6_valid text)

cleared_fits : (family : Family) (n bits : ℕ) → nat_lt n (2 ^ width family) ≡ true → bits ≤ width family → IsRange (range_from (record { family = family; number = n }) bits)
cleared_fits family n bits low fits =
    let size = range_size family bits in
    let a : nat_lt (n - n % size) (2 ^ width family) ≡ true = grind (arith, nat_tests, low) in
    let b : nat_le bits (width family) ≡ true = grind (arith, nat_tests, fits) in
    let c : ((n - n % size) % size == 0) ≡ true = (Decides-eqb _ 0).1 (cleared n size) in
    and_from _ _ (and_from _ _ (family_itself family) a) (and_from _ _ b c)

parts_valid : (base bits : List ℕ) → IfSome (any_range_of_parts base bits) IsRange
parts_valid base bits =
    if_then IsRange (λ a. option_map (range_from a) (decimal_up_to (width a.family) bits)) (any_address_of base)
    (λ a e. if_map IsRange (range_from a) (decimal_up_to (width a.family) bits)
    (λ n f. cleared_fits a.family a.number n (and_parts _ _ (of_some IsAddress (any_address_of base) a (any_valid base) e)).1 (of_some (λ n. n ≤ width a.family) (decimal_up_to (width a.family) bits) n (decimal_low (width a.family) bits) f)))

-- a range that a text writes is one of its family
pub any_range_valid : (text : List ℕ) → IfSome (any_range_of text) IsRange
any_range_valid text = if_then IsRange (λ (base, length). any_range_of_parts base length) (split_once 47 text) (λ p e. parts_valid p.0 p.1)
