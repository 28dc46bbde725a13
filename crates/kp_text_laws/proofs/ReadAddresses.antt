-- The addresses and ranges that texts write are within their bounds.
use Rattle.std.proofs.Common.{◌≡◌, ℕ, Bool, true, false, cond, List, [], ◌∷◌, Option, Some, None, option_and_then, unwrap_or, filter_map, refl, subst}
use Rattle.std.specs.List.{list_all}
use Rattle.std.proofs.lemmas.Bool.{and_from, and_parts}
use Rattle.std.proofs.lemmas.Option.{same_Some}
use Rattle.kp_lemmas.proofs.Members.{all_from, from_filter_map}
use Rattle.kp_lemmas.proofs.Options.{from_and_then, from_option_map}
use Rattle.kp_json.specs.Places.{Place}
use Rattle.kp_base.specs.Dotted.{split_once}
use Rattle.kp_base.specs.Net.{AddressParts, RangeParts, same_family}
use Rattle.kp_base.specs.Six.{any_address_of, any_range_of}
use Rattle.kp_base.specs.declared.address.Family.{Family}
use Rattle.kp_row_defs.specs.Fields.{address_at, address_in, of_both_families, range_at, range_in_family, ranges_in, ranges_of_parts, ranges_of_text, text_in, text_of}
use Rattle.kp_rule_text.proofs.AddressBounds.{IsAddress, IsRange, any_range_valid, any_valid}
use Rattle.kp_rule_text.proofs.Words.{of_some}
use Rattle.kp_text_laws.specs.Bounds.{is_bounded_address, is_bounded_range, passes_if_some}

-- what holds of a value that is there
pub some_from : {A : Type 0} (test : A → Bool) (o : Option A)
    → ((x : A) → o ≡ Some x → test x ≡ true) → passes_if_some test o ≡ true
some_from test None h = refl
some_from test (Some x) h = h x refl

-- ---- Texts

pub text_address : (text : List ℕ) (x : AddressParts) → any_address_of text ≡ Some x
    → is_bounded_address x ≡ true
text_address text x h =
    of_some IsAddress (any_address_of text) x (any_valid text) h

pub text_range : (text : List ℕ) (r : RangeParts) → any_range_of text ≡ Some r
    → is_bounded_range r ≡ true
text_range text r h =
    of_some IsRange (any_range_of text) r (any_range_valid text) h

ranges_bounded : (a b : RangeParts) → is_bounded_range a ≡ true → is_bounded_range b ≡ true
    → (same : Bool) (rs : List RangeParts) → cond same None (Some (a ∷ b ∷ [])) ≡ Some rs
    → list_all is_bounded_range rs ≡ true
ranges_bounded a b of_a of_b true rs h = absurd (cc)
ranges_bounded a b of_a of_b false rs h =
    let same : (a ∷ b ∷ []) ≡ rs = same_Some _ rs h in
    subst (λ xs. list_all is_bounded_range xs ≡ true) same
    (and_from _ _ of_a (and_from _ _ of_b refl))

parts_ranges : (text : List ℕ) (parts : Option (List ℕ × List ℕ)) (rs : List RangeParts)
    → ranges_of_parts text parts ≡ Some rs → list_all is_bounded_range rs ≡ true
parts_ranges text None rs h =
    let (r, read, is) = from_option_map (λ r. r ∷ []) (any_range_of text) rs h in
    subst (λ xs. list_all is_bounded_range xs ≡ true) is
    (and_from _ _ (text_range text r read) refl)
parts_ranges text (Some (first, second)) rs h =
    let (a, of_a, then) = from_and_then
    (λ a. option_and_then (of_both_families a) (any_range_of second)) (any_range_of first) rs h in
    let (b, of_b, made) = from_and_then (of_both_families a) (any_range_of second) rs then in
    ranges_bounded a b (text_range first a of_a) (text_range second b of_b) _ rs made

-- the ranges of a text
pub text_ranges : (text : List ℕ) (rs : List RangeParts) → ranges_of_text text ≡ Some rs
    → list_all is_bounded_range rs ≡ true
text_ranges text rs h = parts_ranges text (split_once 44 text) rs h

-- ---- Places

pub place_address : (p : Place) (x : AddressParts) → address_at p ≡ Some x
    → is_bounded_address x ≡ true
place_address p x h =
    let (text, of_text, is) = from_and_then any_address_of (text_of p) x h in
    text_address text x is

pub place_addresses : (places : List Place)
    → list_all is_bounded_address (filter_map address_at places) ≡ true
place_addresses places =
    all_from _ _ (λ x c.
    let (p, stands, is) = from_filter_map address_at x places c in place_address p x is)

pub member_address : (name : List ℕ) (p : Place) (x : AddressParts) → address_in name p ≡ Some x
    → is_bounded_address x ≡ true
member_address name p x h =
    let (text, of_text, is) = from_and_then any_address_of (text_in name p) x h in
    text_address text x is

pub place_ranges : (places : List Place)
    → list_all is_bounded_range (filter_map range_at places) ≡ true
place_ranges places =
    all_from _ _ (λ r c.
    let (p, stands, is) = from_filter_map range_at r places c in
    let (text, of_text, read) = from_and_then any_range_of (text_of p) r is in
    text_range text r read)

none_or : (P : List RangeParts → Type 0) (o : Option (List RangeParts)) → P []
    → ((rs : List RangeParts) → o ≡ Some rs → P rs) → P (unwrap_or o [])
none_or P None h k = h
none_or P (Some rs) h k = k rs refl

pub member_ranges : (name : List ℕ) (p : Place)
    → list_all is_bounded_range (ranges_in name p) ≡ true
member_ranges name p =
    none_or (λ rs. list_all is_bounded_range rs ≡ true) _ refl (λ rs h.
    let (text, of_text, is) = from_and_then ranges_of_text (text_in name p) rs h in
    text_ranges text rs is)

-- the range of a family among such ranges
pub family_range : (family : Family) (rs : List RangeParts)
    → list_all is_bounded_range rs ≡ true
    → passes_if_some is_bounded_range (range_in_family family rs) ≡ true
family_range family [] h = refl
family_range family (r ∷ rs) h =
    let parts = and_parts (is_bounded_range r) (list_all is_bounded_range rs) h in
    by (same_family r.base.family family) parts.0 (family_range family rs parts.1)
  where
    by : (b : Bool) → is_bounded_range r ≡ true
        → passes_if_some is_bounded_range (range_in_family family rs) ≡ true
        → passes_if_some is_bounded_range (cond b (Some r) (range_in_family family rs)) ≡ true
    by true here later = here
    by false here later = later
