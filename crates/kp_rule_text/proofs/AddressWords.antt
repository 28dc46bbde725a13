-- Words of addresses, ranges and endpoints of each family: what is read has that word, and the word of a value is
-- read.
use Rattle.std.proofs.Common.{◌≡◌, ℕ, ◌+◌, ◌-◌, ◌*◌, ◌%◌, ◌^◌, ◌<◌, ◌≤◌, ◌==◌, List, [], ◌∷◌, ◌++◌, map, Bool, true, false, not, cond, ◌&&◌, nat_lt, nat_le, codes, decimal, All, Option, Some, None, option_map, option_and_then, IfSome, refl, sym, ap, subst, ◌∙◌, inl, inr, arith, lit≤, append_assoc}
use Rattle.std.specs.List.{list_all}
use Rattle.std.specs.Option.{option_or}
use Rattle.std.specs.Net.Text.{dotted_text}
use Rattle.std.proofs.lemmas.Bool.{and_parts, and_from, cond-true}
use Rattle.std.proofs.lemmas.Bool.Decides.{nat_tests, Decides-eqb}
use Rattle.std.proofs.lemmas.List.Elements.{All-head, All-tail}
use Rattle.std.proofs.lemmas.List.Splits.{slice_split_none}
use Rattle.std.proofs.lemmas.Option.{IfSome_then}
use Rattle.std.proofs.Math.Nat.{sub-zero}
use Rattle.std.proofs.NetLemmas.Texts.{AllSegments}
use Rattle.std.proofs.NetLemmas.Alphabet.{IsHexOrColon, All-hex_groups_text}
use Rattle.kp_lemmas.proofs.ListFacts.{test_weaker, test_append}
use Rattle.kp_lemmas.proofs.Numbers.{groups_are_segments}
use Rattle.kp_base.specs.Net.{AddressParts, RangeParts, v4_address, same_family, width, range_size}
use Rattle.kp_base.specs.Dotted.{is_digit, decimal_up_to, four_numbers, address_of, range_from, split_once}
use Rattle.kp_base.specs.Six.{groups_of, six_of, any_address_of, any_range_of_parts, any_range_of}
use Rattle.kp_base.specs.declared.address.Family.{Family}
use Rattle.kp_base.specs.declared.address.Family.TheVariants.{V4, V6}
use Rattle.kp_base.specs.declared.key.Endpoint.{Endpoint}
use Rattle.kp_base.proofs.Groups.{printed_is_read}
use Rattle.kp_base.proofs.Pieces.{one_short}
use Rattle.kp_base.proofs.Printed.{decimal_is_read, dotted_is_read}
use Rattle.kp_base.proofs.SameParts.{same_family_exact}
use Rattle.kp_choice_defs.specs.AddressText.{octet_at, number_text, address_text, host_text, endpoint_text}
use Rattle.kp_restore_defs.specs.RuleText.{range_text, is_canonical_address, is_canonical_range, is_canonical_endpoint, is_port_number}
use Rattle.kp_rule_text.specs.WordReading.{strip, port_word, address_read, address_word, range_read, range_word, bracketed, host_and_port, endpoint_of, endpoint_word}
use Rattle.kp_rule_text.proofs.AddressBounds.{IsAddress, IsRange, any_valid, any_range_valid}
use Rattle.kp_rule_text.proofs.Cuts.{if_kept, strip_is, cut_is, cut_front}
use Rattle.kp_rule_text.proofs.Words.{if_then, if_map, of_some, is_word_byte, IsWord, exact_sound, exact_complete, printed, digit_is_word, ports}

-- ---- the bytes of an address

-- a digit or a dot
abbrev pub is_dotted_byte : ℕ → Bool
is_dotted_byte b = nat_le 46 b && nat_lt b 58 && not (b == 47)

-- among others a hexadecimal digit or a colon
abbrev pub is_v6_byte : ℕ → Bool
is_v6_byte b = nat_le 48 b && nat_lt b 103 && not (b == 93)

-- a byte of an address of a family
abbrev pub is_host_byte : Family → ℕ → Bool
is_host_byte V4 b = is_dotted_byte b
is_host_byte V6 b = is_v6_byte b

digit_is_dotted : (b : ℕ) → is_digit b ≡ true → is_dotted_byte b ≡ true
digit_is_dotted b h = grind (arith, nat_tests)

dotted_piece : (n : ℕ) → n < 256 → list_all is_dotted_byte (decimal n) ≡ true
dotted_piece n low = test_weaker is_digit is_dotted_byte digit_is_dotted (decimal n) (printed 255 n (omega (arith, low)) (omega arith)).0

pub dotted_bytes : (a b c d : ℕ) → a < 256 → b < 256 → c < 256 → d < 256 → list_all is_dotted_byte (dotted_text a b c d) ≡ true
dotted_bytes a b c d la lb lc ld =
    let text : dotted_text a b c d ≡ decimal a ++ 46 ∷ (decimal b ++ 46 ∷ (decimal c ++ 46 ∷ decimal d)) = simp append_assoc in
    ap (list_all is_dotted_byte) text
    ∙ test_append is_dotted_byte (decimal a) (46 ∷ (decimal b ++ 46 ∷ (decimal c ++ 46 ∷ decimal d))) (dotted_piece a la)
    (test_append is_dotted_byte (decimal b) (46 ∷ (decimal c ++ 46 ∷ decimal d)) (dotted_piece b lb)
    (test_append is_dotted_byte (decimal c) (46 ∷ decimal d) (dotted_piece c lc) (dotted_piece d ld)))

octet_low : (n place : ℕ) → octet_at n place < 256
octet_low n place = omega arith

hex_is_v6 : (b : ℕ) → IsHexOrColon b → is_v6_byte b ≡ true
hex_is_v6 b (inl h) = grind (arith, nat_tests)
hex_is_v6 b (inr h) = grind (arith, nat_tests)

all_v6 : (bs : List ℕ) → All IsHexOrColon bs → list_all is_v6_byte bs ≡ true
all_v6 [] h = refl
all_v6 (b ∷ bs) h = and_from _ _ (hex_is_v6 b (All-head IsHexOrColon b bs h)) (all_v6 bs (All-tail IsHexOrColon b bs h))

-- the groups are below 2^16
segments_low : (n : ℕ) → AllSegments (groups_of n)
segments_low n = groups_are_segments n (7 ∷ 6 ∷ 5 ∷ 4 ∷ 3 ∷ 2 ∷ 1 ∷ 0 ∷ [])

pub number_bytes : (family : Family) (n : ℕ) → list_all (is_host_byte family) (number_text family n) ≡ true
number_bytes V4 n = dotted_bytes (octet_at n 3) (octet_at n 2) (octet_at n 1) (octet_at n 0) (octet_low n 3) (octet_low n 2) (octet_low n 1) (octet_low n 0)
number_bytes V6 n = all_v6 (number_text V6 n) (All-hex_groups_text (groups_of n) (segments_low n))

host_is_word : (family : Family) (b : ℕ) → is_host_byte family b ≡ true → is_word_byte b ≡ true
host_is_word V4 b h = grind (arith, nat_tests)
host_is_word V6 b h = grind (arith, nat_tests)

no_slash : (family : Family) → is_host_byte family 47 ≡ false
no_slash V4 = refl
no_slash V6 = refl

-- ---- the text of an address

-- the four bytes of a number below 2^32 are the number
octets : (n : ℕ) → n < 2 ^ 32 → ((octet_at n 3 * 256 + octet_at n 2) * 256 + octet_at n 1) * 256 + octet_at n 0 ≡ n
octets n low = omega (arith, low)

v4_is_read : (n : ℕ) → n < 2 ^ 32 → address_of (number_text V4 n) ≡ Some (v4_address n)
v4_is_read n low =
    dotted_is_read (octet_at n 3) (octet_at n 2) (octet_at n 1) (octet_at n 0) (octet_low n 3) (octet_low n 2) (octet_low n 1) (octet_low n 0)
    ∙ ap (λ m. Some (v4_address m)) (octets n low)

hex_is_no_dot : (b : ℕ) → IsHexOrColon b → (b == 46) ≡ false
hex_is_no_dot b (inl h) = grind (arith, nat_tests)
hex_is_no_dot b (inr h) = grind (arith, nat_tests)

no_dots : (bs : List ℕ) → All IsHexOrColon bs → All (λ b. (b == 46) ≡ false) bs
no_dots bs h = λ i d inside. hex_is_no_dot _ (h i d inside)

-- a text without a dot is no address of IPv4
not_dotted : (n : ℕ) → address_of (number_text V6 n) ≡ None
not_dotted n =
    ap (λ texts. four_numbers (map (decimal_up_to 255) texts))
    (slice_split_none (λ b. b == 46) (number_text V6 n) (no_dots (number_text V6 n) (All-hex_groups_text (groups_of n) (segments_low n))))
    ∙ one_short (decimal_up_to 255 (number_text V6 n))

number_is_read : (family : Family) (n : ℕ) → n < 2 ^ width family → any_address_of (number_text family n) ≡ Some (record { family = family; number = n })
number_is_read V4 n low = ap (λ o. option_or o (six_of (number_text V4 n))) (v4_is_read n low)
number_is_read V6 n low = ap (λ o. option_or o (six_of (number_text V6 n))) (not_dotted n) ∙ printed_is_read n low

module _ (family : Family) where
  abbrev IsOf : AddressParts → Type 0
  IsOf a = is_canonical_address family a ≡ true

  family_is : (a : AddressParts) → IsOf a → a.family ≡ family
  family_is a h = same_family_exact a.family family (and_parts _ _ h).0

  number_fits : (a : AddressParts) → IsOf a → a.number < 2 ^ width family
  number_fits a h = let low : nat_lt a.number (2 ^ width family) ≡ true = (and_parts (same_family a.family family) (nat_lt a.number (2 ^ width family)) h).1 in grind (arith, nat_tests)

  same : (a : AddressParts) → IsOf a → a ≡ record { family = family; number = a.number }
  same a h = λ i. record { family = family_is a h i; number = a.number }

  address_bytes : (a : AddressParts) → IsOf a → list_all (is_host_byte family) (address_text a) ≡ true
  address_bytes a h = ap (λ a'. list_all (is_host_byte family) (address_text a')) (same a h) ∙ number_bytes family a.number

  address_is_read : (a : AddressParts) → IsOf a → any_address_of (address_text a) ≡ Some a
  address_is_read a h =
      ap (λ a'. any_address_of (address_text a')) (same a h) ∙ number_is_read family a.number (number_fits a h) ∙ ap Some (sym (same a h))

  -- a value of the family passes the reader's test of it
  of_family : {V : Type 0} (family_of : V → Family) (read : List ℕ → Option V) (text : List ℕ) (v : V) → same_family (family_of v) family ≡ true → read text ≡ Some v → option_and_then (λ v. cond (same_family (family_of v) family) (Some v) None) (read text) ≡ Some v
  of_family family_of read text v one e =
      ap (option_and_then (λ v'. cond (same_family (family_of v') family) (Some v') None)) e
      ∙ cond-true (same_family (family_of v) family) (Some v) None one

  address_sound : (text : List ℕ) → IfSome (address_read family text) IsOf
  address_sound text =
      if_then IsOf (λ a. cond (same_family a.family family) (Some a) None) (any_address_of text)
      (λ a e. if_kept IsOf (same_family a.family family) (Some a)
      (λ h. subst (λ f. is_canonical_address f a ≡ true) (same_family_exact a.family family h) (of_some IsAddress (any_address_of text) a (any_valid text) e)))

  addresses : IsWord (address_word family) address_text (is_canonical_address family)
  addresses = record {
    sound = λ word.
        IfSome_then (address_word family word) (exact_sound address_text (address_read family) word)
        (λ a h. (of_some IsOf (address_read family word) a (address_sound word) h.0, h.1));
    complete = λ a h.
        exact_complete address_text (address_read family) a
        (of_family (λ (a : AddressParts). a.family) any_address_of (address_text a) a (and_parts _ _ h).0 (address_is_read a h));
    whole = λ a h. test_weaker (is_host_byte family) is_word_byte (host_is_word family) (address_text a) (address_bytes a h);
  }

  -- ---- ranges

  abbrev IsRangeOf : RangeParts → Type 0
  IsRangeOf r = is_canonical_range family r ≡ true

  range_sound : (text : List ℕ) → IfSome (range_read family text) IsRangeOf
  range_sound text =
      if_then IsRangeOf (λ r. cond (same_family r.base.family family) (Some r) None) (any_range_of text)
      (λ r e. if_kept IsRangeOf (same_family r.base.family family) (Some r)
      (λ h. subst (λ f. is_canonical_range f r ≡ true) (same_family_exact r.base.family family h) (of_some IsRange (any_range_of text) r (any_range_valid text) e)))

  base_is : (r : RangeParts) → IsRangeOf r → IsOf r.base
  base_is r h = (and_parts (is_canonical_address family r.base) (nat_le r.bits (width family) && (r.base.number % range_size family r.bits == 0)) h).0

  bits_fit : (r : RangeParts) → IsRangeOf r → r.bits ≤ width family
  bits_fit r h =
      let more = (and_parts (is_canonical_address family r.base) (nat_le r.bits (width family) && (r.base.number % range_size family r.bits == 0)) h).1 in
      let low : nat_le r.bits (width family) ≡ true = (and_parts _ _ more).0 in
      grind (arith, nat_tests)

  clear : (r : RangeParts) → IsRangeOf r → r.base.number % range_size family r.bits ≡ 0
  clear r h =
      let more = (and_parts (is_canonical_address family r.base) (nat_le r.bits (width family) && (r.base.number % range_size family r.bits == 0)) h).1 in
      (Decides-eqb (r.base.number % range_size family r.bits) 0).0 (and_parts (nat_le r.bits (width family)) (r.base.number % range_size family r.bits == 0) more).1

  -- a range with no bit past its length is left as it is
  kept : (r : RangeParts) → r.base.number % range_size r.base.family r.bits ≡ 0 → range_from r.base r.bits ≡ r
  kept r none = λ i. record { base = record { family = r.base.family; number = ((ap (λ k. r.base.number - k) none ∙ sub-zero r.base.number) i) }; bits = r.bits }

  short : (f : Family) → width f ≤ 128
  short V4 = lit≤ tt
  short V6 = lit≤ tt

  range_is_read : (r : RangeParts) → IsRangeOf r → any_range_of (range_text r) ≡ Some r
  range_is_read r h =
      let base = base_is r h in
      let is = family_is r.base base in
      let fits : r.bits ≤ width r.base.family = subst (λ f. r.bits ≤ width f) (sym is) (bits_fit r h) in
      let few = short r.base.family in
      ap (option_and_then (λ (base, length). any_range_of_parts base length)) (cut_front (is_host_byte family) 47 (no_slash family) (address_text r.base) (decimal r.bits) (address_bytes r.base base))
      ∙ ap (option_and_then (λ a. option_map (range_from a) (decimal_up_to (width a.family) (decimal r.bits)))) (address_is_read r.base base)
      ∙ ap (option_map (range_from r.base)) (decimal_is_read (width r.base.family) r.bits fits (omega (arith, fits, few)))
      ∙ ap Some (kept r (ap (λ f. r.base.number % range_size f r.bits) is ∙ clear r h))

  range_bytes : (r : RangeParts) → IsRangeOf r → list_all is_word_byte (range_text r) ≡ true
  range_bytes r h =
      let fits = bits_fit r h in
      let few = short family in
      test_append is_word_byte (address_text r.base) (47 ∷ decimal r.bits)
      (test_weaker (is_host_byte family) is_word_byte (host_is_word family) (address_text r.base) (address_bytes r.base (base_is r h)))
      (test_weaker is_digit is_word_byte digit_is_word (decimal r.bits) (printed 255 r.bits (omega (arith, fits, few)) (omega arith)).0)

  pub ranges : IsWord (range_word family) range_text (is_canonical_range family)
  ranges = record {
    sound = λ word.
        IfSome_then (range_word family word) (exact_sound range_text (range_read family) word)
        (λ r h. (of_some IsRangeOf (range_read family word) r (range_sound word) h.0, h.1));
    complete = λ r h.
        exact_complete range_text (range_read family) r
        (of_family (λ (r : RangeParts). r.base.family) any_range_of (range_text r) r (and_parts _ _ (base_is r h)).0 (range_is_read r h));
    whole = range_bytes;
  }

-- ---- endpoints

endpoint_shape : (e : Endpoint) → endpoint_text e ≡ host_text e.address.family (address_text e.address) ++ 58 ∷ decimal e.port
endpoint_shape e = append_assoc (host_text e.address.family (address_text e.address)) (codes ":") (decimal e.port)

-- a host and a port stand in the text that they are read of
abbrev IsSplit : Family → List ℕ → List ℕ × List ℕ → Type 0
IsSplit family word p = word ≡ host_text family p.0 ++ 58 ∷ p.1

bracket_found : (word text : List ℕ) → word ≡ codes "[" ++ text → IfSome (bracketed text) (IsSplit V6 word)
bracket_found word text front =
    if_then (IsSplit V6 word) (λ (host, rest). option_map (λ port. (host, port)) (strip (codes ":") rest)) (split_once 93 text)
    (λ p e. if_map (IsSplit V6 word) (λ port. (p.0, port)) (strip (codes ":") p.1)
    (λ port f.
    let cut = of_some (λ p. text ≡ p.0 ++ 93 ∷ p.1) (split_once 93 text) p (cut_is 93 text) e in
    let colon = of_some (λ port. p.1 ≡ codes ":" ++ port) (strip (codes ":") p.1) port (strip_is (codes ":") p.1) f in
    let shape : codes "[" ++ (p.0 ++ 93 ∷ (codes ":" ++ port)) ≡ (codes "[" ++ p.0 ++ codes "]") ++ 58 ∷ port = simp append_assoc in
    front ∙ ap (λ t. codes "[" ++ t) (cut ∙ ap (λ t. p.0 ++ 93 ∷ t) colon) ∙ shape))

host_found : (family : Family) (word : List ℕ) → IfSome (host_and_port family word) (IsSplit family word)
host_found V4 word = cut_is 58 word
host_found V6 word =
    if_then (IsSplit V6 word) bracketed (strip (codes "[") word)
    (λ text e. bracket_found word text (of_some (λ text. word ≡ codes "[" ++ text) (strip (codes "[") word) text (strip_is (codes "[") word) e))

host_read : (family : Family) (host port : List ℕ) → list_all (is_host_byte family) host ≡ true → host_and_port family (host_text family host ++ 58 ∷ port) ≡ Some (host, port)
host_read V4 host port bytes = cut_front is_dotted_byte 58 refl host port bytes
host_read V6 host port bytes =
    let shape : (codes "[" ++ host ++ codes "]") ++ 58 ∷ port ≡ codes "[" ++ (host ++ 93 ∷ (codes ":" ++ port)) = simp append_assoc in
    ap (host_and_port V6) shape
    ∙ ap (option_and_then (λ (host, rest). option_map (λ port. (host, port)) (strip (codes ":") rest))) (cut_front is_v6_byte 93 refl host (codes ":" ++ port) bytes)

module _ (family : Family) where
  -- an endpoint of the family with this text
  abbrev pub IsEndpointOf : List ℕ → Endpoint → Type 0
  IsEndpointOf word e = (is_canonical_endpoint family e ≡ true) × (endpoint_text e ≡ word)

  pub endpoint_sound : (word : List ℕ) → IfSome (endpoint_word family word) (IsEndpointOf word)
  endpoint_sound word =
      if_then (IsEndpointOf word) (λ (host, port). endpoint_of family host port) (host_and_port family word)
      (λ p e. if_then (IsEndpointOf word) (λ a. option_map (λ n. record { address = a; port = n }) (port_word p.1)) (address_word family p.0)
      (λ a f. if_map (IsEndpointOf word) (λ n. record { address = a; port = n }) (port_word p.1)
      (λ n g.
      let split = of_some (IsSplit family word) (host_and_port family word) p (host_found family word) e in
      let host = of_some (λ a. (is_canonical_address family a ≡ true) × (address_text a ≡ p.0)) (address_word family p.0) a ((addresses family).sound p.0) f in
      let port = of_some (λ n. (is_port_number n ≡ true) × (decimal n ≡ p.1)) (port_word p.1) n (ports.sound p.1) g in
      let is = family_is family a host.0 in (
        and_from _ _ host.0 port.0,
        endpoint_shape (record { address = a; port = n }) ∙ (λ i. host_text (is i) (host.1 i) ++ 58 ∷ port.1 i) ∙ sym split,
      ))))

  pub endpoint_complete : (e : Endpoint) → is_canonical_endpoint family e ≡ true → endpoint_word family (endpoint_text e) ≡ Some e
  endpoint_complete e h =
      let both = and_parts (is_canonical_address family e.address) (is_port_number e.port) h in
      ap (endpoint_word family) (endpoint_shape e ∙ ap (λ f. host_text f (address_text e.address) ++ 58 ∷ decimal e.port) (family_is family e.address both.0))
      ∙ ap (option_and_then (λ (host, port). endpoint_of family host port)) (host_read family (address_text e.address) (decimal e.port) (address_bytes family e.address both.0))
      ∙ (λ i. option_and_then (λ a. option_map (λ n. record { address = a; port = n }) (ports.complete e.port both.1 i)) ((addresses family).complete e.address both.0 i))
