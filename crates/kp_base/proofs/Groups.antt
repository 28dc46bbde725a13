-- What std's reader reads of IPv6 addresses is what the grammar has.
use Rattle.std.proofs.Common.{◌≡◌, ℕ, ◌+◌, ◌*◌, ◌/◌, ◌%◌, ◌^◌, ◌<◌, List, [], ◌∷◌, length, Some, None, option_map, refl, sym, ap, subst, ◌∙◌, append-nil, lit<, ne_eqb, arith}
use Rattle.std.specs.Net.Grammar.{IsColonHex, IsIpv6Text}
use Rattle.std.specs.Net.Reader.{Read, read_ipv6, whole_value}
use Rattle.std.specs.declared.net.ipv6_addr.Ipv6Addr.{Ipv6Addr}
use Rattle.std.specs.Net.Text.{hex_groups_text}
use Rattle.std.proofs.NetLemmas.Ipv6.{read_ipv6_complete, read_ipv6_sound, EndsGroups-nil}
use Rattle.std.proofs.NetLemmas.Texts.{IsColonHex-hex_groups_text}
use Rattle.std.proofs.Math.Arith.{mod-mul}
use Rattle.kp_lemmas.proofs.Numbers.{groups_are_segments}
use Rattle.kp_base.specs.Net.{v6_address}
use Rattle.kp_base.specs.Six.{groups_number, groups_of, six_of}

-- a text of groups is read whole
pub read_whole : (text groups : List ℕ) → IsColonHex text groups → whole_value (read_ipv6 text) ≡ Some groups
read_whole text groups h =
    ap (λ t. whole_value (read_ipv6 t)) (sym (append-nil text))
    ∙ ap whole_value (read_ipv6_complete text groups [] h EndsGroups-nil)

-- a value that is read whole is a text of groups
from_read : (text : List ℕ) (r : Read (List ℕ)) → read_ipv6 text ≡ r
    → ((groups : List ℕ) → ¬ (IsColonHex text groups)) → whole_value r ≡ None
from_read text None e none = refl
from_read text (Some (groups, b ∷ rest)) e none = rw (ne_eqb (length (b ∷ rest)) 0 (omega arith)) refl
from_read text (Some (groups, [])) e none =
    let (front, split, h) = read_ipv6_sound text groups [] e in
    absurd (none groups (subst (λ t. IsColonHex t groups) (sym (split ∙ append-nil front)) h))

-- a text that is none of an address isn't read whole
pub not_read : (text : List ℕ) → ((a : Ipv6Addr) → ¬ (IsIpv6Text text a)) → whole_value (read_ipv6 text) ≡ None
not_read text none = from_read text (read_ipv6 text) refl (λ groups h. none (record { segments = groups }) h)

-- ---- the groups of a number are the number

group_before : (n c : ℕ) → 0 < c → n % (2 ^ 16 * c) ≡ (n / c % 2 ^ 16) * c + n % c
group_before n c some = mod-mul n (lit< tt) some

group_sums : (m8 m7 m6 m5 m4 m3 m2 a b c d e f g h : ℕ)
    → m8 ≡ a + m7 → m7 ≡ b + m6 → m6 ≡ c + m5 → m5 ≡ d + m4 → m4 ≡ e + m3 → m3 ≡ f + m2 → m2 ≡ g + h
    → a + (b + (c + (d + (e + (f + (g + h)))))) ≡ m8
group_sums m8 m7 m6 m5 m4 m3 m2 a b c d e f g h p8 p7 p6 p5 p4 p3 p2 = omega arith

eight_groups : (a b c d e f g h : ℕ) → groups_number (a ∷ b ∷ c ∷ d ∷ e ∷ f ∷ g ∷ h ∷ [])
    ≡ a * 2 ^ 112 + (b * 2 ^ 96 + (c * 2 ^ 80 + (d * 2 ^ 64 + (e * 2 ^ 48 + (f * 2 ^ 32 + (g * 2 ^ 16 + h))))))
eight_groups a b c d e f g h = omega arith

groups_are : (n : ℕ) → n < 2 ^ 128 → groups_number (groups_of n) ≡ n
groups_are n low =
    let last : n % 2 ^ 16 ≡ n / 1 % 2 ^ 16 = omega arith in
    let small : n % 2 ^ 128 ≡ n = omega (arith, low) in
    eight_groups _ _ _ _ _ _ _ _
    ∙ group_sums _ _ _ _ _ _ _ _ _ _ _ _ _ _ _
    (group_before n (2 ^ 112) (lit< tt)) (group_before n (2 ^ 96) (lit< tt)) (group_before n (2 ^ 80) (lit< tt)) (group_before n (2 ^ 64) (lit< tt))
    (group_before n (2 ^ 48) (lit< tt)) (group_before n (2 ^ 32) (lit< tt)) (group_before n (2 ^ 16) (lit< tt) ∙ ap (λ k. n / 2 ^ 16 % 2 ^ 16 * 2 ^ 16 + k) last)
    ∙ small

-- an address that is printed in groups is read
pub printed_is_read : (n : ℕ) → n < 2 ^ 128 → six_of (hex_groups_text (groups_of n)) ≡ Some (v6_address n)
printed_is_read n low =
    let places = 7 ∷ 6 ∷ 5 ∷ 4 ∷ 3 ∷ 2 ∷ 1 ∷ 0 ∷ [] in
    ap (option_map (λ groups. v6_address (groups_number groups)))
    (read_whole (hex_groups_text (groups_of n)) (groups_of n) (IsColonHex-hex_groups_text (groups_of n) refl (groups_are_segments n places)))
    ∙ ap (λ m. Some (v6_address m)) (groups_are n low)
