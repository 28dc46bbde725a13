-- Different keys have different texts.
use Rattle.std.proofs.Common.{◌≡◌, ℕ, zero, suc, ◌+◌, ◌/◌, ◌%◌, ◌^◌, ◌<◌, ◌==◌, Bool, true, false, cond, not, ◌&&◌, nat_lt, List, [], ◌∷◌, ◌++◌, drop, reverse, get_or, codes, decimal, refl, ap, sym, ◌∙◌, subst, append_assoc, append-nil, lit<, arith}
use Rattle.std.proofs.Math.Nat.{mod-lt}
use Rattle.std.specs.List.{list_all}
use Rattle.std.specs.Fmt.{digits, digits_onto, digit_glyph}
use Rattle.std.specs.Net.Text.{dotted_text}
use Rattle.std.proofs.lemmas.Bool.{and_parts}
use Rattle.std.proofs.lemmas.Bool.Decides.{nat_tests}
use Rattle.std.proofs.lemmas.Fmt.{decimal_injective}
use Rattle.std.proofs.lemmas.List.{append_cancel_right, reverse-append}
use Rattle.std.proofs.lemmas.List.Folds.{list_all-append}
use Rattle.kp_base.specs.declared.address.Family.TheVariants.{V4}
use Rattle.kp_base.specs.declared.port.Proto.{Proto}
use Rattle.kp_base.specs.declared.port.Proto.TheVariants.{Sctp, Tcp, Udp}
use Rattle.kp_base.specs.declared.key.PortKey.{PortKey}
use Rattle.kp_base.specs.declared.key.Endpoint.{Endpoint}
use Rattle.kp_base.specs.Grammar.{is_name_byte, is_name_text}
use Rattle.kp_choice_defs.specs.AddressText.{octet_at, endpoint_text, host_text, number_text}
use Rattle.kp_choice_defs.specs.Names.{proto_text, port_name_text, port_text}
use Rattle.kp_names.specs.Written.{IsWritten, IsWrittenEndpoint}

-- ---- lists that are told apart by a byte

-- no byte is this one
abbrev Free : ℕ → List ℕ → Type 0
Free x bs = list_all (λ b. not (b == x)) bs ≡ true

other : (x b : ℕ) → not (b == x) ≡ true → b ≡ x → ⊥
other x b h e = absurd (let no : not (x == x) ≡ true = subst (λ y. not (y == x) ≡ true) e h in grind (arith, nat_tests, no))

head : (a b : ℕ) (xs bs : List ℕ) → a ∷ xs ≡ b ∷ bs → a ≡ b
head a b xs bs h = ap (λ l. get_or l 0 0) h

tail : (a b : ℕ) (xs bs : List ℕ) → a ∷ xs ≡ b ∷ bs → xs ≡ bs
tail a b xs bs h = ap (drop 1) h

-- what is free of a byte does not have it
never : (x : ℕ) (xs bs cs : List ℕ) → Free x xs → xs ≡ bs ++ x ∷ cs → ⊥
never x [] [] cs free h = absurd (cc)
never x [] (b ∷ bs) cs free h = absurd (cc)
never x (a ∷ xs) [] cs free h = other x a (and_parts _ _ free).0 (head a x xs cs h)
never x (a ∷ xs) (b ∷ bs) cs free h = never x xs bs cs (and_parts _ _ free).1 (tail a b xs (bs ++ x ∷ cs) h)

-- texts with a first byte of a kind have equal parts
split_first : (x : ℕ) (xs bs cs ds : List ℕ) → Free x xs → Free x bs → xs ++ x ∷ cs ≡ bs ++ x ∷ ds → (xs ≡ bs) × (cs ≡ ds)
split_first x [] [] cs ds free free' h = (refl, tail x x cs ds h)
split_first x [] (b ∷ bs) cs ds free free' h = absurd (other x b (and_parts _ _ free').0 (sym (head x b cs (bs ++ x ∷ ds) h)))
split_first x (a ∷ xs) [] cs ds free free' h = absurd (other x a (and_parts _ _ free).0 (head a x (xs ++ x ∷ cs) ds h))
split_first x (a ∷ xs) (b ∷ bs) cs ds free free' h =
    let rest = split_first x xs bs cs ds (and_parts _ _ free).1 (and_parts _ _ free').1 (tail a b _ _ h) in
    ((λ i. head a b _ _ h i ∷ rest.0 i), rest.1)

-- and so have texts with a last one
split_last : (x : ℕ) (xs bs cs ds : List ℕ) → Free x cs → Free x ds → xs ++ x ∷ cs ≡ bs ++ x ∷ ds → (xs ≡ bs) × (cs ≡ ds)
split_last x [] [] cs ds free free' h = (refl, tail x x cs ds h)
split_last x [] (b ∷ bs) cs ds free free' h = absurd (never x cs bs ds free (tail x b cs (bs ++ x ∷ ds) h))
split_last x (a ∷ xs) [] cs ds free free' h = absurd (never x ds xs cs free' (sym (tail a x (xs ++ x ∷ cs) ds h)))
split_last x (a ∷ xs) (b ∷ bs) cs ds free free' h =
    let rest = split_last x xs bs cs ds free free' (tail a b _ _ h) in
    ((λ i. head a b _ _ h i ∷ rest.0 i), rest.1)

-- what one test passes another passes
all_pass : (p q : ℕ → Bool) → ((b : ℕ) → p b ≡ true → q b ≡ true) → (bs : List ℕ) → list_all p bs ≡ true → list_all q bs ≡ true
all_pass p q h [] all = refl
all_pass p q h (b ∷ bs) all = let parts = and_parts _ _ all in λ i. h b parts.0 i && all_pass p q h bs parts.1 i

-- ---- Service ports

name_no_slash : (b : ℕ) → is_name_byte b ≡ true → not (b == 47) ≡ true
name_no_slash b h = grind (arith, nat_tests)

name_no_colon : (b : ℕ) → is_name_byte b ≡ true → not (b == 58) ≡ true
name_no_colon b h = grind (arith, nat_tests)

-- the last byte but one tells protocols apart
before_last : (xs ys p q : List ℕ) → xs ++ p ≡ ys ++ q → get_or (reverse p ++ reverse xs) 1 0 ≡ get_or (reverse q ++ reverse ys) 1 0
before_last xs ys p q h = ap (λ l. get_or l 1 0) (sym (reverse-append xs p) ∙ ap reverse h ∙ reverse-append ys q)

-- texts that end in protocols have equal parts
split_proto : (xs ys : List ℕ) (a b : Proto) → xs ++ proto_text a ≡ ys ++ proto_text b → (xs ≡ ys) × (a ≡ b)
split_proto xs ys Sctp Sctp h = (append_cancel_right xs ys (proto_text Sctp) h, refl)
split_proto xs ys Sctp Tcp h = absurd (let no : 116 ≡ 99 = before_last xs ys (proto_text Sctp) (proto_text Tcp) h in omega (arith, no))
split_proto xs ys Sctp Udp h = absurd (let no : 116 ≡ 100 = before_last xs ys (proto_text Sctp) (proto_text Udp) h in omega (arith, no))
split_proto xs ys Tcp Sctp h = absurd (let no : 99 ≡ 116 = before_last xs ys (proto_text Tcp) (proto_text Sctp) h in omega (arith, no))
split_proto xs ys Tcp Tcp h = (append_cancel_right xs ys (proto_text Tcp) h, refl)
split_proto xs ys Tcp Udp h = absurd (let no : 99 ≡ 100 = before_last xs ys (proto_text Tcp) (proto_text Udp) h in omega (arith, no))
split_proto xs ys Udp Sctp h = absurd (let no : 100 ≡ 116 = before_last xs ys (proto_text Udp) (proto_text Sctp) h in omega (arith, no))
split_proto xs ys Udp Tcp h = absurd (let no : 100 ≡ 99 = before_last xs ys (proto_text Udp) (proto_text Tcp) h in omega (arith, no))
split_proto xs ys Udp Udp h = (append_cancel_right xs ys (proto_text Udp) h, refl)

-- names and the names of ports behind them
split_port : (n m p q : List ℕ) → Free 58 n → Free 58 m → n ++ port_name_text p ≡ m ++ port_name_text q → (n ≡ m) × (p ≡ q)
split_port n m [] [] free free' h = (sym (append-nil n) ∙ h ∙ append-nil m, refl)
split_port n m [] (c ∷ cs) free free' h = absurd (never 58 n m (c ∷ cs) free (sym (append-nil n) ∙ h))
split_port n m (b ∷ bs) [] free free' h = absurd (never 58 m n (b ∷ bs) free' (sym (h ∙ append-nil m)))
split_port n m (b ∷ bs) (c ∷ cs) free free' h = split_first 58 n m (b ∷ bs) (c ∷ cs) free free' h

-- the text without its protocol
body : PortKey → List ℕ
body k = k.object.namespace ++ 47 ∷ (k.object.name ++ port_name_text k.port_name)

body_is : (k : PortKey) → port_text k ≡ body k ++ proto_text k.proto
unfolding body
body_is k =
    ap (λ l. l ++ proto_text k.proto)
    (append_assoc (k.object.namespace ++ codes "/") k.object.name (port_name_text k.port_name)
    ∙ append_assoc k.object.namespace (codes "/") (k.object.name ++ port_name_text k.port_name))

-- the names of a key that objects have are free of slashes and colons
no_slash : (bs : List ℕ) → is_name_text bs ≡ true → Free 47 bs
no_slash bs h = all_pass is_name_byte (λ b. not (b == 47)) name_no_slash bs (and_parts _ _ (and_parts _ _ h).0).1

no_colon : (bs : List ℕ) → is_name_text bs ≡ true → Free 58 bs
no_colon bs h = all_pass is_name_byte (λ b. not (b == 58)) name_no_colon bs (and_parts _ _ (and_parts _ _ h).0).1

same_body : (a b : PortKey) → IsWritten a → IsWritten b → body a ≡ body b → a.proto ≡ b.proto → a ≡ b
unfolding body
same_body a b wa wb h e =
    let outer = split_first 47 a.object.namespace b.object.namespace (a.object.name ++ port_name_text a.port_name) (b.object.name ++ port_name_text b.port_name) (no_slash a.object.namespace wa.namespace) (no_slash b.object.namespace wb.namespace) h in
    let inner = split_port a.object.name b.object.name a.port_name b.port_name (no_colon a.object.name wa.name) (no_colon b.object.name wb.name) outer.1 in
    λ i. record { object = record { namespace = outer.0 i; name = inner.0 i }; port_name = inner.1 i; proto = e i }

pub port_texts_apart : (a b : PortKey) → IsWritten a → IsWritten b → port_text a ≡ port_text b → a ≡ b
port_texts_apart a b wa wb h =
    let parts = split_proto (body a) (body b) a.proto b.proto (sym (body_is a) ∙ h ∙ body_is b) in
    same_body a b wa wb parts.0 parts.1

-- ---- endpoints

-- what holds of digits holds of the digits of a number
digit_passes : (q : ℕ → Bool) → ((d : ℕ) → d < 10 → q (48 + d) ≡ true) → (n : ℕ) → q (digit_glyph false (n % 10)) ≡ true
digit_passes q h n = by_test (nat_lt (n % 10) 10) (let low : n % 10 < 10 = mod-lt n (lit< tt) in grind (arith, nat_tests, low)) where
  by_test : (b : Bool) → b ≡ true → q (cond b (48 + n % 10) (87 + n % 10)) ≡ true
  by_test true e = h (n % 10) (mod-lt n (lit< tt))
  by_test false e = absurd (cc)

-- the digits so far, or more of them
either_passes : (q : ℕ → Bool) (b : Bool) (xs ys : List ℕ) → list_all q xs ≡ true → list_all q ys ≡ true → list_all q (cond b xs ys) ≡ true
either_passes q true xs ys h k = h
either_passes q false xs ys h k = k

digits_pass : (q : ℕ → Bool) → ((d : ℕ) → d < 10 → q (48 + d) ≡ true) → (k n : ℕ) (acc : List ℕ) → list_all q acc ≡ true → list_all q (digits_onto k 10 false n acc) ≡ true
digits_pass q h zero n acc all = all
digits_pass q h (suc k) n acc all =
    let one : list_all q (digit_glyph false (n % 10) ∷ acc) ≡ true = λ i. digit_passes q h n i && all i in
    either_passes q (n / 10 == 0) (digit_glyph false (n % 10) ∷ acc) (digits_onto k 10 false (n / 10) (digit_glyph false (n % 10) ∷ acc)) one
    (digits_pass q h k (n / 10) (digit_glyph false (n % 10) ∷ acc) one)

decimal_passes : (q : ℕ → Bool) → ((d : ℕ) → d < 10 → q (48 + d) ≡ true) → (n : ℕ) → list_all q (decimal n) ≡ true
unfolding digits
decimal_passes q h n = digits_pass q h 64 n [] refl

-- digits are free of dots, colons and letters
decimal_free : (x n : ℕ) → ((d : ℕ) → d < 10 → not (48 + d == x) ≡ true) → Free x (decimal n)
decimal_free x n h = decimal_passes (λ b. not (b == x)) h n

no_dot : (d : ℕ) → d < 10 → not (48 + d == 46) ≡ true
no_dot d h = grind (arith, nat_tests)

digit_no_colon : (d : ℕ) → d < 10 → not (48 + d == 58) ≡ true
digit_no_colon d h = grind (arith, nat_tests)

no_letter : (d : ℕ) → d < 10 → not (48 + d == 112) ≡ true
no_letter d h = grind (arith, nat_tests)

-- a dotted text, taken apart
abbrev dotted_parts : ℕ → ℕ → ℕ → ℕ → List ℕ
dotted_parts a b c d = decimal a ++ 46 ∷ (decimal b ++ 46 ∷ (decimal c ++ 46 ∷ decimal d))

dotted_is : (a b c d : ℕ) → dotted_text a b c d ≡ dotted_parts a b c d
dotted_is a b c d = simp append_assoc refl

-- it is free of what is no digit and no dot
parts_free : (x a b c d : ℕ) → ((e : ℕ) → e < 10 → not (48 + e == x) ≡ true) → not (46 == x) ≡ true → Free x (dotted_parts a b c d)
parts_free x a b c d h dot =
    let third : Free x (decimal c ++ 46 ∷ decimal d) = list_all-append _ (decimal c) (46 ∷ decimal d) ∙ (λ i. decimal_free x c h i && (dot i && decimal_free x d h i)) in
    let second : Free x (decimal b ++ 46 ∷ (decimal c ++ 46 ∷ decimal d)) = list_all-append _ (decimal b) (46 ∷ (decimal c ++ 46 ∷ decimal d)) ∙ (λ i. decimal_free x b h i && (dot i && third i)) in
    list_all-append _ (decimal a) (46 ∷ (decimal b ++ 46 ∷ (decimal c ++ 46 ∷ decimal d))) ∙ (λ i. decimal_free x a h i && (dot i && second i))

-- a byte's decimal digits are its own
one_byte : (m n : ℕ) → m < 256 → n < 256 → decimal m ≡ decimal n → m ≡ n
one_byte m n h k e = decimal_injective m n (omega (arith, h)) (omega (arith, k)) e

record Bytes (a b c d : ℕ) : Type 0 where
  first : a < 256
  second : b < 256
  third : c < 256
  last : d < 256

record SameFour (a b c d e f g h : ℕ) : Type 0 where
  first : a ≡ e
  second : b ≡ f
  third : c ≡ g
  last : d ≡ h

parts_apart : (a b c d e f g h : ℕ) → Bytes a b c d → Bytes e f g h → dotted_parts a b c d ≡ dotted_parts e f g h → SameFour a b c d e f g h
parts_apart a b c d e f g h low low' eq =
    let one = split_first 46 (decimal a) (decimal e) _ _ (decimal_free 46 a no_dot) (decimal_free 46 e no_dot) eq in
    let two = split_first 46 (decimal b) (decimal f) _ _ (decimal_free 46 b no_dot) (decimal_free 46 f no_dot) one.1 in
    let three = split_first 46 (decimal c) (decimal g) (decimal d) (decimal h) (decimal_free 46 c no_dot) (decimal_free 46 g no_dot) two.1 in
    record {
      first = one_byte a e low.first low'.first one.0;
      second = one_byte b f low.second low'.second two.0;
      third = one_byte c g low.third low'.third three.0;
      last = one_byte d h low.last low'.last three.1;
    }

-- the number of four bytes
octets : (n : ℕ) → Bytes (octet_at n 3) (octet_at n 2) (octet_at n 1) (octet_at n 0)
octets n = record {
  first = mod-lt (n / 2 ^ 24) (lit< tt);
  second = mod-lt (n / 2 ^ 16) (lit< tt);
  third = mod-lt (n / 2 ^ 8) (lit< tt);
  last = mod-lt (n / 2 ^ 0) (lit< tt);
}

one_number : (m n : ℕ) → m < 2 ^ 32 → n < 2 ^ 32 → SameFour (octet_at m 3) (octet_at m 2) (octet_at m 1) (octet_at m 0) (octet_at n 3) (octet_at n 2) (octet_at n 1) (octet_at n 0) → m ≡ n
one_number m n low low' same = omega (arith, low, low', same.first, same.second, same.third, same.last)

-- an endpoint's text, taken apart
abbrev endpoint_parts : ℕ → ℕ → List ℕ
endpoint_parts n port = dotted_parts (octet_at n 3) (octet_at n 2) (octet_at n 1) (octet_at n 0) ++ 58 ∷ decimal port

endpoint_is : (e : Endpoint) → e.address.family ≡ V4 → endpoint_text e ≡ endpoint_parts e.address.number e.port
endpoint_is e v4 =
    ap (λ family. host_text family (number_text family e.address.number) ++ codes ":" ++ decimal e.port) v4
    ∙ append_assoc (number_text V4 e.address.number) (codes ":") (decimal e.port)
    ∙ ap (λ l. l ++ 58 ∷ decimal e.port) (dotted_is (octet_at e.address.number 3) (octet_at e.address.number 2) (octet_at e.address.number 1) (octet_at e.address.number 0))

endpoint_free : (n port : ℕ) → Free 112 (endpoint_parts n port)
endpoint_free n port =
    list_all-append _ (dotted_parts (octet_at n 3) (octet_at n 2) (octet_at n 1) (octet_at n 0)) (58 ∷ decimal port)
    ∙ (λ i. parts_free 112 (octet_at n 3) (octet_at n 2) (octet_at n 1) (octet_at n 0) no_letter refl i && decimal_free 112 port no_letter i)

endpoint_parts_apart : (m n p q : ℕ) → m < 2 ^ 32 → n < 2 ^ 32 → p < 2 ^ 16 → q < 2 ^ 16 → endpoint_parts m p ≡ endpoint_parts n q → (m ≡ n) × (p ≡ q)
endpoint_parts_apart m n p q low low' port port' h =
    let split = split_first 58 (dotted_parts (octet_at m 3) (octet_at m 2) (octet_at m 1) (octet_at m 0)) (dotted_parts (octet_at n 3) (octet_at n 2) (octet_at n 1) (octet_at n 0)) (decimal p) (decimal q)
    (parts_free 58 (octet_at m 3) (octet_at m 2) (octet_at m 1) (octet_at m 0) digit_no_colon refl)
    (parts_free 58 (octet_at n 3) (octet_at n 2) (octet_at n 1) (octet_at n 0) digit_no_colon refl) h in
    (one_number m n low low' (parts_apart _ _ _ _ _ _ _ _ (octets m) (octets n) split.0), decimal_injective p q (omega (arith, port)) (omega (arith, port')) split.1)

-- every protocol ends in a p
stem : Proto → List ℕ
stem Sctp = codes "sct"
stem Tcp = codes "tc"
stem Udp = codes "ud"

stem_is : (p : Proto) → proto_text p ≡ stem p ++ 112 ∷ []
unfolding stem
stem_is Sctp = refl
stem_is Tcp = refl
stem_is Udp = refl

whole_is : (k : PortKey) (xs : List ℕ) → port_text k ++ xs ≡ (body k ++ stem k.proto) ++ 112 ∷ xs
whole_is k xs =
    ap (λ l. l ++ xs) (body_is k ∙ ap (λ l. body k ++ l) (stem_is k.proto) ∙ sym (append_assoc (body k) (stem k.proto) (112 ∷ [])))
    ∙ append_assoc (body k ++ stem k.proto) (112 ∷ []) xs

port_is : (k : PortKey) → port_text k ≡ (body k ++ stem k.proto) ++ 112 ∷ []
port_is k = sym (append-nil (port_text k)) ∙ whole_is k []

pub endpoint_texts_apart : (a b : PortKey) (e f : Endpoint) → IsWritten a → IsWritten b → IsWrittenEndpoint e → IsWrittenEndpoint f → port_text a ++ endpoint_text e ≡ port_text b ++ endpoint_text f → (a ≡ b) × (e ≡ f)
endpoint_texts_apart a b e f wa wb we wf h =
    let whole = sym (whole_is a _) ∙ ap (λ l. port_text a ++ l) (sym (endpoint_is e we.family)) ∙ h ∙ ap (λ l. port_text b ++ l) (endpoint_is f wf.family) ∙ whole_is b _ in
    let split = split_last 112 (body a ++ stem a.proto) (body b ++ stem b.proto) (endpoint_parts e.address.number e.port) (endpoint_parts f.address.number f.port) (endpoint_free e.address.number e.port) (endpoint_free f.address.number f.port) whole in
    let parts = endpoint_parts_apart e.address.number f.address.number e.port f.port we.number wf.number we.port wf.port split.1 in (
      port_texts_apart a b wa wb (port_is a ∙ ap (λ l. l ++ 112 ∷ []) split.0 ∙ sym (port_is b)),
      λ i. record { address = record { family = (we.family ∙ sym wf.family) i; number = parts.0 i }; port = parts.1 i },
    )
