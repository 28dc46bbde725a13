-- Hexadecimal digits tell numbers apart, and so stand-in names tell the chains of one port apart.
use Rattle.std.proofs.Common.{inl, inr, ◌≡◌, ◌≢◌, ℕ, suc, zero, ◌*◌, ◌/◌, ◌%◌, ◌^◌, ◌<◌, ◌≤◌, ◌==◌, cond, true, ◌&&◌, List, [], ◌∷◌, ◌++◌, length, get_or, Contains, codes, refl, sym, ap, ap₂, ◌∙◌, arith, add-one, pow-suc}
use Rattle.std.specs.List.{list_all}
use Rattle.std.proofs.lemmas.Bool.Decides.{nat_tests}
use Rattle.std.proofs.lemmas.Bool.{and_from}
use Rattle.std.proofs.lemmas.List.{same_from_push, append_cancel_left, length_push}
use Rattle.std.proofs.lemmas.List.Folds.{list_all-append}
use Rattle.kp_lemmas.proofs.Members.{none_in, in_cases}
use Rattle.kp_base.specs.declared.key.Endpoint.{Endpoint}
use Rattle.kp_types.specs.Chains.{is_chain_byte}
use Rattle.kp_types.specs.declared.chain.ChainKey.TheVariants.{Port, Sep}
use Rattle.kp_types.specs.declared.chain.PortChain.{PortChain}
use Rattle.kp_types.specs.declared.chain.PortChain.TheVariants.{Svc, Svl, Ext, Fw}
use Rattle.kp_choice_defs.specs.Names.{port_chain_prefix}
use Rattle.kp_object_defs.specs.PortInfo.{PortInfo}
use Rattle.kp_table_laws.proofs.NeededKeys.{keys_cases, no_clash_is_own_names}
use Rattle.kp_walk_laws.specs.Laws.{IsSmall, StandInApart, StandInNames}
use Rattle.kp_table_defs.specs.StandIn.{hex_digit, hex_text, stand_in_name}

-- a digit tells its number
digit_exact : (c d : ℕ) → c < 16 → d < 16 → hex_digit c ≡ hex_digit d → c ≡ d
digit_exact c d hc hd h = grind (arith, nat_tests)

-- a digit is a byte of a chain's name
digit_in_name : (d : ℕ) → d < 16 → is_chain_byte (hex_digit d) ≡ true
digit_in_name d h = grind (arith, nat_tests)

length_hex : (width n : ℕ) → length (hex_text width n) ≡ width
length_hex zero n = refl
length_hex (suc width) n = length_push (hex_text width (n / 16)) (hex_digit (n % 16))
    ∙ add-one (length (hex_text width (n / 16))) ∙ ap suc (length_hex width (n / 16))

fewer : (n p : ℕ) → n < p * 16 → n / 16 < p
fewer n p h = omega arith

-- so many digits tell all numbers apart that have no more
hex_exact : (width m n : ℕ) → m < 16 ^ width → n < 16 ^ width → hex_text width m ≡ hex_text width n
    → m ≡ n
hex_exact zero m n hm hn h = omega arith
hex_exact (suc width) m n hm hn h =
    let parts = same_from_push (hex_text width (m / 16)) (hex_text width (n / 16))
    (hex_digit (m % 16)) (hex_digit (n % 16)) h in
    let high : m / 16 ≡ n / 16 = hex_exact width (m / 16) (n / 16)
    (fewer m (16 ^ width) (rw pow-suc at hm)) (fewer n (16 ^ width) (rw pow-suc at hn)) parts.0 in
    let low : m % 16 ≡ n % 16 = digit_exact (m % 16) (n % 16) (omega arith) (omega arith) parts.1 in
    omega arith

-- lists of one length that begin two equal ones are equal, and so is the rest
same_halves : (xs us ys vs : List ℕ) → length xs ≡ length us → xs ++ ys ≡ us ++ vs
    → (xs ≡ us) × (ys ≡ vs)
same_halves [] [] ys vs long h = (refl, h)
same_halves [] (u ∷ us) ys vs long h = absurd (omega arith)
same_halves (x ∷ xs) [] ys vs long h = absurd (omega arith)
same_halves (x ∷ xs) (u ∷ us) ys vs long h =
    let head : x ≡ u = cc in
    let rest : xs ++ ys ≡ us ++ vs = cc in
    let halves = same_halves xs us ys vs (omega arith) rest in
    (ap₂ (λ a b. a ∷ b) head halves.0, halves.1)

-- endpoints of one stand-in name are one
endpoint_exact : (f g : Endpoint) → IsSmall f → IsSmall g
    → codes "KUBE-SEP-" ++ (hex_text 8 f.address.number ++ hex_text 4 f.port)
    ≡ codes "KUBE-SEP-" ++ (hex_text 8 g.address.number ++ hex_text 4 g.port) → f ≡ g
endpoint_exact f g hf hg h =
    let digits = append_cancel_left (codes "KUBE-SEP-")
    (hex_text 8 f.address.number ++ hex_text 4 f.port)
    (hex_text 8 g.address.number ++ hex_text 4 g.port) h in
    let halves = same_halves (hex_text 8 f.address.number) (hex_text 8 g.address.number)
    (hex_text 4 f.port) (hex_text 4 g.port)
    (length_hex 8 f.address.number ∙ sym (length_hex 8 g.address.number)) digits in
    let family : f.address.family ≡ g.address.family = hf.family ∙ sym hg.family in
    let number : f.address.number ≡ g.address.number =
    hex_exact 8 f.address.number g.address.number hf.number hg.number halves.0 in
    let port : f.port ≡ g.port = hex_exact 4 f.port g.port hf.port hg.port halves.1 in
    λ i. record { address = record { family = family i; number = number i }; port = port i }

-- a list of at most one element has only that one
only_one : (infos : List PortInfo) → length infos ≤ 1 → (i j : PortInfo) → Contains infos i
    → Contains infos j → i ≡ j
only_one [] few i j ci cj = absurd (none_in i ci)
only_one (x ∷ []) few i j ci cj = sym (is_first x i ci) ∙ is_first x j cj
  where
    is_first : (x i : PortInfo) → Contains (x ∷ []) i → x ≡ i
    is_first x i c = elim (in_cases i x [] c) [ inl e ↦ e | inr d ↦ absurd (none_in i d) ]
only_one (x ∷ y ∷ more) few i j ci cj = absurd (omega arith)

-- the kind that a name begins with
abbrev kind_by : List ℕ → PortChain
kind_by name = cond (get_or name 7 0 == 67) Svc
    (cond (get_or name 7 0 == 76) Svl (cond (get_or name 7 0 == 84) Ext Fw))

kind_there : (kind : PortChain) → kind_by (port_chain_prefix kind) ≡ kind
kind_there Svc = refl
kind_there Svl = refl
kind_there Ext = refl
kind_there Fw = refl

-- the seventh byte of a port's chain's name
abbrev mark_of : PortChain → ℕ
mark_of Svc = 86
mark_of Svl = 86
mark_of Ext = 88
mark_of Fw = 87

mark_there : (kind : PortChain) → get_or (port_chain_prefix kind) 6 0 ≡ mark_of kind
mark_there Svc = refl
mark_there Svl = refl
mark_there Ext = refl
mark_there Fw = refl

no_mark : (kind : PortChain) → mark_of kind ≡ 69 → ⊥
no_mark Svc h = omega arith
no_mark Svl h = omega arith
no_mark Ext h = omega arith
no_mark Fw h = omega arith

-- the names of a port's chain and of an endpoint's differ there
other_kind : (kind : PortChain) (digits : List ℕ)
    → port_chain_prefix kind ≢ codes "KUBE-SEP-" ++ digits
other_kind kind digits h = no_mark kind (sym (mark_there kind) ∙ ap (λ l. get_or l 6 0) h)

pub stand_in_apart_by : StandInApart
stand_in_apart_by infos few small =
    (no_clash_is_own_names stand_in_name infos).1
    (λ a b ca cb. keys_cases infos (λ k. stand_in_name k ≡ stand_in_name b → k ≡ b)
    (λ i ci kind h. keys_cases infos (λ k. port_chain_prefix kind ≡ stand_in_name k
    → Port kind i.key ≡ k)
    (λ j cj other g same. ap₂ (λ x k. Port x k)
    (sym (kind_there kind) ∙ ap kind_by same ∙ kind_there other)
    (ap (λ k. k.key) (only_one infos few i j ci cj)))
    (λ j cj f cf same. absurd (other_kind kind
    (hex_text 8 f.address.number ++ hex_text 4 f.port) same)) b cb)
    (λ i ci e ce. keys_cases infos (λ k. stand_in_name (Sep i.key e) ≡ stand_in_name k
    → Sep i.key e ≡ k)
    (λ j cj other g same. absurd (other_kind other (hex_text 8 e.address.number ++ hex_text 4 e.port)
    (sym same)))
    (λ j cj f cf same. ap₂ (λ k g. Sep k g) (ap (λ k. k.key) (only_one infos few i j ci cj))
    (endpoint_exact e f (small i e ci ce) (small j f cj cf) same)) b cb) a ca)

all_hex : (width n : ℕ) → list_all is_chain_byte (hex_text width n) ≡ true
all_hex zero n = refl
all_hex (suc width) n =
    list_all-append is_chain_byte (hex_text width (n / 16)) (hex_digit (n % 16) ∷ [])
    ∙ and_from (list_all is_chain_byte (hex_text width (n / 16)))
    (is_chain_byte (hex_digit (n % 16)) && true) (all_hex width (n / 16))
    (and_from (is_chain_byte (hex_digit (n % 16))) true (digit_in_name (n % 16) (omega arith)) refl)

pub stand_in_names_by : StandInNames
stand_in_names_by (Port Svc port) = refl
stand_in_names_by (Port Svl port) = refl
stand_in_names_by (Port Ext port) = refl
stand_in_names_by (Port Fw port) = refl
stand_in_names_by (Sep port e) =
    let bytes = list_all-append is_chain_byte (hex_text 8 e.address.number) (hex_text 4 e.port)
    ∙ and_from (list_all is_chain_byte (hex_text 8 e.address.number))
    (list_all is_chain_byte (hex_text 4 e.port)) (all_hex 8 e.address.number) (all_hex 4 e.port) in
    ap (λ b. b && true) bytes
