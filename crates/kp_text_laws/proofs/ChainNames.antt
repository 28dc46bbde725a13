-- Hashed names are names that chains may have.
use Rattle.std.proofs.Common.{◌≡◌, ℕ, ◌+◌, ◌≤◌, ◌&&◌, true, nat_le, List, [], ◌∷◌, ◌++◌, length, codes, refl, arith, length-append, lit≤}
use Rattle.std.specs.List.{list_all}
use Rattle.std.proofs.lemmas.Bool.{and_from}
use Rattle.std.proofs.lemmas.Bool.Decides.{nat_tests}
use Rattle.std.proofs.lemmas.List.{length-take}
use Rattle.sha2.specs.Sha256.{sha256}
use Rattle.kp_lemmas.proofs.ListFacts.{test_append, test_take}
use Rattle.kp_types.specs.Chains.{is_chain_byte, is_chain_name}
use Rattle.kp_types.specs.declared.chain.ChainKey.{ChainKey}
use Rattle.kp_types.specs.declared.chain.ChainKey.TheVariants.{Port, Sep}
use Rattle.kp_types.specs.declared.chain.PortChain.TheVariants.{Svc, Svl, Ext, Fw}
use Rattle.kp_choice_defs.specs.AddressText.{endpoint_text}
use Rattle.kp_choice_defs.proofs.NameCharacters.{quantum_fits, no_target}
use Rattle.kp_choice_defs.specs.Names.{base32, chain_name, hash_text, port_text, quantum_text}

-- bytes of names
abbrev Fit : List ℕ → Type 0
Fit bytes = list_all is_chain_byte bytes ≡ true

base32_fits : (bytes : List ℕ) → Fit (base32 bytes)
base32_fits [] = refl
base32_fits (a ∷ []) = test_take is_chain_byte 2 (quantum_text a 0 0 0 0) (quantum_fits a 0 0 0 0)
base32_fits (a ∷ b ∷ []) = test_take is_chain_byte 4 (quantum_text a b 0 0 0) (quantum_fits a b 0 0 0)
base32_fits (a ∷ b ∷ c ∷ []) = test_take is_chain_byte 5 (quantum_text a b c 0 0) (quantum_fits a b c 0 0)
base32_fits (a ∷ b ∷ c ∷ d ∷ []) = test_take is_chain_byte 7 (quantum_text a b c d 0) (quantum_fits a b c d 0)
base32_fits (a ∷ b ∷ c ∷ d ∷ e ∷ rest) =
    test_append is_chain_byte (quantum_text a b c d e) (base32 rest) (quantum_fits a b c d e)
    (base32_fits rest)

-- a K, few bytes of names and at most sixteen characters of a hash are a name
name_fits : (bytes : List ℕ) (n : ℕ) (text : List ℕ) → length bytes ≤ 11 → Fit bytes → n ≤ 16
    → is_chain_name (75 ∷ (bytes ++ hash_text n text)) ≡ true
name_fits bytes n text few h at_most =
    let hash : List ℕ = hash_text n text in
    let all : List ℕ = 75 ∷ (bytes ++ hash) in
    let short : length hash ≤ 16 = omega (arith, length-take n (base32 (sha256 text))) in
    let long : length (bytes ++ hash) ≡ length bytes + length hash = length-append bytes hash in
    let most : nat_le (length all) 28 ≡ true = grind (arith, nat_tests, long, few, short) in
    let least : nat_le 1 (length all) ≡ true = grind (arith, nat_tests) in
    let fit : list_all is_chain_byte all ≡ true = test_append is_chain_byte bytes hash h
    (test_take is_chain_byte n (base32 (sha256 text)) (base32_fits (sha256 text))) in
    and_from (nat_le 1 (length all) && nat_le (length all) 28 && list_all is_chain_byte all) _
    (and_from (nat_le 1 (length all) && nat_le (length all) 28) (list_all is_chain_byte all)
    (and_from (nat_le 1 (length all)) (nat_le (length all) 28) least most) fit)
    (no_target (bytes ++ hash))

-- a name of at most sixteen characters of its hash
pub hashed_names : (n : ℕ) → n ≤ 16 → (k : ChainKey) → is_chain_name (chain_name n k) ≡ true
hashed_names n few (Port Svc key) =
    name_fits (codes "UBE-SVC-") n (port_text key) (lit≤ tt) refl few
hashed_names n few (Port Svl key) =
    name_fits (codes "UBE-SVL-") n (port_text key) (lit≤ tt) refl few
hashed_names n few (Port Ext key) =
    name_fits (codes "UBE-EXT-") n (port_text key) (lit≤ tt) refl few
hashed_names n few (Port Fw key) = name_fits (codes "UBE-FW-") n (port_text key) (lit≤ tt) refl few
hashed_names n few (Sep key e) =
    name_fits (codes "UBE-SEP-") n (port_text key ++ endpoint_text e) (lit≤ tt) refl few
