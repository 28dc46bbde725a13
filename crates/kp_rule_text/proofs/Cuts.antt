-- Texts that are cut at the front, or at a byte.
use Rattle.std.proofs.Common.{◌≡◌, ◌≢◌, ℕ, suc, ◌+◌, ◌==◌, List, [], ◌∷◌, ◌++◌, length, take, drop, get_or, Bool, true, false, cond, not, nat_lt, position, Option, Some, None, option_map, MatchOption, IfSome, refl, sym, ap, ◌∙◌, inl, inr, arith, true≢false}
use Rattle.std.specs.List.{list_all, position_or_len}
use Rattle.std.proofs.lemmas.Bool.{and_parts, cases_Bool, cond-true}
use Rattle.std.proofs.lemmas.Bool.Decides.{nat_tests}
use Rattle.std.proofs.lemmas.List.{take-append-drop, length-append}
use Rattle.std.proofs.lemmas.List.Quantifiers.{position-Some}
use Rattle.std.proofs.lemmas.Map.Views.{exact_unsigned_eq}
use Rattle.std.proofs.lemmas.Option.{IfSome_then}
use Rattle.std.proofs.Math.Seq.{drop-cons}
use denote.Ref.{Bor}
use Rattle.kp_base.specs.Dotted.{split_once}
use Rattle.kp_rule_text.specs.WordReading.{strip}

-- what is kept by a test
pub if_kept : {A : Type 0} (P : A → Type 0) (b : Bool) (o : Option A) → (b ≡ true → IfSome o P) → IfSome (cond b o None) P
if_kept P true o f = f refl
if_kept P false o f = tt

-- what is stripped stands at the front
pub strip_is : (p text : List ℕ) → IfSome (strip p text) (λ rest. text ≡ p ++ rest)
strip_is [] text = refl
strip_is (p ∷ ps) [] = tt
strip_is (p ∷ ps) (b ∷ bs) = if_kept (λ rest. b ∷ bs ≡ p ∷ (ps ++ rest)) (b == p) (strip ps bs) (λ e. IfSome_then (strip ps bs) (strip_is ps bs) (λ rest h i. exact_unsigned_eq b p e i ∷ h i))

same_byte : (b : ℕ) → (b == b) ≡ true
same_byte b = grind (arith, nat_tests)

-- a text at the front is stripped
pub strip_front : (p rest : List ℕ) → strip p (p ++ rest) ≡ Some rest
strip_front [] rest = refl
strip_front (p ∷ ps) rest = cond-true (p == p) (strip ps (ps ++ rest)) None (same_byte p) ∙ strip_front ps rest

none_stripped : (p text : List ℕ) (o : Option (List ℕ)) → IfSome o (λ rest. text ≡ p ++ rest) → ((rest : List ℕ) → text ≢ p ++ rest) → None ≡ o
none_stripped p text None i n = refl
none_stripped p text (Some rest) i n = absurd (n rest i)

-- what std strips
pub stripped : (text p : List ℕ) (r : Option (Bor (List ℕ))) → MatchOption r ((rest : List ℕ) → text ≢ p ++ rest) (λ x. text ≡ p ++ x.now) → option_map (λ x. x.now) r ≡ strip p text
stripped text p None h = none_stripped p text (strip p text) (strip_is p text) h
stripped text p (Some x) h = sym (ap (strip p) h ∙ strip_front p x.now)

-- ---- at a byte

at_place : (b : ℕ) (text : List ℕ) (o : Option ℕ) → position (λ x. x == b) text ≡ o → IfSome {T = List ℕ × List ℕ} (option_map (λ (i : ℕ). (take i text, drop (i + 1) text)) o) (λ p. text ≡ p.0 ++ b ∷ p.1)
at_place b text None e = tt
at_place b text (Some i) e =
    let found = position-Some (λ x. x == b) text i 0 e in
    let next : suc i ≡ i + 1 = omega arith in
    let same : get_or text i 0 ≡ b = exact_unsigned_eq (get_or text i 0) b found.1 in
    sym (take-append-drop i text)
    ∙ ap (λ l. take i text ++ l) (drop-cons text i 0 found.0 ∙ (λ j. same j ∷ drop (next j) text))

-- the two sides of a cut are the text
pub cut_is : (b : ℕ) (text : List ℕ) → IfSome {T = List ℕ × List ℕ} (split_once b text) (λ p. text ≡ p.0 ++ b ∷ p.1)
cut_is b text = at_place b text (position (λ x. x == b) text) refl

-- a byte that fails a test that all bytes of a front pass is none of them
not_of_front : (test : ℕ → Bool) (b x : ℕ) → test b ≡ false → test x ≡ true → (x == b) ≡ false
not_of_front test b x fails passes =
    elim (cases_Bool (x == b)) [
      | inl same ↦ absurd (true≢false (sym passes ∙ ap test (exact_unsigned_eq x b same) ∙ fails))
      | inr other ↦ other
    ]

first_place : (test : ℕ → Bool) (b : ℕ) → test b ≡ false → (front rest : List ℕ) → list_all test front ≡ true → position_or_len (λ x. x == b) (front ++ b ∷ rest) ≡ length front
first_place test b fails [] rest all = ap (λ t. cond (not t) (1 + position_or_len (λ x. x == b) rest) 0) (same_byte b)
first_place test b fails (x ∷ xs) rest all =
    let both = and_parts _ _ all in
    ap (λ t. cond (not t) (1 + position_or_len (λ x. x == b) (xs ++ b ∷ rest)) 0) (not_of_front test b x fails both.0)
    ∙ ap (λ n. 1 + n) (first_place test b fails xs rest both.1)
    ∙ omega arith

take_front : (front rest : List ℕ) → take (length front) (front ++ rest) ≡ front
take_front [] rest = refl
take_front (x ∷ xs) rest = ap (λ l. x ∷ l) (take_front xs rest)

drop_front : (front : List ℕ) (b : ℕ) (rest : List ℕ) → drop (suc (length front)) (front ++ b ∷ rest) ≡ rest
drop_front [] b rest = refl
drop_front (x ∷ xs) b rest = drop_front xs b rest

-- a cut at the first byte that fails a test
pub cut_front : (test : ℕ → Bool) (b : ℕ) → test b ≡ false → (front rest : List ℕ) → list_all test front ≡ true → split_once b (front ++ b ∷ rest) ≡ Some (front, rest)
cut_front test b fails front rest all =
    let text = front ++ b ∷ rest in
    let at = first_place test b fails front rest all in
    let longer : length text ≡ length front + suc (length rest) = length-append front (b ∷ rest) in
    let within : nat_lt (position_or_len (λ x. x == b) text) (length text) ≡ true = grind (arith, nat_tests, at, longer) in
    let next : length front + 1 ≡ suc (length front) = omega arith in
    ap (option_map (λ (i : ℕ). (take i text, drop (i + 1) text)))
    (cond-true (nat_lt (position_or_len (λ x. x == b) text) (length text)) (Some (position_or_len (λ x. x == b) text)) None within ∙ ap Some at)
    ∙ (λ i. Some (take_front front (b ∷ rest) i, (ap (λ k. drop k text) next ∙ drop_front front b rest) i))
