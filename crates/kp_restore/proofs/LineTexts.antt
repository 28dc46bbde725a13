-- The texts of lines: no line feed stands in one, and different lines have different texts.
use Rattle.std.proofs.Common.{◌≡◌, ◌⊎◌, ℕ, ◌==◌, true, false, cond, List, [], ◌∷◌, ◌++◌, codes, drop, refl, sym, ap, ◌∙◌, inl, inr, arith}
use Rattle.std.specs.List.{list_all}
use Rattle.std.proofs.lemmas.Bool.{and_parts}
use Rattle.std.proofs.lemmas.Bool.Decides.{nat_tests}
use Rattle.kp_base.specs.declared.address.Family.{Family}
use Rattle.kp_base.specs.declared.address.Family.TheVariants.{V4, V6}
use Rattle.kp_types.specs.Chains.{is_chain_byte, is_chain_name}
use Rattle.kp_types.specs.declared.rule.Rule.{Rule}
use Rattle.kp_restore_defs.specs.RuleText.{is_canonical_rule, rule_line}
use Rattle.std.proofs.lemmas.List.{append-nil}
use Rattle.kp_types.specs.Places.{nat_of, filter_of}
use Rattle.kp_types.specs.declared.chain.TableName.{TableName}
use Rattle.kp_types.specs.declared.chain.TableName.TheVariants.{Nat, Filter, Nat6, Filter6}
use Rattle.kp_restore_defs.specs.TableText.{table_line}
use Rattle.kp_restore.specs.declared.line.Line.{Line}
use Rattle.kp_restore.specs.declared.line.Line.TheVariants.{Section, BuiltIn, Declared, Ruled, Removed, Commit}
use Rattle.kp_restore.specs.Lines.{IsFixed, line_text, is_canonical_line}
use Rattle.kp_restore_text.specs.Pieces.{no_line_feed}
use Rattle.kp_rule_text.proofs.Rules.{lines_differ}
use Rattle.kp_restore.proofs.Families.{IsTableOf, which_table}
use Rattle.kp_restore.proofs.RuleLines.{name_plain, no_feed, rule_plain}
use Rattle.kp_lemmas.proofs.ListFacts.{test_append}
use Rattle.kp_types.proofs.ChainBytes.{name_bytes}

-- ---- No line feed

section_plain : (table : TableName) → no_line_feed (table_line table) ≡ true
section_plain table = elim table as (λ t. no_line_feed (table_line t) ≡ true) [ Nat ↦ refl | Filter ↦ refl | Nat6 ↦ refl | Filter6 ↦ refl ]

pub line_plain : (family : Family) (l : Line) → is_canonical_line family l ≡ true → no_line_feed (line_text l) ≡ true
line_plain family (Section table) h = section_plain table
line_plain family (BuiltIn chain) h = test_append no_feed chain (codes " ACCEPT [0:0]") (name_plain chain h) refl
line_plain family (Declared chain) h = test_append no_feed chain (codes " - [0:0]") (name_plain chain h) refl
line_plain family (Ruled chain rule) h = rule_plain family chain rule (and_parts _ _ h).0 (and_parts _ _ h).1
line_plain family (Removed chain) h = name_plain chain h
line_plain family Commit h = refl

-- ---- Different lines

apart : (m n : ℕ) → (m == n) ≡ false → m ≡ n → ⊥
apart m n h e = grind (arith, nat_tests)

-- what stands before the first space, and behind it
cut_at_space : (a b : List ℕ) (x y : List ℕ) → list_all is_chain_byte a ≡ true → list_all is_chain_byte b ≡ true → a ++ 32 ∷ x ≡ b ++ 32 ∷ y → (a ≡ b) × (x ≡ y)
cut_at_space [] [] x y g h e = (refl, cc)
cut_at_space [] (b ∷ bs) x y g h e = let k : 32 ≡ b = cc in absurd (let n = (and_parts _ _ h).0 in let t = ap is_chain_byte k ∙ n in cc)
cut_at_space (a ∷ as') [] x y g h e = let k : a ≡ 32 = cc in absurd (let n = (and_parts _ _ g).0 in let t = ap is_chain_byte (sym k) ∙ n in cc)
cut_at_space (a ∷ as') (b ∷ bs) x y g h e =
    let first : a ≡ b = cc in
    let rest = cut_at_space as' bs x y (and_parts _ _ g).1 (and_parts _ _ h).1 (cc) in
    (λ i. first i ∷ rest.0 i, rest.1)

-- the first byte of a text
first_of_text : List ℕ → ℕ
first_of_text [] = 0
first_of_text (b ∷ bs) = b

-- the second one
second_of_text : List ℕ → ℕ
second_of_text [] = 0
second_of_text (b ∷ bs) = first_of_text bs

-- the first byte that tells lines apart, behind a hyphen the next one; both lines that declare a chain have the same
mark_of_text : List ℕ → ℕ
mark_of_text bytes = cond (first_of_text bytes == 45) (second_of_text bytes) (first_of_text bytes)

mark : Line → ℕ
mark (Section table) = 42
mark (BuiltIn chain) = 58
mark (Declared chain) = 58
mark (Ruled chain rule) = 65
mark (Removed chain) = 88
mark Commit = 67

mark_is : (l : Line) → mark_of_text (line_text l) ≡ mark l
unfolding mark_of_text first_of_text second_of_text mark
mark_is (Section table) = elim table as (λ t. mark_of_text (table_line t) ≡ 42) [ Nat ↦ refl | Filter ↦ refl | Nat6 ↦ refl | Filter6 ↦ refl ]
mark_is (BuiltIn chain) = refl
mark_is (Declared chain) = refl
mark_is (Ruled chain rule) = refl
mark_is (Removed chain) = refl
mark_is Commit = refl

sections_differ : (family : Family) → table_line (nat_of family) ≡ table_line (filter_of family) → ⊥
unfolding second_of_text first_of_text
sections_differ V4 e = apart _ _ refl (ap second_of_text e)
sections_differ V6 e = apart _ _ refl (ap second_of_text e)

-- tables of one family whose lines are one
section_exact : (family : Family) (a b : TableName) → IsTableOf family a → IsTableOf family b → table_line a ≡ table_line b → a ≡ b
section_exact family a b g h e = by (which_table family a g) (which_table family b h)
  where
    by : (a ≡ nat_of family) ⊎ (a ≡ filter_of family) → (b ≡ nat_of family) ⊎ (b ≡ filter_of family) → a ≡ b
    by (inl p) (inl q) = p ∙ sym q
    by (inr p) (inr q) = p ∙ sym q
    by (inl p) (inr q) = absurd (sections_differ family (ap table_line (sym p) ∙ e ∙ ap table_line q))
    by (inr p) (inl q) = absurd (sections_differ family (ap table_line (sym q) ∙ sym e ∙ ap table_line p))

pub line_exact : (family : Family) (l m : Line) → is_canonical_line family l ≡ true → is_canonical_line family m ≡ true → line_text l ≡ line_text m → l ≡ m
unfolding mark first_of_text
line_exact family (Section a) (Section b) g h e = ap (λ t. Section t) (section_exact family a b g h e)
line_exact family (BuiltIn a) (BuiltIn b) g h e = ap (λ n. BuiltIn n) (cut_at_space a b (codes "ACCEPT [0:0]") (codes "ACCEPT [0:0]") (name_bytes a g) (name_bytes b h) (ap (drop 1) e)).0
line_exact family (Declared a) (Declared b) g h e = ap (λ n. Declared n) (cut_at_space a b (codes "- [0:0]") (codes "- [0:0]") (name_bytes a g) (name_bytes b h) (ap (drop 1) e)).0
line_exact family (BuiltIn a) (Declared b) g h e = absurd (apart _ _ refl (ap first_of_text (cut_at_space a b (codes "ACCEPT [0:0]") (codes "- [0:0]") (name_bytes a g) (name_bytes b h) (ap (drop 1) e)).1))
line_exact family (Declared a) (BuiltIn b) g h e = absurd (apart _ _ refl (ap first_of_text (cut_at_space a b (codes "- [0:0]") (codes "ACCEPT [0:0]") (name_bytes a g) (name_bytes b h) (ap (drop 1) e)).1))
line_exact family (Ruled a r) (Ruled b s) g h e =
    let p = and_parts _ _ g in
    let q = and_parts _ _ h in
    let same = lines_differ family a b r s p.0 q.0 p.1 q.1 e in
    λ i. Ruled (same.0 i) (same.1 i)
line_exact family (Removed a) (Removed b) g h e = ap (λ n. Removed n) (ap (drop 3) e)
line_exact family Commit Commit g h e = refl
line_exact family l m g h e = absurd (apart (mark l) (mark m) refl (sym (mark_is l) ∙ ap mark_of_text e ∙ mark_is m))

-- ---- No line

-- no name stands between these texts
abbrev pub NoneBetween : List ℕ → List ℕ → List ℕ → Type 0
NoneBetween bytes front back = (chain : List ℕ) → is_chain_name chain ≡ true → front ++ (chain ++ back) ≡ bytes → ⊥

pub no_line : (family : Family) (bytes : List ℕ) → ((chain : List ℕ) (rule : Rule) → is_chain_name chain ≡ true → is_canonical_rule family rule ≡ true → rule_line chain rule ≡ bytes → ⊥)
    → NoneBetween bytes (codes ":") (codes " - [0:0]") → NoneBetween bytes (codes ":") (codes " ACCEPT [0:0]") → NoneBetween bytes (codes "-X ") []
    → ((l : Line) → IsFixed l → line_text l ≡ bytes → ⊥) → (l : Line) → is_canonical_line family l ≡ true → line_text l ≡ bytes → ⊥
no_line family bytes r d b x f (Section table) h e = f (Section table) tt e
no_line family bytes r d b x f (BuiltIn chain) h e = b chain h e
no_line family bytes r d b x f (Declared chain) h e = d chain h e
no_line family bytes r d b x f (Ruled chain rule) h e = r chain rule (and_parts _ _ h).0 (and_parts _ _ h).1 e
no_line family bytes r d b x f (Removed chain) h e = x chain h (ap (λ n. codes "-X " ++ n) (append-nil chain) ∙ e)
no_line family bytes r d b x f Commit h e = f Commit tt e
