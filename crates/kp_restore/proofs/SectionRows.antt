-- Names of a section's chains, and rows of which one changes.
use Rattle.std.proofs.Common.{◌≡◌, ℕ, Bool, true, false, not, ◌&&◌, ◌||◌, List, [], ◌∷◌, ◌++◌, map, Option, Some, None, is_some, cond, bytes_eq, refl, sym, ap, ◌∙◌}
use Rattle.std.specs.List.{list_all, list_any}
use Rattle.std.specs.Ordering.{is_lt, match_ordering}
use Rattle.std.specs.FinMap.{find, get, get-empty}
use Rattle.std.specs.Cmp.Lexicographic.{nat_list_cmp_total, nat_list_eq_equiv}
use Rattle.std.proofs.lemmas.Bool.{and_parts, and_from, both_ways, false_from_ne_true, false≢true, not-true, or_from, or_left, or_right}
use Rattle.std.proofs.lemmas.List.Folds.{list_any-append}
use Rattle.kp_base.specs.Keys.{text_cmp}
use Rattle.kp_base.proofs.SameParts.{text_test_exact}
use Rattle.kp_types.specs.Chains.{is_chain_name}
use Rattle.kp_types.specs.Places.{chain_cmp}
use Rattle.kp_types.specs.declared.chain.TableName.{TableName}
use Rattle.kp_types.specs.declared.chain.TableName.TheVariants.{Nat, Filter, Nat6, Filter6}
use Rattle.kp_types.specs.declared.rule.Rule.{Rule}
use Rattle.kp_types.specs.declared.rule.Target.{Target}
use Rattle.kp_types.specs.declared.rule.Target.TheVariants as target
use Rattle.kp_table_defs.specs.Ranks.{is_built_in}
use Rattle.kp_table_defs.specs.Rebuild.{Chains, TableParts}
use Rattle.kp_restore_defs.specs.TableText.{jumps_to_declared}
use Rattle.kp_restore.specs.Sections.{declared_part, is_behind, jumps_among, jumps_in, may_follow, names_of, names_stand, owed}
use Rattle.kp_restore.specs.Steps.{known, may_jump, no_chains}
use Rattle.kp_restore.specs.declared.section.Form.{Form}
use Rattle.kp_restore.specs.declared.section.Form.TheVariants.{Whole, Changes}
use Rattle.kp_restore.specs.declared.line.Line.TheVariants as line
use Rattle.kp_restore.specs.declared.section.Row.{Row}
use Rattle.kp_restore.proofs.Rows.{at, distinct, get_put}
use Rattle.kp_lemmas.proofs.Entries.{put_keys}
use Rattle.kp_lemmas.proofs.ListFacts.{test_always, test_weaker}
use Rattle.kp_lemmas.proofs.Orders.{less_from_test, less_through, lesser_text_differs}
use Rattle.kp_object_defs.specs.Order.{distinct_in_order, in_order, rises}
use Rattle.kp_object_defs.proofs.InOrder.{same_order}
use Rattle.kp_base.proofs.KeyOrder.{text_exact}
use Rattle.std.specs.BTreeSet.{insert_key}
use Rattle.std.proofs.lemmas.Map.Text.{is_eq-slice_cmp}

-- ---- Rows

pub all_swap : (p : Row → Bool) (before : List Row) (a b : Row) (behind : List Row) → list_all p (before ++ a ∷ behind) ≡ true → p b ≡ true → list_all p (before ++ b ∷ behind) ≡ true
all_swap p [] a b behind h k = and_from _ _ k (and_parts _ _ h).1
all_swap p (r ∷ before) a b behind h k = let l = and_parts _ _ h in and_from _ _ l.0 (all_swap p before a b behind l.1 k)

pub all_at : (p : Row → Bool) (before : List Row) (a : Row) (behind : List Row) → list_all p (before ++ a ∷ behind) ≡ true → p a ≡ true
all_at p [] a behind h = (and_parts _ _ h).0
all_at p (r ∷ before) a behind h = all_at p before a behind (and_parts _ _ h).1

-- a row of the same name in place of another
pub names_swap : (before : List Row) (a b : Row) (behind : List Row) → b.chain ≡ a.chain → names_of (before ++ b ∷ behind) ≡ names_of (before ++ a ∷ behind)
names_swap [] a b behind e = ap (λ n. n ∷ names_of behind) e
names_swap (r ∷ before) a b behind e = ap (λ ns. r.chain ∷ ns) (names_swap before a b behind e)

-- ---- Names

-- a name among names that fail where it passes
not_among : (p : List ℕ → Bool) (name : List ℕ) (ns : List (List ℕ)) → p name ≡ true → list_all (λ n. not (p n)) ns ≡ true → list_any (bytes_eq name) ns ≡ false
not_among p name [] h a = refl
not_among p name (n ∷ ns) h a =
    let q = and_parts _ _ a in
    let other : bytes_eq name n ≡ false = false_from_ne_true _ (λ e. both_ways (p n) (not-true _ q.0) (sym (ap p (text_test_exact name n e)) ∙ h)) in
    or_from _ _ other (not_among p name ns h q.1)

none_alike : (n : List ℕ) (ms : List (List ℕ)) → list_all (λ m. is_lt (text_cmp n m)) ms ≡ true → list_any (bytes_eq n) ms ≡ false
none_alike n [] h = refl
none_alike n (m ∷ ms) h = let p = and_parts _ _ h in λ i. lesser_text_differs n m p.0 i || none_alike n ms p.1 i

rising_distinct : (ns : List (List ℕ)) → rises text_cmp ns ≡ true → distinct ns ≡ true
rising_distinct [] h = refl
rising_distinct (n ∷ ns) h = let p = and_parts _ _ h in λ i. not (none_alike n ns p.0 i) && rising_distinct ns p.1 i

distinct_append : (ns ms : List (List ℕ)) → distinct ns ≡ true → distinct ms ≡ true → list_all (λ n. not (list_any (bytes_eq n) ms)) ns ≡ true → distinct (ns ++ ms) ≡ true
distinct_append [] ms g h f = h
distinct_append (n ∷ ns) ms g h f =
    let p = and_parts _ _ g in
    let q = and_parts _ _ f in
    λ i. not ((list_any-append (bytes_eq n) ns ms ∙ or_from _ _ (not-true _ p.0) (not-true _ q.0)) i) && distinct_append ns ms p.1 h q.1 i

-- an element that is looked up among names
found : (ns : List (List ℕ)) (q : List ℕ) → find text_cmp q (map (λ n. (n, n)) ns) ≡ cond (list_any (bytes_eq q) ns) (Some q) None
found [] q = refl
found (n ∷ ns) q =
    (λ i. cond (is_eq-slice_cmp q n i) (Some n) (found ns q i))
    ∙ elim (bytes_eq q n) as (λ b. bytes_eq q n ≡ b → cond b (Some n) (cond (list_any (bytes_eq q) ns) (Some q) None) ≡ cond (b || list_any (bytes_eq q) ns) (Some q) None) [
      | true ↦ λ e. ap Some (sym (text_test_exact q n e))
      | false ↦ λ e. refl
    ] refl

-- the same names give one list
pub same_names : (ns ms : List (List ℕ)) → ((q : List ℕ) → list_any (bytes_eq q) ns ≡ list_any (bytes_eq q) ms) → distinct_in_order text_cmp ns ≡ distinct_in_order text_cmp ms
same_names ns ms h =
    ap (map (λ e. e.0)) (same_order nat_list_cmp_total text_exact (map (λ n. (n, n)) ns) (map (λ n. (n, n)) ms)
    (λ q. found ns q ∙ ap (λ b. cond b (Some q) None) (h q) ∙ sym (found ms q)))

in_front : (n : List ℕ) (ns : List (List ℕ)) → list_all (λ m. is_lt (text_cmp n m)) ns ≡ true → insert_key text_cmp ns n ≡ n ∷ ns
in_front n [] h = refl
in_front n (m ∷ ns) h = ap (λ o. match_ordering o (n ∷ m ∷ ns) (m ∷ ns) (m ∷ insert_key text_cmp ns n)) (less_from_test (text_cmp n m) (and_parts _ _ h).0)

-- and those that rise are that list
pub in_place : (ns : List (List ℕ)) → rises text_cmp ns ≡ true → distinct_in_order text_cmp ns ≡ ns
in_place [] h = refl
in_place (n ∷ ns) h =
    let k = and_parts _ _ h in
    put_keys text_cmp n n (in_order text_cmp (map (λ m. (m, m)) ns)) ∙ ap (λ ms. insert_key text_cmp ms n) (in_place ns k.1) ∙ in_front n ns k.0

-- ---- Names that stand behind those that are owed

-- they aren't built in, and stand by their bytes
pub record AreOthers (t : TableName) (ns : List (List ℕ)) : Type 0 where
  pub apart : list_all (λ n. not (is_built_in t n)) ns ≡ true
  pub rises : rises text_cmp ns ≡ true

above : (t : TableName) (l : List ℕ) → is_built_in t l ≡ false → (ns : List (List ℕ)) → names_stand t [] (Some l) ns ≡ true → list_all (λ m. is_lt (text_cmp l m)) ns ≡ true
above t l b [] h = refl
above t l b (n ∷ ns) h =
    let p = and_parts (may_follow t (Some l) n) (names_stand t [] (Some n) ns) h in
    let q = and_parts (not (is_built_in t n)) (is_behind t (Some l) n) p.0 in
    let less : is_lt (text_cmp l n) ≡ true = ap (λ c. c || is_lt (text_cmp l n)) (sym b) ∙ q.1 in
    and_from _ _ less
    (test_weaker (λ m. is_lt (text_cmp n m)) (λ m. is_lt (text_cmp l m)) (λ m k. less_through nat_list_cmp_total l n m less k) ns (above t n (not-true _ q.0) ns p.1))

pub others_stand : (t : TableName) (last : Option (List ℕ)) (ns : List (List ℕ)) → names_stand t [] last ns ≡ true → AreOthers t ns
others_stand t last [] h = record { apart = refl; rises = refl }
others_stand t last (n ∷ ns) h =
    let p = and_parts (may_follow t last n) (names_stand t [] (Some n) ns) h in
    let q = and_parts (not (is_built_in t n)) (is_behind t last n) p.0 in
    let r = others_stand t (Some n) ns p.1 in
    record { apart = and_from _ _ q.0 r.apart; rises = and_from _ _ (above t n (not-true _ q.0) ns p.1) r.rises }

stand_others : (t : TableName) (last : Option (List ℕ)) (ns : List (List ℕ)) → list_all (λ n. not (is_built_in t n)) ns ≡ true → rises text_cmp ns ≡ true → list_all (is_behind t last) ns ≡ true → names_stand t [] last ns ≡ true
stand_others t last [] a r b = refl
stand_others t last (n ∷ ns) a r b =
    let k = and_parts _ _ a in
    let l = and_parts _ _ r in
    and_from _ _ (and_from _ _ k.0 (and_parts _ _ b).0)
    (stand_others t (Some n) ns k.1 l.1 (test_weaker (λ m. is_lt (text_cmp n m)) (is_behind t (Some n)) (λ m less. or_right (is_built_in t n) _ less) ns l.0))

-- nothing is asked of a name behind such a one
abbrev is_free : TableName → Option (List ℕ) → Bool
is_free t None = true
is_free t (Some last) = is_built_in t last

free_behind : (t : TableName) (last : Option (List ℕ)) → is_free t last ≡ true → (n : List ℕ) → is_behind t last n ≡ true
free_behind t None f n = refl
free_behind t (Some last) f n = or_left (is_built_in t last) (is_lt (text_cmp last n)) f

-- those that are owed, and others behind them
pub stand_join : (t : TableName) (owed : List (List ℕ)) (last : Option (List ℕ)) (os : List (List ℕ)) → list_all (is_built_in t) owed ≡ true → is_free t last ≡ true → AreOthers t os → names_stand t owed last (owed ++ os) ≡ true
stand_join t [] last os b f o = stand_others t last os o.apart o.rises (test_always (is_behind t last) (free_behind t last f) os)
stand_join t (n ∷ owed) last os b f o = and_from _ _ (nat_list_eq_equiv.refl n) (stand_join t owed (Some n) os (and_parts _ _ b).1 (and_parts _ _ b).0 o)

pub stand_split : (t : TableName) (owed : List (List ℕ)) (last : Option (List ℕ)) (ns : List (List ℕ)) → names_stand t owed last ns ≡ true → (os : List (List ℕ)) × (ns ≡ owed ++ os) × AreOthers t os
stand_split t [] last ns h = (ns, refl, others_stand t last ns h)
stand_split t (o ∷ owed) last [] h = absurd (false≢true h)
stand_split t (o ∷ owed) last (n ∷ ns) h =
    let p = and_parts (bytes_eq n o) (names_stand t owed (Some n) ns) h in
    let r = stand_split t owed (Some n) ns p.1 in
    (r.0, λ i. text_test_exact n o p.0 i ∷ r.1 i, r.2)

pub owed_built_in : (form : Form) (t : TableName) → list_all (is_built_in t) (owed form t) ≡ true
owed_built_in Changes t = refl
owed_built_in Whole t = elim t as (λ t. list_all (is_built_in t) (owed Whole t) ≡ true) [ Nat ↦ refl | Filter ↦ refl | Nat6 ↦ refl | Filter6 ↦ refl ]

pub owed_named : (form : Form) (t : TableName) → list_all is_chain_name (owed form t) ≡ true
owed_named Changes t = refl
owed_named Whole t = elim t as (λ t. list_all is_chain_name (owed Whole t) ≡ true) [ Nat ↦ refl | Filter ↦ refl | Nat6 ↦ refl | Filter6 ↦ refl ]

built_in_distinct : (form : Form) (t : TableName) → distinct (owed form t) ≡ true
built_in_distinct Changes t = refl
built_in_distinct Whole t = elim t as (λ t. distinct (owed Whole t) ≡ true) [ Nat ↦ refl | Filter ↦ refl | Nat6 ↦ refl | Filter6 ↦ refl ]

pub stand_distinct : (form : Form) (t : TableName) (ns : List (List ℕ)) → names_stand t (owed form t) None ns ≡ true → distinct ns ≡ true
stand_distinct form t ns h =
    let s = stand_split t (owed form t) None ns h in
    ap distinct s.1
    ∙ distinct_append (owed form t) s.0 (built_in_distinct form t) (rising_distinct s.0 s.2.rises)
    (test_weaker (is_built_in t) (λ n. not (list_any (bytes_eq n) s.0)) (λ n b. ap not (not_among (is_built_in t) n s.0 b s.2.apart)) (owed form t) (owed_built_in form t))

-- names that stand, and are the same, stand alike
pub stand_alike : (form : Form) (t : TableName) (ns ms : List (List ℕ)) → names_stand t (owed form t) None ns ≡ true → names_stand t (owed form t) None ms ≡ true
    → ((q : List ℕ) → list_any (bytes_eq q) ns ≡ list_any (bytes_eq q) ms) → ns ≡ ms
stand_alike form t ns ms g h same =
    let first = owed form t in
    let (os, is, o) = stand_split t first None ns g in
    let (ps, are, p) = stand_split t first None ms h in
    let alike : (q : List ℕ) (b : Bool) → list_any (bytes_eq q) first ≡ b → list_any (bytes_eq q) os ≡ list_any (bytes_eq q) ps = λ q b.
    elim b as (λ b. list_any (bytes_eq q) first ≡ b → list_any (bytes_eq q) os ≡ list_any (bytes_eq q) ps) [
      | true ↦ λ e. let built : is_built_in t q ≡ true = from_owed form t q e in not_among (is_built_in t) q os built o.apart ∙ sym (not_among (is_built_in t) q ps built p.apart)
      | false ↦ λ e.
          ap (λ b. b || list_any (bytes_eq q) os) (sym e) ∙ sym (list_any-append (bytes_eq q) first os) ∙ ap (list_any (bytes_eq q)) (sym is) ∙ same q
          ∙ ap (list_any (bytes_eq q)) are ∙ list_any-append (bytes_eq q) first ps ∙ ap (λ b. b || list_any (bytes_eq q) ps) e
    ] in
    is ∙ ap (λ l. first ++ l) (sym (in_place os o.rises) ∙ same_names os ps (λ q. alike q (list_any (bytes_eq q) first) refl) ∙ in_place ps p.rises) ∙ sym are
  where
    from_owed : (form : Form) (t : TableName) (q : List ℕ) → list_any (bytes_eq q) (owed form t) ≡ true → is_built_in t q ≡ true
    from_owed Whole t q e = e
    from_owed Changes t q e = absurd (false≢true e)

-- names of which all are built in, or none is
pub told_as : (t : TableName) (b : Bool) (ns : List (List ℕ)) → list_all (λ n. cond b (is_built_in t n) (not (is_built_in t n))) ns ≡ true → map (declared_part t) ns ≡ map (λ n. cond b (line.BuiltIn n) (line.Declared n)) ns
told_as t b [] h = refl
told_as t b (n ∷ ns) h =
    let k = and_parts (cond b (is_built_in t n) (not (is_built_in t n))) (list_all (λ n. cond b (is_built_in t n) (not (is_built_in t n))) ns) h in
    λ i. cond (is b k.0 i) (line.BuiltIn n) (line.Declared n) ∷ told_as t b ns k.1 i
  where
    is : (b : Bool) → cond b (is_built_in t n) (not (is_built_in t n)) ≡ true → is_built_in t n ≡ b
    is true e = e
    is false e = not-true (is_built_in t n) e

-- ---- The chains that a jump may go to

-- whole tables know the names that are declared
abbrev pub Knows : Form → TableName → TableParts → List (List ℕ) → Type 0
Knows Whole t d names = (c : List ℕ) → is_some (get d.chains (at t c)) ≡ list_any (bytes_eq c) names
Knows Changes t d names = Unit {0}

pub knows_none : (form : Form) (t : TableName) → Knows form t no_chains []
knows_none Whole t = λ c. ap is_some (get-empty chain_cmp (at t c))
knows_none Changes t = tt

pub knows_more : (form : Form) (t : TableName) (d : TableParts) (names : List (List ℕ)) (n : List ℕ) → Knows form t d names → Knows form t (known form t n d) (names ++ n ∷ [])
knows_more Changes t d names n k = tt
knows_more Whole t d names n k = λ c.
    ap is_some (get_put d t n [] c)
    ∙ elim (bytes_eq c n) as (λ b. is_some (cond b (Some []) (get d.chains (at t c))) ≡ (list_any (bytes_eq c) names || (b || false))) [
      | true ↦ sym (or_right (list_any (bytes_eq c) names) true refl)
      | false ↦ k c ∙ elim (list_any (bytes_eq c) names) as (λ b. b ≡ (b || false)) [ true ↦ refl | false ↦ refl ]
    ]
    ∙ sym (list_any-append (bytes_eq c) names (n ∷ []))

pub jumps_same : (chains : Chains) (t : TableName) (names : List (List ℕ)) → ((c : List ℕ) → is_some (get chains (at t c)) ≡ list_any (bytes_eq c) names) → (to : Target) → jumps_to_declared chains t to ≡ jumps_among names to
jumps_same chains t names k (target.Jump c) = k c
jumps_same chains t names k to = refl

pub jumps_known : (form : Form) (t : TableName) (d : TableParts) (names : List (List ℕ)) → Knows form t d names → (rule : Rule) → may_jump form d t rule ≡ jumps_in form names rule
jumps_known Whole t d names k rule = jumps_same d.chains t names k rule.target
jumps_known Changes t d names k rule = refl
