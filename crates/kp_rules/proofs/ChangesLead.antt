-- The changes from one table to another lead from the first to the second.
use Rattle.std.proofs.Common.{◌≡◌, Bool, true, false, cond, ◌==◌, List, [], ◌∷◌, ◌++◌, filter, fold, Option, Some, None, is_some, ◌⊎◌, inl, inr, refl, sym, ap, ◌∙◌, subst}
use Rattle.std.specs.FinMap.{entries, get, get-insert, get-remove, get-entries, same_map}
use Rattle.std.specs.FinMap.Entries.{find}
use Rattle.std.specs.List.{filter_map, cons_option, AllByRecursion}
use Rattle.std.specs.Ordering.{eq_by_cmp}
use Rattle.std.proofs.lemmas.Bool.{false≢true}
use Rattle.kp_base.specs.declared.address.Family.TheVariants.{V4, V6}
use Rattle.kp_types.specs.Places.{chain_cmp, table_place}
use Rattle.kp_types.specs.declared.chain.TableName.{TableName}
use Rattle.kp_types.specs.declared.chain.TableName.TheVariants.{Nat, Filter, Nat6, Filter6}
use Rattle.kp_types.specs.declared.chain.ChainAt.{ChainAt}
use Rattle.kp_types.specs.declared.rule.Rule.{Rule}
use Rattle.kp_types.specs.declared.rule.Edit.{Edit}
use Rattle.kp_types.specs.declared.rule.Edit.TheVariants.{Write, Remove}
use Rattle.kp_types.specs.contracts.rule.RulePartialEq.TheImpl as same_rule
use Rattle.kp_types.proofs.ChainOrder.{chain_total, chain_exact}
use Rattle.kp_types.proofs.RuleEquality.{lists_exact, rule_exact, rules_equiv}
use Rattle.kp_table_defs.specs.Rebuild.{Chains}
use Rattle.kp_table_defs.specs.Edits.{SameRulesAreEqual, ChangesLeadOver, chains_after_edit, same_rules, is_found_with, write_if_changed, remove_if_gone, chains_in, table_changes, changes_of, changes_between}
use Rattle.kp_lemmas.proofs.ListFacts.{all_weaker, all_append, all_filter}
use Rattle.kp_lemmas.proofs.Entries.{entries_found}
use Rattle.kp_lemmas.proofs.Orders.{one_from_tie, tie_of_itself}

-- ---- rules

pub same_rules_exact : SameRulesAreEqual
same_rules_exact a b = (λ h. lists_exact same_rule.ghosts.eq rule_exact a b h, λ e. subst (λ c. same_rules a c ≡ true) e (rules_equiv.refl a))

-- ---- some element of a list

abbrev pub Some_of : {X : Type 0} → (X → Type 0) → List X → Type 0
Some_of P [] = ⊥
Some_of P (x ∷ xs) = P x ⊎ Some_of P xs

-- ---- edits that are right for a table

-- an edit leaves at its place what the table has there
abbrev IsRight : Chains → Edit → Type 0
IsRight after (Write at rules) = get after at ≡ Some rules
IsRight after (Remove at) = get after at ≡ None

-- an edit is at a place
abbrev IsAt : ChainAt → Edit → Type 0
IsAt q (Write at rules) = at ≡ q
IsAt q (Remove at) = at ≡ q

-- the chain at a place is as the table has it
abbrev Agrees : Chains → ChainAt → Chains → Type 0
Agrees after q m = get m q ≡ get after q

at_write : (after m : Chains) (q at : ChainAt) (rules : List Rule) → get after at ≡ Some rules → (b : Bool) → eq_by_cmp chain_cmp q at ≡ b → Agrees after q m ⊎ (at ≡ q) → cond b (Some rules) (get m q) ≡ get after q
at_write after m q at rules right true t h = sym right ∙ ap (get after) (sym (one_from_tie chain_exact q at t))
at_write after m q at rules right false t (inl h) = h
at_write after m q at rules right false t (inr e) = absurd (false≢true (sym t ∙ ap (eq_by_cmp chain_cmp q) e ∙ tie_of_itself chain_total q))

at_remove : (after m : Chains) (q at : ChainAt) → get after at ≡ None → (b : Bool) → eq_by_cmp chain_cmp q at ≡ b → Agrees after q m ⊎ (at ≡ q) → cond b None (get m q) ≡ get after q
at_remove after m q at right true t h = sym right ∙ ap (get after) (sym (one_from_tie chain_exact q at t))
at_remove after m q at right false t (inl h) = h
at_remove after m q at right false t (inr e) = absurd (false≢true (sym t ∙ ap (eq_by_cmp chain_cmp q) e ∙ tie_of_itself chain_total q))

-- after a right edit at a place, or one elsewhere, the chain there is right
after_edit : (after m : Chains) (q : ChainAt) (e : Edit) → IsRight after e → Agrees after q m ⊎ IsAt q e → Agrees after q (chains_after_edit m e)
after_edit after m q (Write at rules) right h = get-insert chain_total m at rules q ∙ at_write after m q at rules right (eq_by_cmp chain_cmp q at) refl h
after_edit after m q (Remove at) right h = get-remove chain_total m at q ∙ at_remove after m q at right (eq_by_cmp chain_cmp q at) refl h

after_edits : (after m : Chains) (q : ChainAt) (es : List Edit) → AllByRecursion (IsRight after) es → Agrees after q m ⊎ Some_of (IsAt q) es → Agrees after q (fold chains_after_edit m es)
after_edits after m q [] right (inl h) = h
after_edits after m q [] right (inr h) = absurd h
after_edits after m q (e ∷ es) right (inl h) = after_edits after (chains_after_edit m e) q es right.1 (inl (after_edit after m q e right.0 (inl h)))
after_edits after m q (e ∷ es) right (inr (inl h)) = after_edits after (chains_after_edit m e) q es right.1 (inl (after_edit after m q e right.0 (inr h)))
after_edits after m q (e ∷ es) right (inr (inr h)) = after_edits after (chains_after_edit m e) q es right.1 (inr h)

-- ---- all changes are right

-- what holds of a value that is there
abbrev pub In_option : {X : Type 0} → (X → Type 0) → Option X → Type 0
In_option P None = Unit {0}
In_option P (Some x) = P x

all_consed : {Y : Type 0} (P : Y → Type 0) (o : Option Y) (ys : List Y) → In_option P o → AllByRecursion P ys → AllByRecursion P (cons_option o ys)
all_consed P None ys h a = a
all_consed P (Some y) ys h a = (h, a)

pub all_filter_map : {X Y : Type 0} (P : Y → Type 0) (f : X → Option Y) (xs : List X) → AllByRecursion (λ x. In_option P (f x)) xs → AllByRecursion P (filter_map f xs)
all_filter_map P f [] a = tt
all_filter_map P f (x ∷ xs) a = all_consed P (f x) (filter_map f xs) a.0 (all_filter_map P f xs a.1)

write_right : (before after : Chains) (e : ChainAt × List Rule) → get after e.0 ≡ Some e.1 → In_option (IsRight after) (write_if_changed before e)
write_right before after e h = kept (is_found_with e.1 (get before e.0))
  where
    kept : (b : Bool) → In_option (IsRight after) (cond b None (Some (Write e.0 e.1)))
    kept true = tt
    kept false = h

remove_right : (after : Chains) (e : ChainAt × List Rule) → In_option (IsRight after) (remove_if_gone after e)
remove_right after e = kept (get after e.0) refl
  where
    kept : (o : Option (List Rule)) → get after e.0 ≡ o → In_option (IsRight after) (cond (is_some o) None (Some (Remove e.0)))
    kept None h = h
    kept (Some rules) h = tt

table_right : (before after : Chains) (table : TableName) → AllByRecursion (IsRight after) (table_changes before after table)
table_right before after table =
    all_append (IsRight after) _ _
    (all_filter_map (IsRight after) (write_if_changed before) (chains_in table after) (all_filter _ _ (entries after)
    (all_weaker (λ e. get after e.0 ≡ Some e.1) (λ e. In_option (IsRight after) (write_if_changed before e)) (write_right before after) (entries after) (entries_found chain_total after))))
    (all_filter_map (IsRight after) (remove_if_gone after) (chains_in table before) (all_filter _ _ (entries before)
    (all_weaker (λ e. get before e.0 ≡ Some e.1) (λ e. In_option (IsRight after) (remove_if_gone after e)) (λ e h. remove_right after e) (entries before) (entries_found chain_total before))))

all_right : (before after : Chains) → AllByRecursion (IsRight after) (changes_between before after)
all_right before after =
    all_append (IsRight after) _ _
    (all_append (IsRight after) _ _ (table_right before after Nat) (table_right before after Filter))
    (all_append (IsRight after) _ _ (table_right before after Nat6) (table_right before after Filter6))

-- ---- where the tables differ there is a change

some_left : {X : Type 0} (P : X → Type 0) (xs ys : List X) → Some_of P xs → Some_of P (xs ++ ys)
some_left P [] ys h = absurd h
some_left P (x ∷ xs) ys (inl h) = inl h
some_left P (x ∷ xs) ys (inr h) = inr (some_left P xs ys h)

some_right : {X : Type 0} (P : X → Type 0) (xs ys : List X) → Some_of P ys → Some_of P (xs ++ ys)
some_right P [] ys h = h
some_right P (x ∷ xs) ys h = inr (some_right P xs ys h)

-- what a look-up finds is an entry
pub entry_of : (q : ChainAt) (v : List Rule) (es : List (ChainAt × List Rule)) → find chain_cmp q es ≡ Some v → Some_of (λ e. (e.0 ≡ q) × (e.1 ≡ v)) es
entry_of q v [] h = absurd (cc)
entry_of q v (e ∷ es) h = by (eq_by_cmp chain_cmp q e.0) refl h (entry_of q v es)
  where
    by : (b : Bool) → eq_by_cmp chain_cmp q e.0 ≡ b → cond b (Some e.1) (find chain_cmp q es) ≡ Some v → (find chain_cmp q es ≡ Some v → Some_of (λ e. (e.0 ≡ q) × (e.1 ≡ v)) es) → Some_of (λ e. (e.0 ≡ q) × (e.1 ≡ v)) (e ∷ es)
    by true t k rest = inl (sym (one_from_tie chain_exact q e.0 t), cc)
    by false t k rest = inr (rest k)

later : (f : ChainAt × List Rule → Option Edit) (q : ChainAt) (e : ChainAt × List Rule) (es : List (ChainAt × List Rule)) (b : Bool) → Some_of (IsAt q) (filter_map f es) → Some_of (IsAt q) (filter_map f (cond b (e ∷ es) es))
later f q e es false h = h
later f q e es true h = behind (f e)
  where
    behind : (o : Option Edit) → Some_of (IsAt q) (cons_option o (filter_map f es))
    behind None = h
    behind (Some edit) = inr h

-- an entry that passes a test and gives an edit at its place
some_edit : (f : ChainAt × List Rule → Option Edit) (test : ChainAt × List Rule → Bool) (q : ChainAt) (v : List Rule) (edit : Edit) → test (q, v) ≡ true → f (q, v) ≡ Some edit → IsAt q edit
    → (es : List (ChainAt × List Rule)) → Some_of (λ e. (e.0 ≡ q) × (e.1 ≡ v)) es → Some_of (IsAt q) (filter_map f (filter test es))
some_edit f test q v edit t g here [] h = absurd h
some_edit f test q v edit t g here (e ∷ es) (inl h) =
    let rest = filter test es in
    let given : Some_of (IsAt q) (cons_option (f (q, v)) (filter_map f rest)) = subst (λ o. Some_of (IsAt q) (cons_option o (filter_map f rest))) (sym g) (inl here) in
    let kept : Some_of (IsAt q) (filter_map f (cond (test (q, v)) ((q, v) ∷ rest) rest)) = subst (λ b. Some_of (IsAt q) (filter_map f (cond b ((q, v) ∷ rest) rest))) (sym t) given in
    let same : ◌≡◌ {A = ChainAt × List Rule} (q, v) e = λ i. (sym h.0 i, sym h.1 i) in
    subst (λ x. Some_of (IsAt q) (filter_map f (cond (test x) (x ∷ rest) rest))) same kept
some_edit f test q v edit t g here (e ∷ es) (inr h) = later f q e (filter test es) (test e) (some_edit f test q v edit t g here es h)

-- a place is in one of the tables
table_cases : (q : ChainAt) (P : Type 0) → ((table : TableName) → table_place q.table == table_place table ≡ true → P) → P
table_cases q P f = f q.table (one_place q.table)
  where
    one_place : (t : TableName) → table_place t == table_place t ≡ true
    one_place Nat = refl
    one_place Filter = refl
    one_place Nat6 = refl
    one_place Filter6 = refl

in_table : (before after : Chains) (q : ChainAt) (table : TableName) → Some_of (IsAt q) (table_changes before after table) → Some_of (IsAt q) (changes_between before after)
in_table before after q Nat h =
    some_left (IsAt q) (changes_of V4 before after) (changes_of V6 before after)
    (some_left (IsAt q) (table_changes before after Nat) (table_changes before after Filter) h)
in_table before after q Filter h =
    some_left (IsAt q) (changes_of V4 before after) (changes_of V6 before after)
    (some_right (IsAt q) (table_changes before after Nat) (table_changes before after Filter) h)
in_table before after q Nat6 h =
    some_right (IsAt q) (changes_of V4 before after) (changes_of V6 before after)
    (some_left (IsAt q) (table_changes before after Nat6) (table_changes before after Filter6) h)
in_table before after q Filter6 h =
    some_right (IsAt q) (changes_of V4 before after) (changes_of V6 before after)
    (some_right (IsAt q) (table_changes before after Nat6) (table_changes before after Filter6) h)

abbrev Settled : Chains → Chains → ChainAt → Type 0
Settled before after q = Agrees after q before ⊎ Some_of (IsAt q) (changes_between before after)

-- a chain of the second table is the first's, or written
written : (before after : Chains) (q : ChainAt) (table : TableName) → table_place q.table == table_place table ≡ true → (rules : List Rule) → get after q ≡ Some rules → (b : Bool) → is_found_with rules (get before q) ≡ b → Settled before after q
written before after q table t rules h true k = inl (found (get before q) k ∙ sym h)
  where
    found : (o : Option (List Rule)) → is_found_with rules o ≡ true → o ≡ Some rules
    found None k = absurd (false≢true k)
    found (Some old) k = ap Some ((same_rules_exact old rules).0 k)
written before after q table t rules h false k =
    inr (in_table before after q table (some_left (IsAt q) _ (filter_map (remove_if_gone after) (chains_in table before))
    (some_edit (write_if_changed before) _ q rules (Write q rules) t (ap (λ b. cond b None (Some (Write q rules))) k) refl (entries after) (entry_of q rules (entries after) (sym (get-entries after q) ∙ h)))))

-- a chain that the second table lacks is lacking in the first, or removed
removed : (before after : Chains) (q : ChainAt) (table : TableName) → table_place q.table == table_place table ≡ true → get after q ≡ None → (o : Option (List Rule)) → get before q ≡ o → Settled before after q
removed before after q table t h None k = inl (k ∙ sym h)
removed before after q table t h (Some rules) k =
    inr (in_table before after q table (some_right (IsAt q) (filter_map (write_if_changed before) (chains_in table after)) _
    (some_edit (remove_if_gone after) _ q rules (Remove q) t (ap (λ o. cond (is_some o) None (Some (Remove q))) h) refl (entries before) (entry_of q rules (entries before) (sym (get-entries before q) ∙ k)))))

settled : (before after : Chains) (q : ChainAt) → (o : Option (List Rule)) → get after q ≡ o → Settled before after q
settled before after q (Some rules) h = table_cases q _ (λ table t. written before after q table t rules h (is_found_with rules (get before q)) refl)
settled before after q None h = table_cases q _ (λ table t. removed before after q table t h (get before q) refl)

pub changes_lead : ChangesLeadOver
changes_lead before after = same_map chain_total chain_exact _ after (λ q. after_edits after before q (changes_between before after) (all_right before after) (settled before after q (get after q) refl))
