-- The edits of places in order, one after another, are the changes of a table.
use Rattle.std.proofs.Common.{◌≡◌, Bool, true, false, cond, List, [], ◌∷◌, ◌++◌, map, filter, Option, Some, None, Result, Ok, Err, refl, sym, ap, ◌∙◌, append_assoc}
use Rattle.std.specs.FinMap.{entries, keys, get}
use Rattle.std.specs.List.{filter_map, cons_option, AllByRecursion}
use Rattle.std.specs.Option.{option_to_list}
use Rattle.std.specs.Result.{OnOk}
use denote.Ref.{Bor}
use Rattle.std.proofs.lemmas.List.Elements.{filter_map-append}
use Rattle.std.proofs.lemmas.List.{map-append}
use Rattle.kp_types.specs.declared.chain.TableName.{TableName}
use Rattle.kp_types.specs.declared.chain.ChainAt.{ChainAt}
use Rattle.kp_types.specs.declared.rule.Rule.{Rule}
use Rattle.kp_types.specs.declared.rule.Edit.{Edit}
use Rattle.kp_types.proofs.ChainOrder.{chain_total}
use Rattle.kp_table_defs.specs.Rebuild.{Chains}
use Rattle.kp_table_defs.specs.Edits.{write_if_changed, remove_if_gone, chains_in, table_changes}
use Rattle.kp_rules.specs.Changes.{is_in, write_at, remove_at, write_if_found}
use Rattle.kp_lemmas.proofs.ListFacts.{all_weaker, only_option}
use Rattle.kp_lemmas.proofs.Entries.{entries_found}

-- chains, as their entries
abbrev pub Entries : Type 0
Entries = List (ChainAt × List Rule)

-- ---- answers

pub on_ok : {X E : Type 0} (r : Result X E) (P Q : Type 0) → (P → Q) → OnOk r P → OnOk r Q
on_ok (Ok x) P Q f h = f h
on_ok (Err e) P Q f h = h

-- ---- lists of places

-- what was added for the places so far and for one more
pub added_more : (h : ChainAt → Option Edit) (start made more : List Edit) (ps : List (Bor ChainAt)) (at : Bor ChainAt)
    → made ≡ start ++ filter_map h (map (λ p. p.now) ps) → more ≡ made ++ option_to_list (h at.now)
    → more ≡ start ++ filter_map h (map (λ p. p.now) (ps ++ at ∷ []))
added_more h start made more ps at e m =
    let before = map (λ (p : Bor ChainAt). p.now) ps in
    m ∙ (ap (λ es. es ++ option_to_list (h at.now)) e ∙ (append_assoc start (filter_map h before) (option_to_list (h at.now))
    ∙ ap (λ es. start ++ es) (ap (λ es. filter_map h before ++ es) (sym (only_option (h at.now)))
    ∙ (sym (filter_map-append h before (at.now ∷ [])) ∙ ap (filter_map h) (sym (map-append (λ (p : Bor ChainAt). p.now) ps (at ∷ [])))))))

-- ---- entries by their keys

filtered : {Y : Type 0} (f : ChainAt × List Rule → Option Y) (b : Bool) (e : ChainAt × List Rule) (es : Entries) → cons_option (cond b (f e) None) (filter_map f es) ≡ filter_map f (cond b (e ∷ es) es)
filtered f true e es = refl
filtered f false e es = refl

-- a map over the keys that is one over the entries that pass a test
by_keys : {Y : Type 0} (f : ChainAt × List Rule → Option Y) (test : ChainAt × List Rule → Bool) (g : ChainAt → Option Y) (es : Entries)
    → AllByRecursion (λ e. g e.0 ≡ cond (test e) (f e) None) es → filter_map g (map (λ e. e.0) es) ≡ filter_map f (filter test es)
by_keys f test g [] h = refl
by_keys f test g (e ∷ es) h = (λ i. cons_option (h.0 i) (by_keys f test g es h.1 i)) ∙ filtered f (test e) e (filter test es)

-- ---- the changes of a table

writes : (before after : Chains) (table : TableName) → filter_map (write_at before after table) (keys after) ≡ filter_map (write_if_changed before) (chains_in table after)
writes before after table =
    by_keys (write_if_changed before) (λ e. is_in table e.0) (write_at before after table) (entries after)
    (all_weaker (λ e. get after e.0 ≡ Some e.1) (λ e. write_at before after table e.0 ≡ cond (is_in table e.0) (write_if_changed before e) None)
    (λ e h. ap (λ o. cond (is_in table e.0) (write_if_found before e.0 o) None) h) (entries after) (entries_found chain_total after))

all_of : (P : ChainAt × List Rule → Type 0) → ((e : ChainAt × List Rule) → P e) → (es : Entries) → AllByRecursion P es
all_of P h [] = tt
all_of P h (e ∷ es) = (h e, all_of P h es)

removes : (before after : Chains) (table : TableName) → filter_map (remove_at after table) (keys before) ≡ filter_map (remove_if_gone after) (chains_in table before)
removes before after table =
    by_keys (remove_if_gone after) (λ e. is_in table e.0) (remove_at after table) (entries before)
    (all_of (λ e. remove_at after table e.0 ≡ cond (is_in table e.0) (remove_if_gone after e) None) (λ e. refl) (entries before))

-- what was added for a table's places, after and before
pub added_changes : (before after : Chains) (table : TableName) (start between all : List Edit)
    → between ≡ start ++ filter_map (write_at before after table) (keys after)
    → all ≡ between ++ filter_map (remove_at after table) (keys before)
    → all ≡ start ++ table_changes before after table
added_changes before after table start between all w r =
    r ∙ (ap (λ es. es ++ filter_map (remove_at after table) (keys before)) w
    ∙ (append_assoc start (filter_map (write_at before after table) (keys after)) (filter_map (remove_at after table) (keys before))
    ∙ (λ i. start ++ (writes before after table i ++ removes before after table i))))
