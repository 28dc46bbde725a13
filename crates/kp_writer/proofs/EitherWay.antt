-- What holds whether or not memory was there, and what additions to a block make.
use Rattle.std.proofs.Common.{◌≡◌, List, ◌++◌, append_assoc, filter, Result, Ok, Err, sym, ap, ◌∙◌}
use Rattle.std.proofs.lemmas.List.Elements.{filter-append}
use Rattle.std.specs.Result.{OnOk, OnErr}
use Rattle.kp_types.specs.declared.rule.ChainText.{ChainText}
use Rattle.kp_blocks.specs.Joined.{has_rules}

pub either_way : {X E : Type 0} (r : Result X E) (P Q A B S : Type 0) → OnOk r P → OnOk r Q
    → OnErr r A → OnErr r B → (P → Q → S) → (A → B → S) → S
either_way (Ok x) P Q A B S p q a b f g = f p q
either_way (Err e) P Q A B S p q a b f g = g a b

-- chains with rules that are added to those that were
pub texts_added : (old mid new : List ChainText) (xs ys : List ChainText)
    → mid ≡ old ++ filter has_rules xs → new ≡ mid ++ filter has_rules ys
    → new ≡ old ++ filter has_rules (xs ++ ys)
texts_added old mid new xs ys first second =
    second
    ∙ ap (λ l. l ++ filter has_rules ys) first
    ∙ append_assoc old (filter has_rules xs) (filter has_rules ys)
    ∙ ap (λ l. old ++ l) (sym (filter-append has_rules xs ys))
