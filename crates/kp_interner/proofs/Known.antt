-- What a look-up of a text finds.
use Rattle.std.proofs.Common.{◌≡◌, ℕ, List, Bor, Option, None, Some, sym, subst}
use Rattle.std.specs.Option.{IfSome, option_copied}

-- what is lent is a text of which the look-up says so
pub lent_same :
    (r : Option (Bor (List ℕ))) (found : Option (List ℕ)) (text : List ℕ) →
    option_copied r ≡ found → IfSome found (λ t. t ≡ text) → IfSome r (λ t. t.now ≡ text)
lent_same None found text is same = tt
lent_same (Some t) found text is same = subst (λ f. IfSome f (λ x. x ≡ text)) (sym is) same
