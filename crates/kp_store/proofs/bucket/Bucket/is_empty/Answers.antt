use Rattle.std.proofs.Common.{◌==◌, true≢false, length, sym, ap, ◌∙◌}
use Rattle.kp_store.specs.Indexes.{with_keys}
use Rattle.std.proofs.lemmas.Bool.{eqb-true}
use Rattle.std.proofs.lemmas.List.{nil_from_length}
use Rattle.kp_store.proofs.Filled.{none_listed}
use Rattle.kp_store.proofs.bucket.Bucket.is_empty.Goals as goal

pub returns-then-is_empty : goal.returns-then-is_empty
returns-then-is_empty c =
    let many = c.self.inside.many in
    let few = nil_from_length c.self.inside.few.items (eqb-true _ _ (ap (λ ks. length ks == 0) (sym c.as_slice.ensures.value) ∙ sym c.is_empty.ensures ∙ c.if-is_empty.true)) in (
      (λ is. sym c.self.view_is ∙ ap (λ ks. with_keys ks many) few ∙ c.is_empty-then-is_empty.ensures.0 is),
      (λ none. c.is_empty-then-is_empty.ensures.1 (ap (λ ks. with_keys ks many) (sym few) ∙ c.self.view_is ∙ none)),
    )

pub returns-else-is_empty : goal.returns-else-is_empty
returns-else-is_empty c = (
  (λ is. absurd (true≢false (sym is ∙ c.if-is_empty.false))),
  (λ none. absurd (true≢false (sym (ap (λ ks. length ks == 0) (c.as_slice.ensures.value ∙ none_listed c.self.inside.few.items c.self.inside.many (c.self.view_is ∙ none))) ∙ sym c.is_empty.ensures ∙ c.if-is_empty.false))),
)
