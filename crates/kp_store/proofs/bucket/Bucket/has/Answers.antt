use Rattle.std.proofs.Common.{◌||◌, sym, ap, ◌∙◌}
use Rattle.std.specs.FinMap as finite
use Rattle.kp_base.specs.contracts.key.ObjectKeyPartialEq.TheImpl as key_eq
use Rattle.std.proofs.lemmas.Bool.{or_left}
use Rattle.kp_store.specs.Indexes.{is_among}
use Rattle.kp_store.proofs.KeyLists.{in_bucket}
use Rattle.kp_store.proofs.bucket.Bucket.has.Goals as goal

pub returns-then-is_listed : goal.returns-then-is_listed
returns-then-is_listed c =
    let few = c.self.inside.few.items in
    let many = c.self.inside.many in
    let key = c.args.key.now in
    c.if-is_listed.true
    ∙ sym (or_left (is_among key_eq.ghosts.eq few key) (finite.contains_key many key) (ap (λ ks. is_among key_eq.ghosts.eq ks key) (sym c.as_slice.ensures.value) ∙ sym c.is_listed.ensures ∙ c.if-is_listed.true))
    ∙ in_bucket few many key
    ∙ ap (λ m. finite.contains_key m key) c.self.view_is

pub returns-else-is_listed : goal.returns-else-is_listed
returns-else-is_listed c =
    let few = c.self.inside.few.items in
    let many = c.self.inside.many in
    let key = c.args.key.now in
    c.has.ensures
    ∙ ap (λ b. b || finite.contains_key many key) (sym (ap (λ ks. is_among key_eq.ghosts.eq ks key) (sym c.as_slice.ensures.value) ∙ sym c.is_listed.ensures ∙ c.if-is_listed.false))
    ∙ in_bucket few many key
    ∙ ap (λ m. finite.contains_key m key) c.self.view_is
