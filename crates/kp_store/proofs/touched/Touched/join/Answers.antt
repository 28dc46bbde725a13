use Rattle.std.proofs.Common.{◌||◌, map, ap, ◌∙◌, Bor}
use Rattle.std.specs.List.{list_any}
use Rattle.std.specs.Ordering.{eq_by_cmp}
use Rattle.std.specs.FinMap as finite
use Rattle.kp_base.specs.Keys.{key_cmp}
use Rattle.kp_base.specs.declared.key.ObjectKey.{ObjectKey}
use Rattle.kp_store.proofs.Adding.{joined, none_lost}
use Rattle.kp_store.proofs.Unions.{among_keys, any_shown}
use Rattle.kp_store.proofs.touched.Touched.join.Goals as goal

pub returns-clause-ok : goal.returns-clause-ok
returns-clause-ok c =
    joined c.args.self.now c.put_all.new.self c.args.others.now (λ k.
    c.in_ok-put_all.ensures.all k
    ∙ ap (λ b. b || finite.contains_key c.args.self.now.keys k)
    (any_shown (λ (q : Bor ObjectKey). q.now) (eq_by_cmp key_cmp k) c.as_slice.result.now
    ∙ ap (list_any (eq_by_cmp key_cmp k))
    (ap (map (λ (q : Bor ObjectKey). q.now)) c.as_slice.ensures.value ∙ c.in_ok-keys.ensures)
    ∙ among_keys c.args.others.now.keys k))

pub returns-in_err-put_all-clause-err : goal.returns-in_err-put_all-clause-err
returns-in_err-put_all-clause-err c =
    none_lost c.args.self.now c.put_all.new.self c.from_residual-in_err-put_all.result
    c.in_err-put_all.ensures.kept
