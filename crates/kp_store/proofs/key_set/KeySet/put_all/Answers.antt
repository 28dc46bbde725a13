use Rattle.std.proofs.Common.{◌≡◌, ◌||◌, Bool, true, drop, Result, Ok, Err, OnErr, sym, ap, ◌∙◌, Bor, arith}
use Rattle.std.proofs.Math.Bool.{or-true}
use Rattle.std.proofs.Math.Seq.{drop-length}
use Rattle.std.specs.List.{list_any}
use Rattle.std.specs.Ordering.{eq_by_cmp}
use Rattle.std.specs.FinMap as finite
use Rattle.kp_base.specs.Keys.{key_cmp}
use Rattle.kp_base.specs.declared.key.ObjectKey.{ObjectKey}
use Rattle.kp_store.proofs.Buckets.{in_inserted}
use Rattle.kp_store.proofs.Unions.{one_before}
use Rattle.kp_store.proofs.key_set.KeySet.put_all.Goals as goal

pub loop-i-init : goal.loop-i-init
loop-i-init g c = λ k.
    ap (λ names. list_any (λ (q : Bor g.row.K.Denot). eq_by_cmp key_cmp k (g.K.Name.key_of q.now)) names || finite.contains_key c.args.self.now k)
    (sym (drop-length c.args.names.now))

pub loop-i-preserved : goal.loop-i-preserved
loop-i-preserved g c = λ k.
    ap (λ m. finite.contains_key m k) c.in_ok-put.ensures.ok
    ∙ in_inserted c.loop-i.self c.in_ok-key.field-0 k
    ∙ (λ i. eq_by_cmp key_cmp k (c.in_ok-key.ensures i) || c.loop-i.invariant k i)
    ∙ one_before (λ (q : Bor g.row.K.Denot). eq_by_cmp key_cmp k (g.K.Name.key_of q.now)) c.args.names.now c.loop-i.i c.index-names-i.result (finite.contains_key c.args.self.now k) (omega arith) (omega arith) c.index-names-i.is

-- what was there is
still : {T E : Type 0} (r : Result T E) (more old now : ObjectKey → Bool)
    → ((k : ObjectKey) → now k ≡ more k || old k)
    → OnErr r ((k : ObjectKey) → old k ≡ true → now k ≡ true)
still (Ok x) more old now is = tt
still (Err e) more old now is = λ k there. is k ∙ ap (λ b. more k || b) there ∙ or-true (more k)

pub returns-in_err-key-clause-kept : goal.returns-in_err-key-clause-kept
returns-in_err-key-clause-kept g c =
    let some = drop c.loop-i.i c.args.names.now in
    still c.from_residual.result
    (λ k. list_any (λ (q : Bor g.row.K.Denot). eq_by_cmp key_cmp k (g.K.Name.key_of q.now)) some)
    (finite.contains_key c.args.self.now) (finite.contains_key c.loop-i.self)
    c.loop-i.invariant

pub returns-in_err-put-clause-kept : goal.returns-in_err-put-clause-kept
returns-in_err-put-clause-kept g c =
    let some = drop c.loop-i.i c.args.names.now in
    still c.from_residual-in_err-put.result
    (λ k. list_any (λ (q : Bor g.row.K.Denot). eq_by_cmp key_cmp k (g.K.Name.key_of q.now)) some)
    (finite.contains_key c.args.self.now) (finite.contains_key c.put.new.self) (λ k.
    ap (λ m. finite.contains_key m k) c.in_err-put.ensures.err ∙ c.loop-i.invariant k)
