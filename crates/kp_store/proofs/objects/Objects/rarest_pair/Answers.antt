use Rattle.std.proofs.Common.{rules, arith, ℕ, ◌≡◌, ◌+◌, ◌≤◌, ◌<◌, ◌-◌, get_or, length, map, sym, ap, subst, ◌∙◌}
use Rattle.std.proofs.lemmas.Grind.{common_steps}
use Rattle.kp_base.specs.declared.key.Pair.{Pair}
use Rattle.kp_object_defs.specs.Objects.{Objects}
use Rattle.kp_store.specs.Rarest.{count_of, counts}
use Rattle.kp_store.specs.Tags.{label_tag}
use Rattle.kp_store.proofs.Rarest.{IsLeastAt, count_next, next_is_first, next_is_less, next_is_more, within}
use Rattle.kp_store.proofs.objects.Objects.rarest_pair.Goals.{then-place-eq0, then-place-eq0-via-then-place-eq0, then-place-eq0-via-else-place-eq0+then-size-fewest, else-place-eq0+else-size-fewest}
use Rattle.kp_store.proofs.objects.Objects.rarest_pair.Goals as goal

pub loop-pair-preserved : goal.loop-pair-preserved
loop-pair-preserved c =
    let l = c.loop-pair in
    let s = c.args.service.now in
    let x = c.pair-item.result in
    let tag = label_tag s.key.namespace in
    let count = λ (pair : Pair). count_of c.args.self.now.pods (tag pair) in
    let sizes = counts c.args.self.now.pods s in
    let i = l.pair-index in
    let last = length s.selector - 1 in
    let here : c.size-size.result ≡ get_or sizes l.place 0 =
    c.size-size.ensures
    ∙ ap (count_of c.self.inside.pods) c.in_ok-label.ensures
    ∙ ap (λ (o : Objects). count_of o.pods (tag x)) c.self.view_is
    ∙ count_next count c.as_slice-pair-items.result.now i x c.loop-pair-test.true c.pair-item.is
    ∙ ap (λ pairs. get_or (map count pairs) i 0) c.as_slice-pair-items.ensures
    ∙ ap (λ n. get_or sizes n 0) (sym l.invariant.0) in
    let less : i < length s.selector =
    subst (λ pairs. i < length pairs) c.as_slice-pair-items.ensures c.loop-pair-test.true in
    let new = c.if-place-eq0 in
    let now : ℕ → ℕ → Type 0 =
    λ rarest fewest. (rarest ≤ last) × IsLeastAt sizes (l.place + 1) rarest fewest in
    let as_now : (rarest fewest : ℕ) → new.rarest ≡ rarest → new.fewest ≡ fewest → now rarest fewest → now new.rarest new.fewest =
    λ rarest fewest r f at.
    subst (λ n. now n new.fewest) (sym r) (subst (now rarest) (sym f) at) in
    let found : now new.rarest new.fewest =
    elim new.branch [
      | then-place-eq0 w ↦
          as_now l.place c.size-size.result w.rarest-is w.fewest-is (
            within l.place i (length s.selector) l.invariant.0 less,
            elim w.then-place-eq0.branch [
              | then-place-eq0-via-then-place-eq0 v ↦
                  next_is_first sizes l.place l.rarest l.fewest c.size-size.result here (search rules)
              | then-place-eq0-via-else-place-eq0+then-size-fewest v ↦
                  next_is_less sizes l.place l.rarest l.fewest c.size-size.result here
                  l.invariant.2 (search rules)
            ],
          )
      | else-place-eq0+else-size-fewest w ↦
          as_now l.rarest l.fewest w.rarest-is w.fewest-is (
            l.invariant.1,
            next_is_more sizes l.place l.rarest l.fewest c.size-size.result here l.invariant.2
                (grind (arith, common_steps)) (search rules),
          )
    ] in
    (ap (λ n. n + 1) l.invariant.0, found.0, found.1)
