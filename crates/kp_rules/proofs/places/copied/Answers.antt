use Rattle.std.proofs.Common.{◌∷◌, [], ◌∙◌, ap, sym, true, cond, map}
use denote.Ref.{Bor}
use Rattle.std.specs.List.{list_any}
use Rattle.std.specs.Ordering.{eq_by_cmp}
use Rattle.std.proofs.lemmas.List.{map-append}
use Rattle.kp_types.specs.declared.chain.ChainAt.{ChainAt}
use Rattle.kp_types.specs.contracts.chain.ChainAtOrd.TheImpl as order
use Rattle.kp_rules.specs.Placed.{has_place}
use Rattle.kp_rules.proofs.Placing.{told_more}
use Rattle.kp_rules.proofs.places.copied.Goals as goal

-- one place more
pub loop-at-preserved : goal.loop-at-preserved
loop-at-preserved c =
    let now : Bor ChainAt → ChainAt = λ p. p.now in
    record {
      sorted = c.in_ok-insert.ensures.ordered;
      same = λ q. told_more c.loop-at.copy c.insert.new.self c.in-Some.at.now (map now c.loop-at.yielded)
          (λ r. c.in_ok-insert.ensures.updates.0 r ∙ ap (λ k. cond (eq_by_cmp order.ghosts.cmp k r) true (has_place c.loop-at.copy r)) c.same.ensures)
          c.loop-at.invariant.same q
          ∙ ap (list_any (eq_by_cmp order.ghosts.cmp q)) (sym (map-append now c.loop-at.yielded (c.in-Some.at ∷ [])));
    }
