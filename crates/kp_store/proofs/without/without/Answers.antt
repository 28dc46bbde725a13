use Rattle.std.proofs.Common.{Bool, ◌++◌, ◌∷◌, [], cond, not, filter, take, sym, ap, ◌∙◌}
use Rattle.std.proofs.lemmas.List.Elements.{filter_more}
use Rattle.kp_store.specs.Indexes.{is_among}
use Rattle.kp_store.proofs.without.without.Goals as goal

pub loop-tag-preserved : goal.loop-tag-preserved
loop-tag-preserved g c =
    let new : g.row.T.Denot → Bool = λ t. not (is_among g.T.PartialEq.eq c.args.others.now t) in
    let tags = c.args.tags.now in
    let tag = c.tag-item.result in
    c.in_ok-add_unless.ensures
    ∙ (λ i. c.loop-tag.invariant i ++ cond (not ((c.contains_key.ensures ∙ c.in_ok-known.ensures tag) i)) (tag ∷ []) [])
    ∙ ap (λ t. filter new (take c.loop-tag.tag-index tags) ++ cond (new t) (t ∷ []) []) c.tag-item.is
    ∙ sym (filter_more new tags c.loop-tag.tag-index tag c.loop-tag-test.true)
