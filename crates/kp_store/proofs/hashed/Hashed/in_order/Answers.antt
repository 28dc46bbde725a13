use Rattle.std.proofs.Common.{◌||◌, ℕ, map, Ok, sym, ap, ◌∙◌, Bor}
use Rattle.std.specs.List.{list_any}
use Rattle.std.specs.Ordering.{eq_by_cmp}
use Rattle.std.specs.FinMap as finite
use Rattle.std.proofs.lemmas.Iterator.Consumers.{map_from_collect, YieldsList-from_rest}
use Rattle.kp_base.specs.Keys.{key_cmp}
use Rattle.kp_store.proofs.Ordered.{none_before, has_entries}
use Rattle.kp_store.proofs.NamedEntries.{keys_of_names}
use mathlib.Core.Bool.{or-false}
use Rattle.kp_store.proofs.hashed.Hashed.in_order.Goals as goal

pub returns : goal.returns
returns g c = λ k.
    let es = c.self.inside.entries.entries in
    let key_of = g.K.Name.key_of in
    let names = c.as_slice.result.now in
    c.in_ok-put_all.ensures.all k
    ∙ ap (λ b. list_any (λ (q : Bor g.row.K.Denot). eq_by_cmp key_cmp k (key_of q.now)) names || b)
    (ap (λ m. finite.contains_key m k) c.new-order.ensures ∙ none_before k)
    ∙ or-false (list_any (λ (q : Bor g.row.K.Denot). eq_by_cmp key_cmp k (key_of q.now)) names)
    ∙ keys_of_names key_of k names es
    (ap (map (λ (q : Bor g.row.K.Denot). q.now)) c.as_slice.ensures.value
    ∙ map_from_collect {E = ℕ} (Ok c.in_ok-names.names) c.in_ok-names.ensures.ran (YieldsList-from_rest {shows = λ q. q.now} (map (λ e. e.0) es) c.keys.ensures.rest))
    ∙ sym (has_entries k _)
    ∙ ap (λ m. finite.contains_key m k) c.self.view_is
