-- Counting candidates one by one gives each address and port once, in order.
use Rattle.std.proofs.Common.{◌≡◌, Bool, true, false, cond, not, ◌||◌, List, [], ◌∷◌, ◌++◌, map, reverse, Option, Some, None, is_some, refl, sym, ap, ◌∙◌}
use Rattle.std.specs.Ordering.{eq_by_cmp}
use Rattle.std.specs.List.{filter}
use Rattle.std.specs.FinMap.{find, put}
use Rattle.std.specs.FinMap.Entries.{find_tied}
use Rattle.std.specs.BTreeMap.{insert_entry, is_at}
use Rattle.std.specs.Map.{lookup}
use Rattle.std.proofs.lemmas.List.{map-append, reverse-append}
use Rattle.std.proofs.lemmas.List.Elements.{filter-append}
use Rattle.std.proofs.Math.Bool.{or-false, or-true}
use Rattle.kp_lemmas.proofs.Orders.{equal_from_test}
use Rattle.kp_base.specs.Keys.{endpoint_cmp}
use Rattle.kp_base.specs.declared.key.Endpoint.{Endpoint}
use Rattle.kp_base.proofs.KeyOrder.{endpoint_total, endpoint_exact, endpoint_matches}
use Rattle.kp_base.specs.contracts.key.EndpointOrd.TheImpl as endpoint_ord
use Rattle.kp_types.specs.declared.lists.Candidate.{Candidate}
use Rattle.kp_object_defs.specs.Order.{in_order}
use Rattle.kp_object_defs.proofs.InOrder.{first_some, find-append, find-in_order, same_order, insert-put, lookup-find}
use Rattle.kp_category.specs.Count.{counts, counted_with}

-- candidates as entries of their address and port
abbrev pub named : List Candidate → List (Endpoint × Candidate)
named cs = map (λ c. (c.endpoint, c)) cs

-- the candidates in the order in which they count: those on this node from the last on, and then all
abbrev pub ranked : List Candidate → List Candidate
ranked cs = reverse (filter (λ c. c.local) cs) ++ cs

-- what is found of an address and port among candidates
abbrev found : Endpoint → List Candidate → Option Candidate
found q cs = find endpoint_cmp q (named cs)

found-append : (q : Endpoint) (xs ys : List Candidate) → found q (xs ++ ys) ≡ first_some (found q xs) (found q ys)
found-append q xs ys =
    ap (find endpoint_cmp q) (map-append (λ (c : Candidate). (c.endpoint, c)) xs ys)
    ∙ find-append endpoint_cmp q (named xs) (named ys)

-- the candidates on this node among one
abbrev alone_here : Bool → Candidate → List Candidate
alone_here here c = cond here (c ∷ []) []

-- one more candidate stands behind all others, and where it is on this node before them too
ranked-push : (cs : List Candidate) (c : Candidate) → ranked (cs ++ c ∷ []) ≡ (reverse (alone_here c.local c) ++ reverse (filter (λ c. c.local) cs)) ++ (cs ++ c ∷ [])
ranked-push cs c =
    ap (λ here. reverse here ++ (cs ++ c ∷ [])) (filter-append (λ (d : Candidate). d.local) cs (c ∷ []))
    ∙ ap (λ here. here ++ (cs ++ c ∷ [])) (reverse-append (filter (λ (d : Candidate). d.local) cs) (alone_here c.local c))

-- what is found with one more candidate, by what is found before (a), in all (b) and in the new one alone
found-push : (q : Endpoint) (cs : List Candidate) (c : Candidate) → found q (ranked (cs ++ c ∷ []))
    ≡ first_some (first_some (found q (reverse (alone_here c.local c))) (found q (reverse (filter (λ c. c.local) cs)))) (first_some (found q cs) (found q (c ∷ [])))
found-push q cs c =
    ap (found q) (ranked-push cs c)
    ∙ found-append q (reverse (alone_here c.local c) ++ reverse (filter (λ (d : Candidate). d.local) cs)) (cs ++ c ∷ [])
    ∙ ap (λ o. first_some o (found q (cs ++ c ∷ []))) (found-append q (reverse (alone_here c.local c)) (reverse (filter (λ (d : Candidate). d.local) cs)))
    ∙ ap (first_some (first_some (found q (reverse (alone_here c.local c))) (found q (reverse (filter (λ (d : Candidate). d.local) cs))))) (found-append q cs (c ∷ []))

-- the entries with one more, where it counts
abbrev with_entry : Bool → Candidate → List (Endpoint × Candidate) → List (Endpoint × Candidate)
with_entry counted c es = cond counted ((c.endpoint, c) ∷ es) es

with_entry-in_order : (b : Bool) (c : Candidate) (es : List (Endpoint × Candidate)) → cond b (put endpoint_cmp c.endpoint c (in_order endpoint_cmp es)) (in_order endpoint_cmp es) ≡ in_order endpoint_cmp (with_entry b c es)
with_entry-in_order true c es = refl
with_entry-in_order false c es = refl

find-with_entry : (b : Bool) (q : Endpoint) (c : Candidate) (es : List (Endpoint × Candidate)) → find endpoint_cmp q (with_entry b c es) ≡ cond b (cond (eq_by_cmp endpoint_cmp q c.endpoint) (Some c) (find endpoint_cmp q es)) (find endpoint_cmp q es)
find-with_entry true q c es = refl
find-with_entry false q c es = refl

-- ---- answers, by whether the candidate asked for is the new one (t)

here_counts : (t : Bool) (c : Candidate) (a b : Option Candidate) → cond t (Some c) (first_some a b) ≡ first_some (first_some (cond t (Some c) None) a) (first_some b (cond t (Some c) None))
here_counts true c a b = refl
here_counts false c (Some x) b = refl
here_counts false c None (Some x) = refl
here_counts false c None None = refl

first_counts : (t : Bool) (c : Candidate) (a b at : Option Candidate) → (t ≡ true → at ≡ first_some a b) → cond (not (is_some at)) (cond t (Some c) (first_some a b)) (first_some a b) ≡ first_some a (first_some b (cond t (Some c) None))
first_counts false c (Some x) b (Some y) same = refl
first_counts false c (Some x) b None same = refl
first_counts false c None (Some x) (Some y) same = refl
first_counts false c None (Some x) None same = refl
first_counts false c None None (Some y) same = refl
first_counts false c None None None same = refl
first_counts true c (Some x) b at same = ap (λ o. cond (not (is_some o)) (Some c) (Some x)) (same refl)
first_counts true c None (Some x) at same = ap (λ o. cond (not (is_some o)) (Some c) (Some x)) (same refl)
first_counts true c None None at same = ap (λ o. cond (not (is_some o)) (Some c) None) (same refl)

-- what is found once one more candidate was counted, by whether it is on this node
answers : (here : Bool) (q : Endpoint) (c : Candidate) (cs : List Candidate) →
    cond (here || not (is_some (find endpoint_cmp c.endpoint (in_order endpoint_cmp (named (ranked cs)))))) (cond (eq_by_cmp endpoint_cmp q c.endpoint) (Some c) (found q (ranked cs))) (found q (ranked cs))
    ≡ first_some (first_some (found q (reverse (alone_here here c))) (found q (reverse (filter (λ c. c.local) cs)))) (first_some (found q cs) (found q (c ∷ [])))
answers true q c cs =
    ap (cond (eq_by_cmp endpoint_cmp q c.endpoint) (Some c)) (found-append q (reverse (filter (λ (d : Candidate). d.local) cs)) cs)
    ∙ here_counts (eq_by_cmp endpoint_cmp q c.endpoint) c (found q (reverse (filter (λ (d : Candidate). d.local) cs))) (found q cs)
answers false q c cs =
    let before = found-append q (reverse (filter (λ (d : Candidate). d.local) cs)) cs in
    let at = find endpoint_cmp c.endpoint (in_order endpoint_cmp (named (ranked cs))) in
    ap (λ o. cond (not (is_some at)) (cond (eq_by_cmp endpoint_cmp q c.endpoint) (Some c) o) o) before
    ∙ first_counts (eq_by_cmp endpoint_cmp q c.endpoint) c (found q (reverse (filter (λ (d : Candidate). d.local) cs))) (found q cs) at
    (λ tied. find-in_order endpoint_total c.endpoint (named (ranked cs)) ∙ find_tied endpoint_cmp endpoint_total q c.endpoint (equal_from_test _ tied) (named (ranked cs)) ∙ before)

-- counting one more
pub counted-push : (cs : List Candidate) (c : Candidate) → counted_with (in_order endpoint_cmp (named (ranked cs))) c ≡ in_order endpoint_cmp (named (ranked (cs ++ c ∷ [])))
counted-push cs c =
    let es = named (ranked cs) in
    let b = counts (in_order endpoint_cmp es) c in
    with_entry-in_order b c es
    ∙ same_order endpoint_total endpoint_exact (with_entry b c es) (named (ranked (cs ++ c ∷ [])))
    (λ q. find-with_entry b q c es ∙ answers c.local q c cs ∙ sym (found-push q cs c))

-- one more of the entries that a map holds
pub counted_more : (entries : List (Endpoint × Candidate)) (cs : List Candidate) (c : Candidate) → entries ≡ in_order endpoint_cmp (named (ranked cs)) → counted_with entries c ≡ in_order endpoint_cmp (named (ranked (cs ++ c ∷ [])))
counted_more entries cs c same = ap (λ es. counted_with es c) same ∙ counted-push cs c

-- ---- in a map of std

-- a map has an entry of the candidate's address and port
contains-find : (entries : List (Endpoint × Candidate)) (c : Candidate) → is_some (lookup (is_at (endpoint_ord.ghosts.cmp c.endpoint)) entries) ≡ is_some (find endpoint_cmp c.endpoint entries)
contains-find entries c = ap is_some (lookup-find endpoint_matches c.endpoint entries)

-- a candidate counts where it is on this node, if its address and port was counted before
pub counts-again : (entries : List (Endpoint × Candidate)) (c : Candidate) → is_some (lookup (is_at (endpoint_ord.ghosts.cmp c.endpoint)) entries) ≡ true → c.local ≡ counts entries c
counts-again entries c before = sym (or-false c.local) ∙ ap (λ b. c.local || not b) (sym before ∙ contains-find entries c)

-- and it counts in any case, if it wasn't
pub counts-first : (entries : List (Endpoint × Candidate)) (c : Candidate) → is_some (lookup (is_at (endpoint_ord.ghosts.cmp c.endpoint)) entries) ≡ false → true ≡ counts entries c
counts-first entries c before = sym (or-true c.local) ∙ ap (λ b. c.local || not b) (sym before ∙ contains-find entries c)

-- a map with the candidate, which counts
pub counted_in : (entries more : List (Endpoint × Candidate)) (c : Candidate) → counts entries c ≡ true → more ≡ insert_entry endpoint_ord.ghosts.cmp entries c.endpoint c → more ≡ counted_with entries c
counted_in entries more c counting same =
    same ∙ insert-put endpoint_matches entries c.endpoint c
    ∙ sym (ap (λ b. cond b (put endpoint_cmp c.endpoint c entries) entries) counting)
