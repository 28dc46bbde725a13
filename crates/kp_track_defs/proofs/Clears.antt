-- Endpoints that are cleared one after the other.
use Rattle.std.proofs.Common.{◌≡◌, Bool, true, false, ◌||◌, not, List, [], ◌∷◌, filter, cond, refl, sym, ap, ◌∙◌}
use Rattle.std.specs.List.{AllByRecursion, list_any}
use Rattle.kp_base.specs.declared.key.Endpoint.{Endpoint}
use Rattle.kp_track_defs.specs.declared.flow.Entry.{Entry}
use Rattle.kp_track_defs.specs.Kept.{Kept, is_sent_to, without_endpoint, without_endpoints}
use Rattle.kp_track_defs.specs.TrackLaws.{KeptClears}

all_left : (es : List Entry) → filter (λ e. not false) es ≡ es
all_left [] = refl
all_left (e ∷ es) = ap (λ xs. e ∷ xs) (all_left es)

-- two tests, one after the other
both_fail : (p q : Entry → Bool) (es : List Entry)
    → filter (λ e. not (q e)) (filter (λ e. not (p e)) es) ≡ filter (λ e. not (p e || q e)) es
both_fail p q [] = refl
both_fail p q (e ∷ es) = step (p e) (both_fail p q es)
  where
    step : (b : Bool) → filter (λ e. not (q e)) (filter (λ e. not (p e)) es) ≡ filter (λ e. not (p e || q e)) es
        → filter (λ e. not (q e)) (cond (not b) (e ∷ filter (λ e. not (p e)) es) (filter (λ e. not (p e)) es))
        ≡ cond (not (b || q e)) (e ∷ filter (λ e. not (p e || q e)) es) (filter (λ e. not (p e || q e)) es)
    step true more = more
    step false more = λ i. cond (not (q e)) (e ∷ more i) (more i)

without_all : (gone : List Endpoint) (k : Kept)
    → without_endpoints gone k ≡ record k { entries = filter (λ e. not (list_any (λ endpoint. is_sent_to endpoint e) gone)) k.entries }
without_all [] k = λ i. record k { entries = sym (all_left k.entries) i }
without_all (to ∷ gone) k =
    without_all gone (without_endpoint to k)
    ∙ (λ i. record k { entries = both_fail (is_sent_to to) (λ e. list_any (λ endpoint. is_sent_to endpoint e) gone) k.entries i })

same_left : (p q : Entry → Bool) (es : List Entry) → AllByRecursion (λ e. p e ≡ q e) es
    → filter (λ e. not (q e)) es ≡ filter (λ e. not (p e)) es
same_left p q [] all = refl
same_left p q (e ∷ es) all =
    let more = same_left p q es all.1 in
    λ i. cond (not (sym all.0 i)) (e ∷ more i) (more i)

pub kept_clears : KeptClears
kept_clears k stands gone all =
    without_all gone k ∙ (λ i. record k { entries = same_left _ _ k.entries all i })
