-- One more element of a list of references that is mapped.
use Rattle.std.proofs.Common.{◌≡◌, ℕ, ◌+◌, ◌<◌, List, [], ◌∷◌, ◌++◌, take, length, get_or, Option, map, sym, ap, ◌∙◌, Bor}
use Rattle.kp_lemmas.proofs.ListFacts.{only_option}
use Rattle.std.specs.List.{filter_map}
use Rattle.std.specs.Option.{option_to_list}
use Rattle.std.proofs.lemmas.List.{take_more, map-append}
use Rattle.std.proofs.lemmas.List.Elements.{filter_map-append}

-- what was made of what the first i elements refer to, and what is made of what the next one x refers to
pub filter_map_now_step : {X Y : Type 0} (h : X → Option Y) (xs : List (Bor X)) (i : ℕ) (x : Bor X) → i < length xs → x ≡ get_or xs i x → filter_map h (map (λ b. b.now) (take i xs)) ++ option_to_list (h x.now) ≡ filter_map h (map (λ b. b.now) (take (i + 1) xs))
filter_map_now_step h xs i x lt is =
    ap (λ one. filter_map h (map (λ b. b.now) (take i xs)) ++ one) (sym (only_option (h x.now)))
    ∙ sym (filter_map-append h (map (λ b. b.now) (take i xs)) (x.now ∷ []))
    ∙ ap (filter_map h) (sym (map-append (λ b. b.now) (take i xs) (x ∷ [])))
    ∙ ap (λ next. filter_map h (map (λ b. b.now) (take i xs ++ next ∷ []))) is
    ∙ ap (λ l. filter_map h (map (λ b. b.now) l)) (sym (take_more xs i x lt))
