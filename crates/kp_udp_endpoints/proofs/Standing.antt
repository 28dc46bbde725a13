-- An endpoint stands exactly where a list has it.
use Rattle.std.proofs.Common.{◌≡◌, ℕ, ◌+◌, ◌==◌, Bool, true, false, not, ◌&&◌, ◌||◌, cond, List, [], ◌∷◌, ◌++◌, flat_map, count_by, refl, sym, ap, ◌∙◌, arith}
use Rattle.std.specs.List.{list_any}
use Rattle.std.proofs.lemmas.Bool.Decides.{nat_tests}
use Rattle.std.proofs.lemmas.List.Folds.{list_any-append}
use Rattle.std.proofs.lemmas.List.Sums.{sum_by-cons}
use Rattle.kp_base.specs.Keys.{same_proto}
use Rattle.kp_base.specs.declared.config.Config.{Config}
use Rattle.kp_base.specs.declared.key.Endpoint.{Endpoint}
use Rattle.kp_base.specs.declared.port.Proto.TheVariants.{Udp}
use Rattle.kp_types.specs.Setting.{config_for, table_families}
use Rattle.kp_object_defs.specs.Objects.{Objects}
use Rattle.kp_object_defs.specs.PortInfo.{PortInfo, port_infos}
use Rattle.kp_track_defs.specs.Stands.{has_endpoint, has_in_lists, is_endpoint, stands_by, stands_in}
use Rattle.kp_udp_endpoints.specs.Endpoints.{listed, listed_in, lists_with, udp_listed}
use Rattle.kp_udp_endpoints.proofs.Same.{turned}

-- a piece of an element passes where the element does
any_piece : {A B : Type 0} (q : A → Bool) (p : B → Bool) (f : A → List B)
    → ((a : A) → q a ≡ list_any p (f a)) → (xs : List A)
    → list_any q xs ≡ list_any p (flat_map f xs)
any_piece q p f each [] = refl
any_piece q p f each (x ∷ xs) =
    (λ i. each x i || any_piece q p f each xs i) ∙ sym (list_any-append p (f x) (flat_map f xs))

-- one passes where not none is counted
pub any_counted : {A : Type 0} (p : A → Bool) (xs : List A)
    → list_any p xs ≡ not (count_by p xs == 0)
any_counted p [] = refl
any_counted p (x ∷ xs) =
    by (p x) (any_counted p xs) ∙ ap (λ n. not (n == 0)) (sym (sum_by-cons (λ y. cond (p y) 1 0) x xs))
  where
    by : (b : Bool) → list_any p xs ≡ not (count_by p xs == 0)
        → (b || list_any p xs) ≡ not (cond b 1 0 + count_by p xs == 0)
    by true rest = grind (arith, nat_tests)
    by false rest = rest ∙ ap (λ n. not (n == 0)) (omega arith)

module _ (e : Endpoint) where
  listed_there : (es : List Endpoint) → has_endpoint e es ≡ list_any (is_endpoint e) es
  listed_there [] = refl
  listed_there (x ∷ es) = λ i. turned x e i || listed_there es i

  in_lists : (i : PortInfo) → has_in_lists e i ≡ list_any (is_endpoint e) (udp_listed i.key i)
  in_lists i = by (same_proto i.key.proto Udp)
    where
      by : (b : Bool) → (b && (has_endpoint e i.lists.cluster || has_endpoint e i.lists.local))
          ≡ list_any (is_endpoint e) (cond b (listed i) [])
      by true =
          (λ j. listed_there i.lists.cluster j || listed_there i.lists.local j)
          ∙ sym (list_any-append (is_endpoint e) i.lists.cluster i.lists.local)
      by false = refl

  pub stands_listed : (config : Config) (o : Objects)
      → stands_by config o e ≡ not (lists_with config o e == 0)
  stands_listed config o =
      any_piece (λ family. stands_in (port_infos family (config_for family config) o) e)
      (is_endpoint e) (listed_in config o)
      (λ family. any_piece (has_in_lists e) (is_endpoint e) (λ i. udp_listed i.key i) in_lists
      (port_infos family (config_for family config) o)) (table_families config)
      ∙ any_counted (is_endpoint e) _
