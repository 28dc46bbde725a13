-- What holds of what each family has, and lists that are made of it by the families.
use Rattle.std.proofs.Common.{◌≡◌, Bool, true, false, cond, [], ◌∷◌, map}
use Rattle.std.proofs.Common.{Option, Some, None, IfSome, is_some, refl, ap, ◌∙◌}
use Rattle.std.specs.List.{AllByRecursion}
use Rattle.std.specs.Option.{option_map, option_to_list}
use Rattle.kp_base.specs.declared.address.Family.{Family}
use Rattle.kp_base.specs.declared.address.Family.TheVariants.{V4, V6}
use Rattle.kp_base.specs.declared.config.Config.{Config}
use Rattle.kp_types.specs.Setting.{both_families, table_families}
use Rattle.kp_plane.specs.Families.{Both, listed, map_both, per_family}
use Rattle.kp_plane.specs.declared.per_family.PerFamily.{PerFamily}

module _ {T : Type 0} where
  -- what follows of each from two others
  pub both_from : (P Q R : Family → T → Type 0) (x : PerFamily T)
      → ((family : Family) (t : T) → P family t → Q family t → R family t)
      → Both P x → Both Q x → Both R x
  both_from P Q R x follows p q = (follows V4 x.four p.0 q.0, by x.six p.1 q.1)
    where
      by : (o : Option T) → IfSome o (P V6) → IfSome o (Q V6) → IfSome o (R V6)
      by None p q = p
      by (Some t) p q = follows V6 t p q

  -- and from one
  pub both_weaker : (P R : Family → T → Type 0) (x : PerFamily T)
      → ((family : Family) (t : T) → P family t → R family t) → Both P x → Both R x
  both_weaker P R x follows p = both_from P P R x (λ family t one two. follows family t one) p p

  -- what holds of each holds of each of the list
  pub all_listed : (P : Family → T → Type 0) (Q : T → Type 0) (x : PerFamily T)
      → ((family : Family) (t : T) → P family t → Q t) → Both P x → AllByRecursion Q (listed x)
  all_listed P Q x follows p = (follows V4 x.four p.0, by x.six p.1)
    where
      by : (o : Option T) → IfSome o (P V6) → AllByRecursion Q (option_to_list o)
      by None p = tt
      by (Some t) p = (follows V6 t p, tt)

  -- what is made of each
  module _ {U : Type 0} (f : T → U) where
    pub both_mapped : (P : Family → U → Type 0) (x : PerFamily T)
        → Both (λ family t. P family (f t)) x → Both P (map_both f x)
    both_mapped P x p = (p.0, by x.six p.1)
      where
        by : (o : Option T) → IfSome o (λ t. P V6 (f t)) → IfSome (option_map f o) (P V6)
        by None p = p
        by (Some t) p = p

    -- is what each family gives
    pub both_are : (config : Config) (g : Family → U) (x : PerFamily T)
        → is_some x.six ≡ config.dual → Both (λ family t. f t ≡ g family) x
        → map_both f x ≡ per_family config g
    both_are config g x dual are = λ i. record { four = are.0 i; six = by x.six dual are.1 i }
      where
        by : (o : Option T) → is_some o ≡ config.dual → IfSome o (λ t. f t ≡ g V6)
            → option_map f o ≡ cond config.dual (Some (g V6)) None
        by None dual are = ap (λ d. cond d (Some (g V6)) None) dual
        by (Some t) dual are = ap Some are ∙ ap (λ d. cond d (Some (g V6)) None) dual

  -- the list runs over the node's families
  pub families_of : (config : Config) (of : T → Family) (x : PerFamily T)
      → is_some x.six ≡ config.dual → Both (λ family t. of t ≡ family) x
      → map of (listed x) ≡ table_families config
  families_of config of x dual are = by x.six dual are.1
    where
      by : (o : Option T) → is_some o ≡ config.dual → IfSome o (λ t. of t ≡ V6)
          → map of (x.four ∷ option_to_list o) ≡ table_families config
      by None dual six =
          (λ i. are.0 i ∷ []) ∙ ap (λ d. cond d both_families (V4 ∷ [])) dual
      by (Some t) dual six =
          (λ i. are.0 i ∷ six i ∷ []) ∙ ap (λ d. cond d both_families (V4 ∷ [])) dual

-- something that is made for each family
module _ {T : Type 0} (config : Config) (g : Family → T) where
  pub both_new : (P : Family → T → Type 0) → ((family : Family) → P family (g family))
      → Both P (per_family config g)
  both_new P all = (all V4, by config.dual)
    where
      by : (b : Bool) → IfSome (cond b (Some (g V6)) None) (P V6)
      by true = all V6
      by false = tt

  pub dual_new : is_some (per_family config g).six ≡ config.dual
  dual_new = by config.dual
    where
      by : (b : Bool) → is_some (cond b (Some (g V6)) None) ≡ b
      by true = refl
      by false = refl
