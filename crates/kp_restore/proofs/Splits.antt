-- What stands before and behind a name.
use Rattle.std.proofs.Common.{◌≡◌, ℕ, ◌-◌, true, false, bytes_eq, length-append, List, ◌++◌, length, take, drop, sym, ap, ◌∙◌, arith}
use Rattle.std.proofs.Math.Seq.{take-append_seam, drop-append_seam}
use Rattle.std.proofs.lemmas.List.{take-append-drop}
use Rattle.std.proofs.lemmas.Slice.Eq.{bytes_eq-Decides}

module _ (front back bytes : List ℕ) where
  apart : {x y : List ℕ} → bytes_eq x y ≡ false → x ≡ y → ⊥
  apart {x} {y} h e = let t : true ≡ false = sym ((bytes_eq-Decides x y).1 e) ∙ h in cc

  -- the front isn't there
  pub front_missing : (rest : List ℕ) → bytes_eq (take (length front) bytes) front ≡ false → front ++ rest ≡ bytes → ⊥
  front_missing rest h e = apart h (ap (take (length front)) (sym e) ∙ take-append_seam front rest)

  module _ (behind : List ℕ) (is : behind ≡ drop (length front) bytes) where
    past_front : (rest : List ℕ) → front ++ rest ≡ bytes → behind ≡ rest
    past_front rest e = is ∙ ap (drop (length front)) (sym e) ∙ drop-append_seam front rest

    name_length : (name : List ℕ) → front ++ (name ++ back) ≡ bytes → length behind - length back ≡ length name
    name_length name e = omega (arith, ap length (past_front (name ++ back) e), length-append name back)

    -- the back isn't there
    pub back_missing : (name : List ℕ) → bytes_eq (drop (length behind - length back) behind) back ≡ false → front ++ (name ++ back) ≡ bytes → ⊥
    back_missing name h e = apart h ((λ i. drop (name_length name e i) (past_front (name ++ back) e i)) ∙ drop-append_seam name back)

    module _ (name : List ℕ) (name_is : name ≡ take (length behind - length back) behind) where
      -- what stands between is the name
      pub only_name : (other : List ℕ) → front ++ (other ++ back) ≡ bytes → name ≡ other
      only_name other e = name_is ∙ (λ i. take (name_length other e i) (past_front (other ++ back) e i)) ∙ take-append_seam other back

      pub between : bytes_eq (take (length front) bytes) front ≡ true → bytes_eq (drop (length behind - length back) behind) back ≡ true → front ++ (name ++ back) ≡ bytes
      between f b =
          let k = length behind - length back in
          let whole : name ++ back ≡ behind = (λ i. name_is i ++ sym ((bytes_eq-Decides (drop k behind) back).0 b) i) ∙ take-append-drop k behind in
          (λ i. sym ((bytes_eq-Decides (take (length front) bytes) front).0 f) i ++ (whole ∙ is) i) ∙ take-append-drop (length front) bytes
