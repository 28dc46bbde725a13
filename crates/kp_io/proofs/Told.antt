-- One step after another, of contents that are told or not.
use Rattle.std.proofs.Common.{◌≡◌, ℕ, ◌+◌, List, [], ◌++◌, take, drop, arith, Option, None, Some, ap, sym, ◌∙◌, append_assoc, append-nil, subst}
use Rattle.std.proofs.Math.Seq.{take-add}
use Rattle.std.specs.Io.KnownBytes.{Consumes}
use Rattle.kp_io.specs.Told.{FromTold, ToTold, Grows, NoLess}

-- where a content is told from its start on, two steps are one
pub FromTold-trans : {X Y Z : Type 0} (P : X → Y → Type 0) (Q : Y → Z → Type 0) (R : X → Z → Type 0) → ((x : X) (y : Y) (z : Z) → P x y → Q y z → R x z) → (a : Option X) (b : Option Y) (c : Option Z) → FromTold P a b → FromTold Q b c → FromTold R a c
FromTold-trans P Q R join None b c p q = tt
FromTold-trans P Q R join (Some x) None c p q = absurd p
FromTold-trans P Q R join (Some x) (Some y) None p q = absurd q
FromTold-trans P Q R join (Some x) (Some y) (Some z) p q = join x y z p q

-- what is told of a step may be told in other words
pub FromTold-map : {X Y : Type 0} (P Q : X → Y → Type 0) → ((x : X) (y : Y) → P x y → Q x y) → (a : Option X) (b : Option Y) → FromTold P a b → FromTold Q a b
FromTold-map P Q f None b p = tt
FromTold-map P Q f (Some x) None p = absurd p
FromTold-map P Q f (Some x) (Some y) p = f x y p

-- one more read of a source
pub FromTold-consumes : {X : Type 0} (P Q : X → List ℕ → Type 0) (bytes : List ℕ) → ((x : X) (y z : List ℕ) → P x y → y ≡ bytes ++ z → Q x z) → (a : Option X) (b c : Option (List ℕ)) → FromTold P a b → Consumes b c bytes → FromTold Q a c
FromTold-consumes P Q bytes f None b c p q = tt
FromTold-consumes P Q bytes f (Some x) None c p q = absurd p
FromTold-consumes P Q bytes f (Some x) (Some y) None p q = absurd q
FromTold-consumes P Q bytes f (Some x) (Some y) (Some z) p q = f x y z p q

-- where a content is told up to its end, two steps are one
pub ToTold-trans : (P Q R : List ℕ → List ℕ → Type 0) → ((x y z : List ℕ) → P x y → Q y z → R x z) → (a b c : Option (List ℕ)) → ToTold P a b → ToTold Q b c → ToTold R a c
ToTold-trans P Q R join a b None p q = tt
ToTold-trans P Q R join a None (Some z) p q = absurd q
ToTold-trans P Q R join None (Some y) (Some z) p q = absurd p
ToTold-trans P Q R join (Some x) (Some y) (Some z) p q = join x y z p q

-- nothing was added
pub Grows-nil : (a : Option (List ℕ)) → Grows a a []
Grows-nil None = tt
Grows-nil (Some x) = sym (append-nil x)

-- nothing was flushed
pub NoLess-same : (a : Option ℕ) → NoLess a a
NoLess-same None = tt
NoLess-same (Some n) = omega arith

-- some bytes were added, and then more
pub Grows-trans : (a b c : Option (List ℕ)) (xs ys : List ℕ) → Grows a b xs → Grows b c ys → Grows a c (xs ++ ys)
Grows-trans a b c xs ys p q =
    ToTold-trans (λ x y. y ≡ x ++ xs) (λ y z. z ≡ y ++ ys) (λ x z. z ≡ x ++ (xs ++ ys))
    (λ x y z e f. f ∙ ap (λ l. l ++ ys) e ∙ append_assoc x xs ys) a b c p q

-- the first bytes of a piece were added, and then more of it
pub Grows-more : (a b c : Option (List ℕ)) (bytes rest : List ℕ) (i n : ℕ) → rest ≡ drop i bytes → Grows a b (take i bytes) → Grows b c (take n rest) → Grows a c (take (i + n) bytes)
Grows-more a b c bytes rest i n e p q =
    subst (Grows a c) (ap (λ r. take i bytes ++ take n r) e ∙ sym (take-add i n bytes))
    (Grows-trans a b c (take i bytes) (take n rest) p q)
