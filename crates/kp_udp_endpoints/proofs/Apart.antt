-- What lists lost and have got, piece by piece.
use Rattle.std.proofs.Common.{◌≡◌, ℕ, ◌+◌, List, [], ◌∷◌, ◌++◌, ◌<◌, Bool, true, false, cond, count_by, flat_map, length, take, drop, get_or, Option, Some, None, refl, sym, ap, subst, ◌∙◌, add-one, append-nil, arith}
use Rattle.std.proofs.Math.Seq.{take-suc}
use Rattle.std.proofs.lemmas.List.{take-append-drop}
use Rattle.std.proofs.lemmas.List.Concat.{flat_map-append}
use Rattle.std.proofs.lemmas.List.Sums.{sum_by-append}
use Rattle.kp_base.specs.Keys.{same_proto}
use Rattle.kp_base.specs.declared.key.Endpoint.{Endpoint}
use Rattle.kp_base.specs.declared.key.PortKey.{PortKey}
use Rattle.kp_base.specs.declared.port.Proto.TheVariants.{Udp}
use Rattle.kp_object_defs.specs.PortInfo.{PortInfo}
use Rattle.kp_history_defs.specs.declared.dirty.DirtyPort.{DirtyPort}
use Rattle.kp_track_defs.specs.Stands.{is_endpoint}
use Rattle.kp_udp_endpoints.specs.Changed.{AreAdded, AreKept, cluster_of, listed_of, local_of}
use Rattle.kp_udp_endpoints.specs.Endpoints.{listed_if}
use Rattle.kp_udp_endpoints.specs.declared.changed.Changed.{Changed}

abbrev count : Endpoint → List Endpoint → ℕ
count e = count_by (is_endpoint e)

more : (e : Endpoint) (es fs : List Endpoint) → count e (es ++ fs) ≡ count e es + count e fs
more e es fs = sum_by-append (λ x. cond (is_endpoint e x) 1 0) es fs

-- one piece and then another
pub both_added : (b b' a a' : List Endpoint) (old mid new : Changed)
    → AreAdded b a old mid → AreAdded b' a' mid new → AreAdded (b ++ b') (a ++ a') old new
both_added b b' a a' old mid new first second e =
    let one = first e in
    let other = second e in
    record {
      kept = one.kept + other.kept;
      before = omega (
        arith,
        one.before,
        other.before,
        more e old.went.items (b ++ b'),
        more e b b',
        more e old.went.items b,
        more e mid.went.items b',
      );
      after = omega (
        arith,
        one.after,
        other.after,
        more e old.came.items (a ++ a'),
        more e a a',
        more e old.came.items a,
        more e mid.came.items a',
      );
    }

-- all that is told went and came
pub all_added : (b a : List Endpoint) (old new : Changed) → new.went.items ≡ old.went.items ++ b
    → new.came.items ≡ old.came.items ++ a → AreAdded b a old new
all_added b a old new went came e = record {
  kept = 0;
  before = ap (count e) (sym went) ∙ omega arith;
  after = ap (count e) (sym came) ∙ omega arith;
}

-- nothing is told
pub none_added : (c : Changed) → AreAdded [] [] c c
none_added c = all_added [] [] c c (sym (append-nil _)) (sym (append-nil _))

-- what is in both isn't told
pub one_kept : (x y : Endpoint) (c : Changed) → x ≡ y → AreAdded (x ∷ []) (y ∷ []) c c
one_kept x y c same e = record {
  kept = count e (x ∷ []);
  before = more e c.went.items (x ∷ []) ∙ omega arith;
  after =
      more e c.came.items (y ∷ [])
      ∙ ap (λ z. count e c.came.items + count e (z ∷ [])) (sym same) ∙ omega arith;
}

-- ---- Along two lists

-- with the next element
next_in : {A : Type 0} (xs : List A) (i : ℕ) (x : A) → i < length xs → x ≡ get_or xs i x
    → take (i + 1) xs ≡ take i xs ++ x ∷ []
next_in xs i x lt is =
    ap (λ n. take n xs) (add-one i) ∙ take-suc xs i x lt
    ∙ ap (λ y. take i xs ++ y ∷ []) (sym is)

pub flat_next : {A B : Type 0} (f : A → List B) (xs : List A) (i : ℕ) (x : A) → i < length xs
    → x ≡ get_or xs i x → flat_map f (take (i + 1) xs) ≡ flat_map f (take i xs) ++ f x
flat_next f xs i x lt is =
    ap (flat_map f) (next_in xs i x lt is) ∙ flat_map-append f (take i xs) (x ∷ [])
    ∙ ap (λ ys. flat_map f (take i xs) ++ ys) (append-nil (f x))

module _ (b a : List Endpoint) (i j : ℕ) (old mid new : Changed)
    (so_far : AreAdded (take i b) (take j a) old mid) where
  -- the next one went
  pub went_next : (x : Endpoint) → i < length b → x ≡ get_or b i x → new.went.items ≡ mid.went.items ++ x ∷ []
      → new.came.items ≡ mid.came.items → AreAdded (take (i + 1) b) (take j a) old new
  went_next x lt is went came =
      subst (λ xs. AreAdded xs (take j a) old new) (sym (next_in b i x lt is))
      (subst (λ ys. AreAdded (take i b ++ x ∷ []) ys old new) (append-nil (take j a))
      (both_added (take i b) (x ∷ []) (take j a) [] old mid new so_far
      (all_added (x ∷ []) [] mid new went (came ∙ sym (append-nil _)))))

  -- the next one came
  pub came_next : (y : Endpoint) → j < length a → y ≡ get_or a j y → new.went.items ≡ mid.went.items
      → new.came.items ≡ mid.came.items ++ y ∷ [] → AreAdded (take i b) (take (j + 1) a) old new
  came_next y lt is went came =
      subst (λ ys. AreAdded (take i b) ys old new) (sym (next_in a j y lt is))
      (subst (λ xs. AreAdded xs (take j a ++ y ∷ []) old new) (append-nil (take i b))
      (both_added (take i b) [] (take j a) (y ∷ []) old mid new so_far
      (all_added [] (y ∷ []) mid new (went ∙ sym (append-nil _)) came)))

  -- the next ones of both are one
  pub kept_next : (x y : Endpoint) → i < length b → x ≡ get_or b i x → j < length a
      → y ≡ get_or a j y → x ≡ y → AreAdded (take (i + 1) b) (take (j + 1) a) old mid
  kept_next x y lt is lt_too is_too same =
      subst (λ xs. AreAdded xs (take (j + 1) a) old mid) (sym (next_in b i x lt is))
      (subst (λ ys. AreAdded (take i b ++ x ∷ []) ys old mid) (sym (next_in a j y lt_too is_too))
      (both_added (take i b) (x ∷ []) (take j a) (y ∷ []) old mid mid so_far
      (one_kept x y mid same)))

  -- all that are left of one list went, and those of the other came
  pub rest_added : new.went.items ≡ mid.went.items ++ drop i b
      → new.came.items ≡ mid.came.items ++ drop j a → AreAdded b a old new
  rest_added went came =
      subst (λ xs. AreAdded xs a old new) (take-append-drop i b)
      (subst (λ ys. AreAdded (take i b ++ drop i b) ys old new) (take-append-drop j a)
      (both_added (take i b) (drop i b) (take j a) (drop j a) old mid new so_far
      (all_added (drop i b) (drop j a) mid new went came)))

-- ---- Of ports

pub lists_added : (b a : Option PortInfo) (bc ac bl al : List Endpoint) (old mid new : Changed)
    → bc ≡ cluster_of b → ac ≡ cluster_of a → bl ≡ local_of b → al ≡ local_of a
    → AreAdded bc ac old mid → AreAdded bl al mid new
    → AreAdded (listed_of b) (listed_of a) old new
lists_added b a bc ac bl al old mid new cb ca lb la first second =
    subst (λ xs. AreAdded xs (listed_of a) old new) (λ i. cb i ++ lb i)
    (subst (λ ys. AreAdded (bc ++ bl) ys old new) (λ i. ca i ++ la i)
    (both_added bc bl ac al old mid new first second))

-- the lists of a port of UDP, and of another one
listed_either : (key : PortKey) (info : Option PortInfo)
    → listed_if key info ≡ cond (same_proto key.proto Udp) (listed_of info) []
listed_either key None = by (same_proto key.proto Udp)
  where
    by : (b : Bool) → ◌≡◌ {A = List Endpoint} [] (cond b [] [])
    by true = refl
    by false = refl
listed_either key (Some i) = refl

pub udp_added : (key : PortKey) (b a : Option PortInfo) (old new : Changed)
    → same_proto key.proto Udp ≡ true → AreAdded (listed_of b) (listed_of a) old new
    → AreAdded (listed_if key b) (listed_if key a) old new
udp_added key b a old new udp added =
    subst (λ xs. AreAdded xs (listed_if key a) old new)
    (sym (listed_either key b ∙ ap (λ t. cond t (listed_of b) []) udp))
    (subst (λ ys. AreAdded (listed_of b) ys old new)
    (sym (listed_either key a ∙ ap (λ t. cond t (listed_of a) []) udp)) added)

pub others_added : (key : PortKey) (b a : Option PortInfo) (c : Changed)
    → same_proto key.proto Udp ≡ false → AreAdded (listed_if key b) (listed_if key a) c c
others_added key b a c other =
    subst (λ xs. AreAdded xs (listed_if key a) c c)
    (sym (listed_either key b ∙ ap (λ t. cond t (listed_of b) []) other))
    (subst (λ ys. AreAdded [] ys c c)
    (sym (listed_either key a ∙ ap (λ t. cond t (listed_of a) []) other)) (none_added c))

-- one port more
pub port_added : (gone new : DirtyPort → List Endpoint) (dirty : List DirtyPort) (i : ℕ) (d : DirtyPort)
    (old mid now : Changed) → i < length dirty → d ≡ get_or dirty i d
    → AreAdded (flat_map gone (take i dirty)) (flat_map new (take i dirty)) old mid
    → AreAdded (gone d) (new d) mid now
    → AreAdded (flat_map gone (take (i + 1) dirty)) (flat_map new (take (i + 1) dirty)) old now
port_added gone new dirty i d old mid now lt is first second =
    subst (λ xs. AreAdded xs (flat_map new (take (i + 1) dirty)) old now)
    (sym (flat_next gone dirty i d lt is))
    (subst (λ ys. AreAdded (flat_map gone (take i dirty) ++ gone d) ys old now)
    (sym (flat_next new dirty i d lt is))
    (both_added (flat_map gone (take i dirty)) (gone d) (flat_map new (take i dirty)) (new d) old mid now
    first second))

-- beside nothing
pub from_none : (b a : List Endpoint) (old new : Changed) → old.went.items ≡ [] → old.came.items ≡ []
    → AreAdded b a old new → (e : Endpoint)
    → AreKept (count e b) (count e a) (count e new.went.items) (count e new.came.items)
from_none b a old new no_went no_came added e =
    let of = added e in
    record {
      kept = of.kept;
      before = ap (λ w. count e (w ++ b)) (sym no_went) ∙ of.before;
      after = ap (λ w. count e (w ++ a)) (sym no_came) ∙ of.after;
    }
