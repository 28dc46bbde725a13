-- The first step of packing a group, and the second: no endpoint is lost, and no slice gets too many.
use Rattle.std.proofs.Common.{◌≡◌, ℕ, ◌-◌, ◌≤◌, Bool, true, false, cond, nat_lt, List, [], ◌∷◌, ◌++◌, map, take, drop, length, Option, Some, None, refl, sym, ap, ◌∙◌, append_assoc, append-nil, length-append, length-take, arith, IsPermutation, ltb-true}
use Rattle.std.proofs.lemmas.Bool.{cond_both}
use Rattle.std.proofs.lemmas.Option.{none-some}
use Rattle.std.specs.List.{find, fold, flat_map, AllByRecursion}
use Rattle.std.specs.Option.{unwrap_or}
use Rattle.std.proofs.lemmas.Grind.{flat_map-append}
use Rattle.std.proofs.lemmas.List.{map-append, length-map, take-append-drop}
use Rattle.std.proofs.lemmas.List.Sorted.{IsPermutation-refl, IsPermutation-append_comm, IsPermutation-map, length_permutation}
use Rattle.kp_types.specs.declared.slice.SliceEndpoint.{SliceEndpoint}
use Rattle.kp_types.specs.declared.slice.Slice.{Slice}
use Rattle.kp_types.specs.declared.slice.Wanted.{Wanted}
use Rattle.kp_object_defs.specs.Packing.{Filling, Keeping, Progress, is_entry_of, without_first, dropped, kept, kept_or_dropped, keep_entry, keep_slice, add_keeping, keep_all, with_more, fill_if, fill_changed}
use Rattle.kp_lemmas.proofs.ListFacts.{all_append}
use Rattle.kp_pack_laws.proofs.Shuffles.{same_list, turned, and_then, joined, to_front}

-- the endpoints that slices have by now
abbrev pub entries : List Filling → List SliceEndpoint
entries fs = flat_map (λ f. f.endpoints) fs

-- the entries of wanted endpoints
abbrev pub entries_of : List Wanted → List SliceEndpoint
entries_of ws = map (λ w. w.entry) ws

-- the slices that are filled
abbrev pub slices_of : List Filling → List Slice
slices_of fs = map (λ f. f.slice) fs

-- no slice has too many
abbrev pub AreWithin : ℕ → List Filling → Type 0
AreWithin most fs = AllByRecursion (λ f. length f.endpoints ≤ most) fs

-- ---- lists

found_first : {X : Type 0} (test : X → Bool) (xs : List X) (w : X) → find test xs ≡ Some w → IsPermutation xs (w ∷ without_first test xs)
found_first test [] w h = absurd (none-some w h)
found_first test (x ∷ xs) w h =
    cond_both _ xs _ (λ ys. IsPermutation (x ∷ xs) (w ∷ ys))
    (λ e. same_list (ap (λ o. unwrap_or o x ∷ xs)
    (sym (ap (λ b. cond b (Some x) (find test xs)) e) ∙ h)))
    (λ e. and_then (joined (IsPermutation-refl (x ∷ []))
    (found_first test xs w (sym (ap (λ b. cond b (Some x) (find test xs)) e) ∙ h)))
    (to_front (x ∷ []) (w ∷ []) (without_first test xs)))

pub last_two : {X : Type 0} (xs ys zs : List X) → IsPermutation ((xs ++ ys) ++ zs) ((xs ++ zs) ++ ys)
last_two xs ys zs =
    and_then (same_list (append_assoc xs ys zs)) (and_then (joined (IsPermutation-refl xs) (IsPermutation-append_comm ys zs)) (same_list (sym (append_assoc xs zs ys))))

-- what fillings have, and one more
pub one_more : (fs : List Filling) (f : Filling) (rest : List SliceEndpoint) → entries (fs ++ f ∷ []) ++ rest ≡ entries fs ++ (f.endpoints ++ rest)
one_more fs f rest =
    ap (λ es. es ++ rest) (flat_map-append (λ f. f.endpoints) fs _ ∙ ap (λ es. entries fs ++ es) (append-nil f.endpoints))
    ∙ append_assoc (entries fs) f.endpoints rest

pub taken_and_left : (n : ℕ) (ws : List Wanted) → entries_of (take n ws) ++ entries_of (drop n ws) ≡ entries_of ws
taken_and_left n ws = sym (map-append (λ w. w.entry) (take n ws) (drop n ws)) ∙ ap entries_of (take-append-drop n ws)

-- ---- what a slice keeps

record IsKept (most : ℕ) (k l : Keeping) : Type 0 where
  slice : l.filling.slice ≡ k.filling.slice
  within : length l.filling.endpoints ≤ most
  same : IsPermutation (l.filling.endpoints ++ entries_of l.left) (k.filling.endpoints ++ entries_of k.left)

keep_one : (most : ℕ) (k : Keeping) (e : SliceEndpoint) → length k.filling.endpoints ≤ most → IsKept most k (keep_entry most k e)
keep_one most k e le = by _ refl
  where
    by_room : (w : Wanted) (b : Bool) → find (is_entry_of e) k.left ≡ Some w → nat_lt (length k.filling.endpoints) most ≡ b → IsKept most k (cond b (kept k e w) (dropped k))
    by_room w true f room = record {
      slice = refl;
      within = let long = length-append k.filling.endpoints (w.entry ∷ []) in let less = ltb-true (length k.filling.endpoints) most room in omega arith;
      same =
          and_then (same_list (append_assoc k.filling.endpoints (w.entry ∷ []) (entries_of (without_first (is_entry_of e) k.left))))
          (joined (IsPermutation-refl k.filling.endpoints) (IsPermutation-map (λ w. w.entry) _ _ (turned (found_first _ k.left w f))));
    }
    by_room w false f room = record { slice = refl; within = le; same = IsPermutation-refl _ }

    by : (o : Option Wanted) → find (is_entry_of e) k.left ≡ o → IsKept most k (kept_or_dropped most k e o)
    by None f = record { slice = refl; within = le; same = IsPermutation-refl _ }
    by (Some w) f = by_room w _ f refl

keep_rest : (most : ℕ) (es : List SliceEndpoint) (k : Keeping) → length k.filling.endpoints ≤ most → IsKept most k (fold (keep_entry most) k es)
keep_rest most [] k le = record { slice = refl; within = le; same = IsPermutation-refl _ }
keep_rest most (e ∷ es) k le =
    let first = keep_one most k e le in
    let rest = keep_rest most es _ first.within in
    record { slice = rest.slice ∙ first.slice; within = rest.within; same = and_then rest.same first.same }

-- ---- what all slices keep

record IsKeptBy (most : ℕ) (more : List Slice) (p q : Progress) : Type 0 where
  slices : slices_of q.fillings ≡ slices_of p.fillings ++ more
  within : AreWithin most q.fillings
  same : IsPermutation (entries q.fillings ++ entries_of q.left) (entries p.fillings ++ entries_of p.left)

keep_more : (most : ℕ) (slices : List Slice) (p : Progress) → AreWithin most p.fillings → IsKeptBy most slices p (fold (λ p s. add_keeping p (keep_slice most p.left s)) p slices)
keep_more most [] p le = record { slices = sym (append-nil (slices_of p.fillings)); within = le; same = IsPermutation-refl _ }
keep_more most (s ∷ slices) p le =
    let k = keep_slice most p.left s in
    let first = keep_rest most s.endpoints _ (omega arith) in
    let rest = keep_more most slices _ (all_append (λ f. length f.endpoints ≤ most) p.fillings _ le (first.within, tt)) in
    record {
      slices =
          rest.slices
          ∙ ap (λ ss. ss ++ slices) (map-append (λ f. f.slice) p.fillings (k.filling ∷ []) ∙ ap (λ t. slices_of p.fillings ++ t ∷ []) first.slice)
          ∙ append_assoc (slices_of p.fillings) (s ∷ []) slices;
      within = rest.within;
      same = and_then rest.same (and_then (same_list (one_more p.fillings k.filling _)) (joined (IsPermutation-refl (entries p.fillings)) first.same));
    }

kept_by_all : (most : ℕ) (slices : List Slice) (wanted : List Wanted) → IsKeptBy most slices (record { fillings = []; left = wanted }) (keep_all most slices wanted)
kept_by_all most slices wanted = keep_more most slices _ tt

-- ---- slices that are changed are filled

record IsFilled (most : ℕ) (fs : List Filling) (p q : Progress) : Type 0 where
  slices : slices_of q.fillings ≡ slices_of p.fillings ++ slices_of fs
  within : AreWithin most q.fillings
  same : IsPermutation (entries q.fillings ++ entries_of q.left) ((entries p.fillings ++ entries fs) ++ entries_of p.left)

fill_one : (most : ℕ) (p : Progress) (f : Filling) (b : Bool) → length f.endpoints ≤ most → AreWithin most p.fillings → IsFilled most (f ∷ []) p (fill_if b (most - length f.endpoints) p f)
fill_one most p f true le all =
    let room = most - length f.endpoints in
    let more = take room p.left in
    record {
      slices = map-append (λ f. f.slice) p.fillings (with_more f more ∷ []);
      within = all_append (λ f. length f.endpoints ≤ most) p.fillings _ all
          (let long = length-append f.endpoints (entries_of more) in let same = length-map more (λ w. w.entry) in let few = length-take room p.left in omega arith, tt);
      same = same_list (one_more p.fillings _ _
          ∙ ap (λ es. entries p.fillings ++ es) (append_assoc f.endpoints (entries_of more) (entries_of (drop room p.left)) ∙ ap (λ es. f.endpoints ++ es) (taken_and_left room p.left))
          ∙ sym (append_assoc (entries p.fillings) f.endpoints (entries_of p.left))
          ∙ ap (λ es. (entries p.fillings ++ es) ++ entries_of p.left) (sym (append-nil f.endpoints)));
    }
fill_one most p f false le all = record {
  slices = map-append (λ f. f.slice) p.fillings (f ∷ []);
  within = all_append (λ f. length f.endpoints ≤ most) p.fillings _ all (le, tt);
  same = same_list (ap (λ es. es ++ entries_of p.left) (flat_map-append (λ f. f.endpoints) p.fillings _));
}

fill_more : (most : ℕ) (fs : List Filling) (p : Progress) → AreWithin most fs → AreWithin most p.fillings → IsFilled most fs p (fold (λ q f. fill_if f.is_changed (most - length f.endpoints) q f) p fs)
fill_more most [] p les all = record {
  slices = sym (append-nil (slices_of p.fillings));
  within = all;
  same = same_list (ap (λ es. es ++ entries_of p.left) (sym (append-nil (entries p.fillings))));
}
fill_more most (f ∷ fs) p les all =
    let q = fill_if f.is_changed (most - length f.endpoints) p f in
    let first = fill_one most p f f.is_changed les.0 all in
    let rest = fill_more most fs q les.1 first.within in
    record {
      slices = rest.slices ∙ ap (λ ss. ss ++ slices_of fs) first.slices ∙ append_assoc (slices_of p.fillings) (f.slice ∷ []) (slices_of fs);
      within = rest.within;
      same =
          and_then rest.same (and_then (last_two (entries q.fillings) (entries fs) (entries_of q.left)) (and_then (joined first.same (IsPermutation-refl (entries fs)))
          (and_then (last_two (entries p.fillings ++ entries (f ∷ [])) (entries_of p.left) (entries fs))
          (same_list (ap (λ es. es ++ entries_of p.left) (append_assoc (entries p.fillings) (entries (f ∷ [])) (entries fs) ∙ ap (λ es. entries p.fillings ++ (es ++ entries fs)) (append-nil f.endpoints)))))));
    }

-- ---- both steps

pub record IsReady (most : ℕ) (given : List Slice) (wanted : List Wanted) (p : Progress) : Type 0 where
  pub slices : slices_of p.fillings ≡ given
  pub within : AreWithin most p.fillings
  pub few : length p.left ≤ length wanted
  pub same : IsPermutation (entries p.fillings ++ entries_of p.left) (entries_of wanted)

pub two_steps : (most : ℕ) (slices : List Slice) (wanted : List Wanted) → IsReady most slices wanted (fill_changed most (keep_all most slices wanted))
two_steps most slices wanted =
    let p = keep_all most slices wanted in
    let q = fill_changed most p in
    let first = kept_by_all most slices wanted in
    let second = fill_more most p.fillings _ first.within tt in
    let same = and_then second.same first.same in
    record {
      slices = second.slices ∙ first.slices;
      within = second.within;
      few =
          let long = length_permutation _ _ same in let sum = length-append (entries q.fillings) (entries_of q.left) in
          let one = length-map q.left (λ w. w.entry) in let all = length-map wanted (λ w. w.entry) in omega arith;
      same = same;
    }
