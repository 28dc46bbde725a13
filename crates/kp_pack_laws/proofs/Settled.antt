-- Slices of a group that have its wanted endpoints: packing finds each entry where it stands.
use Rattle.std.proofs.Common.{◌≡◌, ℕ, ◌+◌, ◌-◌, ◌<◌, ◌≤◌, Bool, true, false, cond, not, ◌&&◌, List, [], ◌∷◌, ◌++◌, map, length, bytes_eq, Option, Some, None, refl, sym, ap, ◌∙◌, append_assoc, append-nil, length-append, arith, lt-ltb}
use Rattle.std.proofs.lemmas.Option.{none-some}
use Rattle.std.specs.List.{find, filter, fold, flat_map, AllByRecursion, IsDistinct}
use Rattle.std.specs.Cmp.Lexicographic.{pointwise, nat_list_eq_equiv}
use Rattle.std.proofs.lemmas.Bool.{and_parts, and_from, cond_both}
use Rattle.std.proofs.lemmas.Cmp.{lists_equiv}
use Rattle.std.proofs.lemmas.List.{nil_from_length}
use Rattle.kp_base.specs.Net.{AddressParts, same_address}
use Rattle.kp_base.proofs.SameParts.{address_itself}
use Rattle.kp_types.specs.declared.slice.SliceEndpoint.{SliceEndpoint}
use Rattle.kp_types.specs.declared.slice.Slice.{Slice}
use Rattle.kp_types.specs.declared.slice.Wanted.{Wanted}
use Rattle.kp_object_defs.specs.Packing.{Filling, Keeping, Progress, same_option, same_object, same_flag, same_entry, is_entry_of, without_first, dropped, kept, kept_or_dropped, keep_entry, keep_slice, add_keeping, fill_if, fill_changed, placed_from, packed_group}
use Rattle.kp_lemmas.proofs.ListFacts.{all_both, all_weaker}
use Rattle.kp_pack_laws.proofs.Shuffles.{all_unmapped}
use Rattle.kp_object_defs.proofs.SameObjects.{object_itself}
use Rattle.kp_pack_laws.proofs.Pods.{object_turned, same_pod, pod_exact, pod_same, pod_turned, AreNamed, ArePodsApart}

-- ---- an entry says the same as itself

address_same : (a : Option AddressParts) → same_option same_address a a ≡ true
address_same None = refl
address_same (Some a) = address_itself a

flag_same : (b : Bool) → same_flag b b ≡ true
flag_same true = refl
flag_same false = refl

text_same : (a : Option (List ℕ)) → same_option bytes_eq a a ≡ true
text_same None = refl
text_same (Some a) = nat_list_eq_equiv.refl a

entry_same : (e : SliceEndpoint) → same_entry e e ≡ true
entry_same e =
    and_from _ _ (and_from _ _ (address_same e.address) (and_from _ _ (flag_same e.ready)
    (and_from _ _ (flag_same e.serving) (flag_same e.terminating))))
    (and_from _ _ (text_same e.node) (and_from _ _ (text_same e.zone)
    (and_from _ _ ((lists_equiv nat_list_eq_equiv).refl e.hints) (pod_same e.pod))))

pub entries_same : (es : List SliceEndpoint) → pointwise same_entry es es ≡ true
entries_same [] = refl
entries_same (e ∷ es) = and_from _ _ (entry_same e) (entries_same es)

-- ---- an entry finds its wanted endpoint

own_entry : (w : Wanted) → w.entry.pod ≡ Some w.pod → is_entry_of w.entry w ≡ true
own_entry w named =
    and_from _ _
    (ap (λ p. same_pod p (Some w.pod)) named ∙ object_itself w.pod) (address_same w.entry.address)

other_entry : (v w : Wanted) → w.entry.pod ≡ Some w.pod → same_object w.pod v.pod ≡ false
    → is_entry_of w.entry v ≡ false
other_entry v w named apart =
    let at = same_option same_address w.entry.address v.entry.address in
    ap (λ p. same_pod p (Some v.pod) && at) named ∙ ap (λ b. b && at) apart

passed_over : {X : Type 0} (test : X → Bool) (x : X) (xs : List X) (b : Bool) → test x ≡ false
    → find test (cond b (x ∷ xs) xs) ≡ find test xs
passed_over test x xs true h = ap (λ c. cond c (Some x) (find test xs)) h
passed_over test x xs false h = refl

-- of wanted endpoints that pass a test, each is found by its entry
module _ (q : Wanted → Bool) where
  abbrev FoundIn : List Wanted → Wanted → Type 0
  FoundIn ws w = q w ≡ true → find (is_entry_of w.entry) (filter q ws) ≡ Some w

  first_found : (w : Wanted) (ws : List Wanted) → w.entry.pod ≡ Some w.pod → FoundIn (w ∷ ws) w
  first_found w ws named h =
      ap (λ b. find (is_entry_of w.entry) (cond b (w ∷ filter q ws) (filter q ws))) h
      ∙ ap (λ b. cond b (Some w) (find (is_entry_of w.entry) (filter q ws))) (own_entry w named)

  later_found : (w : Wanted) (ws : List Wanted) (v : Wanted)
      → (v.entry.pod ≡ Some v.pod) × ((same_object w.pod v.pod ≡ false) × FoundIn ws v)
      → FoundIn (w ∷ ws) v
  later_found w ws v known h =
      passed_over _ w _ (q w) (other_entry w v known.0 (object_turned v.pod w.pod ∙ known.1.0))
      ∙ known.1.1 h

  pub each_found : (ws : List Wanted) → AreNamed ws → ArePodsApart ws
      → AllByRecursion (FoundIn ws) ws
  unfolding IsDistinct
  each_found [] named apart = tt
  each_found (w ∷ ws) named apart =
      let others = all_unmapped (λ p. same_object w.pod p ≡ false) (λ v. v.pod) ws apart.0 in
      let rest = all_both _ _ ws others (each_found ws named.1 apart.1) in (
        first_found w ws named.0,
        all_weaker _ _ (later_found w ws) ws
            (all_both _ _ ws named.1 rest),
      )

-- ---- a slice keeps its entries

without_other : (p q : Wanted → Bool) → ((w : Wanted) → p w ≡ true → q w ≡ false)
    → (ws : List Wanted)
    → find q (without_first p ws) ≡ find q ws
without_other p q never [] = refl
without_other p q never (w ∷ ws) =
    cond_both (p w) ws _ (λ vs. find q vs ≡ cond (q w) (Some w) (find q ws))
    (λ e. sym (ap (λ c. cond c (Some w) (find q ws)) (never w e)))
    (λ e. ap (cond (q w) (Some w)) (without_other p q never ws))

one_less : (p : Wanted → Bool) (ws : List Wanted) (w : Wanted) → find p ws ≡ Some w
    → length ws ≡ 1 + length (without_first p ws)
one_less p [] w h = absurd (none-some w h)
one_less p (v ∷ ws) w h =
    cond_both (p v) ws _ (λ vs. length (v ∷ ws) ≡ 1 + length vs) (λ e. omega arith)
    (λ e. omega (arith, one_less p ws w (sym (ap (λ b. cond b (Some v) (find p ws)) e) ∙ h)))

-- an entry finds a wanted endpoint whose content is its own
abbrev pub Finds : List Wanted → SliceEndpoint → Type 0
Finds ws e = (w : Wanted) × (find (is_entry_of e) ws ≡ Some w) × (w.entry ≡ e)

-- these entries are those of what is left
pub record AreThere (es : List SliceEndpoint) (left : List Wanted) : Type 0 where
  pub finds : AllByRecursion (Finds left) es
  pub once : IsDistinct same_pod (map (λ e. e.pod) es)
  pub many : length es ≡ length left

apart_finds : (e x : SliceEndpoint) (left : List Wanted)
    → Finds left x × (same_pod e.pod x.pod ≡ false)
    → Finds (without_first (is_entry_of e) left) x
apart_finds e x left known = (known.0.0, without_other _ _ never left ∙ known.0.1, known.0.2)
  where
    never : (w : Wanted) → is_entry_of e w ≡ true → is_entry_of x w ≡ false
    never w h =
        let at = same_option same_address x.address w.entry.address in
        let is = pod_exact e.pod _ (and_parts (same_pod e.pod (Some w.pod)) _ h).0 in
        ap (λ p. same_pod x.pod p && at) (sym is)
        ∙ ap (λ b. b && at) (pod_turned x.pod e.pod ∙ known.1)

one_kept : (e : SliceEndpoint) (es : List SliceEndpoint) (left : List Wanted) (w : Wanted)
    → find (is_entry_of e) left ≡ Some w → AreThere (e ∷ es) left
    → AreThere es (without_first (is_entry_of e) left)
unfolding IsDistinct
one_kept e es left w found there =
    let others = all_unmapped (λ p. same_pod e.pod p ≡ false) (λ x. x.pod) es there.once.0 in
    record {
      finds =
          all_weaker _ _ (λ x known. apart_finds e x left known) es
          (all_both _ _ es there.finds.1 others);
      once = there.once.1;
      many = omega (arith, there.many, one_less (is_entry_of e) left w found);
    }

-- a slice that has kept these entries as they were
abbrev keeping : Slice → List SliceEndpoint → List Wanted → Keeping
keeping s es left =
    record { filling = record { slice = s; endpoints = es; is_changed = false }; left = left }

module _ (most : ℕ) (s : Slice) where
  keep_one : (done : List SliceEndpoint) (e : SliceEndpoint) (left : List Wanted) → Finds left e
      → length done < most
      → keep_entry most (keeping s done left) e ≡ keeping s (done ++ e ∷ [])
      (without_first (is_entry_of e) left)
  keep_one done e left f less =
      let k = keeping s done left in
      let rest = without_first (is_entry_of e) left in
      ap (kept_or_dropped most k e) f.1
      ∙ ap (λ b. cond b (kept k e f.0) (dropped k)) (lt-ltb (length done) most less)
      ∙ ap (λ x. record {
        filling =
            record { slice = s; endpoints = done ++ x ∷ []; is_changed = not (same_entry e x) };
        left = rest;
      }) f.2
      ∙ ap (λ b. record {
        filling =
            record { slice = s; endpoints = done ++ e ∷ []; is_changed = not b };
        left = rest;
      })
      (entry_same e)

  keep_rest : (es done rest : List SliceEndpoint) (left : List Wanted) → AreThere (es ++ rest) left
      → length done + length es ≤ most
      → (after : List Wanted)
      × (fold (keep_entry most) (keeping s done left) es ≡ keeping s (done ++ es) after)
      × AreThere rest after
  keep_rest [] done rest left there le =
      (left, ap (λ l. keeping s l left) (sym (append-nil done)), there)
  keep_rest (e ∷ es) done rest left there le =
      let f = there.finds.0 in
      let long = length-append done (e ∷ []) in
      let less : length done < most = omega arith in
      let next = one_kept e _ left f.0 f.1 there in
      let still = without_first (is_entry_of e) left in
      let more = keep_rest es _ rest still next (omega arith) in (
        more.0,
        ap (λ k. fold (keep_entry most) k es) (keep_one done e left f less) ∙ more.1
            ∙ ap (λ l. keeping s l more.0) (append_assoc done (e ∷ []) es),
        more.2,
      )

-- ---- the three steps

-- a slice with all its entries
abbrev pub whole : Slice → Filling
whole s = record { slice = s; endpoints = s.endpoints; is_changed = false }

keep_every : (most : ℕ) (ss : List Slice) (p : Progress)
    → AreThere (flat_map (λ s. s.endpoints) ss) p.left
    → AllByRecursion (λ s. length s.endpoints ≤ most) ss
    → fold (λ p s. add_keeping p (keep_slice most p.left s)) p ss
    ≡ record { fillings = p.fillings ++ map whole ss; left = [] }
keep_every most [] p there le =
    λ i. record {
      fillings =
          sym (append-nil p.fillings) i;
      left = nil_from_length p.left (sym there.many) i;
    }
keep_every most (s ∷ ss) p there le =
    let k = keep_rest most s s.endpoints [] _ p.left there (omega (arith, le.0)) in
    ap (λ k. fold (λ p s. add_keeping p (keep_slice most p.left s)) (add_keeping p k) ss) k.1
    ∙ keep_every most ss _ k.2 le.1 ∙ ap (λ fs. record {
      fillings = fs;
      left = [];
    }) (append_assoc p.fillings (whole s ∷ []) (map whole ss))

fill_none : (most : ℕ) (ss : List Slice) (fs : List Filling)
    → fold (λ q f. fill_if f.is_changed (most - length f.endpoints) q f) (record {
      fillings =
          fs;
      left = [];
    }) (map whole ss)
    ≡ record { fillings = fs ++ map whole ss; left = [] }
fill_none most [] fs = ap (λ l. record { fillings = l; left = [] }) (sym (append-nil fs))
fill_none most (s ∷ ss) fs =
    fill_none most ss _
    ∙ ap (λ l. record { fillings = l; left = [] }) (append_assoc fs (whole s ∷ []) (map whole ss))

-- slices of a group that have its wanted endpoints stay as they are
pub group_stays : (most : ℕ) (ss : List Slice) (ws : List Wanted)
    → AreThere (flat_map (λ s. s.endpoints) ss) ws
    → AllByRecursion (λ s. length s.endpoints ≤ most) ss
    → packed_group most ss ws ≡ record { fillings = map whole ss; made = [] }
group_stays most ss ws there le =
    ap (λ p. placed_from most (fill_changed most p)) (keep_every most ss _ there le)
    ∙ ap (placed_from most) (fill_none most ss [])
