-- Workers that walk packets.
use Rattle.std.proofs.Common.{◌≡◌, ◌<◌, ◌+◌, ◌%◌, ◌==◌, ℕ, zero, suc, Bool, true, false, List, [], ◌∷◌, ◌++◌, length, map, take, drop, get_or, set, slice_get, Option, None, Some, IfSome, ap, sym, subst, refl, ◌∙◌, append_assoc, append-nil, arith}
use Rattle.std.specs.Prelude.{Result, Ok, Err, OnOk}
use Rattle.std.specs.List.{AllByRecursion}
use Rattle.std.specs.Option.{option_to_list}
use Rattle.std.specs.Result.{result_err}
use Rattle.std.proofs.lemmas.List.{drop_more, get_or-map, length-map, map-append, map-set}
use Rattle.std.proofs.lemmas.Nat.{mod_below}
use Rattle.std.proofs.lemmas.Option.{slice_get-get_or}
use Rattle.kp_base.specs.Net.{AddressParts}
use Rattle.kp_types.specs.declared.chain.ChainAt.{ChainAt}
use Rattle.kp_types.specs.declared.rule.Rule.{Rule}
use Rattle.kp_types.specs.declared.verdict.Answer.{Answer}
use Rattle.kp_choice_defs.specs.Draws.{AreDraws}
use Rattle.kp_choice_defs.specs.Recent.{RecentParts}
use Rattle.kp_part_laws.specs.Beside.{AreSized, IsInPart, in_turn, one_by_one, own_items, united, worker_of}
use Rattle.kp_part_laws.specs.Unseen.{kept_parts}
use Rattle.kp_part_laws.proofs.Beside.{done_more, side_by_side}
use Rattle.kp_part_laws.proofs.Steps.{walk_in_part}
use Rattle.kp_part_laws.proofs.United.{united_kept}
use Rattle.kp_workers.specs.Walks.{EachDid, EachHasWalked, HasWalked, HasWalkedAny, HaveDraws, Told, WalksOn, all_told, part_in, told_in, walk_step}
use Rattle.kp_workers.specs.Workers.{EachKeepsSize, done_own}
use Rattle.kp_workers.specs.declared.walker.Walker.{Walker}
use Rattle.kp_workers.specs.declared.walks.Numbered.{Numbered}
use Rattle.kp_workers.proofs.BesideLemmas.{sizes_stay}
use Rattle.kp_workers.proofs.WorkerLemmas.{own_by}

-- ---- One worker

module _ (worker : Numbered → ℕ) (step : Numbered → RecentParts → Told × RecentParts) (own : ℕ)
    (items : List Numbered) (n : ℕ) (x : Numbered) (within : n < length items)
    (is : x ≡ get_or items n x) where
  -- a packet of another worker
  pub walks_past : (before after : Walker) → (worker x == own) ≡ false
      → WalksOn (done_own worker step (take n items) own before.lists) before after
      → WalksOn (done_own worker step (take (n + 1) items) own before.lists) before after
  walks_past before after other goes =
      subst (λ xs. WalksOn (one_by_one step xs before.lists) before after)
      (sym (own_by worker own items n x within is false other
      ∙ append-nil (own_items worker own (take n items)))) goes

  -- its own
  pub walks_on : (before now after : Walker) → (worker x == own) ≡ true
      → WalksOn (done_own worker step (take n items) own before.lists) before now
      → WalksOn ((step x now.lists).0 ∷ [], (step x now.lists).1) now after
      → WalksOn (done_own worker step (take (n + 1) items) own before.lists) before after
  walks_on before now after mine goes more =
      let so_far = own_items worker own (take n items) in
      let done = one_by_one step so_far before.lists in
      let next : one_by_one step (so_far ++ x ∷ []) before.lists
      ≡ (done.0 ++ (step x now.lists).0 ∷ [], (step x now.lists).1) =
      done_more step so_far x before.lists
      ∙ ap (λ l. (done.0 ++ (step x l).0 ∷ [], (step x l).1)) (sym goes.lists) in
      subst (λ d. WalksOn d before after)
      (sym (ap (λ xs. one_by_one step xs before.lists)
      (own_by worker own items n x within is true mine) ∙ next))
      (record {
        told =
            more.told ∙ ap (λ t. t ++ (step x now.lists).0 ∷ []) goes.told
            ∙ append_assoc (all_told before.answers.items) done.0 ((step x now.lists).0 ∷ []);
        lists = more.lists;
      })

-- what is walked from no answers on
pub has_walked : {E : Type 0} (result : Result (Unit {0}) E) (done : List Told × RecentParts)
    (before after : Walker) → before.answers.items ≡ [] → OnOk result (WalksOn done before after)
    → result_err result ≡ None → HasWalked done after
has_walked (Ok tt) done before after none goes is = record {
  told = goes.told ∙ ap (λ all. all_told all ++ done.0) none;
  lists = goes.lists;
}
has_walked (Err e) done before after none goes is = absurd (cc)

-- the draws for one of the packets
pub item_draws : (answers : ℕ → ℕ → ℕ → Type 0) (packets : List Numbered) (drawn : ℕ → ℕ → ℕ)
    (n : ℕ) (x : Numbered) → n < length packets → x ≡ get_or packets n x
    → HaveDraws answers packets drawn → AreDraws answers x.number (drawn x.number)
item_draws answers packets drawn n x within is have =
    subst (λ o. IfSome o (λ y. AreDraws answers y.number (drawn y.number)))
    (slice_get-get_or packets n x within ∙ ap Some (sym is)) (have n)

-- ---- Answers in turn

-- the first of some answers
pub popped : (xs ys : List Answer) (r : Option Answer) → xs ≡ option_to_list r ++ ys
    → ys ≡ drop 1 xs → take 1 (all_told xs) ≡ all_told (option_to_list r)
popped [] ys None is rest = refl
popped [] ys (Some a) is rest = absurd (cc)
popped (x ∷ xs) ys None is rest =
    absurd (let long : suc (length xs) ≡ length xs = ap length (is ∙ rest) in omega (arith, long))
popped (x ∷ xs) ys (Some a) is rest = ap (λ y. told_in y ∷ []) (let same : x ≡ a = cc in same)

dropped : (xs : List Answer) → all_told (drop 1 xs) ≡ drop 1 (all_told xs)
dropped [] = refl
dropped (x ∷ xs) = refl

-- the next of a worker
module _ {Q : Type 0} (items_in : Q → List Answer) (worker : Numbered → ℕ) (items : List Numbered)
    (n : ℕ) (x : Numbered) (within : n < length items) (is : x ≡ get_or items n x) (queues : List Q)
    (place : ℕ) (at : place ≡ worker x) (there : place < length queues) (old new d : Q)
    (here : old ≡ get_or queues place d) (r : Option Answer)
    (first : items_in old ≡ option_to_list r ++ items_in new)
    (rest : items_in new ≡ drop 1 (items_in old)) where
  abbrev told_by : Q → List Told
  told_by q = all_told (items_in q)

  abbrev on : List Q
  on = set queues place new

  abbrev left : List Told
  left = in_turn worker (drop (n + 1) items) (map told_by on)

  mine : get_or (map told_by queues) (worker x) [] ≡ told_by old
  mine =
      get_or-map told_by queues (worker x) d [] (subst (λ p. p < length queues) at there)
      ∙ sym (ap told_by (here ∙ ap (λ p. get_or queues p d) at))

  others : set (map told_by queues) (worker x) (drop 1 (get_or (map told_by queues) (worker x) []))
      ≡ map told_by on
  others =
      (λ i. set (map told_by queues) (sym at i) (drop 1 (mine i)))
      ∙ ap (set (map told_by queues) place) (sym (ap all_told rest ∙ dropped (items_in old)))
      ∙ sym (map-set told_by queues place new)

  next_told : in_turn worker (drop n items) (map told_by queues)
      ≡ all_told (option_to_list r) ++ left
  next_told =
      ap (λ xs. in_turn worker xs (map told_by queues))
      (drop_more items n x within ∙ ap (λ y. y ∷ drop (n + 1) items) (sym is))
      ∙ (λ i. take 1 (mine i) ++ in_turn worker (drop (n + 1) items) (others i))
      ∙ ap (λ t. t ++ left) (popped (items_in old) (items_in new) r first rest)

  pub turns : (so_far grown : List Answer) (all : List Told)
      → grown ≡ so_far ++ option_to_list r
      → all_told so_far ++ in_turn worker (drop n items) (map told_by queues) ≡ all
      → all_told grown ++ left ≡ all
  turns so_far grown all more before =
      ap (λ xs. all_told xs ++ left) more
      ∙ ap (λ t. t ++ left) (map-append told_in so_far (option_to_list r))
      ∙ append_assoc (all_told so_far) (all_told (option_to_list r)) left
      ∙ ap (λ t. all_told so_far ++ t) (sym next_told) ∙ before

-- ---- Workers that are taken apart

-- a part of one more
pub moved : {S B : Type 0} (f : S → B) (left after : List S) (x : S) (b : B)
    (done more all : List B) → b ≡ f x → left ≡ x ∷ after → more ≡ done ++ b ∷ []
    → done ++ map f left ≡ all → more ++ map f after ≡ all
moved f left after x b done more all is moves grown before =
    ap (λ l. l ++ map f after) (grown ∙ ap (λ y. done ++ y ∷ []) is)
    ∙ append_assoc done (f x ∷ []) (map f after) ∙ sym (ap (λ l. done ++ map f l) moves) ∙ before

-- what holds of one more
pub holds_of_all : {S : Type 0} (P : S → Type 0) (left after : List S) (x : S) (all : List S)
    → left ≡ x ∷ after → P x → (AllByRecursion P left → AllByRecursion P all)
    → AllByRecursion P after → AllByRecursion P all
holds_of_all P left after x all moves p before rest =
    before (subst (AllByRecursion P) (sym moves) (p, rest))

-- ---- All workers

-- a fact of all, at each place
pub all_at : {A : Type 0} (P : A → Type 0) (xs : List A) → AllByRecursion P xs → (w : ℕ)
    → IfSome (slice_get xs w) P
all_at P [] all w = tt
all_at P (x ∷ xs) all zero = all.0
all_at P (x ∷ xs) all (suc w) = all_at P xs all.1 w

-- what each did says more than what is asked
pub each_did : (P Q : ℕ → Walker → Walker → Type 0) (befores afters : List Walker)
    → ((w : ℕ) (before after : Walker) → P w before after → Q w before after)
    → EachDid P befores afters → EachDid Q befores afters
each_did P Q [] afters so did w = tt
each_did P Q (x ∷ xs) [] so did zero = tt
each_did P Q (x ∷ xs) [] so did (suc w) =
    each_did (λ v. P (suc v)) (λ v. Q (suc v)) xs [] (λ v. so (suc v)) (λ v. did (suc v)) w
each_did P Q (x ∷ xs) (y ∷ ys) so did zero = λ none. so 0 x y (did 0 none)
each_did P Q (x ∷ xs) (y ∷ ys) so did (suc w) =
    each_did (λ v. P (suc v)) (λ v. Q (suc v)) xs ys (λ v. so (suc v)) (λ v. did (suc v)) w

-- each walked its own by these draws
pub each_walked : (answers : ℕ → ℕ → ℕ → Type 0) (at : ChainAt → Option (List Rule))
    (node : List AddressParts) (shown packets : List Numbered) (drawn : ℕ → ℕ → ℕ)
    (befores afters : List Walker) → shown ≡ packets → HaveDraws answers packets drawn
    → EachDid (λ w before after.
    HasWalkedAny answers at node shown (length befores) w before.lists after) befores afters
    → EachHasWalked (done_own (λ x. worker_of (length befores) (part_in x))
    (walk_step at node drawn) packets) befores afters
each_walked answers at node shown packets drawn befores afters same have did =
    each_did
    (λ w before after. HasWalkedAny answers at node packets (length befores) w before.lists after)
    (λ w before after. HasWalked (done_own (λ x. worker_of (length befores) (part_in x))
    (walk_step at node drawn) packets w before.lists) after)
    befores afters (λ w before after any. any.by drawn have)
    (subst (λ xs. EachDid
    (λ w before after. HasWalkedAny answers at node xs (length befores) w before.lists after)
    befores afters) same did)

-- the walk of a packet looks at its part
pub walk_local : (at : ChainAt → Option (List Rule)) (node : List AddressParts)
    (drawn : ℕ → ℕ → ℕ) (x : Numbered) → IsInPart (part_in x) (walk_step at node drawn x)
walk_local at node drawn x =
    walk_in_part (λ verdict trail. (verdict, trail)) at node x.packet (drawn x.number)

-- no worker was refused memory
abbrev NoneStopped : List Walker → Type 0
NoneStopped walkers = (w : ℕ) → IfSome (slice_get walkers w) (λ x. x.refused ≡ None)

-- each worker did its own
walked_own : (done : ℕ → RecentParts → List Told × RecentParts) (befores afters : List Walker)
    → EachHasWalked done befores afters → NoneStopped afters
    → (w : ℕ) → IfSome (slice_get (map (λ x. x.lists) befores) w) (λ value.
    IfSome (slice_get (map (λ x. x.lists) afters) w)
    (λ after. done w value ≡ (get_or (map (λ x. all_told x.answers.items) afters) w [], after)))
walked_own done [] afters each none w = tt
walked_own done (x ∷ xs) [] each none zero = tt
walked_own done (x ∷ xs) [] each none (suc w) =
    walked_own (λ v. done (suc v)) xs [] (λ v. each (suc v)) (λ v. tt) w
walked_own done (x ∷ xs) (y ∷ ys) each none zero =
    λ i. (sym (each 0 (none 0)).told i, sym (each 0 (none 0)).lists i)
walked_own done (x ∷ xs) (y ∷ ys) each none (suc w) =
    walked_own (λ v. done (suc v)) xs ys (λ v. each (suc v)) (λ v. none (suc v)) w

-- lists that are split have the size of those before
split_sized : (lists : RecentParts) (keeps : ℕ → ℕ → Bool) (values : List RecentParts)
    → ((w : ℕ) → IfSome (slice_get values w) (λ value. value ≡ kept_parts (keeps w) lists))
    → AreSized lists.size values
split_sized lists keeps [] kept w = tt
split_sized lists keeps (x ∷ xs) kept zero = ap (λ (l : RecentParts). l.size) (kept 0)
split_sized lists keeps (x ∷ xs) kept (suc w) =
    split_sized lists (λ v. keeps (suc v)) xs (λ v. kept (suc v)) w

-- and so have those that workers had of them
pub taken_sized : (lists : RecentParts) (keeps : ℕ → ℕ → Bool) (values : List RecentParts)
    → ((w : ℕ) → IfSome (slice_get values w) (λ value. value ≡ kept_parts (keeps w) lists))
    → (befores afters : List Walker) → map (λ x. x.lists) befores ≡ values
    → length afters ≡ length befores → EachKeepsSize (λ x. x.lists) befores afters
    → (taken : List RecentParts) (size : ℕ) → taken ≡ map (λ x. x.lists) afters
    → size ≡ lists.size → AreSized size taken
taken_sized lists keeps values kept befores afters from long sizes taken size are same w =
    subst (λ n. IfSome (slice_get taken w) (λ value. value.size ≡ n)) (sym same)
    (subst (λ vs. AreSized lists.size vs) (sym are)
    (sizes_stay (λ x. x.lists) lists.size befores afters long sizes
    (subst (AreSized lists.size) (sym from) (split_sized lists keeps values kept))) w)

module _ (step : Numbered → RecentParts → Told × RecentParts)
    (local : (x : Numbered) → IsInPart (part_in x) (step x)) (packets : List Numbered)
    (lists : RecentParts) (values : List RecentParts) (count : ℕ)
    (many : length values ≡ count) (some : 0 < count)
    (kept : (w : ℕ) → IfSome (slice_get values w)
    (λ value. value ≡ kept_parts (λ part. worker_of count part == w) lists))
    (befores afters : List Walker) (from : map (λ x. x.lists) befores ≡ values)
    (long : length afters ≡ length befores)
    (each : EachHasWalked (done_own (λ x. worker_of (length befores) (part_in x)) step packets)
    befores afters)
    (all : AllByRecursion (λ x. x.refused ≡ None) afters) where
  abbrev now : List RecentParts
  now = map (λ x. x.lists) afters

  pub wide : length befores ≡ count
  wide = sym (length-map befores (λ x. x.lists)) ∙ ap length from ∙ many

  none : NoneStopped afters
  none = all_at (λ x. x.refused ≡ None) afters all

  pub now_long : length now ≡ count
  now_long = length-map afters (λ x. x.lists) ∙ long ∙ wide

  -- the answers in turn, and the lists together, are those of one thread
  pub walked_all : one_by_one step packets lists
      ≡ (
        in_turn (λ x. worker_of count (part_in x)) packets
            (map (λ x. all_told x.answers.items) afters),
        united (worker_of count) lists.size now,
      )
  walked_all =
      let told = map (λ x. all_told x.answers.items) afters in
      let owned : (part : ℕ) → worker_of count part < length values = λ part.
      subst (λ k. worker_of count part < k) (sym many) (mod_below (part % 16) count some) in
      ap (one_by_one step packets)
      (sym (united_kept (worker_of count) lists.size lists values refl owned kept))
      ∙ side_by_side (worker_of count) part_in step local lists.size values now told packets
      (λ x. owned (part_in x)) (now_long ∙ sym many)
      (length-map afters (λ x. all_told x.answers.items) ∙ long ∙ wide ∙ sym many)
      (split_sized lists (λ w part. worker_of count part == w) values kept)
      (subst (λ vs. (w : ℕ) → IfSome (slice_get vs w) (λ value. IfSome (slice_get now w)
      (λ after. one_by_one step (own_items (λ x. worker_of count (part_in x)) w packets) value
      ≡ (get_or told w [], after)))) from
      (subst (λ n. (w : ℕ) → IfSome (slice_get (map (λ x. x.lists) befores) w) (λ value.
      IfSome (slice_get now w)
      (λ after. one_by_one step (own_items (λ x. worker_of n (part_in x)) w packets) value
      ≡ (get_or told w [], after)))) wide
      (walked_own (done_own (λ x. worker_of (length befores) (part_in x)) step packets) befores
      afters each none)))

  -- what is taken of them, and the lists that are united of it
  module _ {Q : Type 0} (queue_of : Walker → Q) (items_in : Q → List Answer)
      (its : (x : Walker) → items_in (queue_of x) ≡ x.answers.items) where
    queues_told : (xs : List Walker) → map (λ q. all_told (items_in q)) (map queue_of xs)
        ≡ map (λ x. all_told x.answers.items) xs
    queues_told [] = refl
    queues_told (x ∷ xs) = λ i. all_told (its x i) ∷ queues_told xs i

    pub finished : (shown : List Numbered) (queues : List Q) (taken : List RecentParts)
        (size : ℕ) (answers : List Answer) (new : RecentParts) → shown ≡ packets
        → queues ≡ map queue_of afters → taken ≡ now → size ≡ lists.size
        → all_told answers ≡ in_turn (λ x. worker_of (length queues) (part_in x)) shown
        (map (λ q. all_told (items_in q)) queues)
        → new ≡ united (worker_of (length taken)) size taken
        → one_by_one step packets lists ≡ (all_told answers, new)
    finished shown queues taken size answers new same of_all are sizes turned joined =
        let many_queues : length queues ≡ count =
        ap length of_all ∙ length-map afters queue_of ∙ long ∙ wide in
        walked_all
        ∙ (λ i. (
          sym (turned ∙ (λ j. in_turn (λ x. worker_of (many_queues j) (part_in x)) (same j)
              ((ap (map (λ q. all_told (items_in q))) of_all ∙ queues_told afters) j))) i,
          sym (joined
              ∙ (λ j. united (worker_of ((ap length are ∙ now_long) j)) (sizes j) (are j))) i,
        ))
