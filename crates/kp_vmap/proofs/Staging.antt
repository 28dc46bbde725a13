-- Ports that are taken out and put in at destinations, one destination after another.
use Rattle.std.proofs.Common.{◌≡◌, Bool, true, false, cond, ◌&&◌, ◌||◌, List, [], ◌∷◌, ◌++◌, Option}
use Rattle.std.proofs.Common.{Some, None, refl, sym, ap, ◌∙◌}
use Rattle.std.specs.FinMap as finite
use Rattle.std.specs.FinMap.{get, get-insert, get-remove, same_map}
use Rattle.std.specs.Option.{unwrap_or}
use Rattle.std.specs.Ordering.{eq_by_cmp}
use Rattle.std.proofs.lemmas.List.Folds.{list_any-append}
use Rattle.kp_lemmas.proofs.Orders.{one_from_tie}
use Rattle.kp_base.specs.Keys.{port_key_cmp}
use Rattle.kp_base.specs.declared.key.PortKey.{PortKey}
use Rattle.kp_base.proofs.KeyOrder.{port_key_exact, port_key_total}
use Rattle.kp_object_defs.specs.PortInfo.{PortInfo}
use Rattle.kp_vmap_defs.proofs.Destinations.{destination_exact, destination_total}
use Rattle.kp_vmap_defs.specs.VerdictMap.{destination_cmp, destination_of}
use Rattle.kp_vmap_defs.specs.declared.door.Destination.{Destination}
use Rattle.kp_vmap_defs.specs.declared.door.MapDoor.{MapDoor}
use Rattle.kp_vmap.specs.Places.{Answers, PortMap, at_place, if_at, is_one_at, placed, put_at}
use Rattle.kp_vmap.specs.Places.{staged_at, stands_at, taken_at}

-- ---- one more destination

within_both : {X : Type 0} (t : Bool) (v was : Option X) → cond t v (cond t v was) ≡ cond t v was
within_both true v was = refl
within_both false v was = refl

removed_twice : (m : PortMap) (key : PortKey)
    → finite.remove (finite.remove m key) key ≡ finite.remove m key
removed_twice m key =
    same_map port_key_total port_key_exact _ _ (λ q.
    get-remove port_key_total (finite.remove m key) key q
    ∙ ap (cond (eq_by_cmp port_key_cmp q key) None) (get-remove port_key_total m key q)
    ∙ within_both (eq_by_cmp port_key_cmp q key) None (get m q)
    ∙ sym (get-remove port_key_total m key q))

inserted_twice : (m : PortMap) (i : PortInfo)
    → finite.insert (finite.insert m i.key i) i.key i ≡ finite.insert m i.key i
inserted_twice m i =
    same_map port_key_total port_key_exact _ _ (λ q.
    get-insert port_key_total (finite.insert m i.key i) i.key i q
    ∙ ap (cond (eq_by_cmp port_key_cmp q i.key) (Some i)) (get-insert port_key_total m i.key i q)
    ∙ within_both (eq_by_cmp port_key_cmp q i.key) (Some i) (get m q)
    ∙ sym (get-insert port_key_total m i.key i q))

taken_more : (b t : Bool) (key : PortKey) (m : PortMap)
    → taken_at t key (taken_at b key m) ≡ taken_at (b || t) key m
taken_more true true key m = removed_twice m key
taken_more true false key m = refl
taken_more false t key m = refl

put_more : (b t : Bool) (i : PortInfo) (m : PortMap)
    → put_at t i (put_at b i m) ≡ put_at (b || t) i m
put_more true true i m = inserted_twice m i
put_more true false i m = refl
put_more false t i m = refl

or_nothing : (a b : Bool) → a || (b || false) ≡ a || b
or_nothing true b = refl
or_nothing false true = refl
or_nothing false false = refl

one_more : (doors : List MapDoor) (door : MapDoor) (d : Destination)
    → is_one_at (doors ++ door ∷ []) d
    ≡ is_one_at doors d || eq_by_cmp destination_cmp d (destination_of door)
one_more doors door d =
    list_any-append (λ e. eq_by_cmp destination_cmp d (destination_of e)) doors (door ∷ [])
    ∙ or_nothing (is_one_at doors d) (eq_by_cmp destination_cmp d (destination_of door))

-- ---- the ports at a destination are staged

unwrapped : {X : Type 0} (t : Bool) (x other : X) (o : Option X)
    → unwrap_or (cond t (Some x) o) other ≡ cond t x (unwrap_or o other)
unwrapped true x other o = refl
unwrapped false x other o = refl

-- what is staged at a destination, where all else is as it was before
pub staged_more : (kept before middle after : List (Destination × PortMap)) (at : Destination)
    (ports changed : PortMap) (change : PortMap → PortMap)
    → placed after ≡ finite.insert (placed middle) at changed
    → changed ≡ change ports
    → ports ≡ staged_at kept before at
    → ((d : Destination) → eq_by_cmp destination_cmp d at ≡ false
    → staged_at kept middle d ≡ staged_at kept before d)
    → (d : Destination) → staged_at kept after d
    ≡ cond (eq_by_cmp destination_cmp d at) (change (staged_at kept before d))
    (staged_at kept before d)
staged_more kept before middle after at ports changed change put is was others d =
    ap (λ m. unwrap_or (get m d) (at_place kept d)) put
    ∙ ap (λ o. unwrap_or o (at_place kept d))
    (get-insert destination_total (placed middle) at changed d)
    ∙ unwrapped (eq_by_cmp destination_cmp d at) changed (at_place kept d) (get (placed middle) d)
    ∙ by (eq_by_cmp destination_cmp d at) refl
  where
    by : (t : Bool) → eq_by_cmp destination_cmp d at ≡ t
        → cond t changed (staged_at kept middle d)
        ≡ cond t (change (staged_at kept before d)) (staged_at kept before d)
    by true tie = is ∙ ap change
        (was ∙ ap (staged_at kept before) (sym (one_from_tie destination_exact d at tie)))
    by false other = others d other

-- one more of the doors that a port is taken from
pub taken_from_more : (kept before after : List (Destination × PortMap))
    (start : Destination → PortMap) (doors : List MapDoor) (door : MapDoor) (key : PortKey)
    → ((d : Destination) → staged_at kept before d ≡ taken_at (is_one_at doors d) key (start d))
    → ((d : Destination) → staged_at kept after d
    ≡ taken_at (eq_by_cmp destination_cmp d (destination_of door)) key (staged_at kept before d))
    → (d : Destination) → staged_at kept after d
    ≡ taken_at (is_one_at (doors ++ door ∷ []) d) key (start d)
taken_from_more kept before after start doors door key so_far step d =
    let tie = eq_by_cmp destination_cmp d (destination_of door) in
    step d ∙ ap (taken_at tie key) (so_far d) ∙ taken_more (is_one_at doors d) tie key (start d)
    ∙ ap (λ b. taken_at b key (start d)) (sym (one_more doors door d))

-- one more of the doors that it is put at
pub put_into_more : (kept before after : List (Destination × PortMap))
    (start : Destination → PortMap) (doors : List MapDoor) (door : MapDoor) (i : PortInfo)
    → ((d : Destination) → staged_at kept before d ≡ put_at (is_one_at doors d) i (start d))
    → ((d : Destination) → staged_at kept after d
    ≡ put_at (eq_by_cmp destination_cmp d (destination_of door)) i (staged_at kept before d))
    → (d : Destination) → staged_at kept after d
    ≡ put_at (is_one_at (doors ++ door ∷ []) d) i (start d)
put_into_more kept before after start doors door i so_far step d =
    let tie = eq_by_cmp destination_cmp d (destination_of door) in
    step d ∙ ap (put_at tie i) (so_far d) ∙ put_more (is_one_at doors d) tie i (start d)
    ∙ ap (λ b. put_at b i (start d)) (sym (one_more doors door d))

-- ---- a port is taken out of where it stood, and put where it stands

module _ (key q : PortKey) (was : PortMap) (d : Destination) where
  abbrev tie : Bool
  tie = eq_by_cmp port_key_cmp q key

  pub taken_answer : (there : Bool)
      → get (taken_at there key was) q ≡ cond (there && tie) None (get was q)
  taken_answer true = get-remove port_key_total was key q
  taken_answer false = refl

  pub put_answer : (there : Bool) (i : PortInfo) → i.key ≡ key
      → get (put_at there i was) q ≡ cond (there && tie) (Some i) (get was q)
  put_answer true i named = get-insert port_key_total was i.key i q
      ∙ ap (λ k. cond (eq_by_cmp port_key_cmp q k) (Some i) (get was q)) named
  put_answer false i named = refl

-- where the name isn't the port's, nothing changes; where it is, what was there is gone
gone_at : (t b : Bool) (o : Option PortInfo) (i : PortInfo) → (t ≡ true → o ≡ cond b (Some i) None)
    → cond (b && t) None o ≡ cond t None o
gone_at true true o i h = refl
gone_at true false o i h = h refl
gone_at false true o i h = refl
gone_at false false o i h = refl

stays_or_comes : (t b : Bool) (o : Option PortInfo) (i : PortInfo)
    → cond (b && t) (Some i) (cond t None o) ≡ cond t (cond b (Some i) None) o
stays_or_comes true true o i = refl
stays_or_comes true false o i = refl
stays_or_comes false true o i = refl
stays_or_comes false false o i = refl

-- a port that was known is taken out
pub taken_out : (key : PortKey) (i : PortInfo) (was now : PortMap) (d : Destination) → i.key ≡ key
    → get was key ≡ if_at d (Some i)
    → now ≡ taken_at (stands_at d i) i.key was
    → Answers key None was now
taken_out key i was now d named known is q =
    ap (λ m. get m q) (is ∙ ap (λ k. taken_at (stands_at d i) k was) named)
    ∙ taken_answer key q was d (stands_at d i)
    ∙ gone_at (eq_by_cmp port_key_cmp q key) (stands_at d i) (get was q) i
    (λ tie. ap (get was) (one_from_tie port_key_exact q key tie) ∙ known)

-- one that wasn't known stands nowhere
pub none_out : (key : PortKey) (was : PortMap) (d : Destination) → get was key ≡ if_at d None
    → Answers key None was was
none_out key was d known q =
    by (eq_by_cmp port_key_cmp q key) refl
  where
    by : (t : Bool) → eq_by_cmp port_key_cmp q key ≡ t → get was q ≡ cond t None (get was q)
    by true tie = ap (get was) (one_from_tie port_key_exact q key tie) ∙ known
    by false other = refl

-- one that is known now is put in
pub put_in : (key : PortKey) (i : PortInfo) (was middle now : PortMap) (d : Destination)
    → i.key ≡ key
    → Answers key None was middle
    → now ≡ put_at (stands_at d i) i middle
    → Answers key (if_at d (Some i)) was now
put_in key i was middle now d named out is q =
    let t = eq_by_cmp port_key_cmp q key in
    ap (λ m. get m q) is
    ∙ put_answer key q middle d (stands_at d i) i named
    ∙ ap (cond (stands_at d i && t) (Some i)) (out q)
    ∙ stays_or_comes t (stands_at d i) (get was q) i
