-- Ports where those of one Service are made anew.
use Rattle.std.proofs.Common.{◌≡◌, ℕ, ◌||◌, ◌&&◌, Bool, true, false, cond, List, [], ◌∷◌, drop, length}
use Rattle.std.specs.Result.{OnOk}
use Rattle.std.proofs.Common.{Result, Ok, Err, Option, Some, None, filter, zero, suc, ◌⊎◌, inl, inr, refl, sym, ap, ◌∙◌}
use Rattle.std.specs.FinMap.{get, get-insert, get-remove, insert, keys}
use Rattle.std.specs.Ordering.{eq_by_cmp}
use Rattle.std.proofs.Math.Seq.{drop-length}
use Rattle.std.proofs.lemmas.Bool.{or_parts}
use Rattle.kp_lemmas.proofs.Orders.{one_from_tie}
use Rattle.kp_base.specs.Keys.{port_key_cmp}
use Rattle.kp_base.specs.declared.key.ObjectKey.{ObjectKey}
use Rattle.kp_base.specs.declared.key.PortKey.{PortKey}
use Rattle.kp_base.proofs.KeyOrder.{port_key_exact, port_key_total}
use Rattle.kp_object_defs.specs.PortInfo.{PortInfo}
use Rattle.kp_object_defs.proofs.InOrder.{first_some}
use Rattle.kp_writer_laws.specs.LocalLaws.{info_of, is_one_of}
use Rattle.kp_blocks.specs.Joined.{is_port_of}
use Rattle.kp_writer.specs.Refresh.{IsPartlyRefreshed, IsRefreshed, OthersStay, Refreshes, with_infos, without}
use Rattle.kp_writer.specs.Written.{Ports}
use Rattle.kp_writer.proofs.DirtyLists.{not_found}
use Rattle.kp_writer.proofs.OneList.{filter_has}

-- ---- Ports that are gone

gone_by : (a b : Bool) (o : Option PortInfo)
    → cond a None (cond b None o) ≡ cond (a || b) None o
gone_by true b o = refl
gone_by false b o = refl

got_without : (m : Ports) (ks : List PortKey) (key : PortKey)
    → get (without m ks) key ≡ cond (is_one_of ks key) None (get m key)
got_without m [] key = refl
got_without m (k ∷ ks) key =
    get-remove port_key_total (without m ks) k key
    ∙ ap (cond (eq_by_cmp port_key_cmp key k) None) (got_without m ks key)
    ∙ gone_by (eq_by_cmp port_key_cmp key k) (is_one_of ks key) (get m key)

none_dropped : (n : ℕ) (ks : List PortKey) (key : PortKey) → is_one_of ks key ≡ false
    → is_one_of (drop n ks) key ≡ false
none_dropped zero ks key h = h
none_dropped (suc n) [] key h = refl
none_dropped (suc n) (k ∷ ks) key h = none_dropped n ks key (or_parts _ _ h).1

-- ---- Ports that are put

module _ (service : ObjectKey) (m : Ports) (key : PortKey) where
  -- what is known where some infos are a Service's
  abbrev known : List PortInfo → Bool → Option PortInfo
  known is b = cond b (first_some (info_of is key) (get m key)) (get m key)

  put_by : (i : PortInfo) (is : List PortInfo)
      → get (with_infos service m is) key ≡ known is (is_port_of service key)
      → (b : Bool) → is_port_of service i.key ≡ b
      → (c : Bool) → eq_by_cmp port_key_cmp key i.key ≡ c
      → get (cond b (insert (with_infos service m is) i.key i) (with_infos service m is)) key
      ≡ known (i ∷ is) (is_port_of service key)
  put_by i is rest true of_it true one =
      get-insert port_key_total (with_infos service m is) i.key i key
      ∙ ap (λ d. cond d (Some i) (get (with_infos service m is) key)) one
      ∙ sym (ap (known (i ∷ is)) (ap (is_port_of service) (one_from_tie port_key_exact key i.key
      one) ∙ of_it)
      ∙ ap (λ d. first_some (cond d (Some i) (info_of is key)) (get m key)) one)
  put_by i is rest true of_it false other =
      get-insert port_key_total (with_infos service m is) i.key i key
      ∙ ap (λ d. cond d (Some i) (get (with_infos service m is) key)) other
      ∙ rest
      ∙ sym (ap (λ d. cond (is_port_of service key) (first_some (cond d (Some i) (info_of is key))
      (get m key)) (get m key)) other)
  put_by i is rest false not_it true one =
      let outside : is_port_of service key ≡ false = ap (is_port_of service) (one_from_tie
      port_key_exact key i.key one) ∙ not_it in
      rest ∙ ap (known is) outside ∙ sym (ap (known (i ∷ is)) outside)
  put_by i is rest false not_it false other =
      rest
      ∙ sym (ap (λ d. cond (is_port_of service key) (first_some (cond d (Some i) (info_of is key))
      (get m key)) (get m key)) other)

  got_infos : (is : List PortInfo)
      → get (with_infos service m is) key ≡ known is (is_port_of service key)
  got_infos [] = nothing (is_port_of service key)
    where
      nothing : (b : Bool) → get m key ≡ cond b (get m key) (get m key)
      nothing true = refl
      nothing false = refl
  got_infos (i ∷ is) =
      put_by i is (got_infos is) (is_port_of service i.key) refl
      (eq_by_cmp port_key_cmp key i.key) refl

-- ---- Both

either_way : (b : Bool) (now told before : Option PortInfo) → now ≡ cond b told before
    → (now ≡ before) ⊎ (now ≡ told)
either_way true now told before h = inr h
either_way false now told before h = inl h

module _ (service : ObjectKey) (old : Ports) where
  -- the names of its ports
  abbrev gone : List PortKey
  gone = filter (is_port_of service) (keys old)

  gone_has : (key : PortKey) (b : Bool) → is_port_of service key ≡ b
      → is_one_of gone key ≡ (b && is_one_of (keys old) key)
  gone_has key b is =
      filter_has port_key_cmp port_key_total port_key_exact (is_port_of service) (keys old) key
      ∙ ap (λ c. c && is_one_of (keys old) key) is

  without_its : (key : PortKey) (b : Bool) → is_one_of (keys old) key ≡ b
      → cond b None (get old key) ≡ None
  without_its key true h = refl
  without_its key false h = not_found port_key_cmp old key h

  only_first : (o : Option PortInfo) → first_some o None ≡ o
  only_first None = refl
  only_first (Some i) = refl

  by_key : (infos : List PortInfo) (key : PortKey) (b : Bool) → is_port_of service key ≡ b
      → known service (without old gone) key infos b ≡ cond b (info_of infos key) (get old key)
  by_key infos key true is =
      ap (first_some (info_of infos key)) (got_without old gone key
      ∙ ap (λ c. cond c None (get old key)) (gone_has key true is)
      ∙ without_its key (is_one_of (keys old) key) refl)
      ∙ only_first (info_of infos key)
  by_key infos key false is =
      got_without old gone key ∙ ap (λ c. cond c None (get old key)) (gone_has key false is)

  -- all are gone, and those that are given are put
  refreshed : (infos : List PortInfo)
      → IsRefreshed service infos old (with_infos service (without old gone) infos)
  refreshed infos key =
      got_infos service (without old gone) key infos
      ∙ by_key infos key (is_port_of service key) refl

  -- some are gone, and none is put
  pub some_gone : (infos : List PortInfo) (n : ℕ) (new : Ports) → new ≡ without old (drop n gone)
      → IsPartlyRefreshed infos old new × OthersStay service old new
  some_gone infos n new is = (
    (
      length infos,
      λ key. told key (either_way (is_one_of (drop n gone) key) (get new key) None
          (get old key) (got key)),
    ),
    λ key h. got key ∙ ap (λ b. cond b None (get old key))
        (none_dropped n gone key (gone_has key false h)),
  )
    where
      got : (key : PortKey) → get new key ≡ cond (is_one_of (drop n gone) key) None (get old key)
      got key = ap (λ m. get m key) is ∙ got_without old (drop n gone) key

      told : (key : PortKey) → (get new key ≡ get old key) ⊎ (get new key ≡ None)
          → (get new key ≡ get old key) ⊎ (get new key ≡ info_of (drop (length infos) infos) key)
      told key (inl same) = inl same
      told key (inr none) = inr (none ∙ ap (λ is. info_of is key) (sym (drop-length infos)))

  -- all are gone, and all or some are put
  pub refreshes : {X E : Type 0} (r : Result X E) (infos : List PortInfo) (new : Ports)
      → OnOk r (new ≡ with_infos service (without old gone) infos)
      → (n : ℕ) × (new ≡ with_infos service (without old gone) (drop n infos))
      → Refreshes r service infos old new
  refreshes (Ok done) infos new is part =
      λ key. ap (λ m. get m key) is ∙ refreshed infos key
  refreshes (Err fault) infos new is (n, part) = (
    (
      n,
      λ key. either_way (is_port_of service key) (get new key) (info_of (drop n infos) key)
          (get old key) (got key),
    ),
    λ key h. got key ∙ ap (λ b. cond b (info_of (drop n infos) key) (get old key)) h,
  )
    where
      got : IsRefreshed service (drop n infos) old new
      got key = ap (λ m. get m key) part ∙ refreshed (drop n infos) key
