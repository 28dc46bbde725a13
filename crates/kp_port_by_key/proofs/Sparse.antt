-- Pieces of ports in order: ports without a piece may be left out or added.
use Rattle.std.proofs.Math.Bool.{and-false, and-true}
use Rattle.std.proofs.Common.{◌≡◌, Bool, true, false, cond, not, ◌&&◌, ◌||◌, List, [], ◌∷◌, ◌++◌, map, filter, flat_map, Some, None, refl, sym, ap, ◌∙◌}
use Rattle.std.specs.FinMap.{find}
use Rattle.std.specs.Ordering.{eq_by_cmp}
use Rattle.kp_lemmas.proofs.Orders.{one_from_tie}
use Rattle.kp_base.specs.Keys.{port_key_cmp}
use Rattle.kp_base.specs.declared.key.PortKey.{PortKey}
use Rattle.kp_base.proofs.KeyOrder.{port_key_total, port_key_exact}
use Rattle.kp_object_defs.specs.Desired.{is_empty}
use Rattle.kp_object_defs.specs.Order.{distinct_in_order}
use Rattle.kp_object_defs.proofs.InOrder.{same_order}
use Rattle.kp_object_laws.proofs.KeptNames.{distinct_kept}
use Rattle.kp_history_laws.specs.EventLaws.{has_port}

-- ---- The same names

-- a name is found where it is listed
pub found_name : {X : Type 0} (x : PortKey → X) (q : PortKey) (ks : List PortKey)
    → find port_key_cmp q (map (λ k. (k, x k)) ks) ≡ cond (has_port ks q) (Some (x q)) None
found_name x q [] = refl
found_name {X} x q (k ∷ ks) = by (eq_by_cmp port_key_cmp q k) refl (found_name x q ks)
  where
    by : (b : Bool) → eq_by_cmp port_key_cmp q k ≡ b
        → find port_key_cmp q (map (λ k. (k, x k)) ks) ≡ cond (has_port ks q) (Some (x q)) None
        → cond b (Some (x k)) (find port_key_cmp q (map (λ k. (k, x k)) ks))
        ≡ cond (b || has_port ks q) (Some (x q)) None
    by true is rest = ap (λ n. Some (x n)) (sym (one_from_tie port_key_exact q k is))
    by false is rest = rest

-- two lists that have the same names have them in one order
pub same_names : (xs ys : List PortKey) → ((key : PortKey) → has_port xs key ≡ has_port ys key)
    → distinct_in_order port_key_cmp xs ≡ distinct_in_order port_key_cmp ys
same_names xs ys same =
    ap (map (λ e. e.0))
    (same_order port_key_total port_key_exact (map (λ k. (k, k)) xs) (map (λ k. (k, k)) ys) (λ q.
    found_name (λ k. k) q xs ∙ ap (λ b. cond b (Some q) None) (same q)
    ∙ sym (found_name (λ k. k) q ys)))

-- ---- Their pieces

module _ {Y : Type 0} (f : PortKey → List Y) where
  -- a port has a piece
  abbrev pub tells : PortKey → Bool
  tells key = not (is_empty (f key))

  only_telling : (ks : List PortKey) → flat_map f (filter tells ks) ≡ flat_map f ks
  only_telling [] = refl
  only_telling (k ∷ ks) = by (f k) refl (only_telling ks)
    where
      by : (piece : List Y) → f k ≡ piece → flat_map f (filter tells ks) ≡ flat_map f ks
          → flat_map f (cond (not (is_empty piece)) (k ∷ filter tells ks) (filter tells ks))
          ≡ f k ++ flat_map f ks
      by [] is rest = rest ∙ ap (λ l. l ++ flat_map f ks) (sym is)
      by (y ∷ piece) is rest = ap (λ l. f k ++ l) rest

  -- the telling ports of a list
  told_among : (ks : List PortKey) (key : PortKey)
      → has_port (filter tells ks) key ≡ (tells key && has_port ks key)
  told_among [] key = sym (and-false (tells key))
  told_among (k ∷ ks) key =
      by (tells k) refl (eq_by_cmp port_key_cmp key k) refl (told_among ks key)
    where
      by : (t : Bool) → tells k ≡ t → (b : Bool) → eq_by_cmp port_key_cmp key k ≡ b
          → has_port (filter tells ks) key ≡ (tells key && has_port ks key)
          → has_port (cond t (k ∷ filter tells ks) (filter tells ks)) key
          ≡ (tells key && (b || has_port ks key))
      by true told true is rest =
          ap (λ t. t || has_port (filter tells ks) key) is
          ∙ sym (and-true (tells key) ∙ ap tells (one_from_tie port_key_exact key k is) ∙ told)
      by true told false is rest = ap (λ t. t || has_port (filter tells ks) key) is ∙ rest
      by false told true is rest =
          let silent : tells key ≡ false = ap tells (one_from_tie port_key_exact key k is) ∙ told in
          rest ∙ ap (λ t. t && has_port ks key) silent ∙ sym (ap (λ t. t && true) silent)
      by false told false is rest = rest

  -- lists with the same telling ports have the same pieces
  pub sparse : (xs ys : List PortKey)
      → ((key : PortKey) → tells key ≡ true → has_port xs key ≡ has_port ys key)
      → flat_map f (distinct_in_order port_key_cmp xs)
      ≡ flat_map f (distinct_in_order port_key_cmp ys)
  sparse xs ys same =
      sym (only_telling (distinct_in_order port_key_cmp xs))
      ∙ ap (flat_map f)
      (sym (distinct_kept tells xs)
      ∙ same_names (filter tells xs) (filter tells ys) (λ key.
      told_among xs key ∙ by key (tells key) refl ∙ sym (told_among ys key))
      ∙ distinct_kept tells ys)
      ∙ only_telling (distinct_in_order port_key_cmp ys)
    where
      by : (key : PortKey) (b : Bool) → tells key ≡ b
          → (tells key && has_port xs key) ≡ (tells key && has_port ys key)
      by key true is = ap (λ b. tells key && b) (same key is)
      by key false is = (λ i. is i && has_port xs key) ∙ sym (λ i. is i && has_port ys key)

  -- where ports that a list lacks have no piece, a telling port is in it
  pub told_in : (xs : List PortKey) (key : PortKey)
      → (has_port xs key ≡ false → f key ≡ []) → tells key ≡ true → has_port xs key ≡ true
  told_in xs key none told = by (has_port xs key) refl
    where
      by : (b : Bool) → has_port xs key ≡ b → b ≡ true
      by true is = refl
      by false is = sym (ap (λ piece. not (is_empty piece)) (none is)) ∙ told
