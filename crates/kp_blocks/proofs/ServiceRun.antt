-- The ports of a Service stand together: of those from the least name that they may have on, they
-- are the first.
use Rattle.std.proofs.Common.{◌≡◌, ℕ, suc, ◌+◌, arith, Bool, true, cond, List, [], ◌∷◌, map}
use Rattle.std.proofs.Common.{filter, take, refl, sym, ap, ◌∙◌}
use Rattle.std.proofs.Math.Bool.{and-true}
use Rattle.std.specs.BTreeMap.Range.{entries_between, range_contains}
use Rattle.std.specs.declared.cmp.Ordering.{Ordering}
use Rattle.std.specs.declared.cmp.Ordering.TheVariants.{Less, Equal, Greater}
use Rattle.std.specs.declared.ops.Bound.TheVariants.{Included, Unbounded}
use Rattle.std.specs.List.{AllByRecursion, prefix_len}
use Rattle.std.specs.List.Sorted.{IsStrictlySortedBy}
use Rattle.std.specs.Ordering.{is_eq, is_le, nat_cmp, ordering_then}
use Rattle.kp_base.specs.Keys.{key_cmp, port_key_cmp, proto_place, text_cmp}
use Rattle.kp_base.specs.declared.key.ObjectKey.{ObjectKey}
use Rattle.kp_base.specs.declared.key.PortKey.{PortKey}
use Rattle.kp_base.specs.declared.port.Proto.{Proto}
use Rattle.kp_base.specs.declared.port.Proto.TheVariants.{Sctp, Tcp, Udp}
use Rattle.kp_base.specs.contracts.key.PortKeyOrd.TheImpl as order
use Rattle.kp_base.proofs.KeyOrder.{key_exact, key_total, port_key_matches}
use Rattle.kp_blocks.specs.Joined.{first_port_of, is_port_of}

one_more : (n : ℕ) → 1 + n ≡ suc n
one_more n = omega arith

-- ---- Keys that fall before, among and behind some

module _ {K : Type 0} (R : K → K → Ordering) (s : K → Ordering)
    (behind : (k l : K) → R k l ≡ Less → s k ≡ Less → s l ≡ Less) where
  -- one of these
  abbrev among : K → Bool
  among k = is_eq (s k)

  -- those in front
  abbrev first : List K → List K
  first ks = take (prefix_len among ks) ks

  none_behind : (k : K) → s k ≡ Less → (ks : List K) → AllByRecursion (λ l. R k l ≡ Less) ks
      → filter among ks ≡ []
  none_behind k is [] h = refl
  none_behind k is (l ∷ ls) h =
      ap (λ o. cond (is_eq o) (l ∷ filter among ls) (filter among ls)) (behind k l h.0 is)
      ∙ none_behind k is ls h.1

  module _ {X : Type 0} (q : K → Bool) (from : (k : K) → q k ≡ is_le (s k)) where
    -- the keys that don't fall before these
    abbrev rest : List (K × X) → List K
    rest es = map (λ e. e.0) (filter (λ e. q e.0) es)

    run_by : (e : K × X) (es : List (K × X)) → first (rest es) ≡ filter among (map (λ f. f.0) es)
        → AllByRecursion (λ l. R e.0 l ≡ Less) (map (λ f. f.0) es) → (o : Ordering) → s e.0 ≡ o
        → first (rest (e ∷ es)) ≡ filter among (e.0 ∷ map (λ f. f.0) es)
    run_by e es so_far below o is =
        ap (λ b. first (map (λ f. f.0) (cond b (e ∷ filter (λ f. q f.0) es) (filter (λ f. q f.0)
        es)))) (from e.0 ∙ ap is_le is)
        ∙ by o is
        ∙ sym (ap (λ p. cond (is_eq p) (e.0 ∷ filter among (map (λ f. f.0) es)) (filter among (map
        (λ f. f.0) es))) is)
      where
        by : (p : Ordering) → s e.0 ≡ p
            → first (map (λ f. f.0) (cond (is_le p) (e ∷ filter (λ f. q f.0) es) (filter (λ f.
            q f.0) es)))
            ≡ cond (is_eq p) (e.0 ∷ filter among (map (λ f. f.0) es)) (filter among (map (λ f. f.0)
            es))
        by Less here =
            ap (λ p. take (cond (is_eq p) (1 + prefix_len among (rest es)) 0) (e.0 ∷ rest es)) here
            ∙ sym (none_behind e.0 here (map (λ f. f.0) es) below)
        by Equal here =
            ap (λ p. take (cond (is_eq p) (1 + prefix_len among (rest es)) 0) (e.0 ∷ rest es)) here
            ∙ ap (λ n. take n (e.0 ∷ rest es)) (one_more (prefix_len among (rest es)))
            ∙ ap (λ ks. e.0 ∷ ks) so_far
        by Greater here = so_far

    -- among keys in order the first that don't fall before them are all of these
    run : (es : List (K × X)) → IsStrictlySortedBy R (map (λ e. e.0) es)
        → first (rest es) ≡ filter among (map (λ e. e.0) es)
    unfolding IsStrictlySortedBy
    run [] h = refl
    run (e ∷ es) h = run_by e es (run es h.1) h.0 (s e.0) refl

-- ---- The ports of a Service

least : (name : List ℕ) (proto : Proto)
    → is_le (ordering_then (text_cmp [] name) (nat_cmp 0 (proto_place proto))) ≡ true
least [] Sctp = refl
least [] Tcp = refl
least [] Udp = refl
least (x ∷ xs) proto = refl

module _ (service : ObjectKey) where
  from_by : (port : PortKey) (o : Ordering)
      → is_le (ordering_then o (ordering_then (text_cmp [] port.port_name) (nat_cmp 0
      (proto_place port.proto)))) ≡ is_le o
  from_by port Less = refl
  from_by port Equal = least port.port_name port.proto
  from_by port Greater = refl

  -- a port is at the least name of a Service or behind it where its Service is
  from_first : (port : PortKey)
      → is_le (port_key_cmp (first_port_of service) port) ≡ is_le (key_cmp service port.object)
  from_first port = from_by port (key_cmp service port.object)

  behind_by : (k l : PortKey) (more : Ordering) (o : Ordering) → key_cmp k.object l.object ≡ o
      → ordering_then o more ≡ Less → key_cmp service k.object ≡ Less
      → key_cmp service l.object ≡ Less
  behind_by k l more Less is less h = key_total.trans service k.object l.object h is
  behind_by k l more Equal is less h =
      ap (key_cmp service) (sym (key_exact k.object l.object is)) ∙ h
  behind_by k l more Greater is less h = absurd (cc)

  -- a port behind one whose Service is behind it has such a Service too
  behind_first : (k l : PortKey) → port_key_cmp k l ≡ Less → key_cmp service k.object ≡ Less
      → key_cmp service l.object ≡ Less
  behind_first k l less h = behind_by k l _ (key_cmp k.object l.object) refl less h

  -- of a map's ports from the least name of a Service on the first ones are those of the Service
  pub service_run : {X : Type 0} (first : PortKey) → first ≡ first_port_of service
      → (es range : List (PortKey × X))
      → range ≡ entries_between order.ghosts.cmp (Included first) Unbounded es
      → IsStrictlySortedBy order.ghosts.cmp (map (λ e. e.0) es)
      → take (prefix_len (is_port_of service) (map (λ e. e.0) range)) (map (λ e. e.0) range)
      ≡ filter (is_port_of service) (map (λ e. e.0) es)
  service_run first is es range cut rises =
      ap (λ fs. take (prefix_len (is_port_of service) (map (λ e. e.0) fs))
      (map (λ e. e.0) fs)) cut
      ∙ run order.ghosts.cmp (λ k. key_cmp service k.object)
      (λ k l less. behind_first k l (sym (port_key_matches k l) ∙ less))
      (range_contains order.ghosts.cmp (Included first) Unbounded)
      (λ k.
      and-true _ ∙ ap is_le (port_key_matches first k)
      ∙ ap (λ f. is_le (port_key_cmp f k)) is ∙ from_first k)
      es rises
