-- What is found by the lists of places.
use Rattle.std.proofs.Common.{◌≡◌, ℕ, ◌<◌, ◌==◌, Bool, true, false, ◌&&◌, List, [], ◌∷◌, map, filter, length, cond, slice_get, Option, Some, None, option_map, refl, sym, ap, ◌∙◌, subst, arith, eq-eqb}
use Rattle.std.specs.List.{find}
use Rattle.std.proofs.lemmas.Bool.{and_parts, eqb-true, false≢true}
use Rattle.std.proofs.lemmas.Option.{slice_get-get_or}
use Rattle.futures.specs.LinkedLists.{IsIn}
use Rattle.kp_base.proofs.SameParts.{same_address_exact}
use Rattle.kp_base.specs.declared.key.Endpoint.{Endpoint}
use Rattle.kp_links.specs.Lists.{Lists, rows_of}
use Rattle.kp_track_defs.proofs.Connections.{same_connection_exact}
use Rattle.kp_track_defs.specs.declared.flow.Connection.{Connection}
use Rattle.kp_track_defs.specs.declared.flow.Entry.{Entry}
use Rattle.kp_track_defs.specs.Entries.{has_connection, is_connection, is_replied_by, reply_of}
use Rattle.kp_track_defs.specs.Stands.{is_endpoint}
use Rattle.kp_track_defs.specs.Kept.{is_sent_to}
use Rattle.kp_conntrack.specs.Buckets.{connection_bucket, connection_place, endpoint_bucket, endpoint_place, is_placed, reply_place}
use Rattle.kp_conntrack.specs.declared.index.Index.{Index}
use Rattle.kp_conntrack.specs.Laid.{IsIndexed, IsLaid, entries_in, entry_at, kept_rows, no_entry, passes_at, passes_if}
use Rattle.kp_conntrack.proofs.Among.{find_filter, find_map, found_in}

-- ---- Who passes stands in the list

pub connection_here : (c : Connection) (e : Entry) → has_connection c e ≡ true → connection_place e ≡ Some (connection_bucket c)
connection_here c e h = ap (λ d. Some (connection_bucket d)) (same_connection_exact e.connection c h)

reply_by : (c : Connection) (o : Option Connection) → is_connection c o ≡ true → option_map connection_bucket o ≡ Some (connection_bucket c)
reply_by c None h = absurd (false≢true h)
reply_by c (Some r) h = ap (λ d. Some (connection_bucket d)) (same_connection_exact r c h)

pub reply_here : (c : Connection) (e : Entry) → is_replied_by c e ≡ true → reply_place e ≡ Some (connection_bucket c)
reply_here c e h = reply_by c (reply_of e) h

endpoint_exact : (a b : Endpoint) → is_endpoint a b ≡ true → a ≡ b
endpoint_exact a b h =
    let both = and_parts _ _ h in
    λ i. record { address = same_address_exact a.address b.address both.0 i; port = eqb-true a.port b.port both.1 i }

pub endpoint_here : (to : Endpoint) (e : Entry) → is_sent_to to e ≡ true → endpoint_place e ≡ Some (endpoint_bucket to)
endpoint_here to e h =
    let both = and_parts _ _ h in
    (λ i. cond (both.0 i) (Some (endpoint_bucket e.endpoint)) None)
    ∙ ap (λ d. Some (endpoint_bucket d)) (endpoint_exact e.endpoint to both.1)

-- ---- So the list finds the first

module _ (rows : List Entry) (order : Lists) (index : Index) (moment : ℕ) (laid : IsLaid rows order index moment) where
  row_passes : (test : Entry → Bool) (row : ℕ) → IsIn row (kept_rows order) → passes_at test rows row ≡ test (entry_at rows row)
  row_passes test row found =
      let within : row < length rows = omega (arith, laid.ordered.within row found, laid.len) in
      ap (passes_if test) (slice_get-get_or rows row no_entry within)

  pub found_here : (place : Entry → Option ℕ) (lists : Lists) (b : ℕ) (test : Entry → Bool)
      → ((e : Entry) → test e ≡ true → place e ≡ Some b) → IsIndexed rows (kept_rows order) place lists
      → find (passes_at test rows) (rows_of lists b) ≡ find (λ row. test (entry_at rows row)) (kept_rows order)
  found_here place lists b test here is =
      ap (find (passes_at test rows)) (is.here b)
      ∙ find_filter (passes_at test rows) (λ row. test (entry_at rows row)) (λ row. is_placed b (place (entry_at rows row))) (kept_rows order)
      (row_passes test)
      (λ row h. ap (is_placed b) (here (entry_at rows row) h) ∙ eq-eqb b b refl)

  -- a row that is found is kept, and its entry passes
  pub found_kept : (test : Entry → Bool) (row : ℕ) → find (λ row. test (entry_at rows row)) (kept_rows order) ≡ Some row
      → IsIn row (kept_rows order) × (test (entry_at rows row) ≡ true)
  found_kept test row found = found_in (λ row. test (entry_at rows row)) (kept_rows order) row found

  -- and its entry is the first that passes
  pub entry_found : (test : Entry → Bool) (o : Option ℕ) → find (λ row. test (entry_at rows row)) (kept_rows order) ≡ o
      → find test (entries_in rows order) ≡ option_map (entry_at rows) o
  entry_found test o found = find_map test (entry_at rows) (kept_rows order) ∙ ap (option_map (entry_at rows)) found
