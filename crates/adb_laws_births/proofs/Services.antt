-- A service that is asked for fits into a packet with its NUL.
use Rattle.std.proofs.Common.{ℕ, ◌≡◌, ◌+◌, ◌≤◌, Bool, true, false, cond, All, List, [], ◌∷◌, ◌++◌, length, take, drop, codes, Option, Some}
use Rattle.std.proofs.Common.{None, is_some}
use Rattle.std.proofs.Common.{refl, subst, arith, zero, suc, eqb}
use Rattle.std.specs.Prelude.{is_none, option_map, unwrap_or}
use Rattle.std.specs.Ordering.{is_eq, nat_cmp}
use Rattle.std.proofs.lemmas.List.Elements.{All-nil, All-cons, All-head, All-tail, All-filter}
use Rattle.adb_outside.specs.Tables.{at, put_row}
use Rattle.adb_outside.proofs.TableLaws.{All-put_at, All-without}
use Rattle.adb_registry.specs.Registry.{DeviceTable}
use Rattle.adb_registry.specs.declared.row.Row.{Row}
use Rattle.adb_forward.specs.Forwards.{forward_row}
use Rattle.adb_forward.specs.declared.row.ForwardRow.{ForwardRow}
use Rattle.adb_forward.specs.declared.table.TheConstants.{MAX_FORWARDS}
use Rattle.adb_request.specs.Requests.{request_at}
use Rattle.adb_request.specs.Meaning.{meaning}
use Rattle.adb_request.specs.declared.cutting.Found.{Found}
use Rattle.adb_request.specs.declared.cutting.Found.TheVariants.{More, Malformed, Whole}
use Rattle.adb_wire.specs.declared.headers.TheConstants.{MAX_PAYLOAD}
use Rattle.adb_client.specs.declared.about.Want.{Want}
use Rattle.adb_reply.specs.Answer.{answer}
use Rattle.adb_reply.specs.Strings.{failed}
use Rattle.adb_reply.specs.Refusals.{no_transport}
use Rattle.adb_reply.specs.declared.answer.Answer.{Answer}
use Rattle.adb_reply.specs.declared.answer.Next.{Next}
use Rattle.adb_reply.specs.declared.answer.Next.TheVariants as what
use Rattle.adb_reply.proofs.Shortness.{IsShortText, IsShortNext, AreSmall, meaning_short, answer_short}
use Rattle.adb_capture.specs.declared.entry.Entry.{Entry}
use Rattle.adb_capture.specs.declared.entry.Entry.TheVariants.{Enter, Read, End, Bound, Recv, Detach}
use Rattle.adb_history.specs.Bytes.{brought}
use Rattle.adb_history.specs.Links.{is_connected, is_credit}
use Rattle.adb_history.specs.Forwarding.{Binding, forwards_with, put_forward, told_port, is_unbound, bound_by}
use Rattle.adb_history.specs.Asking.{Asked, replied, after_next, after_found, reads_on, asks_with}
use Rattle.adb_history.specs.Machine.{History, IsLegal}
use Rattle.adb_history.specs.Book.{Book, book, newly, forwards_by, wanted_by, asked_with, is_asking, bound_turn, turn, devices_if, devices}
use Rattle.adb_history.specs.Book.{forwards, asked}
use Rattle.adb_history.specs.Births.{Birth, birth_by, birth_through, births_at}
use Rattle.adb_history.proofs.Books.{all_books}
use Rattle.adb_laws_births.specs.Sending.{HasShortService}
use Rattle.adb_laws_births.proofs.Small.{all_small}

-- what a packet takes with a NUL
abbrev Fits : List ℕ → Type 0
Fits text = IsShortText MAX_PAYLOAD text

abbrev EachNext : Option Next → Type 0
EachNext None = Unit {0}
EachNext (Some next) = IsShortNext MAX_PAYLOAD next

-- ---- what a client asks
module _ (devices : DeviceTable) (small : AreSmall MAX_PAYLOAD devices.rows) where
  next_short : (next : Next) (reply : List ℕ) (size : ℕ) (others : Asked → Asked) (q : Asked)
      → ((q : Asked) → EachNext q.next → EachNext (others q).next)
      → IsShortNext MAX_PAYLOAD next → EachNext q.next → EachNext (after_next next reply size others q).next
  next_short (what.Select id) reply size others q later right h = later (record (replied reply size q) { selected = Some id }) h
  next_short _ reply size others q later right h = right

  found_short : (forwards : List (ℕ × ForwardRow)) (f : Found) (others : Asked → Asked) (q : Asked)
      → ((q : Asked) → EachNext q.next → EachNext (others q).next) → EachNext q.next
      → EachNext (after_found devices forwards f others q).next
  found_short forwards More others q later h = h
  found_short forwards Malformed others q later h = tt
  found_short forwards (Whole len) others q later h =
      let text : List ℕ = take len (drop 4 q.rest) in
      let a : Answer = answer devices.rows forwards q.selected (meaning text) in
      next_short a.next a.bytes (4 + len) others q later
      (answer_short MAX_PAYLOAD (omega arith) devices.rows small forwards q.selected (meaning text) (meaning_short text)) h

  reads_short : (forwards : List (ℕ × ForwardRow)) (n : ℕ) (q : Asked) → EachNext q.next → EachNext (reads_on devices forwards n q).next
  reads_short forwards zero q h = h
  reads_short forwards (suc n) q h = found_short forwards (request_at q.rest) (reads_on devices forwards n) q
      (λ r g. reads_short forwards n r g) h

  asks_short : (forwards : List (ℕ × ForwardRow)) (bytes : List ℕ) (q : Asked) → EachNext q.next
      → EachNext (asks_with devices forwards bytes q).next
  asks_short forwards bytes q h = reads_short forwards (length (q.rest ++ bytes)) (record q { rest = q.rest ++ bytes }) h

  asked_short : (b : Bool) (forwards : List (ℕ × ForwardRow)) (bytes : List ℕ) (q : Asked) → EachNext q.next
      → EachNext (asked_with b devices forwards bytes q).next
  asked_short true forwards bytes q h = asks_short forwards bytes q h
  asked_short false forwards bytes q h = h

newly_short : (before after : Option Next) → EachNext after → EachNext (newly before after)
newly_short None after h = h
newly_short (Some next) after h = tt

-- ---- forwards
abbrev FitsRow : ℕ × ForwardRow → Type 0
FitsRow entry = Fits entry.1.remote

put_short : (local t : ℕ) (remote : List ℕ) (devices : DeviceTable) (forwards : List (ℕ × ForwardRow)) → Fits remote → All FitsRow forwards
    → All FitsRow (put_forward local t remote devices forwards)
put_short local t remote devices forwards short all = go (at t devices.rows)
  where
    go : (o : Option Row) → All FitsRow (forwards_with local t remote o forwards)
    go None = all
    go (Some row) = All-put_at FitsRow forwards local (forward_row local t row.serial remote) short all

bound_short : (want : Want) (port : ℕ) (devices : DeviceTable) (forwards : List (ℕ × ForwardRow)) → Fits want.remote → All FitsRow forwards
    → All FitsRow (bound_by want port devices forwards).forwards
bound_short want port devices forwards short all =
    go (is_unbound want.local port forwards) (is_none (at want.transport devices.rows)) (eqb (length forwards) MAX_FORWARDS)
  where
    go : (taken gone full : Bool) → All FitsRow
        (cond {A = Binding} taken (record { reply = (failed (codes "cannot bind listener")).bytes; forwards = forwards })
        (cond {A = Binding} gone (record { reply = (failed no_transport).bytes; forwards = forwards })
        (cond {A = Binding} full (record { reply = (failed (codes "too many forwards")).bytes; forwards = forwards })
        (record {
          reply = codes "OKAYOKAY" ++ told_port want.local port;
          forwards = put_forward port want.transport want.remote devices forwards;
        })))).forwards
    go false false false = put_short port want.transport want.remote devices forwards short all
    go _ _ _ = all

by_short : (next : Option Next) (devices : DeviceTable) (forwards : List (ℕ × ForwardRow)) → EachNext next → All FitsRow forwards
    → All FitsRow (forwards_by next devices forwards)
by_short (Some (what.Rebind t local remote)) devices forwards short all = put_short local t remote devices forwards short all
by_short (Some (what.Unbind local)) devices forwards short all = All-without FitsRow local forwards all
by_short (Some what.UnbindAll) devices forwards short all = All-nil FitsRow
by_short (Some what.Stop) devices forwards short all = All-nil FitsRow
by_short _ devices forwards short all = all

abbrev FitsWant : Option Want → Type 0
FitsWant None = Unit {0}
FitsWant (Some want) = Fits want.remote

wanted_short : (next : Option Next) (waits : Option Want) → EachNext next → FitsWant waits → FitsWant (wanted_by next waits)
wanted_short (Some (what.Bind t local remote chosen)) waits short h = short
wanted_short _ waits short h = h

-- ---- all that the entries say
record IsShortBook (b : Book) : Type 0 where
  pub nexts : (c : ℕ) → EachNext (b.asked c).next
  pub wants : (c : ℕ) → FitsWant (b.waits c)
  pub rows : All FitsRow b.forwards

put_each : {A : Type 0} (P : A → Type 0) (n : ℕ) (x : A) (rows : ℕ → A) → P x → ((k : ℕ) → P (rows k)) → (k : ℕ) → P (put_row n x rows k)
put_each {A} P n x rows here all k = go (eqb n k)
  where
    go : (b : Bool) → P (cond b x (rows k))
    go true = here
    go false = all k

no_want : (c : ℕ) (b : Book) → IsShortBook b → (k : ℕ) → FitsWant (put_row c None b.waits k)
no_want c b h k = put_each FitsWant c None b.waits tt h.wants k

bound_book : (c port : ℕ) (devices : DeviceTable) (o : Option Want) (b : Book) → FitsWant o → IsShortBook b
    → IsShortBook (bound_turn c port devices o b)
bound_book c port devices None b short h = h
bound_book c port devices (Some want) b short h = record {
  nexts = h.nexts;
  wants = no_want c b h;
  rows = bound_short want port devices b.forwards short h.rows;
}

small_rows : (h : History) → IsLegal h → AreSmall MAX_PAYLOAD (devices_if (book h).killed h).rows
small_rows h legal = subst (λ (d : DeviceTable). AreSmall MAX_PAYLOAD d.rows) (all_books h legal).devices
    (λ id row is. subst (λ (o : Option Row). unwrap_or (option_map (λ (x : Row). x.maxdata) o) 0 ≤ MAX_PAYLOAD) is (all_small h legal id))

turn_short : (e : Entry) (older : History) (devices : DeviceTable) (b : Book) → AreSmall MAX_PAYLOAD devices.rows → IsShortBook b
    → IsShortBook (turn e older devices b)
turn_short (Read c bytes) older devices b small h =
    let q : Asked = asked_with (is_asking c older b) devices b.forwards bytes (b.asked c) in
    let short : EachNext q.next = asked_short devices small (is_asking c older b) b.forwards bytes (b.asked c) (h.nexts c) in
    let next : EachNext (newly (b.asked c).next q.next) = newly_short (b.asked c).next q.next short in
    record {
      nexts = put_each (λ (x : Asked). EachNext x.next) c q b.asked short h.nexts;
      wants = put_each FitsWant c (wanted_by (newly (b.asked c).next q.next) (b.waits c)) b.waits
          (wanted_short (newly (b.asked c).next q.next) (b.waits c) next (h.wants c)) h.wants;
      rows = by_short (newly (b.asked c).next q.next) devices b.forwards next h.rows;
    }
turn_short (Bound c port) older devices b small h = bound_book c port devices (b.waits c) b (h.wants c) h
turn_short (End c cause) older devices b small h = record { nexts = h.nexts; wants = no_want c b h; rows = h.rows }
turn_short (Recv t bytes) older devices b small h = record {
  nexts = h.nexts;
  wants = h.wants;
  rows = All-filter (λ entry. is_some (at entry.1.transport (devices_if b.killed (Recv t bytes ∷ older)).rows)) FitsRow b.forwards h.rows;
}
turn_short (Detach t cause) older devices b small h = record {
  nexts = h.nexts;
  wants = h.wants;
  rows = All-filter (λ entry. is_some (at entry.1.transport (devices_if b.killed (Detach t cause ∷ older)).rows)) FitsRow b.forwards h.rows;
}
turn_short _ older devices b small h = h

short_book : (h : History) → IsLegal h → IsShortBook (book h)
short_book [] legal = record { nexts = λ c. tt; wants = λ c. tt; rows = All-nil FitsRow }
short_book (e ∷ older) legal =
    turn_short e older (devices_if (book older).killed older) (book older) (small_rows older legal.0) (short_book older legal.0)

-- ---- births
birth_short : (c head : ℕ) (older : History) (next : Option Next) → EachNext next → All HasShortService (birth_by c head older next)
birth_short c head older (Some (what.Open t service)) short = All-cons HasShortService _ [] short (All-nil HasShortService)
birth_short c head older _ short = All-nil HasShortService

-- the row of a port is one of the table
row_short : (port : ℕ) (forwards : List (ℕ × ForwardRow)) (row : ForwardRow) → All FitsRow forwards
    → at port forwards ≡ Some row → Fits row.remote
row_short port [] row all is = absurd (let clash : None ≡ Some row = is in cc)
row_short port (e ∷ es) row all is = go (is_eq (nat_cmp port e.0)) (row_short port es row (All-tail FitsRow e es all)) is
  where
    go : (b : Bool) → (at port es ≡ Some row → Fits row.remote) → cond b (Some e.1) (at port es) ≡ Some row → Fits row.remote
    go true later here = let same : e.1 ≡ row = cc in subst (λ (x : ForwardRow). Fits x.remote) same (All-head FitsRow e es all)
    go false later here = later here

abbrev through_birth : ℕ → History → ForwardRow → Birth
through_birth c older row = record {
  client = c;
  link = row.transport;
  credit = is_credit row.transport (devices older);
  forwarded = true;
  service = row.remote;
  head = 0;
  packets_before = length (brought row.transport older);
}

through_short : (c : ℕ) (older : History) (o : Option ForwardRow) → ((row : ForwardRow) → o ≡ Some row → Fits row.remote)
    → All HasShortService (birth_through c older o)
through_short c older None short = All-nil HasShortService
through_short c older (Some row) short = go (is_connected row.transport (devices older))
  where
    go : (b : Bool) → All HasShortService (cond b (through_birth c older row ∷ []) [])
    go true = All-cons HasShortService (through_birth c older row) [] (short row refl) (All-nil HasShortService)
    go false = All-nil HasShortService

-- The service of each birth is short.
pub births_short : (e : Entry) (older : History) → IsLegal (e ∷ older) → All HasShortService (births_at e older)
births_short (Read c bytes) older legal =
    let after = (asked c (Read c bytes ∷ older)).next in
    birth_short c (asked c (Read c bytes ∷ older)).used older (newly (asked c older).next after)
    (newly_short (asked c older).next after ((short_book (Read c bytes ∷ older) legal).nexts c))
births_short (Enter c port) older legal =
    through_short c older (at port (forwards older)) (λ row is. row_short port (forwards older) row (short_book older legal.0).rows is)
births_short _ older legal = All-nil HasShortService
