-- What a history says of requests, packets and streams is said by the entries that came alone: hand-outs say nothing of it.
use Rattle.std.proofs.Common.{ℕ, ◌+◌, ◌≡◌, Bool, true, false, cond, List, [], ◌∷◌, ◌++◌, length, zero, suc, refl, sym, ◌∙◌, ap, eqb}
use Rattle.std.specs.Prelude.{Option, Some, None, reverse, not, ◌&&◌, ◌||◌, option_map, is_some}
use Rattle.std.specs.Option.{option_or}
use Rattle.std.specs.List.{list_any}
use Rattle.std.proofs.Math.Path.{fun_ext}
use Rattle.std.proofs.lemmas.List.{append-nil, append_assoc, map-append}
use Rattle.std.proofs.lemmas.Grind.{reverse_onto}
use Rattle.adb_outside.specs.Tables.{Rows, listed, at, put_row}
use Rattle.adb_registry.specs.Registry.{DeviceTable}
use Rattle.adb_registry.specs.Row.{new_row}
use Rattle.adb_registry.specs.declared.row.Row.{Row}
use Rattle.adb_forward.specs.declared.row.ForwardRow.{ForwardRow}
use Rattle.adb_reply.specs.declared.answer.Next.{Next}
use Rattle.adb_reply.specs.declared.answer.Next.TheVariants as what
use Rattle.adb_capture.specs.declared.entry.Entry.{Entry}
use Rattle.adb_capture.specs.declared.entry.Entry.TheVariants.{Join, Enter, Read, End, Bound, Attach, Recv, Detach, Put, Send}
use Rattle.adb_wire.specs.Cutting.{framed}
use Rattle.adb_history.specs.Links.{is_connected, is_credit}
use Rattle.adb_history.specs.Rows.{Client, Link, State}
use Rattle.adb_history.specs.Machine.{History, state}
use Rattle.adb_history.specs.Bytes.{has_joined, has_ended, is_lost, bytes_received, brought}
use Rattle.adb_history.specs.Book.{plugged, plugged_count, is_refused, last_cnxn, row_by, device_of, devices_if, Book, book, devices, asked}
use Rattle.adb_history.specs.Book.{forwards}
use Rattle.adb_history.specs.Book.{still_asks, asked_with, reads_turn, bound_turn, led_by, newly}
use Rattle.adb_history.specs.Births.{Birth, birth_by, birth_through, births, births_at}
use Rattle.adb_history.specs.Tied.{bytes_asked, came_count}
use Rattle.adb_history.specs.Tracking.{offered}
use Rattle.adb_history.specs.Drained.{send_of, send_on, first_send, put_of, put_to, first_put, next_out, or_stay, drain, drained_after}
use Rattle.adb_history.specs.Drained.{drained_from, owed}
use Rattle.adb_load.specs.declared.act.Act.{Act}
use Rattle.adb_load.specs.Acts.{entry_of}
use Rattle.adb_load.specs.Load.{entries_of}

-- ---- what each entry adds
joined_on : (c : ℕ) (e : Entry) (h g : History) → has_joined c h ≡ has_joined c g → has_joined c (e ∷ h) ≡ has_joined c (e ∷ g)
joined_on c (Join n) h g is = ap (λ (b : Bool). eqb n c || b) is
joined_on c _ h g is = is

ended_on : (c : ℕ) (e : Entry) (h g : History) → has_ended c h ≡ has_ended c g → has_ended c (e ∷ h) ≡ has_ended c (e ∷ g)
ended_on c (End n cause) h g is = ap (λ (b : Bool). eqb n c || b) is
ended_on c _ h g is = is

lost_on : (t : ℕ) (e : Entry) (h g : History) → is_lost t h ≡ is_lost t g → is_lost t (e ∷ h) ≡ is_lost t (e ∷ g)
lost_on t (Detach n cause) h g is = ap (λ (b : Bool). eqb n t || b) is
lost_on t _ h g is = is

-- the bytes with a piece more, unless they are over
abbrev more_if : Bool → Bool → List ℕ → List ℕ → List ℕ
more_if own over bytes so_far = cond (own && not over) (so_far ++ bytes) so_far

received_on : (t : ℕ) (e : Entry) (h g : History) → is_lost t h ≡ is_lost t g → bytes_received t h ≡ bytes_received t g
    → bytes_received t (e ∷ h) ≡ bytes_received t (e ∷ g)
received_on t (Recv n bytes) h g lost is =
    ap (λ (b : Bool). more_if (eqb n t) b bytes (bytes_received t h)) lost ∙ ap (more_if (eqb n t) (is_lost t g) bytes) is
received_on t _ h g lost is = is

asked_on : (c : ℕ) (e : Entry) (h g : History) → has_ended c h ≡ has_ended c g → bytes_asked c h ≡ bytes_asked c g
    → bytes_asked c (e ∷ h) ≡ bytes_asked c (e ∷ g)
asked_on c (Read n bytes) h g ended is = ap (λ (b : Bool). more_if (eqb n c) b bytes (bytes_asked c h)) ended
    ∙ ap (more_if (eqb n c) (has_ended c g) bytes) is
asked_on c _ h g ended is = is

plugged_on : (t : ℕ) (e : Entry) (h g : History) → plugged t h ≡ plugged t g → plugged t (e ∷ h) ≡ plugged t (e ∷ g)
plugged_on t (Attach n kind serial) h g is = ap (λ (o : Option Row). cond (eqb n t) (Some (new_row t kind serial)) o) is
plugged_on t _ h g is = is

plugged_count_on : (e : Entry) (h g : History) → plugged_count h ≡ plugged_count g → plugged_count (e ∷ h) ≡ plugged_count (e ∷ g)
plugged_count_on (Attach n kind serial) h g is = ap (λ k. k + 1) is
plugged_count_on _ h g is = is

came_count_on : (e : Entry) (h g : History) → came_count h ≡ came_count g → came_count (e ∷ h) ≡ came_count (e ∷ g)
came_count_on (Join n) h g is = ap (λ k. k + 1) is
came_count_on (Enter n port) h g is = ap (λ k. k + 1) is
came_count_on _ h g is = is

-- ---- the same said
-- Two histories say the same of who came, and of what clients and links brought.
pub record SameBrought (h g : History) : Type 0 where
  pub joined : (c : ℕ) → has_joined c h ≡ has_joined c g
  pub ended : (c : ℕ) → has_ended c h ≡ has_ended c g
  pub lost : (t : ℕ) → is_lost t h ≡ is_lost t g
  pub received : (t : ℕ) → bytes_received t h ≡ bytes_received t g
  pub plugged : (t : ℕ) → plugged t h ≡ plugged t g
  pub plugged_count : plugged_count h ≡ plugged_count g
  pub came_count : came_count h ≡ came_count g
  pub bytes_asked : (c : ℕ) → bytes_asked c h ≡ bytes_asked c g

-- They also say the same of what clients asked and of the streams that were born.
pub record SameCame (h g : History) : Type 0 where
  pub brings : SameBrought h g
  pub book : book h ≡ book g
  pub births : births h ≡ births g

brings_on : (e : Entry) (h g : History) → SameBrought h g → SameBrought (e ∷ h) (e ∷ g)
brings_on e h g same = record {
  joined = λ c. joined_on c e h g (same.joined c);
  ended = λ c. ended_on c e h g (same.ended c);
  lost = λ t. lost_on t e h g (same.lost t);
  received = λ t. received_on t e h g (same.lost t) (same.received t);
  plugged = λ t. plugged_on t e h g (same.plugged t);
  plugged_count = plugged_count_on e h g same.plugged_count;
  came_count = came_count_on e h g same.came_count;
  bytes_asked = λ c. asked_on c e h g (same.ended c) (same.bytes_asked c);
}

-- the packets that a link brought
pub same_packets : (h g : History) → SameBrought h g → (t : ℕ) → brought t h ≡ brought t g
same_packets h g same t = ap (λ bytes. (framed bytes).given) (same.received t)

-- a device, from whether its link was lost, what came from it, and how it was plugged in
abbrev pub device_by : Bool → List ℕ → Option Row → Option Row
device_by lost bytes row =
    cond (lost || (is_some (framed bytes).fault || list_any is_refused (framed bytes).given)) None
    (option_map (row_by (last_cnxn (framed bytes).given) (framed bytes).given) row)

pub same_device : (h g : History) → SameBrought h g → (t : ℕ) → device_of t h ≡ device_of t g
same_device h g same t =
    ap (λ lost. device_by lost (bytes_received t h) (plugged t h)) (same.lost t)
    ∙ (ap (λ bytes. device_by (is_lost t g) bytes (plugged t h)) (same.received t)
    ∙ ap (device_by (is_lost t g) (bytes_received t g)) (same.plugged t))

-- the devices, unless a kill stands
pub same_devices_if : (h g : History) → SameBrought h g → (killed : Bool) → devices_if killed h ≡ devices_if killed g
same_devices_if h g same true = ap (λ n. record { drawn = n; rows = [] }) same.plugged_count
same_devices_if h g same false =
    ap (λ n. record { drawn = n; rows = listed (λ t. device_of t h) 1 n }) same.plugged_count
    ∙ ap (λ (rows : Rows (Option Row)). record { drawn = plugged_count g; rows = listed rows 1 (plugged_count g) })
    (fun_ext (same_device h g same))

pub same_devices : (h g : History) → SameCame h g → devices h ≡ devices g
same_devices h g same = ap (λ (b : Book). devices_if b.killed h) same.book ∙ same_devices_if h g same.brings (book g).killed

book_devices : (h g : History) → SameBrought h g → book h ≡ book g → devices h ≡ devices g
book_devices h g same is = ap (λ (b : Book). devices_if b.killed h) is ∙ same_devices_if h g same (book g).killed

-- the book after bytes of a client that came, or ended
abbrev read_of : ℕ → List ℕ → DeviceTable → Bool → Bool → Book → Book
read_of c bytes table came over b =
    reads_turn c table (asked_with ((came && not over) && still_asks (b.asked c)) table b.forwards bytes (b.asked c)) b

book_on : (e : Entry) (h g : History) → SameBrought h g → book h ≡ book g → book (e ∷ h) ≡ book (e ∷ g)
book_on (Read c bytes) h g same is =
    ap (λ table. read_of c bytes table (has_joined c h) (has_ended c h) (book h)) (book_devices h g same is)
    ∙ (ap (λ came. read_of c bytes (devices g) came (has_ended c h) (book h)) (same.joined c)
    ∙ (ap (λ over. read_of c bytes (devices g) (has_joined c g) over (book h)) (same.ended c)
    ∙ ap (read_of c bytes (devices g) (has_joined c g) (has_ended c g)) is))
book_on (End c cause) h g same is = ap (λ (b : Book). record b { waits = put_row c None b.waits }) is
book_on (Bound c port) h g same is =
    ap (λ table. bound_turn c port table ((book h).waits c) (book h)) (book_devices h g same is)
    ∙ ap (λ (b : Book). bound_turn c port (devices g) (b.waits c) b) is
book_on (Recv t bytes) h g same is =
    ap (λ (b : Book). record b { forwards = led_by (devices_if b.killed (Recv t bytes ∷ h)) b.forwards }) is
    ∙ ap (λ table. record (book g) { forwards = led_by table (book g).forwards })
    (same_devices_if (Recv t bytes ∷ h) (Recv t bytes ∷ g) (brings_on (Recv t bytes) h g same) (book g).killed)
book_on (Detach t cause) h g same is =
    ap (λ (b : Book). record b { forwards = led_by (devices_if b.killed (Detach t cause ∷ h)) b.forwards }) is
    ∙ ap (λ table. record (book g) { forwards = led_by table (book g).forwards })
    (same_devices_if (Detach t cause ∷ h) (Detach t cause ∷ g) (brings_on (Detach t cause) h g same) (book g).killed)
book_on _ h g same is = is

-- ---- births
-- a birth over these devices, after so many packets
abbrev born_over : (client link head : ℕ) → Bool → List ℕ → DeviceTable → ℕ → Birth
born_over client link head forwarded service table before = record {
  client = client;
  link = link;
  credit = is_credit link table;
  forwarded = forwarded;
  service = service;
  head = head;
  packets_before = before;
}

same_born : (client link head : ℕ) (forwarded : Bool) (service : List ℕ) (h g : History) → SameCame h g
    → born_over client link head forwarded service (devices h) (length (brought link h))
    ≡ born_over client link head forwarded service (devices g) (length (brought link g))
same_born client link head forwarded service h g same =
    ap (λ table. born_over client link head forwarded service table (length (brought link h))) (same_devices h g same)
    ∙ ap (λ packets. born_over client link head forwarded service (devices g) (length packets)) (same_packets h g same.brings link)

birth_by_on : (c head : ℕ) (next : Option Next) (h g : History) → SameCame h g → birth_by c head h next ≡ birth_by c head g next
birth_by_on c head (Some (what.Open transport service)) h g same = ap (λ b. b ∷ []) (same_born c transport head false service h g same)
birth_by_on c head _ h g same = refl

birth_through_on : (c : ℕ) (row : Option ForwardRow) (h g : History) → SameCame h g → birth_through c h row ≡ birth_through c g row
birth_through_on c None h g same = refl
birth_through_on c (Some row) h g same =
    ap (λ table. cond (is_connected row.transport table)
    (born_over c row.transport 0 true row.remote (devices h) (length (brought row.transport h)) ∷ []) [])
    (same_devices h g same)
    ∙ ap (λ b. cond (is_connected row.transport (devices g)) (b ∷ []) []) (same_born c row.transport 0 true row.remote h g same)

births_at_on : (e : Entry) (h g : History) → SameCame h g → births_at e h ≡ births_at e g
births_at_on (Enter c port) h g same =
    ap (λ (b : Book). birth_through c h (at port b.forwards)) same.book ∙ birth_through_on c (at port (forwards g)) h g same
births_at_on (Read c bytes) h g same =
    ap (λ (b : Book). birth_by c (b.asked c).used h (newly (asked c h).next (b.asked c).next))
    (book_on (Read c bytes) h g same.brings same.book)
    ∙ (ap (λ (b : Book). birth_by c (asked c (Read c bytes ∷ g)).used h
    (newly (b.asked c).next (asked c (Read c bytes ∷ g)).next)) same.book
    ∙ birth_by_on c (asked c (Read c bytes ∷ g)).used (newly (asked c g).next (asked c (Read c bytes ∷ g)).next) h g same)
births_at_on _ h g same = refl

-- ---- entries that come, and hand-outs
pub same_refl : (h : History) → SameCame h h
same_refl h = record {
  brings = record {
    joined = λ c. refl;
    ended = λ c. refl;
    lost = λ t. refl;
    received = λ t. refl;
    plugged = λ t. refl;
    plugged_count = refl;
    came_count = refl;
    bytes_asked = λ c. refl;
  };
  book = refl;
  births = refl;
}

-- the same entry behind both
pub same_on : (e : Entry) (h g : History) → SameCame h g → SameCame (e ∷ h) (e ∷ g)
same_on e h g same = record {
  brings = brings_on e h g same.brings;
  book = book_on e h g same.brings same.book;
  births = ap (λ bs. bs ++ births_at e h) same.births ∙ ap (λ bs. births g ++ bs) (births_at_on e h g same);
}

-- what is handed out
abbrev pub IsOut : Option Entry → Type 0
IsOut None = Unit {0}
IsOut (Some (Put c bytes)) = Unit {0}
IsOut (Some (Send t bytes)) = Unit {0}
IsOut (Some e) = ⊥

or_out : (a b : Option Entry) → IsOut a → IsOut b → IsOut (option_or a b)
or_out None b first second = second
or_out (Some e) b first second = first

send_out : (t : ℕ) (due : List ℕ) → IsOut (send_of t due)
send_out t [] = tt
send_out t (b ∷ due) = tt

link_out : (t : ℕ) (row : Option Link) → IsOut (send_on t row)
link_out t None = tt
link_out t (Some link) = send_out t link.due

sends_out : (links : Rows (Option Link)) (t k : ℕ) → IsOut (first_send links t k)
sends_out links t zero = tt
sends_out links t (suc k) = or_out (send_on t (links t)) (first_send links (suc t) k) (link_out t (links t)) (sends_out links (suc t) k)

put_out : (c : ℕ) (due : List ℕ) → IsOut (put_of c due)
put_out c [] = tt
put_out c (b ∷ due) = tt

client_out : (table : DeviceTable) (c : ℕ) (row : Option Client) → IsOut (put_to table c row)
client_out table c None = tt
client_out table c (Some client) = put_out c (offered table client)

puts_out : (table : DeviceTable) (clients : Rows (Option Client)) (c k : ℕ) → IsOut (first_put table clients c k)
puts_out table clients c zero = tt
puts_out table clients c (suc k) =
    or_out (put_to table c (clients c)) (first_put table clients (suc c) k) (client_out table c (clients c))
    (puts_out table clients (suc c) k)

pub next_is_out : (s : State) → IsOut (next_out s)
next_is_out s = or_out (first_send s.links 1 s.devices.drawn) (first_put s.devices s.clients 1 s.joined)
    (sends_out s.links 1 s.devices.drawn)
    (puts_out s.devices s.clients 1 s.joined)

-- a hand-out behind the one
pub same_out : (e : Entry) → IsOut (Some e) → (h g : History) → SameCame h g → SameCame (e ∷ h) g
same_out (Put c bytes) out h g same = record { brings = brought_out; book = same.book; births = append-nil (births h) ∙ same.births }
  where
    brought_out : SameBrought (Put c bytes ∷ h) g
    brought_out = record {
      joined = same.brings.joined;
      ended = same.brings.ended;
      lost = same.brings.lost;
      received = same.brings.received;
      plugged = same.brings.plugged;
      plugged_count = same.brings.plugged_count;
      came_count = same.brings.came_count;
      bytes_asked = same.brings.bytes_asked;
    }
same_out (Send t bytes) out h g same = record { brings = brought_out; book = same.book; births = append-nil (births h) ∙ same.births }
  where
    brought_out : SameBrought (Send t bytes ∷ h) g
    brought_out = record {
      joined = same.brings.joined;
      ended = same.brings.ended;
      lost = same.brings.lost;
      received = same.brings.received;
      plugged = same.brings.plugged;
      plugged_count = same.brings.plugged_count;
      came_count = same.brings.came_count;
      bytes_asked = same.brings.bytes_asked;
    }
same_out _ out h g same = absurd out

pub drain_same : (k : ℕ) (h g : History) → SameCame h g → SameCame (drain k h) g
drain_same zero h g same = same
drain_same (suc k) h g same = go (next_out (state h)) (next_is_out (state h)) (λ e. drain_same k (e ∷ h) g)
  where
    go : (o : Option Entry) → IsOut o → ((e : Entry) → SameCame (e ∷ h) g → SameCame (drain k (e ∷ h)) g)
        → SameCame (or_stay o h (λ e. drain k (e ∷ h))) g
    go None out more = same
    go (Some e) out more = more e (same_out e out h g same)

-- entries that come behind a history, with nothing handed out
abbrev pub came_onto : List Entry → History → History
came_onto [] h = h
came_onto (e ∷ inputs) h = came_onto inputs (e ∷ h)

pub onto_more : (inputs more : List Entry) (h : History) → came_onto (inputs ++ more) h ≡ came_onto more (came_onto inputs h)
onto_more [] more h = refl
onto_more (e ∷ inputs) more h = onto_more inputs more (e ∷ h)

pub onto_reverse : (inputs : List Entry) (h : History) → came_onto inputs h ≡ reverse inputs ++ h
onto_reverse [] h = refl
onto_reverse (e ∷ inputs) h =
    onto_reverse inputs (e ∷ h)
    ∙ (sym (append_assoc (reverse inputs) (e ∷ []) h) ∙ ap (λ front. front ++ h) (sym (reverse_onto inputs e [])))

pub drained_onto : (inputs : List Entry) (h g : History) → SameCame h g → SameCame (drained_from h inputs) (came_onto inputs g)
drained_onto [] h g same = same
drained_onto (e ∷ inputs) h g same =
    drained_onto inputs (drained_after h e) (e ∷ g) (drain_same (owed (state (e ∷ h))) (e ∷ h) (e ∷ g) (same_on e h g same))

-- What came into a drained history is the entries that were put in, the newest first.
pub drained_same : (inputs : List Entry) → SameCame (drained_from [] inputs) (came_onto inputs [])
drained_same inputs = drained_onto inputs [] [] (same_refl [])

-- ---- acts
-- what came with some acts, the newest entry first
abbrev pub came : List Act → History
came acts = came_onto (entries_of acts) []

pub came_more : (done acts : List Act) → came (done ++ acts) ≡ came_onto (entries_of acts) (came done)
came_more done acts = ap (λ inputs. came_onto inputs []) (map-append entry_of done acts) ∙ onto_more (entries_of done) (entries_of acts) []

-- What came into the drained history of a load is what came with its acts.
pub load_same : (acts : List Act) → SameCame (drained_from [] (entries_of acts)) (came acts)
load_same acts = drained_same (entries_of acts)
