-- A hand-out takes more of what is due than it makes due.
use Rattle.std.proofs.Common.{ℕ, ◌+◌, ◌≡◌, ◌≢◌, ◌≤◌, ◌<◌, Bool, true, false, cond, List, [], ◌∷◌, ◌++◌, length, take, drop, min, Option}
use Rattle.std.proofs.Common.{Some, None, refl, sym}
use Rattle.std.proofs.Common.{◌∙◌, ap, subst, arith, zero, suc, eqb, ◌⊎◌, inl, inr}
use Rattle.std.specs.Option.{option_or}
use Rattle.std.specs.Prelude.{option_and_then}
use Rattle.std.proofs.lemmas.Bool.{ne_eqb, eq-eqb, cases_eq}
use Rattle.std.proofs.lemmas.List.{length-append, length-drop, length-take}
use Rattle.adb_outside.specs.Tables.{Rows, change_row}
use Rattle.adb_wire.specs.Header.{header_bytes}
use Rattle.adb_wire.specs.Packet.{spelling, head_for}
use Rattle.adb_wire.specs.declared.packets.Packet.{Packet}
use Rattle.adb_wire.specs.declared.headers.Head.{Head}
use Rattle.adb_registry.specs.Registry.{DeviceTable}
use Rattle.adb_stream.specs.declared.flow.Flow.{Flow}
use Rattle.adb_stream.specs.declared.flow.Flow.TheVariants.{One, Credit}
use Rattle.adb_stream.specs.declared.row.Stream.{Stream}
use Rattle.adb_stream.specs.Flow.{credit_back, to_hand, handed_to}
use Rattle.adb_client.specs.declared.phase.Phase.{Phase}
use Rattle.adb_client.specs.declared.phase.Phase.TheVariants.{Streaming, Closing}
use Rattle.adb_capture.specs.declared.entry.Entry.{Entry}
use Rattle.adb_capture.specs.declared.entry.Entry.TheVariants.{Put, Send}
use Rattle.adb_history.specs.declared.hand_out.TheConstants.{MAX_HAND_OUT}
use Rattle.adb_history.specs.Rows.{Client, Link, State, to_client, to_stream, with_link_due, with_due, with_stream_part}
use Rattle.adb_history.specs.Flow.{with_flow}
use Rattle.adb_history.specs.Clients.{closing_with}
use Rattle.adb_history.specs.Events.{quietly}
use Rattle.adb_history.specs.Links.{okay_packet, credit_packet, owe_link, check_on, wants_sums}
use Rattle.adb_history.specs.Tracking.{offered, list_if_stale, due_or}
use Rattle.adb_history.specs.Handing.{tells_credit, tells_handed, stream_hands, stream_left, client_left, takes_of, puts_to, puts, hands}
use Rattle.adb_history.specs.Handing.{lists_first, link_hands, left_in, unmarked}
use Rattle.adb_history.specs.Machine.{rule}
use Rattle.adb_history.specs.Drained.{owed_link, owed_list, owed_client, owed_by, owed_links, owed_clients, owed, answer_len, send_of}
use Rattle.adb_history.specs.Drained.{send_on, first_send, put_of, put_to, first_put, next_out}

length_header : (head : Head) → length (header_bytes head) ≡ 24
length_header head = refl

-- the bytes of a packet
length_spelling : (p : Packet) (check : ℕ) → length (spelling p check) ≡ 24 + length p.payload
length_spelling p check = length-append (header_bytes (head_for p check)) p.payload
    ∙ ap (λ n. n + length p.payload) (length_header (head_for p check))

-- ---- rows of which one owes more, or fewer
module _ {A : Type 0} (owed_row : Option A → ℕ) where
  same_above : (rows later : Rows (Option A)) (t first k : ℕ) → ((q : ℕ) → q ≢ t → later q ≡ rows q) → t < first
      → owed_by owed_row later first k ≡ owed_by owed_row rows first k
  same_above rows later t first zero others below = refl
  same_above rows later t first (suc k) others below =
      let row : owed_row (later first) ≡ owed_row (rows first) = ap owed_row (others first (λ e. omega (arith, e, below))) in
      omega (arith, same_above rows later t (suc first) k others (omega (arith, below)), row)

  -- so many more at one place at most
  pub owed_more : (rows later : Rows (Option A)) (t first k n : ℕ) → ((q : ℕ) → q ≢ t → later q ≡ rows q)
      → owed_row (later t) ≤ owed_row (rows t) + n
      → owed_by owed_row later first k ≤ owed_by owed_row rows first k + n
  owed_more rows later t first zero n others more = omega arith
  owed_more rows later t first (suc k) n others more = by_place (cases_eq t first) (owed_more rows later t (suc first) k n others more)
    where
      by_place : ◌⊎◌ (t ≡ first) (t ≢ first) → owed_by owed_row later (suc first) k ≤ owed_by owed_row rows (suc first) k + n
          → owed_by owed_row later first (suc k) ≤ owed_by owed_row rows first (suc k) + n
      by_place (inl same) behind =
          let above = same_above rows later t (suc first) k others (omega (arith, same)) in
          let row : owed_row (later t) ≡ owed_row (later first) = ap (λ q. owed_row (later q)) same in
          let row2 : owed_row (rows t) ≡ owed_row (rows first) = ap (λ q. owed_row (rows q)) same in
          omega (arith, above, row, row2, more)
      by_place (inr other) behind =
          let row : owed_row (later first) ≡ owed_row (rows first) = ap owed_row (others first (λ e. other (sym e))) in
          omega (arith, row, behind)

  -- so many fewer at one place at least
  pub owed_less : (rows later : Rows (Option A)) (t first k n : ℕ) → ((q : ℕ) → q ≢ t → later q ≡ rows q)
      → owed_row (later t) + n ≤ owed_row (rows t)
      → first ≤ t → t < first + k → owed_by owed_row later first k + n ≤ owed_by owed_row rows first k
  owed_less rows later t first zero n others less from to = absurd (omega (arith, from, to))
  owed_less rows later t first (suc k) n others less from to =
      by_place (cases_eq t first) (owed_less rows later t (suc first) k n others less)
    where
      by_place : ◌⊎◌ (t ≡ first) (t ≢ first)
          → (suc first ≤ t → t < suc first + k → owed_by owed_row later (suc first) k + n ≤ owed_by owed_row rows (suc first) k)
          → owed_by owed_row later first (suc k) + n ≤ owed_by owed_row rows first (suc k)
      by_place (inl same) behind =
          let above = same_above rows later t (suc first) k others (omega (arith, same)) in
          let row : owed_row (later t) ≡ owed_row (later first) = ap (λ q. owed_row (later q)) same in
          let row2 : owed_row (rows t) ≡ owed_row (rows first) = ap (λ q. owed_row (rows q)) same in
          omega (arith, above, row, row2, less)
      by_place (inr other) behind =
          let row : owed_row (later first) ≡ owed_row (rows first) = ap owed_row (others first (λ e. other (sym e))) in
          omega (arith, row, behind (omega (arith, from, other)) (omega (arith, to)))

-- a row that is changed at another number is what it was
pub changed_elsewhere : {A : Type 0} (rows : Rows A) (t q : ℕ) (f : A → A) → q ≢ t → change_row t f rows q ≡ rows q
changed_elsewhere rows t q f other = ap (λ b. cond b (f (rows q)) (rows q)) (ne_eqb t q (λ e. other (sym e)))

pub changed_here : {A : Type 0} (rows : Rows A) (t : ℕ) (f : A → A) → change_row t f rows t ≡ f (rows t)
changed_here rows t f = ap (λ b. cond b (f (rows t)) (rows t)) (eq-eqb t t refl)

-- ---- what a put makes due to links
-- all but the links stays, and those owe no more than an OKAY more
pub record AddsAnswer (old new : State) : Type 0 where
  pub clients : new.clients ≡ old.clients
  pub devices : new.devices ≡ old.devices
  pub joined : new.joined ≡ old.joined
  pub links : owed_links new ≤ owed_links old + answer_len

pub adds_nothing : (s : State) → AddsAnswer s s
adds_nothing s = record { clients = refl; devices = refl; joined = refl; links = omega arith }

link_more : (bytes : List ℕ) (row : Option Link) → owed_link (option_and_then (with_link_due bytes) row) ≤ owed_link row + length bytes
link_more bytes None = omega arith
link_more bytes (Some link) = omega (arith, length-append link.due bytes)

adds_packet : (t : ℕ) (p : Packet) (s : State) → length p.payload ≤ 4 → AddsAnswer s (owe_link t p s).state
adds_packet t p s short =
    let check = check_on (wants_sums (s.links t)) p in
    let bytes = spelling p check in
    let later : Rows (Option Link) = change_row t (option_and_then (with_link_due bytes)) s.links in
    let here : owed_link (later t) ≤ owed_link (s.links t) + length bytes =
    subst (λ (row : Option Link). owed_link row ≤ owed_link (s.links t) + length bytes)
    (sym (changed_here s.links t (option_and_then (with_link_due bytes)))) (link_more bytes (s.links t)) in
    let more = owed_more owed_link s.links later t 1 s.devices.drawn (length bytes)
    (λ q other. changed_elsewhere s.links t q (option_and_then (with_link_due bytes)) other) here in
    record { clients = refl; devices = refl; joined = refl; links = omega (arith, more, length_spelling p check, short) }

adds_credit : (n l : ℕ) (stream : Stream) (s : State) → AddsAnswer s (tells_credit n l stream s).state
adds_credit zero l stream s = adds_nothing s
adds_credit (suc n) l stream s = adds_packet stream.link (credit_packet l stream.part.remote (suc n)) s (omega arith)

adds_handed : (flow : Flow) (left l : ℕ) (stream : Stream) (s : State) → AddsAnswer s (tells_handed flow left l stream s).state
adds_handed (One window) zero l stream s = adds_packet stream.link (okay_packet l stream.part.remote) s (omega arith)
adds_handed (One window) (suc left) l stream s = adds_nothing s
adds_handed (Credit credit) left l stream s = adds_credit (credit_back left credit) l stream s

adds_hands : (left l : ℕ) (stream : Stream) (s : State) → AddsAnswer s (stream_hands left l stream s).state
adds_hands left l stream s = by_test (eqb left (to_hand stream.part.flow))
  where
    noted : State
    noted = to_stream l (with_stream_part (with_flow (handed_to left stream.part.flow) stream.part)) s

    by_test : (same : Bool) → AddsAnswer s (cond same (quietly s) (tells_handed stream.part.flow left l stream
        (to_stream l (with_stream_part (with_flow (handed_to left stream.part.flow) stream.part)) s))).state
    by_test true = adds_nothing s
    by_test false =
        let adds = adds_handed stream.part.flow left l stream
        (to_stream l (with_stream_part (with_flow (handed_to left stream.part.flow) stream.part)) s) in
        record { clients = adds.clients; devices = adds.devices; joined = adds.joined; links = adds.links }

adds_left : (due l : ℕ) (stream : Option Stream) (s : State) → AddsAnswer s (stream_left due l stream s).state
adds_left due l None s = adds_nothing s
adds_left due l (Some stream) s = adds_hands (min (to_hand stream.part.flow) due) l stream s

adds_client_left : (phase : Phase) (due : ℕ) (s : State) → AddsAnswer s (client_left phase due s).state
adds_client_left (Streaming l) due s = adds_left due l (s.streams l) s
adds_client_left _ due s = adds_nothing s

-- ---- what a put takes from a client
-- a client that is handed some of what is due owes so many fewer
closing_less : (devices : DeviceTable) (due : List ℕ) (c : Client) → owed_client devices (closing_with due c) ≤ length due
closing_less devices [] c = omega arith
closing_less devices (b ∷ due) c = omega arith

hands_less : (devices : DeviceTable) (phase : Phase) (n : ℕ) (c : Client) → n ≤ length c.due
    → owed_client devices (left_in phase (drop n c.due) c) + n ≤ owed_client devices (Some c)
hands_less devices Closing n c some =
    omega (arith, closing_less devices (drop n c.due) (record c { due = drop n c.due }), length-drop n c.due, some)
hands_less devices _ n c some = omega (arith, length-drop n c.due, some)

-- A put takes so many from one client, and makes no more than an OKAY due.
pub record TakesSome (c n : ℕ) (old new : State) : Type 0 where
  pub devices : new.devices ≡ old.devices
  pub joined : new.joined ≡ old.joined
  pub others : (q : ℕ) → q ≢ c → new.clients q ≡ old.clients q
  pub here : owed_client old.devices (new.clients c) + n ≤ owed_client old.devices (old.clients c)
  pub links : owed_links new ≤ owed_links old + answer_len

takes_some : (c n : ℕ) (s : State) (client : Client) → s.clients c ≡ Some client → n ≤ length client.due
    → TakesSome c n s (takes_of c n (s.clients c) s).state
takes_some c n s client is some =
    subst (λ (row : Option Client). TakesSome c n s (takes_of c n row s).state) (sym is) (
    let handed : State = to_client c (hands n) s in
    let adds = adds_client_left client.about.phase (length (drop n client.due)) handed in
    let at_row : handed.clients c ≡ left_in client.about.phase (drop n client.due) client =
    changed_here s.clients c (option_and_then (hands n)) ∙ ap (option_and_then (hands n)) is in
    record {
      devices = adds.devices;
      joined = adds.joined;
      others = λ q other. ap (λ rows. rows q) adds.clients ∙ changed_elsewhere s.clients c q (option_and_then (hands n)) other;
      here = subst (λ (row : Option Client). owed_client s.devices row + n ≤ owed_client s.devices (s.clients c))
          (sym (ap (λ rows. rows c) adds.clients ∙ at_row))
          (subst (λ (row : Option Client). owed_client s.devices
          (left_in client.about.phase (drop n client.due) client) + n ≤ owed_client s.devices row)
          (sym is)
          (hands_less s.devices client.about.phase n client some));
      links = adds.links;
    })

-- the list of a stale tracker becomes due, and its mark goes: it owes no more than before
pub record ListsFirst (c n : ℕ) (old new : State) : Type 0 where
  pub client : Client
  pub is : new.clients c ≡ Some client
  pub enough : n ≤ length client.due
  pub devices : new.devices ≡ old.devices
  pub joined : new.joined ≡ old.joined
  pub links : new.links ≡ old.links
  pub others : (q : ℕ) → q ≢ c → new.clients q ≡ old.clients q
  pub here : owed_client old.devices (new.clients c) ≤ owed_client old.devices (old.clients c)

list_owed : (devices : DeviceTable) (mark long : Bool) → length (list_if_stale devices mark long) ≡ owed_list devices mark long
list_owed devices true long = refl
list_owed devices false long = refl

lists_by : (c n : ℕ) (s : State) (client : Client) → s.clients c ≡ Some client → (due : List ℕ) → client.due ≡ due
    → n ≤ length (due_or due (list_if_stale s.devices client.about.mark client.about.long))
    → ListsFirst c n s (lists_first c due client s).state
lists_by c n s client is (b ∷ due) has some = record {
  client = client;
  is = is;
  enough = subst (λ (l : List ℕ). n ≤ length l) (sym has) some;
  devices = refl;
  joined = refl;
  links = refl;
  others = λ q other. refl;
  here = omega arith;
}
lists_by c n s client is [] has some =
    let list : List ℕ = offered s.devices client in
    let same : list ≡ list_if_stale s.devices client.about.mark client.about.long =
    ap (λ l. due_or l (list_if_stale s.devices client.about.mark client.about.long)) has in
    let open_row : Client = record client { about = record client.about { mark = false }; due = client.due ++ list } in
    let at_row : (to_client c (with_due list) (to_client c unmarked s)).clients c ≡ Some open_row =
    changed_here (to_client c unmarked s).clients c (option_and_then (with_due list))
    ∙ ap (option_and_then (with_due list)) (changed_here s.clients c (option_and_then unmarked) ∙ ap (option_and_then unmarked) is) in
    let size : length open_row.due ≡ length list = omega (arith, length-append client.due list, ap (length {A = ℕ}) has) in
    record {
      client = open_row;
      is = at_row;
      enough = omega (arith, size, ap (length {A = ℕ}) same, some);
      devices = refl;
      joined = refl;
      links = refl;
      others = λ q other. changed_elsewhere (to_client c unmarked s).clients c q (option_and_then (with_due list)) other
          ∙ changed_elsewhere s.clients c q (option_and_then unmarked) other;
      here = subst (λ (row : Option Client). owed_client s.devices row ≤ owed_client s.devices (s.clients c)) (sym at_row)
          (subst (λ (row : Option Client). owed_client s.devices (Some open_row) ≤ owed_client s.devices row) (sym is)
          (omega (
            arith,
            size,
            ap (length {A = ℕ}) same,
            list_owed s.devices client.about.mark client.about.long,
            ap
                (length {A = ℕ}) has,
          )));
    }

-- a put of so many bytes that may be handed out
pub puts_less : (c n : ℕ) (s : State) (client : Client) → s.clients c ≡ Some client → n ≤ length (offered s.devices client)
    → TakesSome c n s (puts c n s).state
puts_less c n s client is some =
    subst (λ (row : Option Client). TakesSome c n s (puts_to row c n s).state) (sym is) (
    let listed = lists_by c n s client is client.due refl some in
    let taken = takes_some c n (lists_first c client.due client s).state listed.client listed.is listed.enough in
    let owes : owed_client s.devices ((lists_first c client.due client s).state.clients c)
    ≤ owed_client s.devices (s.clients c) = listed.here in
    let less : owed_client s.devices ((puts_to (Some client) c n s).state.clients c) + n
    ≤ owed_client s.devices ((lists_first c client.due client s).state.clients c) =
    subst (λ (d : DeviceTable). owed_client d ((puts_to (Some client) c n s).state.clients c) + n
    ≤ owed_client d ((lists_first c client.due client s).state.clients c)) listed.devices taken.here in
    let same_links : owed_links (lists_first c client.due client s).state ≡ owed_links s =
    ap (λ (d : DeviceTable). owed_by owed_link (lists_first c client.due client s).state.links 1 d.drawn) listed.devices
    ∙ ap (λ (links : Rows (Option Link)). owed_by owed_link links 1 s.devices.drawn) listed.links in
    record {
      devices = taken.devices ∙ listed.devices;
      joined = taken.joined ∙ listed.joined;
      others = λ q other. taken.others q other ∙ listed.others q other;
      here = omega (arith, owes, less);
      links = omega (arith, taken.links, same_links);
    })

-- ---- the next hand-out
-- a send of some of the bytes that are due to a link that lives
pub record IsSend (s : State) (e : Entry) (first k : ℕ) : Type 0 where
  pub link : ℕ
  pub row : Link
  pub is : s.links link ≡ Some row
  pub some : row.due ≢ []
  pub entry : e ≡ Send link (take MAX_HAND_OUT row.due)
  pub from : first ≤ link
  pub to : link < first + k

-- a put of some of the bytes that may be handed out to a client that lives
pub record IsPut (s : State) (e : Entry) (first k : ℕ) : Type 0 where
  pub client : ℕ
  pub row : Client
  pub is : s.clients client ≡ Some row
  pub some : offered s.devices row ≢ []
  pub entry : e ≡ Put client (take MAX_HAND_OUT (offered s.devices row))
  pub from : first ≤ client
  pub to : client < first + k

nothing_is_none : {A : Type 0} (b : A) (bs : List A) → b ∷ bs ≢ []
nothing_is_none b bs e = cc

pub sends_first : (s : State) (e : Entry) (t k : ℕ) → first_send s.links t k ≡ Some e → IsSend s e t k
sends_first s e t zero is = absurd (let clash : None ≡ Some e = is in cc)
sends_first s e t (suc k) is = by_row (λ found. later (sends_first s e (suc t) k found)) (s.links t) refl is
  where
    later : IsSend s e (suc t) k → IsSend s e t (suc k)
    later r =
        record {
          link = r.link;
          row = r.row;
          is = r.is;
          some = r.some;
          entry = r.entry;
          from =
              omega (arith, r.from);
          to = omega (arith, r.to);
        }

    by_due : (first_send s.links (suc t) k ≡ Some e → IsSend s e t (suc k))
        → (link : Link) → s.links t ≡ Some link → (due : List ℕ) → link.due ≡ due
        → option_or (send_of t due) (first_send s.links (suc t) k) ≡ Some e
        → IsSend s e t (suc k)
    by_due others link here [] has found = others found
    by_due others link here (b ∷ due) has found = record {
      link = t;
      row = link;
      is = here;
      some = λ none. nothing_is_none b due (sym has ∙ none);
      entry = let same : Send t (take MAX_HAND_OUT (b ∷ due)) ≡ e = cc in sym same ∙ ap (λ l. Send t (take MAX_HAND_OUT l)) (sym has);
      from = omega arith;
      to = omega arith;
    }

    by_row : (first_send s.links (suc t) k ≡ Some e → IsSend s e t (suc k))
        → (row : Option Link) → s.links t ≡ row → option_or (send_on t row) (first_send s.links (suc t) k) ≡ Some e → IsSend s e t (suc k)
    by_row others None here found = others found
    by_row others (Some link) here found = by_due others link here link.due refl found

pub puts_first : (s : State) (e : Entry) (c k : ℕ) → first_put s.devices s.clients c k ≡ Some e → IsPut s e c k
puts_first s e c zero is = absurd (let clash : None ≡ Some e = is in cc)
puts_first s e c (suc k) is = by_row (λ found. later (puts_first s e (suc c) k found)) (s.clients c) refl is
  where
    later : IsPut s e (suc c) k → IsPut s e c (suc k)
    later r =
        record {
          client = r.client;
          row = r.row;
          is = r.is;
          some = r.some;
          entry = r.entry;
          from =
              omega (arith, r.from);
          to = omega (arith, r.to);
        }

    by_offer : (first_put s.devices s.clients (suc c) k ≡ Some e → IsPut s e c (suc k))
        → (client : Client) → s.clients c ≡ Some client → (offer : List ℕ) → offered s.devices client ≡ offer
        → option_or (put_of c offer) (first_put s.devices s.clients (suc c) k) ≡ Some e → IsPut s e c (suc k)
    by_offer others client here [] has found = others found
    by_offer others client here (b ∷ offer) has found = record {
      client = c;
      row = client;
      is = here;
      some = λ none. nothing_is_none b offer (sym has ∙ none);
      entry = let same : Put c (take MAX_HAND_OUT (b ∷ offer)) ≡ e = cc in sym same ∙ ap (λ l. Put c (take MAX_HAND_OUT l)) (sym has);
      from = omega arith;
      to = omega arith;
    }

    by_row : (first_put s.devices s.clients (suc c) k ≡ Some e → IsPut s e c (suc k))
        → (row : Option Client) → s.clients c ≡ row → option_or (put_to s.devices c row) (first_put s.devices s.clients (suc c) k) ≡ Some e
        → IsPut s e c (suc k)
    by_row others None here found = others found
    by_row others (Some client) here found = by_offer others client here (offered s.devices client) refl found

-- ---- what the next hand-out leaves
some_long : (l : List ℕ) → l ≢ [] → 0 < length (take MAX_HAND_OUT l)
some_long [] some = absurd (some refl)
some_long (b ∷ l) some = omega (arith, length-take MAX_HAND_OUT (b ∷ l))

no_longer : (l : List ℕ) → length (take MAX_HAND_OUT l) ≤ length l
no_longer l = omega (arith, length-take MAX_HAND_OUT l)

send_less : (s : State) (e : Entry) → IsSend s e 1 s.devices.drawn → owed (rule e s).state < owed s
send_less s e r = subst (λ (x : Entry). owed (rule x s).state < owed s) (sym r.entry) (
    let n = length (take MAX_HAND_OUT r.row.due) in
    let later : Rows (Option Link) = change_row r.link (option_and_then (link_hands n)) s.links in
    let at_row : later r.link ≡ Some (record r.row { due = drop n r.row.due }) =
    changed_here s.links r.link (option_and_then (link_hands n)) ∙ ap (option_and_then (link_hands n)) r.is in
    let here : owed_link (later r.link) + n ≤ owed_link (s.links r.link) =
    subst (λ (row : Option Link). owed_link row + n ≤ owed_link (s.links r.link)) (sym at_row)
    (subst (λ (row : Option Link). length (drop n r.row.due) + n ≤ owed_link row) (sym r.is)
    (omega (arith, length-drop n r.row.due, no_longer r.row.due))) in
    let less = owed_less owed_link s.links later r.link 1 s.devices.drawn n
    (λ q other. changed_elsewhere s.links r.link q (option_and_then (link_hands n)) other) here r.from r.to in
    omega (arith, less, some_long r.row.due r.some))

put_less : (s : State) (e : Entry) → IsPut s e 1 s.joined → owed (rule e s).state < owed s
put_less s e r = subst (λ (x : Entry). owed (rule x s).state < owed s) (sym r.entry) (
    let bytes = take MAX_HAND_OUT (offered s.devices r.row) in
    let t = puts_less r.client (length bytes) s r.row r.is (no_longer (offered s.devices r.row)) in
    let after : State = (puts r.client (length bytes) s).state in
    let less = owed_less (owed_client s.devices) s.clients after.clients r.client 1 s.joined (length bytes) t.others t.here r.from r.to in
    let same : owed_clients after ≡ owed_by (owed_client s.devices) after.clients 1 s.joined =
    ap (λ (d : DeviceTable). owed_by (owed_client d) after.clients 1 after.joined) t.devices
    ∙ ap (λ (k : ℕ). owed_by (owed_client s.devices) after.clients 1 k) t.joined in
    omega (arith, less, same, t.links, some_long (offered s.devices r.row) r.some))

-- a hand-out by the rules of put and send leaves less due
pub hand_out_less : (s : State) (e : Entry) → next_out s ≡ Some e → owed (rule e s).state < owed s
hand_out_less s e is = by_send (first_send s.links 1 s.devices.drawn) refl is
  where
    by_send : (o : Option Entry) → first_send s.links 1 s.devices.drawn ≡ o
        → option_or o (first_put s.devices s.clients 1 s.joined) ≡ Some e
        → owed (rule e s).state < owed s
    by_send None none found = put_less s e (puts_first s e 1 s.joined found)
    by_send (Some x) first found = send_less s e (sends_first s e 1 s.devices.drawn (first ∙ found))
