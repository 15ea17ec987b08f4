-- One packet of a link: what it makes of the streams.
use Rattle.std.proofs.Common.{◌≡◌, ◌≢◌, ℕ, zero, suc, Bool, true, false, cond, List, [], ◌∷◌, ◌++◌, Option, Some, None, refl, sym, ap}
use Rattle.std.proofs.Common.{subst, ◌∙◌, ◌⊎◌, inl}
use Rattle.std.proofs.Common.{inr, eqb, arith}
use Rattle.std.specs.Prelude.{codes, nat_eq, nat_lt, not, ◌||◌, ◌&&◌, ◌==◌, length, is_some, option_and_then}
use Rattle.std.proofs.lemmas.Bool.{eqb-true, eqb-false, ne_eqb}
use Rattle.std.proofs.lemmas.List.Elements.{All-nil, All-cons, All-weaker, All-append}
use Rattle.adb_outside.specs.Tables.{Rows, change_row, at}
use Rattle.adb_outside.specs.declared.identity.Identity.{Identity}
use Rattle.adb_outside.specs.declared.identity.State.{State as DeviceState}
use Rattle.adb_outside.specs.declared.identity.State.TheVariants.{Offline}
use Rattle.adb_banner.specs.Banner.{identity_of}
use Rattle.adb_registry.specs.declared.row.Row.{Row}
use Rattle.adb_wire.specs.declared.command.Command.{Command}
use Rattle.adb_wire.specs.declared.command.Command.TheVariants.{Cnxn, Open, Okay, Wrte, Clse, Auth, Stls}
use Rattle.adb_wire.specs.declared.packets.Packet.{Packet}
use Rattle.adb_stream.specs.Stream.{with_part}
use Rattle.adb_stream.specs.declared.flow.Flow.{Flow}
use Rattle.adb_stream.specs.declared.flow.Flow.TheVariants.{One, Credit}
use Rattle.adb_stream.specs.declared.row.Part.{Part}
use Rattle.adb_stream.specs.declared.row.Stream.{Stream}
use Rattle.adb_stream.specs.Flow.{first_credit, acknowledged, is_out_of_turn, accepted, has_credit}
use Rattle.adb_history.specs.Rows.{Client, Link, State, to_stream, none_kept, with_stream_part}
use Rattle.adb_history.specs.Events.{Made, Event, quietly, due_to_client, due_to_link, ended}
use Rattle.adb_history.specs.declared.ending.Ending.{Ending}
use Rattle.adb_history.specs.declared.ending.Ending.TheVariants.{PeerClosed, OutOfTurn, Lost, Broken}
use Rattle.adb_history.specs.Links.{wants_sums, check_on, owe_link, close_packet, okay_packet, credit_word, is_connected}
use Rattle.adb_history.specs.Clients.{owe_client}
use Rattle.adb_history.specs.Streams.{ends_row, ends_telling}
use Rattle.adb_history.specs.Flow.{with_flow}
use Rattle.adb_history.specs.Losing.{forgets, link_ends}
use Rattle.adb_history.specs.Packets.{least_version, least_maxdata, streams_end_first, goes_online, connects, cnxn, unauthorized_from}
use Rattle.adb_history.specs.Packets.{unauthorized}
use Rattle.adb_history.specs.Packets.{refuses_open}
use Rattle.adb_history.specs.Packets.{at_stream, with_remote, hears_okay, opened, orphan_opened, okay_open, okay_first, takes_okay}
use Rattle.adb_history.specs.Packets.{accepts_none, accepts, takes_write, takes_close, treat_any, treat_on, treat}
use Rattle.adb_history.specs.Births.{Opening, is_between, opening_by}
use Rattle.adb_history.specs.Linked.{IsLinked}
use Rattle.adb_history.proofs.PacketMoves.{hears_streams}
use Rattle.adb_history.proofs.Numbers.{drawn_plain}
use Rattle.adb_history.proofs.OutputEntries.{connected_is}
use Rattle.adb_history.proofs.LinkMoves.{all_cleared, first_cleared}
use Rattle.adb_laws_births.specs.Going.{Was, GoOn, IsShort, IsFrom, Goes}
use Rattle.adb_laws_births.specs.Openings.{Skips, Hears, hears_nothing, hears_then, hears_open, hears_other, hears_opening}
use Rattle.adb_laws_births.specs.Hearing.{Heard, AllHear, ClosesLate, IsAnswer, Treats}
use Rattle.adb_laws_births.proofs.Going.{go_on_same, go_on_gone, go_on_part, goes_quiet, goes_then, goes_if, one_from, check_short}
use Rattle.adb_laws_births.proofs.Going.{goes_owe_client, goes_owe_link}
use Rattle.adb_laws_births.proofs.GoingEnds.{gone_not, ends_row_gone, goes_ends_row, goes_ends_telling, goes_all_end, goes_link_ends}

-- ---- streams and packets
-- packets that a stream has heard already change nothing
pub heard_still : (t l : ℕ) (before : Option Stream) (b : Stream) → Was before b → Heard t [] l before b
heard_still t l before b was = record {
  stream = was.stream;
  is = was.is;
  id = was.same.id;
  client = was.same.client;
  link = was.same.link;
  credit = was.same.credit;
  here = λ on. subst (λ (n : ℕ). Hears l [] was.stream.part.remote n) (sym was.same.remote) (hears_nothing l was.stream.part.remote);
  other = λ off. was.same.remote;
}

pub hear_going : (t : ℕ) (x y : Rows (Option Stream)) → GoOn x y → AllHear t [] x y
hear_going t x y go l b is = heard_still t l (x l) b (go l b is)

pub hear_then : (t : ℕ) (ps qs : List Packet) (x y z : Rows (Option Stream)) → AllHear t ps x y → AllHear t qs y z
    → AllHear t (ps ++ qs) x z
hear_then t ps qs x y z h k l b is =
    let later = k l b is in
    let first = h l later.stream later.is in
    record {
      stream = first.stream;
      is = first.is;
      id = later.id ∙ first.id;
      client = later.client ∙ first.client;
      link = later.link ∙ first.link;
      credit = later.credit ∙ first.credit;
      here = λ on. hears_then l ps qs first.stream.part.remote later.stream.part.remote b.part.remote
          (first.here (sym later.link ∙ on)) (later.here on);
      other = λ off. later.other off ∙ first.other (λ on. off (later.link ∙ on));
    }

-- a packet that says nothing of the opening of a stream of the link, unless that is open
heard_skipping : (t : ℕ) (p : Packet) (l : ℕ) (before : Option Stream) (b : Stream) → Was before b
    → (b.link ≡ t → Skips l p ⊎ (b.part.remote ≢ 0))
    → Heard t (p ∷ []) l before b
heard_skipping t p l before b was skips = record {
  stream = was.stream;
  is = was.is;
  id = was.same.id;
  client = was.same.client;
  link = was.same.link;
  credit = was.same.credit;
  here = λ on. subst (λ (n : ℕ). Hears l (p ∷ []) n b.part.remote) was.same.remote (by b.part.remote (skips on));
  other = λ off. was.same.remote;
}
  where
    by : (remote : ℕ) → Skips l p ⊎ (remote ≢ 0) → Hears l (p ∷ []) remote remote
    by remote (inl nothing) = hears_other l p remote nothing
    by zero (inr known) = absurd (known refl)
    by (suc remote) (inr known) = hears_open l (p ∷ []) remote

pub hear_skipping : (t : ℕ) (p : Packet) (x y : Rows (Option Stream)) → GoOn x y
    → ((l : ℕ) (b : Stream) → y l ≡ Some b → b.link ≡ t → Skips l p ⊎ (b.part.remote ≢ 0)) → AllHear t (p ∷ []) x y
hear_skipping t p x y go skips l b is = heard_skipping t p l (x l) b (go l b is) (skips l b is)

-- a CLSE is short
short_close : (l remote : ℕ) (sums : Bool) → IsShort (close_packet l remote) (check_on sums (close_packet l remote))
short_close l remote sums = record { size = omega arith; word = check_short sums (close_packet l remote) }

answers : (streams : Rows (Option Stream)) (t : ℕ) (p : Packet) (e : Event) → IsFrom streams e → IsAnswer streams t p e
answers streams t p (due_to_client client bytes) h = tt
answers streams t p (due_to_link link q check) h = (inl h.0, h.1)
answers streams t p (ended stream ending) h = tt

treats_goes : (t : ℕ) (p : Packet) (streams : Rows (Option Stream)) (drawn : ℕ) (m : Made) → Goes streams drawn m
    → ((l : ℕ) (b : Stream) → m.state.streams l ≡ Some b → b.link ≡ t → Skips l p ⊎ (b.part.remote ≢ 0)) → Treats t p streams drawn m
treats_goes t p streams drawn m h skips = record {
  hear = hear_skipping t p streams m.state.streams h.rows skips;
  drawn_is = h.drawn_is;
  told = All-weaker (IsFrom streams) (IsAnswer streams t p) (answers streams t p) m.told h.told;
}

-- ---- which packets say nothing of an opening
skips_by : (l : ℕ) (p : Packet) (command : Command) → p.command ≡ command
    → ((later : List Packet) (others : Option Opening) → opening_by command l p later others ≡ others) → Skips l p
skips_by l p command is says later others = ap (λ (c : Command). opening_by c l p later others) is ∙ says later others

-- an OKAY to another stream, or from no id
skips_okay : (l : ℕ) (p : Packet) → p.command ≡ Okay → (nat_eq p.arg1 l && not (p.arg0 == 0)) ≡ false → Skips l p
skips_okay l p is off = skips_by l p Okay is
    (λ later others. ap (λ (b : Bool). cond b (Some (record { remote = p.arg0; word = credit_word p.payload; later = later })) others) off)

-- a CLSE to another stream, or from an id
skips_close : (l : ℕ) (p : Packet) → p.command ≡ Clse → is_between 0 l p ≡ false → Skips l p
skips_close l p is off = skips_by l p Clse is (λ later others. ap (λ (b : Bool). cond b None others) off)

and_off : (a b : Bool) → b ≡ false → (a && b) ≡ false
and_off true b off = off
and_off false b off = refl

okay_apart : (l : ℕ) (p : Packet) → p.command ≡ Okay → p.arg1 ≢ l → Skips l p
okay_apart l p is apart = skips_okay l p is (ap (λ (b : Bool). b && not (p.arg0 == 0)) (ne_eqb p.arg1 l apart))

close_apart : (l : ℕ) (p : Packet) → p.command ≡ Clse → p.arg1 ≢ l → Skips l p
close_apart l p is apart = skips_close l p is (and_off (nat_eq p.arg0 0) (nat_eq p.arg1 l) (ne_eqb p.arg1 l apart))

cases_same : (a b : ℕ) → (a ≡ b) ⊎ (a ≢ b)
cases_same a b = go (eqb a b) refl
  where
    go : (c : Bool) → eqb a b ≡ c → (a ≡ b) ⊎ (a ≢ b)
    go true e = inl (eqb-true a b e)
    go false e = inr (eqb-false a b e)

module _ (t : ℕ) (p : Packet) (s : State) (h : IsLinked s) where
  -- ---- CNXN: no stream of the link is left
  cleared_link_ends : (l : ℕ) (b : Stream) (ending : Ending) → (link_ends t ending s).state.streams l ≡ Some b → b.link ≢ t
  cleared_link_ends l b ending is = (all_cleared t ending (forgets t s) (record {
    clients = h.owned.rows.clients;
    links = (drawn_plain.link t none_kept s [] h.owned.rows).links;
    streams = h.owned.rows.streams;
  })).clear l b is

  treats_link_ends : (ending : Ending) → Treats t p s.streams s.drawn (link_ends t ending s)
  treats_link_ends ending = treats_goes t p s.streams s.drawn (link_ends t ending s) (goes_link_ends t ending s)
      (λ l b is on. absurd (cleared_link_ends l b ending is on))

  goes_first : (b : Bool) → Goes s.streams s.drawn (streams_end_first b t s)
  goes_first true = goes_all_end t Lost s
  goes_first false = goes_quiet s

  treats_connects : (version maxdata : ℕ) (who : Option Identity) → Treats t p s.streams s.drawn (connects t version maxdata who s)
  treats_connects version maxdata None = treats_link_ends Broken
  treats_connects version maxdata (Some identity) =
      let first : Made = streams_end_first (is_connected t s.devices) t s in
      treats_goes t p s.streams s.drawn (connects t version maxdata (Some identity) s)
      (goes_then s.streams s.drawn first (λ s. quietly (goes_online t version maxdata identity s)) (goes_first (is_connected t s.devices))
      (record { rows = go_on_same first.state.streams; drawn_is = refl; told = All-nil (IsFrom first.state.streams) }))
      (λ l b is on. absurd ((first_cleared s h (is_connected t s.devices) t refl).clear l b is on))

  treats_cnxn : (version maxdata : ℕ) (banner : List ℕ) → Treats t p s.streams s.drawn (cnxn t version maxdata banner s)
  treats_cnxn version maxdata banner = go (nat_lt version least_version || nat_lt maxdata least_maxdata)
    where
      go : (b : Bool) → Treats t p s.streams s.drawn (cond b (link_ends t Broken s) (connects t version maxdata (identity_of banner) s))
      go true = treats_link_ends Broken
      go false = treats_connects version maxdata (identity_of banner)

  -- ---- AUTH, STLS and OPEN
  treats_same : (next : State) → next.streams ≡ s.streams → next.drawn ≡ s.drawn → ((l : ℕ) → Skips l p)
      → Treats t p s.streams s.drawn (quietly next)
  treats_same next same drawn skips = treats_goes t p s.streams s.drawn (quietly next)
      (record {
        rows = subst (λ (x : Rows (Option Stream)). GoOn s.streams x) (sym same) (go_on_same s.streams);
        drawn_is = drawn;
        told = All-nil (IsFrom s.streams);
      })
      (λ l b is on. inl (skips l))

  treats_quiet : ((l : ℕ) (b : Stream) → s.streams l ≡ Some b → b.link ≡ t → Skips l p ⊎ (b.part.remote ≢ 0))
      → Treats t p s.streams s.drawn (quietly s)
  treats_quiet skips = treats_goes t p s.streams s.drawn (quietly s) (goes_quiet s) skips

  treats_login : (o : Option Row) → ((l : ℕ) → Skips l p) → Treats t p s.streams s.drawn (unauthorized t o s)
  treats_login None skips = treats_same s refl refl skips
  treats_login (Some row) skips = go row.state
    where
      go : (state : DeviceState) → Treats t p s.streams s.drawn (quietly (unauthorized_from t state s))
      go Offline = treats_same (unauthorized_from t Offline s) refl refl skips
      go _ = treats_same s refl refl skips

  treats_open : p.command ≡ Open → Treats t p s.streams s.drawn (refuses_open t p.arg0 s)
  treats_open is = go (eqb p.arg0 0)
    where
      skips : (l : ℕ) → Skips l p
      skips l = skips_by l p Open is (λ later others. refl)

      go : (b : Bool) → Treats t p s.streams s.drawn (cond b (quietly s) (owe_link t (close_packet 0 p.arg0) s))
      go true = treats_same s refl refl skips
      go false = record {
        hear = hear_skipping t p s.streams s.streams (go_on_same s.streams) (λ l b there on. inl (skips l));
        drawn_is = refl;
        told = All-cons (IsAnswer s.streams t p) (due_to_link t (close_packet 0 p.arg0) _) [] (
          inr (inl (record { on = refl; asks = is; packet = refl })),
          short_close 0 p.arg0
              (wants_sums (s.links t)),
        ) (All-nil (IsAnswer s.streams t p));
      }

  -- ---- what concerns one stream of the link
  treats_at : (o : Option Stream) (rule : Stream → State → Made) → s.streams p.arg1 ≡ o
      → ((l : ℕ) → p.arg1 ≢ l → Skips l p)
      → ((stream : Stream) → s.streams p.arg1 ≡ Some stream → stream.link ≡ t → Treats t p s.streams s.drawn (rule stream s))
      → Treats t p s.streams s.drawn (at_stream t o rule s)
  treats_at None rule is apart here = treats_quiet (λ l b there on. inl (apart l (λ same. none l b there same)))
    where
      none : (l : ℕ) (b : Stream) → s.streams l ≡ Some b → p.arg1 ≡ l → ⊥
      none l b there same = let clash : None ≡ Some b = sym is ∙ (ap s.streams same ∙ there) in cc
  treats_at (Some stream) rule is apart here = go (nat_eq stream.link t) refl
    where
      off : (l : ℕ) (b : Stream) → s.streams l ≡ Some b → b.link ≡ t → stream.link ≢ t → p.arg1 ≡ l → ⊥
      off l b there on other same =
          let row : stream ≡ b = (let both : Some stream ≡ Some b = sym is ∙ (ap s.streams same ∙ there) in cc) in
          other (ap (λ (x : Stream). x.link) row ∙ on)

      go : (b : Bool) → nat_eq stream.link t ≡ b → Treats t p s.streams s.drawn (cond b (rule stream s) (quietly s))
      go true e = here stream is (eqb-true stream.link t e)
      go false e = treats_quiet (λ l b there on. inl (apart l (off l b there on (eqb-false stream.link t e))))

  module _ (stream : Stream) (is : s.streams p.arg1 ≡ Some stream) (on_t : stream.link ≡ t) where
    -- the row of the stream
    row_is : (l : ℕ) (b : Stream) → s.streams l ≡ Some b → p.arg1 ≡ l → stream ≡ b
    row_is l b there same = let both : Some stream ≡ Some b = sym is ∙ (ap s.streams same ∙ there) in cc

    -- ---- WRTE and CLSE
    treats_goes_at : (m : Made) → Goes s.streams s.drawn m → ((l : ℕ) → Skips l p) → Treats t p s.streams s.drawn m
    treats_goes_at m goes skips = treats_goes t p s.streams s.drawn m goes (λ l b there on. inl (skips l))

    goes_accepts_none : (flow : Flow) → stream.part.remote ≢ 0 → Goes s.streams s.drawn (accepts_none flow p.arg1 stream s)
    goes_accepts_none (One window) known =
        goes_owe_link p.arg1 stream (okay_packet p.arg1 stream.part.remote) s
        (record { row = stream; is = is; link = refl; remote = refl; known = known })
        (record { from = refl; to = refl; of = tt; size = omega arith })
    goes_accepts_none (Credit credit) known = goes_quiet s

    credit_accepted : (n : ℕ) (flow : Flow) → has_credit (accepted n flow) ≡ has_credit flow
    credit_accepted n (One window) = refl
    credit_accepted n (Credit credit) = refl

    goes_accepts : (payload : List ℕ) → stream.part.remote ≢ 0 → Goes s.streams s.drawn (accepts p.arg1 payload stream s)
    goes_accepts [] known = goes_accepts_none stream.part.flow known
    goes_accepts (b ∷ payload) known =
        let part : Part = with_flow (accepted (length (b ∷ payload)) stream.part.flow) stream.part in
        record {
          rows = go_on_part s.streams p.arg1 stream part is (refl, credit_accepted (length (b ∷ payload)) stream.part.flow);
          drawn_is = refl;
          told = one_from s.streams (due_to_client stream.client (b ∷ payload)) tt;
        }

    always : (b : Bool) → (b || not b) ≡ false → ⊥
    always true e = let clash : true ≡ false = e in cc
    always false e = let clash : true ≡ false = e in cc

    written_to : (remote own : ℕ) → (eqb remote 0 || not (eqb remote own)) ≡ false → own ≢ 0
    written_to remote own e none = always (eqb remote 0) (subst (λ (n : ℕ). (eqb remote 0 || not (eqb remote n)) ≡ false) none e)

    goes_write : (remote : ℕ) (payload : List ℕ) → Goes s.streams s.drawn (takes_write p.arg1 remote payload stream s)
    goes_write remote payload =
        let out : Bool = is_out_of_turn stream.part.flow (length payload) in
        let late : Made = ends_telling p.arg1 OutOfTurn stream s in
        let taken : Made = accepts p.arg1 payload stream s in
        goes_if s.streams s.drawn (eqb remote 0 || not (eqb remote stream.part.remote)) (quietly s)
        (cond out late taken) (λ e. goes_quiet s)
        (λ known. goes_if s.streams s.drawn out late taken
        (λ e. goes_ends_telling p.arg1 OutOfTurn stream s is (written_to remote stream.part.remote known))
        (λ e. goes_accepts payload (written_to remote stream.part.remote known)))

    -- a row that is gone is another
    gone_apart : (m : Made) → ((l : ℕ) (b : Stream) → m.state.streams l ≡ Some b → p.arg1 ≢ l) → Goes s.streams s.drawn m
        → ((l : ℕ) → p.arg1 ≢ l → Skips l p) → Treats t p s.streams s.drawn m
    gone_apart m gone goes apart = treats_goes t p s.streams s.drawn m goes (λ l b there on. inl (apart l (gone l b there)))

    treats_close : p.command ≡ Clse → Treats t p s.streams s.drawn (takes_close p.arg1 p.arg0 stream s)
    treats_close close = go (eqb p.arg0 0) (eqb p.arg0 stream.part.remote) refl
      where
        gone : (l : ℕ) (b : Stream) → (ends_row p.arg1 PeerClosed stream s).state.streams l ≡ Some b → p.arg1 ≢ l
        gone l b there = ends_row_gone p.arg1 PeerClosed stream s l b there

        skips : eqb p.arg0 0 ≡ false → (l : ℕ) → Skips l p
        skips off l = skips_close l p close (ap (λ (x : Bool). x && nat_eq p.arg1 l) off)

        go : (a b : Bool) → eqb p.arg0 0 ≡ a
            → Treats t p s.streams s.drawn (cond (a || b) (ends_row p.arg1 PeerClosed stream s) (quietly s))
        go true b e = gone_apart (ends_row p.arg1 PeerClosed stream s) gone (goes_ends_row p.arg1 PeerClosed stream s)
            (λ l. close_apart l p close)
        go false true e = gone_apart (ends_row p.arg1 PeerClosed stream s) gone
            (goes_ends_row p.arg1 PeerClosed stream s) (λ l. close_apart l p close)
        go false false e = treats_goes_at (quietly s) (goes_quiet s) (skips e)

    -- ---- OKAY
    closes_late : p.command ≡ Okay → p.arg0 ≢ 0 → stream.part.remote ≡ 0 → ClosesLate s.streams t p stream.link (close_packet p.arg1 p.arg0)
    closes_late okay known fresh =
        record { stream = stream; is = is; own = on_t; on = on_t; fresh = fresh; okay = okay; known = known; packet = refl }

    fresh_orphan : p.command ≡ Okay → p.arg0 ≢ 0 → stream.part.remote ≡ 0
        → Treats t p s.streams s.drawn (orphan_opened p.arg1 p.arg0 stream s)
    fresh_orphan okay known fresh = record {
      hear = hear_skipping t p s.streams (to_stream p.arg1 none_kept s).streams (go_on_gone s.streams p.arg1)
          (λ l b there on. inl (okay_apart l p okay (gone_not s.streams p.arg1 l b there)));
      drawn_is = refl;
      told = All-cons (IsAnswer s.streams t p) (due_to_link stream.link (close_packet p.arg1 p.arg0) _) []
          (inr (inr (closes_late okay known fresh)), short_close p.arg1 p.arg0 (wants_sums (s.links stream.link)))
          (All-nil (IsAnswer s.streams t p));
    }

    credit_first : (word : Option ℕ) (flow : Flow) → has_credit (first_credit word flow) ≡ has_credit flow
    credit_first word (One window) = refl
    credit_first word (Credit credit) = refl

    abbrev open_part : Part
    open_part = with_remote p.arg0 (with_flow (first_credit (credit_word p.payload) stream.part.flow) stream.part)

    -- the row of the stream, when it is open
    opens_row : p.command ≡ Okay → p.arg0 ≢ 0 → stream.part.remote ≡ 0 → (l : ℕ) (a b : Stream) → s.streams l ≡ Some a → p.arg1 ≡ l
        → with_stream_part open_part a ≡ Some b → Heard t (p ∷ []) l (s.streams l) b
    opens_row okay known fresh l a b there same made =
        let row : with_part open_part a ≡ b = cc in
        let one : stream ≡ a = row_is l a there same in
        subst (λ (x : Stream). Heard t (p ∷ []) l (s.streams l) x) row (record {
          stream = a;
          is = there;
          id = refl;
          client = refl;
          link = refl;
          credit = credit_first (credit_word p.payload) stream.part.flow ∙ ap (λ (x : Stream). has_credit x.part.flow) one;
          here = λ on. subst (λ (n : ℕ). Hears l (p ∷ []) n p.arg0)
              (sym fresh ∙ ap (λ (x : Stream). x.part.remote) one) (heard p.arg0 refl);
          other = λ off. absurd (off (ap (λ (x : Stream). x.link) (sym one) ∙ on_t));
        })
      where
        heard : (remote : ℕ) → p.arg0 ≡ remote → Hears l (p ∷ []) 0 remote
        heard zero e = absurd (known e)
        heard (suc remote) e = hears_opening l p remote (record { okay = okay; to = same; from = e })

    opens_hear : p.command ≡ Okay → p.arg0 ≢ 0 → stream.part.remote ≡ 0
        → AllHear t (p ∷ []) s.streams (change_row p.arg1 (option_and_then (with_stream_part open_part)) s.streams)
    opens_hear okay known fresh l b there = go (eqb p.arg1 l) refl (s.streams l) refl there
      where
        go : (c : Bool) → eqb p.arg1 l ≡ c → (o : Option Stream) → s.streams l ≡ o
            → cond c (option_and_then (with_stream_part open_part) o) o ≡ Some b
            → Heard t (p ∷ []) l (s.streams l) b
        go true e None was now = absurd (let clash : None ≡ Some b = now in cc)
        go true e (Some a) was now = opens_row okay known fresh l a b was (eqb-true p.arg1 l e) now
        go false e o was now = heard_skipping t p l (s.streams l) b (go_on_same s.streams l b (was ∙ now))
            (λ on. inl (okay_apart l p okay (eqb-false p.arg1 l e)))

    goes_hears_okay : (o : Option Client) (c : ℕ) → Goes s.streams s.drawn (hears_okay o c s)
    goes_hears_okay None c = goes_quiet s
    goes_hears_okay (Some client) c =
        goes_if s.streams s.drawn client.about.forwarded (quietly s) (owe_client c (codes "OKAY") s) (λ e. goes_quiet s)
        (λ e. goes_owe_client c (codes "OKAY") s)

    opens_stream : p.command ≡ Okay → p.arg0 ≢ 0 → stream.part.remote ≡ 0
        → Treats t p s.streams s.drawn (opened p.arg1 p.arg0 (credit_word p.payload) stream s)
    opens_stream okay known fresh =
        let heard : Made = hears_okay (s.clients stream.client) stream.client s in
        let goes : Goes s.streams s.drawn heard = goes_hears_okay (s.clients stream.client) stream.client in
        record {
          hear = subst (λ (x : Rows (Option Stream)). AllHear t (p ∷ []) s.streams
              (change_row p.arg1 (option_and_then (with_stream_part open_part)) x))
              (sym (hears_streams (s.clients stream.client) stream.client s)) (opens_hear okay known fresh);
          drawn_is = goes.drawn_is;
          told = All-append (IsAnswer s.streams t p) heard.told []
              (All-weaker (IsFrom s.streams) (IsAnswer s.streams t p) (answers s.streams t p) heard.told goes.told)
              (All-nil (IsAnswer s.streams t p));
        }

    opens_first : (orphan : Bool) → p.command ≡ Okay → p.arg0 ≢ 0 → stream.part.remote ≡ 0
        → Treats t p s.streams s.drawn (okay_first orphan p.arg1 p.arg0 (credit_word p.payload) stream s)
    opens_first true okay known fresh = fresh_orphan okay known fresh
    opens_first false okay known fresh = opens_stream okay known fresh

    -- an OKAY of a stream that is open
    treats_open_row : (m : Made) → p.command ≡ Okay → stream.part.remote ≢ 0 → Goes s.streams s.drawn m → Treats t p s.streams s.drawn m
    treats_open_row m okay known goes = treats_goes t p s.streams s.drawn m goes (λ l b there on. by l b there (cases_same p.arg1 l))
      where
        by : (l : ℕ) (b : Stream) → m.state.streams l ≡ Some b → (p.arg1 ≡ l) ⊎ (p.arg1 ≢ l) → Skips l p ⊎ (b.part.remote ≢ 0)
        by l b there (inr apart) = inl (okay_apart l p okay apart)
        by l b there (inl same) =
            let was = goes.rows l b there in
            let one : stream ≡ was.stream = row_is l was.stream was.is same in
            inr (λ none. known (ap (λ (x : Stream). x.part.remote) one ∙ (sym was.same.remote ∙ none)))

    credit_acknowledged : (word : Option ℕ) (flow : Flow) → has_credit (acknowledged word flow) ≡ has_credit flow
    credit_acknowledged word (One window) = refl
    credit_acknowledged None (Credit credit) = refl
    credit_acknowledged (Some n) (Credit credit) = refl

    goes_okay_open : (word : Option ℕ) → Goes s.streams s.drawn (okay_open p.arg1 word stream s)
    goes_okay_open word = record {
      rows = go_on_part s.streams p.arg1 stream (with_flow (acknowledged word stream.part.flow) stream.part) is
          (refl, credit_acknowledged word stream.part.flow);
      drawn_is = refl;
      told = All-nil (IsFrom s.streams);
    }

    treats_okay : p.command ≡ Okay → Treats t p s.streams s.drawn (takes_okay p.arg1 p.arg0 (credit_word p.payload) stream s)
    treats_okay okay = go (eqb p.arg0 0) refl
      where
        word : Option ℕ
        word = credit_word p.payload

        again : (b : Bool) → stream.part.remote ≢ 0 → Treats t p s.streams s.drawn
            (cond b (okay_open p.arg1 (credit_word p.payload) stream s) (quietly s))
        again true known = treats_open_row (okay_open p.arg1 (credit_word p.payload) stream s) okay known
            (goes_okay_open (credit_word p.payload))
        again false known = treats_open_row (quietly s) okay known (goes_quiet s)

        later : (b : Bool) → eqb stream.part.remote 0 ≡ b → p.arg0 ≢ 0
            → Treats t p s.streams s.drawn (cond b (okay_first stream.part.orphan p.arg1 p.arg0 (credit_word p.payload) stream s)
            (cond (eqb p.arg0 stream.part.remote) (okay_open p.arg1 (credit_word p.payload) stream s) (quietly s)))
        later true e some = opens_first stream.part.orphan okay some (eqb-true stream.part.remote 0 e)
        later false e some = again (eqb p.arg0 stream.part.remote) (eqb-false stream.part.remote 0 e)

        go : (b : Bool) → eqb p.arg0 0 ≡ b → Treats t p s.streams s.drawn (cond b (quietly s)
            (cond (eqb stream.part.remote 0) (okay_first stream.part.orphan p.arg1 p.arg0 (credit_word p.payload) stream s)
            (cond (eqb p.arg0 stream.part.remote) (okay_open p.arg1 (credit_word p.payload) stream s) (quietly s))))
        go true e = treats_quiet (λ l b there on. inl (skips_okay l p okay (and_off (nat_eq p.arg1 l) (not (p.arg0 == 0)) (ap not e))))
        go false e = later (eqb stream.part.remote 0) refl (eqb-false p.arg0 0 e)

  -- ---- one packet
  connected_on : (l : ℕ) (b : Stream) → s.streams l ≡ Some b → b.link ≡ t → is_connected t s.devices ≡ true
  connected_on l b there on = ap (λ (n : ℕ). is_connected n s.devices) (sym on) ∙ (h.on l b there).connected

  if_connected : (m : Made) → Treats t p s.streams s.drawn m → Treats t p s.streams s.drawn (cond (is_connected t s.devices) m (quietly s))
  if_connected m when = go (is_connected t s.devices) refl
    where
      go : (b : Bool) → is_connected t s.devices ≡ b → Treats t p s.streams s.drawn (cond b m (quietly s))
      go true e = when
      go false e = treats_quiet (λ l b there on. absurd (let clash : true ≡ false = sym (connected_on l b there on) ∙ e in cc))

  treats_any : (command : Command) → p.command ≡ command → Treats t p s.streams s.drawn (treat_any t command p s)
  treats_any Cnxn is = treats_cnxn p.arg0 p.arg1 p.payload
  treats_any Auth is = treats_login (at t s.devices.rows) (λ l. skips_by l p Auth is (λ later others. refl))
  treats_any Stls is = treats_login (at t s.devices.rows) (λ l. skips_by l p Stls is (λ later others. refl))
  treats_any Open is = if_connected (refuses_open t p.arg0 s) (treats_open is)
  treats_any Okay is = if_connected (at_stream t (s.streams p.arg1) (takes_okay p.arg1 p.arg0 (credit_word p.payload)) s)
      (treats_at (s.streams p.arg1) (takes_okay p.arg1 p.arg0 (credit_word p.payload)) refl (λ l. okay_apart l p is)
      (λ stream at_l on. treats_okay stream at_l on is))
  treats_any Wrte is = if_connected (at_stream t (s.streams p.arg1) (takes_write p.arg1 p.arg0 p.payload) s)
      (treats_at (s.streams p.arg1) (takes_write p.arg1 p.arg0 p.payload) refl (λ l apart. skips_by l p Wrte is (λ later others. refl))
      (λ stream at_l on. treats_goes_at stream at_l on (takes_write p.arg1 p.arg0 p.payload stream s)
      (goes_write stream at_l on p.arg0 p.payload)
      (λ l. skips_by l p Wrte is (λ later others. refl))))
  treats_any Clse is = if_connected (at_stream t (s.streams p.arg1) (takes_close p.arg1 p.arg0) s)
      (treats_at (s.streams p.arg1) (takes_close p.arg1 p.arg0) refl (λ l. close_apart l p is)
      (λ stream at_l on. treats_close stream at_l on is))

  treats_on : (o : Option Link) → s.links t ≡ o → Treats t p s.streams s.drawn (treat_on o t p s)
  treats_on None is = treats_quiet (λ l b there on. absurd (gone (connected_is (at t s.devices.rows) (connected_on l b there on))))
    where
      gone : is_some (at t s.devices.rows) ≡ true → ⊥
      gone some = let clash : true ≡ false = sym some ∙ (sym (h.rows.linked t) ∙ ap is_some is) in cc
  treats_on (Some link) is = treats_any p.command refl

-- What a packet of a link makes of the streams.
pub treats : (t : ℕ) (p : Packet) (s : State) → IsLinked s → Treats t p s.streams s.drawn (treat t p s)
treats t p s h = treats_on t p s h (s.links t) refl
