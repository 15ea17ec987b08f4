-- What the rows of clients and streams were before a rule, where packets name the streams of some ids.
use Rattle.std.proofs.Common.{ℕ, ◌+◌, ◌≡◌, ◌≤◌, arith, Bool, true, false, cond, List, [], ◌∷◌, ◌++◌, Option, Some, None, refl, sym, ◌∙◌, ap}
use Rattle.std.proofs.Common.{subst, eqb}
use Rattle.std.specs.Prelude.{option_and_then, option_map}
use Rattle.std.proofs.lemmas.Bool.{eqb-true}
use Rattle.adb_outside.specs.Tables.{Rows, change_row}
use Rattle.adb_stream.specs.declared.flow.Flow.{Flow}
use Rattle.adb_stream.specs.declared.row.Part.{Part}
use Rattle.adb_stream.specs.declared.row.Stream.{Stream}
use Rattle.adb_stream.specs.Flow.{has_credit}
use Rattle.adb_client.specs.declared.phase.Phase.{Phase}
use Rattle.adb_client.specs.declared.phase.Phase.TheVariants.{Opening, Streaming, Tracking, Closing}
use Rattle.adb_history.specs.Rows.{Client, State, none_kept, with_due, in_phase, with_stream_part}
use Rattle.adb_history.specs.Clients.{closing_with, closing}
use Rattle.adb_history.specs.Tracking.{marked_in, marked}
use Rattle.adb_history.specs.Flow.{payloads, is_over, is_streaming}
use Rattle.adb_hub_tables.specs.Tracked.{IsAmong}
use Rattle.adb_hub_rules.specs.Up.{is_for}
use Rattle.adb_laws_resting.specs.Named.{credit_to_send, no_credit}

-- the rows that a rule makes of others
pub record Kept : Type 0 where
  pub drawn : ℕ
  pub clients : Rows (Option Client)
  pub streams : Rows (Option Stream)

abbrev pub kept_of : State → Kept
kept_of s = record { drawn = s.drawn; clients = s.clients; streams = s.streams }

-- A flow lets the same go up as another.
pub record LetsSame (old now : Flow) : Type 0 where
  pub payloads : (maxdata : ℕ) (held : List ℕ) → payloads now maxdata held ≡ payloads old maxdata held
  pub over : (ended : Bool) (held : List ℕ) → is_over ended held now ≡ is_over ended held old

pub same_flow : (flow : Flow) → LetsSame flow flow
same_flow flow = record { payloads = λ maxdata held. refl; over = λ ended held. refl }

-- a client that has the stream of an id had it, and holds what it held
pub record HadStream (l : ℕ) (old now : Client) : Type 0 where
  pub has : is_for l old.about.phase ≡ true
  pub held : now.held ≡ old.held

no_more : (n : ℕ) → n + 0 ≤ n
no_more n = omega arith

no_less : (n : ℕ) → 0 + n ≤ n
no_less n = omega arith

-- a row that a change leaves was there before, as the change tells or as it is
module _ {A : Type 0} (R : ℕ → Option A → A → Type 0) (n : ℕ) (f : A → Option A) (rows : Rows (Option A)) where
  row_was : ((k : ℕ) (a : A) → R k (Some a) a) → ((old now : A) → rows n ≡ Some old → f old ≡ Some now → R n (Some old) now)
      → (k : ℕ) (now : A) → change_row n (option_and_then f) rows k ≡ Some now → R k (rows k) now
  row_was same changed k now is = go (eqb n k) refl (rows k) refl is
    where
      go : (here : Bool) → eqb n k ≡ here → (o : Option A) → rows k ≡ o → cond here (option_and_then f o) o ≡ Some now → R k o now
      go true e None row is = absurd (let clash : None ≡ Some now = is in cc)
      go true e (Some old) row is =
          let equal : n ≡ k = eqb-true n k e in
          subst (λ (q : ℕ). R q (Some old) now) equal (changed old now (ap rows equal ∙ row) is)
      go false e None row is = absurd (let clash : None ≡ Some now = is in cc)
      go false e (Some old) row is = let equal : old ≡ now = cc in subst (R k (Some old)) equal (same k old)

module _ (ids : List ℕ) where
  -- a stream that is there, before: it has no more than so much credit more
  pub record StreamWas (l more : ℕ) (before : Option Stream) (now : Stream) : Type 0 where
    pub old : Stream
    pub is : before ≡ Some old
    pub client : now.client ≡ old.client
    pub link : now.link ≡ old.link
    pub id : now.id ≡ old.id
    pub credit : has_credit now.part.flow ≡ has_credit old.part.flow
    pub most : credit_to_send now.part.flow ≤ credit_to_send old.part.flow + more
    pub lets : (IsAmong l ids → ⊥) → LetsSame old.part.flow now.part.flow

  -- a client that is there, before
  pub record ClientWas (before : Option Client) (now : Client) : Type 0 where
    pub old : Client
    pub is : before ≡ Some old
    pub ended : now.about.ended ≡ old.about.ended
    pub had : (l : ℕ) → is_for l now.about.phase ≡ true → HadStream l old now
    pub open_before : (l : ℕ) → (IsAmong l ids → ⊥) → is_streaming l now.about.phase ≡ true → is_streaming l old.about.phase ≡ true

  -- All rows that are there were there before, the streams with so much credit more at most, and none was drawn.
  pub record AllWere (more : ℕ → ℕ) (old now : Kept) : Type 0 where
    pub drawn : now.drawn ≡ old.drawn
    pub streams : (l : ℕ) (stream : Stream) → now.streams l ≡ Some stream → StreamWas l (more l) (old.streams l) stream
    pub clients : (c : ℕ) (client : Client) → now.clients c ≡ Some client → ClientWas (old.clients c) client

  -- ---- nothing changes
  pub stream_same : (l more : ℕ) (stream : Stream) → StreamWas l more (Some stream) stream
  stream_same l more stream = record {
    old = stream;
    is = refl;
    client = refl;
    link = refl;
    id = refl;
    credit = refl;
    most = omega arith;
    lets = λ none. same_flow stream.part.flow;
  }

  pub client_same : (client : Client) → ClientWas (Some client) client
  client_same client = record {
    old = client;
    is = refl;
    ended = refl;
    had = λ l is. record { has = is; held = refl };
    open_before = λ l none is. is;
  }

  stream_there : (l more : ℕ) (row : Option Stream) (stream : Stream) → row ≡ Some stream → StreamWas l more row stream
  stream_there l more row stream is = subst (λ (o : Option Stream). StreamWas l more o stream) (sym is) (stream_same l more stream)

  client_there : (row : Option Client) (client : Client) → row ≡ Some client → ClientWas row client
  client_there row client is = subst (λ (o : Option Client). ClientWas o client) (sym is) (client_same client)

  pub all_same : {more : ℕ → ℕ} (x : Kept) → AllWere more x x
  all_same {more} x = record {
    drawn = refl;
    streams = λ l stream is. stream_there l (more l) (x.streams l) stream is;
    clients = λ c client is. client_there (x.clients c) client is;
  }

  -- ---- one after another
  stream_then : (l : ℕ) {m n : ℕ} (first second : Option Stream) (now : Stream) (h : StreamWas l n second now) → StreamWas l m first h.old
      → StreamWas l (m + n) first now
  stream_then l first second now h k = record {
    old = k.old;
    is = k.is;
    client = h.client ∙ k.client;
    link = h.link ∙ k.link;
    id = h.id ∙ k.id;
    credit = h.credit ∙ k.credit;
    most = omega (arith, h.most, k.most);
    lets = λ none. (let late = h.lets none in let soon = k.lets none in record {
      payloads = λ maxdata held. late.payloads maxdata held ∙ soon.payloads maxdata held;
      over = λ ended held. late.over ended held ∙ soon.over ended held;
    });
  }

  client_then : (first second : Option Client) (now : Client) (h : ClientWas second now) → ClientWas first h.old → ClientWas first now
  client_then first second now h k = record {
    old = k.old;
    is = k.is;
    ended = h.ended ∙ k.ended;
    had = λ l is. (let late = h.had l is in let soon = k.had l late.has in record { has = soon.has; held = late.held ∙ soon.held });
    open_before = λ l none is. k.open_before l none (h.open_before l none is);
  }

  pub more_then : {m n : ℕ → ℕ} (a b c : Kept) → AllWere m a b → AllWere n b c → AllWere (λ l. m l + n l) a c
  more_then a b c h k = record {
    drawn = k.drawn ∙ h.drawn;
    streams = λ l stream is.
        (let late = k.streams l stream is in stream_then l (a.streams l) (b.streams l) stream late
        (h.streams l late.old late.is));
    clients = λ n client is.
        (let late = k.clients n client is in client_then (a.clients n) (b.clients n) client late
        (h.clients n late.old late.is));
  }

  -- where so much credit is no more than that
  stream_within : (l : ℕ) {m n : ℕ} (row : Option Stream) (now : Stream) → m ≤ n → StreamWas l m row now → StreamWas l n row now
  stream_within l row now le h = record {
    old = h.old;
    is = h.is;
    client = h.client;
    link = h.link;
    id = h.id;
    credit = h.credit;
    most = omega (arith, h.most, le);
    lets = h.lets;
  }

  within : {m n : ℕ → ℕ} (a b : Kept) → ((l : ℕ) → m l ≤ n l) → AllWere m a b → AllWere n a b
  within a b le h = record {
    drawn = h.drawn;
    streams = λ l stream is. stream_within l (a.streams l) stream (le l) (h.streams l stream is);
    clients = h.clients;
  }

  pub all_then : (a b c : Kept) → AllWere no_credit a b → AllWere no_credit b c → AllWere no_credit a c
  all_then a b c h k = more_then a b c h k

  -- no credit before some, or behind it
  pub none_before : {more : ℕ → ℕ} (a b c : Kept) → AllWere no_credit a b → AllWere more b c → AllWere more a c
  none_before {more} a b c h k = within a c (λ l. no_less (more l)) (more_then a b c h k)

  pub none_behind : {more : ℕ → ℕ} (a b c : Kept) → AllWere more a b → AllWere no_credit b c → AllWere more a c
  none_behind {more} a b c h k = within a c (λ l. no_more (more l)) (more_then a b c h k)

  pub all_within : {more : ℕ → ℕ} (a b : Kept) → AllWere no_credit a b → AllWere more a b
  all_within {more} a b h = within a b (λ l. omega arith) h

  -- ---- one row changes
  pub client_changes : (c : ℕ) (f : Client → Option Client) (x : Kept)
      → ((old now : Client) → x.clients c ≡ Some old → f old ≡ Some now → ClientWas (Some old) now)
      → AllWere no_credit x (record x { clients = change_row c (option_and_then f) x.clients })
  client_changes c f x changed = record {
    drawn = refl;
    streams = λ l stream is. stream_there l 0 (x.streams l) stream is;
    clients = row_was (λ k o now. ClientWas o now) c f x.clients (λ k client. client_same client) changed;
  }

  pub stream_changes : {more : ℕ → ℕ} (l : ℕ) (f : Stream → Option Stream) (x : Kept)
      → ((old now : Stream) → x.streams l ≡ Some old → f old ≡ Some now → StreamWas l (more l) (Some old) now)
      → AllWere more x (record x { streams = change_row l (option_and_then f) x.streams })
  stream_changes {more} l f x changed = record {
    drawn = refl;
    streams = row_was (λ k o now. StreamWas k (more k) o now) l f x.streams (λ k stream. stream_same k (more k) stream) changed;
    clients = λ c client is. client_there (x.clients c) client is;
  }

  -- ---- clients
  pub owes_were : (c : ℕ) (bytes : List ℕ) (x : Kept) → AllWere no_credit x
      (record x { clients = change_row c (option_and_then (with_due bytes)) x.clients })
  owes_were c bytes x = client_changes c (with_due bytes) x changed
    where
      changed : (old now : Client) → x.clients c ≡ Some old → with_due bytes old ≡ Some now → ClientWas (Some old) now
      changed old now there is =
          let row : record old { due = old.due ++ bytes } ≡ now = cc in
          subst (ClientWas (Some old)) row
          (record { old = old; is = refl; ended = refl; had = λ l is. record { has = is; held = refl }; open_before = λ l none is. is })

  closing_was : (due : List ℕ) (old now : Client) → closing_with due old ≡ Some now → ClientWas (Some old) now
  closing_was [] old now is = absurd (let clash : None ≡ Some now = is in cc)
  closing_was (b ∷ due) old now is =
      let row : record old
      { about = record old.about { phase = Closing; mark = false; want = None }; held = []; due = b ∷ due }
      ≡ now = cc in
      subst (ClientWas (Some old)) row (record {
        old = old;
        is = refl;
        ended = refl;
        had = λ l is. absurd (let clash : false ≡ true = is in cc);
        open_before = λ l none is. absurd (let clash : false ≡ true = is in cc);
      })

  pub closes_were : (c : ℕ) (x : Kept) → AllWere no_credit x (record x { clients = change_row c (option_and_then closing) x.clients })
  closes_were c x = client_changes c closing x (λ old now there is. closing_was old.due old now is)

  -- the client of a stream that an OKAY names had asked for it
  pub opens_were : (c l : ℕ) (x : Kept) → IsAmong l ids → ((old : Client) → x.clients c ≡ Some old → old.about.phase ≡ Opening l)
      → AllWere no_credit x (record x { clients = change_row c (option_and_then (in_phase (Streaming l))) x.clients })
  opens_were c l x named asked = client_changes c (in_phase (Streaming l)) x changed
    where
      changed : (old now : Client) → x.clients c ≡ Some old → in_phase (Streaming l) old ≡ Some now → ClientWas (Some old) now
      changed old now there is =
          let row : record old { about = record old.about { phase = Streaming l } } ≡ now = cc in
          subst (ClientWas (Some old)) row (record {
            old = old;
            is = refl;
            ended = refl;
            had = λ k is. record { has = ap (is_for k) (asked old there) ∙ is; held = refl };
            open_before = λ k none is. absurd (none (subst (λ (q : ℕ). IsAmong q ids) (eqb-true l k is) named));
          })

  marked_was : (old : Client) (phase : Phase) → ClientWas (Some old) (marked_in phase old)
  marked_was old Tracking =
      record { old = old; is = refl; ended = refl; had = λ l is. record { has = is; held = refl }; open_before = λ l none is. is }
  marked_was old _ = client_same old

  pub marks_were : (x : Kept) → AllWere no_credit x (record x { clients = λ c. option_map marked (x.clients c) })
  marks_were x = record {
    drawn = refl;
    streams = λ l stream is. stream_there l 0 (x.streams l) stream is;
    clients = λ c client is. go (x.clients c) client is;
  }
    where
      go : (o : Option Client) (now : Client) → option_map marked o ≡ Some now → ClientWas o now
      go None now is = absurd (let clash : None ≡ Some now = is in cc)
      go (Some old) now is = let row : marked old ≡ now = cc in subst (ClientWas (Some old)) row (marked_was old old.about.phase)

  -- ---- streams
  pub goes_were : (l : ℕ) (x : Kept) → AllWere no_credit x (record x { streams = change_row l (option_and_then none_kept) x.streams })
  goes_were l x = stream_changes l none_kept x (λ old now there is. absurd (let clash : None ≡ Some now = is in cc))

  -- A flow is followed by one of its kind, with so much credit more at most: of a stream that packets name, or to one
  -- that lets the same go up.
  pub record Follows (l more : ℕ) (old now : Flow) : Type 0 where
    pub credit : has_credit now ≡ has_credit old
    pub most : credit_to_send now ≤ credit_to_send old + more
    pub lets : (IsAmong l ids → ⊥) → LetsSame old now

  -- a stream's part changes
  pub parts_were : {more : ℕ → ℕ} (l : ℕ) (stream : Stream) (part : Part) (x : Kept) → x.streams l ≡ Some stream
      → Follows l (more l) stream.part.flow part.flow
      → AllWere more x (record x { streams = change_row l (option_and_then (with_stream_part part)) x.streams })
  parts_were {more} l stream part x here like = stream_changes l (with_stream_part part) x changed
    where
      changed : (old now : Stream) → x.streams l ≡ Some old → with_stream_part part old ≡ Some now → StreamWas l (more l) (Some old) now
      changed old now there is =
          let same : old ≡ stream = (let both : Some old ≡ Some stream = sym there ∙ here in cc) in
          let row : record old { part = part } ≡ now = (let both : Some (record old { part = part }) ≡ Some now = is in cc) in
          let like_old : Follows l (more l) old.part.flow part.flow =
          subst (λ (y : Stream). Follows l (more l) y.part.flow part.flow) (sym same) like in
          subst (StreamWas l (more l) (Some old)) row (record {
            old = old;
            is = refl;
            client = refl;
            link = refl;
            id = refl;
            credit = like_old.credit;
            most = like_old.most;
            lets = like_old.lets;
          })
