-- Clients and streams keep each other through each move.
use Rattle.std.proofs.Common.{◌≡◌, ◌≢◌, ℕ, ◌<◌, ◌≤◌, zero, suc, Bool, true, false, List, [], ◌∷◌, ◌++◌, length, Option, Some, None, refl}
use Rattle.std.proofs.Common.{sym, ap}
use Rattle.std.proofs.Common.{subst, ◌∙◌, arith, ◌⊎◌, inl, inr, length-append}
use Rattle.std.specs.Prelude.{is_some, option_and_then, option_map}
use Rattle.adb_outside.specs.Tables.{Rows, change_row}
use Rattle.adb_stream.specs.declared.flow.Flow.{Flow}
use Rattle.adb_stream.specs.declared.row.Stream.{Stream}
use Rattle.adb_stream.specs.Flow.{to_hand}
use Rattle.adb_client.specs.declared.phase.Phase.{Phase}
use Rattle.adb_client.specs.declared.phase.Phase.TheVariants.{Asking, Opening, Streaming, Binding, Tracking, Closing, Gone}
use Rattle.adb_client.specs.declared.about.Want.{Want}
use Rattle.adb_history.specs.Rows.{Client, State, to_client, to_stream, none_kept, with_due, with_held, with_stream_part}
use Rattle.adb_history.specs.Clients.{closing, closing_with, closes}
use Rattle.adb_history.specs.Flow.{with_flow}
use Rattle.adb_history.specs.Tracking.{marked, marked_in}
use Rattle.adb_history.specs.Losing.{stream_of, input_ended}
use Rattle.adb_history.specs.Reading.{tracks, awaits}
use Rattle.adb_history.specs.Handing.{unmarked}
use Rattle.adb_history.specs.Orderly.{phase_for}
use Rattle.adb_history.specs.Moves.{IsFree, HasOne, IsLike}
use Rattle.adb_history.specs.Owned.{StreamOf, ClientOf, OwnerIn, StreamIn, HoldsIn, ClientIn, Owned, IsOwned, AllDrawn}
use Rattle.adb_history.proofs.Following.{changed_here, changed_other}
use Rattle.adb_history.proofs.Owning.{Alike, AlikeAt, owned_alike, alike_change, AlikeStream, owned_stream, IsOnly, Changes, owned_changes}

order : (a b : ℕ) → (a ≤ b) ⊎ (b < a)
order a b = grind arith

-- a client that is there has a number that was drawn
pub joined_client : (s : State) (c : ℕ) (client : Client) → AllDrawn s → s.clients c ≡ Some client → c ≤ s.joined
joined_client s c client rows is = go (order c s.joined)
  where
    go : (c ≤ s.joined) ⊎ (s.joined < c) → c ≤ s.joined
    go (inl within) = within
    go (inr above) = absurd (let clash : None ≡ Some client = sym (rows.clients.above c above) ∙ is in cc)

pub free_only : (l : ℕ) (phase : Phase) → IsFree phase → IsOnly l phase
free_only l (Opening k) h = absurd h
free_only l (Streaming k) h = absurd h
free_only l _ h = tt

module _ (s : State) (h : IsOwned s) where
  -- ---- one client changes, which has no stream
  pub owned_client : (c : ℕ) (f : Client → Option Client) (x : Client) → (s.clients c ≡ Some x) × IsOnly 0 x.about.phase
      → ((y : Client) → f x ≡ Some y → ClientIn s.streams c y) → Owned s.joined (change_row c (option_and_then f) s.clients) s.streams
  owned_client c f x is keeps = owned_changes s (to_client c f s) c 0 changes h.owned
    where
      none : (y : Stream) → s.streams 0 ≡ Some y → ⊥
      none y e = let clash : None ≡ Some y = sym h.rows.streams.zero ∙ e in cc

      changes : Changes s (to_client c f s) c 0
      changes = record {
        joined = omega arith;
        clients = λ k apart. changed_other c k f s.clients apart;
        streams = λ m apart. refl;
        gone = λ within e. absurd (let clash : None ≡ Some x = sym e ∙ is.0 in cc);
        only = λ z e. let same : x ≡ z = (let both : Some x ≡ Some z = sym is.0 ∙ e in cc)
            in subst (λ (k : Client). IsOnly 0 k.about.phase) same is.1;
        own = λ z e. absurd (none z e);
        stream = λ y e. absurd (none y e);
        client = λ y e. keeps y (sym (changed_here c f s.clients x is.0) ∙ e);
      }

-- what is left of a client that closes
pub closing_in : (streams : Rows (Option Stream)) (c : ℕ) (due : List ℕ) (x y : Client) → x.about.number ≡ c → closing_with due x ≡ Some y
    → ClientIn streams c y
closing_in streams c [] x y number e = absurd (let clash : None ≡ Some y = e in cc)
closing_in streams c (b ∷ due) x y number e =
    let z : Client = record x { about = record x.about { phase = Closing; mark = false; want = None }; held = []; due = b ∷ due } in
    let same : z ≡ y = cc in
    subst (λ (k : Client). ClientIn streams c k) same
    (record { number = number; mark = λ m. absurd (let clash : false ≡ true = m in cc); holds = (refl, λ nil. absurd (some nil)) })
  where
    some : b ∷ due ≡ [] → ⊥
    some nil = cc

module _ (s : State) (h : IsOwned s) where
  pub closes_owned : (c : ℕ) (x : Client) → s.clients c ≡ Some x → IsOnly 0 x.about.phase → Owned s.joined (closes c s).clients s.streams
  closes_owned c x is only = owned_client s h c closing x (is, only)
      (λ y e. closing_in s.streams c x.due x y (h.owned.client c x is).number e)

-- a client that asked has no mark
pub no_mark : (x : Client) → (x.about.mark ≡ true → x.about.phase ≡ Tracking) → x.about.phase ≡ Asking → x.about.mark ≡ true → ⊥
no_mark x mark asking m = let clash : Asking ≡ Tracking = sym asking ∙ mark m in cc

module _ (s : State) (h : IsOwned s) where
  pub tracks_owned : (c : ℕ) (x : Client) (long : Bool) → s.clients c ≡ Some x → x.about.phase ≡ Asking
      → Owned s.joined (to_client c (tracks long) s).clients s.streams
  tracks_owned c x long is asking = owned_client s h c (tracks long) x (is, subst (IsOnly 0) (sym asking) tt) keeps
    where
      keeps : (y : Client) → tracks long x ≡ Some y → ClientIn s.streams c y
      keeps y e =
          let z : Client = record x { about = record x.about { phase = Tracking; long = long; mark = false }; held = [] } in
          let same : z ≡ y = cc in
          subst (λ (k : Client). ClientIn s.streams c k) same
          (record { number = (h.owned.client c x is).number; mark = λ m. refl; holds = refl })

  pub awaits_owned : (c : ℕ) (x : Client) (want : Want) → s.clients c ≡ Some x → x.about.phase ≡ Asking
      → Owned s.joined (to_client c (awaits want) s).clients s.streams
  awaits_owned c x want is asking = owned_client s h c (awaits want) x (is, subst (IsOnly 0) (sym asking) tt) keeps
    where
      keeps : (y : Client) → awaits want x ≡ Some y → ClientIn s.streams c y
      keeps y e =
          let z : Client = record x { about = record x.about { phase = Binding; want = Some want }; held = [] } in
          let same : z ≡ y = cc in
          let was = h.owned.client c x is in
          subst (λ (k : Client). ClientIn s.streams c k) same
          (record { number = was.number; mark = λ m. absurd (no_mark x was.mark asking m); holds = (refl, refl) })

streamless : (streams : Rows (Option Stream)) (c : ℕ) (x : Client) (phase : Phase) → HoldsIn phase streams c x
    → stream_of phase streams ≡ None → IsOnly 0 phase
streamless streams c x (Opening l) h e = absurd (let clash : None ≡ Some h.stream = sym e ∙ h.is in cc)
streamless streams c x (Streaming l) h e = absurd (let clash : None ≡ Some h.stream = sym e ∙ h.is in cc)
streamless streams c x _ h e = tt

module _ (s : State) (h : IsOwned s) where
  pub drops_owned : (c : ℕ) (x : Client) → s.clients c ≡ Some x → stream_of x.about.phase s.streams ≡ None
      → Owned s.joined (to_client c none_kept s).clients s.streams
  drops_owned c x is none =
      owned_client s h c none_kept x (is, streamless s.streams c x x.about.phase (h.owned.client c x is).holds none)
      (λ y e. absurd (let clash : None ≡ Some y = e in cc))

-- ---- clients that are alike
holds_due : (streams : Rows (Option Stream)) (c : ℕ) (x : Client) (bytes : List ℕ) (phase : Phase) → HoldsIn phase streams c x
    → HoldsIn phase streams c (record x { due = x.due ++ bytes })
holds_due streams c x bytes Closing h = (h.0, go x.due h.1)
  where
    go : (due : List ℕ) → due ≢ [] → (due ++ bytes) ≢ []
    go [] some nil = some refl
    go (b ∷ due) some nil = absurd (cc)
holds_due streams c x bytes _ h = h

module _ (s : State) (h : IsOwned s) where
  pub due_owned : (c : ℕ) (bytes : List ℕ) → Owned s.joined (to_client c (with_due bytes) s).clients s.streams
  due_owned c bytes = owned_alike s.joined s.clients (to_client c (with_due bytes) s).clients s.streams
      (alike_change s.streams s.clients c (λ x. record x { due = x.due ++ bytes }) alike) h.owned
    where
      alike : (x : Client) → s.clients c ≡ Some x → Alike s.streams c x (record x { due = x.due ++ bytes })
      alike x is = record {
        phase = refl;
        due = omega (arith, length-append x.due bytes);
        own = λ was. record { number = was.number; mark = was.mark; holds = holds_due s.streams c x bytes x.about.phase was.holds };
      }

holds_held : (streams : Rows (Option Stream)) (c : ℕ) (x : Client) (bytes : List ℕ) (phase : Phase) → HasOne phase
    → HoldsIn phase streams c x
    → HoldsIn phase streams c (record x { held = bytes })
holds_held streams c x bytes (Opening l) one h = h
holds_held streams c x bytes (Streaming l) one h = h
holds_held streams c x bytes _ one h = absurd one

module _ (s : State) (h : IsOwned s) where
  pub held_owned : (c : ℕ) (bytes : List ℕ) (client : Client) → s.clients c ≡ Some client → HasOne client.about.phase
      → Owned s.joined (to_client c (with_held bytes) s).clients s.streams
  held_owned c bytes client is has = owned_alike s.joined s.clients (to_client c (with_held bytes) s).clients s.streams
      (alike_change s.streams s.clients c (λ x. record x { held = bytes }) alike) h.owned
    where
      alike : (x : Client) → s.clients c ≡ Some x → Alike s.streams c x (record x { held = bytes })
      alike x e =
          let same : client ≡ x = (let both : Some client ≡ Some x = sym is ∙ e in cc) in
          let one : HasOne x.about.phase = subst (λ (k : Client). HasOne k.about.phase) same has in
          record {
            phase = refl;
            due = omega arith;
            own = λ was. record {
              number = was.number;
              mark = was.mark;
              holds =
                  holds_held s.streams c x bytes x.about.phase one was.holds;
            };
          }

-- a client of which only what is told of it changes
holds_about : (streams : Rows (Option Stream)) (c : ℕ) (x y : Client) (phase : Phase)
    → (y.held ≡ x.held) × (y.due ≡ x.due) × (y.about.want ≡ x.about.want)
    → HoldsIn phase streams c x → HoldsIn phase streams c y
holds_about streams c x y Asking e h = tt
holds_about streams c x y Binding e h = (e.0 ∙ h.0, ap is_some e.2 ∙ h.1)
holds_about streams c x y Tracking e h = e.0 ∙ h
holds_about streams c x y Closing e h = (e.0 ∙ h.0, λ nil. h.1 (sym e.1 ∙ nil))
holds_about streams c x y _ e h = h

module _ (s : State) (h : IsOwned s) where
  pub unmark_owned : (c : ℕ) → Owned s.joined (to_client c unmarked s).clients s.streams
  unmark_owned c = owned_alike s.joined s.clients (to_client c unmarked s).clients s.streams
      (alike_change s.streams s.clients c (λ x. record x { about = record x.about { mark = false } }) alike) h.owned
    where
      alike : (x : Client) → s.clients c ≡ Some x → Alike s.streams c x (record x { about = record x.about { mark = false } })
      alike x is = record {
        phase = refl;
        due = omega arith;
        own = λ was. record {
          number = was.number;
          mark = λ m. absurd (let clash : false ≡ true = m in cc);
          holds = holds_about s.streams c x (record x { about = record x.about { mark = false } }) x.about.phase
              (refl, refl, refl) was.holds;
        };
      }

  pub ended_owned : (c : ℕ) → Owned s.joined (to_client c input_ended s).clients s.streams
  ended_owned c = owned_alike s.joined s.clients (to_client c input_ended s).clients s.streams
      (alike_change s.streams s.clients c (λ x. record x { about = record x.about { ended = true } }) alike) h.owned
    where
      alike : (x : Client) → s.clients c ≡ Some x → Alike s.streams c x (record x { about = record x.about { ended = true } })
      alike x is = record {
        phase = refl;
        due = omega arith;
        own = λ was. record {
          number = was.number;
          mark = was.mark;
          holds = holds_about s.streams c x (record x { about = record x.about { ended = true } }) x.about.phase
              (refl, refl, refl) was.holds;
        };
      }

-- the clients of a changed registry
pub marked_alike : (streams : Rows (Option Stream)) (c : ℕ) (x : Client) → Alike streams c x (marked x)
marked_alike streams c x = go x.about.phase refl
  where
    go : (phase : Phase) → x.about.phase ≡ phase → Alike streams c x (marked_in phase x)
    go Tracking e = record {
      phase = refl;
      due = omega arith;
      own = λ was. record {
        number = was.number;
        mark = λ m. e;
        holds = holds_about streams c x (record x { about = record x.about { mark = true } }) x.about.phase (refl, refl, refl) was.holds;
      };
    }
    go Asking e = record { phase = refl; due = omega arith; own = λ was. was }
    go (Opening l) e = record { phase = refl; due = omega arith; own = λ was. was }
    go (Streaming l) e = record { phase = refl; due = omega arith; own = λ was. was }
    go Binding e = record { phase = refl; due = omega arith; own = λ was. was }
    go Closing e = record { phase = refl; due = omega arith; own = λ was. was }
    go Gone e = record { phase = refl; due = omega arith; own = λ was. was }

pub marks_owned : (joined : ℕ) (clients : Rows (Option Client)) (streams : Rows (Option Stream)) → Owned joined clients streams
    → Owned joined (λ c. option_map marked (clients c)) streams
marks_owned joined clients streams owned = owned_alike joined clients (λ c. option_map marked (clients c)) streams
    (λ c. go c (clients c)) owned
  where
    go : (c : ℕ) (o : Option Client) → AlikeAt streams c o (option_map marked o)
    go c None = tt
    go c (Some x) = marked_alike streams c x

module _ (s : State) (h : IsOwned s) where
  -- ---- streams
  pub flow_owned : (l : ℕ) (stream : Stream) (flow : Flow) → s.streams l ≡ Some stream → IsLike stream.part.flow flow
      → Owned s.joined s.clients (to_stream l (with_stream_part (with_flow flow stream.part)) s).streams
  flow_owned l stream flow is like = owned_stream s.joined s.clients s.streams l
      (λ x. record x { part = with_flow flow stream.part }) alike h.owned
    where
      alike : (x : Stream) → s.streams l ≡ Some x → AlikeStream x (record x { part = with_flow flow stream.part })
      alike x e =
          let same : stream ≡ x = (let both : Some stream ≡ Some x = sym is ∙ e in cc) in
          subst (λ (y : Stream). AlikeStream y (record y { part = with_flow flow stream.part })) same
          (record { id = refl; client = refl; orphan = refl; remote = refl; left = like.left; sound = like.sound })

-- ---- a client and its stream
pub record Together (s : State) (c l : ℕ) (client : Client) (stream : Stream) : Type 0 where
  pub here : s.clients c ≡ Some client
  pub there : s.streams l ≡ Some stream
  pub of : stream.client ≡ c
  pub owned : stream.part.orphan ≡ false
  pub phase : client.about.phase ≡ phase_for l stream.part.remote
  pub accepted : to_hand stream.part.flow ≤ length client.due

owner_of : (clients : Rows (Option Client)) (l : ℕ) (stream : Stream) → stream.part.orphan ≡ false
    → OwnerIn stream.part.orphan clients l stream
    → ClientOf clients l stream
owner_of clients l stream e h = subst (λ (b : Bool). OwnerIn b clients l stream) e h

pub owner_to : (clients : Rows (Option Client)) (l : ℕ) (stream : Stream) → stream.part.orphan ≡ false → ClientOf clients l stream
    → OwnerIn stream.part.orphan clients l stream
owner_to clients l stream e h = subst (λ (b : Bool). OwnerIn b clients l stream) (sym e) h

-- of a stream that is no orphan
pub client_of : (s : State) (l : ℕ) (stream : Stream) → s.streams l ≡ Some stream → stream.part.orphan ≡ false
    → IsOwned s → ClientOf s.clients l stream
client_of s l stream is owned h = owner_of s.clients l stream owned (h.owned.stream l stream is).owner

pub together : (s : State) (l : ℕ) (stream : Stream) (is : s.streams l ≡ Some stream) (owned : stream.part.orphan ≡ false) (h : IsOwned s)
    → Together s stream.client l (client_of s l stream is owned h).client stream
together s l stream is owned h =
    let of = client_of s l stream is owned h in
    record { here = of.is; there = is; of = refl; owned = owned; phase = of.phase; accepted = of.accepted }

module _ (s : State) (h : IsOwned s) where
  -- of a client that has a stream
  pub together_own : (c l : ℕ) (client : Client) (own : StreamOf s.streams c l) → s.clients c ≡ Some client
      → Together s c l client own.stream
  together_own c l client own is =
      let of = client_of s l own.stream own.is own.owned h in
      let same : of.client ≡ client = (let both : Some of.client ≡ Some client = sym of.is ∙ (ap s.clients own.client ∙ is) in cc) in
      record {
        here = is;
        there = own.is;
        of = own.client;
        owned = own.owned;
        phase = ap (λ (k : Client). k.about.phase) (sym same) ∙ of.phase;
        accepted = omega (arith, of.accepted, ap (λ (k : Client). length k.due) same);
      }

  pub together_at : (c l : ℕ) (client : Client) (stream : Stream) → StreamOf s.streams c l
      → (s.clients c ≡ Some client) × (s.streams l ≡ Some stream)
      → Together s c l client stream
  together_at c l client stream own is =
      let same : own.stream ≡ stream = (let both : Some own.stream ≡ Some stream = sym own.is ∙ is.1 in cc) in
      subst (λ (x : Stream). Together s c l client x) same (together_own c l client own is.0)

only_own : (l remote : ℕ) → IsOnly l (phase_for l remote)
only_own l zero = refl
only_own l (suc n) = refl

module _ (s : State) (c l : ℕ) (client : Client) (stream : Stream) (t : Together s c l client stream) where
  only_stream : (x : Client) → s.clients c ≡ Some x → IsOnly l x.about.phase
  only_stream x e =
      let same : client ≡ x = (let both : Some client ≡ Some x = sym t.here ∙ e in cc) in
      subst (λ (k : Client). IsOnly l k.about.phase) same (subst (IsOnly l) (sym t.phase) (only_own l stream.part.remote))

  own_client : (x : Stream) → s.streams l ≡ Some x → (x.part.orphan ≡ true) ⊎ (x.client ≡ c)
  own_client x e =
      let same : stream ≡ x = (let both : Some stream ≡ Some x = sym t.there ∙ e in cc) in
      inr (subst (λ (y : Stream). y.client ≡ c) same t.of)

  -- both change
  pub owned_both : (f : Client → Option Client) (g : Stream → Option Stream) → Owned s.joined s.clients s.streams
      → ((y : Stream) → g stream ≡ Some y → StreamIn s.joined (change_row c (option_and_then f) s.clients) l y)
      → ((y : Client) → f client ≡ Some y → ClientIn (change_row l (option_and_then g) s.streams) c y)
      → Owned s.joined (change_row c (option_and_then f) s.clients) (change_row l (option_and_then g) s.streams)
  owned_both f g owned streams clients = owned_changes s (to_client c f (to_stream l g s)) c l (record {
    joined = omega arith;
    clients = λ k apart. changed_other c k f s.clients apart;
    streams = λ m apart. changed_other l m g s.streams apart;
    gone = λ within e. absurd (let clash : None ≡ Some client = sym e ∙ t.here in cc);
    only = only_stream;
    own = own_client;
    stream = λ y e. streams y (sym (changed_here l g s.streams stream t.there) ∙ e);
    client = λ y e. clients y (sym (changed_here c f s.clients client t.here) ∙ e);
  }) owned

  -- the client changes, and keeps its stream
  pub owned_kept : (f : Client → Option Client) → Owned s.joined s.clients s.streams
      → StreamIn s.joined (change_row c (option_and_then f) s.clients) l stream
      → ((y : Client) → f client ≡ Some y → ClientIn s.streams c y)
      → Owned s.joined (change_row c (option_and_then f) s.clients) s.streams
  owned_kept f owned kept clients = owned_changes s (to_client c f s) c l (record {
    joined = omega arith;
    clients = λ k apart. changed_other c k f s.clients apart;
    streams = λ m apart. refl;
    gone = λ within e. absurd (let clash : None ≡ Some client = sym e ∙ t.here in cc);
    only = only_stream;
    own = own_client;
    stream = λ y e. (let same : stream ≡ y = (let both : Some stream ≡ Some y = sym t.there ∙ e in cc) in
        subst (λ (x : Stream). StreamIn s.joined (change_row c (option_and_then f) s.clients) l x) same kept);
    client = λ y e. clients y (sym (changed_here c f s.clients client t.here) ∙ e);
  }) owned
