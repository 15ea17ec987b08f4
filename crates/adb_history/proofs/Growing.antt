-- What a rule does to the rows of clients and links, and what it tells: a row may go, but none comes, and what is due
-- grows by what is told.
use Rattle.std.proofs.Common.{ℕ, ◌≡◌, ◌≤◌, ◌<◌, Bool, true, false, cond, List, [], ◌∷◌, ◌++◌, Option, Some, None, is_some, refl, sym, ◌∙◌}
use Rattle.std.proofs.Common.{ap, subst}
use Rattle.std.proofs.Common.{arith, append_assoc, eqb}
use Rattle.std.proofs.lemmas.Bool.{eqb-true, ne_eqb}
use Rattle.std.proofs.lemmas.List.{append-nil}
use Rattle.std.specs.Prelude.{option_and_then}
use Rattle.adb_outside.specs.Tables.{change_row}
use Rattle.adb_wire.specs.declared.packets.Packet.{Packet}
use Rattle.adb_wire.specs.Packet.{spelling}
use Rattle.adb_stream.specs.declared.row.Stream.{Stream}
use Rattle.adb_stream.specs.declared.row.Part.{Part}
use Rattle.adb_client.specs.declared.phase.Phase.TheVariants.{Asking, Binding}
use Rattle.adb_history.specs.Rows.{Client, Link, State, to_client, to_link, to_stream, none_kept, with_due, with_link_due, with_stream_part}
use Rattle.adb_history.specs.Events.{Made, Event, due_to_client, due_to_link, ended, quietly, then_also, bytes_for, owed_to, spelled_to}
use Rattle.adb_history.specs.declared.ending.Ending.{Ending}
use Rattle.adb_history.specs.Links.{owe_checked, owe_link, check_on, wants_sums}
use Rattle.adb_history.specs.Clients.{owe_client}

-- ---- one row, before and after
abbrev pub RowStep : {X : Type 0} → (X → X → List ℕ → Type 0) → Option X → Option X → List ℕ → Type 0
RowStep R None None told = Unit {0}
RowStep R None (Some after) told = ⊥
RowStep R (Some before) None told = Unit {0}
RowStep R (Some before) (Some after) told = R before after told

-- A change of a row, the next one, and what both are together.
pub record Chain (X : Type 0) : Type 1 where
  pub first : X → X → List ℕ → Type 0
  pub next : X → X → List ℕ → Type 0
  pub both : X → X → List ℕ → Type 0
  pub follows : (a b c : X) (t u : List ℕ) → first a b t → next b c u → both a c (t ++ u)

module _ {X : Type 0} (chain : Chain X) where
  pub row_then : (o p q : Option X) (t u : List ℕ) → RowStep chain.first o p t → RowStep chain.next p q u → RowStep chain.both o q (t ++ u)
  row_then None None None t u h i = tt
  row_then None None (Some c) t u h i = absurd i
  row_then None (Some b) q t u h i = absurd h
  row_then (Some a) None None t u h i = tt
  row_then (Some a) None (Some c) t u h i = absurd i
  row_then (Some a) (Some b) None t u h i = tt
  row_then (Some a) (Some b) (Some c) t u h i = chain.follows a b c t u h i

pub row_same : {X : Type 0} (R : X → X → List ℕ → Type 0) → ((a : X) → R a a []) → (o : Option X) → RowStep R o o []
row_same R same None = tt
row_same R same (Some a) = same a

pub row_goes : {X : Type 0} (R : X → X → List ℕ → Type 0) (o : Option X) (t : List ℕ) → RowStep R o None t
row_goes R None t = tt
row_goes R (Some a) t = tt

pub row_weaker : {X : Type 0} (R Q : X → X → List ℕ → Type 0) → ((a b : X) (t : List ℕ) → R a b t → Q a b t)
    → (o p : Option X) (t : List ℕ) → RowStep R o p t → RowStep Q o p t
row_weaker R Q weaker None None t h = tt
row_weaker R Q weaker None (Some b) t h = absurd h
row_weaker R Q weaker (Some a) None t h = tt
row_weaker R Q weaker (Some a) (Some b) t h = weaker a b t h

-- what is gone stays so
pub row_none : {X : Type 0} (R : X → X → List ℕ → Type 0) (o p : Option X) (t : List ℕ) → o ≡ None → RowStep R o p t → p ≡ None
row_none R None None t e h = refl
row_none R None (Some b) t e h = absurd h
row_none R (Some a) p t e h = let clash : Some a ≡ None = e in cc

-- ---- clients
-- what is due grows
abbrev pub ClientOwes : Client → Client → List ℕ → Type 0
ClientOwes before after told = after.due ≡ before.due ++ told

-- what it has unread and selected stays
pub record StaysAsking (before after : Client) : Type 0 where
  pub phase : before.about.phase ≡ Asking
  pub held : after.held ≡ before.held
  pub selected : after.about.selected ≡ before.about.selected

-- the forward that it waits for stays
pub record StaysBinding (before after : Client) : Type 0 where
  pub phase : before.about.phase ≡ Binding
  pub want : after.about.want ≡ before.about.want

pub record ClientStays (before after : Client) (told : List ℕ) : Type 0 where
  pub due : after.due ≡ before.due ++ told
  pub asks : after.about.phase ≡ Asking → StaysAsking before after
  pub binds : after.about.phase ≡ Binding → StaysBinding before after

pub client_same : (a : Client) → ClientStays a a []
client_same a = record {
  due = sym (append-nil a.due);
  asks = λ e. record { phase = e; held = refl; selected = refl };
  binds = λ e. record { phase = e; want = refl };
}

-- ---- links
abbrev pub LinkOwes : Link → Link → List ℕ → Type 0
LinkOwes before after told = after.due ≡ before.due ++ told

pub record LinkStays (before after : Link) (told : List ℕ) : Type 0 where
  pub due : after.due ≡ before.due ++ told
  pub rest : after.rest ≡ before.rest
  pub sums : after.sums ≡ before.sums

pub link_same : (a : Link) → LinkStays a a []
link_same a = record { due = sym (append-nil a.due); rest = refl; sums = refl }

-- ---- one after another
pub joins_due : (x y z t u : List ℕ) → y ≡ x ++ t → z ≡ y ++ u → z ≡ x ++ (t ++ u)
joins_due x y z t u e f = f ∙ (ap (λ w. w ++ u) e ∙ append_assoc x t u)

pub client_owes_then : (a b c : Client) (t u : List ℕ) → ClientOwes a b t → ClientOwes b c u → ClientOwes a c (t ++ u)
client_owes_then a b c t u h i = joins_due a.due b.due c.due t u h i

pub link_owes_then : (a b c : Link) (t u : List ℕ) → LinkOwes a b t → LinkOwes b c u → LinkOwes a c (t ++ u)
link_owes_then a b c t u h i = joins_due a.due b.due c.due t u h i

asking_then : (a b c : Client) → StaysAsking b c → (b.about.phase ≡ Asking → StaysAsking a b) → StaysAsking a c
asking_then a b c h before = let g =
    before h.phase in record { phase = g.phase; held = h.held ∙ g.held; selected = h.selected ∙ g.selected }

binding_then : (a b c : Client) → StaysBinding b c → (b.about.phase ≡ Binding → StaysBinding a b) → StaysBinding a c
binding_then a b c h before = let g = before h.phase in record { phase = g.phase; want = h.want ∙ g.want }

pub client_then : (a b c : Client) (t u : List ℕ) → ClientStays a b t → ClientStays b c u → ClientStays a c (t ++ u)
client_then a b c t u h i = record {
  due = joins_due a.due b.due c.due t u h.due i.due;
  asks = λ e. asking_then a b c (i.asks e) h.asks;
  binds = λ e. binding_then a b c (i.binds e) h.binds;
}

pub link_then : (a b c : Link) (t u : List ℕ) → LinkStays a b t → LinkStays b c u → LinkStays a c (t ++ u)
link_then a b c t u h i =
    record { due = joins_due a.due b.due c.due t u h.due i.due; rest = i.rest ∙ h.rest; sums = i.sums ∙ h.sums }

abbrev pub client_stays : Chain Client
client_stays = record { first = ClientStays; next = ClientStays; both = ClientStays; follows = client_then }

abbrev pub link_stays : Chain Link
link_stays = record { first = LinkStays; next = LinkStays; both = LinkStays; follows = link_then }

-- ---- what is told
pub owed_append : (c : ℕ) (es fs : List Event) → owed_to c (es ++ fs) ≡ owed_to c es ++ owed_to c fs
owed_append c [] fs = refl
owed_append c (e ∷ es) fs = ap (λ x. bytes_for c e ++ x) (owed_append c es fs)
    ∙ sym (append_assoc (bytes_for c e) (owed_to c es) (owed_to c fs))

pub spelled_append : (t : ℕ) (es fs : List Event) → spelled_to t (es ++ fs) ≡ spelled_to t es ++ spelled_to t fs
spelled_append t [] fs = refl
spelled_append t (due_to_client client bytes ∷ es) fs = spelled_append t es fs
spelled_append t (due_to_link link packet check ∷ es) fs = go (eqb link t) (spelled_append t es fs)
  where
    go : (here : Bool) → spelled_to t (es ++ fs) ≡ spelled_to t es ++ spelled_to t fs
        → cond here (spelling packet check ++ spelled_to t (es ++ fs)) (spelled_to t (es ++ fs))
        ≡ cond here (spelling packet check ++ spelled_to t es) (spelled_to t es) ++ spelled_to t fs
    go true e = ap (λ x. spelling packet check ++ x) e ∙ sym (append_assoc (spelling packet check) (spelled_to t es) (spelled_to t fs))
    go false e = e
spelled_append t (ended stream ending ∷ es) fs = spelled_append t es fs

-- nothing is told to a client or a link whose number was not drawn
pub record IsToldWithin (came plugged : ℕ) (told : List Event) : Type 0 where
  pub clients : (c : ℕ) → came < c → owed_to c told ≡ []
  pub links : (t : ℕ) → plugged < t → spelled_to t told ≡ []

pub both_none : (x y z : List ℕ) → z ≡ x ++ y → x ≡ [] → y ≡ [] → z ≡ []
both_none x y z e f g = e ∙ (ap (λ w. w ++ y) f ∙ g)

pub told_then : (came plugged : ℕ) (es fs : List Event) → IsToldWithin came plugged es → IsToldWithin came plugged fs
    → IsToldWithin came plugged (es ++ fs)
told_then came plugged es fs h i = record {
  clients = λ c above. both_none (owed_to c es) (owed_to c fs) (owed_to c (es ++ fs)) (owed_append c es fs)
      (h.clients c above) (i.clients c above);
  links = λ t above. both_none (spelled_to t es) (spelled_to t fs) (spelled_to t (es ++ fs)) (spelled_append t es fs)
      (h.links t above) (i.links t above);
}

-- ---- streams
-- the client and the link of a stream were drawn
abbrev pub IsWithin : (came plugged : ℕ) → Option Stream → Type 0
IsWithin came plugged None = Unit {0}
IsWithin came plugged (Some stream) = (stream.client ≤ came) × (stream.link ≤ plugged)

abbrev pub AreWithin : (came plugged : ℕ) → (ℕ → Option Stream) → Type 0
AreWithin came plugged streams = (l : ℕ) → IsWithin came plugged (streams l)

-- ---- the row of one number
-- The row of one number becomes another, or goes, while some bytes are told to it.
pub record Change (X : Type 0) : Type 0 where
  pub number : ℕ
  pub row : X → Option X
  pub told : List ℕ

pub row_at : {X : Type 0} (R : X → X → List ℕ → Type 0) → ((a : X) → R a a []) → (rows : ℕ → Option X) (change : Change X)
    → ((a : X) → rows change.number ≡ Some a → RowStep R (Some a) (change.row a) change.told) → (k : ℕ)
    → RowStep R (rows k) (change_row change.number (option_and_then change.row) rows k) (cond (eqb change.number k) change.told [])
row_at {X} R same rows change at k = go (eqb change.number k) refl (rows k) refl
  where
    go : (here : Bool) → eqb change.number k ≡ here → (o : Option X) → rows k ≡ o
        → RowStep R o (cond here (option_and_then change.row o) o) (cond here change.told [])
    go true e None is = tt
    go true e (Some a) is = at a (ap rows (eqb-true change.number k e) ∙ is)
    go false e o is = row_same R same o

-- ---- a quiet rule
module _ (came plugged : ℕ) where
  -- All rows that stay are tied to those before, what is told goes to numbers that were drawn, and the tables stay.
  pub record Keeps (s : State) (m : Made) : Type 0 where
    pub clients : (c : ℕ) → RowStep ClientStays (s.clients c) (m.state.clients c) (owed_to c m.told)
    pub links : (t : ℕ) → RowStep LinkStays (s.links t) (m.state.links t) (spelled_to t m.told)
    pub told : IsToldWithin came plugged m.told
    pub streams : AreWithin came plugged s.streams → AreWithin came plugged m.state.streams
    pub joined : m.state.joined ≡ s.joined
    pub devices : m.state.devices ≡ s.devices
    pub forwards : m.state.forwards ≡ s.forwards
    pub stopped : m.state.stopped ≡ s.stopped
    pub linked : (t : ℕ) → is_some (m.state.links t) ≡ is_some (s.links t)

  nothing_told : IsToldWithin came plugged []
  nothing_told = record { clients = λ c above. refl; links = λ t above. refl }

  pub keeps_all : (s : State) → Keeps s (quietly s)
  keeps_all s = record {
    clients = λ c. row_same ClientStays client_same (s.clients c);
    links = λ t. row_same LinkStays link_same (s.links t);
    told = nothing_told;
    streams = λ h. h;
    joined = refl;
    devices = refl;
    forwards = refl;
    stopped = refl;
    linked = λ t. refl;
  }

  pub keeps_then : (s : State) (m : Made) (rule : State → Made) → Keeps s m → Keeps m.state (rule m.state) → Keeps s (then_also m rule)
  keeps_then s m rule h i = record {
    clients = λ c. subst (λ (x : List ℕ). RowStep ClientStays (s.clients c) ((rule m.state).state.clients c) x)
        (sym (owed_append c m.told (rule m.state).told))
        (row_then client_stays (s.clients c) (m.state.clients c) ((rule m.state).state.clients c) (owed_to c m.told)
        (owed_to c (rule m.state).told) (h.clients c) (i.clients c));
    links = λ t. subst (λ (x : List ℕ). RowStep LinkStays (s.links t) ((rule m.state).state.links t) x)
        (sym (spelled_append t m.told (rule m.state).told))
        (row_then link_stays (s.links t) (m.state.links t) ((rule m.state).state.links t) (spelled_to t m.told)
        (spelled_to t (rule m.state).told) (h.links t) (i.links t));
    told = told_then came plugged m.told (rule m.state).told h.told i.told;
    streams = λ within. i.streams (h.streams within);
    joined = i.joined ∙ h.joined;
    devices = i.devices ∙ h.devices;
    forwards = i.forwards ∙ h.forwards;
    stopped = i.stopped ∙ h.stopped;
    linked = λ t. i.linked t ∙ h.linked t;
  }

  pub keeps_over : (s next : State) (m : Made) → Keeps s (quietly next) → Keeps next m → Keeps s m
  keeps_over s next m h i = keeps_then s (quietly next) (λ _. m) h i

  -- ---- a client's row changes
  pub either_none : (b : Bool) (x : List ℕ) → x ≡ [] → cond b x [] ≡ []
  either_none true x e = e
  either_none false x e = refl

  pub keeps_to_client : (c : ℕ) (f : Client → Option Client) (s : State)
      → ((a : Client) → s.clients c ≡ Some a → RowStep ClientStays (Some a) (f a) []) → Keeps s (quietly (to_client c f s))
  keeps_to_client c f s at = record {
    clients = λ k. subst (λ (x : List ℕ). RowStep ClientStays (s.clients k) ((to_client c f s).clients k) x) (either_none (eqb c k) [] refl)
        (row_at ClientStays client_same s.clients (record { number = c; row = f; told = [] }) at k);
    links = λ t. row_same LinkStays link_same (s.links t);
    told = nothing_told;
    streams = λ h. h;
    joined = refl;
    devices = refl;
    forwards = refl;
    stopped = refl;
    linked = λ t. refl;
  }

  at_told : (b : Bool) (x : List ℕ) → cond b x [] ≡ cond b x [] ++ []
  at_told b x = sym (append-nil (cond b x []))

  above_only : (n k limit : ℕ) (x : List ℕ) → n ≤ limit → limit < k → cond (eqb n k) x [] ≡ []
  above_only n k limit x le lt = ap (λ (b : Bool). cond b x []) (ne_eqb n k (λ e. omega (arith, le, lt, e)))

  pub keeps_owe_client : (c : ℕ) (bytes : List ℕ) (s : State) → c ≤ came → Keeps s (owe_client c bytes s)
  keeps_owe_client c bytes s le = record {
    clients = λ k. subst
        (λ (x : List ℕ). RowStep ClientStays (s.clients k) ((to_client c (with_due bytes) s).clients k) x)
        (at_told (eqb c k) bytes)
        (row_at ClientStays client_same s.clients (record { number = c; row = with_due bytes; told = bytes })
        (λ a e. record {
          due = refl;
          asks = λ e. record { phase = e; held = refl; selected = refl };
          binds =
              λ e. record { phase = e; want = refl };
        }) k);
    links = λ t. row_same LinkStays link_same (s.links t);
    told = record { clients = λ k lt. sym (at_told (eqb c k) bytes) ∙ above_only c k came bytes le lt; links = λ t lt. refl };
    streams = λ h. h;
    joined = refl;
    devices = refl;
    forwards = refl;
    stopped = refl;
    linked = λ t. refl;
  }

  -- ---- a packet becomes due to a link
  spelled_one : (b : Bool) (x : List ℕ) → cond b x [] ≡ cond b (x ++ []) []
  spelled_one true x = sym (append-nil x)
  spelled_one false x = refl

  pub keeps_owe_link : (t : ℕ) (p : Packet) (s : State) → t ≤ plugged → Keeps s (owe_link t p s)
  keeps_owe_link t p s le = go (check_on (wants_sums (s.links t)) p)
    where
      there : (bytes : List ℕ) (here : Bool) (o : Option Link) → is_some (cond here (option_and_then (with_link_due bytes) o) o) ≡ is_some o
      there bytes true None = refl
      there bytes true (Some link) = refl
      there bytes false o = refl

      go : (check : ℕ) → Keeps s (owe_checked t p check s)
      go check = record {
        clients = λ c. row_same ClientStays client_same (s.clients c);
        links = λ k. subst (λ (x : List ℕ). RowStep LinkStays (s.links k) ((to_link t (with_link_due (spelling p check)) s).links k) x)
            (spelled_one (eqb t k) (spelling p check))
            (row_at LinkStays link_same s.links (record { number = t; row = with_link_due (spelling p check); told = spelling p check })
            (λ a e. record { due = refl; rest = refl; sums = refl }) k);
        told = record {
          clients = λ c lt. refl;
          links = λ k lt. sym (spelled_one (eqb t k) (spelling p check)) ∙ above_only t k plugged (spelling p check) le lt;
        };
        streams = λ h. h;
        joined = refl;
        devices = refl;
        forwards = refl;
        stopped = refl;
        linked = λ k. there (spelling p check) (eqb t k) (s.links k);
      }

  -- ---- a stream's row changes
  within_at : (streams : ℕ → Option Stream) (f : Stream → Option Stream) (n : ℕ)
      → ((o : Option Stream) → IsWithin came plugged o → IsWithin came plugged (option_and_then f o))
      → AreWithin came plugged streams → AreWithin came plugged (change_row n (option_and_then f) streams)
  within_at streams f n at within k = go (eqb n k) (streams k) (within k)
    where
      go : (here : Bool) (o : Option Stream) → IsWithin came plugged o → IsWithin came plugged (cond here (option_and_then f o) o)
      go true o h = at o h
      go false o h = h

  keeps_to_stream : (l : ℕ) (f : Stream → Option Stream) (s : State)
      → ((o : Option Stream) → IsWithin came plugged o → IsWithin came plugged (option_and_then f o)) → Keeps s (quietly (to_stream l f s))
  keeps_to_stream l f s at = record {
    clients = λ c. row_same ClientStays client_same (s.clients c);
    links = λ t. row_same LinkStays link_same (s.links t);
    told = nothing_told;
    streams = within_at s.streams f l at;
    joined = refl;
    devices = refl;
    forwards = refl;
    stopped = refl;
    linked = λ t. refl;
  }

  pub keeps_part : (l : ℕ) (part : Part) (s : State) → Keeps s (quietly (to_stream l (with_stream_part part) s))
  keeps_part l part s = keeps_to_stream l (with_stream_part part) s at
    where
      at : (o : Option Stream) → IsWithin came plugged o → IsWithin came plugged (option_and_then (with_stream_part part) o)
      at None h = tt
      at (Some stream) h = h

  pub keeps_no_stream : (l : ℕ) (s : State) → Keeps s (quietly (to_stream l none_kept s))
  keeps_no_stream l s = keeps_to_stream l none_kept s at
    where
      at : (o : Option Stream) → IsWithin came plugged o → IsWithin came plugged (option_and_then none_kept o)
      at None h = tt
      at (Some stream) h = tt

  -- a stream's end is told
  pub keeps_told_end : (l : ℕ) (ending : Ending) (s : State) → Keeps s (record { state = s; told = ended l ending ∷ [] })
  keeps_told_end l ending s = record {
    clients = λ c. row_same ClientStays client_same (s.clients c);
    links = λ t. row_same LinkStays link_same (s.links t);
    told = record { clients = λ c lt. refl; links = λ t lt. refl };
    streams = λ h. h;
    joined = refl;
    devices = refl;
    forwards = refl;
    stopped = refl;
    linked = λ t. refl;
  }
