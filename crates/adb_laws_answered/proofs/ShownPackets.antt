-- A stream and its client are as the packets of its link say, packet after packet.
use Rattle.std.proofs.Common.{◌≡◌, ◌≢◌, ℕ, ◌+◌, ◌≤◌, Bool, true, false, cond, not, ◌&&◌, List, [], ◌∷◌, ◌++◌, Option, Some, None, is_some}
use Rattle.std.proofs.Common.{refl, sym, ap, subst}
use Rattle.std.proofs.Common.{◌∙◌, eqb}
use Rattle.std.proofs.Common.{arith, inl, inr, ◌⊎◌}
use Rattle.std.proofs.lemmas.Bool.{ne_eqb, eqb-true, eqb-false, eq-eqb}
use Rattle.std.proofs.lemmas.List.{append-nil}
use Rattle.std.specs.Prelude.{codes, nat_eq, option_and_then}
use Rattle.adb_outside.specs.Tables.{Rows, at, change_row}
use Rattle.adb_wire.specs.declared.command.Command.{Command}
use Rattle.adb_wire.specs.declared.command.Command.TheVariants.{Cnxn, Open, Okay, Wrte, Clse, Auth, Stls}
use Rattle.adb_wire.specs.declared.packets.Packet.{Packet}
use Rattle.adb_stream.specs.declared.row.Part.{Part}
use Rattle.adb_stream.specs.declared.row.Stream.{Stream}
use Rattle.adb_stream.specs.Flow.{first_credit}
use Rattle.adb_client.specs.declared.phase.Phase.TheVariants.{Streaming}
use Rattle.adb_reply.specs.Strings.{okay}
use Rattle.adb_history.specs.Rows.{Client, Link, State, none_kept, in_phase, with_stream_part}
use Rattle.adb_history.specs.Events.{Made, Event, quietly, owed_to}
use Rattle.adb_history.specs.Clients.{owe_client}
use Rattle.adb_history.specs.Links.{is_connected, credit_word}
use Rattle.adb_history.specs.Flow.{with_flow}
use Rattle.adb_history.specs.Packets.{at_stream, with_remote, hears_okay, opened, orphan_opened}
use Rattle.adb_history.specs.Packets.{okay_open, okay_first, takes_okay, treat_any, treat_on, treat}
use Rattle.adb_history.specs.Births.{Opening as FirstOkay, opening_by, opening_in, remote_in}
use Rattle.adb_history.specs.Answered.{closed_reply}
use Rattle.adb_history.specs.Moves.{open_now}
use Rattle.adb_history.specs.Linked.{IsLinked}
use Rattle.adb_history.proofs.Following.{after_quietly, changed_here}
use Rattle.adb_history.proofs.Growing.{owed_append}
use Rattle.adb_history.proofs.OutputEntries.{connected_is}
use Rattle.adb_history.proofs.OwnedMoves.{client_of}
use Rattle.adb_history.specs.Turns.{IsOpenedBy, Allows, serving}
use Rattle.adb_laws_answered.specs.Served.{RowServed}
use Rattle.adb_laws_answered.specs.Shown.{aside, Seen, seen, seals_by, sealed_in, SaysNothing, Subject, IsShownRow, WillNotOpen, ShownOut}
use Rattle.adb_laws_answered.specs.Shown.{IsShown}
use Rattle.adb_laws_answered.proofs.ToldOthers.{quiet_after, owned_opened}
use Rattle.adb_history.proofs.PacketMoves.{treat_on_turns, orphan_kept, okay_open_kept}
use Rattle.adb_laws_answered.proofs.SteadyRows.{at_due}
use Rattle.adb_laws_answered.proofs.Clearing.{none_of}
use Rattle.adb_laws_answered.proofs.Openings.{IsSeenOn, remote_stays, remote_sealed, sealed_stays, seen_pending, seen_one, seen_told}
use Rattle.adb_laws_answered.proofs.ServedMoves.{steady, phase_open}
use Rattle.adb_laws_answered.proofs.ShownMoves.{shown_client}
use Rattle.adb_laws_answered.proofs.ShownRules.{shown_turns}

module _ (x : Subject) where
  -- ---- what is seen changes
  -- a packet that says nothing of the stream
  pub seen_on : (heard : Bool) (a b : Seen) (s : State) (w : List Event) → IsSeenOn x.stream a b
      → IsShown heard x a s w → IsShown heard x b s w
  seen_on heard a b s w on h = record {
    owned = h.owned;
    row = h.row;
    own = λ y is. (let was = h.own y is in record {
      client = was.client;
      link = was.link;
      remote = was.remote ∙ sym on.remote;
      pending = λ e. (let none = sym on.remote ∙ e in on.pending none (was.pending none));
      may = was.may;
      orphan = was.orphan;
    });
    drawn = h.drawn;
    out = out heard h.out;
  }
    where
      out : (c : Bool) → ShownOut c x a s (owed_to x.client w) → ShownOut c x b s (owed_to x.client w)
      out true o = record { bytes = o.bytes; out_is = o.out_is; may = o.may; told = λ e. o.told (sym on.remote ∙ e) }
      out false o = record {
        closed = o.closed;
        out_is = o.out_is;
        waits = o.waits;
        gone = λ g. by (o.gone g);
        none = λ e. still (o.none e);
      }
        where
          by : WillNotOpen x a.sealed s → WillNotOpen x b.sealed s
          by (inl sealed) = inl (on.sealed sealed)
          by (inr other) = inr other

          still : (a.remote ≡ 0) ⊎ (x.failed ≡ true) → (b.remote ≡ 0) ⊎ (x.failed ≡ true)
          still (inl none) = inl (on.remote ∙ none)
          still (inr failed) = inr failed

  -- its device told no id, unless its client failed or its link may be gone
  abbrev pub StillNone : Seen → Type 0
  StillNone b = x.cut ≡ false → (b.remote ≡ 0) ⊎ (x.failed ≡ true)

  -- its row is gone: what its device may say yet changes nothing
  pub row_gone : (heard : Bool) (a b : Seen) (s : State) (w : List Event) → s.streams x.stream ≡ None → (a.remote ≢ 0 → b.remote ≢ 0)
      → (heard ≡ false → WillNotOpen x b.sealed s × StillNone b) → IsShown heard x a s w → IsShown heard x b s w
  row_gone heard a b s w none told reason h = record {
    owned = h.owned;
    row = h.row;
    own = λ y is. absurd (nothing y is);
    drawn = h.drawn;
    out = out heard refl h.out;
  }
    where
      nothing : (y : Stream) → s.streams x.stream ≡ Some y → ⊥
      nothing y is = let clash : None ≡ Some y = sym none ∙ is in cc

      out : (c : Bool) → heard ≡ c → ShownOut c x a s (owed_to x.client w) → ShownOut c x b s (owed_to x.client w)
      out true e o = record { bytes = o.bytes; out_is = o.out_is; may = o.may; told = told o.told }
      out false e o = record {
        closed = o.closed;
        out_is = o.out_is;
        waits = λ y is owned. absurd (nothing y is);
        gone = λ g. (reason e).0;
        none =
            (reason e).1;
      }

  -- why it was not opened, where its row is gone
  pub gone_reason : (heard : Bool) (a : Seen) (s : State) (w : List Event) → s.streams x.stream ≡ None
      → IsShown heard x a s w → heard ≡ false
      → WillNotOpen x a.sealed s
  gone_reason false a s w none h e = h.out.gone (λ y is. absurd (let clash : None ≡ Some y = sym none ∙ is in cc))
  gone_reason true a s w none h e = absurd (let clash : true ≡ false = e in cc)

  pub told_more : (ps qs : List Packet) → remote_in (opening_in x.stream ps) ≢ 0 → remote_in (opening_in x.stream (ps ++ qs)) ≢ 0
  told_more ps qs some e = some (sym (remote_stays x.stream ps qs some) ∙ e)

  pub sealed_more : (ps qs : List Packet) (s : State) → WillNotOpen x (sealed_in x.stream ps) s
      → WillNotOpen x (sealed_in x.stream (ps ++ qs)) s
  sealed_more ps qs s (inl sealed) = inl (sealed_stays x.stream ps qs sealed)
  sealed_more ps qs s (inr other) = inr other

  -- and has told no id
  pub still_none : (ps qs : List Packet) (s : State) → WillNotOpen x (sealed_in x.stream ps) s → StillNone (seen x.stream (ps ++ qs))
  still_none ps qs s (inl sealed) e = inl (remote_sealed x.stream ps qs sealed)
  still_none ps qs s (inr (inl gone)) e = absurd (let clash : true ≡ false = sym gone.0 ∙ e in cc)
  still_none ps qs s (inr (inr failed)) e = inr failed

  -- packets that come when its row is gone
  pub gone_more : (heard : Bool) (ps qs : List Packet) (s : State) (w : List Event) → s.streams x.stream ≡ None
      → IsShown heard x (seen x.stream ps) s w
      → IsShown heard x (seen x.stream (ps ++ qs)) s w
  gone_more heard ps qs s w none h = row_gone heard (seen x.stream ps) (seen x.stream (ps ++ qs)) s w none (told_more ps qs)
      (λ e. (let why = gone_reason heard (seen x.stream ps) s w none h e in (sealed_more ps qs s why, still_none ps qs s why))) h

  -- ---- a stream that will end, whatever for
  abbrev pub pardoned : Subject
  pardoned = record x { failed = true }

  pub pardon : (heard : Bool) (a : Seen) (s : State) (w : List Event) → IsShown heard x a s w → IsShown heard pardoned a s w
  pardon heard a s w h = record {
    owned = h.owned;
    row = h.row;
    own = λ y is. (let was = h.own y is in
        record { client = was.client; link = was.link; remote = was.remote; pending = was.pending; may = was.may; orphan = λ o. refl });
    drawn = h.drawn;
    out = out heard h.out;
  }
    where
      out : (c : Bool) → ShownOut c x a s (owed_to x.client w) → ShownOut c (record x { failed = true }) a s (owed_to x.client w)
      out true o = record { bytes = o.bytes; out_is = o.out_is; may = o.may; told = o.told }
      out false o = record { closed = o.closed; out_is = o.out_is; waits = o.waits; gone = λ g. inr (inr refl); none = λ e. inr refl }

  pub restore : (heard : Bool) (a b : Seen) (s : State) (w : List Event) → s.streams x.stream ≡ None → (a.remote ≢ 0 → b.remote ≢ 0)
      → (heard ≡ false → WillNotOpen x b.sealed s × StillNone b) → IsShown heard pardoned a s w → IsShown heard x b s w
  restore heard a b s w none told reason h = record {
    owned = h.owned;
    row = h.row;
    own = λ y is. absurd (nothing y is);
    drawn = h.drawn;
    out = out heard refl h.out;
  }
    where
      nothing : (y : Stream) → s.streams x.stream ≡ Some y → ⊥
      nothing y is = let clash : None ≡ Some y = sym none ∙ is in cc

      out : (c : Bool) → heard ≡ c → ShownOut c (record x { failed = true }) a s (owed_to x.client w)
          → ShownOut c x b s (owed_to x.client w)
      out true e o = record { bytes = o.bytes; out_is = o.out_is; may = o.may; told = told o.told }
      out false e o = record {
        closed = o.closed;
        out_is = o.out_is;
        waits = λ y is owned. absurd (nothing y is);
        gone = λ g. (reason e).0;
        none =
            (reason e).1;
      }

  -- ---- the link of a stream that lives
  pub live_link : (y : Stream) (s : State) → IsLinked s → s.streams x.stream ≡ Some y → y.link ≡ x.link
      → (is_connected x.link s.devices ≡ true) × (is_some (s.links x.link) ≡ true)
  live_link y s linked is link =
      let connected : is_connected x.link s.devices ≡ true =
      ap (λ (n : ℕ). is_connected n s.devices) (sym link) ∙ (linked.on x.stream y is).connected in
      (connected, linked.rows.linked x.link ∙ connected_is (at x.link s.devices.rows) connected)

  -- without its link its row is gone
  pub no_link : (heard : Bool) (a : Seen) (s : State) (w : List Event) → IsLinked s → s.links x.link ≡ None → IsShown heard x a s w
      → s.streams x.stream ≡ None
  no_link heard a s w linked none h = go (s.streams x.stream) refl
    where
      go : (o : Option Stream) → s.streams x.stream ≡ o → s.streams x.stream ≡ None
      go None is = is
      go (Some y) is =
          let live = live_link y s linked is (h.own y is).link in
          absurd (let clash : true ≡ false = sym live.1 ∙ ap is_some none in cc)

  -- ---- packets that say nothing of the stream
  pub allows_by : (t : ℕ) (c : Command) (p : Packet) → SaysNothing c x.stream p → Allows (aside x) t c p
  allows_by t Okay p says = record {
    reaches = λ e. says;
    renews = λ e. absurd (let clash : false ≡ true = e in cc);
    cuts = λ e. absurd (let clash : false ≡ true = e in cc);
  }
  allows_by t Clse p says = record {
    reaches = λ e. says;
    renews = λ e. absurd (let clash : false ≡ true = e in cc);
    cuts = λ e. absurd (let clash : false ≡ true = e in cc);
  }
  allows_by t Cnxn p says = absurd says
  allows_by t Open p says = record {
    reaches = λ e. absurd (let clash : false ≡ true = e in cc);
    renews = λ e. absurd (let clash : false ≡ true = e in cc);
    cuts = λ e. absurd (let clash : false ≡ true = e in cc);
  }
  allows_by t Wrte p says = record {
    reaches = λ e. absurd (let clash : false ≡ true = e in cc);
    renews = λ e. absurd (let clash : false ≡ true = e in cc);
    cuts = λ e. absurd (let clash : false ≡ true = e in cc);
  }
  allows_by t Auth p says = record {
    reaches = λ e. absurd (let clash : false ≡ true = e in cc);
    renews = λ e. absurd (let clash : false ≡ true = e in cc);
    cuts = λ e. absurd (let clash : false ≡ true = e in cc);
  }
  allows_by t Stls p says = record {
    reaches = λ e. absurd (let clash : false ≡ true = e in cc);
    renews = λ e. absurd (let clash : false ≡ true = e in cc);
    cuts = λ e. absurd (let clash : false ≡ true = e in cc);
  }

  pub other : x.client + 1 ≢ x.client
  other e = omega (arith, e)

  pub allowed_kept : (heard : Bool) (a : Seen) (t : ℕ) (p : Packet) (s : State) (w : List Event)
      → Allows (aside x) t p.command p → IsShown heard x a s w
      → IsShown heard x a (treat t p s).state (w ++ (treat t p s).told)
  allowed_kept heard a t p s w may h = treat_on_turns (serving (shown_turns heard x a (x.client + 1) other)) s w h (s.links t) t p may

  -- ---- OKAY
  module _ (p : Packet) (command : p.command ≡ Okay) (names : p.arg1 ≡ x.stream) where
    okay_one : eqb p.arg0 0 ≡ false → seen x.stream (p ∷ []) ≡ record { remote = p.arg0; sealed = false }
    okay_one some =
        ap (λ (c : Command). record { remote = remote_in (opening_by c x.stream p [] None); sealed = seals_by c x.stream p false }) command
        ∙ (ap (λ (b : Bool). record {
          remote = remote_in
              (cond (b && not (eqb p.arg0 0))
              (Some (record { remote = p.arg0; word = credit_word p.payload; later = [] })) None);
          sealed = cond (b && not (eqb p.arg0 0)) false false;
        }) (eq-eqb p.arg1 x.stream names)
        ∙ ap (λ (b : Bool). record {
          remote = remote_in (cond (not b) (Some (record { remote = p.arg0; word = credit_word p.payload; later = [] })) None);
          sealed = cond (not b) false false;
        }) some)

    okay_zero : eqb p.arg0 0 ≡ true → (opening_in x.stream (p ∷ []) ≡ None) × (sealed_in x.stream (p ∷ []) ≡ false)
    okay_zero zeroth = (
      ap (λ (c : Command). opening_by c x.stream p [] None) command
          ∙ (ap (λ (b : Bool).
          cond {A = Option FirstOkay} (nat_eq p.arg1 x.stream && not b) (Some
          (record { remote = p.arg0; word = credit_word p.payload; later = [] })) None) zeroth
          ∙ no_opening (nat_eq p.arg1 x.stream)),
      ap (λ (c : Command). seals_by c x.stream p false) command ∙ no_seal (nat_eq p.arg1 x.stream && not (eqb p.arg0 0)),
    )
      where
        no_opening : (b : Bool) → cond {A = Option FirstOkay} (b && false) (Some
            (record { remote = p.arg0; word = credit_word p.payload; later = [] })) None ≡ None
        no_opening true = refl
        no_opening false = refl

        no_seal : (b : Bool) → cond b false false ≡ false
        no_seal true = refl
        no_seal false = refl

    -- a row that is gone takes none
    pub okay_none : (o : Option Link) (t : ℕ) (s : State) → s.streams x.stream ≡ None → treat_on o t p s ≡ quietly s
    okay_none None t s none = refl
    okay_none (Some link) t s none =
        ap (λ (c : Command). treat_any t c p s) command
        ∙ (ap (λ (o : Option Stream). cond (is_connected t s.devices)
        (at_stream t o (takes_okay p.arg1 p.arg0 (credit_word p.payload)) s) (quietly s))
        (ap s.streams names ∙ none) ∙ either (is_connected t s.devices))
      where
        either : (b : Bool) → cond b (quietly s) (quietly s) ≡ quietly s
        either true = refl
        either false = refl

    -- nor one of another link
    pub okay_apart : (o : Option Link) (t : ℕ) (s : State) (y : Stream) → s.streams x.stream ≡ Some y → y.link ≢ t
        → treat_on o t p s ≡ quietly s
    okay_apart None t s y is apart = refl
    okay_apart (Some link) t s y is apart =
        ap (λ (c : Command). treat_any t c p s) command
        ∙ (ap (λ (o : Option Stream). cond (is_connected t s.devices)
        (at_stream t o (takes_okay p.arg1 p.arg0 (credit_word p.payload)) s) (quietly s))
        (ap s.streams names ∙ is)
        ∙ (ap (λ (b : Bool). cond (is_connected t s.devices)
        (cond b (takes_okay p.arg1 p.arg0 (credit_word p.payload) y s) (quietly s)) (quietly s))
        (ne_eqb y.link t apart) ∙ either (is_connected t s.devices)))
      where
        either : (b : Bool) → cond b (quietly s) (quietly s) ≡ quietly s
        either true = refl
        either false = refl

    okay_is : (o : Option Link) (t : ℕ) (s : State) (y : Stream) → s.streams x.stream ≡ Some y → y.link ≡ t
        → is_some o ≡ true → is_connected t s.devices ≡ true
        → treat_on o t p s ≡ takes_okay x.stream p.arg0 (credit_word p.payload) y s
    okay_is None t s y is link there connected = absurd (let clash : false ≡ true = there in cc)
    okay_is (Some l) t s y is link there connected =
        ap (λ (c : Command). treat_any t c p s) command
        ∙ (ap (λ (b : Bool). cond b
        (at_stream t (s.streams p.arg1) (takes_okay p.arg1 p.arg0 (credit_word p.payload)) s) (quietly s))
        connected
        ∙ (ap (λ (n : ℕ). at_stream t (s.streams n) (takes_okay n p.arg0 (credit_word p.payload)) s) names
        ∙ (ap (λ (o : Option Stream). at_stream t o (takes_okay x.stream p.arg0 (credit_word p.payload)) s) is
        ∙ ap (λ (b : Bool). cond b (takes_okay x.stream p.arg0 (credit_word p.payload) y s) (quietly s)) (eq-eqb y.link t link))))

    module _ (ps : List Packet) (s : State) (w : List Event) (y : Stream) (is : s.streams x.stream ≡ Some y) where
      abbrev before : Seen
      before = seen x.stream ps

      abbrev after : Seen
      after = seen x.stream (ps ++ p ∷ [])

      -- ---- the stream opens
      module _ (h : IsShown false x (seen x.stream ps) s w) (by : IsOpenedBy p.arg0 y) where
        part_now : Part
        part_now = with_remote p.arg0 (with_flow (first_credit (credit_word p.payload) y.part.flow) y.part)

        hears : Made
        hears = hears_okay (s.clients y.client) y.client s

        after_is : seen x.stream (ps ++ p ∷ []) ≡ record { remote = p.arg0; sealed = false }
        after_is =
            let was = h.own y is in
            let none : remote_in (opening_in x.stream ps) ≡ 0 = sym was.remote ∙ by.new in
            seen_pending x.stream ps (p ∷ []) none (was.pending none) ∙ okay_one (ne_eqb p.arg0 0 by.by)

        same_client : y.client ≡ x.client
        same_client = (h.own y is).client

        told_own : owed_to x.client (hears_okay (s.clients y.client) y.client s).told ≡ okay
        told_own =
            let of = client_of s x.stream y is by.owned h.owned in
            let at_c : s.clients x.client ≡ Some of.client = subst (λ (n : ℕ). s.clients n ≡ Some of.client) same_client of.is in
            ap (λ (o : Option Client). owed_to x.client (hears_okay o y.client s).told) of.is
            ∙ (ap (λ (b : Bool). owed_to x.client (cond b (quietly s) (owe_client y.client (codes "OKAY") s)).told)
            (h.row of.client at_c).alone
            ∙ (ap (λ (b : Bool). cond b (codes "OKAY") [] ++ []) (eq-eqb y.client x.client same_client) ∙ append-nil (codes "OKAY")))

        out_own : owed_to x.client (w ++ (hears_okay (s.clients y.client) y.client s).told) ≡ x.replies ++ (okay ++ [])
        out_own = owed_append x.client w (hears_okay (s.clients y.client) y.client s).told
            ∙ (ap (λ v. owed_to x.client w ++ v) told_own
            ∙ (ap (λ v. v ++ okay)
            (h.out.out_is
            ∙ (ap (λ (b : Bool). x.replies ++ closed_reply b) (h.out.waits y is by.owned)
            ∙ append-nil x.replies))
            ∙ ap (λ v. x.replies ++ v) (sym (append-nil okay))))

        streaming_own : (a b : Client) → in_phase (Streaming x.stream) a ≡ Some b → RowServed x.stream false a → RowServed x.stream true b
        streaming_own a b e was =
            let row : record a { about = record a.about { phase = Streaming x.stream } } ≡ b = cc in
            subst (λ (z : Client). RowServed x.stream true z) row (record { alone = was.alone; phase = (refl, refl) })

        row_own : (clients : Rows (Option Client)) → ((z : Client) → clients x.client ≡ Some z → RowServed x.stream false z)
            → (b : Client) → change_row y.client (option_and_then (in_phase (Streaming x.stream))) clients x.client
            ≡ Some b → RowServed x.stream true b
        row_own clients was b at_c =
            go (clients x.client) refl
            (sym (ap (λ (v : Bool). cond v (option_and_then (in_phase (Streaming x.stream)) (clients x.client)) (clients x.client))
            (eq-eqb y.client x.client same_client)) ∙ at_c)
          where
            go : (o : Option Client) → clients x.client ≡ o → option_and_then (in_phase (Streaming x.stream)) o
                ≡ Some b → RowServed x.stream true b
            go None here e = absurd (let clash : None ≡ Some b = e in cc)
            go (Some z) here e = streaming_own z b e (was z here)

        hears_rows : (o : Option Client) (z : Client) → (hears_okay o y.client s).state.clients x.client ≡ Some z
            → RowServed x.stream false z
        hears_rows None = h.row
        hears_rows (Some v) = due v.about.forwarded
          where
            due : (b : Bool) (z : Client) → (cond b (quietly s) (owe_client y.client (codes "OKAY") s)).state.clients x.client ≡ Some z
                → RowServed x.stream false z
            due true = h.row
            due false = at_due (steady x.stream false) x.client y.client (codes "OKAY") s.clients h.row

        hears_frame : (o : Option Client) → (hears_okay o y.client s).state ≡ record s { clients = (hears_okay o y.client s).state.clients }
        hears_frame None = refl
        hears_frame (Some v) = go v.about.forwarded
          where
            go : (b : Bool) → (cond b (quietly s) (owe_client y.client (codes "OKAY") s)).state
                ≡ record s { clients = (cond b (quietly s) (owe_client y.client (codes "OKAY") s)).state.clients }
            go true = refl
            go false = refl

        row_now : (z : Stream) → change_row x.stream (option_and_then (with_stream_part part_now)) s.streams x.stream ≡ Some z
            → IsShownRow x (record { remote = p.arg0; sealed = false }) z
        unfolding part_now
        row_now z at_l =
            let was = h.own y is in
            let there : change_row x.stream (option_and_then (with_stream_part part_now)) s.streams x.stream
            ≡ Some (record y { part = part_now }) =
            changed_here x.stream (with_stream_part part_now) s.streams y is in
            let both : Some (record y { part = part_now }) ≡ Some z = sym there ∙ at_l in
            let it : record y { part = part_now } ≡ z = cc in
            subst (IsShownRow x (record { remote = p.arg0; sealed = false })) it (record {
              client = was.client;
              link = was.link;
              remote = refl;
              pending = λ e. refl;
              may = was.may;
              orphan = was.orphan;
            })

        opened_shown : IsShown true x (record { remote = p.arg0; sealed = false })
            (opened x.stream p.arg0 (credit_word p.payload) y s).state
            (w ++ (opened x.stream p.arg0 (credit_word p.payload) y s).told)
        unfolding part_now hears
        opened_shown = quiet_after (λ s w. IsShown true x (record { remote = p.arg0; sealed = false }) s w) w hears.told
            (open_now x.stream p.arg0 (credit_word p.payload) y hears.state) (record {
              owned = owned_opened x.stream p.arg0 (credit_word p.payload) y s is by h.owned;
              row = row_own hears.state.clients (hears_rows (s.clients y.client));
              own = subst (λ (v : State). (z : Stream) → change_row x.stream
                  (option_and_then (with_stream_part part_now)) v.streams x.stream ≡ Some z
                  → IsShownRow x (record { remote = p.arg0; sealed = false }) z) (sym (hears_frame (s.clients y.client))) row_now;
              drawn = subst (λ (v : State). x.stream ≤ v.drawn) (sym (hears_frame (s.clients y.client))) h.drawn;
              out = record { bytes = []; out_is = out_own; may = (h.own y is).may by.owned; told = by.by };
            })

        opened_here : IsShown true x (seen x.stream (ps ++ p ∷ [])) (opened x.stream p.arg0 (credit_word p.payload) y s).state
            (w ++ (opened x.stream p.arg0 (credit_word p.payload) y s).told)
        opened_here = subst (λ (a : Seen). IsShown true x a (opened x.stream p.arg0 (credit_word p.payload) y s).state
            (w ++ (opened x.stream p.arg0 (credit_word p.payload) y s).told)) (sym after_is) opened_shown

      -- ---- all OKAYs
      abbrev Shows : Made → Type 0
      Shows m = (heard : Bool) × IsShown heard x (seen x.stream (ps ++ p ∷ [])) m.state (w ++ m.told)

      module _ (heard : Bool) (h : IsShown heard x (seen x.stream ps) s w) where
        -- nothing comes of it
        quiet_shows : IsSeenOn x.stream (seen x.stream ps) (seen x.stream (ps ++ p ∷ [])) → Shows (quietly s)
        quiet_shows on = (
          heard,
          after_quietly (λ s w. IsShown heard x (seen x.stream (ps ++ p ∷ [])) s w) w s
              (seen_on heard (seen x.stream ps) (seen x.stream (ps ++ p ∷ [])) s w on h),
        )

        first_shows : (orphan : Bool) → y.part.orphan ≡ orphan → y.part.remote ≡ 0 → p.arg0 ≢ 0
            → Shows (okay_first orphan x.stream p.arg0 (credit_word p.payload) y s)
        first_shows true e none some =
            let m : Made = orphan_opened x.stream p.arg0 y s in
            let kept = orphan_kept (serving (shown_turns heard x (seen x.stream ps) (x.client + 1) other)) s w h x.stream p.arg0 y is e in (
              heard,
              gone_more heard ps (p ∷ []) m.state (w ++ m.told)
                  (ap (λ (b : Bool). cond b (option_and_then none_kept (s.streams x.stream)) (s.streams x.stream))
                  (eq-eqb x.stream x.stream refl)
                  ∙ none_of x.stream (s.streams x.stream)) kept,
            )
        first_shows false e none some = go heard h
          where
            by : IsOpenedBy p.arg0 y
            by = record { new = none; owned = e; by = some }

            go : (c : Bool) → IsShown c x (seen x.stream ps) s w → Shows (okay_first false x.stream p.arg0 (credit_word p.payload) y s)
            go false v = (true, opened_here v by)
            go true v = absurd (phase_open x.stream x.stream y.part.remote
                (shown_client true x (seen x.stream ps) x.stream y s w is e (v.own y is).client v) none)

        later_shows : (b : Bool) → y.part.remote ≢ 0 → Shows (cond b (okay_open x.stream (credit_word p.payload) y s) (quietly s))
        later_shows false some = quiet_shows (seen_told x.stream ps (p ∷ []) (λ e. some ((h.own y is).remote ∙ e)))
        later_shows true some =
            let m : Made = okay_open x.stream (credit_word p.payload) y s in (
              heard,
              seen_on heard (seen x.stream ps) (seen x.stream (ps ++ p ∷ [])) m.state (w ++ m.told)
                  (seen_told x.stream ps (p ∷ []) (λ e. some ((h.own y is).remote ∙ e)))
                  (okay_open_kept (serving (shown_turns heard x (seen x.stream ps) (x.client + 1) other)) s w h
                  x.stream (credit_word p.payload) y is),
            )

        known_shows : (b : Bool) → eqb y.part.remote 0 ≡ b → p.arg0 ≢ 0
            → Shows (cond b (okay_first y.part.orphan x.stream p.arg0 (credit_word p.payload) y s)
            (cond (eqb p.arg0 y.part.remote) (okay_open x.stream (credit_word p.payload) y s) (quietly s)))
        known_shows true e some = first_shows y.part.orphan refl (eqb-true y.part.remote 0 e) some
        known_shows false e some = later_shows (eqb p.arg0 y.part.remote) (eqb-false y.part.remote 0 e)

        okay_shows : (b : Bool) → eqb p.arg0 0 ≡ b → Shows (cond b (quietly s) (cond (eqb y.part.remote 0)
            (okay_first y.part.orphan x.stream p.arg0 (credit_word p.payload) y s)
            (cond (eqb p.arg0 y.part.remote) (okay_open x.stream (credit_word p.payload) y s) (quietly s))))
        okay_shows true e = quiet_shows (seen_one x.stream ps p (okay_zero e))
        okay_shows false e = known_shows (eqb y.part.remote 0) refl (eqb-false p.arg0 0 e)

    -- what an OKAY of the stream leaves
    pub okay_here : (ps : List Packet) (s : State) (w : List Event) → IsLinked s → (heard : Bool) → IsShown heard x (seen x.stream ps) s w
        → (hears : Bool) × IsShown hears x (seen x.stream (ps ++ p ∷ [])) (treat x.link p s).state (w ++ (treat x.link p s).told)
    okay_here ps s w linked heard h = go (s.streams x.stream) refl
      where
        go : (o : Option Stream) → s.streams x.stream ≡ o
            → (hears : Bool) × IsShown hears x (seen x.stream (ps ++ p ∷ [])) (treat x.link p s).state (w ++ (treat x.link p s).told)
        go None is = (
          heard,
          subst (λ (m : Made). IsShown heard x (seen x.stream (ps ++ p ∷ [])) m.state (w ++ m.told))
              (sym (okay_none (s.links x.link) x.link s is))
              (after_quietly (λ s w. IsShown heard x (seen x.stream (ps ++ p ∷ [])) s w) w s (gone_more heard ps (p ∷ []) s w is h)),
        )
        go (Some y) is =
            let link = (h.own y is).link in
            let live = live_link y s linked is link in
            let done = okay_shows ps s w y is heard h (eqb p.arg0 0) refl in (
              done.0,
              subst (λ (m : Made). IsShown done.0 x (seen x.stream (ps ++ p ∷ [])) m.state (w ++ m.told))
                  (sym (okay_is (s.links x.link) x.link s y is link live.1 live.0)) done.1,
            )
