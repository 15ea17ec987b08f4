-- What is seen of a stream stays where other streams and clients change.
use Rattle.std.proofs.Common.{ℕ, ◌+◌, ◌≡◌, ◌≢◌, Bool, true, false, cond, List, [], ◌∷◌, ◌++◌, Option, Some, None, refl, sym, ◌∙◌, ap, arith}
use Rattle.std.proofs.Common.{eqb}
use Rattle.std.proofs.lemmas.Bool.{ne_eqb}
use Rattle.std.proofs.lemmas.List.{append-nil}
use Rattle.std.specs.Prelude.{option_map, option_and_then, ◌&&◌}
use Rattle.adb_outside.specs.Tables.{Rows, change_row}
use Rattle.adb_wire.specs.declared.packets.Packet.{Packet}
use Rattle.adb_stream.specs.Flow.{new_flow}
use Rattle.adb_stream.specs.Stream.{new_stream}
use Rattle.adb_stream.specs.declared.row.Stream.{Stream}
use Rattle.adb_client.specs.declared.phase.Phase.{Phase}
use Rattle.adb_client.specs.declared.phase.Phase.TheVariants.{Asking}
use Rattle.adb_history.specs.Rows.{Client, State, to_client, to_stream, with_due}
use Rattle.adb_history.specs.Events.{Event, due_to_client, due_to_link, ended, bytes_for, owed_to, packets_to, ending_in}
use Rattle.adb_history.specs.declared.ending.Ending.{Ending}
use Rattle.adb_history.specs.Links.{owe_link}
use Rattle.adb_history.specs.Clients.{owe_client}
use Rattle.adb_history.specs.Streams.{draw}
use Rattle.adb_history.specs.Tracking.{marked_in, marked, mark_all}
use Rattle.adb_history.specs.Births.{is_okay}
use Rattle.adb_history.specs.Fifo.{okays_of}
use Rattle.adb_history.specs.Moves.{After}
use Rattle.adb_history.proofs.Following.{changed_other}
use Rattle.adb_history.proofs.Growing.{owed_append}
use Rattle.adb_laws_fifo_down.specs.Line.{Line, SeenClient, View, view, seen, seen_client, Apart, Shows, first_of, tells}

-- ---- what is told, one after another
put_first : (p : Packet) (here : Bool) (ps qs rs : List Packet) → ps ≡ qs ++ rs → cond here (p ∷ ps) ps ≡ cond here (p ∷ qs) qs ++ rs
put_first p true ps qs rs e = ap (λ (xs : List Packet). p ∷ xs) e
put_first p false ps qs rs e = e

pub packets_append : (t : ℕ) (es fs : List Event) → packets_to t (es ++ fs) ≡ packets_to t es ++ packets_to t fs
packets_append t [] fs = refl
packets_append t (due_to_client client bytes ∷ es) fs = packets_append t es fs
packets_append t (due_to_link link p check ∷ es) fs = put_first p (eqb link t) (packets_to t (es ++ fs)) (packets_to t es) (packets_to t fs)
    (packets_append t es fs)
packets_append t (ended stream ending ∷ es) fs = packets_append t es fs

pub okays_append : (l : ℕ) (ps qs : List Packet) → okays_of l (ps ++ qs) ≡ okays_of l ps ++ okays_of l qs
okays_append l [] qs = refl
okays_append l (p ∷ ps) qs =
    put_first p (is_okay p.command && eqb p.arg0 l) (okays_of l (ps ++ qs)) (okays_of l ps) (okays_of l qs) (okays_append l ps qs)

pub ending_append : (l : ℕ) (es fs : List Event) → ending_in l (es ++ fs) ≡ first_of (ending_in l es) (ending_in l fs)
ending_append l [] fs = refl
ending_append l (due_to_client client bytes ∷ es) fs = ending_append l es fs
ending_append l (due_to_link link p check ∷ es) fs = ending_append l es fs
ending_append l (ended stream ending ∷ es) fs = go (eqb stream l) (ending_in l (es ++ fs)) (ending_in l es)
    (ending_in l fs) (ending_append l es fs)
  where
    go : (here : Bool) (x y z : Option Ending) → x ≡ first_of y z → cond here (Some ending) x ≡ first_of (cond here (Some ending) y) z
    go true x y z e = refl
    go false x y z e = e

pub first_none : (o : Option Ending) → first_of o None ≡ o
first_none None = refl
first_none (Some ending) = refl

module _ (b : Line) where
  pub view_told : (s : State) (w : List Event) (e : Event) → view b s (w ++ e ∷ []) ≡ tells b e (view b s w)
  view_told s w e =
      let output : owed_to b.client (w ++ e ∷ []) ≡ owed_to b.client w ++ bytes_for b.client e =
      owed_append b.client w (e ∷ []) ∙ ap (λ (x : List ℕ). owed_to b.client w ++ x) (append-nil (bytes_for b.client e)) in
      let okays : okays_of b.id (packets_to b.link (w ++ e ∷ []))
      ≡ okays_of b.id (packets_to b.link w) ++ okays_of b.id (packets_to b.link (e ∷ [])) =
      ap (okays_of b.id) (packets_append b.link w (e ∷ [])) ∙ okays_append b.id (packets_to b.link w) (packets_to b.link (e ∷ [])) in
      let ending = ending_append b.id w (e ∷ []) in
      λ i. record (view b s w) { output = output i; okays = okays i; ending = ending i }

  -- what is told is not of the stream
  pub record IsQuiet (e : Event) : Type 0 where
    pub bytes : bytes_for b.client e ≡ []
    pub okays : okays_of b.id (packets_to b.link (e ∷ [])) ≡ []
    pub ending : ending_in b.id (e ∷ []) ≡ None

  pub tells_nothing : (e : Event) (v : View) → IsQuiet e → tells b e v ≡ v
  tells_nothing e v q =
      let output : v.output ++ bytes_for b.client e ≡ v.output = ap (λ (x : List ℕ). v.output ++ x) q.bytes ∙ append-nil v.output in
      let okays : v.okays ++ okays_of b.id (packets_to b.link (e ∷ [])) ≡ v.okays =
      ap (λ (x : List Packet). v.okays ++ x) q.okays ∙ append-nil v.okays in
      let ending : first_of v.ending (ending_in b.id (e ∷ [])) ≡ v.ending = ap (first_of v.ending) q.ending ∙ first_none v.ending in
      λ i. record v { output = output i; okays = okays i; ending = ending i }

  -- no OKAY of the stream
  abbrev pub IsNoOkay : Packet → Type 0
  IsNoOkay p = okays_of b.id (p ∷ []) ≡ []

  pub no_okay : (p : Packet) → (is_okay p.command && eqb p.arg0 b.id) ≡ false → IsNoOkay p
  no_okay p e = ap (λ (x : Bool). cond x (p ∷ []) []) e

  pub quiet_link : (t : ℕ) (p : Packet) (check : ℕ) → IsNoOkay p → IsQuiet (due_to_link t p check)
  quiet_link t p check none = record { bytes = refl; okays = go (eqb t b.link); ending = refl }
    where
      go : (here : Bool) → okays_of b.id (cond here (p ∷ []) []) ≡ []
      go true = none
      go false = refl

  pub quiet_client : (n : ℕ) (bytes : List ℕ) → n ≢ b.client → IsQuiet (due_to_client n bytes)
  quiet_client n bytes other = record { bytes = ap (λ (x : Bool). cond x bytes []) (ne_eqb n b.client other); okays = refl; ending = refl }

  pub quiet_ended : (k : ℕ) (ending : Ending) → k ≢ b.id → IsQuiet (ended k ending)
  quiet_ended k ending other =
      record {
        bytes = refl;
        okays = refl;
        ending = ap (λ (x : Bool). cond x (Some ending) None) (ne_eqb k b.id other);
      }

-- ---- what other streams and clients do
pub apart_change : (b : Line) (drawn k : ℕ) (f : Stream → Option Stream) (streams : Rows (Option Stream))
    → ((x y : Stream) → f x ≡ Some y → (y.client ≡ x.client) × (y.link ≡ x.link))
    → Apart b drawn streams → Apart b drawn (change_row k (option_and_then f) streams)
apart_change b drawn k f streams keeps h = record {
  others = λ n y is other. let was = before n y is in (λ same. h.others n was.0 was.1 other (sym was.2.0 ∙ same));
  client = λ y is. let was = before b.id y is in was.2.0 ∙ h.client was.0 was.1;
  link = λ y is. let was = before b.id y is in was.2.1 ∙ h.link was.0 was.1;
  born = h.born;
}
  where
    made : (o : Option Stream) (y : Stream) → option_and_then f o ≡ Some y
        → (x : Stream) × (o ≡ Some x) × ((y.client ≡ x.client) × (y.link ≡ x.link))
    made None y is = absurd (let clash : None ≡ Some y = is in cc)
    made (Some x) y is = (x, refl, keeps x y is)

    before : (n : ℕ) (y : Stream) → change_row k (option_and_then f) streams n ≡ Some y
        → (x : Stream) × (streams n ≡ Some x) × ((y.client ≡ x.client) × (y.link ≡ x.link))
    before n y is = go (eqb k n) is
      where
        go : (here : Bool) → cond here (option_and_then f (streams n)) (streams n) ≡ Some y
            → (x : Stream) × (streams n ≡ Some x) × ((y.client ≡ x.client) × (y.link ≡ x.link))
        go true e = made (streams n) y e
        go false e = (y, e, (refl, refl))

module _ (b : Line) (v : View) where
  pub shows_told : (e : Event) (s : State) (w : List Event) → IsQuiet b e → Shows b v s w → Shows b v s (w ++ e ∷ [])
  shows_told e s w q h = (h.0, view_told b s w e ∙ (tells_nothing b e (view b s w) q ∙ h.1))

  pub shows_owe_link : (t : ℕ) (p : Packet) (s : State) (w : List Event) → IsNoOkay b p → Shows b v s w
      → After (Shows b v) w (owe_link t p s)
  shows_owe_link t p s w none h = shows_told _ s w (quiet_link b t p _ none) h

  pub shows_client : (n : ℕ) (f : Client → Option Client) (s : State) (w : List Event) → n ≢ b.client → Shows b v s w
      → Shows b v (to_client n f s) w
  shows_client n f s w other h = (
    h.0,
    ap (λ (o : Option Client). record (view b s w) { client = option_map seen_client o })
        (changed_other n b.client f s.clients other) ∙ h.1,
  )

  pub shows_owe_client : (n : ℕ) (bytes : List ℕ) (s : State) (w : List Event) → n ≢ b.client → Shows b v s w
      → After (Shows b v) w (owe_client n bytes s)
  shows_owe_client n bytes s w other h =
      shows_told (due_to_client n bytes) (to_client n (with_due bytes) s) w (quiet_client b n bytes other)
      (shows_client n (with_due bytes) s w other h)

  -- a change of a client that is not seen
  pub shows_same : (n : ℕ) (g : Client → Client) (s : State) (w : List Event)
      → ((a : Client) → seen_client (g a) ≡ seen_client a) → Shows b v s w
      → Shows b v (to_client n (λ a. Some (g a)) s) w
  shows_same n g s w same h =
      (h.0, ap (λ (o : Option SeenClient). record (view b s w) { client = o }) (go (eqb n b.client) (s.clients b.client)) ∙ h.1)
    where
      go : (here : Bool) (o : Option Client) → option_map seen_client
          (cond here (option_and_then (λ a. Some (g a)) o) o) ≡ option_map seen_client o
      go true None = refl
      go true (Some a) = ap Some (same a)
      go false o = refl

  pub shows_mark_all : (s : State) (w : List Event) → Shows b v s w → Shows b v (mark_all s) w
  shows_mark_all s w h = (h.0, ap (λ (o : Option SeenClient). record (view b s w) { client = o }) (go (s.clients b.client)) ∙ h.1)
    where
      by : (phase : Phase) (a : Client) → seen_client (marked_in phase a) ≡ seen_client a
      by Asking a = refl
      by _ a = refl

      go : (o : Option Client) → option_map seen_client (option_map marked o) ≡ option_map seen_client o
      go None = refl
      go (Some a) = ap Some (by a.about.phase a)

  -- another stream
  pub shows_stream : (k : ℕ) (f : Stream → Option Stream) (s : State) (w : List Event) → k ≢ b.id
      → ((x y : Stream) → f x ≡ Some y → (y.client ≡ x.client) × (y.link ≡ x.link)) → Shows b v s w → Shows b v (to_stream k f s) w
  shows_stream k f s w other keeps h = (
    apart_change b s.drawn k f s.streams keeps h.0,
    ap (λ (o : Option Stream). record (view b s w) { stream = option_map seen o }) (changed_other k b.id f s.streams other) ∙ h.1,
  )

  pub shows_draw : (credit : Bool) (n t : ℕ) (s : State) (w : List Event) → n ≢ b.client → s.drawn + 1 ≢ b.id
      → Shows b v s w → Shows b v (draw credit n t s) w
  shows_draw credit n t s w other fresh h = (
    record {
      others = λ k y is apart. by k y (eqb (s.drawn + 1) k) is apart;
      client = λ y is. h.0.client y (sym here ∙ is);
      link = λ y is. h.0.link y (sym here ∙ is);
      born = omega (arith, h.0.born);
    },
    ap (λ (o : Option Stream). record (view b s w) { stream = option_map seen o }) here ∙ h.1,
  )
    where
      row : Stream
      row = new_stream (s.drawn + 1) n t (new_flow credit)

      here : cond (eqb (s.drawn + 1) b.id) (Some row) (s.streams b.id) ≡ s.streams b.id
      here = ap (λ (x : Bool). cond x (Some row) (s.streams b.id)) (ne_eqb (s.drawn + 1) b.id fresh)

      by : (k : ℕ) (y : Stream) (new : Bool) → cond new (Some row) (s.streams k) ≡ Some y → k ≢ b.id → y.client ≢ b.client
      by k y true e apart = let same : row ≡ y = let both : Some row ≡ Some y =
          e in cc in (λ is. other (ap (λ (x : Stream). x.client) same ∙ is))
      by k y false e apart = h.0.others k y e apart
