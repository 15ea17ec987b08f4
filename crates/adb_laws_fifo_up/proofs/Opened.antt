-- What the opening of a stream, a change of its row and the draw of another one leave.
use Rattle.std.proofs.Common.{◌≡◌, ◌≢◌, ℕ, ◌+◌, Bool, true, false, cond, [], ◌++◌, Option, Some, None, refl, sym, ap, subst, ◌∙◌, ◌⊎◌, inl}
use Rattle.std.proofs.Common.{inr}
use Rattle.std.specs.Prelude.{option_and_then, codes}
use Rattle.std.proofs.lemmas.Bool.{eq-eqb, ne_eqb, cases_eq}
use Rattle.adb_outside.specs.Tables.{Rows, change_row}
use Rattle.adb_stream.specs.declared.row.Part.{Part}
use Rattle.adb_stream.specs.declared.row.Stream.{Stream}
use Rattle.adb_stream.specs.Flow.{first_credit}
use Rattle.adb_client.specs.declared.phase.Phase.{Phase}
use Rattle.adb_client.specs.declared.phase.Phase.TheVariants.{Streaming}
use Rattle.adb_history.specs.Rows.{Client, State, with_due, in_phase, to_stream, with_stream_part}
use Rattle.adb_history.specs.Events.{Made, quietly}
use Rattle.adb_history.specs.Clients.{owe_client}
use Rattle.adb_history.specs.Flow.{with_flow}
use Rattle.adb_history.specs.Packets.{with_remote, hears_okay, opened}
use Rattle.adb_history.specs.Moves.{draws_now}
use Rattle.adb_history.proofs.Following.{changed_here, changed_other}
use Rattle.adb_laws_fifo_up.specs.Seen.{Seen, Sees}
use Rattle.adb_laws_fifo_up.specs.Climbing.{IsAside, Are, Aside}
use Rattle.adb_laws_fifo_up.proofs.Seeing.{seen_phase, are_append}
use Rattle.adb_laws_fifo_up.proofs.Asides.{aside_hears}

-- ---- a client in another phase
-- a client that is in this phase now, and held as much
pub record NowIn (clients : Rows (Option Client)) (c : ℕ) (phase : Phase) (v : Seen) : Type 0 where
  pub client : Client
  pub was : clients c ≡ Some client
  pub phase_now : v.phase ≡ phase
  pub held : v.held ≡ client.held

pub phase_seen : (clients : Rows (Option Client)) (c : ℕ) (phase : Phase) (n : ℕ) (v : Seen)
    → Sees (change_row c (option_and_then (in_phase phase)) clients n) v → Sees (clients n) v ⊎ ((n ≡ c) × NowIn clients c phase v)
phase_seen clients c phase n v see = go (cases_eq c n)
  where
    here : (o : Option Client) → clients c ≡ o → Sees (option_and_then (in_phase phase) o) v → NowIn clients c phase v
    here None is h = absurd (let clash : None ≡ Some v = h in cc)
    here (Some x) is h = let same = seen_phase phase x.held v h in record { client = x; was = is; phase_now = same.0; held = same.1 }

    row : change_row c (option_and_then (in_phase phase)) clients c ≡ option_and_then (in_phase phase) (clients c)
    row = rw (eq-eqb c c refl) refl

    go : (c ≡ n) ⊎ (c ≡ n → ⊥) → Sees (clients n) v ⊎ ((n ≡ c) × NowIn clients c phase v)
    go (inl same) =
        let see_here : Sees (change_row c (option_and_then (in_phase phase)) clients c) v =
        subst (λ (k : ℕ). Sees (change_row c (option_and_then (in_phase phase)) clients k) v) (sym same) see in
        inr (sym same, here (clients c) refl (subst (λ (o : Option Client). Sees o v) row see_here))
    go (inr apart) = inl (subst (λ (o : Option Client). Sees o v) (changed_other c n (in_phase phase) clients apart) see)

-- ---- the draw of another stream
pub draws_other : (l c t : ℕ) (s : State) → s.drawn + 1 ≢ l → (draws_now c t s).streams l ≡ s.streams l
draws_other l c t s apart = rw (ne_eqb (s.drawn + 1) l apart) refl

-- ---- a stream whose part changes
pub part_row : (l k : ℕ) (stream : Stream) (part : Part) (s : State) (y : Stream) → s.streams k ≡ Some stream
    → (to_stream k (with_stream_part part) s).streams l ≡ Some y
    → (x : Stream) × (s.streams l ≡ Some x) × (y.link ≡ x.link) × (y.client ≡ x.client)
part_row l k stream part s y is now = go (cases_eq k l)
  where
    go : (k ≡ l) ⊎ (k ≡ l → ⊥) → (x : Stream) × (s.streams l ≡ Some x) × (y.link ≡ x.link) × (y.client ≡ x.client)
    go (inl same) =
        let row : record stream { part = part } ≡ y = (let both : Some (record stream { part = part }) ≡ Some y =
        sym (changed_here k (with_stream_part part) s.streams stream is)
        ∙ (ap (to_stream k (with_stream_part part) s).streams same ∙ now) in cc) in
        (stream, ap s.streams (sym same) ∙ is, ap (λ (z : Stream). z.link) (sym row), ap (λ (z : Stream). z.client) (sym row))
    go (inr apart) = (y, sym (changed_other k l (with_stream_part part) s.streams apart) ∙ now, refl, refl)

-- ---- the opening
pub record Opens (k : ℕ) (stream : Stream) (s : State) (m : Made) : Type 0 where
  pub drawn : m.state.drawn ≡ s.drawn
  pub others : (l : ℕ) → l ≢ k → m.state.streams l ≡ s.streams l
  pub row : (l : ℕ) (y : Stream) → m.state.streams l ≡ Some y
      → (x : Stream) × (s.streams l ≡ Some x) × (y.link ≡ x.link) × (y.client ≡ x.client)
  pub clients : (n : ℕ) (v : Seen) → Sees (m.state.clients n) v
      → Sees (s.clients n) v ⊎ ((n ≡ stream.client) × NowIn s.clients stream.client (Streaming k) v)
  pub told : Are IsAside m.told

-- what a client that hears an OKAY holds
hears_held : (o : Option Client) (c : ℕ) (s : State) (x : Client) → (hears_okay o c s).state.clients c ≡ Some x
    → (y : Client) × (s.clients c ≡ Some y) × (y.held ≡ x.held)
hears_held None c s x is = (x, is, refl)
hears_held (Some client) c s x is = go client.about.forwarded is
  where
    due : (o : Option Client) → s.clients c ≡ o → option_and_then (with_due (codes "OKAY")) o ≡ Some x
        → (y : Client) × (s.clients c ≡ Some y) × (y.held ≡ x.held)
    due None e f = absurd (let clash : None ≡ Some x = f in cc)
    due (Some y) e f = (y, e, (let row : record y { due = y.due ++ codes "OKAY" } ≡ x = cc in ap (λ (z : Client). z.held) row))

    go : (b : Bool) → (cond b (quietly s) (owe_client c (codes "OKAY") s)).state.clients c ≡ Some x
        → (y : Client) × (s.clients c ≡ Some y) × (y.held ≡ x.held)
    go true e = (x, e, refl)
    go false e = due (s.clients c) refl
        (sym (rw (eq-eqb c c refl) refl) ∙ e)

pub opens_made : (k remote : ℕ) (word : Option ℕ) (stream : Stream) (s : State) → s.streams k ≡ Some stream
    → Opens k stream s (opened k remote word stream s)
opens_made k remote word stream s is = record {
  drawn = off.drawn;
  others = λ l apart. changed_other k l (with_stream_part part) heard.state.streams (λ e. apart (sym e)) ∙ off.streams l;
  row = λ l y e.
      let before = part_row l k stream part heard.state y (off.streams k ∙ is) e in
      (before.0, sym (off.streams l) ∙ before.1, before.2, before.3);
  clients = clients;
  told = are_append IsAside heard.told [] off.told tt;
}
  where
    heard : Made
    heard = hears_okay (s.clients stream.client) stream.client s

    part : Part
    part = with_remote remote (with_flow (first_credit word stream.part.flow) stream.part)

    off : Aside s (hears_okay (s.clients stream.client) stream.client s)
    off = aside_hears (s.clients stream.client) stream.client s

    clients : (n : ℕ) (v : Seen) → Sees ((opened k remote word stream s).state.clients n) v
        → Sees (s.clients n) v ⊎ ((n ≡ stream.client) × NowIn s.clients stream.client (Streaming k) v)
    clients n v see =
        go (phase_seen (hears_okay (s.clients stream.client) stream.client s).state.clients stream.client
        (Streaming k) n v see)
      where
        go : Sees ((hears_okay (s.clients stream.client) stream.client s).state.clients n) v
            ⊎ ((n ≡ stream.client) × NowIn (hears_okay (s.clients stream.client) stream.client s).state.clients
            stream.client (Streaming k) v)
            → Sees (s.clients n) v ⊎ ((n ≡ stream.client) × NowIn s.clients stream.client (Streaming k) v)
        go (inl same) = inl ((aside_hears (s.clients stream.client) stream.client s).clients n v same)
        go (inr here) =
            let before = hears_held (s.clients stream.client) stream.client s here.1.client here.1.was in
            inr (here.0, record { client = before.0; was = before.1; phase_now = here.1.phase_now; held = here.1.held ∙ sym before.2 })

-- its row then
pub opened_row : (k remote : ℕ) (word : Option ℕ) (stream : Stream) (s : State) (y : Stream) → s.streams k ≡ Some stream
    → (opened k remote word stream s).state.streams k ≡ Some y
    → (y.link ≡ stream.link) × (y.part ≡ with_remote remote (with_flow (first_credit word stream.part.flow) stream.part))
opened_row k remote word stream s y is e =
    let part : Part = with_remote remote (with_flow (first_credit word stream.part.flow) stream.part) in
    let off : Aside s (hears_okay (s.clients stream.client) stream.client s) = aside_hears (s.clients stream.client) stream.client s in
    let row : record stream { part = part } ≡ y = (let both : Some (record stream { part = part }) ≡ Some y =
    sym (changed_here k (with_stream_part part) (hears_okay (s.clients stream.client) stream.client s).state.streams
    stream (off.streams k ∙ is)) ∙ e in cc) in
    (ap (λ (z : Stream). z.link) (sym row), ap (λ (z : Stream). z.part) (sym row))
