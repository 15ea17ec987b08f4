-- Rules that concern no stream.
use Rattle.std.proofs.Common.{◌≡◌, ℕ, Bool, true, false, cond, List, drop, Option, Some, None, refl, ap, subst, ◌∙◌}
use Rattle.std.specs.Prelude.{option_map, codes}
use Rattle.adb_outside.specs.Tables.{Rows}
use Rattle.adb_wire.specs.declared.packets.Packet.{Packet}
use Rattle.adb_client.specs.declared.phase.Phase.{Phase}
use Rattle.adb_client.specs.declared.phase.Phase.TheVariants.{Opening, Streaming, Tracking, Closing, Gone}
use Rattle.adb_client.specs.declared.about.Want.{Want}
use Rattle.adb_reply.specs.Strings.{failed}
use Rattle.adb_history.specs.Rows.{Client, State, to_client, none_kept, with_due}
use Rattle.adb_history.specs.Events.{Made, quietly, then_also}
use Rattle.adb_history.specs.Links.{owe_link}
use Rattle.adb_history.specs.Clients.{owe_client, closing, closes, closes_with}
use Rattle.adb_history.specs.Streams.{no_ids_left}
use Rattle.adb_history.specs.Tracking.{marked, marked_in, mark_all}
use Rattle.adb_history.specs.Losing.{input_ended, input_ends}
use Rattle.adb_history.specs.Packets.{hears_okay}
use Rattle.adb_history.specs.Reading.{tracks, awaits}
use Rattle.adb_history.specs.Handing.{hands, left_in, unmarked}
use Rattle.adb_history.specs.Births.{is_wrte, is_clse}
use Rattle.adb_laws_fifo_up.specs.Seen.{Seen, Sees}
use Rattle.adb_laws_fifo_up.specs.Climbing.{IsAside, Aside}
use Rattle.adb_laws_fifo_up.proofs.Seeing.{Dims, dims, closing_unseen, none_unseen, are_append}

-- ---- one rule after another
pub aside_same : (s : State) → Aside s (quietly s)
aside_same s = record { drawn = refl; streams = λ l. refl; clients = λ c v h. h; told = tt }

pub aside_then : (s : State) (m : Made) (rule : State → Made) → Aside s m → Aside m.state (rule m.state) → Aside s (then_also m rule)
aside_then s m rule h i = record {
  drawn = i.drawn ∙ h.drawn;
  streams = λ l. i.streams l ∙ h.streams l;
  clients = λ c v see. h.clients c v (i.clients c v see);
  told = are_append IsAside m.told (rule m.state).told h.told i.told;
}

pub aside_if : (s : State) (b : Bool) (m n : Made) → Aside s m → Aside s n → Aside s (cond b m n)
aside_if s true m n h i = h
aside_if s false m n h i = i

-- ---- rows
-- a client is changed so that nothing more is seen of it
pub aside_client : (c : ℕ) (f : Client → Option Client) (s : State) → Dims s.clients c f → Aside s (quietly (to_client c f s))
aside_client c f s at = record { drawn = refl; streams = λ l. refl; clients = λ k v see. dims s.clients c f at k v see; told = tt }

pub aside_owe_client : (c : ℕ) (bytes : List ℕ) (s : State) → Aside s (owe_client c bytes s)
aside_owe_client c bytes s = record {
  drawn = refl;
  streams = λ l. refl;
  clients = λ k v see. dims s.clients c (with_due bytes) (λ x v is h. h) k v see;
  told = (tt, tt);
}

-- a packet becomes due that neither carries nor closes
pub aside_owe : (t : ℕ) (p : Packet) (s : State) → (is_wrte p.command ≡ false)
    × (is_clse p.command ≡ true → p.arg0 ≡ 0) → Aside s (owe_link t p s)
aside_owe t p s none = record { drawn = refl; streams = λ l. refl; clients = λ c v see. see; told = (none, tt) }

pub dims_closing : (clients : Rows (Option Client)) (c : ℕ) → Dims clients c closing
dims_closing clients c x v is h = absurd (closing_unseen x.due x v h)

pub aside_closes : (c : ℕ) (s : State) → Aside s (quietly (closes c s))
aside_closes c s = aside_client c closing s (dims_closing s.clients c)

pub aside_closes_with : (c : ℕ) (bytes : List ℕ) (s : State) → Aside s (closes_with c bytes s)
aside_closes_with c bytes s =
    aside_then s (owe_client c bytes s) (λ s. quietly (closes c s)) (aside_owe_client c bytes s)
    (aside_closes c (owe_client c bytes s).state)

pub aside_drops : (c : ℕ) (s : State) → Aside s (quietly (to_client c none_kept s))
aside_drops c s = aside_client c none_kept s (λ x v is h. absurd (none_unseen v h))

pub aside_no_ids : (forwarded : Bool) (c : ℕ) (s : State) → Aside s (no_ids_left forwarded c s)
aside_no_ids true c s = aside_drops c s
aside_no_ids false c s = aside_closes_with c (failed (codes "no stream ids left")).bytes s

pub aside_tracks : (c : ℕ) (long : Bool) (s : State) → Aside s (quietly (to_client c (tracks long) s))
aside_tracks c long s = aside_client c (tracks long) s (λ x v is h. absurd (none_unseen v h))

pub aside_awaits : (c : ℕ) (want : Want) (s : State) → Aside s (quietly (to_client c (awaits want) s))
aside_awaits c want s = aside_client c (awaits want) s (λ x v is h. absurd (none_unseen v h))

pub aside_ended : (c : ℕ) (s : State) → Aside s (quietly (to_client c input_ended s))
aside_ended c s = aside_client c input_ended s (λ x v is h. h)

pub aside_input : (phase : Phase) (c : ℕ) (s : State) → Aside s (quietly (input_ends phase c s))
aside_input (Opening l) c s = aside_ended c s
aside_input (Streaming l) c s = aside_ended c s
aside_input Closing c s = aside_same s
aside_input Gone c s = aside_same s
aside_input _ c s = aside_closes c s

pub aside_hears : (o : Option Client) (c : ℕ) (s : State) → Aside s (hears_okay o c s)
aside_hears None c s = aside_same s
aside_hears (Some client) c s =
    aside_if s client.about.forwarded (quietly s) (owe_client c (codes "OKAY") s) (aside_same s) (aside_owe_client c (codes "OKAY") s)

dims_left : (phase : Phase) (due : List ℕ) (x : Client) (v : Seen) → x.about.phase ≡ phase → Sees (left_in phase due x) v → Sees (Some x) v
dims_left Closing due x v is h = absurd (closing_unseen due (record x { due = due }) v h)
dims_left _ due x v is h = h

pub aside_hands : (c n : ℕ) (s : State) → Aside s (quietly (to_client c (hands n) s))
aside_hands c n s = aside_client c (hands n) s (λ x v is h. dims_left x.about.phase (drop n x.due) x v refl h)

pub aside_unmarks : (c : ℕ) (s : State) → Aside s (quietly (to_client c unmarked s))
aside_unmarks c s = aside_client c unmarked s (λ x v is h. h)

dims_marked : (phase : Phase) (x : Client) (v : Seen) → Sees (Some (marked_in phase x)) v → Sees (Some x) v
dims_marked Tracking x v h = h
dims_marked _ x v h = h

pub aside_marks : (s : State) → Aside s (quietly (mark_all s))
aside_marks s = record { drawn = refl; streams = λ l. refl; clients = λ c v see. go v (s.clients c) see; told = tt }
  where
    go : (v : Seen) (o : Option Client) → Sees (option_map marked o) v → Sees o v
    go v None h = h
    go v (Some x) h = dims_marked x.about.phase x v h

-- what is kept but clients, streams and their number changes
pub aside_else : (s next : State) → next.drawn ≡ s.drawn → next.streams ≡ s.streams → next.clients ≡ s.clients → Aside s (quietly next)
aside_else s next drawn streams clients = record {
  drawn = drawn;
  streams = λ l. ap (λ rows. rows l) streams;
  clients = λ c v see. subst (λ (o : Option Client). Sees o v) (ap (λ rows. rows c) clients) see;
  told = tt;
}
