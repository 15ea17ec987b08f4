-- Streams that end: those that are left go on.
use Rattle.std.proofs.Common.{◌≡◌, ◌≢◌, ℕ, zero, suc, Bool, true, false, cond, List, Option, Some, None, refl, sym, ap, ◌∙◌, arith}
use Rattle.std.specs.Prelude.{codes, nat_eq, option_and_then}
use Rattle.std.proofs.lemmas.Bool.{eq-eqb}
use Rattle.std.proofs.lemmas.List.Elements.{All-nil}
use Rattle.adb_outside.specs.Tables.{Rows, change_row}
use Rattle.adb_stream.specs.declared.row.Stream.{Stream}
use Rattle.adb_client.specs.declared.phase.Phase.{Phase}
use Rattle.adb_client.specs.declared.phase.Phase.TheVariants.{Opening, Streaming}
use Rattle.adb_reply.specs.Strings.{failed}
use Rattle.adb_history.specs.Rows.{Client, State, to_stream, none_kept}
use Rattle.adb_history.specs.Events.{Made, quietly, due_to_client, ended}
use Rattle.adb_history.specs.declared.ending.Ending.{Ending}
use Rattle.adb_history.specs.Links.{close_packet, owe_link}
use Rattle.adb_history.specs.Clients.{closes, closes_with}
use Rattle.adb_history.specs.Streams.{loses, client_loses, tells_end, ends_row, ends_telling, ends_if_of, ends_of, all_end}
use Rattle.adb_history.specs.Tracking.{mark_all}
use Rattle.adb_history.specs.Losing.{forgets, link_ends}
use Rattle.adb_history.proofs.OwnedStep.{client_loses_frame, ends_state}
use Rattle.adb_laws_births.specs.Going.{IsFrom, Goes}
use Rattle.adb_laws_births.proofs.Going.{go_on_same, go_on_gone, goes_quiet, goes_then, goes_if, one_from, goes_owe_link}

-- ---- the client of a stream that ends
pub goes_closes_with : (c : ℕ) (bytes : List ℕ) (s : State) → Goes s.streams s.drawn (closes_with c bytes s)
goes_closes_with c bytes s =
    record { rows = go_on_same s.streams; drawn_is = refl; told = one_from s.streams (due_to_client c bytes) tt }

goes_closes : (c : ℕ) (s : State) → Goes s.streams s.drawn (quietly (closes c s))
goes_closes c s = record { rows = go_on_same s.streams; drawn_is = refl; told = All-nil (IsFrom s.streams) }

goes_loses : (forwarded : Bool) (phase : Phase) (c : ℕ) (s : State) → Goes s.streams s.drawn (loses forwarded phase c s)
goes_loses forwarded (Streaming l) c s = goes_closes c s
goes_loses true (Opening l) c s = goes_closes c s
goes_loses false (Opening l) c s = goes_closes_with c (failed (codes "closed")).bytes s
goes_loses true _ c s = goes_quiet s
goes_loses false _ c s = goes_quiet s

goes_client_loses : (o : Option Client) (c : ℕ) (s : State) → Goes s.streams s.drawn (client_loses o c s)
goes_client_loses None c s = goes_quiet s
goes_client_loses (Some client) c s = goes_loses client.about.forwarded client.about.phase c s

-- ---- a stream ends
goes_tells_end : (orphan : Bool) (l : ℕ) (ending : Ending) (s : State)
    → Goes s.streams s.drawn (tells_end orphan l ending (to_stream l none_kept s))
goes_tells_end true l ending s = record { rows = go_on_gone s.streams l; drawn_is = refl; told = All-nil (IsFrom s.streams) }
goes_tells_end false l ending s = record { rows = go_on_gone s.streams l; drawn_is = refl; told = one_from s.streams (ended l ending) tt }

pub goes_ends_row : (l : ℕ) (ending : Ending) (stream : Stream) (s : State) → Goes s.streams s.drawn (ends_row l ending stream s)
goes_ends_row l ending stream s =
    let told : Made = tells_end stream.part.orphan l ending (to_stream l none_kept s) in
    goes_then s.streams s.drawn told (λ s. client_loses (s.clients stream.client) stream.client s)
    (goes_tells_end stream.part.orphan l ending s)
    (goes_client_loses (told.state.clients stream.client) stream.client told.state)

-- a row that is gone
pub gone_not : (rows : Rows (Option Stream)) (l m : ℕ) (b : Stream) → change_row l (option_and_then none_kept) rows m ≡ Some b → l ≢ m
gone_not rows l m b is same =
    nothing (rows m) (sym (ap (λ (c : Bool). cond c (option_and_then none_kept (rows m)) (rows m)) (eq-eqb l m same)) ∙ is)
  where
    nothing : (o : Option Stream) → option_and_then none_kept o ≡ Some b → ⊥
    nothing None e = let clash : None ≡ Some b = e in cc
    nothing (Some a) e = let clash : None ≡ Some b = e in cc

pub ends_row_gone : (l : ℕ) (ending : Ending) (stream : Stream) (s : State) (m : ℕ) (b : Stream)
    → (ends_row l ending stream s).state.streams m ≡ Some b → l ≢ m
ends_row_gone l ending stream s m b is =
    gone_not s.streams l m b (sym (ap (λ (x : State). x.streams m)
    (ends_state l ending stream s ∙ client_loses_frame (s.clients stream.client) stream.client (to_stream l none_kept s))) ∙ is)

pub goes_ends_telling : (l : ℕ) (ending : Ending) (stream : Stream) (s : State) → s.streams l ≡ Some stream → stream.part.remote ≢ 0
    → Goes s.streams s.drawn (ends_telling l ending stream s)
goes_ends_telling l ending stream s is known =
    let told : Made = owe_link stream.link (close_packet l stream.part.remote) s in
    goes_then s.streams s.drawn told (ends_row l ending stream)
    (goes_owe_link l stream (close_packet l stream.part.remote) s
    (record { row = stream; is = is; link = refl; remote = refl; known = known })
    (record { from = refl; to = refl; of = tt; size = omega arith }))
    (goes_ends_row l ending stream told.state)

-- ---- all streams of a link end
goes_ends_if_of : (t l : ℕ) (ending : Ending) (o : Option Stream) (s : State) → Goes s.streams s.drawn (ends_if_of t l ending o s)
goes_ends_if_of t l ending None s = goes_quiet s
goes_ends_if_of t l ending (Some stream) s =
    goes_if s.streams s.drawn (nat_eq stream.link t) (ends_row l ending stream s) (quietly s)
    (λ e. goes_ends_row l ending stream s) (λ e. goes_quiet s)

goes_ends_of : (t n : ℕ) (ending : Ending) (s : State) → Goes s.streams s.drawn (ends_of t n ending s)
goes_ends_of t zero ending s = goes_quiet s
goes_ends_of t (suc n) ending s =
    let before : Made = ends_of t n ending s in
    goes_then s.streams s.drawn before (λ s. ends_if_of t (suc n) ending (s.streams (suc n)) s) (goes_ends_of t n ending s)
    (goes_ends_if_of t (suc n) ending (before.state.streams (suc n)) before.state)

pub goes_all_end : (t : ℕ) (ending : Ending) (s : State) → Goes s.streams s.drawn (all_end t ending s)
goes_all_end t ending s = goes_ends_of t s.drawn ending s

pub goes_link_ends : (t : ℕ) (ending : Ending) (s : State) → Goes s.streams s.drawn (link_ends t ending s)
goes_link_ends t ending s =
    let gone : Made = all_end t ending (forgets t s) in
    goes_then s.streams s.drawn gone (λ s. quietly (mark_all s)) (goes_all_end t ending (forgets t s))
    (record { rows = go_on_same gone.state.streams; drawn_is = refl; told = All-nil (IsFrom gone.state.streams) })
