-- The births of a history, and what holds of a stream that is born.
use Rattle.adb_stream.specs.Stream.{new_stream}
use Rattle.adb_stream.specs.Flow.{new_flow}
use Rattle.adb_history.specs.Rows.{Client}
use Rattle.adb_history.specs.Events.{Event, due_to_client, due_to_link, ended, owed_to}
use Rattle.adb_history.specs.Links.{credit_word}
use Rattle.adb_history.specs.Streams.{stream_ids}
use Rattle.adb_history.specs.Births.{births_at, births, born, since, opening_in, told_to, joined, handed_to, remote_in, is_okay, Birth}
use Rattle.adb_history.specs.Births.{told_after, is_wrte}
use Rattle.adb_history.specs.Fifo.{HasBirths}
use Rattle.adb_history.specs.Order.{IsOfBorn}
use Rattle.adb_history.proofs.Births.{told_of_born}
use Rattle.adb_wire.specs.declared.command.Command.{Command}
use Rattle.adb_wire.specs.declared.command.Command.TheVariants.{Cnxn, Open, Okay, Wrte, Clse, Auth, Stls}
use Rattle.adb_wire.specs.declared.packets.Packet.{Packet}
use Rattle.std.proofs.Math.Seq.{drop-length}
use Rattle.std.proofs.lemmas.List.Elements.{All-head, All-tail}
use Rattle.std.proofs.lemmas.Bool.Decides.{nat_tests}
use Rattle.std.specs.Prelude.{All, unwrap_or, nat_lt, slice_get, nat_eq, min}
use Rattle.adb_laws_causes.proofs.Silent.{IsSilent, AreSilent, tally_silent, Tally}
use Rattle.adb_laws_causes.proofs.StreamSteps.{Ruled}
use Rattle.adb_laws_causes.proofs.Unchanged.{handed_is}
use Rattle.std.proofs.Common.{◌≡◌, ◌≢◌, ◌≤◌, ◌<◌, ◌+◌, ℕ, zero, suc, Bool, true, false, cond, ◌&&◌, List, [], ◌∷◌, ◌++◌, length, drop, Some}
use Rattle.std.proofs.Common.{None}
use Rattle.std.proofs.Common.{refl, sym, ap, ◌∙◌, arith}
use Rattle.std.proofs.lemmas.Bool.{ne_eqb}
use Rattle.adb_capture.specs.declared.entry.Entry.{Entry}
use Rattle.adb_history.specs.Machine.{rule, History, state, told, IsLegal}
use Rattle.adb_history.specs.Bytes.{bytes_read, bytes_received, brought}
use Rattle.adb_history.specs.Lives.{output_of}
use Rattle.adb_history.specs.Causes.{given_to, okays_after, okays_behind}
use Rattle.adb_laws_causes.specs.Flows.{FlowIs, waiting, start_of}
use Rattle.adb_wire.specs.Cutting.{framed}

-- ---- births
slice_seam : (xs ys : List Birth) → slice_get (xs ++ ys) (length xs) ≡ slice_get ys 0
slice_seam [] ys = refl
slice_seam (x ∷ xs) ys = slice_seam xs ys

slice_front : (xs ys : List Birth) (k : ℕ) (b : Birth) → slice_get xs k ≡ Some b → slice_get (xs ++ ys) k ≡ Some b
slice_front [] ys k b is = absurd (none k is)
  where
    none : (k : ℕ) → slice_get [] k ≡ Some b → ⊥
    none zero e = let clash : None ≡ Some b = e in cc
    none (suc k) e = let clash : None ≡ Some b = e in cc
slice_front (x ∷ xs) ys zero b is = is
slice_front (x ∷ xs) ys (suc k) b is = slice_front xs ys k b is

-- a stream that was born stays so
pub born_stays : (l : ℕ) (e : Entry) (older : History) (b : Birth) → born l older ≡ Some b → born l (e ∷ older) ≡ Some b
born_stays zero e older b is = is
born_stays (suc k) e older b is = go (nat_lt k stream_ids) is
  where
    go : (c : Bool) → cond c (slice_get (births older) k) None ≡ Some b
        → cond c (slice_get (births older ++ births_at e older) k) None ≡ Some b
    go true f = slice_front (births older) (births_at e older) k b f
    go false f = f

-- the next stream is born by this entry
pub born_new : (k : ℕ) (e : Entry) (older : History) (b : Birth) → HasBirths older → (state older).drawn ≡ k
    → born (suc k) (e ∷ older) ≡ Some b
    → slice_get (births_at e older) 0 ≡ Some b
born_new k e older b has drawn is = go (nat_lt k stream_ids) refl is
  where
    below : nat_lt k stream_ids ≡ true → k < stream_ids
    below f = grind (arith, nat_tests)

    last : (a n : ℕ) → k ≡ min a n → k < n → a ≡ k
    last a n f g = omega (arith, f, g)

    go : (c : Bool) → nat_lt k stream_ids ≡ c → cond c (slice_get (births older ++ births_at e older) k) None ≡ Some b
        → slice_get (births_at e older) 0 ≡ Some b
    go false f g = absurd (let clash : None ≡ Some b = g in cc)
    go true f g =
        let size : length (births older) ≡ k = last (length (births older)) stream_ids (sym drawn ∙ has.drawn) (below f) in
        sym (slice_seam (births older) (births_at e older)) ∙ (ap (slice_get (births older ++ births_at e older)) size ∙ g)

-- ---- nothing was told of a stream before its birth
silent_packet : (l drawn : ℕ) (p : Packet) → drawn < l → (p.command ≢ Cnxn → p.arg0 ≤ drawn) → IsSilent l p
silent_packet l drawn p above within = go p.command refl
  where
    off : p.command ≢ Cnxn → nat_eq p.arg0 l ≡ false
    off not_cnxn = ne_eqb p.arg0 l (λ same. omega (arith, above, within not_cnxn, same))

    other : p.command ≢ Cnxn → IsSilent l p
    other not_cnxn = record {
      write = ap (λ b. is_wrte p.command && b) (off not_cnxn) ∙ and_none (is_wrte p.command);
      credit = ap (λ b. cond (is_okay p.command && b) (unwrap_or (credit_word p.payload) 0) 0) (off not_cnxn)
          ∙ ap (λ b. cond b (unwrap_or (credit_word p.payload) 0) 0) (and_none (is_okay p.command));
    }
      where
        and_none : (a : Bool) → (a && false) ≡ false
        and_none true = refl
        and_none false = refl

    go : (command : Command) → p.command ≡ command → IsSilent l p
    go Cnxn is = record {
      write = ap (λ c. is_wrte c && nat_eq p.arg0 l) is;
      credit = ap (λ c. cond (is_okay c && nat_eq p.arg0 l) (unwrap_or (credit_word p.payload) 0) 0) is;
    }
    go Open is = other (λ c. let clash : Open ≡ Cnxn = sym is ∙ c in cc)
    go Okay is = other (λ c. let clash : Okay ≡ Cnxn = sym is ∙ c in cc)
    go Wrte is = other (λ c. let clash : Wrte ≡ Cnxn = sym is ∙ c in cc)
    go Clse is = other (λ c. let clash : Clse ≡ Cnxn = sym is ∙ c in cc)
    go Auth is = other (λ c. let clash : Auth ≡ Cnxn = sym is ∙ c in cc)
    go Stls is = other (λ c. let clash : Stls ≡ Cnxn = sym is ∙ c in cc)

silent_born : (l drawn : ℕ) (w : List Event) → drawn < l → All (IsOfBorn drawn) w → AreSilent l w
silent_born l drawn [] above all = tt
silent_born l drawn (due_to_client client bytes ∷ w) above all =
    silent_born l drawn w above (All-tail (IsOfBorn drawn) (due_to_client client bytes) w all)
silent_born l drawn (ended stream ending ∷ w) above all = silent_born l drawn w above
    (All-tail (IsOfBorn drawn) (ended stream ending) w all)
silent_born l drawn (due_to_link link p check ∷ w) above all = (
  silent_packet l drawn p above (All-head (IsOfBorn drawn) (due_to_link link p check) w all),
  silent_born l drawn w above (All-tail (IsOfBorn drawn) (due_to_link link p check) w all),
)

-- ---- a stream that is born
-- what the rule of an entry leaves of a stream that is born by it, and of its client
pub record Newborn (e : Entry) (older : History) (l : ℕ) (b : Birth) : Type 0 where
  pub client : Client
  pub is : (rule e (state older)).state.streams l ≡ Some (new_stream l b.client b.link (new_flow b.credit))
  pub here : (rule e (state older)).state.clients b.client ≡ Some client
  pub silent : AreSilent l (rule e (state older)).told
  pub output : length (output_of b.client older) + length (owed_to b.client (rule e (state older)).told) ≡ start_of b (e ∷ older)
  pub forwarded : client.about.forwarded ≡ b.forwarded
  pub input : client.about.ended ≡ false
  pub before : b.packets_before ≡ length (brought b.link older)
  pub received : bytes_received b.link (e ∷ older) ≡ bytes_received b.link older
  pub head : b.head ≤ length (bytes_read b.client (e ∷ older))
  pub held : client.held ≡ drop b.head (bytes_read b.client (e ∷ older))
  pub above : (state older).drawn < l

pub newborn_ruled : (e : Entry) (older : History) (l : ℕ) (b : Birth) → IsLegal (e ∷ older) → Newborn e older l b → Ruled e older l b
newborn_ruled e older l b legal n = record {
  row = new_stream l b.client b.link (new_flow b.credit);
  client = n.client;
  after = record {
    credits = 0;
    tally = tally_silent l b.link (rule e (state older)).told n.silent;
    before = omega (arith, n.before, same_len);
    waits = λ nil packets. ap (λ ps. opening_in l (ps ++ packets)) none_since;
    forwarded = n.forwarded;
    flow = flow b.credit;
    output = omega (arith, n.output);
    head = n.head;
    up = ap (λ w. w ++ n.client.held) none.bytes ∙ n.held;
    writes = λ one. omega (arith, none.count);
    exact = λ one timely. omega (arith, no_okays, idle b.credit);
    closed = λ ended. absurd (let clash : false ≡ true = sym n.input ∙ ended in cc);
  };
  is = n.is;
  here = n.here;
  alive = refl;
  of = refl;
  link = refl;
}
  where
    same_len : length (brought b.link (e ∷ older)) ≡ length (brought b.link older)
    same_len = ap (λ bytes. length (framed bytes).given) n.received

    none : Tally l b.link (told older) [] 0 0
    none = tally_silent l b.link (told older) (silent_born l (state older).drawn (told older) n.above (told_of_born older legal.0))

    none_since : since b (e ∷ older) ≡ []
    none_since =
        ap (λ bytes. drop b.packets_before (framed bytes).given) n.received
        ∙ (ap (λ i. drop i (brought b.link older)) n.before ∙ drop-length (brought b.link older))

    no_okays : okays_after l b (e ∷ older) ≡ 0
    no_okays = ap (λ ps. okays_behind l (opening_in l ps)) none_since

    idle : (credit : Bool) → waiting (new_flow credit) ≡ 0
    idle true = refl
    idle false = refl

    written : length (joined (told_to l b (e ∷ older))) ≡ 0
    written = ap (λ ps. length (joined (told_after l (opening_in l ps)))) none_since

    handed : length (handed_to l b (e ∷ older)) ≡ 0
    handed = handed_is l b (e ∷ older) 0 (ap (λ ps. remote_in (opening_in l ps)) none_since)

    flow : (credit : Bool) → FlowIs (new_flow credit) credit (length (joined (told_to l b (e ∷ older))))
        (length (handed_to l b (e ∷ older)))
        (given_to l b older + 0)
    flow true = (refl, omega (arith, written, none.given))
    flow false = (refl, omega (arith, written, handed))
