-- What a client's row has to do with what the entries say of it.
use Rattle.std.proofs.Common.{ℕ, ◌≡◌, ◌≤◌, Bool, true, false, cond, List, [], ◌∷◌, ◌++◌, length, drop, Option, Some, None, refl, sym, ◌∙◌}
use Rattle.std.proofs.Common.{ap, subst}
use Rattle.std.proofs.Common.{eqb, inl, inr}
use Rattle.std.specs.Prelude.{◌&&◌, not, option_and_then}
use Rattle.adb_outside.specs.Framing.{Cut}
use Rattle.adb_wire.specs.Cutting.{cut_packets}
use Rattle.adb_wire.specs.declared.packets.Packet.{Packet}
use Rattle.adb_wire.specs.declared.format.PacketFault.{PacketFault}
use Rattle.adb_wire.specs.declared.format.PacketFormat.{PacketFormat}
use Rattle.adb_client.specs.declared.phase.Phase.{Phase}
use Rattle.adb_client.specs.declared.phase.Phase.TheVariants.{Asking, Binding, Closing}
use Rattle.adb_client.specs.declared.about.Want.{Want}
use Rattle.adb_history.specs.Rows.{Client, Link, State, to_client, to_link}
use Rattle.adb_history.specs.Events.{owed_to}
use Rattle.adb_history.specs.Asking.{Asked}
use Rattle.adb_history.specs.Handing.{lists_first, left_in, hands, client_left, takes_of, puts_to}
use Rattle.adb_history.specs.Packets.{treat_all, faulty, with_rest, receives_cut, receives_on}
use Rattle.adb_history.specs.Machine.{History}
use Rattle.adb_history.specs.Bytes.{has_joined, has_ended}
use Rattle.adb_history.specs.Book.{book, asked, still_asks}
use Rattle.adb_history.specs.Tied.{bytes_asked}
use Rattle.adb_history.proofs.Growing.{RowStep, row_then, ClientStays, StaysAsking, StaysBinding, AreWithin}
use Rattle.adb_history.proofs.GrowingPackets.{keeps_lists_first, keeps_client_left}
use Rattle.adb_history.proofs.LinkChanges.{hears_all, changes_faulty}
use Rattle.adb_history.proofs.Asked.{Unused}
use Rattle.adb_history.proofs.Waiting.{is_waiting, PhaseStep, WaitStep, NoneWaits}

-- ---- what the entries say of a client
-- whether a next request of it is read, what it asked, the bytes of its requests and past them, and the forward that it wants
pub record Said : Type 0 where
  pub asking : Bool
  pub asked : Asked
  pub input : List ℕ
  pub waits : Option Want

abbrev pub said : ℕ → History → Said
said c h = record {
  asking = has_joined c h && not (has_ended c h) && still_asks (asked c h);
  asked = asked c h;
  input = bytes_asked c h;
  waits = (book h).waits c;
}

-- ---- what its row says
abbrev pub asks_in : Phase → Bool
asks_in Asking = true
asks_in _ = false

abbrev pub asks_now : Option Client → Bool
asks_now None = false
asks_now (Some a) = asks_in a.about.phase

abbrev pub wants_in : Phase → Option Want → Option Want
wants_in Binding want = want
wants_in _ want = None

abbrev pub wants_now : Option Client → Option Want
wants_now None = None
wants_now (Some a) = wants_in a.about.phase a.about.want

-- a client that asks has unread what it asked past its whole requests, and selected what these say
pub record SameAsked (r : Said) (a : Client) : Type 0 where
  pub rest : a.held ≡ r.asked.rest
  pub selected : a.about.selected ≡ r.asked.selected
  pub unused : Unused r.input r.asked

-- a client asks and waits as the entries say
pub record IsAs (o : Option Client) (r : Said) : Type 0 where
  pub asks : asks_now o ≡ r.asking
  pub waits : wants_now o ≡ r.waits
  pub same : (a : Client) → o ≡ Some a → a.about.phase ≡ Asking → SameAsked r a

-- ---- rules that leave it
-- what it has unread and selected stays, and the forward that it waits for
pub record Holds (a b : Client) (told : List ℕ) : Type 0 where
  pub asks : b.about.phase ≡ Asking → StaysAsking a b
  pub binds : b.about.phase ≡ Binding → StaysBinding a b

pub holds : (o p : Option Client) (t : List ℕ) → RowStep ClientStays o p t → RowStep Holds o p []
holds None None t h = tt
holds None (Some b) t h = absurd h
holds (Some a) None t h = tt
holds (Some a) (Some b) t h = record { asks = h.asks; binds = h.binds }

pub holds_same : (o : Option Client) → RowStep Holds o o []
holds_same None = tt
holds_same (Some a) =
    record {
      asks = λ e. record { phase = e; held = refl; selected = refl };
      binds =
          λ e. record { phase = e; want = refl };
    }

pub holds_then : (o p q : Option Client) → RowStep Holds o p [] → RowStep Holds p q [] → RowStep Holds o q []
holds_then o p q h i = row_then (record {
  first = Holds;
  next = Holds;
  both = Holds;
  follows = λ a b c t u h i. record {
    asks = λ e. let later = i.asks e in let before = h.asks later.phase in
        record { phase = before.phase; held = later.held ∙ before.held; selected = later.selected ∙ before.selected };
    binds = λ e. let later = i.binds e in let before = h.binds later.phase
        in record { phase = before.phase; want = later.want ∙ before.want };
  };
}) o p q [] [] h i

asks_not : (phase : Phase) → is_waiting phase ≡ false → asks_in phase ≡ false
asks_not Asking e = e
asks_not _ e = refl

wants_not : (phase : Phase) (want : Option Want) → is_waiting phase ≡ false → wants_in phase want ≡ None
wants_not Binding want e = let clash : true ≡ false = e in cc
wants_not _ want e = refl

wants_same : (phase : Phase) (want next : Option Want) → (phase ≡ Binding → next ≡ want) → wants_in phase next ≡ wants_in phase want
wants_same Binding want next e = e refl
wants_same _ want next e = refl

-- a client that waits no more
pub idle_is : (o : Option Client) (r : Said) → NoneWaits o → r.asking ≡ false → r.waits ≡ None → IsAs o r
idle_is None r none asking waits = record { asks = sym asking; waits = sym waits; same = λ a e f. let clash : None ≡ Some a = e in cc }
idle_is (Some a) r none asking waits = record {
  asks = asks_not a.about.phase (none a refl) ∙ sym asking;
  waits = wants_not a.about.phase a.about.want (none a refl) ∙ sym waits;
  same = λ b e f. let clash : true ≡ false = sym (ap is_waiting f) ∙ none b e in cc;
}

pub is_stays : (o p : Option Client) (r : Said) → WaitStep o p → RowStep Holds o p [] → IsAs o r → IsAs p r
is_stays None None r w h is = is
is_stays None (Some b) r w h is = absurd w
is_stays (Some a) None r w h is = record {
  asks = sym (asks_not a.about.phase w) ∙ is.asks;
  waits = sym (wants_not a.about.phase a.about.want w) ∙ is.waits;
  same = λ b e f. let clash : None ≡ Some b = e in cc;
}
is_stays (Some a) (Some b) r w h is = go w
  where
    go : PhaseStep a.about.phase b.about.phase → IsAs (Some b) r
    go (inl idle) = record {
      asks = asks_not b.about.phase idle.1 ∙ (sym (asks_not a.about.phase idle.0) ∙ is.asks);
      waits = wants_not b.about.phase b.about.want idle.1 ∙ (sym (wants_not a.about.phase a.about.want idle.0) ∙ is.waits);
      same = λ c e f.
          let same : b ≡ c = let both : Some b ≡ Some c = e in cc in
          let clash : true ≡ false = sym (ap is_waiting (ap (λ (x : Client). x.about.phase) same ∙ f)) ∙ idle.1 in cc;
    }
    go (inr phase) = record {
      asks = ap asks_in phase ∙ is.asks;
      waits = wants_same b.about.phase a.about.want b.about.want (λ e. (h.binds e).want)
          ∙ (ap (λ (x : Phase). wants_in x a.about.want) phase ∙ is.waits);
      same = λ c e f.
          let same : b ≡ c = let both : Some b ≡ Some c = e in cc in
          let stays = h.asks (ap (λ (x : Client). x.about.phase) same ∙ f) in
          let before = is.same a refl stays.phase in
          subst (λ (x : Client). SameAsked r x) same
          (record { rest = stays.held ∙ before.rest; selected = stays.selected ∙ before.selected; unused = before.unused });
    }

-- ---- receive, and hand-outs
module _ (came plugged : ℕ) where
  holds_cut : (t : ℕ) (c : Cut PacketFormat Packet PacketFault) (s : State) → t ≤ plugged → AreWithin came plugged s.streams → (k : ℕ)
      → RowStep Holds (s.clients k) ((receives_cut t c s).state.clients k) []
  holds_cut t c s le all k =
      let rested = to_link t (with_rest c.rest) s in
      let m = treat_all t c.given rested in
      let first = hears_all came plugged t c.given rested le all in
      let fault = faulty t c.fault m.state in
      let second = changes_faulty came plugged (m.state.links t) t c.fault m.state (first.streams all) in
      holds_then (s.clients k) (m.state.clients k) (fault.state.clients k)
      (holds (s.clients k) (m.state.clients k) (owed_to k m.told) (first.clients k))
      (holds (m.state.clients k) (fault.state.clients k) (owed_to k fault.told) (second.clients k))

  pub holds_receives : (o : Option Link) (t : ℕ) (bytes : List ℕ) (s : State) → t ≤ plugged → AreWithin came plugged s.streams → (k : ℕ)
      → RowStep Holds (s.clients k) ((receives_on o t bytes s).state.clients k) []
  holds_receives None t bytes s le all k = holds_same (s.clients k)
  holds_receives (Some link) t bytes s le all k = holds_cut t (cut_packets (record { sums = link.sums }) (link.rest ++ bytes)) s le all k

  holds_left : (phase : Phase) (due : List ℕ) (a : Client) → RowStep Holds (Some a) (left_in phase due a) []
  holds_left Closing [] a = tt
  holds_left Closing (b ∷ due) a =
      record {
        asks = λ e. let clash : Closing ≡ Asking = e in cc;
        binds = λ e. let clash : Closing ≡ Binding =
            e in cc;
      }
  holds_left _ due a =
      record {
        asks = λ e. record { phase = e; held = refl; selected = refl };
        binds =
            λ e. record { phase = e; want = refl };
      }

  holds_hands : (c n : ℕ) (s : State) (k : ℕ) → RowStep Holds (s.clients k) ((to_client c (hands n) s).clients k) []
  holds_hands c n s k = go (eqb c k) (s.clients k)
    where
      go : (here : Bool) (o : Option Client) → RowStep Holds o (cond here (option_and_then (hands n) o) o) []
      go true None = tt
      go true (Some a) = holds_left a.about.phase (drop n a.due) a
      go false o = holds_same o

  holds_takes : (c n : ℕ) (o : Option Client) (s : State) → AreWithin came plugged s.streams → (k : ℕ)
      → RowStep Holds (s.clients k) ((takes_of c n o s).state.clients k) []
  holds_takes c n None s all k = holds_same (s.clients k)
  holds_takes c n (Some client) s all k =
      let next = to_client c (hands n) s in
      let m = client_left client.about.phase (length (drop n client.due)) next in
      let keeps = keeps_client_left came plugged client.about.phase (length (drop n client.due)) next all in
      holds_then (s.clients k) (next.clients k) (m.state.clients k) (holds_hands c n s k)
      (holds (next.clients k) (m.state.clients k) (owed_to k m.told) (keeps.clients k))

  pub holds_puts : (c n : ℕ) (o : Option Client) (s : State) → c ≤ came → AreWithin came plugged s.streams → (k : ℕ)
      → RowStep Holds (s.clients k) ((puts_to o c n s).state.clients k) []
  holds_puts c n None s le all k = holds_same (s.clients k)
  holds_puts c n (Some client) s le all k =
      let m = lists_first c client.due client s in
      let keeps = keeps_lists_first came plugged c client.due client s le in
      holds_then (s.clients k) (m.state.clients k) ((takes_of c n (m.state.clients c) m.state).state.clients k)
      (holds (s.clients k) (m.state.clients k) (owed_to k m.told) (keeps.clients k))
      (holds_takes c n (m.state.clients c) m.state (keeps.streams all) k)
