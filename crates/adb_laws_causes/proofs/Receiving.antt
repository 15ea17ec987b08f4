-- The bytes that come on a link, in the words of the history: the packets that they make whole, and their fault.
use Rattle.std.proofs.Common.{◌≡◌, ℕ, true, false, cond, not, ◌&&◌, List, ◌∷◌, ◌++◌, length, drop, Option, Some, None, refl, sym, ap, subst}
use Rattle.std.proofs.Common.{◌∙◌, ◌⊎◌, inl, inr}
use Rattle.std.specs.Prelude.{is_some}
use Rattle.std.specs.Option.{option_or}
use Rattle.std.proofs.Math.Seq.{drop-append_seam}
use Rattle.std.proofs.lemmas.Bool.{eq-eqb}
use Rattle.adb_outside.specs.Tables.{at}
use Rattle.adb_outside.specs.Framing.{joined}
use Rattle.adb_wire.specs.Cutting.{cut_packets, framed}
use Rattle.adb_stream.specs.declared.row.Stream.{Stream}
use Rattle.adb_capture.specs.declared.entry.Entry.TheVariants.{Recv}
use Rattle.adb_history.specs.Rows.{Link, State}
use Rattle.adb_history.specs.Events.{Made, ending_in}
use Rattle.adb_history.specs.declared.ending.Ending.{Ending}
use Rattle.adb_history.specs.declared.ending.Ending.TheVariants.{ClientClosed}
use Rattle.adb_history.specs.Links.{is_connected}
use Rattle.adb_history.specs.Packets.{receives_on, receives}
use Rattle.adb_history.specs.Machine.{ups, History, state, told_at, IsLegal}
use Rattle.adb_history.specs.Bytes.{is_lost, bytes_received, brought}
use Rattle.adb_history.specs.Causes.{brings}
use Rattle.adb_history.proofs.LinkMoves.{all_linked}
use Rattle.adb_history.proofs.OutputEntries.{connected_is}
use Rattle.adb_history.proofs.Received.{ReadTie, framed_piece, received}
use Rattle.adb_laws_causes.proofs.Fates.{FateOf, ending_append}
use Rattle.adb_laws_causes.proofs.StreamFates.{up_all_fate}
use Rattle.adb_laws_causes.proofs.PacketFates.{OfLink, receives_fate}
use Rattle.adb_laws_causes.proofs.RuleFates.{drawn_row}
use Rattle.adb_laws_causes.proofs.Turning.{Here}
use Rattle.adb_laws_causes.proofs.Runs.{alive_told, Cutting, StruckBy, CutRun, cut_run}

-- what the bytes that come on a link are cut to, as the history says it
pub record Brought (t : ℕ) (bytes : List ℕ) (older : History) (link : Link) (c : Cutting) : Type 0 where
  pub is : c ≡ cut_packets (record { sums = link.sums }) (link.rest ++ bytes)
  pub given : brings t (Recv t bytes) older ≡ c.given
  pub all : brought t (Recv t bytes ∷ older) ≡ brought t older ++ c.given
  pub fault : (framed (bytes_received t (Recv t bytes ∷ older))).fault ≡ c.fault
  pub sound : (framed (bytes_received t older)).fault ≡ None

pub brought_cut : (t : ℕ) (bytes : List ℕ) (older : History) (link : Link) → IsLegal older → (state older).links t ≡ Some link
    → Brought t bytes older link (cut_packets (record { sums = link.sums }) (link.rest ++ bytes))
brought_cut t bytes older link legal is =
    let tie = subst (λ (o : Option Link). ReadTie (is_lost t older) o (bytes_received t older)) is ((received older legal).links t) in
    let whole : framed (bytes_received t (Recv t bytes ∷ older)) ≡ joined (framed (bytes_received t older)).given c =
    ap framed (more tie.1) ∙ framed_piece (bytes_received t older) bytes link tie.0 in
    record {
      is = refl;
      given = ap (λ (d : Cutting). drop (length (brought t older)) d.given) whole ∙ drop-append_seam (brought t older) c.given;
      all = ap (λ (d : Cutting). d.given) whole;
      fault = ap (λ (d : Cutting). d.fault) whole;
      sound = tie.0.sound;
    }
  where
    c : Cutting
    c = cut_packets (record { sums = link.sums }) (link.rest ++ bytes)

    more : is_lost t older ≡ false → bytes_received t (Recv t bytes ∷ older) ≡ bytes_received t older ++ bytes
    more lives =
        ap (λ b. cond (b && not (is_lost t older)) (bytes_received t older ++ bytes) (bytes_received t older)) (eq-eqb t t refl)
        ∙ ap (λ b. cond (not b) (bytes_received t older ++ bytes) (bytes_received t older)) lives

-- ---- a stream of the link, at the entry
-- a stream that lives stands on a link that is there
pub record LinkThere (t : ℕ) (s : State) : Type 0 where
  pub link : Link
  pub is : s.links t ≡ Some link

link_there : (o : Option Link) → is_some o ≡ true → (s : State) (t : ℕ) → s.links t ≡ o → LinkThere t s
link_there None e s t is = absurd (let clash : false ≡ true = e in cc)
link_there (Some link) e s t is = record { link = link; is = is }

module _ (t l : ℕ) (x : Stream) (older : History) (legal : IsLegal older)
    (is : ((state older).streams l ≡ Some x) × (x.part.orphan ≡ false) × (x.link ≡ t)) where
  connected : is_connected t (state older).devices ≡ true
  connected = ap (λ n. is_connected n (state older).devices) (sym is.2) ∙ ((all_linked older legal).on l x is.0).connected

  some_link : is_some ((state older).links t) ≡ true
  some_link = (all_linked older legal).rows.linked t ∙ connected_is (at t (state older).devices.rows) connected

  pub here_at : Here t l x (state older)
  here_at = record {
    is = is.0;
    alive = is.1;
    on = is.2;
    live = record {
      connected = connected;
      link = some_link;
      within = drawn_row (state older).drawn l (state older).streams
          (all_linked older legal).owned.rows.streams x is.0;
    };
  }

  pub there_at : LinkThere t (state older)
  there_at = link_there ((state older).links t) some_link (state older) t refl

-- ---- what the entry ends
-- the end of a stream by what its link brings
pub record RecvEnds (t : ℕ) (bytes : List ℕ) (older : History) (l : ℕ) (x : Stream) (ending : Ending) : Type 0 where
  pub link : Link
  pub cut : Cutting
  pub brought : Brought t bytes older link cut
  pub why : StruckBy l x cut ending ⊎ (ending ≡ ClientClosed)

module _ (t l : ℕ) (bytes : List ℕ) (x : Stream) (older : History) (legal : IsLegal (Recv t bytes ∷ older)) where
  -- the stream goes on with what its link brings, or falls
  pub recv_run : (is : ((state older).streams l ≡ Some x) × (x.part.orphan ≡ false) × (x.link ≡ t)) → (link : Link)
      → (state older).links t ≡ Some link
      → CutRun t l x (cut_packets (record { sums = link.sums }) (link.rest ++ bytes)) (receives t bytes (state older))
  recv_run is link there =
      let c = cut_packets (record { sums = link.sums }) (link.rest ++ bytes) in
      subst (λ (o : Option Link). CutRun t l x c (receives_on o t bytes (state older))) (sym there)
      (cut_run t l x (state older) (here_at t l x older legal.0 is) c)

  pub recv_ends : (is : ((state older).streams l ≡ Some x) × (x.part.orphan ≡ false) × (x.link ≡ t)) (ending : Ending)
      → ending_in l (told_at (Recv t bytes) older) ≡ Some ending → RecvEnds t bytes older l x ending
  recv_ends is ending told = record {
    link = there.link;
    cut = c;
    brought = brought_cut t bytes older there.link legal.0 there.is;
    why = go (recv_run is there.link there.is);
  }
    where
      there : LinkThere t (state older)
      there = there_at t l x older legal.0 is

      c : Cutting
      c = cut_packets (record { sums = (there_at t l x older legal.0 is).link.sums }) ((there_at t l x older legal.0 is).link.rest ++ bytes)

      m : Made
      m = receives t bytes (state older)

      all : option_or (ending_in l (receives t bytes (state older)).told)
          (ending_in l (ups (receives t bytes (state older)).state).told) ≡ Some ending
      all = sym (ending_append l m.told (ups m.state).told) ∙ told

      go : CutRun t l x c (receives t bytes (state older)) → StruckBy l x c ending ⊎ (ending ≡ ClientClosed)
      go (inl runs) =
          let none : ending_in l m.told ≡ None =
          alive_told l (OfLink t) (state older) m runs.0.row (receives_fate l t bytes (state older)) (runs.0.is, runs.0.alive) in
          let up : FateOf l (λ client link y. y ≡ ClientClosed) m.state (ups m.state) =
          up_all_fate l (λ client link y. y ≡ ClientClosed) m.state.drawn m.state (λ client link. refl) in
          inr (up.ends ending (sym (ap (λ o. option_or o (ending_in l (ups m.state).told)) none) ∙ all)).why
      go (inr fell) =
          let both : Some fell.ending ≡ Some ending = sym (ap (λ o. option_or o (ending_in l (ups m.state).told)) fell.told) ∙ all in
          let same : fell.ending ≡ ending = cc in
          inl (subst (StruckBy l x c) same fell.why)
