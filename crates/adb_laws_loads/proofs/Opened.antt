-- The streams of a load are opened: the device says so right behind the birth, and whatever comes after changes nothing of it.
use Rattle.std.proofs.Common.{ℕ, ◌≡◌, ◌<◌, ◌^◌, true, Bool, cond, List, [], ◌∷◌, ◌++◌, length, drop, Some, None, is_some, refl, sym, ◌∙◌}
use Rattle.std.proofs.Common.{ap, arith}
use Rattle.std.specs.Prelude.{not, ◌&&◌, ◌==◌}
use Rattle.std.proofs.lemmas.Bool.{eq-eqb, ne_eqb}
use Rattle.std.proofs.lemmas.List.{append-nil, drop_at}
use Rattle.adb_wire.specs.declared.packets.Packet.{Packet}
use Rattle.adb_wire.specs.declared.command.Command.TheVariants.{Okay}
use Rattle.adb_capture.specs.declared.entry.Entry.{Entry}
use Rattle.adb_history.specs.Machine.{History}
use Rattle.adb_history.specs.Bytes.{brought}
use Rattle.adb_history.specs.Births.{Birth, opening_in, opening_of}
use Rattle.adb_laws_births.specs.Brought.{opening_grows}
use Rattle.adb_load.specs.declared.act.Act.TheVariants.{Come, Ask, Accept}
use Rattle.adb_load.specs.Acts.{client_of, link_of, remote_of, entry_of}
use Rattle.adb_laws_loads.proofs.Links.{packet_to, on_link, HasBrought, brought_is, act_brings}

-- A stream of a load was opened, by its device's id of it, and these packets came after.
pub record IsOpened (stream : ℕ) (b : Birth) (h : History) : Type 0 where
  pub later : List Packet
  pub is : opening_of (client_of stream) b h ≡ Some (record { remote = remote_of stream; word = None; later = later })

pub opened_some : (stream : ℕ) (b : Birth) (h : History) → IsOpened stream b h → is_some (opening_of (client_of stream) b h) ≡ true
opened_some stream b h opened = ap is_some opened.is

-- ---- it stays
pub opened_stays : (stream : ℕ) (b : Birth) (h : History) (e : Entry) → IsOpened stream b h → IsOpened stream b (e ∷ h)
opened_stays stream b h e opened =
    let grows = opening_grows (client_of stream) b e h
    (record { remote = remote_of stream; word = None; later = opened.later }) opened.is in
    record { later = opened.later ++ grows.0; is = grows.1 }

pub opened_all : (stream : ℕ) (b : Birth) (h new : History) → IsOpened stream b h → IsOpened stream b (new ++ h)
opened_all stream b h [] opened = opened
opened_all stream b h (e ∷ new) opened = opened_stays stream b (new ++ h) e (opened_all stream b h new opened)

-- ---- it comes
-- the acts with which a stream begins, behind a history
abbrev pub begun_on : (stream : ℕ) → History → History
begun_on stream h = entry_of (Accept stream) ∷ entry_of (Ask stream) ∷ entry_of (Come stream) ∷ h

-- A birth is that of a stream behind a history: on the stream's link, after the packets that the link had brought.
pub record IsBornOn (stream : ℕ) (b : Birth) (h : History) : Type 0 where
  pub link : b.link ≡ link_of stream
  pub before : b.packets_before ≡ length (brought (link_of stream) h)

okay_opens : (stream : ℕ)
    → opening_in (client_of stream) (packet_to Okay stream [] ∷ []) ≡ Some (record { remote = remote_of stream; word = None; later = [] })
okay_opens stream =
    ap (λ (test : Bool). cond test (Some (record { remote = remote_of stream; word = None; later = [] })) None)
    (ap (λ (same : Bool). same && not (remote_of stream == 0)) (eq-eqb (client_of stream) (client_of stream) refl)
    ∙ ap not (ne_eqb (remote_of stream) 0 (λ none. omega (arith, none))))

-- the device opens a stream that was born so
pub opened_now : (stream : ℕ) (b : Birth) (packets : List Packet) (h : History) → remote_of stream < 2 ^ 32
    → HasBrought (link_of stream) packets h
    → IsBornOn stream b h → IsOpened stream b (begun_on stream h)
opened_now stream b packets h small has born = record {
  later = [];
  is = ap (λ (t : ℕ). opening_in (client_of stream) (drop b.packets_before (brought t (begun_on stream h)))) born.link
      ∙ (ap (λ (ps : List Packet). opening_in (client_of stream) (drop b.packets_before ps)) brings
      ∙ (ap (opening_in (client_of stream)) (drop_at packets (okay ∷ []) b.packets_before (sym counted)) ∙ okay_opens stream));
}
  where
    t : ℕ
    t = link_of stream

    okay : Packet
    okay = packet_to Okay stream []

    counted : b.packets_before ≡ length packets
    counted = born.before ∙ ap (length {A = Packet}) (brought_is t packets h has)

    asked : HasBrought t ((packets ++ []) ++ []) (entry_of (Ask stream) ∷ entry_of (Come stream) ∷ h)
    asked = act_brings t (packets ++ []) (entry_of (Come stream) ∷ h) (Ask stream) (act_brings t packets h (Come stream) has tt tt) tt tt

    brings : brought t (begun_on stream h) ≡ packets ++ okay ∷ []
    brings =
        brought_is t (((packets ++ []) ++ []) ++ on_link t t okay) (begun_on stream h)
        (act_brings t ((packets ++ []) ++ []) (entry_of (Ask stream) ∷ entry_of (Come stream) ∷ h) (Accept stream) asked tt small)
        ∙ (ap (λ (ps : List Packet). (ps ++ []) ++ on_link t t okay) (append-nil packets)
        ∙ (ap (λ (ps : List Packet). ps ++ on_link t t okay) (append-nil packets)
        ∙ ap (λ (here : Bool). packets ++ cond here (okay ∷ []) []) (eq-eqb t t refl)))
