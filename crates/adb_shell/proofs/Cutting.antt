-- A cut is right, and what is right is the cut.
use Rattle.std.proofs.Common.{ℕ, ◌^◌, ◌≡◌, ◌<◌, List, ◌∷◌, ◌++◌, length, refl, sym, ◌∙◌, ap, append_assoc}
use Rattle.std.specs.List.{flat_map}
use Rattle.std.proofs.lemmas.List.Elements.{All-nil, All-cons, All-head, All-tail}
use Rattle.adb_outside.specs.declared.framer.Front.TheVariants.{Whole}
use Rattle.adb_outside.specs.Bytes.{AreBytes}
use Rattle.adb_outside.proofs.CutLaws.{rest_within, Frames, right_cut, only_cut}
use Rattle.adb_shell.specs.declared.format.ShellFormat.{ShellFormat}
use Rattle.adb_shell.specs.Packets.{IsPacket, SpellsPackets, IsCut, Reading, spelling, front, packet_of, past, cut_from}
use Rattle.adb_shell.specs.Framed.{packets_are_framed}
use Rattle.adb_shell.proofs.Spelled.{spelled_again, spelled_front}

-- a packet before others
packet_before : (from : ShellFormat) (frame more : List ℕ) (c : Reading) → front from frame ≡ Whole (length frame) → AreBytes frame
    → SpellsPackets (past from frame) more c.given c.reading c.rest
    → SpellsPackets from (frame ++ more) (packet_of from frame ∷ c.given) c.reading c.rest
packet_before from frame more c found are others =
    let packet = packet_of from frame in
    let again = spelled_again from frame are found in
    record {
      whole =
          ap (λ b. b ++ more) (sym again.0)
          ∙ (ap (λ b. spelling packet ++ b) others.whole ∙ sym (append_assoc (spelling packet) (flat_map spelling c.given) c.rest));
      each = All-cons IsPacket packet c.given again.1 others.each;
    }

packets : Frames front packet_of past packets_are_framed (λ format. format.offset) SpellsPackets
packets = record {
  moves = λ s frame. refl;
  within = λ s bytes c is. rest_within spelling c.given c.rest bytes is.whole;
  none = λ s bytes. record { whole = refl; each = All-nil IsPacket };
  one = packet_before;
  all_left = λ s bytes c none is. sym (is.whole ∙ ap (λ given. flat_map spelling given ++ c.rest) none);
  reads_on = λ s bytes c none is same. ap (λ (k : ℕ). record { offset = k }) same;
  begins = λ s bytes packet c is. record {
    frame = spelling packet;
    more = flat_map spelling c.given ++ c.rest;
    whole = is.whole ∙ append_assoc (spelling packet) (flat_map spelling c.given) c.rest;
    found = spelled_front s packet (All-head IsPacket packet c.given is.each);
    holds = refl;
    behind = record { whole = refl; each = All-tail IsPacket packet c.given is.each };
  };
}

pub cut_right : (from : ShellFormat) (bytes : List ℕ) → from.offset < 2 ^ 64 → AreBytes bytes → IsCut from bytes (cut_from from bytes)
cut_right = right_cut front packet_of past packets_are_framed (λ format. format.offset) SpellsPackets packets

pub cut_only : (from : ShellFormat) (bytes : List ℕ) (c : Reading) → from.offset < 2 ^ 64 → IsCut from bytes c → c ≡ cut_from from bytes
cut_only = only_cut front packet_of past packets_are_framed (λ format. format.offset) SpellsPackets packets
