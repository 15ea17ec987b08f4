-- What is joined to a model device in bytes is paired with it in packets.
use Rattle.std.specs.Prelude.{ℕ, ◌^◌, ◌≡◌, ◌<◌, Bool, true, false, cond, All, List, [], ◌∷◌, ◌++◌, Some}
use Rattle.std.proofs.Common.{◌∙◌, ap, arith, inl, inr}
use Rattle.std.proofs.lemmas.List.Elements.{All-weaker, All-contains}
use Rattle.adb_wire.specs.Cutting.{framed}
use Rattle.adb_wire.specs.declared.command.Command.{Command}
use Rattle.adb_wire.specs.declared.command.Command.TheVariants.{Cnxn, Open, Okay, Wrte, Clse, Auth, Stls}
use Rattle.adb_wire.specs.declared.packets.Packet.{Packet}
use Rattle.adb_stream.specs.declared.credit.TheConstants.{CREDIT_WINDOW}
use Rattle.adb_history.specs.Links.{server_cnxn}
use Rattle.adb_history.specs.Machine.{History, IsLegal}
use Rattle.adb_history.specs.Bytes.{bytes_received, brought, sent}
use Rattle.adb_history.specs.Births.{Birth, born}
use Rattle.adb_history.specs.Fifo.{IsOf, IsOwn}
use Rattle.adb_laws_births.specs.Brought.{ComeFirst, framed_front, HasWords, brought_words, remote_word}
use Rattle.adb_laws_births.proofs.Sent.{born_below}
use Rattle.adb_laws_births.proofs.Crossing.{no_crossing}
use Rattle.adb_daemon.specs.Device.{Setting}
use Rattle.adb_laws_model_device.specs.Paired.{IsPaired}
use Rattle.adb_laws_model_device.specs.Joined.{IsJoined}
use Rattle.adb_laws_model_device.specs.Owed.{packets_owed}
use Rattle.adb_laws_model_device.proofs.Bytes.{framed_owed}

-- a window is a word
window_word : (credit : Bool) → cond credit CREDIT_WINDOW 0 < 2 ^ 32
window_word true = omega arith
window_word false = omega arith

-- both ids of a packet that the server sent are words
module _ (h : History) (legal : IsLegal h) (p : Packet) where
  id_word : (b : Birth) → born p.arg0 h ≡ Some b → p.arg0 < 2 ^ 32
  id_word b is = omega (arith, born_below p.arg0 h b is)

  of_words : IsOf h 1 p → HasWords p
  of_words x = record { arg0 = id_word x.birth x.is; arg1 = omega (arith, x.remote, remote_word p.arg0 x.birth h legal) }

  own_words : (command : Command) → IsOwn h 1 command p → HasWords p
  own_words Cnxn is =
      let version : p.arg0 ≡ server_cnxn.arg0 = ap (λ (q : Packet). q.arg0) is in
      let maxdata : p.arg1 ≡ server_cnxn.arg1 = ap (λ (q : Packet). q.arg1) is in
      record { arg0 = omega (arith, version); arg1 = omega (arith, maxdata) }
  own_words Open x =
      let window : p.arg1 ≡ cond x.birth.credit CREDIT_WINDOW 0 = ap (λ (q : Packet). q.arg1) x.packet in
      record { arg0 = id_word x.birth x.is; arg1 = omega (arith, window, window_word x.birth.credit) }
  own_words Okay x = of_words x
  own_words Wrte x = of_words x
  own_words Clse (inl x) = of_words x
  own_words Clse (inr x) =
      let words : HasWords x.asked = All-contains HasWords (brought 1 h) x.asked (brought_words 1 h legal) x.came in
      let none : p.arg0 ≡ 0 = ap (λ (q : Packet). q.arg0) x.packet in
      record { arg0 = omega (arith, none); arg1 = omega (arith, x.id, words.arg0) }
  own_words Auth x = absurd x
  own_words Stls x = absurd x

-- and so of all that it sent
pub sent_words : (h : History) → IsLegal h → All HasWords (sent 1 h)
sent_words h legal =
    All-weaker (λ p. IsOwn h 1 p.command p) HasWords (λ p own. own_words h legal p p.command own) (sent 1 h) ((no_crossing h legal).own 1)

-- so a front of the bytes that a device owes is a front of its packets
pub paired : (setting : Setting) → setting.most < 2 ^ 32 → (h : History) → IsLegal h → IsJoined setting h
    → IsPaired (packets_owed setting) h
paired setting word [] legal joined = tt
paired setting word (e ∷ older) legal joined =
    let front : ComeFirst (brought 1 (e ∷ older)) (framed (bytes_received 1 (e ∷ older) ++ joined.1.0)).given =
    framed_front (bytes_received 1 (e ∷ older)) joined.1.0 in (
      paired setting word older legal.0 joined.0,
      (
        front.0,
        front.1 ∙ (ap (λ (x : List ℕ). (framed x).given) joined.1.1 ∙ framed_owed setting word (sent 1 older) (sent_words older legal.0)),
      ),
    )
