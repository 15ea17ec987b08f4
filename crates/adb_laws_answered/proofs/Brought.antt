-- The packets that a link brought, with more bytes of it, and whether it is broken.
use Rattle.std.proofs.Common.{◌≡◌, ◌≢◌, ℕ, Bool, true, false, cond, not, ◌&&◌, ◌||◌, List, [], ◌∷◌, ◌++◌, length, Option, Some, None, refl}
use Rattle.std.proofs.Common.{sym, ap, ◌∙◌, eqb, arith}
use Rattle.std.proofs.lemmas.Bool.{eq-eqb, ne_eqb}
use Rattle.std.proofs.lemmas.List.{append-nil}
use Rattle.std.specs.List.{list_any}
use Rattle.std.specs.Prelude.{nat_eq, nat_lt, is_none}
use Rattle.adb_banner.specs.Banner.{identity_of}
use Rattle.adb_outside.proofs.FramingLaws.{fault_stays}
use Rattle.adb_wire.specs.Cutting.{framed, cut_packets}
use Rattle.adb_wire.specs.Format.{front_of, packet_of, format_after, is_cnxn}
use Rattle.adb_wire.specs.declared.command.Command.{Command}
use Rattle.adb_wire.specs.declared.command.Command.TheVariants.{Cnxn, Open, Okay, Wrte, Clse, Auth, Stls}
use Rattle.adb_wire.specs.declared.packets.Packet.{Packet}
use Rattle.adb_wire.specs.declared.format.PacketFault.{PacketFault}
use Rattle.adb_wire.specs.FormatLaws.{packets_are_framed}
use Rattle.adb_capture.specs.declared.entry.Entry.TheVariants.{Recv}
use Rattle.adb_history.specs.Rows.{Link}
use Rattle.adb_history.specs.Machine.{History}
use Rattle.adb_history.specs.Bytes.{is_lost, bytes_received, brought}
use Rattle.adb_history.specs.Packets.{least_version, least_maxdata}
use Rattle.adb_history.specs.Book.{is_refused}
use Rattle.adb_history.specs.Births.{is_between, Opening as FirstOkay, opening_by, opening_in}
use Rattle.adb_history.specs.Links.{credit_word}
use Rattle.adb_history.proofs.Received.{ReadsAs, framed_piece}
use Rattle.adb_laws_answered.specs.Shown.{seals_by, sealed_in}
use Rattle.adb_laws_answered.proofs.Openings.{IsPending}

-- ---- more bytes
module _ (t : ℕ) (bytes : List ℕ) (older : History) where
  abbrev before : List ℕ
  before = bytes_received t older

  received_is : (lost : Bool) → is_lost t older ≡ lost → bytes_received t (Recv t bytes ∷ older) ≡ cond (not lost) (before ++ bytes) before
  received_is lost e =
      ap (λ (b : Bool). cond (b && not (is_lost t older)) (before ++ bytes) before) (eq-eqb t t refl)
      ∙ ap (λ (b : Bool). cond (not b) (before ++ bytes) before) e

  -- a link that lives brings what its bytes are cut to
  pub brought_live : (link : Link) → ReadsAs (bytes_received t older) link → is_lost t older ≡ false
      → brought t (Recv t bytes ∷ older) ≡ brought t older ++ (cut_packets (record { sums = link.sums }) (link.rest ++ bytes)).given
  brought_live link reads lost =
      ap (λ (x : List ℕ). (framed x).given) (received_is false lost)
      ∙ ap (λ c. c.given) (framed_piece (bytes_received t older) bytes link reads)

  -- one that was lost, or whose bytes have a fault, brings no more
  pub brought_lost : is_lost t older ≡ true → brought t (Recv t bytes ∷ older) ≡ brought t older
  brought_lost lost = ap (λ (x : List ℕ). (framed x).given) (received_is true lost)

  pub brought_faulty : (fault : PacketFault) → is_lost t older ≡ false → (framed (bytes_received t older)).fault ≡ Some fault
      → brought t (Recv t bytes ∷ older) ≡ brought t older
  brought_faulty fault lost is =
      ap (λ (x : List ℕ). (framed x).given) (received_is false lost)
      ∙ (fault_stays front_of (λ _ frame. packet_of frame) (λ format frame. format_after format (packet_of frame)) packets_are_framed
      (length before) (record { sums = false }) before bytes fault (omega arith) is).0

  -- it brings some more, at most
  pub record BringsMore : Type 0 where
    pub more : List Packet
    pub is : brought t (Recv t bytes ∷ older) ≡ brought t older ++ more

  pub brings_more : BringsMore
  brings_more = go (is_lost t older) refl (framed (bytes_received t older)).fault refl
    where
      link : Link
      link = record { rest = (framed (bytes_received t older)).rest; sums = (framed (bytes_received t older)).reading.sums; due = [] }

      go : (lost : Bool) → is_lost t older ≡ lost → (o : Option PacketFault) → (framed (bytes_received t older)).fault ≡ o → BringsMore
      go true e o f = record { more = []; is = brought_lost e ∙ sym (append-nil (brought t older)) }
      go false e (Some fault) f = record { more = []; is = brought_faulty fault e f ∙ sym (append-nil (brought t older)) }
      go false e None f = record {
        more = (cut_packets (record { sums = (framed (bytes_received t older)).reading.sums })
            ((framed (bytes_received t older)).rest ++ bytes)).given;
        is = brought_live
            (record {
              rest = (framed (bytes_received t older)).rest;
              sums =
                  (framed (bytes_received t older)).reading.sums;
              due = [];
            })
            (record { rest = refl; sums = refl; sound = f }) e;
      }

pub brought_apart : (n t : ℕ) (bytes : List ℕ) (older : History) → n ≢ t → brought t (Recv n bytes ∷ older) ≡ brought t older
brought_apart n t bytes older apart =
    ap (λ (b : Bool).
    (framed (cond (b && not (is_lost t older)) (bytes_received t older ++ bytes)
    (bytes_received t older))).given) (ne_eqb n t apart)

-- ---- a CNXN with which no device is taken seals what is pending
refused_cnxn : (p : Packet) → is_refused p ≡ true → is_cnxn p.command ≡ true
refused_cnxn p e = go (is_cnxn p.command) e
  where
    go : (b : Bool)
        → (b && (nat_lt p.arg0 least_version || nat_lt p.arg1 least_maxdata || is_none (identity_of p.payload)))
        ≡ true → b ≡ true
    go true e = refl
    go false e = e

cnxn_is : (c : Command) → is_cnxn c ≡ true → c ≡ Cnxn
cnxn_is Cnxn e = refl
cnxn_is _ e = absurd (let clash : false ≡ true = e in cc)

module _ (l : ℕ) where
  -- what is pending behind a packet was pending
  pending_tail : (c : Command) (p : Packet) (ps : List Packet) → opening_by c l p ps (opening_in l ps) ≡ None
      → seals_by c l p (sealed_in l ps) ≡ false
      → (c ≢ Cnxn) × IsPending l ps
  pending_tail Okay p ps e f = go (nat_eq p.arg1 l && not (eqb p.arg0 0)) e f
    where
      go : (b : Bool) → cond b (Some (record { remote = p.arg0; word = credit_word p.payload; later = ps })) (opening_in l ps) ≡ None
          → cond b false (sealed_in l ps) ≡ false → (Okay ≢ Cnxn) × IsPending l ps
      go true e f = absurd (some (record { remote = p.arg0; word = credit_word p.payload; later = ps }) e)
        where
          some : (o : FirstOkay) → Some o ≡ None → ⊥
          some o e = cc
      go false e f = ((λ same. let clash : Okay ≡ Cnxn = same in cc), (e, f))
  pending_tail Clse p ps e f = go (is_between 0 l p) e f
    where
      go : (b : Bool) → cond b None (opening_in l ps) ≡ None → cond b true (sealed_in l ps) ≡ false → (Clse ≢ Cnxn) × IsPending l ps
      go true e f = absurd (let clash : true ≡ false = f in cc)
      go false e f = ((λ same. let clash : Clse ≡ Cnxn = same in cc), (e, f))
  pending_tail Cnxn p ps e f = absurd (let clash : true ≡ false = f in cc)
  pending_tail Open p ps e f = ((λ same. let clash : Open ≡ Cnxn = same in cc), (e, f))
  pending_tail Wrte p ps e f = ((λ same. let clash : Wrte ≡ Cnxn = same in cc), (e, f))
  pending_tail Auth p ps e f = ((λ same. let clash : Auth ≡ Cnxn = same in cc), (e, f))
  pending_tail Stls p ps e f = ((λ same. let clash : Stls ≡ Cnxn = same in cc), (e, f))

  pub pending_taken : (ps : List Packet) → IsPending l ps → list_any is_refused ps ≡ false
  pending_taken [] pending = refl
  pending_taken (p ∷ ps) pending =
      let rest = pending_tail p.command p ps pending.0 pending.1 in
      go (is_refused p) refl rest.0 (pending_taken ps rest.1)
    where
      go : (b : Bool) → is_refused p ≡ b → p.command ≢ Cnxn → list_any is_refused ps ≡ false → (b || list_any is_refused ps) ≡ false
      go true e apart h = absurd (apart (cnxn_is p.command (refused_cnxn p e)))
      go false e apart h = h
