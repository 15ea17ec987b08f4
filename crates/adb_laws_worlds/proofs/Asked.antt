-- Each id that a device drew was drawn by an OPEN of its host.
use Rattle.std.specs.Prelude.{ℕ, ◌+◌, ◌≡◌, Bool, false, true, is_some, List, [], ◌∷◌, ◌++◌, Option}
use Rattle.std.specs.Prelude.{◌-◌, ◌^◌, ◌==◌, if◌then◌else◌, None, Some}
use Rattle.adb_daemon.specs.Serving.{kind_for}
use Rattle.adb_device_streams.specs.Asked.{Kind, service_of, name_of}
use Rattle.std.proofs.Common.{refl, sym, ◌∙◌, ap, subst, arith, append_assoc}
use Rattle.adb_wire.specs.declared.packets.Packet.{Packet}
use Rattle.adb_history.specs.Fifo.{okays_in}
use Rattle.adb_laws_births.specs.Brought.{ComeFirst}
use Rattle.adb_device_streams.specs.Stream.{Row, opened, row_written, is_done, okay, opening_word}
use Rattle.adb_device_streams.specs.declared.link.Link.{Link}
use Rattle.adb_daemon.specs.Serving.{Serving, Sent, with_sum, owing, sent_writes, sent_close, settled_as, settled, credit_of}
use Rattle.adb_daemon.specs.Device.{Device, Setting, step, first_device, device_behind}
use Rattle.adb_daemon.specs.Streams.{over_at}
use Rattle.adb_daemon.proofs.Machines.{step_more}
use Rattle.adb_laws_model_device.specs.Opened.{WasOpened}
use Rattle.adb_laws_model_device.specs.Owed.{packets_of_sent, packets_owed}
use Rattle.adb_laws_model_device.proofs.Opened.{answers_opens}
use Rattle.adb_laws_model_device.proofs.Owing.{sent_append, owed_grows}
use Rattle.adb_laws_worlds.specs.Asked.{IsDrawnBy, WasAsked, AllWereAsked}
use Rattle.adb_laws_worlds.proofs.Drawing.{link_stays, Found, found, begun_by}
use Rattle.adb_laws_worlds.proofs.Order.{behind_orderly}
use Rattle.adb_laws_worlds.proofs.Taken.{behind_untaken, IsTaking, IsSoFar, all_taking, first_taking}

-- an OPEN that gets a service asks for it
known_by : (drawn : ℕ) (p : Packet) (kind : Kind) → kind_for drawn p ≡ Some kind → service_of (name_of p.payload) ≡ Some kind
known_by drawn p kind is = go (drawn == 2 ^ 32 - 1) is
  where
    go : (b : Bool) → (if b then None else service_of (name_of p.payload)) ≡ Some kind → service_of (name_of p.payload) ≡ Some kind
    go true e = let clash : None ≡ Some kind = e in cc
    go false e = e

-- settling lets more become due
settled_more : (link : Link) (q : ℕ) (row : Row) (s : Serving) → (more : List Sent) × ((settled link q row s).made ≡ s.made ++ more)
settled_more link q row s = go (is_done (row_written link.most row))
  where
    go : (b : Bool)
        → (more : List Sent)
        × ((settled_as b link q (row_written link.most row) (owing (sent_writes link q row) s)).made ≡ s.made ++ more)
    go false = (sent_writes link q row, refl)
    go true = (
      sent_writes link q row ++ sent_close true link q (row_written link.most row).host,
      append_assoc s.made (sent_writes link q row) (sent_close true link q (row_written link.most row).host),
    )

module _ (setting : Setting) (own : ℕ) (packets : List Packet) (sound : (device_behind setting packets).refused ≡ false)
    (f : Found setting own (first_device setting) packets) where
  drawn_by : IsDrawnBy setting own packets
  drawn_by = record {
    front = f.front;
    asking = f.asking;
    rest = f.rest;
    is = f.is;
    command = f.drawing.command;
    some = f.drawing.some;
    number = f.number;
    link = f.drawing.link;
    linked = f.drawing.linked;
    kind = f.drawing.kind;
    known = known_by (device_behind setting f.front).serving.drawn f.asking f.drawing.kind f.drawing.known;
  }

  -- ---- OKAYs
  -- none of its id has ended
  fresh : over_at own (device_behind setting f.front).serving.ended ≡ None
  fresh =
      let number = f.number in
      ((behind_orderly own (omega (arith, number)) setting f.front).fresh (omega (arith, number))).1

  -- the stream that the OPEN drew
  begins : IsSoFar own f.asking.arg0 f.drawing.link.credit 0 (step setting (device_behind setting f.front) f.asking)
  begins = record {
    link = link_stays setting (device_behind setting f.front) f.asking (ap (λ (l : Option Link). is_some l) f.drawing.linked);
    serving = λ s.
        subst (λ (x : Serving). IsTaking own f.asking.arg0 f.drawing.link.credit 0 x) (sym f.drawing.makes)
        (first_taking own f.asking.arg0 f.drawing.link.credit f.drawing.link f.asking f.drawing.kind (device_behind setting f.front).serving
        (behind_untaken own setting f.front) fresh f.number refl refl);
  }

  -- and all packets behind it
  so_far : IsSoFar own f.asking.arg0 f.drawing.link.credit (0 + okays_in f.asking.arg0 own f.rest) (device_behind setting packets)
  so_far =
      subst (λ (d : Device). IsSoFar own f.asking.arg0 f.drawing.link.credit (0 + okays_in f.asking.arg0 own f.rest) d)
      (sym (step_more setting (first_device setting) f.front (f.asking ∷ f.rest)) ∙ ap (device_behind setting) f.is)
      (all_taking own f.asking.arg0 f.drawing.link.credit setting 0 f.rest (step setting (device_behind setting f.front) f.asking) begins)

  takes : IsTaking own f.asking.arg0 f.drawing.link.credit (okays_in f.asking.arg0 own f.rest) (device_behind setting packets).serving
  takes =
      subst (λ (k : ℕ). IsTaking own f.asking.arg0 f.drawing.link.credit k (device_behind setting packets).serving)
      (let e : 0 + okays_in f.asking.arg0 own f.rest ≡ okays_in f.asking.arg0 own f.rest = omega arith in e) (so_far.serving sound)

  -- ---- what is owed
  pub opened_so : WasOpened own f.asking.arg0 f.drawing.kind (device_behind setting f.front).serving.files
      (device_behind setting packets).serving
  opened_so =
      subst (λ (n : ℕ). WasOpened n f.asking.arg0 f.drawing.kind (device_behind setting f.front).serving.files
      (device_behind setting packets).serving) f.number
      (subst (λ (ps : List Packet).
      WasOpened ((device_behind setting f.front).serving.drawn + 1) f.asking.arg0 f.drawing.kind
      (device_behind setting f.front).serving.files
      (device_behind setting ps).serving)
      f.is
      (answers_opens setting f.front f.asking f.rest f.drawing.link f.drawing.kind f.drawing.sound f.drawing.linked
      f.drawing.command f.drawing.some
      f.drawing.free f.drawing.known))

  -- the OKAY is owed first
  greets_first : (more : List Packet) × (packets_owed setting packets
      ≡ packets_owed setting f.front ++ okay own f.asking.arg0 (opening_word (credit_of f.drawing.link f.asking)) ∷ more)
  greets_first =
      let begun : Serving = begun_by f.drawing.link f.asking f.drawing.kind (device_behind setting f.front).serving in
      let row : Row = opened f.asking.arg0 f.drawing.kind (device_behind setting f.front).serving.files
      (credit_of f.drawing.link f.asking) in
      let settles = settled_more f.drawing.link ((device_behind setting f.front).serving.drawn + 1) row begun in
      let later : ComeFirst (packets_owed setting (f.front ++ f.asking ∷ []))
      (packets_owed setting ((f.front ++ f.asking ∷ []) ++ f.rest)) =
      owed_grows setting (f.front ++ f.asking ∷ []) f.rest in
      let one : Packet = okay ((device_behind setting f.front).serving.drawn + 1) f.asking.arg0
      (opening_word (credit_of f.drawing.link f.asking)) in
      let at_once : packets_owed setting (f.front ++ f.asking ∷ [])
      ≡ (packets_owed setting f.front ++ one ∷ []) ++ packets_of_sent settles.0 =
      ap (λ (d : Device). packets_of_sent d.serving.made) (step_more setting (first_device setting) f.front (f.asking ∷ []))
      ∙ (ap (λ (x : Serving). packets_of_sent x.made) f.drawing.makes
      ∙ (ap packets_of_sent settles.1
      ∙ (sent_append begun.made settles.0
      ∙ ap (λ (ps : List Packet). ps ++ packets_of_sent settles.0)
      (sent_append (device_behind setting f.front).serving.made (with_sum f.drawing.link.sums one ∷ []))))) in
      let whole : (f.front ++ f.asking ∷ []) ++ f.rest ≡ packets = append_assoc f.front (f.asking ∷ []) f.rest ∙ f.is in (
        packets_of_sent settles.0 ++ later.0,
        sym (ap (packets_owed setting) whole)
            ∙ (sym later.1
            ∙ (ap (λ (ps : List Packet). ps ++ later.0) at_once
            ∙ (ap (λ (n : ℕ).
            ((packets_owed setting f.front ++ okay n f.asking.arg0
            (opening_word (credit_of f.drawing.link f.asking)) ∷ [])
            ++ packets_of_sent settles.0) ++ later.0) f.number
            ∙ (append_assoc (packets_owed setting f.front ++ okay own f.asking.arg0 (opening_word (credit_of f.drawing.link f.asking)) ∷ [])
            (packets_of_sent settles.0) later.0
            ∙ append_assoc (packets_owed setting f.front) (okay own f.asking.arg0 (opening_word (credit_of f.drawing.link f.asking)) ∷ [])
            (packets_of_sent settles.0 ++ later.0))))),
      )

  asked_by : WasAsked setting own packets
  unfolding drawn_by greets_first
  asked_by = record {
    by = drawn_by;
    opened = opened_so;
    word = opening_word (credit_of f.drawing.link f.asking);
    more = greets_first.0;
    first = greets_first.1;
    linked = so_far.link;
    few = takes.few;
    all = λ row is. (takes.lives row is).all;
    credit = λ row is. (takes.lives row is).credit;
    over = λ e is. takes.overs e is;
  }

-- so each id that was drawn was
pub was_asked : (setting : Setting) → AllWereAsked setting
was_asked setting packets own some sound reached =
    asked_by setting own packets sound (found setting own packets (first_device setting) (omega (arith, some)) reached)
