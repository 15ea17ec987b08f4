-- Which packet of the host draws an id of the device.
use Rattle.std.specs.Prelude.{ℕ, ◌+◌, ◌≡◌, ◌≢◌, ◌<◌, ◌≤◌, ◌==◌, ◌||◌, if◌then◌else◌, Bool, true, false, List, [], ◌∷◌, ◌++◌, fold, length}
use Rattle.std.specs.Prelude.{is_some}
use Rattle.std.specs.Prelude.{Option, Some, None}
use Rattle.std.proofs.Common.{refl, sym, ◌∙◌, ap, arith, ◌⊎◌, inl, inr}
use Rattle.std.proofs.lemmas.Bool.{cases_lt, eq-eqb}
use Rattle.adb_outside.specs.Tables.{at}
use Rattle.adb_wire.specs.Format.{is_cnxn}
use Rattle.adb_wire.specs.declared.command.Command.{Command}
use Rattle.adb_wire.specs.declared.command.Command.TheVariants as commands
use Rattle.adb_wire.specs.declared.packets.Packet.{Packet}
use Rattle.adb_device_streams.specs.Asked.{Kind}
use Rattle.adb_device_streams.specs.Service.{came_over, files_fed, files_opened}
use Rattle.adb_device_streams.specs.Stream.{Row, opened, row_took, row_acked, row_written, is_done, okay, opening_word}
use Rattle.adb_device_streams.specs.Link.{credit_word_in, link_of}
use Rattle.adb_device_streams.specs.declared.link.Link.{Link}
use Rattle.adb_daemon.specs.Serving.{Serving, with_sum, owing, granted, sent_ack, sent_writes, settled_as, settled, named, closable}
use Rattle.adb_daemon.specs.Serving.{is_taken}
use Rattle.adb_daemon.specs.Serving.{kind_for, credit_of, open_as, on_open, written_to, acked_to, closed_to, served}
use Rattle.adb_daemon.specs.Device.{Device, Setting, step, treated, linked_to, served_on}

-- settling draws no id
pub settled_drawn : (link : Link) (q : ℕ) (row : Row) (s : Serving) → (settled link q row s).drawn ≡ s.drawn
settled_drawn link q row s = go (is_done (row_written link.most row))
  where
    go : (b : Bool) → (settled_as b link q (row_written link.most row) (owing (sent_writes link q row) s)).drawn ≡ s.drawn
    go true = refl
    go false = refl

-- what is served when an OPEN of a known service is told its id, and the stream that settles then
abbrev pub begun_by : Link → Packet → Kind → Serving → Serving
begun_by link p kind s =
    record (granted (s.drawn + 1) (credit_of link p)
    (owing (with_sum link.sums (okay (s.drawn + 1) p.arg0 (opening_word (credit_of link p))) ∷ []) s)) {
      drawn = s.drawn + 1;
      files = files_opened kind s.files;
    }

abbrev pub drawn_for : Link → Packet → Kind → Serving → Serving
drawn_for link p kind s = settled link (s.drawn + 1) (opened p.arg0 kind s.files (credit_of link p)) (begun_by link p kind s)

-- An OPEN draws the next id of a device.
pub record IsDrawing (d : Device) (p : Packet) (new : Serving) : Type 0 where
  pub link : Link
  pub kind : Kind
  pub sound : d.refused ≡ false
  pub linked : d.link ≡ Some link
  pub command : p.command ≡ commands.Open
  pub some : p.arg0 ≢ 0
  pub free : is_taken p.arg0 d.serving.rows ≡ false
  pub known : kind_for d.serving.drawn p ≡ Some kind
  pub makes : new ≡ drawn_for link p kind d.serving

-- any other packet draws none
pub draws : (setting : Setting) (d : Device) (p : Packet)
    → ((step setting d p).serving.drawn ≡ d.serving.drawn) ⊎ IsDrawing d p (step setting d p).serving
unfolding step
draws setting d p = go d.refused refl
  where
    Goal : Serving → Type 0
    Goal new = (new.drawn ≡ d.serving.drawn) ⊎ IsDrawing d p new

    opening : d.refused ≡ false → (link : Link) → d.link ≡ Some link → p.command ≡ commands.Open → Goal (on_open link p d.serving)
    opening sound link linked command = tests (p.arg0 == 0) refl (is_taken p.arg0 d.serving.rows) refl
      where
        kinds : p.arg0 ≢ 0 → is_taken p.arg0 d.serving.rows ≡ false → (kind : Option Kind) → kind_for d.serving.drawn p ≡ kind
            → Goal (open_as link p kind d.serving)
        kinds some free None known = inl refl
        kinds some free (Some kind) known =
            inr (record {
              link = link;
              kind = kind;
              sound = sound;
              linked = linked;
              command = command;
              some = some;
              free = free;
              known = known;
              makes = refl;
            })

        tests : (a : Bool) → (p.arg0 == 0) ≡ a → (b : Bool) → is_taken p.arg0 d.serving.rows ≡ b
            → Goal (if a || b then d.serving else open_as link p (kind_for d.serving.drawn p) d.serving)
        tests true e b f = inl refl
        tests false e true f = inl refl
        tests false e false f =
            kinds (λ zeroth. let clash : true ≡ false = sym (eq-eqb p.arg0 0 zeroth) ∙ e in cc) f (kind_for d.serving.drawn p) refl

    write : (link : Link) (found : Option Row) → Goal (written_to link p found d.serving)
    write link None = inl refl
    write link (Some row) =
        inl (settled_drawn link p.arg1 (row_took (came_over p.payload d.serving.files) row)
        (record (owing (sent_ack link p.arg1 row.host row.flow (length p.payload)) d.serving) {
          files = files_fed row.kind row.past (came_over p.payload d.serving.files);
        }))

    okay_to : (link : Link) (found : Option Row) → Goal (acked_to link p found d.serving)
    okay_to link None = inl refl
    okay_to link (Some row) =
        inl (settled_drawn link p.arg1 (row_acked (credit_word_in p.payload) row) (granted p.arg1 (credit_word_in p.payload) d.serving))

    close : (found : Option Row) → Goal (closed_to p.arg1 found d.serving)
    close None = inl refl
    close (Some row) = inl refl

    on_link : d.refused ≡ false → (link : Link) → d.link ≡ Some link → (c : Command) → p.command ≡ c → Goal (served c link p d.serving)
    on_link sound link linked commands.Open c = opening sound link linked c
    on_link sound link linked commands.Wrte c = write link (named p.arg0 (at p.arg1 d.serving.rows))
    on_link sound link linked commands.Okay c = okay_to link (named p.arg0 (at p.arg1 d.serving.rows))
    on_link sound link linked commands.Clse c = close (closable p.arg0 (at p.arg1 d.serving.rows))
    on_link sound link linked _ c = inl refl

    linked_now : (link : Option Link) → Goal (linked_to link d).serving
    linked_now None = inl refl
    linked_now (Some link) = inl refl

    on : d.refused ≡ false → (link : Option Link) → d.link ≡ link → Goal (served_on link p d).serving
    on sound None is = inl refl
    on sound (Some link) is = on_link sound link is p.command refl

    by : d.refused ≡ false → (b : Bool)
        → Goal (if b then linked_to (link_of setting.most setting.credit p) d else served_on d.link p d).serving
    by sound true = linked_now (link_of setting.most setting.credit p)
    by sound false = on sound d.link refl

    go : (b : Bool) → d.refused ≡ b → Goal (if b then d else treated setting p d).serving
    go true e = inl refl
    go false e = by e (is_cnxn p.command)

-- ---- links
-- a link stays, and so does a refusal
pub link_stays : (setting : Setting) (d : Device) (p : Packet) → is_some d.link ≡ true → is_some (step setting d p).link ≡ true
unfolding step
link_stays setting d p some = go d.refused
  where
    linked : (link : Option Link) → is_some (linked_to link d).link ≡ true
    linked None = some
    linked (Some link) = refl

    on : (link : Option Link) → is_some (served_on link p d).link ≡ true
    on None = some
    on (Some link) = some

    by : (b : Bool) → is_some (if b then linked_to (link_of setting.most setting.credit p) d else served_on d.link p d).link ≡ true
    by true = linked (link_of setting.most setting.credit p)
    by false = on d.link

    go : (b : Bool) → is_some (if b then d else treated setting p d).link ≡ true
    go true = some
    go false = by (is_cnxn p.command)

-- ---- the packet that drew an id
-- An id was drawn by an OPEN among these packets.
pub record Found (setting : Setting) (own : ℕ) (d : Device) (packets : List Packet) : Type 0 where
  pub front : List Packet
  pub asking : Packet
  pub rest : List Packet
  pub is : front ++ asking ∷ rest ≡ packets
  pub number : (fold (step setting) d front).serving.drawn + 1 ≡ own
  pub drawing : IsDrawing (fold (step setting) d front) asking (step setting (fold (step setting) d front) asking).serving

pub found : (setting : Setting) (own : ℕ) (packets : List Packet) (d : Device) → d.serving.drawn < own
    → own ≤ (fold (step setting) d packets).serving.drawn → Found setting own d packets
found setting own [] d below reached = absurd (omega (arith, below, reached))
found setting own (p ∷ packets) d below reached =
    go (cases_lt (step setting d p).serving.drawn own) (λ lt. found setting own packets (step setting d p) lt reached)
  where
    here : own ≤ (step setting d p).serving.drawn
        → ((step setting d p).serving.drawn ≡ d.serving.drawn) ⊎ IsDrawing d p (step setting d p).serving
        → Found setting own d (p ∷ packets)
    here le (inl same) = absurd (omega (arith, le, same, below))
    here le (inr x) =
        let next : (step setting d p).serving.drawn ≡ d.serving.drawn + 1 =
        ap (λ (s : Serving). s.drawn) x.makes
        ∙ settled_drawn x.link (d.serving.drawn + 1) (opened p.arg0 x.kind d.serving.files (credit_of x.link p))
        (begun_by x.link p x.kind d.serving) in
        record { front = []; asking = p; rest = packets; is = refl; number = omega (arith, next, le, below); drawing = x }

    go : ((step setting d p).serving.drawn < own) ⊎ (own ≤ (step setting d p).serving.drawn)
        → ((step setting d p).serving.drawn < own → Found setting own (step setting d p) packets) → Found setting own d (p ∷ packets)
    go (inl lt) later =
        let f = later lt in
        record {
          front = p ∷ f.front;
          asking = f.asking;
          rest = f.rest;
          is = ap (λ (ps : List Packet). p ∷ ps) f.is;
          number = f.number;
          drawing = f.drawing;
        }
    go (inr le) later = here le (draws setting d p)
