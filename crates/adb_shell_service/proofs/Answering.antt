-- What a service answers to its input.
use Rattle.std.specs.Prelude.{ℕ, ◌≡◌, ◌||◌, cond, Bool, true, false, List, [], ◌∷◌, ◌++◌, length, Option, Some, None, is_some, is_none}
use Rattle.std.specs.Prelude.{refl}
use Rattle.std.proofs.Common.{◌∙◌, ap, sym, subst, arith}
use Rattle.std.specs.Io.{StartsWith}
use Rattle.std.proofs.lemmas.Bool.{true≢false}
use Rattle.std.proofs.lemmas.List.{append-nil, append_assoc}
use Rattle.std.proofs.Transfers.{starts_with_of_append}
use Rattle.adb_outside.specs.Framing.{Takes}
use Rattle.adb_outside.proofs.FramingLaws.{cut_piece, fault_stays}
use Rattle.adb_shell.specs.declared.packet.ShellPacket.{ShellPacket}
use Rattle.adb_shell.specs.declared.packet.ShellFault.{ShellFault}
use Rattle.adb_shell.specs.Packets.{Reading, front, packet_of, past, start, cut_from, packets_in, fault_in, StandsFor}
use Rattle.adb_shell.specs.Framed.{packets_are_framed}
use Rattle.adb_files.specs.Service.{TellsUpTo, TellsFront}
use Rattle.adb_shell_service.specs.Service.{Answer, Opening, Held, then_answered, packet_answer, input_answer, reads_input, command_answer}
use Rattle.adb_shell_service.specs.Service.{shell_answer}
use Rattle.adb_shell_service.specs.Service.{IsReading, Reads, HasAnswered, Answers, AnswersGiven}

-- an answer that goes on, and one that ends
pub then_open : (a more : Answer) → a.ended ≡ false → then_answered a more ≡ record { bytes = a.bytes ++ more.bytes; ended = more.ended }
then_open a more e = ap (λ t. cond t a (record { bytes = a.bytes ++ more.bytes; ended = more.ended })) e

pub then_over : (a more : Answer) → a.ended ≡ true → then_answered a more ≡ a
then_over a more e = ap (λ t. cond t a (record { bytes = a.bytes ++ more.bytes; ended = more.ended })) e

-- packets behind others, where those go on
pub input_append : (ps qs : List ShellPacket) (f : Option ShellFault) → (input_answer ps None).ended ≡ false
    → input_answer (ps ++ qs) f
    ≡ record {
      bytes = (input_answer ps None).bytes ++ (input_answer qs f).bytes;
      ended =
          (input_answer qs f).ended;
    }
input_append [] qs f on = refl
input_append (p ∷ ps) qs f on = go (packet_answer p).ended refl (input_append ps qs f)
  where
    go : (t : Bool) → (packet_answer p).ended ≡ t
        → ((input_answer ps None).ended ≡ false → input_answer (ps ++ qs) f
        ≡ record { bytes = (input_answer ps None).bytes ++ (input_answer qs f).bytes; ended = (input_answer qs f).ended })
        → input_answer (p ∷ ps ++ qs) f
        ≡ record { bytes = (input_answer (p ∷ ps) None).bytes ++ (input_answer qs f).bytes; ended = (input_answer qs f).ended }
    go true is behind =
        absurd (true≢false
        (sym is ∙ (sym (ap (λ (r : Answer). r.ended) (then_over (packet_answer p) (input_answer ps None) is))
        ∙ on)))
    go false is behind =
        let first = then_open (packet_answer p) (input_answer ps None) is in
        let rest = behind (sym (ap (λ (r : Answer). r.ended) first) ∙ on) in
        then_open (packet_answer p) (input_answer (ps ++ qs) f) is
        ∙ (ap (λ (r : Answer). record { bytes = (packet_answer p).bytes ++ r.bytes; ended = r.ended }) rest
        ∙ ap (λ (bytes : List ℕ). record { bytes = bytes; ended = (input_answer qs f).ended })
        (sym (append_assoc (packet_answer p).bytes (input_answer ps None).bytes (input_answer qs f).bytes)
        ∙ ap (λ (r : Answer). r.bytes ++ (input_answer qs f).bytes) (sym first)))

-- packets behind the end of the input
pub input_over : (ps qs : List ShellPacket) (f g : Option ShellFault) → (input_answer ps None).ended ≡ true
    → input_answer (ps ++ qs) f ≡ input_answer ps g
input_over [] qs f g over = absurd (true≢false (sym over))
input_over (p ∷ ps) qs f g over = go (packet_answer p).ended refl (input_over ps qs f g)
  where
    go : (t : Bool) → (packet_answer p).ended ≡ t → ((input_answer ps None).ended ≡ true → input_answer (ps ++ qs) f ≡ input_answer ps g)
        → input_answer (p ∷ ps ++ qs) f ≡ input_answer (p ∷ ps) g
    go true is behind = then_over (packet_answer p) (input_answer (ps ++ qs) f) is
        ∙ sym (then_over (packet_answer p) (input_answer ps g) is)
    go false is behind =
        let rest = behind (sym (ap (λ (r : Answer). r.ended) (then_open (packet_answer p) (input_answer ps None) is)) ∙ over) in
        ap (then_answered (packet_answer p)) rest

-- a fault adds the end alone
pub with_fault : (ps : List ShellPacket) (f : Option ShellFault)
    → input_answer ps f ≡ record { bytes = (input_answer ps None).bytes; ended = (input_answer ps None).ended || is_some f }
with_fault [] None = refl
with_fault [] (Some f) = refl
with_fault (p ∷ ps) f = go (packet_answer p).ended refl (with_fault ps f)
  where
    go : (t : Bool) → (packet_answer p).ended ≡ t
        → input_answer ps f ≡ record { bytes = (input_answer ps None).bytes; ended = (input_answer ps None).ended || is_some f }
        → input_answer (p ∷ ps) f
        ≡ record {
          bytes = (input_answer (p ∷ ps) None).bytes;
          ended =
              (input_answer (p ∷ ps) None).ended || is_some f;
        }
    go true is behind =
        let over = then_over (packet_answer p) (input_answer ps None) is in
        then_over (packet_answer p) (input_answer ps f) is
        ∙ (ap (λ t. record { bytes = (packet_answer p).bytes; ended = t }) (is ∙ ap (λ t. t || is_some f) (sym is))
        ∙ ap (λ (r : Answer). record { bytes = r.bytes; ended = r.ended || is_some f }) (sym over))
    go false is behind =
        let on = then_open (packet_answer p) (input_answer ps None) is in
        then_open (packet_answer p) (input_answer ps f) is
        ∙ (ap (λ (r : Answer). record { bytes = (packet_answer p).bytes ++ r.bytes; ended = r.ended }) behind
        ∙ ap (λ (r : Answer). record { bytes = r.bytes; ended = r.ended || is_some f }) (sym on))

-- more bytes have the packets of those before, and further ones
record Grows (fed piece : List ℕ) : Type 0 where
  pub further : List ShellPacket
  pub is : packets_in (fed ++ piece) ≡ packets_in fed ++ further

grows : (fed piece : List ℕ) → fault_in fed ≡ None → Grows fed piece
grows fed piece sound =
    let more = cut_piece front packet_of past packets_are_framed (length fed) start fed piece (omega arith) sound in
    let c = cut_from start fed in
    record { further = (cut_from c.reading (c.rest ++ piece)).given; is = ap (λ (d : Reading). d.given) more }

-- where input goes on, no fault is in it
sound_input : (ps : List ShellPacket) (f : Option ShellFault) → (input_answer ps f).ended ≡ false → f ≡ None
sound_input ps None on = refl
sound_input ps (Some f) on = absurd
    (true≢false (sym (bool_or_true (input_answer ps None).ended) ∙ (sym (ap (λ (a : Answer). a.ended) (with_fault ps (Some f))) ∙ on)))
  where
    bool_or_true : (b : Bool) → (b || true) ≡ true
    bool_or_true true = refl
    bool_or_true false = refl

-- the answer to input, where the service reads it
pub answer_reading : (opening : Opening) (fed : List ℕ) → reads_input opening ≡ true
    → shell_answer opening fed ≡ input_answer (packets_in fed) (fault_in fed)
answer_reading opening fed reads = ap (λ t. cond t (input_answer (packets_in fed) (fault_in fed)) (command_answer opening)) reads

pub answer_command : (opening : Opening) (fed : List ℕ) → reads_input opening ≡ false → shell_answer opening fed ≡ command_answer opening
answer_command opening fed reads = ap (λ t. cond t (input_answer (packets_in fed) (fault_in fed)) (command_answer opening)) reads

-- a service that has ended answers no more
pub ended_stays : (opening : Opening) (fed piece : List ℕ) → (shell_answer opening fed).ended ≡ true
    → shell_answer opening (fed ++ piece) ≡ shell_answer opening fed
ended_stays opening fed piece over = go (reads_input opening) refl
  where
    by_fault : (f : Option ShellFault) → fault_in fed ≡ f → reads_input opening ≡ true
        → input_answer (packets_in (fed ++ piece)) (fault_in (fed ++ piece)) ≡ input_answer (packets_in fed) (fault_in fed)
    by_fault (Some fault) is reads =
        let stays = fault_stays front packet_of past packets_are_framed (length fed) start fed piece fault (omega arith) is in
        ap (λ (ps : List ShellPacket). input_answer ps (fault_in (fed ++ piece))) stays.0
        ∙ ap (input_answer (packets_in fed)) (stays.1 ∙ sym is)
    by_fault None is reads =
        let more = grows fed piece is in
        let ends : (input_answer (packets_in fed) None).ended ≡ true =
        ap (λ (f : Option ShellFault). (input_answer (packets_in fed) f).ended) (sym is)
        ∙ (ap (λ (a : Answer). a.ended) (sym (answer_reading opening fed reads)) ∙ over) in
        ap (λ (ps : List ShellPacket). input_answer ps (fault_in (fed ++ piece))) more.is
        ∙ input_over (packets_in fed) more.further (fault_in (fed ++ piece)) (fault_in fed) ends

    go : (t : Bool) → reads_input opening ≡ t → shell_answer opening (fed ++ piece) ≡ shell_answer opening fed
    go false reads = answer_command opening (fed ++ piece) reads ∙ sym (answer_command opening fed reads)
    go true reads = answer_reading opening (fed ++ piece) reads
        ∙ (by_fault (fault_in fed) refl reads ∙ sym (answer_reading opening fed reads))

-- a service that goes on: no fault was in its input, and its packets do not end it
record GoesOn (opening : Opening) (fed : List ℕ) : Type 0 where
  pub sound : fault_in fed ≡ None
  pub on : (input_answer (packets_in fed) None).ended ≡ false
  pub answer : shell_answer opening fed ≡ input_answer (packets_in fed) None

goes_on : {reading : Reading} (opening : Opening) (fed : List ℕ) → IsReading opening fed reading → GoesOn opening fed
goes_on opening fed is =
    let answer = answer_reading opening fed is.input in
    let sound = sound_input (packets_in fed) (fault_in fed) (sym (ap (λ (a : Answer). a.ended) answer) ∙ is.goes_on) in
    let plain : shell_answer opening fed ≡ input_answer (packets_in fed) None = answer ∙ ap (input_answer (packets_in fed)) sound in
    record { sound = sound; on = sym (ap (λ (a : Answer). a.ended) plain) ∙ is.goes_on; answer = plain }

-- what a service that goes on answers to more packets
further_answer : {reading : Reading} (opening : Opening) (fed piece : List ℕ) (qs : List ShellPacket) → IsReading opening fed reading
    → packets_in (fed ++ piece) ≡ packets_in fed ++ qs
    → shell_answer opening (fed ++ piece)
    ≡ record {
      bytes = (shell_answer opening fed).bytes ++ (input_answer qs None).bytes;
      ended = (input_answer qs None).ended || is_some
          (fault_in (fed ++ piece));
    }
further_answer opening fed piece qs is packets =
    let on = goes_on opening fed is in
    let f = fault_in (fed ++ piece) in
    answer_reading opening (fed ++ piece) is.input
    ∙ (ap (λ (ps : List ShellPacket). input_answer ps f) packets
    ∙ (input_append (packets_in fed) qs f on.on
    ∙ (ap (λ (a : Answer). record { bytes = (input_answer (packets_in fed) None).bytes ++ a.bytes; ended = a.ended }) (with_fault qs f)
    ∙ ap (λ (a : Answer).
    record {
      bytes = a.bytes ++ (input_answer qs None).bytes;
      ended =
          (input_answer qs None).ended || is_some f;
    }) (sym on.answer))))

-- the answer to more bytes begins with that to those before
pub answer_grows : (opening : Opening) (fed piece : List ℕ) (input : Option Reading) → Reads opening fed input
    → StartsWith (shell_answer opening (fed ++ piece)).bytes (shell_answer opening fed).bytes
answer_grows opening fed piece None over =
    starts_with_of_append (shell_answer opening (fed ++ piece)).bytes (shell_answer opening fed).bytes []
    (ap (λ (a : Answer). a.bytes) (ended_stays opening fed piece over) ∙ sym (append-nil (shell_answer opening fed).bytes))
answer_grows opening fed piece (Some reading) is =
    let more = grows fed piece (goes_on opening fed is).sound in
    starts_with_of_append (shell_answer opening (fed ++ piece)).bytes (shell_answer opening fed).bytes
    (input_answer more.further None).bytes
    (ap (λ (a : Answer). a.bytes) (further_answer opening fed piece more.further is more.is))

-- A moment of the loop: the packets that the reader still has, and the answer that is held.
pub record Moment : Type 0 where
  pub reader : Reading
  pub out : List ℕ

-- Of the packets that a reader gave these are left, and the others were answered.
pub record Answering (first now : Moment) : Type 0 where
  pub told : TellsUpTo (input_answer first.reader.given None).bytes (input_answer now.reader.given None).bytes first.out now.out
  pub ends : (input_answer first.reader.given None).ended ≡ (input_answer now.reader.given None).ended
  pub same : now.reader ≡ record first.reader { given = now.reader.given }

-- the next packet is taken and answered
pub record Turn (now next : Moment) (packet : ShellPacket) : Type 0 where
  pub is : now.reader ≡ record next.reader { given = packet ∷ next.reader.given }
  pub push : next.out ≡ now.out ++ (packet_answer packet).bytes

-- A piece came to a service that goes on: how it was opened, what it was fed and what was taken of its answer before,
-- the answer that it held, and
-- its reader before and behind the piece.
pub record Came : Type 0 where
  pub opening : Opening
  pub fed : List ℕ
  pub piece : List ℕ
  pub taken : List ℕ
  pub out : List ℕ
  pub old : Reading
  pub read : Reading
  pub is : IsReading opening fed old
  pub takes : Takes front packet_of past old piece read
  pub told : taken ++ out ≡ (shell_answer opening fed).bytes

-- it was answered
pub piece_answered : {new : Reading} {out : List ℕ} {closed : Bool} (came : Came) → AnswersGiven came.read new came.out out closed
    → Answers came.opening (came.fed ++ came.piece) came.taken new out (closed || is_some came.read.fault)
piece_answered {new} {out} {closed} came given =
    let fed = came.fed ++ came.piece in
    let stands = came.takes.stands start came.fed (packets_in came.fed) came.is.stands in
    let answer = further_answer came.opening came.fed came.piece came.read.given came.is stands.frames in
    let bytes = (input_answer came.read.given None).bytes in
    let ends : (closed || is_some came.read.fault) ≡ (shell_answer came.opening fed).ended =
    sym (ap (λ (a : Answer). a.ended) answer
    ∙ (ap (λ t. t || is_some (fault_in fed)) (sym given.ends) ∙ ap (λ (f : Option ShellFault). closed || is_some f) stands.fault)) in
    record {
      reads = λ on. record {
        input = came.is.input;
        goes_on = sym ends ∙ on;
        stands = subst (StandsFor fed (packets_in fed)) (sym (given.empty (left_false closed (is_some came.read.fault) on))) (record {
          frames = sym (append-nil (packets_in fed));
          fault = stands.fault;
          open_rest = stands.open_rest;
        });
      };
      given_out =
          ap (λ (o : List ℕ). came.taken ++ o) given.answer
          ∙ (sym (append_assoc came.taken came.out bytes)
          ∙ (ap (λ (o : List ℕ). o ++ bytes) came.told ∙ sym (ap (λ (a : Answer). a.bytes) answer)));
      ends = ends;
    }
  where
    left_false : (a b : Bool) → (a || b) ≡ false → a ≡ false
    left_false true b e = e
    left_false false b e = refl

-- memory ran out at it
pub piece_front : {out : List ℕ} (came : Came) → TellsFront (input_answer came.read.given None).bytes came.out out
    → StartsWith (shell_answer came.opening (came.fed ++ came.piece)).bytes (came.taken ++ out)
piece_front {out} came front_told =
    let old = (shell_answer came.opening came.fed).bytes in
    let stands = came.takes.stands start came.fed (packets_in came.fed) came.is.stands in
    let answer = further_answer came.opening came.fed came.piece came.read.given came.is stands.frames in
    let said = front_told.1.said in
    let behind : came.taken ++ out ≡ old ++ said = ap (λ (o : List ℕ). came.taken ++ o) front_told.1.behind
    ∙ (sym (append_assoc came.taken came.out said) ∙ ap (λ (o : List ℕ). o ++ said) came.told) in
    starts_with_of_append (shell_answer came.opening (came.fed ++ came.piece)).bytes (came.taken ++ out) front_told.0
    (ap (λ (a : Answer). a.bytes) answer
    ∙ (ap (λ (o : List ℕ). old ++ o) front_told.1.within
    ∙ (sym (append_assoc old said front_told.0) ∙ ap (λ (o : List ℕ). o ++ front_told.0) (sym behind))))

-- what a service that goes on holds of a piece
pub goes_on_with : {reading : Reading} {out : List ℕ} (opening : Opening) (fed taken : List ℕ) (spent : Bool)
    → Answers opening fed taken reading out false
    → HasAnswered opening fed taken (record { input = Some reading; out = out; spent = spent })
goes_on_with opening fed taken spent all = record { reads = all.reads refl; given_out = all.given_out; ends = all.ends }

-- a service that has ended drops a piece
pub ended_drops : (opening : Opening) (fed piece taken : List ℕ) (service : Held) → service.input ≡ None
    → HasAnswered opening fed taken service
    → HasAnswered opening (fed ++ piece) taken service
ended_drops opening fed piece taken service none has =
    let over : (shell_answer opening fed).ended ≡ true = sym has.ends ∙ ap is_none none in
    let stays = ended_stays opening fed piece over in
    record {
      reads = subst (Reads opening (fed ++ piece)) (sym none) (ap (λ (a : Answer). a.ended) stays ∙ over);
      given_out = has.given_out ∙ ap (λ (a : Answer). a.bytes) (sym stays);
      ends = has.ends ∙ ap (λ (a : Answer). a.ended) (sym stays);
    }
