-- Births of sessions, what the service of a stream alone makes of a text, and what was sent since.
use Rattle.std.specs.Prelude.{ℕ, ◌+◌, ◌≡◌, ◌≤◌, ◌<◌, ◌&&◌, Bool, true, false, cond, is_some, nat_eq, nat_lt, slice_get, zero, suc, All}
use Rattle.std.specs.Prelude.{List, [], ◌∷◌, ◌++◌, length, Option, Some, None}
use Rattle.std.proofs.Common.{refl, sym, ◌∙◌, ap, subst, arith, ◌⊎◌, inl, inr, append_assoc}
use Rattle.std.proofs.lemmas.Bool.{cases_lt, eq-eqb}
use Rattle.std.proofs.lemmas.List.{append-nil}
use Rattle.std.proofs.lemmas.List.Elements.{All-nil, All-cons, All-append, All-head, All-tail}
use Rattle.adb_outside.specs.declared.kinds.Cause.TheVariants.{Eof}
use Rattle.adb_wire.specs.declared.command.Command.{Command}
use Rattle.adb_wire.specs.declared.command.Command.TheVariants.{Cnxn, Open, Okay, Wrte, Clse, Auth, Stls}
use Rattle.adb_wire.specs.declared.packets.Packet.{Packet}
use Rattle.adb_reply.specs.declared.answer.Next.{Next}
use Rattle.adb_reply.specs.declared.answer.Next.TheVariants as next
use Rattle.adb_capture.specs.declared.entry.Entry.TheVariants.{Join, Read, End, Attach, Recv, Put, Send}
use Rattle.adb_files.specs.Entries.{Entry as File}
use Rattle.adb_history.specs.Asking.{Asked, nothing_asked, asks_with}
use Rattle.adb_history.specs.Births.{Birth, birth_by, births, births_at, born, carried_in, count_from, is_open, is_wrte}
use Rattle.adb_history.specs.Book.{asked, newly}
use Rattle.adb_history.specs.Fifo.{IsOf, IsOpenOf, IsOwn}
use Rattle.adb_history.specs.Machine.{History, IsLegal}
use Rattle.adb_history.specs.Streams.{stream_ids}
use Rattle.adb_history.specs.Tied.{came_count}
use Rattle.adb_laws_births.proofs.Single.{births_of}
use Rattle.adb_laws_births.specs.Single.{ByClient, IsBirthOf}
use Rattle.adb_laws_causes.proofs.Newborn.{born_stays}
use Rattle.adb_device_streams.specs.Asked.{Kind}
use Rattle.adb_device_streams.specs.Service.{Came, bytes_in, came_over, files_fed, service_answer}
use Rattle.adb_shell_service.specs.Service.{Answer}
use Rattle.adb_laws_alone.specs.Payloads.{AreEnough, AreOne, ComeInTurn, files_behind}
use Rattle.adb_laws_alone.specs.Alone.{AsksNone, Every}
use Rattle.adb_laws_answers.specs.Answers.{CameOf}
use Rattle.adb_laws_answers.proofs.Asked.{IsBornFor, born_for}
use Rattle.adb_laws_answers.specs.Words.{requests_for}
use Rattle.adb_laws_answers.specs.Model.{model_devices}
use Rattle.adb_laws_answers.specs.Asked.{Opens}
use Rattle.adb_laws_answers.specs.Sessions.{AsksForServices, IsOfSessions}
use Rattle.adb_world.specs.Parts.{Holds}
use Rattle.adb_world.proofs.Counted.{RequestsOpen}

-- ---- births of sessions
get_all : {X : Type 0} (P : X → Type 0) (xs : List X) (k : ℕ) (x : X) → All P xs → slice_get xs k ≡ Some x → P x
get_all P [] k x all is = absurd (let clash : None ≡ Some x = is in cc)
get_all {X} P (y ∷ xs) zero x all is = (let same : y ≡ x = (let both : Some y ≡ Some x = is in cc) in subst P same (All-head P y xs all))
get_all P (y ∷ xs) (suc k) x all is = get_all P xs k x (All-tail P y xs all) is

-- the client of a birth has a number that is not 0
abbrev IsNumbered : Birth → Type 0
IsNumbered b = 0 < b.client

by_client : (c head : ℕ) (older : History) (o : Option Next) → 0 < c → All IsNumbered (birth_by c head older o)
by_client c head older None some = All-nil IsNumbered
by_client c head older (Some (next.Open t service)) some = All-cons IsNumbered _ [] some (All-nil IsNumbered)
by_client c head older (Some next.Close) some = All-nil IsNumbered
by_client c head older (Some (next.Select id)) some = All-nil IsNumbered
by_client c head older (Some (next.Track long)) some = All-nil IsNumbered
by_client c head older (Some (next.Bind t local remote chosen)) some = All-nil IsNumbered
by_client c head older (Some (next.Rebind t local remote)) some = All-nil IsNumbered
by_client c head older (Some (next.Unbind local)) some = All-nil IsNumbered
by_client c head older (Some next.UnbindAll) some = All-nil IsNumbered
by_client c head older (Some next.Stop) some = All-nil IsNumbered

none_more : (bs : List Birth) → All IsNumbered bs → All IsNumbered (bs ++ [])
none_more bs all = subst (All IsNumbered) (sym (append-nil bs)) all

all_numbered : (h : History) → IsLegal h → IsOfSessions h → All IsNumbered (births h)
all_numbered [] legal sessions = All-nil IsNumbered
all_numbered (Read c bytes ∷ older) legal sessions =
    All-append IsNumbered (births older) (births_at (Read c bytes) older) (all_numbered older legal.0 sessions.0)
    (by_client c (asked c (Read c bytes ∷ older)).used older (newly (asked c older).next (asked c (Read c bytes ∷ older)).next) legal.2.1.0)
all_numbered (Join n ∷ older) legal sessions = none_more (births older) (all_numbered older legal.0 sessions)
all_numbered (End n Eof ∷ older) legal sessions = none_more (births older) (all_numbered older legal.0 sessions.0)
all_numbered (Attach t kind serial ∷ older) legal sessions = none_more (births older) (all_numbered older legal.0 sessions)
all_numbered (Recv t bytes ∷ older) legal sessions = none_more (births older) (all_numbered older legal.0 sessions)
all_numbered (Put n bytes ∷ older) legal sessions = none_more (births older) (all_numbered older legal.0 sessions)
all_numbered (Send t bytes ∷ older) legal sessions = none_more (births older) (all_numbered older legal.0 sessions)
all_numbered (_ ∷ older) legal sessions = absurd sessions

numbered : (h : History) → IsLegal h → IsOfSessions h → (l : ℕ) (b : Birth) → born l h ≡ Some b → 0 < b.client
numbered h legal sessions zero b is = absurd (let clash : None ≡ Some b = is in cc)
numbered h legal sessions (suc k) b is = go (nat_lt k stream_ids) is
  where
    go : (t : Bool) → cond t (slice_get (births h) k) None ≡ Some b → 0 < b.client
    go true e = get_all IsNumbered (births h) k b (all_numbered h legal sessions) e
    go false e = absurd (let clash : None ≡ Some b = e in cc)

pub born_behind : (l : ℕ) (b : Birth) (more h : History) → born l h ≡ Some b → born l (more ++ h) ≡ Some b
born_behind l b [] h is = is
born_behind l b (e ∷ more) h is = born_stays l e (more ++ h) b (born_behind l b more h is)

-- a client whose stream was born asked for it
pub record HasAskedForIt (h : History) (b : Birth) : Type 0 where
  pub some : 0 < b.client
  pub came : b.client ≤ came_count h
  pub asked_it : is_some (asked b.client h).next ≡ true

pub asked_of_birth : (h : History) → IsLegal h → IsOfSessions h → AsksForServices h → (l : ℕ) (b : Birth)
    → born l h ≡ Some b → HasAskedForIt h b
asked_of_birth h legal sessions asks l b is = record { some = some; came = of.came; asked_it = go b.forwarded of.client }
  where
    some : 0 < b.client
    some = numbered h legal sessions l b is

    of : IsBirthOf h b
    of = births_of h legal l b is

    go : (forwarded : Bool) → ByClient forwarded b.client h → is_some (asked b.client h).next ≡ true
    go false by = by.1
    go true by = absurd
        (let clash : false ≡ true = sym by ∙ asks.joined b.client (numbered h legal sessions l b is)
        (births_of h legal l b is).came in cc)

-- the stream that a client asked for was born
pub asked_born : RequestsOpen → (h : History) → AsksForServices h → (c : ℕ) → is_some (asked c h).next ≡ true
    → (service : List ℕ) × IsBornFor h c 1 service
asked_born requests h asks c done =
    go (cases_lt (length (asks.clients c).front) (length (requests_for (asks.clients c).session.service)))
  where
    opens : Opens (asks.clients c).session.service (asks.clients c).front (asks_with model_devices [] (asks.clients c).front nothing_asked)
    opens =
        let session = (asks.clients c).session in
        let first = (asks.clients c).first in
        requests session.service session.text (asks.clients c).front session.known (
          first.0 ++ session.front.0,
          sym (append_assoc (asks.clients c).front first.0 session.front.0)
              ∙ (ap (λ (x : List ℕ). x ++ session.front.0) first.1 ∙ session.front.1),
        )

    go : (length (asks.clients c).front < length (requests_for (asks.clients c).session.service))
        ⊎ (length (requests_for (asks.clients c).session.service) ≤ length (asks.clients c).front)
        → (service : List ℕ) × IsBornFor h c 1 service
    go (inl less) =
        absurd (let clash : false ≡ true =
        sym (ap is_some (ap (λ (q : Asked). q.next) (asks.clients c).asked ∙ opens.asks less)) ∙ done in cc)
    go (inr le) = (
      (asks.clients c).session.service,
      born_for h c 1 (asks.clients c).session.service
          (ap (λ (q : Asked). q.next) (asks.clients c).asked ∙ (opens.opened le).next),
    )

-- ---- what the service of a stream alone makes of a text
-- what is known of payloads
pub record PayloadLaws : Type 0 where
  pub one : (kind : Kind) (first opened : List File) (past : List Came) → ComeInTurn kind opened past → AreOne kind first opened past
  pub enough : (kind : Kind) (first opened : List File) (bytes more : List ℕ)
      → (service_answer kind first (came_over bytes opened ∷ [])).ended ≡ true → AreEnough kind first opened bytes (bytes ++ more)

-- all that it makes of what came is what it makes of the text at once
pub record IsWhole (kind : Kind) (first opened : List File) (past : List Came) (text : List ℕ) : Type 0 where
  pub answer : service_answer kind first past ≡ service_answer kind first (came_over text opened ∷ [])
  pub files : files_behind kind opened past ≡ files_fed kind [] (came_over text opened)

pub is_whole : PayloadLaws → (kind : Kind) (first opened : List File) (past : List Came) (text : List ℕ) → ComeInTurn kind opened past
    → CameOf (service_answer kind first past).ended (bytes_in past) text → IsWhole kind first opened past text
is_whole laws kind first opened past text turn came = go (service_answer kind first past).ended refl came
  where
    one : AreOne kind first opened past
    one = laws.one kind first opened past turn

    go : (ended : Bool) → (service_answer kind first past).ended ≡ ended → CameOf ended (bytes_in past) text
        → IsWhole kind first opened past text
    go false e all = record {
      answer = one.answer ∙ ap (λ (x : List ℕ). service_answer kind first (came_over x opened ∷ [])) all;
      files = one.files ∙ ap (λ (x : List ℕ). files_fed kind [] (came_over x opened)) all;
    }
    go true e front =
        let enough = laws.enough kind first opened (bytes_in past) front.0 (ap (λ (a : Answer). a.ended) (sym one.answer) ∙ e) in
        record {
          answer = one.answer
              ∙ (sym enough.answer ∙ ap (λ (x : List ℕ). service_answer kind first (came_over x opened ∷ [])) front.1);
          files = one.files ∙ (sym enough.files ∙ ap (λ (x : List ℕ). files_fed kind [] (came_over x opened)) front.1);
        }

-- ---- what was sent since
-- packets of streams that were drawn ask for nothing and write nothing; of another one its OPEN and its writes are its own
abbrev pub IsPast : History → ℕ → Command → Packet → Type 0
IsPast now d Open p = (d < p.arg0) × IsOpenOf now 1 p
IsPast now d Wrte p = (p.payload ≡ []) ⊎ ((d < p.arg0) × IsOf now 1 p)
IsPast now d _ p = Unit {0}

-- none of these is asked for or written to
abbrev AreQuiet : History → ℕ → List Packet → Type 0
AreQuiet now d ps = (l : ℕ) (b : Birth) → born l now ≡ Some b → b.link ≡ 1 → l ≤ d → (count_from is_open l ps ≡ 0) × (carried_in l ps ≡ [])

pub all_past : (now : History) (d : ℕ) (ps : List Packet) → All (λ p. IsOwn now 1 p.command p) ps → AreQuiet now d ps
    → Every (IsPast now d) ps
all_past now d [] own quiet = tt
all_past now d (p ∷ ps) own quiet = (
  one p.command refl (All-head (λ q. IsOwn now 1 q.command q) p ps own),
  all_past now d ps (All-tail (λ q. IsOwn now 1 q.command q) p ps own) rest,
)
  where
    test : (is_such : Command → Bool) → is_such p.command ≡ true → (is_such p.command && nat_eq p.arg0 p.arg0) ≡ true
    test is_such such = (λ i. such i && eq-eqb p.arg0 p.arg0 refl i)

    asks : is_open p.command ≡ true → count_from is_open p.arg0 (p ∷ ps) ≡ 0 → ⊥
    asks opens zeroth =
        let counts : 1 + count_from is_open p.arg0 ps ≡ 0 =
        sym (ap (λ (b : Bool). cond b (1 + count_from is_open p.arg0 ps) (count_from is_open p.arg0 ps)) (test is_open opens)) ∙ zeroth in
        omega (arith, counts)

    empty : (a b : List ℕ) → a ++ b ≡ [] → a ≡ []
    empty [] b is = refl
    empty (x ∷ a) b is = absurd (let clash : x ∷ (a ++ b) ≡ [] = is in cc)

    writes : is_wrte p.command ≡ true → carried_in p.arg0 (p ∷ ps) ≡ [] → p.payload ≡ []
    writes wrote nothing =
        empty p.payload (carried_in p.arg0 ps)
        (sym (ap (λ (b : Bool). cond b (p.payload ++ carried_in p.arg0 ps) (carried_in p.arg0 ps)) (test is_wrte wrote)) ∙ nothing)

    one : (command : Command) → p.command ≡ command → IsOwn now 1 command p → IsPast now d command p
    one Open is own = go (cases_lt d p.arg0)
      where
        go : (d < p.arg0) ⊎ (p.arg0 ≤ d) → (d < p.arg0) × IsOpenOf now 1 p
        go (inl past) = (past, own)
        go (inr le) = absurd (asks (ap is_open is) (quiet p.arg0 own.birth own.is own.link le).0)
    one Wrte is own = go (cases_lt d p.arg0)
      where
        go : (d < p.arg0) ⊎ (p.arg0 ≤ d) → (p.payload ≡ []) ⊎ ((d < p.arg0) × IsOf now 1 p)
        go (inl past) = inr (past, own)
        go (inr le) = inl (writes (ap is_wrte is) (quiet p.arg0 own.birth own.is own.link le).1)
    one Okay is own = tt
    one Clse is own = tt
    one Cnxn is own = tt
    one Auth is own = tt
    one Stls is own = tt

    rest : AreQuiet now d ps
    rest l b is link le = (
      counts (is_open p.command && nat_eq p.arg0 l) (quiet l b is link le).0,
      carries (is_wrte p.command && nat_eq p.arg0 l) (quiet l b is link le).1,
    )
      where
        counts : (t : Bool) → cond t (1 + count_from is_open l ps) (count_from is_open l ps) ≡ 0 → count_from is_open l ps ≡ 0
        counts true e = absurd (omega (arith, e))
        counts false e = e

        behind : (a b : List ℕ) → a ++ b ≡ [] → b ≡ []
        behind [] b is = is
        behind (x ∷ a) b is = absurd (let clash : x ∷ (a ++ b) ≡ [] = is in cc)

        carries : (t : Bool) → cond t (p.payload ++ carried_in l ps) (carried_in l ps) ≡ [] → carried_in l ps ≡ []
        carries true e = behind p.payload (carried_in l ps) e
        carries false e = e

-- what holds of each such packet, where it follows for OPENs and writes
pub every_past : (now : History) (d : ℕ) (Holds : Command → Packet → Type 0)
    → ((p : Packet) (command : Command) → IsPast now d command p → Holds command p) → (ps : List Packet)
    → Every (IsPast now d) ps → Every Holds ps
every_past now d Holds follows [] every = tt
every_past now d Holds follows (p ∷ ps) every = (follows p p.command every.0, every_past now d Holds follows ps every.1)

-- packets of streams that were born ask for none of other ids
pub asks_none : (h : History) (Such : ℕ → Type 0) → ((l : ℕ) (b : Birth) → born l h ≡ Some b → Such l → ⊥) → (ps : List Packet)
    → All (λ p. IsOwn h 1 p.command p) ps → Every (AsksNone Such) ps
asks_none h Such none [] own = tt
asks_none h Such none (p ∷ ps) own = (
  one p.command (All-head (λ q. IsOwn h 1 q.command q) p ps own),
  asks_none h Such none ps (All-tail (λ q. IsOwn h 1 q.command q) p ps own),
)
  where
    one : (command : Command) → IsOwn h 1 command p → AsksNone Such command p
    one Open own = λ such. none p.arg0 own.birth own.is such
    one Wrte own = tt
    one Okay own = tt
    one Clse own = tt
    one Cnxn own = tt
    one Auth own = tt
    one Stls own = tt
