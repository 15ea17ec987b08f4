-- What a server makes of a load is a legal history: each entry may come, and so may all that is handed out after it.
use Rattle.std.proofs.Common.{ℕ, ◌+◌, ◌^◌, ◌≡◌, ◌≢◌, ◌<◌, ◌≤◌, List, [], ◌∷◌, ◌++◌, take, drop, zero, suc, refl, sym, ◌∙◌, ap, subst, arith}
use Rattle.std.proofs.Common.{lit<}
use Rattle.std.specs.Prelude.{Option, Some, None}
use Rattle.std.specs.Option.{option_or}
use Rattle.std.proofs.lemmas.List.{take-append-drop}
use Rattle.adb_outside.specs.Bytes.{AreBytes}
use Rattle.adb_outside.specs.declared.kinds.Cause.TheVariants.{Eof}
use Rattle.adb_capture.specs.declared.entry.Entry.{Entry}
use Rattle.adb_capture.specs.declared.entry.Entry.TheVariants.{Join, Enter, Read, End, Bound, Attach, Recv, Put, Send}
use Rattle.adb_capture.specs.Records.{data_of, HasPort}
use Rattle.adb_history.specs.declared.hand_out.TheConstants.{MAX_HAND_OUT}
use Rattle.adb_history.specs.Rows.{Client, Link, State}
use Rattle.adb_history.specs.Asking.{Asked, nothing_asked, asks_with}
use Rattle.adb_history.specs.Reading.{asked_before}
use Rattle.adb_history.specs.Machine.{History, state, MayPut, MaySend, IsSomeOf, IsInRange, IsLegal}
use Rattle.adb_history.specs.Book.{Book, asked, plugged_count}
use Rattle.adb_history.specs.Tied.{came_count, IsAskedAs}
use Rattle.adb_history.specs.Tracking.{offered}
use Rattle.adb_history.specs.Drained.{send_of, send_on, first_send, put_of, put_to, first_put, next_out, or_stay, drain, drained_after}
use Rattle.adb_history.specs.Drained.{drained_from, owed}
use Rattle.adb_history.proofs.Books.{all_unread}
use Rattle.adb_history.proofs.Numbers.{counted}
use Rattle.adb_laws_loads.proofs.Texts.{front_bytes, ClientTexts, LinkTexts, Texts}
use Rattle.adb_laws_loads.proofs.TextSteps.{HasAskedTexts, AsksTexts, BringsTexts, step_texts, offered_bytes}
use Rattle.adb_laws_loads.proofs.Inputs.{SameCame, same_refl, same_on, same_out, drain_same, IsOut, came_onto, onto_more}
use Rattle.adb_laws_loads.proofs.Taking.{MayCome, AllMayCome, Wants, Reads, AsksFirst, mays}
use Rattle.adb_load.specs.Course.{Progress, turn, start, turns_left}
use Rattle.adb_load.specs.Load.{acts_of_turns, acts_ahead, load}
use Rattle.adb_laws_loads.proofs.Turns.{after_turns, turn_streams}
use Rattle.adb_laws_loads.proofs.Following.{Follows, turns_follow, load_follows}

-- ---- what is handed out next
-- a text of bytes that is not empty, and begins another
pub record IsFront (text all : List ℕ) : Type 0 where
  pub some : IsSomeOf text all
  pub bytes : AreBytes text

take_some : (n b : ℕ) (due : List ℕ) → 0 < n → take n (b ∷ due) ≢ []
take_some zero b due some e = absurd (omega (arith, some))
take_some (suc n) b due some e = let clash : b ∷ take n due ≡ [] = e in cc

front_of_due : (b : ℕ) (due : List ℕ) → AreBytes (b ∷ due) → IsFront (take MAX_HAND_OUT (b ∷ due)) (b ∷ due)
front_of_due b due are = record {
  some = record {
    some = take_some MAX_HAND_OUT b due (lit< tt);
    front =
        (drop MAX_HAND_OUT (b ∷ due), take-append-drop MAX_HAND_OUT (b ∷ due));
  };
  bytes = front_bytes MAX_HAND_OUT (b ∷ due) are;
}

-- a hand-out that may come, of bytes, to a number below this
abbrev IsFit : State → ℕ → Option Entry → Type 0
IsFit s below None = Unit {0}
IsFit s below (Some (Put c bytes)) = (c < below) × MayPut s (s.clients c) bytes × AreBytes bytes
IsFit s below (Some (Send t bytes)) = (t < below) × MaySend (s.links t) bytes × AreBytes bytes
IsFit s below (Some e) = ⊥

fit_or : (s : State) (below : ℕ) (a b : Option Entry) → IsFit s below a → IsFit s below b → IsFit s below (option_or a b)
fit_or s below None b first second = second
fit_or s below (Some e) b first second = first

module _ (s : State) (h : Texts s) (below : ℕ) where
  link_fit : (t : ℕ) → t < below → (row : Option Link) → s.links t ≡ row → LinkTexts row → IsFit s below (send_on t row)
  link_fit t small None is texts = tt
  link_fit t small (Some link) is texts = go link.due refl texts.due
    where
      go : (due : List ℕ) → link.due ≡ due → AreBytes due → IsFit s below (send_of t due)
      go [] same are = tt
      go (b ∷ due) same are =
          let front = front_of_due b due are in (
            small,
            subst (λ (o : Option Link). MaySend o (take MAX_HAND_OUT (b ∷ due))) (sym is)
                (subst (IsSomeOf (take MAX_HAND_OUT (b ∷ due))) (sym same) front.some),
            front.bytes,
          )

  sends_fit : (t k : ℕ) → t + k ≤ below → IsFit s below (first_send s.links t k)
  sends_fit t zero fits = tt
  sends_fit t (suc k) fits = fit_or s below (send_on t (s.links t)) (first_send s.links (suc t) k)
      (link_fit t (omega (arith, fits)) (s.links t) refl (h.links t)) (sends_fit (suc t) k (omega (arith, fits)))

  client_fit : (c : ℕ) → c < below → (row : Option Client) → s.clients c ≡ row → ClientTexts row → IsFit s below (put_to s.devices c row)
  client_fit c small None is texts = tt
  client_fit c small (Some client) is texts = go (offered s.devices client) refl (offered_bytes s.devices client texts)
    where
      go : (due : List ℕ) → offered s.devices client ≡ due → AreBytes due → IsFit s below (put_of c due)
      go [] same are = tt
      go (b ∷ due) same are =
          let front = front_of_due b due are in (
            small,
            subst (λ (o : Option Client). MayPut s o (take MAX_HAND_OUT (b ∷ due))) (sym is)
                (subst (IsSomeOf (take MAX_HAND_OUT (b ∷ due))) (sym same) front.some),
            front.bytes,
          )

  puts_fit : (c k : ℕ) → c + k ≤ below → IsFit s below (first_put s.devices s.clients c k)
  puts_fit c zero fits = tt
  puts_fit c (suc k) fits = fit_or s below (put_to s.devices c (s.clients c)) (first_put s.devices s.clients (suc c) k)
      (client_fit c (omega (arith, fits)) (s.clients c) refl (h.clients c)) (puts_fit (suc c) k (omega (arith, fits)))

  out_fits : s.devices.drawn < below → s.joined < below → IsFit s below (next_out s)
  out_fits links clients = fit_or s below (first_send s.links 1 s.devices.drawn) (first_put s.devices s.clients 1 s.joined)
      (sends_fit 1 s.devices.drawn (omega (arith, links))) (puts_fit 1 s.joined (omega (arith, clients)))

-- ---- histories
-- a legal history whose server keeps texts of bytes
pub record IsFine (h : History) : Type 0 where
  pub legal : IsLegal h
  pub texts : Texts (state h)

-- few clients and devices came
pub record IsFew (g : History) : Type 0 where
  pub clients : came_count g < 2 ^ 32
  pub links : plugged_count g < 2 ^ 32

fine_out : (e : Entry) (h : History) → IsFit (state h) (2 ^ 32) (Some e) → IsFine h → (IsFine (e ∷ h)) × IsOut (Some e)
fine_out (Put c bytes) h fit fine = (
  record {
    legal = (fine.legal, record { owner = fit.0; port = tt; bytes = fit.2 }, fit.1);
    texts = step_texts (Put c bytes) (state h) tt fine.texts;
  },
  tt,
)
fine_out (Send t bytes) h fit fine = (
  record {
    legal = (fine.legal, record { owner = fit.0; port = tt; bytes = fit.2 }, fit.1);
    texts = step_texts (Send t bytes) (state h) tt fine.texts;
  },
  tt,
)
fine_out _ h fit fine = absurd fit

next_fits : (h g : History) → SameCame h g → IsFew g → IsFine h → IsFit (state h) (2 ^ 32) (next_out (state h))
next_fits h g same few fine = out_fits (state h) fine.texts (2 ^ 32)
    (omega (arith, (counted h).plugged, same.brings.plugged_count, few.links))
    (omega (arith, (counted h).joined, same.brings.came_count, few.clients))

drain_fine : (k : ℕ) (h g : History) → SameCame h g → IsFew g → IsFine h → IsFine (drain k h)
drain_fine zero h g same few fine = fine
drain_fine (suc k) h g same few fine = go (next_out (state h)) (next_fits h g same few fine) (λ e. drain_fine k (e ∷ h) g)
  where
    go : (o : Option Entry) → IsFit (state h) (2 ^ 32) o
        → ((e : Entry) → SameCame (e ∷ h) g → IsFew g → IsFine (e ∷ h) → IsFine (drain k (e ∷ h)))
        → IsFine (or_stay o h (λ e. drain k (e ∷ h)))
    go None fit more = fine
    go (Some e) fit more = let out = fine_out e h fit fine in more e (same_out e out.1 h g same) few out.0

-- ---- entries that come
-- what a read brings is of bytes, since who still asks asks first, and so
asks_texts : (h g : History) → IsLegal h → SameCame h g → (c : ℕ) (bytes : List ℕ) → Reads g (Read c bytes) → AsksTexts (state h) c bytes
asks_texts h g legal same c bytes reads client here asks =
    subst (λ (q : Asked). HasAskedTexts (asks_with (state h).devices (state h).forwards bytes q)) (sym before)
    (first.texts (state h).devices (state h).forwards)
  where
    is : IsAskedAs h c client
    is = all_unread h legal c client here asks

    same_asked : asked c h ≡ asked c g
    same_asked = ap (λ (b : Book). b.asked c) same.book

    first : AsksFirst c bytes g
    first = reads (ap (λ (q : Asked). q.next) (sym same_asked) ∙ is.asks)

    nothing : asked c h ≡ nothing_asked
    nothing = same_asked ∙ first.nothing

    before : asked_before client ≡ nothing_asked
    before =
        ap (λ held. record { replies = []; used = 0; rest = held; selected = client.about.selected; next = None })
        (is.rest ∙ ap (λ (q : Asked). q.rest) nothing)
        ∙ ap (λ selected. record { replies = []; used = 0; rest = []; selected = selected; next = None })
        (is.selected ∙ ap (λ (q : Asked). q.selected) nothing)

brings : (h g : History) → IsLegal h → SameCame h g → (e : Entry) → Wants g e → Reads g e → AreBytes (data_of e) → BringsTexts (state h) e
brings h g legal same (Join c) wants reads are = tt
brings h g legal same (Read c bytes) wants reads are = (are, asks_texts h g legal same c bytes reads)
brings h g legal same (End c Eof) wants reads are = tt
brings h g legal same (Attach t kind serial) wants reads are = tt
brings h g legal same (Recv t bytes) wants reads are = are
brings h g legal same _ wants reads are = absurd wants

-- its number is small where few come
pub in_range : (g : History) (e : Entry) → Wants g e → AreBytes (data_of e) → IsFew (e ∷ g) → IsInRange e
in_range g (Join c) wants are few = record { owner = omega (arith, wants, few.clients); port = tt; bytes = are }
in_range g (Read c bytes) wants are few = record { owner = omega (arith, wants.1, few.clients); port = tt; bytes = are }
in_range g (End c Eof) wants are few = record { owner = omega (arith, wants.1, few.clients); port = tt; bytes = are }
in_range g (Attach t kind serial) wants are few = record { owner = omega (arith, wants.next, few.links); port = tt; bytes = are }
in_range g (Recv t bytes) wants are few = record { owner = omega (arith, wants.1, few.links); port = tt; bytes = are }
in_range g _ wants are few = absurd wants

-- none has a port
pub has_port : (g : History) (e : Entry) → Wants g e → HasPort e
has_port g (Enter c port) wants = absurd wants
has_port g (Bound c port) wants = absurd wants
has_port g _ wants = tt

fine_on : (h g : History) (e : Entry) → SameCame h g → IsFine h → MayCome g e → IsFew (e ∷ g) → IsFine (e ∷ h)
fine_on h g e same fine may few = record {
  legal = (fine.legal, in_range g e may.wants may.bytes few, mays h g fine.legal same e may.wants may.killed);
  texts = step_texts e (state h) (brings h g fine.legal same e may.wants may.reads may.bytes) fine.texts;
}

-- fewer came before
few_before : (e : Entry) (g : History) → IsFew (e ∷ g) → IsFew g
few_before (Join c) g few = record { clients = omega (arith, few.clients); links = few.links }
few_before (Enter c port) g few = record { clients = omega (arith, few.clients); links = few.links }
few_before (Attach t kind serial) g few = record { clients = few.clients; links = omega (arith, few.links) }
few_before _ g few = record { clients = few.clients; links = few.links }

pub few_first : (inputs : List Entry) (g : History) → IsFew (came_onto inputs g) → IsFew g
few_first [] g few = few
few_first (e ∷ inputs) g few = few_before e g (few_first inputs (e ∷ g) few)

-- after all that is handed out behind it
pub after_same : (h g : History) (e : Entry) → SameCame h g → SameCame (drained_after h e) (e ∷ g)
after_same h g e same = drain_same (owed (state (e ∷ h))) (e ∷ h) (e ∷ g) (same_on e h g same)

pub after_fine : (h g : History) (e : Entry) → SameCame h g → IsFine h → MayCome g e → IsFew (e ∷ g) → IsFine (drained_after h e)
after_fine h g e same fine may few =
    drain_fine (owed (state (e ∷ h))) (e ∷ h) (e ∷ g) (same_on e h g same) few (fine_on h g e same fine may few)

drained_fine : (inputs : List Entry) (h g : History) → SameCame h g → AllMayCome inputs g → IsFew (came_onto inputs g) → IsFine h
    → IsFine (drained_from h inputs)
drained_fine [] h g same may few fine = fine
drained_fine (e ∷ inputs) h g same may few fine = drained_fine inputs (drained_after h e) (e ∷ g) (after_same h g e same) may.1 few
    (after_fine h g e same fine may.0 (few_first inputs (e ∷ g) few))

-- nothing came yet
pub fine_at_first : IsFine []
fine_at_first = record { legal = tt; texts = record { clients = λ c. tt; links = λ t. tt } }

-- Entries each of which may come make a legal history, with all that is handed out after each.
pub drained_legal : (inputs : List Entry) → AllMayCome inputs [] → IsFew (came_onto inputs []) → IsLegal (drained_from [] inputs)
drained_legal inputs may few = (drained_fine inputs [] [] (same_refl []) may few fine_at_first).legal

-- ---- a load
-- as many streams are to begin however many turns went
after_streams : (turns : ℕ) (p : Progress) → (after_turns turns p).streams ≡ p.streams
unfolding after_turns
after_streams zero p = refl
after_streams (suc turns) p = after_streams turns (turn p).after ∙ turn_streams p

pub load_few : (seed streams : ℕ) → streams < 2 ^ 32 → IsFew (came_onto (load seed streams) [])
unfolding acts_ahead
load_few seed streams few = record {
  clients = omega (arith, done.stands.came, done.way.begun, after_streams turns (start seed streams), few);
  links = omega (arith, done.stands.links, done.way.plugged);
}
  where
    turns : ℕ
    turns = turns_left (start seed streams)

    done : Follows (acts_of_turns turns (start seed streams)) (after_turns turns (start seed streams))
    done = turns_follow seed streams turns

all_first : (front rest : List Entry) (g : History) → AllMayCome (front ++ rest) g → AllMayCome front g
all_first [] rest g all = tt
all_first (e ∷ front) rest g all = (all.0, all_first front rest (e ∷ g) all.1)

-- What a server makes of a front of a load is a legal history.
pub front_legal : (seed streams : ℕ) (front rest : List Entry) → streams < 2 ^ 32 → load seed streams ≡ front ++ rest
    → IsLegal (drained_from [] front)
front_legal seed streams front rest few is =
    drained_legal front (all_first front rest [] (subst (λ inputs. AllMayCome inputs []) is (load_follows seed streams)))
    (few_first rest (came_onto front [])
    (subst IsFew (ap (λ inputs. came_onto inputs []) is ∙ onto_more front rest []) (load_few seed streams few)))

-- And so is what it makes of all of it.
pub load_legal : (seed streams : ℕ) → streams < 2 ^ 32 → IsLegal (drained_from [] (load seed streams))
load_legal seed streams few = drained_legal (load seed streams) (load_follows seed streams) (load_few seed streams few)
