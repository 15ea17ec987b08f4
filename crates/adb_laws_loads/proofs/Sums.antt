-- What the streams of a load were handed, together: what was put to their clients past the leads.
use Rattle.std.proofs.Common.{ℕ, suc, ◌+◌, ◌-◌, ◌≡◌, ◌<◌, ◌≤◌, Bool, false, cond, List, [], ◌∷◌, ◌++◌, length, drop}
use Rattle.std.proofs.Common.{sym, ap, subst, ◌∙◌, arith, length-drop}
use Rattle.adb_capture.specs.declared.entry.Entry.{Entry}
use Rattle.adb_history.specs.Machine.{History}
use Rattle.adb_history.specs.Bytes.{bytes_put, brought}
use Rattle.adb_history.specs.Book.{asked}
use Rattle.adb_history.specs.Births.{Birth, births, opening_in, lead_of, handed_to}
use Rattle.adb_history.specs.Tied.{came_count}
use Rattle.adb_load.specs.Acts.{client_of}
use Rattle.adb_laws_loads.specs.Totals.{sum_to, handed_from, down_of, lead_len, past_leads}
use Rattle.adb_laws_loads.proofs.Inputs.{SameCame, same_packets}
use Rattle.adb_laws_loads.proofs.Opened.{IsOpened, opened_some, opened_stays}

-- A birth is that of a stream: its client came by itself, and its device opened it.
pub record IsOf (stream : ℕ) (b : Birth) (h : History) : Type 0 where
  pub client : b.client ≡ client_of stream
  pub own : b.forwarded ≡ false
  pub opened : IsOpened stream b h

-- So is each of some births, the first of which is that of this stream.
abbrev pub AreFrom : ℕ → List Birth → History → Type 0
AreFrom stream [] h = Unit {0}
AreFrom stream (b ∷ others) h = IsOf stream b h × AreFrom (suc stream) others h

-- they stay so, whatever comes
pub all_stay : (stream : ℕ) (bs : List Birth) (e : Entry) (h : History) → AreFrom stream bs h → AreFrom stream bs (e ∷ h)
all_stay stream [] e h are = tt
all_stay stream (b ∷ others) e h are = (
  record { client = are.0.client; own = are.0.own; opened = opened_stays stream b h e are.0.opened },
  all_stay (suc stream) others e h are.1,
)

-- and one more comes behind them
pub all_then : (stream last : ℕ) (bs : List Birth) (b : Birth) (h : History) → AreFrom stream bs h
    → last ≡ stream + length bs → IsOf last b h
    → AreFrom stream (bs ++ b ∷ []) h
all_then stream last [] b h are at one = let same : last ≡ stream = omega (arith, at) in (subst (λ (k : ℕ). IsOf k b h) same one, tt)
all_then stream last (first ∷ others) b h are at one = (are.0, all_then (suc stream) last others b h are.1 (omega (arith, at)) one)

-- they are so of whatever history brought the same
all_same : (stream : ℕ) (bs : List Birth) (h g : History) → ((t : ℕ) → brought t h ≡ brought t g)
    → AreFrom stream bs g → AreFrom stream bs h
all_same stream [] h g same are = tt
all_same stream (b ∷ others) h g same are = (
  record {
    client = are.0.client;
    own = are.0.own;
    opened = record {
      later = are.0.opened.later;
      is = ap (λ packets. opening_in (client_of stream) (drop b.packets_before packets)) (same b.link) ∙ are.0.opened.is;
    };
  },
  all_same (suc stream) others h g same are.1,
)

pub same_from : (h g : History) → SameCame h g → AreFrom 0 (births g) g → AreFrom 0 (births h) h
same_from h g same are = subst (λ bs. AreFrom 0 bs h) (sym same.births) (all_same 0 (births g) h g (same_packets h g same.brings) are)

-- ---- what they were handed
-- what was put to a client past the replies that lead it
abbrev past : History → ℕ → ℕ
past h c = length (bytes_put c h) - lead_len

-- one `OKAY` was the reply to each client after the first k, up to the last
abbrev AreReplied : History → (k last : ℕ) → Type 0
AreReplied h k last = (c : ℕ) → k < c → c ≤ last → length (asked c h).replies ≡ 4

handed_len : (stream : ℕ) (b : Birth) (h : History) → IsOf stream b h → length (asked (client_of stream) h).replies ≡ 4
    → length (handed_to (client_of stream) b h) ≡ past h (client_of stream)
handed_len stream b h is replied =
    ap (λ (opened : Bool). length (cond opened (drop (lead_of b h) (bytes_put b.client h)) [])) (opened_some stream b h is.opened)
    ∙ (ap (λ (forwarded : Bool). length (drop (cond forwarded 0 (length (asked b.client h).replies + 4)) (bytes_put b.client h))) is.own
    ∙ (ap (λ (c : ℕ). length (drop (length (asked c h).replies + 4) (bytes_put c h))) is.client
    ∙ (ap (λ (n : ℕ). length (drop (n + 4) (bytes_put (client_of stream) h))) replied ∙ length-drop 8 (bytes_put (client_of stream) h))))

handed_sum : (stream : ℕ) (bs : List Birth) (h : History) → AreFrom stream bs h → AreReplied h stream (stream + length bs)
    → handed_from (suc stream) bs h + sum_to (past h) stream ≡ sum_to (past h) (stream + length bs)
handed_sum stream [] h are replied = let place : stream ≡ stream + length {A = Birth} [] =
    omega arith in omega (arith, ap (sum_to (past h)) place)
handed_sum stream (b ∷ others) h are replied =
    let number : client_of stream ≡ suc stream = omega arith in
    let here = subst (λ (l : ℕ). length (handed_to l b h) ≡ past h l) number
    (handed_len stream b h are.0 (replied (client_of stream) (omega arith) (omega arith))) in
    let later = handed_sum (suc stream) others h are.1 (λ c above within. replied c (omega (arith, above)) (omega (arith, within))) in
    let place : suc stream + length others ≡ stream + length (b ∷ others) = omega arith in
    omega (arith, here, later, ap (sum_to (past h)) place)

-- What the streams were handed is what was put to the clients past the leads, where each that came has one.
pub handed_is_past : (h : History) → AreFrom 0 (births h) h → AreReplied h 0 (length (births h)) → length (births h) ≡ came_count h
    → down_of h ≡ past_leads h
handed_is_past h are replied counted =
    let all = handed_sum 0 (births h) h are (λ c above within. replied c above (omega (arith, within))) in
    let place : 0 + length (births h) ≡ length (births h) = omega arith in
    omega (arith, all, ap (sum_to (past h)) counted, ap (sum_to (past h)) place)
