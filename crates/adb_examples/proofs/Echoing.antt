-- What the client is handed, computed from the rules.
use Rattle.std.specs.Prelude.{ℕ, ◌≡◌, ◌≢◌, ◌+◌, false, List, [], ◌∷◌, ◌++◌, codes, take, Option, Some, Result, Ok, Err, IfOk}
use Rattle.std.proofs.Common.{refl, ◌∙◌, ap, subst}
use Rattle.adb_outside.specs.declared.kinds.Kind.TheVariants.{Usb}
use Rattle.adb_request.specs.Meaning.{meaning}
use Rattle.adb_wire.specs.Header.{word_at}
use Rattle.adb_banner.specs.Banner.{identity_of, last_value}
use Rattle.adb_capture.specs.declared.entry.Entry.{Entry}
use Rattle.adb_capture.specs.declared.entry.Entry.TheVariants.{Join, Read, Attach, Recv, Put, Send}
use Rattle.adb_history.specs.Examples.{sends, hears, connect, hello}
use Rattle.adb_history.specs.Links.{open_packet, okay_packet, write_packet}
use Rattle.adb_history.specs.Machine.{History, state}
use Rattle.adb_history.specs.Rows.{State}
use Rattle.adb_history.specs.Kept.{Kept, IsLawful}
use Rattle.adb_hub.specs.declared.answers.Handed.{Handed}
use Rattle.adb_hub.specs.declared.answers.Handed.TheVariants.{Bytes, Nothing, Done}
use Rattle.adb_hub.specs.declared.answers.Life.{Life}
use Rattle.adb_hub.specs.declared.error.HubError.{HubError}
use Rattle.adb_hub.specs.Answers.{Answers, AnswersClient, AnswersLink, Hands, HandsOut, offered_to, due_on}

-- Everything that is due is handed out, where it is not more than is asked for.
pub handed_all : (e : List ℕ → Entry) (max : ℕ) (all : List ℕ) (given : Handed) (h : History) (old new : Kept) → take max all ≡ all → all ≢ []
    → HandsOut e max (Some all) given h old new → (given ≡ Bytes all) × IsLawful new (e all ∷ h)
handed_all e max all (Bytes bytes) h old new whole some out =
    let is : bytes ≡ all = out.0 ∙ whole in
    (ap Bytes is, subst (λ (b : List ℕ). IsLawful new (e b ∷ h)) is out.2)
handed_all e max all Nothing h old new whole some out = absurd (some out.0)
handed_all e max all Done h old new whole some out = absurd out

-- what the device sends, and what the client asks
abbrev pub greeting : List ℕ
greeting = sends (connect 0x01000001 4096 (codes "device::") ∷ [])

abbrev pub output : List ℕ
output = sends (okay_packet 7 1 ∷ write_packet 7 1 (codes "hi" ++ 10 ∷ []) ∷ [])

abbrev pub request : List ℕ
request = codes "0012host:transport-any000dshell:echo hi"

-- the entries before the client comes, the newest first
abbrev pub greeted : History
greeted = Recv 1 greeting ∷ Attach 1 Usb (codes "emu1") ∷ []

pub first_client : (state greeted).joined + 1 ≡ 1
unfolding meaning word_at identity_of last_value
first_client = refl

-- the entries before the first hand-out
abbrev pub asked : History
asked = Read 1 request ∷ Join 1 ∷ greeted

-- what the device is sent: the greeting, and the packet that opens the stream
abbrev pub opening : List ℕ
opening = hello ++ hears (open_packet false 1 (codes "shell:echo hi") ∷ [])

pub due_then : due_on ((state asked).links 1) ≡ Some opening
unfolding meaning word_at identity_of last_value
due_then = refl

-- the entries before the second hand-out
abbrev pub answered : History
answered = Recv 1 output ∷ Send 1 opening ∷ asked

abbrev pub said : List ℕ
said = codes "OKAYOKAYhi" ++ 10 ∷ []

pub offered_then : offered_to (state answered).devices ((state answered).clients 1) ≡ Some said
unfolding meaning word_at identity_of last_value
offered_then = refl

opening_has_bytes : opening ≢ []
opening_has_bytes = λ none. cc

said_has_bytes : said ≢ []
said_has_bytes = λ none. cc

-- What the client is handed, of the answers of the calls in turn. `k` is what the hub holds before and after each.
pub echoed :
    (k0 k1 k2 k3 k4 k5 k6 k7 : Kept) (link client : ℕ) (came read said_so : Life) (sent given : Handed) → IsLawful k0 []
    → ((h : List Entry) → IsLawful k0 h
    → Answers (Attach ((state h).devices.drawn + 1) Usb (codes "emu1")) (λ (n : ℕ). n ≡ (state h).devices.drawn + 1) (Ok link) h k1)
    → ((h : List Entry) → IsLawful k1 h → AnswersLink link (Recv link greeting) (Ok came) h k2)
    → ((h : List Entry) → IsLawful k2 h
    → Answers (Join ((state h).joined + 1)) (λ (n : ℕ). n ≡ (state h).joined + 1) (Ok client) h k3)
    → ((h : List Entry) → IsLawful k3 h → AnswersClient client (Read client request) (Ok read) h k4)
    → ((h : List Entry) → IsLawful k4 h
    → Hands (Send link) 4096 (λ (s : State). due_on (s.links link)) (Ok sent) h k4 k5)
    → ((h : List Entry) → IsLawful k5 h → AnswersLink link (Recv link output) (Ok said_so) h k6)
    → ((h : List Entry) → IsLawful k6 h
    → Hands (Put client) 4096 (λ (s : State). offered_to s.devices (s.clients client)) (Ok given) h k6 k7)
    → given ≡ Bytes said
echoed k0 k1 k2 k3 k4 k5 k6 k7 link client came read said_so sent given new attach greet join ask send answer put =
    let a = attach [] new in
    let g = subst (λ (n : ℕ). (h : List Entry) → IsLawful k1 h → AnswersLink n (Recv n greeting) (Ok came) h k2) a.2 greet
    (Attach 1 Usb (codes "emu1") ∷ []) a.1 in
    let j = subst (λ (n : ℕ). Answers (Join n) (λ (c : ℕ). c ≡ n) (Ok client) greeted k3) first_client (join greeted g.1) in
    let r = subst (λ (n : ℕ). (h : List Entry) → IsLawful k3 h → AnswersClient n (Read n request) (Ok read) h k4) j.2 ask
    (Join 1 ∷ greeted) j.1 in
    let s = subst
    (λ (n : ℕ). (h : List Entry) → IsLawful k4 h → Hands (Send n) 4096 (λ (s : State). due_on (s.links n)) (Ok sent) h k4 k5)
    a.2 send asked r.1 in
    let opened = handed_all (Send 1) 4096 opening sent asked k4 k5 refl opening_has_bytes
    (subst (λ (all : Option (List ℕ)). HandsOut (Send 1) 4096 all sent asked k4 k5) due_then s.1) in
    let o = subst (λ (n : ℕ). (h : List Entry) → IsLawful k5 h → AnswersLink n (Recv n output) (Ok said_so) h k6) a.2 answer
    (Send 1 opening ∷ asked) opened.1 in
    let p = subst
    (λ (n : ℕ). (h : List Entry) → IsLawful k6 h
    → Hands (Put n) 4096 (λ (s : State). offered_to s.devices (s.clients n)) (Ok given) h k6 k7)
    j.2 put answered o.1 in
    (handed_all (Put 1) 4096 said given answered k6 k7 refl said_has_bytes
    (subst (λ (all : Option (List ℕ)). HandsOut (Put 1) 4096 all given answered k6 k7) offered_then p.1)).0

-- The same of the last call, which may be refused.
pub echoed_if :
    (k0 k1 k2 k3 k4 k5 k6 k7 : Kept) (link client : ℕ) (came read said_so : Life) (sent : Handed) (last : Result Handed HubError)
    → IsLawful k0 []
    → ((h : List Entry) → IsLawful k0 h
    → Answers (Attach ((state h).devices.drawn + 1) Usb (codes "emu1")) (λ (n : ℕ). n ≡ (state h).devices.drawn + 1) (Ok link) h k1)
    → ((h : List Entry) → IsLawful k1 h → AnswersLink link (Recv link greeting) (Ok came) h k2)
    → ((h : List Entry) → IsLawful k2 h
    → Answers (Join ((state h).joined + 1)) (λ (n : ℕ). n ≡ (state h).joined + 1) (Ok client) h k3)
    → ((h : List Entry) → IsLawful k3 h → AnswersClient client (Read client request) (Ok read) h k4)
    → ((h : List Entry) → IsLawful k4 h
    → Hands (Send link) 4096 (λ (s : State). due_on (s.links link)) (Ok sent) h k4 k5)
    → ((h : List Entry) → IsLawful k5 h → AnswersLink link (Recv link output) (Ok said_so) h k6)
    → ((h : List Entry) → IsLawful k6 h
    → Hands (Put client) 4096 (λ (s : State). offered_to s.devices (s.clients client)) last h k6 k7)
    → IfOk last (λ (handed : Handed). handed ≡ Bytes said)
echoed_if k0 k1 k2 k3 k4 k5 k6 k7 link client came read said_so sent (Ok given) new attach greet join ask send answer put =
    echoed k0 k1 k2 k3 k4 k5 k6 k7 link client came read said_so sent given new attach greet join ask send answer put
echoed_if k0 k1 k2 k3 k4 k5 k6 k7 link client came read said_so sent (Err why) new attach greet join ask send answer put = tt
