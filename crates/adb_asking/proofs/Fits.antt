-- What the words of a tool's call make fits: its port is not 0, and its words are short enough.
use Rattle.std.proofs.Common.{ℕ, ◌≡◌, ◌<◌, ◌≤◌, ◌&&◌, nat_le, Bool, true, false, cond, if◌then◌else◌, List, [], ◌∷◌, length, codes, Option}
use Rattle.std.proofs.Common.{Some, None, refl, subst, arith}
use Rattle.std.specs.Prelude.{option_and_then, option_map, bytes_eq}
use Rattle.std.proofs.lemmas.Bool.{leb-true}
use Rattle.std.proofs.lemmas.Bool.Decides.{nat_tests}
use Rattle.adb_outside.specs.Decimal.{number_in}
use Rattle.adb_outside.specs.Serial.{is_serial}
use Rattle.adb_outside.specs.declared.identity.State.{State}
use Rattle.adb_words.specs.declared.command.TheConstants.{DEFAULT_PORT, MAX_DIGITS, MAX_OPERAND}
use Rattle.adb_words.specs.declared.tool.Tool.{Tool}
use Rattle.adb_words.specs.declared.tool.Tool.TheVariants.{Devices, Push, Pull, Shell, Wait}
use Rattle.adb_words.specs.declared.tool.Call.{Call}
use Rattle.adb_words.specs.Given.{Given, given_in, values_of}
use Rattle.adb_words.specs.Serve.{port_of, serial_of}
use Rattle.adb_words.specs.Tools.{call_of, called, devices_of, is_tool, layout_named, mtime_of, operand_of, pull_of, push_of, shell_of}
use Rattle.adb_words.specs.Tools.{state_named, tool_by, tool_named, tool_of, wait_by, wait_of, wanted_of}
use Rattle.adb_remote_words.specs.declared.words.TheConstants.{MAX_WORD}
use Rattle.adb_asking.specs.Jobs.{FitsSerial, FitsTool}

-- ---- numbers and texts
within : (least most : ℕ) (o : Option ℕ) (n : ℕ) → option_and_then
    (λ m. if nat_le least m && nat_le m most then Some m else None) o ≡ Some n → least ≤ n
within least most None n e = absurd (let clash : None ≡ Some n = e in cc)
within least most (Some m) n e = go (nat_le least m) (nat_le m most) refl e
  where
    go : (a b : Bool) → nat_le least m ≡ a → (if a && b then Some m else None) ≡ Some n → least ≤ n
    go true true is same = let m_is : m ≡ n = cc in subst (λ (k : ℕ). least ≤ k) m_is (leb-true least m is)
    go true false is same = absurd (let clash : None ≡ Some n = same in cc)
    go false b is same = absurd (let clash : None ≡ Some n = same in cc)

port_some : (texts : List (List ℕ)) (port : ℕ) → port_of 1 texts ≡ Some port → 0 < port
port_some [] port e = let same : DEFAULT_PORT ≡ port = cc in omega (arith, same)
port_some (text ∷ []) port e = let least = within 1 65535 (number_in MAX_DIGITS text) port e in omega (arith, least)
port_some (text ∷ other ∷ texts) port e = cc

serial_short : (text : List ℕ) → is_serial text ≡ true → length text ≤ MAX_WORD
serial_short text is = grind (arith, nat_tests, is)

serial_fits : (texts : List (List ℕ)) (serial : Option (List ℕ)) → wanted_of texts ≡ Some serial → FitsSerial serial
serial_fits [] serial e = let same : None ≡ serial = cc in subst FitsSerial same tt
serial_fits (text ∷ []) serial e = go (is_serial text) refl e
  where
    go : (b : Bool) → is_serial text ≡ b → option_map (λ s. Some s) (if b then Some text else None) ≡ Some serial → FitsSerial serial
    go true is same = let one : Some text ≡ serial = cc in subst FitsSerial one (serial_short text is)
    go false is same = cc
serial_fits (text ∷ other ∷ texts) serial e = cc

operand_fits : (texts : List (List ℕ)) (text : List ℕ) → operand_of texts ≡ Some text → length text ≤ MAX_WORD
operand_fits [] text e = cc
operand_fits (word ∷ []) text e = go (nat_le 1 (length word)) (nat_le (length word) MAX_OPERAND) refl e
  where
    go : (a b : Bool) → nat_le (length word) MAX_OPERAND ≡ b → (if a && b then Some word else None) ≡ Some text → length text ≤ MAX_WORD
    go true true is same = let one : word ≡ text = cc in subst (λ (t : List ℕ). length t ≤ MAX_WORD) one
        (leb-true (length word) MAX_OPERAND is)
    go true false is same = absurd (let clash : None ≡ Some text = same in cc)
    go false b is same = absurd (let clash : None ≡ Some text = same in cc)
operand_fits (word ∷ other ∷ texts) text e = cc

-- ---- tools
-- where there is a tool, it fits
abbrev Fit : Option Tool → Type 0
Fit o = (tool : Tool) → o ≡ Some tool → FitsTool tool

fit_some : (made : Tool) → FitsTool made → Fit (Some made)
fit_some made fits tool e = let same : made ≡ tool = cc in subst FitsTool same fits

fit_none : Fit None
fit_none tool e = cc

by_test : (b : Bool) (x y : Option Tool) → Fit x → Fit y → Fit (cond b x y)
by_test true x y fx fy = fx
by_test false x y fx fy = fy

-- an operand, and a serial, that fit
abbrev FitWord : Option (List ℕ) → Type 0
FitWord o = (t : List ℕ) → o ≡ Some t → length t ≤ MAX_WORD

abbrev FitDevice : Option (Option (List ℕ)) → Type 0
FitDevice w = (s : Option (List ℕ)) → w ≡ Some s → FitsSerial s

push_fits : (o : Option (List ℕ)) (m : Option ℕ) (w : Option (Option (List ℕ))) → FitWord o → FitDevice w → Fit (push_of o m w)
push_fits (Some path) (Some mtime) (Some serial) p s = fit_some (Push path mtime serial) (p path refl, s serial refl)
push_fits (Some path) (Some mtime) None p s = fit_none
push_fits (Some path) None w p s = fit_none
push_fits None m w p s = fit_none

pull_fits : (o : Option (List ℕ)) (w : Option (Option (List ℕ))) → FitWord o → FitDevice w → Fit (pull_of o w)
pull_fits (Some path) (Some serial) p s = fit_some (Pull path serial) (p path refl, s serial refl)
pull_fits (Some path) None p s = fit_none
pull_fits None w p s = fit_none

shell_fits : (o : Option (List ℕ)) (w : Option (Option (List ℕ))) → FitWord o → FitDevice w → Fit (shell_of o w)
shell_fits (Some command) (Some serial) p s = fit_some (Shell command serial) (p command refl, s serial refl)
shell_fits (Some command) None p s = fit_none
shell_fits None w p s = fit_none

devices_fits : (operands : List (List ℕ)) → Fit (devices_of operands)
devices_fits [] = fit_some Devices tt
devices_fits (word ∷ words) = fit_none

waiting_fits : (serial : Option (List ℕ)) (state : Option State) → Fit (wait_by serial state)
waiting_fits (Some serial) (Some state) = fit_some (Wait serial state) tt
waiting_fits (Some serial) None = fit_none
waiting_fits None state = fit_none

wait_fits : (operands : List (List ℕ)) → Fit (wait_of operands)
wait_fits [] = fit_none
wait_fits (serial ∷ []) = fit_none
wait_fits (serial ∷ state ∷ []) = waiting_fits (serial_of serial) (state_named state)
wait_fits (serial ∷ state ∷ other ∷ words) = fit_none

tool_fits : (name : List ℕ) (operands serials mtimes : List (List ℕ)) → Fit (tool_by name operands serials mtimes)
tool_fits name operands serials mtimes =
    let o = operand_of operands in
    let w = wanted_of serials in
    let p = operand_fits operands in
    let s = serial_fits serials in
    let waits = wait_fits operands in
    let shells = by_test (bytes_eq name (codes "shell")) (shell_of o w) _ (shell_fits o w p s) waits in
    let pulls = by_test (bytes_eq name (codes "pull")) (pull_of o w) _ (pull_fits o w p s) shells in
    let pushes = by_test (bytes_eq name (codes "push")) (push_of o (mtime_of mtimes) w) _ (push_fits o (mtime_of mtimes) w p s) pulls in
    by_test (bytes_eq name (codes "devices")) (devices_of operands) _ (devices_fits operands) pushes

-- ---- calls
pub record FitsCall (call : Call) : Type 0 where
  pub port : 0 < call.port
  pub tool : FitsTool call.tool

call_fits : (p : Option ℕ) (t : Option Tool) (call : Call) → ((port : ℕ) → p ≡ Some port → 0 < port) → Fit t
    → call_of p t ≡ Some call → FitsCall call
call_fits (Some port) (Some tool) call hp ht e =
    let made : Call = record { port = port; tool = tool } in
    let same : made ≡ call = cc in
    let fits : FitsCall made = record { port = hp port refl; tool = ht tool refl } in
    subst FitsCall same fits
call_fits (Some port) None call hp ht e = cc
call_fits None t call hp ht e = cc

given_fits : (name : List ℕ) (given : Option Given) (call : Call) → option_and_then (called name) given ≡ Some call → FitsCall call
given_fits name None call e = cc
given_fits name (Some given) call e =
    let operands = values_of (codes "operand") given in
    let serials = values_of (codes "serial") given in
    let mtimes = values_of (codes "mtime") given in
    let ports = values_of (codes "port") given in
    call_fits (port_of 1 ports) (tool_by name operands serials mtimes) call (port_some ports) (tool_fits name operands serials mtimes) e

-- the call that words are
pub all_fits : (words : List (List ℕ)) (call : Call) → tool_of words ≡ Some call → FitsCall call
all_fits [] call e = cc
all_fits (name ∷ words) call e = go (is_tool name) e
  where
    go : (b : Bool) → cond b (tool_named name words) None ≡ Some call → FitsCall call
    go true is = given_fits name (given_in (layout_named name) words) call is
    go false is = cc
