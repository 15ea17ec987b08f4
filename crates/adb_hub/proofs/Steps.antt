-- What a hub's call answers when it made its entry.
use Rattle.std.proofs.Common.{ℕ, ◌+◌, ◌-◌, ◌^◌, ◌/◌, ◌%◌, ◌≡◌, ◌≢◌, ◌<◌, ◌≤◌, Bool, true, false, cond, List, []}
use Rattle.std.proofs.Common.{◌∷◌, ◌++◌, length, take, drop, Option, Some, None, Ok, Err, refl, sym, ◌∙◌, ap, subst, arith}
use Rattle.std.specs.Prelude.{◌==◌, ◌&&◌, nat_lt, nat_le, is_some, option_map, MatchOption, All}
use Rattle.std.proofs.lemmas.List.Elements.{All-cons, All-nil}
use Rattle.std.proofs.lemmas.List.{take-append-drop, length-take}
use Rattle.std.proofs.Math.Seq.{take-nil}
use Rattle.std.proofs.lemmas.Bool.Decides.{nat_tests}
use Rattle.byteorder.specs.Endian.{little_bytes}
use Rattle.adb_outside.specs.declared.kinds.Cause.{Cause}
use Rattle.adb_outside.specs.declared.kinds.Cause.TheVariants.{Eof, Fault, Starved, NoThread}
use Rattle.adb_outside.specs.declared.kinds.Kind.{Kind}
use Rattle.adb_outside.specs.declared.kinds.Kind.TheVariants.{Usb, Local}
use Rattle.adb_registry.specs.Registry.{attach_refusal}
use Rattle.adb_registry.specs.declared.registry.AttachError.{AttachError}
use Rattle.adb_capture.specs.Records.{cause_byte, plug_letter}
use Rattle.adb_capture.specs.declared.entry.Entry.{Entry}
use Rattle.adb_capture.specs.declared.entry.Entry.TheVariants.{Join, Enter, Read, End, Bound, Attach, Recv, Detach, Put, Send}
use Rattle.adb_history.specs.Rows.{Client, Link, State}
use Rattle.adb_history.specs.Accepted.{is_drawn}
use Rattle.adb_history.specs.Machine.{History, IsDrawn, IsSomeOf, MayPut, MaySend, state}
use Rattle.adb_history.specs.Kept.{Kept, kept, IsLawful}
use Rattle.adb_history.specs.Tracking.{offered}
use Rattle.adb_hub_hand_outs.specs.Handed as answers
use Rattle.adb_hub_hand_outs.specs.Handed.{IsFront}
use Rattle.adb_hub_tables.specs.declared.tables.Tables.{Tables}
use Rattle.adb_hub_tables.specs.Tables.{state_of}
use Rattle.adb_hub_tables.specs.Fit.{Makes}
use Rattle.adb_hub.specs.declared.error.HubError.{HubError}
use Rattle.adb_hub.specs.declared.error.HubError.TheVariants.{Stopped, NoClient, NoLink, Numbers}
use Rattle.adb_hub.specs.declared.answers.Life.{Life}
use Rattle.adb_hub.specs.declared.answers.Life.TheVariants.{Live, Gone}
use Rattle.adb_hub.specs.declared.answers.Handed.TheVariants.{Bytes}
use Rattle.adb_hub.specs.Sound.{IsSound}
use Rattle.adb_hub.specs.Refusal.{unless_stopped, unless_drawn, unless_worn, attach_error, refusal}
use Rattle.adb_hub.specs.Answers.{err_if, life_of, next_client, HandsOut, handed_as}
use Rattle.adb_hub.specs.Answers as hub
use Rattle.adb_hub.proofs.Standing.{IsGiven, stands_for, sound_after, lawful_after}

-- ---- a call looked whether something may come from a number
pub record IsOpenTo (stopped : Bool) (drawn n : ℕ) : Type 0 where
  pub going : stopped ≡ false
  pub in_use : IsDrawn drawn n
  pub is : is_drawn drawn n ≡ true

drawn_is : (n drawn : ℕ) → (nat_lt 0 n && nat_le n drawn) ≡ true → IsDrawn drawn n
drawn_is n drawn e = (grind (arith, nat_tests), grind (arith, nat_tests))

pub looked : (stopped : Bool) (drawn n : ℕ) (why : HubError)
    → Ok tt ≡ err_if (unless_stopped stopped (unless_drawn (is_drawn drawn n) why)) → IsOpenTo stopped drawn n
looked true drawn n why e = absurd (let clash : Ok tt ≡ Err Stopped = e in cc)
looked false drawn n why e = go (is_drawn drawn n) refl e
  where
    go : (b : Bool) → is_drawn drawn n ≡ b → Ok tt ≡ err_if (unless_drawn b why) → IsOpenTo false drawn n
    go true is e = record { going = refl; in_use = drawn_is n drawn is; is = is }
    go false is e = absurd (let clash : Ok tt ≡ Err why = e in cc)

pub allowed_of : (stopped : Bool) (drawn n : ℕ) (why : HubError) → IsOpenTo stopped drawn n
    → unless_stopped stopped (unless_drawn (is_drawn drawn n) why) ≡ None
allowed_of stopped drawn n why o =
    ap (λ b. unless_stopped b (unless_drawn (is_drawn drawn n) why)) o.going ∙ ap (λ b. unless_drawn b why) o.is

-- what is known of the number that a call names
pub record IsNamed (n : ℕ) (stopped : Bool) (drawn : ℕ) : Type 0 where
  pub range : n < 2 ^ 32
  pub open_to : IsOpenTo stopped drawn n

module _ (t : Tables) (k : Kept) (view : kept (state_of t) ≡ k) (n : ℕ) (range : n < 2 ^ 32) where
  pub open_client : Ok tt ≡ err_if (unless_stopped k.stopped (unless_drawn (is_drawn k.joined n) (NoClient n)))
      → IsNamed n t.stopped t.joined
  open_client e = record {
    range = range;
    open_to = looked t.stopped t.joined n (NoClient n)
        (subst (λ (x : Kept). Ok tt ≡ err_if (unless_stopped x.stopped (unless_drawn (is_drawn x.joined n) (NoClient n)))) (sym view) e);
  }

  pub open_link : Ok tt ≡ err_if (unless_stopped k.stopped (unless_drawn (is_drawn k.devices.drawn n) (NoLink n)))
      → IsNamed n t.stopped t.devices.drawn
  open_link e = record {
    range = range;
    open_to = looked t.stopped t.devices.drawn n (NoLink n)
        (subst (λ (x : Kept). Ok tt
        ≡ err_if (unless_stopped x.stopped (unless_drawn (is_drawn x.devices.drawn n) (NoLink n)))) (sym view)
        e);
  }

-- ---- a call that made its entry
pub record Called (e : Entry) (old new : Tables) : Type 0 where
  pub sound : IsSound old
  pub given : IsGiven e (state_of old)
  pub allowed : refusal e (state_of old) ≡ None
  pub made : Makes e old new

module _ (e : Entry) (old new : Tables) (called : Called e old new) where
  pub called_sound : IsSound new
  called_sound = sound_after e old new called.sound called.given called.made

  pub called_lawful : (h : History) → IsLawful (kept (state_of old)) h → IsLawful (kept (state_of new)) (e ∷ h)
  called_lawful h lawful = lawful_after e old new h called.sound called.given called.made lawful

  pub called_allowed : (h : History) → IsLawful (kept (state_of old)) h → refusal e (state h) ≡ None
  called_allowed h lawful = ap (refusal e) (sym (stands_for old h called.sound lawful)) ∙ called.allowed

-- ---- who lives
life_shown : {A B : Type 0} (f : A → B) (row : Option A) → cond (is_some row) Live Gone ≡ life_of (option_map f row)
life_shown f None = refl
life_shown f (Some row) = refl

pub life_if_there : {A B : Type 0} (f : A → B) (row : Option A) (there : Bool) (told : Life) → there ≡ is_some row
    → told ≡ cond there Live Gone
    → told ≡ life_of (option_map f row)
life_if_there f row there told is told_is = told_is ∙ (ap (λ b. cond b Live Gone) is ∙ life_shown f row)

a_byte : (b : ℕ) → b < 256 → All (λ b. b < 256) (b ∷ [])
a_byte b small = All-cons (λ b. b < 256) b [] small (All-nil (λ b. b < 256))

a_cause : (cause : Cause) → All (λ b. b < 256) (cause_byte cause ∷ [])
a_cause Eof = a_byte 0 (omega arith)
a_cause Fault = a_byte 1 (omega arith)
a_cause Starved = a_byte 2 (omega arith)
a_cause NoThread = a_byte 3 (omega arith)

two_bytes : (port : ℕ) → All (λ b. b < 256) (little_bytes 2 port)
two_bytes port =
    subst (All (λ b. b < 256)) (sym (two_cells port))
    (All-cons (λ b. b < 256) (port % 256) (port / 256 % 256 ∷ []) (omega arith) (a_byte (port / 256 % 256) (omega arith)))
  where
    two_cells : (n : ℕ) → little_bytes 2 n ≡ n % 256 ∷ (n / 256 % 256) ∷ []
    two_cells n = cc

-- ---- the calls of a client, and of a link
module _ (n : ℕ) (old new : Tables) (sound : IsSound old) where
  abbrev OfClient : Type 0
  OfClient = IsNamed n old.stopped old.joined

  allowed : OfClient → unless_stopped old.stopped (unless_drawn (is_drawn old.joined n) (NoClient n)) ≡ None
  allowed named = allowed_of old.stopped old.joined n (NoClient n) named.open_to

  pub read_called : (bytes : List ℕ) → All (λ b. b < 256) bytes → IsNamed n old.stopped old.joined → Makes (Read n bytes) old new
      → Called (Read n bytes) old new
  read_called bytes are named made = record {
    sound = sound;
    given = record { range = record { owner = named.range; port = tt; bytes = are }; may = (named.open_to.going, named.open_to.in_use) };
    allowed = allowed named;
    made = made;
  }

  pub end_called : (cause : Cause) → IsNamed n old.stopped old.joined → Makes (End n cause) old new → Called (End n cause) old new
  end_called cause named made = record {
    sound = sound;
    given = record {
      range = record { owner = named.range; port = tt; bytes = a_cause cause };
      may =
          (named.open_to.going, named.open_to.in_use);
    };
    allowed = allowed named;
    made = made;
  }

  pub bound_called : (port : ℕ) → port < 2 ^ 16 → IsNamed n old.stopped old.joined → Makes (Bound n port) old new
      → Called (Bound n port) old new
  bound_called port short named made = record {
    sound = sound;
    given = record {
      range = record { owner = named.range; port = short; bytes = two_bytes port };
      may =
          (named.open_to.going, named.open_to.in_use);
    };
    allowed = allowed named;
    made = made;
  }

  link_allowed : IsNamed n old.stopped old.devices.drawn → unless_stopped old.stopped
      (unless_drawn (is_drawn old.devices.drawn n) (NoLink n)) ≡ None
  link_allowed named = allowed_of old.stopped old.devices.drawn n (NoLink n) named.open_to

  pub recv_called : (bytes : List ℕ) → All (λ b. b < 256) bytes → IsNamed n old.stopped old.devices.drawn → Makes (Recv n bytes) old new
      → Called (Recv n bytes) old new
  recv_called bytes are named made = record {
    sound = sound;
    given = record { range = record { owner = named.range; port = tt; bytes = are }; may = (named.open_to.going, named.open_to.in_use) };
    allowed = link_allowed named;
    made = made;
  }

  pub detach_called : (cause : Cause) → IsNamed n old.stopped old.devices.drawn → Makes (Detach n cause) old new
      → Called (Detach n cause) old new
  detach_called cause named made = record {
    sound = sound;
    given = record {
      range = record { owner = named.range; port = tt; bytes = a_cause cause };
      may =
          (named.open_to.going, named.open_to.in_use);
    };
    allowed = link_allowed named;
    made = made;
  }

-- ---- clients and devices that come
pub record IsNextOf (n : ℕ) (stopped : Bool) (joined : ℕ) : Type 0 where
  pub going : stopped ≡ false
  pub is : n ≡ joined + 1
  pub left : unless_worn joined ≡ None

pub next_of : (n : ℕ) (stopped : Bool) (joined : ℕ) → Ok n ≡ next_client stopped joined → IsNextOf n stopped joined
next_of n true joined e = absurd (let clash : Ok n ≡ Err Stopped = e in cc)
next_of n false joined e = go (joined == 2 ^ 32 - 1) refl e
  where
    go : (b : Bool) → (joined == 2 ^ 32 - 1) ≡ b → Ok n ≡ cond b (Err Numbers) (Ok (joined + 1)) → IsNextOf n false joined
    go true is e = absurd (let clash : Ok n ≡ Err Numbers = e in cc)
    go false is e = record { going = refl; is = (let same : n ≡ joined + 1 = cc in same); left = ap (λ b. cond b (Some Numbers) None) is }

next_allowed : (stopped : Bool) (joined : ℕ) → stopped ≡ false → unless_worn joined ≡ None
    → unless_stopped stopped (unless_worn joined) ≡ None
next_allowed stopped joined going left = ap (λ b. unless_stopped b (unless_worn joined)) going ∙ left

module _ (n : ℕ) (old new : Tables) (sound : IsSound old) (range : n < 2 ^ 32) (next : IsNextOf n old.stopped old.joined) where
  pub join_called : Makes (Join n) old new → Called (Join n) old new
  join_called made = record {
    sound = sound;
    given = record { range = record { owner = range; port = tt; bytes = All-nil (λ b. b < 256) }; may = (next.going, next.is) };
    allowed = next_allowed old.stopped old.joined next.going next.left;
    made = made;
  }

  pub enter_called : (port : ℕ) → port < 2 ^ 16 → Makes (Enter n port) old new → Called (Enter n port) old new
  enter_called port short made = record {
    sound = sound;
    given = record { range = record { owner = range; port = short; bytes = two_bytes port }; may = (next.going, next.is) };
    allowed = next_allowed old.stopped old.joined next.going next.left;
    made = made;
  }

-- ---- hand-outs
pub record IsHeard (n drawn : ℕ) : Type 0 where
  pub range : n < 2 ^ 32
  pub is : is_drawn drawn n ≡ true

pub heard : (n drawn : ℕ) (why : HubError) → n < 2 ^ 32 → Ok tt ≡ err_if (unless_drawn (is_drawn drawn n) why) → IsHeard n drawn
heard n drawn why range e = go (is_drawn drawn n) refl e
  where
    go : (b : Bool) → is_drawn drawn n ≡ b → Ok tt ≡ err_if (unless_drawn b why) → IsHeard n drawn
    go true is e = record { range = range; is = is }
    go false is e = absurd (let clash : Ok tt ≡ Err why = e in cc)

module _ (n : ℕ) (bytes : List ℕ) (old new : Tables) (sound : IsSound old) (are : All (λ b. b < 256) bytes) where
  pub put_called : IsHeard n old.joined → MayPut (state_of old) ((state_of old).clients n) bytes → Makes (Put n bytes) old new
      → Called (Put n bytes) old new
  put_called heard may made = record {
    sound = sound;
    given = record { range = record { owner = heard.range; port = tt; bytes = are }; may = may };
    allowed = ap (λ b. unless_drawn b (NoClient n)) heard.is;
    made = made;
  }

  pub send_called : IsHeard n old.devices.drawn → MaySend ((state_of old).links n) bytes → Makes (Send n bytes) old new
      → Called (Send n bytes) old new
  send_called heard may made = record {
    sound = sound;
    given = record { range = record { owner = heard.range; port = tt; bytes = are }; may = may };
    allowed = ap (λ b. unless_drawn b (NoLink n)) heard.is;
    made = made;
  }

-- some of the first bytes are some of all
some_of : (max : ℕ) (all bytes : List ℕ) → (bytes ≡ take max all) × (bytes ≢ []) → IsSomeOf bytes all
some_of max all bytes h = record {
  some = h.1;
  front = (drop max all, ap (λ (b : List ℕ). b ++ drop max all) h.0 ∙ take-append-drop max all);
}

pub short_front : (max : ℕ) (all bytes : List ℕ) → IsFront max all (Some bytes) → length bytes ≤ max
short_front max all bytes h = omega (arith, ap (λ (b : List ℕ). length b) h.0, length-take max all)

pub may_put : (max : ℕ) (s : State) (row : Option Client) (bytes : List ℕ)
    → IsFront max (answers.offered_to s.devices row) (Some bytes) → MayPut s row bytes
may_put max s None bytes h = absurd (h.1 (h.0 ∙ take-nil max))
may_put max s (Some client) bytes h = some_of max (offered s.devices client) bytes h

pub may_send : (max : ℕ) (row : Option Link) (bytes : List ℕ) → IsFront max (answers.due_on row) (Some bytes) → MaySend row bytes
may_send max None bytes h = absurd (h.1 (h.0 ∙ take-nil max))
may_send max (Some link) bytes h = some_of max link.due bytes h

-- what was put, or why nothing was
pub nothing_put : (max : ℕ) (s : State) (row : Option Client) (e : List ℕ → Entry) (h : History) (old new : Kept)
    → IsFront max (answers.offered_to s.devices row) None → new ≡ old
    → HandsOut e max (hub.offered_to s.devices row) (handed_as None (life_of row)) h old new
nothing_put max s None e h old new none same = same
nothing_put max s (Some client) e h old new none same = (none, same)

pub nothing_sent : (max : ℕ) (row : Option Link) (e : List ℕ → Entry) (h : History) (old new : Kept)
    → IsFront max (answers.due_on row) None → new ≡ old → HandsOut e max (hub.due_on row) (handed_as None (life_of row)) h old new
nothing_sent max None e h old new none same = same
nothing_sent max (Some link) e h old new none same = (none, same)

pub bytes_put : (max : ℕ) (s : State) (row : Option Client) (e : List ℕ → Entry) (h : History) (bytes : List ℕ) (old new : Kept)
    → IsFront max (answers.offered_to s.devices row) (Some bytes) → IsLawful new (e bytes ∷ h)
    → HandsOut e max (hub.offered_to s.devices row) (Bytes bytes) h old new
bytes_put max s None e h bytes old new front lawful = absurd (front.1 (front.0 ∙ take-nil max))
bytes_put max s (Some client) e h bytes old new front lawful = (front.0, front.1, lawful)

pub bytes_sent : (max : ℕ) (row : Option Link) (e : List ℕ → Entry) (h : History) (bytes : List ℕ) (old new : Kept)
    → IsFront max (answers.due_on row) (Some bytes) → IsLawful new (e bytes ∷ h)
    → HandsOut e max (hub.due_on row) (Bytes bytes) h old new
bytes_sent max None e h bytes old new front lawful = absurd (front.1 (front.0 ∙ take-nil max))
bytes_sent max (Some link) e h bytes old new front lawful = (front.0, front.1, lawful)

-- a device that may come
pub record IsPlugged (serial : List ℕ) (old : Tables) : Type 0 where
  pub range : old.devices.drawn + 1 < 2 ^ 32
  pub bytes : All (λ b. b < 256) serial
  pub going : old.stopped ≡ false
  pub taken : attach_refusal old.devices serial ≡ None

pub plugged_by : (serial : List ℕ) (t : Tables) (id : ℕ) → t.devices.drawn + 1 < 2 ^ 32 → All (λ b. b < 256) serial → t.stopped ≡ false
    → (X : Type 0) → MatchOption (attach_refusal t.devices serial) X (λ why. Ok id ≡ Err why) → IsPlugged serial t
plugged_by serial t id range bytes going X given = record {
  range = range;
  bytes = bytes;
  going = going;
  taken = go (attach_refusal t.devices serial) given;
}
  where
    go : (refusal : Option AttachError) → MatchOption refusal X (λ why. Ok id ≡ Err why) → refusal ≡ None
    go None given = refl
    go (Some why) given = absurd (let clash : Ok id ≡ Err why = given in cc)

a_letter : (kind : Kind) → plug_letter kind < 256
a_letter Usb = omega arith
a_letter Local = omega arith

-- a device that comes
pub attach_called : (kind : Kind) (serial : List ℕ) (old new : Tables) → IsSound old → IsPlugged serial old → Makes
    (Attach (old.devices.drawn + 1) kind serial) old new
    → Called (Attach (old.devices.drawn + 1) kind serial) old new
attach_called kind serial old new sound plugged made = record {
  sound = sound;
  given = record {
    range = record {
      owner = plugged.range;
      port = tt;
      bytes = All-cons (λ b. b < 256) (plug_letter kind) serial (a_letter kind) plugged.bytes;
    };
    may = (plugged.going, refl, plugged.taken);
  };
  allowed = ap (λ b. unless_stopped b (option_map attach_error (attach_refusal old.devices serial))) plugged.going
      ∙ ap (option_map attach_error) plugged.taken;
  made = made;
}
