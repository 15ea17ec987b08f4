-- What a device wrote to one id of its host, of one id of its own.
use Rattle.std.specs.Prelude.{ℕ, ◌+◌, ◌≡◌, ◌≤◌, ◌==◌, ◌&&◌, Bool, true, false, cond, nat_eq, All, List, [], ◌∷◌, length}
use Rattle.std.proofs.Common.{refl, sym, ap, arith, ◌∙◌, ◌⊎◌, inl, inr}
use Rattle.std.proofs.lemmas.Bool.{eq-eqb, eqb-true}
use Rattle.std.proofs.lemmas.List.{length-append}
use Rattle.std.proofs.lemmas.List.Elements.{All-nil, All-cons, All-head, All-tail}
use Rattle.adb_wire.specs.declared.command.Command.{Command}
use Rattle.adb_wire.specs.declared.command.Command.TheVariants.{Cnxn, Open, Okay, Wrte, Clse, Auth, Stls}
use Rattle.adb_wire.specs.declared.packets.Packet.{Packet}
use Rattle.adb_history.specs.Births.{is_clse, is_okay, is_wrte}
use Rattle.adb_daemon.specs.Serving.{Sent}
use Rattle.adb_daemon.specs.Streams.{written, payload_of, is_write}
use Rattle.adb_laws_model_device.specs.Opened.{ComesFrom, is_of_stream}
use Rattle.adb_laws_model_device.specs.Owed.{packets_of_sent}
use Rattle.adb_laws_steps.specs.Receives.{write_bytes, write_len, writes_to}
use Rattle.adb_laws_steps.proofs.Parts.{total, part}

pub total_written : (packets : List Packet) → write_bytes packets ≡ total write_len (λ p. p.arg1) packets
total_written [] = refl
total_written (p ∷ packets) = let e = total_written packets in omega (arith, e)

pub part_is : (l : ℕ) (packets : List Packet) → writes_to l packets ≡ part write_len (λ p. p.arg1) l packets
part_is l [] = refl
part_is l (p ∷ packets) = ap (λ (n : ℕ). cond (nat_eq p.arg1 l) (write_len p) 0 + n) (part_is l packets)

-- what goes to one id comes from one
pub part_written : (l id : ℕ) (made : List Sent) → All (ComesFrom l id) made
    → part write_len (λ p. p.arg1) l (packets_of_sent made) ≤ length (written id made)
part_written l id [] all = omega arith
part_written l id (one ∷ more) all =
    go one.packet.command refl (nat_eq one.packet.arg1 l) refl (part_written l id more (All-tail (ComesFrom l id) one more all))
  where
    from : ComesFrom l id one
    from = All-head (ComesFrom l id) one more all

    other : (c : Command) → one.packet.command ≡ c → is_wrte c ≡ false → (m : Bool)
        → part write_len (λ p. p.arg1) l (packets_of_sent more) ≤ length (written id more)
        → cond m (cond (is_wrte one.packet.command) (length one.packet.payload) 0) 0 + part write_len (λ p. p.arg1) l (packets_of_sent more)
        ≤ length (written id (one ∷ more))
    other c e lacks m le = none m (ap (λ (b : Bool). cond b (length one.packet.payload) 0) (ap is_wrte e ∙ lacks))
      where
        longer : length (written id more) ≤ length (written id (one ∷ more))
        longer = let sum = length-append (payload_of id one) (written id more) in omega (arith, sum)

        none : (m : Bool) → cond (is_wrte one.packet.command) (length one.packet.payload) 0 ≡ 0
            → cond m (cond (is_wrte one.packet.command) (length one.packet.payload) 0) 0
            + part write_len (λ p. p.arg1) l (packets_of_sent more)
            ≤ length (written id (one ∷ more))
        none true zeroth = let long = longer in omega (arith, zeroth, le, long)
        none false zeroth = let long = longer in omega (arith, le, long)

    go : (c : Command) → one.packet.command ≡ c → (m : Bool) → nat_eq one.packet.arg1 l ≡ m
        → part write_len (λ p. p.arg1) l (packets_of_sent more) ≤ length (written id more)
        → cond m (cond (is_wrte one.packet.command) (length one.packet.payload) 0) 0 + part write_len (λ p. p.arg1) l (packets_of_sent more)
        ≤ length (written id (one ∷ more))
    go Wrte e true f le = here (from (ap is_of_stream e) (eqb-true one.packet.arg1 l f))
      where
        here : (one.packet.arg0 ≡ id) ⊎ ((is_clse one.packet.command ≡ true) × (one.packet.arg0 ≡ 0))
            → cond (is_wrte one.packet.command) (length one.packet.payload) 0 + part write_len (λ p. p.arg1) l (packets_of_sent more)
            ≤ length (written id (one ∷ more))
        here (inr closes) = absurd (let clash : false ≡ true = sym (ap is_clse e) ∙ closes.0 in cc)
        here (inl same) =
            let mine : payload_of id one ≡ one.packet.payload =
            ap (λ (c : Command). cond (is_write c && one.packet.arg0 == id) one.packet.payload []) e
            ∙ ap (λ (b : Bool). cond b one.packet.payload []) (eq-eqb one.packet.arg0 id same) in
            let size = ap (length {A = ℕ}) mine in
            let sum = length-append (payload_of id one) (written id more) in
            let len = ap (λ (c : Command). cond (is_wrte c) (length one.packet.payload) 0) e in
            omega (arith, size, sum, len, le)
    go Wrte e false f le = let sum = length-append (payload_of id one) (written id more) in omega (arith, sum, le)
    go Open e m f le = other Open e refl m le
    go Okay e m f le = other Okay e refl m le
    go Clse e m f le = other Clse e refl m le
    go Cnxn e m f le = other Cnxn e refl m le
    go Auth e m f le = other Auth e refl m le
    go Stls e m f le = other Stls e refl m le

-- ---- OKAYs name the one id
-- an OKAY to a stream comes from one id
abbrev pub OkaysFrom : (l id : ℕ) → Packet → Type 0
OkaysFrom l id p = is_okay p.command ≡ true → p.arg1 ≡ l → p.arg0 ≡ id

pub okays_from : (l id : ℕ) (made : List Sent) → All (ComesFrom l id) made → All (OkaysFrom l id) (packets_of_sent made)
okays_from l id [] all = All-nil (OkaysFrom l id)
okays_from l id (one ∷ more) all =
    All-cons (OkaysFrom l id) one.packet (packets_of_sent more) (go one.packet.command refl)
    (okays_from l id more (All-tail (ComesFrom l id) one more all))
  where
    clash : (c : Command) → one.packet.command ≡ c → is_okay c ≡ false → OkaysFrom l id one.packet
    clash c e lacks is to = absurd (let x : true ≡ false = sym is ∙ (ap is_okay e ∙ lacks) in cc)

    from : one.packet.command ≡ Okay → (one.packet.arg0 ≡ id)
        ⊎ ((is_clse one.packet.command ≡ true) × (one.packet.arg0 ≡ 0)) → one.packet.arg0 ≡ id
    from e (inl same) = same
    from e (inr closes) = absurd (let x : false ≡ true = sym (ap is_clse e) ∙ closes.0 in cc)

    go : (c : Command) → one.packet.command ≡ c → OkaysFrom l id one.packet
    go Okay e is to = from e (All-head (ComesFrom l id) one more all (ap is_of_stream e) to)
    go Open e is to = clash Open e refl is to
    go Wrte e is to = clash Wrte e refl is to
    go Clse e is to = clash Clse e refl is to
    go Cnxn e is to = clash Cnxn e refl is to
    go Auth e is to = clash Auth e refl is to
    go Stls e is to = clash Stls e refl is to
