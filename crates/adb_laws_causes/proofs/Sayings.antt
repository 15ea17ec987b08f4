-- What more packets say of a stream: its opening, the payloads that were told to it, and its OKAYs.
use Rattle.std.proofs.Common.{◌≡◌, ◌+◌, ℕ, Bool, true, false, cond, not, ◌||◌, ◌&&◌, List, [], ◌∷◌, ◌++◌, length, Option, Some, None, refl}
use Rattle.std.proofs.Common.{sym, ap, ◌∙◌, eqb}
use Rattle.std.proofs.Common.{arith, length-append, append_assoc}
use Rattle.std.specs.Prelude.{nat_eq}
use Rattle.std.specs.List.{list_any}
use Rattle.std.proofs.lemmas.Bool.{eqb-true, eqb-false}
use Rattle.std.proofs.lemmas.List.{append-nil}
use Rattle.adb_wire.specs.Format.{is_cnxn}
use Rattle.adb_wire.specs.declared.command.Command.{Command}
use Rattle.adb_wire.specs.declared.command.Command.TheVariants.{Cnxn, Open, Okay, Wrte, Clse, Auth, Stls}
use Rattle.adb_wire.specs.declared.packets.Packet.{Packet}
use Rattle.adb_history.specs.Links.{credit_word}
use Rattle.adb_history.specs.Births.{Opening, opening_by, opening_in, remote_in, told_in, told_after, joined, is_between, is_wrte, is_okay}
use Rattle.adb_history.specs.Births.{is_clse}
use Rattle.adb_history.specs.Births.{is_close_of}
use Rattle.adb_history.specs.Fifo.{okays_in}
use Rattle.adb_history.specs.Causes.{remote_after, closes_in, okays_behind}
use Rattle.adb_laws_causes.proofs.Turns.{written_after}
use Rattle.adb_laws_causes.proofs.Effects.{okays_after_one}
use Rattle.adb_laws_causes.proofs.RunEffects.{remote_all, written_all, okays_all}

-- ---- lists
told_append : (r l : ℕ) (a b : List Packet) → told_in r l (a ++ b) ≡ told_in r l a ++ told_in r l b
told_append r l [] b = refl
told_append r l (p ∷ a) b = go (is_wrte p.command && is_between r l p) (told_append r l a b)
  where
    go : (c : Bool) → told_in r l (a ++ b) ≡ told_in r l a ++ told_in r l b
        → cond c (p.payload ∷ told_in r l (a ++ b)) (told_in r l (a ++ b))
        ≡ cond c (p.payload ∷ told_in r l a) (told_in r l a) ++ told_in r l b
    go true e = ap (λ (ps : List (List ℕ)). p.payload ∷ ps) e
    go false e = e

joined_append : (a b : List (List ℕ)) → joined (a ++ b) ≡ joined a ++ joined b
joined_append [] b = refl
joined_append (p ∷ a) b = ap (λ ps. p ++ ps) (joined_append a b) ∙ sym (append_assoc p (joined a) (joined b))

okays_append : (r l : ℕ) (a b : List Packet) → okays_in r l (a ++ b) ≡ okays_in r l a + okays_in r l b
okays_append r l [] b = omega arith
okays_append r l (p ∷ a) b = go (is_okay p.command && is_between r l p) (okays_append r l a b)
  where
    go : (c : Bool) → okays_in r l (a ++ b) ≡ okays_in r l a + okays_in r l b
        → cond c (1 + okays_in r l (a ++ b)) (okays_in r l (a ++ b)) ≡ cond c (1 + okays_in r l a) (okays_in r l a) + okays_in r l b
    go true e = omega (arith, e)
    go false e = e

-- ---- an open stream
module _ (r l : ℕ) (some : nat_eq r 0 ≡ false) where
  known_after : (p : Packet) → remote_after r l p ≡ r
  known_after p = ap (λ b. cond (b && is_okay p.command && nat_eq p.arg1 l) p.arg0 r) some

  pub written_known : (packets : List Packet) (written : ℕ) → written_all r l packets written
      ≡ written + length (joined (told_in r l packets))
  written_known [] written = omega arith
  written_known (p ∷ packets) written =
      ap (λ n. written_all n l packets (written_after r l p written)) (known_after p)
      ∙ (written_known packets (written_after r l p written) ∙ (ap (λ b. cond (is_wrte p.command && not b && is_between r l p)
      (written + length p.payload) written + length (joined (told_in r l packets))) some ∙ go (is_wrte p.command) (is_between r l p)))
    where
      go : (a b : Bool) → cond (a && true && b) (written + length p.payload) written + length (joined (told_in r l packets))
          ≡ written + length (joined (cond (a && b) (p.payload ∷ told_in r l packets) (told_in r l packets)))
      go true true = omega (arith, length-append p.payload (joined (told_in r l packets)))
      go true false = refl
      go false b = refl

  pub okays_known : (packets : List Packet) (n : ℕ) → okays_all r l packets n ≡ n + okays_in r l packets
  okays_known [] n = omega arith
  okays_known (p ∷ packets) n =
      ap (λ i. okays_all i l packets (okays_after_one r l p n)) (known_after p)
      ∙ (okays_known packets (okays_after_one r l p n)
      ∙ (ap (λ b. cond (is_okay p.command && not b && is_between r l p) (1 + n) n + okays_in r l packets) some
      ∙ go (is_okay p.command) (is_between r l p)))
    where
      go : (a b : Bool) → cond (a && true && b) (1 + n) n + okays_in r l packets
          ≡ n + cond (a && b) (1 + okays_in r l packets) (okays_in r l packets)
      go true true = omega arith
      go true false = refl
      go false b = refl

  pub remote_known : (packets : List Packet) → remote_all r l packets ≡ r
  remote_known [] = refl
  remote_known (p ∷ packets) = ap (λ n. remote_all n l packets) (known_after p) ∙ remote_known packets

-- an opening stays, with more packets behind it
pub opening_more : (l : ℕ) (a b : List Packet) (o : Opening) → opening_in l a ≡ Some o
    → opening_in l (a ++ b) ≡ Some (record o { later = o.later ++ b })
opening_more l [] b o is = absurd (let clash : None ≡ Some o = is in cc)
opening_more l (p ∷ a) b o is = go p.command is (opening_more l a b o)
  where
    same : (later : List Packet) → Some (record { remote = p.arg0; word = credit_word p.payload; later = a }) ≡ Some o
        → Some (record { remote = p.arg0; word = credit_word p.payload; later = a ++ b }) ≡ Some (record o { later = o.later ++ b })
    same later e =
        let row : record { remote = p.arg0; word = credit_word p.payload; later = a } ≡ o = cc in
        ap (λ (x : Opening). Some (record x { later = x.later ++ b })) row

    okay : (c : Bool) → cond c (Some (record { remote = p.arg0; word = credit_word p.payload; later = a })) (opening_in l a) ≡ Some o
        → (opening_in l a ≡ Some o → opening_in l (a ++ b) ≡ Some (record o { later = o.later ++ b }))
        → cond c (Some (record { remote = p.arg0; word = credit_word p.payload; later = a ++ b })) (opening_in l (a ++ b))
        ≡ Some (record o { later = o.later ++ b })
    okay true e ih = same a e
    okay false e ih = ih e

    close : (c : Bool) → cond c None (opening_in l a) ≡ Some o
        → (opening_in l a ≡ Some o → opening_in l (a ++ b) ≡ Some (record o { later = o.later ++ b }))
        → cond c None (opening_in l (a ++ b)) ≡ Some (record o { later = o.later ++ b })
    close true e ih = absurd (let clash : None ≡ Some o = e in cc)
    close false e ih = ih e

    go : (command : Command) → opening_by command l p a (opening_in l a) ≡ Some o
        → (opening_in l a ≡ Some o → opening_in l (a ++ b) ≡ Some (record o { later = o.later ++ b }))
        → opening_by command l p (a ++ b) (opening_in l (a ++ b)) ≡ Some (record o { later = o.later ++ b })
    go Okay e ih = okay (nat_eq p.arg1 l && not (eqb p.arg0 0)) e ih
    go Clse e ih = close (is_between 0 l p) e ih
    go Cnxn e ih = absurd (let clash : None ≡ Some o = e in cc)
    go _ e ih = ih e

-- ---- a stream that is not open yet
-- what packets say of it that neither close it nor say who its device is
pub record Said (l : ℕ) (packets : List Packet) : Type 0 where
  pub told : length (joined (told_after l (opening_in l packets))) ≡ written_all 0 l packets 0
  pub okays : okays_behind l (opening_in l packets) ≡ okays_all 0 l packets 0
  pub remote : remote_in (opening_in l packets) ≡ remote_all 0 l packets
  pub waits : remote_all 0 l packets ≡ 0 → (more : List Packet) → opening_in l (packets ++ more) ≡ opening_in l more

-- one packet that opens it, or says nothing to it
module _ (l : ℕ) (p : Packet) (packets : List Packet) where
  opens_said : (p.command ≡ Okay) × (nat_eq p.arg1 l ≡ true) × (eqb p.arg0 0 ≡ false) → Said l (p ∷ packets)
  opens_said at =
      let now : opening_in l (p ∷ packets) ≡ Some (record { remote = p.arg0; word = credit_word p.payload; later = packets }) =
      ap (λ c. opening_by c l p packets (opening_in l packets)) at.0
      ∙ (ap (λ b. cond (b && not (eqb p.arg0 0))
      (Some (record { remote = p.arg0; word = credit_word p.payload; later = packets }))
      (opening_in l packets)) at.1
      ∙ ap (λ b. cond (not b) (Some (record { remote = p.arg0; word = credit_word p.payload; later = packets }))
      (opening_in l packets)) at.2) in
      let after : remote_after 0 l p ≡ p.arg0 =
      ap (λ c. cond (true && is_okay c && nat_eq p.arg1 l) p.arg0 0) at.0 ∙ ap (λ b. cond b p.arg0 0) at.1 in
      let none : written_after 0 l p 0 ≡ 0 = ap (λ c. cond (is_wrte c && false && is_between 0 l p) (0 + length p.payload) 0) at.0 in
      let not_again : okays_after_one 0 l p 0 ≡ 0 = ap (λ c. cond (is_okay c && false && is_between 0 l p) (1 + 0) 0) at.0 in
      record {
        told =
            let one : length (joined (told_after l (opening_in l (p ∷ packets)))) ≡ length (joined (told_in p.arg0 l packets)) =
            ap (λ o. length (joined (told_after l o))) now in
            let two : written_all 0 l (p ∷ packets) 0 ≡ 0 + length (joined (told_in p.arg0 l packets)) =
            ap (λ n. written_all n l packets (written_after 0 l p 0)) after
            ∙ (ap (λ w. written_all p.arg0 l packets w) none ∙ written_known p.arg0 l at.2 packets 0) in
            omega (arith, one, two);
        okays =
            let one : okays_behind l (opening_in l (p ∷ packets)) ≡ okays_in p.arg0 l packets = ap (okays_behind l) now in
            let two : okays_all 0 l (p ∷ packets) 0 ≡ 0 + okays_in p.arg0 l packets =
            ap (λ n. okays_all n l packets (okays_after_one 0 l p 0)) after
            ∙ (ap (λ w. okays_all p.arg0 l packets w) not_again ∙ okays_known p.arg0 l at.2 packets 0) in
            omega (arith, one, two);
        remote = ap remote_in now ∙ sym (ap (λ n. remote_all n l packets) after ∙ remote_known p.arg0 l at.2 packets);
        waits = λ e more. absurd (eqb-false p.arg0 0 at.2
            (sym (remote_known p.arg0 l at.2 packets) ∙ (ap (λ n. remote_all n l packets) (sym after) ∙ e)));
      }

  -- it says nothing
  record Nothing : Type 0 where
    after : remote_after 0 l p ≡ 0
    written : written_after 0 l p 0 ≡ 0
    again : okays_after_one 0 l p 0 ≡ 0
    opening : (later : List Packet) (others : Option Opening) → opening_by p.command l p later others ≡ others

  nothing_said : Nothing → (remote_after 0 l p ≡ 0 → Said l packets) → Said l (p ∷ packets)
  nothing_said n later = let s = later n.after in record {
    told = ap (λ o. length (joined (told_after l o))) (n.opening packets (opening_in l packets))
        ∙ (s.told ∙ sym
        (ap (λ i. written_all i l packets (written_after 0 l p 0)) n.after
        ∙ ap (λ w. written_all 0 l packets w) n.written));
    okays = ap (okays_behind l) (n.opening packets (opening_in l packets))
        ∙ (s.okays ∙ sym (ap (λ i. okays_all i l packets (okays_after_one 0 l p 0)) n.after ∙ ap (λ w. okays_all 0 l packets w) n.again));
    remote = ap remote_in (n.opening packets (opening_in l packets)) ∙ (s.remote ∙ ap (λ i. remote_all i l packets) (sym n.after));
    waits = λ e more. n.opening (packets ++ more) (opening_in l (packets ++ more))
        ∙ s.waits (ap (λ i. remote_all i l packets) (sym n.after) ∙ e) more;
  }

  -- the packets behind an OKAY that says nothing
  okay_said : (a b : Bool) → nat_eq p.arg1 l ≡ a → eqb p.arg0 0 ≡ b → p.command ≡ Okay
      → (remote_after 0 l p ≡ 0 → Said l packets) → Said l (p ∷ packets)
  okay_said true false e f c s = opens_said (c, e, f)
  okay_said true true e f c s = nothing_said (record {
    after = ap (λ k. cond (true && is_okay k && nat_eq p.arg1 l) p.arg0 0) c ∙ (ap (λ b. cond b p.arg0 0) e ∙ eqb-true p.arg0 0 f);
    written = ap (λ k. cond (is_wrte k && false && is_between 0 l p) (0 + length p.payload) 0) c;
    again = ap (λ k. cond (is_okay k && false && is_between 0 l p) (1 + 0) 0) c;
    opening = λ later others. ap (λ k. opening_by k l p later others) c
        ∙ (ap (λ b. cond (nat_eq p.arg1 l && not b)
        (Some (record { remote = p.arg0; word = credit_word p.payload; later = later })) others) f
        ∙ ap (λ b. cond (b && false) (Some (record { remote = p.arg0; word = credit_word p.payload; later = later })) others) e);
  }) s
  okay_said false b e f c s = nothing_said (record {
    after = ap (λ k. cond (true && is_okay k && nat_eq p.arg1 l) p.arg0 0) c ∙ ap (λ b. cond b p.arg0 0) e;
    written = ap (λ k. cond (is_wrte k && false && is_between 0 l p) (0 + length p.payload) 0) c;
    again = ap (λ k. cond (is_okay k && false && is_between 0 l p) (1 + 0) 0) c;
    opening = λ later others. ap (λ k. opening_by k l p later others) c
        ∙ ap (λ b. cond (b && not (eqb p.arg0 0))
        (Some (record { remote = p.arg0; word = credit_word p.payload; later = later })) others) e;
  }) s

  -- another command
  command_said : (command : Command) → p.command ≡ command → (is_okay command ≡ false)
      × (is_wrte command && false && is_between 0 l p ≡ false)
      × ((later : List Packet) (others : Option Opening) → opening_by command l p later others ≡ others)
      → (remote_after 0 l p ≡ 0 → Said l packets) → Said l (p ∷ packets)
  command_said command c at s = nothing_said (record {
    after = ap (λ k. cond (true && is_okay k && nat_eq p.arg1 l) p.arg0 0) c ∙ ap (λ b. cond (true && b && nat_eq p.arg1 l) p.arg0 0) at.0;
    written = ap (λ k. cond (is_wrte k && false && is_between 0 l p) (0 + length p.payload) 0) c
        ∙ ap (λ b. cond b (0 + length p.payload) 0) at.1;
    again = ap (λ k. cond (is_okay k && false && is_between 0 l p) (1 + 0) 0) c
        ∙ ap (λ b. cond (b && false && is_between 0 l p) (1 + 0) 0) at.0;
    opening = λ later others. ap (λ k. opening_by k l p later others) c ∙ at.2 later others;
  }) s

  one_said : (command : Command) → p.command ≡ command → is_cnxn command ≡ false → is_close_of 0 l p ≡ false
      → (remote_after 0 l p ≡ 0 → Said l packets)
      → Said l (p ∷ packets)
  one_said Okay c e f s = okay_said (nat_eq p.arg1 l) (eqb p.arg0 0) refl refl c s
  one_said Open c e f s = command_said Open c (refl, refl, λ later others. refl) s
  one_said Wrte c e f s = command_said Wrte c (refl, refl, λ later others. refl) s
  one_said Auth c e f s = command_said Auth c (refl, refl, λ later others. refl) s
  one_said Stls c e f s = command_said Stls c (refl, refl, λ later others. refl) s
  one_said Cnxn c e f s = absurd (let clash : true ≡ false = e in cc)
  one_said Clse c e f s =
      command_said Clse c
      (refl, refl, λ later others. ap (λ b. cond b None others) (open_still (is_between 0 l p) shut)) s
    where
      shut : (is_between 0 l p || is_between 0 l p) ≡ false
      shut = sym (ap (λ k. is_clse k && (is_between 0 l p || is_between 0 l p)) c) ∙ f

      open_still : (b : Bool) → (b || b) ≡ false → b ≡ false
      open_still true g = g
      open_still false g = g

-- what one of two tests says where neither passes
pub neither : (a b : Bool) → (a || b) ≡ false → (a ≡ false) × (b ≡ false)
neither true b e = absurd (let clash : true ≡ false = e in cc)
neither false b e = (refl, e)

pub all_said : (l : ℕ) (packets : List Packet) → closes_in 0 l packets ≡ false
    → list_any (λ p. is_cnxn p.command) packets ≡ false → Said l packets
all_said l [] shut cnxn = record { told = refl; okays = refl; remote = refl; waits = λ e more. refl }
all_said l (p ∷ packets) shut cnxn =
    let first = neither (is_close_of 0 l p) (closes_in (remote_after 0 l p) l packets) shut in
    let kinds = neither (is_cnxn p.command) (list_any (λ p. is_cnxn p.command) packets) cnxn in
    one_said l p packets p.command refl kinds.0 first.0
    (λ after. all_said l packets (ap (λ n. closes_in n l packets) (sym after) ∙ first.1) kinds.1)

-- ---- a stream, after more packets
-- how many bytes were told to it, and how many OKAYs came after its opening
abbrev pub written_in : ℕ → List Packet → ℕ
written_in l packets = length (joined (told_after l (opening_in l packets)))

abbrev pub okays_behind_in : ℕ → List Packet → ℕ
okays_behind_in l packets = okays_behind l (opening_in l packets)

-- what more packets add
pub record SaidMore (l r : ℕ) (packets more : List Packet) : Type 0 where
  pub told : written_in l (packets ++ more) ≡ written_all r l more (written_in l packets)
  pub okays : okays_behind_in l (packets ++ more) ≡ okays_all r l more (okays_behind_in l packets)
  pub remote : remote_in (opening_in l (packets ++ more)) ≡ remote_all r l more
  pub waits : remote_all r l more ≡ 0 → (last : List Packet) → opening_in l ((packets ++ more) ++ last) ≡ opening_in l last

module _ (l r : ℕ) (packets more : List Packet) (known : remote_in (opening_in l packets) ≡ r) where
  -- an open one
  open_more : nat_eq r 0 ≡ false → (o : Option Opening) → opening_in l packets ≡ o → SaidMore l r packets more
  open_more some None is = absurd (eqb-false r 0 some (sym (sym (ap remote_in is) ∙ known)))
  open_more some (Some o) is =
      let now : opening_in l (packets ++ more) ≡ Some (record o { later = o.later ++ more }) = opening_more l packets more o is in
      let own : o.remote ≡ r = sym (ap remote_in is) ∙ known in
      record {
        told =
            let before : written_in l packets ≡ length (joined (told_in o.remote l o.later)) =
            ap (λ x. length (joined (told_after l x))) is in
            let after : written_in l (packets ++ more) ≡ length (joined (told_in o.remote l (o.later ++ more))) = ap (λ x. length (joined
            (told_after l x))) now in
            let parts : length (joined (told_in o.remote l (o.later ++ more)))
            ≡ length (joined (told_in o.remote l o.later)) + length (joined (told_in o.remote l more)) =
            ap (λ ps. length (joined ps)) (told_append o.remote l o.later more)
            ∙ (ap length (joined_append (told_in o.remote l o.later) (told_in o.remote l more))
            ∙ length-append (joined (told_in o.remote l o.later)) (joined (told_in o.remote l more))) in
            let all : written_all r l more (written_in l packets) ≡ written_in l packets + length (joined (told_in r l more)) =
            written_known r l some more (written_in l packets) in
            let same : length (joined (told_in o.remote l more)) ≡ length (joined (told_in r l more)) =
            ap (λ n. length (joined (told_in n l more))) own in
            omega (arith, before, after, parts, all, same);
        okays =
            let before : okays_behind_in l packets ≡ okays_in o.remote l o.later = ap (okays_behind l) is in
            let after : okays_behind_in l (packets ++ more) ≡ okays_in o.remote l (o.later ++ more) = ap (okays_behind l) now in
            let parts : okays_in o.remote l (o.later ++ more)
            ≡ okays_in o.remote l o.later + okays_in o.remote l more = okays_append o.remote l o.later more in
            let all : okays_all r l more (okays_behind_in l packets) ≡ okays_behind_in l packets + okays_in r l more =
            okays_known r l some more (okays_behind_in l packets) in
            let same : okays_in o.remote l more ≡ okays_in r l more = ap (λ n. okays_in n l more) own in
            omega (arith, before, after, parts, all, same);
        remote = ap remote_in now ∙ (own ∙ sym (remote_known r l some more));
        waits = λ e last. absurd (eqb-false r 0 some (sym (remote_known r l some more) ∙ e));
      }

  -- one that waits
  waiting_more : r ≡ 0 → ((last : List Packet) → opening_in l (packets ++ last) ≡ opening_in l last) → Said l more
      → SaidMore l r packets more
  waiting_more nil waits s =
      let none : opening_in l packets ≡ None = ap (opening_in l) (sym (append-nil packets)) ∙ waits [] in
      record {
        told = ap (λ o. length (joined (told_after l o))) (waits more)
            ∙ (s.told ∙ (ap (λ n. written_all n l more 0) (sym nil) ∙ ap (λ w. written_all r l more w) (sym (ap (λ o. length (joined
            (told_after l o))) none))));
        okays = ap (okays_behind l) (waits more)
            ∙ (s.okays ∙ (ap (λ n. okays_all n l more 0) (sym nil) ∙ ap (λ w. okays_all r l more w) (sym (ap (okays_behind l) none))));
        remote = ap remote_in (waits more) ∙ (s.remote ∙ ap (λ n. remote_all n l more) (sym nil));
        waits = λ e last. ap (opening_in l) (append_assoc packets more last)
            ∙ (waits (more ++ last) ∙ s.waits (ap (λ n. remote_all n l more) (sym nil) ∙ e) last);
      }

  pub said_more : (r ≡ 0 → (last : List Packet) → opening_in l (packets ++ last) ≡ opening_in l last) → closes_in r l more ≡ false
      → list_any (λ p. is_cnxn p.command) more ≡ false → SaidMore l r packets more
  said_more waits shut cnxn = go (nat_eq r 0) refl
    where
      go : (b : Bool) → nat_eq r 0 ≡ b → SaidMore l r packets more
      go false e = open_more e (opening_in l packets) refl
      go true e =
          let nil = eqb-true r 0 e in
          waiting_more nil (waits nil) (all_said l more (ap (λ n. closes_in n l more) (sym nil) ∙ shut) cnxn)
