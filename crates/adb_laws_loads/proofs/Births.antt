-- Which streams a load has: none begins but where its client asks for it, and its device opens it at once.
use Rattle.std.proofs.Common.{ℕ, ◌+◌, ◌^◌, ◌≡◌, ◌<◌, ◌≤◌, Bool, true, false, cond, List, [], ◌∷◌, ◌++◌, length, Option, Some, None}
use Rattle.std.proofs.Common.{refl, sym, ap, subst, ◌∙◌, arith, eqb}
use Rattle.std.specs.Prelude.{is_none, codes}
use Rattle.std.proofs.lemmas.Bool.{eqb-false, eq-eqb}
use Rattle.std.proofs.lemmas.List.{append-nil, length-append}
use Rattle.adb_wire.specs.declared.packets.Packet.{Packet}
use Rattle.adb_forward.specs.declared.row.ForwardRow.{ForwardRow}
use Rattle.adb_reply.specs.declared.answer.Next.{Next}
use Rattle.adb_reply.specs.declared.answer.Next.TheVariants as what
use Rattle.adb_capture.specs.declared.entry.Entry.{Entry}
use Rattle.adb_capture.specs.declared.entry.Entry.TheVariants.{Read}
use Rattle.adb_history.specs.Links.{is_credit}
use Rattle.adb_history.specs.Asking.{Asked, nothing_asked, asks_with}
use Rattle.adb_history.specs.Machine.{History}
use Rattle.adb_history.specs.Bytes.{brought}
use Rattle.adb_history.specs.Book.{Book, newly, asked, book, devices_if, devices, forwards}
use Rattle.adb_history.specs.Births.{Birth, births, births_at, birth_by}
use Rattle.adb_load.specs.declared.act.Act.TheVariants.{Come, Ask, Accept}
use Rattle.adb_load.specs.Acts.{client_of, link_of, remote_of, asked_of, entry_of}
use Rattle.adb_laws_loads.proofs.Links.{HasBrought}
use Rattle.adb_laws_loads.proofs.Opened.{begun_on, opened_now}
use Rattle.adb_laws_loads.proofs.Asks.{asks_on}
use Rattle.adb_laws_loads.proofs.Standing.{Stands, same_row, no_more, first_asked, first_book}
use Rattle.adb_laws_loads.proofs.Sums.{AreFrom, all_stay, all_then}

-- So many clients have their stream, one after another, and one `OKAY` was the reply to what each asked.
pub record HasBirths (n : ℕ) (h : History) : Type 0 where
  pub streams : AreFrom 0 (births h) h
  pub counted : length (births h) ≡ n
  pub replied : (c : ℕ) → 0 < c → c ≤ n → length (asked c h).replies ≡ 4

pub births_at_first : HasBirths 0 []
births_at_first = record { streams = tt; counted = refl; replied = λ c some le. absurd (omega (arith, some, le)) }

-- ---- no stream begins
-- An entry says nothing of requests.
pub record AsksNothing (e : Entry) (h : History) : Type 0 where
  pub births : births_at e h ≡ []
  pub asked : (c : ℕ) → asked c (e ∷ h) ≡ asked c h

pub births_stay : (n : ℕ) (e : Entry) (h : History) → AsksNothing e h → HasBirths n h → HasBirths n (e ∷ h)
births_stay n e h nothing has = record {
  streams = subst (λ bs. AreFrom 0 bs (e ∷ h)) (sym same) (all_stay 0 (births h) e h has.streams);
  counted = ap (length {A = Birth}) same ∙ has.counted;
  replied = λ c some le. ap (λ (q : Asked). length q.replies) (nothing.asked c) ∙ has.replied c some le;
}
  where
    same : births h ++ births_at e h ≡ births h
    same = ap (λ bs. births h ++ bs) nothing.births ∙ append-nil (births h)

newly_none : (before after : Option Next) → is_none before ≡ false → newly before after ≡ None
newly_none None after over = absurd (let clash : true ≡ false = over in cc)
newly_none (Some next) after over = refl

-- a client of which no further request is read
pub read_nothing : (n plugged c : ℕ) (bytes : List ℕ) (h : History) → Stands n plugged h
    → is_none (asked c h).next ≡ false → AsksNothing (Read c bytes) h
read_nothing n plugged c bytes h at over = record {
  births = ap (birth_by c (asked c (Read c bytes ∷ h)).used h) (newly_none (asked c h).next (asked c (Read c bytes ∷ h)).next over);
  asked = λ k. ap (λ (b : Book). b.asked k) (no_more n plugged h at c bytes over) ∙ same_row (book h).asked c k;
}

-- ---- a stream begins
module _ (stream plugged : ℕ) (h : History) (at : Stands stream plugged h) (has : HasBirths stream h) where
  abbrev came : History
  came = entry_of (Come stream) ∷ h

  abbrev asked_now : History
  asked_now = entry_of (Ask stream) ∷ came

  abbrev c : ℕ
  c = client_of stream

  abbrev q : Asked
  q = first_asked stream plugged h at

  asked_at : (k : ℕ) → asked k asked_now ≡ cond (eqb c k) q (asked k h)
  asked_at k = ap (λ (b : Book). b.asked k) (first_book stream plugged h at)

  own : asked c asked_now ≡ q
  own = asked_at c ∙ ap (λ b. cond b q (asked c h)) (eq-eqb c c refl)

  -- what the client asks over the devices that are there
  module _ (asks : (rows : List (ℕ × ForwardRow)) → asks_with (devices_if false h) rows (asked_of stream)
      nothing_asked ≡ asks_on (link_of stream)) where
    answer : q ≡ asks_on (link_of stream)
    unfolding first_asked
    answer = ap (λ b. asks_with (devices_if b h) (forwards h) (asked_of stream) nothing_asked) at.killed ∙ asks (forwards h)

    abbrev birth : Birth
    birth = record {
      client = c;
      link = link_of stream;
      credit = is_credit (link_of stream) (devices came);
      forwarded = false;
      service = codes "echo:";
      head = (asked c asked_now).used;
      packets_before = length (brought (link_of stream) came);
    }

    opens : newly (asked c came).next (asked c asked_now).next ≡ Some (what.Open (link_of stream) (codes "echo:"))
    opens =
        ap (λ (before : Asked). newly before.next (asked c asked_now).next) (at.fresh c (omega arith))
        ∙ ap (λ (after : Asked). after.next) (own ∙ answer)

    births_are : births (begun_on stream h) ≡ births h ++ birth ∷ []
    births_are =
        append-nil (births asked_now)
        ∙ (ap (λ bs. bs ++ births_at (entry_of (Ask stream)) came) (append-nil (births h))
        ∙ ap (λ next. births h ++ birth_by c (asked c asked_now).used came next) opens)

    replied_at : (k : ℕ) (here : Bool) → eqb c k ≡ here → 0 < k → k ≤ stream + 1 → length (cond here q (asked k h)).replies ≡ 4
    replied_at k true is some le = ap (λ (after : Asked). length after.replies) answer
    replied_at k false is some le = has.replied k some (omega (arith, le, eqb-false c k is))

    module _ (packets : List Packet) (small : remote_of stream < 2 ^ 32) (brings : HasBrought (link_of stream) packets h) where
      streams_are : AreFrom 0 (births h ++ birth ∷ []) (begun_on stream h)
      streams_are =
          all_then 0 stream (births h) birth (begun_on stream h)
          (all_stay 0 (births h) (entry_of (Accept stream)) asked_now
          (all_stay 0 (births h) (entry_of (Ask stream)) came (all_stay 0 (births h) (entry_of (Come stream)) h has.streams)))
          (omega (arith, has.counted))
          (record {
            client = refl;
            own = refl;
            opened = opened_now stream birth packets h small brings
                (record { link = refl; before = refl });
          })

      -- one more client has its stream
      pub stream_begins : HasBirths (stream + 1) (begun_on stream h)
      stream_begins = record {
        streams = subst (λ bs. AreFrom 0 bs (begun_on stream h)) (sym births_are) streams_are;
        counted = ap (length {A = Birth}) births_are ∙ (length-append (births h) (birth ∷ []) ∙ ap (λ n. n + 1) has.counted);
        replied = λ k some le. ap (λ (after : Asked). length after.replies) (asked_at k) ∙ replied_at k (eqb c k) refl some le;
      }
