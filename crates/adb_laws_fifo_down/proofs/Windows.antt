-- What is acknowledged was handed out, through each turn of what is seen of a stream.
use Rattle.std.proofs.Common.{ℕ, ◌+◌, ◌-◌, ◌≡◌, ◌≢◌, ◌≤◌, ◌<◌, zero, suc, Bool, true, false, cond, List, [], ◌∷◌, ◌++◌, length, min, Some}
use Rattle.std.proofs.Common.{None, refl, sym}
use Rattle.std.proofs.Common.{◌∙◌, ap, subst}
use Rattle.std.proofs.Common.{arith, eqb}
use Rattle.std.proofs.lemmas.Bool.{eqb-true, eqb-false}
use Rattle.std.proofs.lemmas.List.{length-append, length-drop}
use Rattle.std.proofs.lemmas.List.Elements.{All-cons, All-nil, All-append}
use Rattle.adb_outside.specs.Bytes.{IsPrefixOf}
use Rattle.adb_wire.specs.declared.packets.Packet.{Packet}
use Rattle.adb_history.specs.Links.{okay_packet, credit_packet, credit_word}
use Rattle.adb_history.specs.Births.{joined}
use Rattle.adb_history.specs.Fifo.{whole_within, credit_of, GivesBack}
use Rattle.adb_laws_fifo_down.specs.Line.{SeenStream, View}
use Rattle.adb_laws_fifo_down.specs.Turned.{back_of, row_left, credit_told, whole_told, left_told, stream_left_as}
use Rattle.adb_laws_fifo_down.specs.Life.{Cradle, lead}
use Rattle.adb_laws_fifo_down.specs.Window.{handed_past, IsBackedBy, waiting_write, Counts, IsFlowing}
use Rattle.adb_laws_fifo_down.proofs.Backed.{all_whole, backed_handed, credit_append, credit_given, credit_said}

-- ---- how many were handed out
pub handed_count : (k : Cradle) (out : List ℕ) → handed_past k out ≡ length out - length (lead k)
handed_count k out = length-drop (length (lead k)) out

pub handed_grows : (k : Cradle) (out bytes : List ℕ) → handed_past k out ≤ handed_past k (out ++ bytes)
handed_grows k out bytes = omega (arith, handed_count k out, handed_count k (out ++ bytes), length-append out bytes)

-- what remains of a flow of which some bytes were handed out
pub left_sum : (to_hand whole first out due bytes : ℕ) → to_hand + (out - first) ≡ whole → first + whole ≡ out + due → bytes ≤ due
    → min to_hand (due - bytes) + ((out + bytes) - first) ≡ whole
left_sum to_hand whole first out due bytes left output le = omega (arith, left, output, le)

pub front_within : (bytes due : List ℕ) → IsPrefixOf bytes due → length bytes ≤ length due
front_within bytes due (rest, is) = omega (arith, ap length is, length-append bytes rest)

none_left : (now whole : ℕ) → 0 + now ≡ whole → now ≡ whole
none_left now whole e = omega (arith, e)

-- an OKAY that gives credit
abbrev pub HasWord : Packet → Type 0
HasWord p = credit_word p.payload ≢ None

-- the flow of a row without credit, and with
row_plain : (left : ℕ) (x : SeenStream) → x.credit ≡ false → row_left left x ≡ record x { to_hand = left }
row_plain left x e = ap (λ (c : Bool). cond c
    (record x {
      left = x.left + back_of left x;
      to_hand = left;
      gathered =
          x.gathered + (x.to_hand - left) - back_of left x;
    }) (record x { to_hand = left })) e

row_credit : (left : ℕ) (x : SeenStream) → x.credit ≡ true
    → row_left left x
    ≡ record x {
      left = x.left + back_of left x;
      to_hand = left;
      gathered =
          x.gathered + (x.to_hand - left) - back_of left x;
    }
row_credit left x e = ap (λ (c : Bool). cond c
    (record x {
      left = x.left + back_of left x;
      to_hand = left;
      gathered =
          x.gathered + (x.to_hand - left) - back_of left x;
    }) (record x { to_hand = left })) e

back_within : (left : ℕ) (x : SeenStream) → back_of left x ≤ x.gathered + (x.to_hand - left)
back_within left x = by _
  where
    by : (c : Bool) → cond c (x.gathered + (x.to_hand - left)) 0 ≤ x.gathered + (x.to_hand - left)
    by true = omega arith
    by false = omega arith

module _ (l : ℕ) (k : Cradle) (told : List (List ℕ)) where
  -- what is left of a flow, behind a hand-out
  pub record Handed (x : SeenStream) (handed : ℕ) (u : View) : Type 0 where
    pub row : SeenStream
    pub stream : u.stream ≡ Some row
    pub orphan : row.orphan ≡ x.orphan
    pub credit : row.credit ≡ x.credit
    pub flowing : IsFlowing k row told u.okays handed
    pub backed : IsBackedBy k.credit told u.okays handed

  module _ (x : SeenStream) (v : View) (there : v.stream ≡ Some x) (same : x.credit ≡ k.credit) (before now : ℕ)
      (flow : IsFlowing k x told v.okays before) (backed : IsBackedBy k.credit told v.okays before) (le : before ≤ now) where
    -- as many are left as before
    hands_none : x.to_hand + now ≡ length (joined told) → Handed x now v
    hands_none left = record {
      row = x;
      stream = there;
      orphan = refl;
      credit = refl;
      flowing = record { left = left; counts = by k.credit flow.counts };
      backed = backed_handed k.credit told v.okays before now le backed;
    }
      where
        by : (credit : Bool) → Counts credit x told v.okays before → Counts credit x told v.okays now
        by false counts = counts
        by true counts = omega (arith, counts, le)

    -- fewer are left, of a write
    hands_plain : (left : ℕ) → k.credit ≡ false → left < x.to_hand → left + now ≡ length (joined told)
        → Handed x now (whole_told left l x (record v { stream = Some (record x { to_hand = left }) }))
    hands_plain left plain less sum = by left less sum
      where
        counts : length v.okays + waiting_write x.to_hand ≡ length told
        counts = subst (λ (c : Bool). Counts c x told v.okays before) plain flow.counts

        one : (n : ℕ) → 0 < n → waiting_write n ≡ 1
        one zero lt = absurd (omega (arith, lt))
        one (suc n) lt = refl

        by : (left : ℕ) → left < x.to_hand → left + now ≡ length (joined told)
            → Handed x now (whole_told left l x (record v { stream = Some (record x { to_hand = left }) }))
        by zero lt sum = record {
          row = record x { to_hand = 0 };
          stream = refl;
          orphan = refl;
          credit = refl;
          flowing = record {
            left = sum;
            counts = subst (λ (c : Bool). Counts c (record x { to_hand = 0 }) told (v.okays ++ okay_packet l x.remote ∷ []) now) (sym plain)
                (omega (arith, counts, one x.to_hand lt, length-append v.okays (okay_packet l x.remote ∷ [])));
          };
          backed = subst (λ (c : Bool). IsBackedBy c told (v.okays ++ okay_packet l x.remote ∷ []) now) (sym plain)
              (subst (λ (n : ℕ). length (v.okays ++ okay_packet l x.remote ∷ []) ≤ whole_within n told)
              (sym (none_left now (length (joined told)) sum))
              (omega (arith, counts, one x.to_hand lt, length-append v.okays (okay_packet l x.remote ∷ []), all_whole told)));
        }
        by (suc n) lt sum = record {
          row = record x { to_hand = suc n };
          stream = refl;
          orphan = refl;
          credit = refl;
          flowing = record {
            left = sum;
            counts = subst (λ (c : Bool). Counts c (record x { to_hand = suc n }) told v.okays now) (sym plain)
                (omega (arith, counts, one x.to_hand (omega (arith, lt))));
          };
          backed = backed_handed k.credit told v.okays before now le backed;
        }

    -- or of a credit
    hands_credit : (left : ℕ) → k.credit ≡ true → left < x.to_hand → left + now ≡ length (joined told)
        → Handed x now (credit_told (back_of left x) l x (record v {
          stream = Some
              (record x {
                left = x.left + back_of left x;
                to_hand = left;
                gathered =
                    x.gathered + (x.to_hand - left) - back_of left x;
              });
        }))
    hands_credit left credit less sum = by (back_of left x) (back_within left x)
      where
        given : GivesBack v.okays before
        given = subst (λ (c : Bool). IsBackedBy c told v.okays before) credit backed

        counts : credit_of v.okays + x.gathered ≤ before
        counts = subst (λ (c : Bool). Counts c x told v.okays before) credit flow.counts

        by : (back : ℕ) → back ≤ x.gathered + (x.to_hand - left) → Handed x now (credit_told back l x (record v {
          stream = Some (record x { left = x.left + back; to_hand = left; gathered = x.gathered + (x.to_hand - left) - back });
        }))
        by zero within = record {
          row = record x { left = x.left + 0; to_hand = left; gathered = x.gathered + (x.to_hand - left) - 0 };
          stream = refl;
          orphan = refl;
          credit = refl;
          flowing = record {
            left = sum;
            counts = subst
                (λ (c : Bool). Counts c
                (record x { left = x.left + 0; to_hand = left; gathered = x.gathered + (x.to_hand - left) - 0 })
                told v.okays now) (sym credit) (omega (arith, counts, flow.left, sum, less));
          };
          backed = backed_handed k.credit told v.okays before now le backed;
        }
        by (suc n) within = record {
          row = record x { left = x.left + suc n; to_hand = left; gathered = x.gathered + (x.to_hand - left) - suc n };
          stream = refl;
          orphan = refl;
          credit = refl;
          flowing = record {
            left = sum;
            counts = subst
                (λ (c : Bool). Counts c
                (record x {
                  left = x.left + suc n;
                  to_hand = left;
                  gathered =
                      x.gathered + (x.to_hand - left) - suc n;
                })
                told (v.okays ++ credit_packet l x.remote (suc n) ∷ []) now) (sym credit)
                (omega (
                  arith,
                  counts,
                  flow.left,
                  sum,
                  less,
                  within,
                  credit_append v.okays (credit_packet l x.remote (suc n) ∷ []),
                  credit_given l x.remote
                      (suc n),
                ));
          };
          backed = subst (λ (c : Bool). IsBackedBy c told (v.okays ++ credit_packet l x.remote (suc n) ∷ []) now) (sym credit) (record {
            words = All-append HasWord v.okays (credit_packet l x.remote (suc n) ∷ []) given.words
                (All-cons HasWord (credit_packet l x.remote (suc n)) [] (credit_said l x.remote (suc n)) (All-nil HasWord));
            within = omega (
              arith,
              counts,
              flow.left,
              sum,
              less,
              within,
              credit_append v.okays (credit_packet l x.remote (suc n) ∷ []),
              credit_given l x.remote (suc n),
            );
          });
        }

    -- some bytes are handed out
    pub hands_some : (left : ℕ) → left ≤ x.to_hand → left + now ≡ length (joined told) → Handed x now (stream_left_as left l x v)
    hands_some left within sum = by (eqb left x.to_hand) refl
      where
        less : eqb left x.to_hand ≡ false → left < x.to_hand
        less e = let apart = eqb-false left x.to_hand e in omega (arith, within, apart)

        fewer : (credit : Bool) → x.credit ≡ credit → left < x.to_hand
            → Handed x now (left_told x.credit left l x (record v { stream = Some (row_left left x) }))
        fewer false e lt =
            subst (λ (c : Bool). Handed x now (left_told c left l x (record v { stream = Some (row_left left x) }))) (sym e)
            (subst (λ (y : SeenStream). Handed x now (whole_told left l x (record v { stream = Some y }))) (sym (row_plain left x e))
            (hands_plain left (sym same ∙ e) lt sum))
        fewer true e lt =
            subst (λ (c : Bool). Handed x now (left_told c left l x (record v { stream = Some (row_left left x) }))) (sym e)
            (subst (λ (y : SeenStream). Handed x now
            (credit_told (back_of left x) l x (record v { stream = Some y }))) (sym (row_credit left x e))
            (hands_credit left (sym same ∙ e) lt sum))

        by : (c : Bool) → eqb left x.to_hand ≡ c
            → Handed x now (cond c v (left_told x.credit left l x (record v { stream = Some (row_left left x) })))
        by true e = hands_none (omega (arith, eqb-true left x.to_hand e, sum))
        by false e = fewer x.credit refl (less e)
