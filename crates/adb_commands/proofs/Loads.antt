-- What a run of a load leaves.
use Rattle.std.proofs.Common.{ℕ, ◌≡◌, ◌≤◌, ◌-◌, ◌^◌, ◌&&◌, nat_le, ◌∙◌, Bool, true, false, if◌then◌else◌, List, [], ◌∷◌, ◌++◌, take, drop}
use Rattle.std.proofs.Common.{codes}
use Rattle.std.proofs.Common.{Option, Some, None, refl, subst, arith}
use Rattle.std.specs.Prelude.{option_and_then, option_map, bytes_eq}
use Rattle.std.proofs.lemmas.Bool.{leb-true}
use Rattle.std.proofs.lemmas.List.{take-append-drop}
use Rattle.adb_outside.specs.Decimal.{number_in}
use Rattle.adb_history.specs.Machine.{History, IsLegal}
use Rattle.adb_laws_answered.proofs.ServedLaws.{answered}
use Rattle.adb_laws_causes.proofs.AllCauses.{all_causes}
use Rattle.adb_laws_loads.proofs.Legal.{load_legal}
use Rattle.adb_headline.proofs.Fifo.{all_fifo}
use Rattle.adb_words.specs.Words.{command_of, gen_of, load_of, number_within, bare_of, seed_of}
use Rattle.adb_words.specs.declared.command.Command.{Command}
use Rattle.adb_words.specs.declared.command.Command.TheVariants.{Replay, Check, Gen, Local, Copy}
use Rattle.adb_words.specs.declared.command.TheConstants.{MAX_STREAMS, MAX_DIGITS}
use Rattle.adb_replay.specs.Keeping.{HasFront}
use Rattle.adb_commands.specs.Loads.{IsPromised, made}

-- what the laws of whole histories say of a legal one
pub promised : (h : History) → IsLegal h → IsPromised h
promised h legal = record { legal = legal; fifo = all_fifo h legal; causes = all_causes h legal; answered = answered h legal }

-- where the sink failed a front of the text went out
pub part_out : (text piece had : List ℕ) (taken : ℕ) (written : Option (List ℕ)) → piece ≡ text → written ≡ Some (had ++ take taken piece)
    → HasFront had text written
part_out text piece had taken written same is = record {
  growth = take taken piece;
  is = is;
  front = (drop taken piece, take-append-drop taken piece ∙ same);
}

-- ---- the size of a load that words name
within : (least most : ℕ) (o : Option ℕ) (n : ℕ) → option_and_then
    (λ m. if nat_le least m && nat_le m most then Some m else None) o ≡ Some n → n ≤ most
within least most None n e = absurd (let clash : None ≡ Some n = e in cc)
within least most (Some m) n e = go (nat_le least m) (nat_le m most) refl e
  where
    go : (a b : Bool) → nat_le m most ≡ b → (if a && b then Some m else None) ≡ Some n → n ≤ most
    go true true is same = let m_is : m ≡ n = cc in subst (λ (k : ℕ). k ≤ most) m_is (leb-true m most is)
    go true false is same = absurd (let clash : None ≡ Some n = same in cc)
    go false b is same = absurd (let clash : None ≡ Some n = same in cc)

streams_within : (seed streams : ℕ) (a b : Option ℕ) → load_of a b ≡ Some (Gen seed streams) → b ≡ Some streams
streams_within seed streams (Some x) (Some y) e = let same : Some (Gen x y) ≡ Some (Gen seed streams) = e in cc
streams_within seed streams None b e = absurd (let clash : None ≡ Some (Gen seed streams) = e in cc)
streams_within seed streams (Some x) None e = absurd (let clash : None ≡ Some (Gen seed streams) = e in cc)

few_streams : (words : List (List ℕ)) (seed streams : ℕ) → gen_of words ≡ Some (Gen seed streams) → streams ≤ MAX_STREAMS
few_streams (a ∷ b ∷ []) seed streams e =
    within 1 MAX_STREAMS (number_in MAX_DIGITS b) streams
    (streams_within seed streams (number_within 0 (2 ^ 64 - 1) a) (number_within 1 MAX_STREAMS b) e)
few_streams [] seed streams e = absurd (let clash : None ≡ Some (Gen seed streams) = e in cc)
few_streams (a ∷ []) seed streams e = absurd (let clash : None ≡ Some (Gen seed streams) = e in cc)
few_streams (a ∷ b ∷ c ∷ words) seed streams e = absurd (let clash : None ≡ Some (Gen seed streams) = e in cc)

no_load : (command : Command) (words : List (List ℕ)) (seed streams : ℕ) → ¬ (Some command ≡ Some (Gen seed streams))
    → bare_of command words ≡ Some (Gen seed streams) → ⊥
no_load command [] seed streams other e = other e
no_load command (word ∷ words) seed streams other e = let clash : None ≡ Some (Gen seed streams) = e in cc

no_script : (seeded : ℕ → Command) (seed_named : Option ℕ) (seed streams : ℕ)
    → ((named : ℕ) → ¬ (Some (seeded named) ≡ Some (Gen seed streams)))
    → option_map seeded seed_named ≡ Some (Gen seed streams) → ⊥
no_script seeded None seed streams other e = let clash : None ≡ Some (Gen seed streams) = e in cc
no_script seeded (Some named) seed streams other e = other named e

few_named : (words : List (List ℕ)) (seed streams : ℕ) → command_of words ≡ Some (Gen seed streams) → streams ≤ MAX_STREAMS
few_named [] seed streams e = absurd (let clash : None ≡ Some (Gen seed streams) = e in cc)
few_named (name ∷ words) seed streams e = go (bytes_eq name (codes "replay")) (bytes_eq name (codes "check")) (bytes_eq name (codes "gen"))
    (bytes_eq name (codes "local")) (bytes_eq name (codes "copy")) e
  where
    go : (a b c d f : Bool) → (if a then bare_of Replay words else (if b then bare_of Check words else (if c then gen_of words
        else (if d then option_map Local (seed_of words) else
        (if f then option_map Copy (seed_of words) else None))))) ≡ Some (Gen seed streams)
        → streams ≤ MAX_STREAMS
    go true b c d f is = absurd (no_load Replay words seed streams (λ e. cc) is)
    go false true c d f is = absurd (no_load Check words seed streams (λ e. cc) is)
    go false false true d f is = few_streams words seed streams is
    go false false false true f is = absurd (no_script Local (seed_of words) seed streams (λ named e. cc) is)
    go false false false false true is = absurd (no_script Copy (seed_of words) seed streams (λ named e. cc) is)
    go false false false false false is = absurd (let clash : None ≡ Some (Gen seed streams) = is in cc)

-- what a server makes of a load that words name is promised
pub load_promised : (words : List (List ℕ)) (seed streams : ℕ) → command_of words ≡ Some (Gen seed streams) → IsPromised (made seed streams)
load_promised words seed streams e =
    let few = few_named words seed streams e in promised (made seed streams) (load_legal seed streams (omega (arith, few)))
