-- What entries leave of bytes, numbers and sessions.
use Rattle.std.specs.Prelude.{ℕ, ◌+◌, ◌≡◌, ◌≢◌, Bool, cond}
use Rattle.std.specs.Prelude.{List, ◌∷◌, ◌++◌, length, take, drop, Option, Some, None, option_map}
use Rattle.std.proofs.Common.{refl, sym, ◌∙◌, ap, subst, arith, ◌⊎◌, inl, inr}
use Rattle.std.proofs.lemmas.Bool.{cases_eq, eq-eqb, ne_eqb}
use Rattle.std.proofs.lemmas.List.{length-take, length-drop, take-append-drop}
use Rattle.std.proofs.Math.Seq.{take-add, take-append_seam}
use Rattle.adb_outside.specs.Tables.{at}
use Rattle.adb_capture.specs.declared.entry.Entry.TheVariants.{Read, Put}
use Rattle.adb_history.specs.Machine.{History}
use Rattle.adb_history.specs.Bytes.{bytes_read, bytes_put}
use Rattle.adb_world.specs.Parts.{IsKeptAt, IsSame, AreSame}
use Rattle.adb_world.specs.Session.{Changes, IsTold, handed, wrote, left_of}
use Rattle.adb_world.specs.declared.session.Session.{Session}
use Rattle.adb_world.proofs.Gone.{gone_put, gone_read, none_stays}

-- ---- the same sessions
same_session : (o : Option Session) → IsSame o o
same_session None = tt
same_session (Some session) = (refl, refl)

pub same_sessions : (sessions : List (ℕ × Session)) → AreSame sessions sessions
same_sessions sessions c = same_session (at c sessions)

-- a change that leaves the service and the words
pub record IsChange (change : Session → Session) : Type 0 where
  pub service : (session : Session) → (change session).service ≡ session.service
  pub words : (session : Session) → (change session).words ≡ session.words

changed_session : (change : Session → Session) → IsChange change → (o : Option Session) → IsSame o (option_map change o)
changed_session change is None = tt
changed_session change is (Some session) = (is.service session, is.words session)

pub changed_same : (number : ℕ) (change : Session → Session) → IsChange change → (old new : List (ℕ × Session))
    → Changes number change old new
    → AreSame old new
changed_same number change is old new puts c = go (cases_eq c number)
  where
    go : (c ≡ number) ⊎ (c ≢ number) → IsSame (at c old) (at c new)
    go (inl here) =
        subst (λ (k : ℕ). IsSame (at k old) (at k new)) (sym here)
        (subst (IsSame (at number old)) (sym puts.here) (changed_session change is (at number old)))
    go (inr other) = subst (IsSame (at c old)) (sym (puts.others c other)) (same_session (at c old))

pub hears_same : (piece : List ℕ) → IsChange (handed piece)
hears_same piece = record { service = λ session. refl; words = λ session. refl }

pub writes_same : (n : ℕ) → IsChange (wrote n)
writes_same n = record { service = λ session. refl; words = λ session. refl }

then_same_session : (a b c : Option Session) → IsSame a b → IsSame b c → IsSame a c
then_same_session None None None f g = tt
then_same_session (Some a) (Some b) (Some c) f g = (g.0 ∙ f.0, g.1 ∙ f.1)
then_same_session None None (Some c) f g = absurd g
then_same_session None (Some b) c f g = absurd f
then_same_session (Some a) None c f g = absurd f
then_same_session (Some a) (Some b) None f g = absurd g

pub then_same : (a b c : List (ℕ × Session)) → AreSame a b → AreSame b c → AreSame a c
then_same a b c f g n = then_same_session (at n a) (at n b) (at n c) (f n) (g n)

-- ---- one session is told more
put_told : (h : History) (c : ℕ) (piece : List ℕ) (session : Session) → IsTold h c session
    → IsTold (Put c piece ∷ h) c (handed piece session)
put_told h c piece session told = record {
  known = told.known;
  words = told.words;
  within = told.within;
  read = told.read;
  put =
      ap (λ (b : Bool). cond b (bytes_put c h ++ piece) (bytes_put c h)) (eq-eqb c c refl)
      ∙ ap (λ (x : List ℕ). x ++ piece) told.put;
  alive = told.alive;
}

put_other : (h : History) (n c : ℕ) (piece : List ℕ) (session : Session) → n ≢ c → IsTold h c session → IsTold (Put n piece ∷ h) c session
put_other h n c piece session other told = record {
  known = told.known;
  words = told.words;
  within = told.within;
  read = told.read;
  put = ap (λ (b : Bool). cond b (bytes_put c h ++ piece) (bytes_put c h)) (ne_eqb n c other) ∙ told.put;
  alive = told.alive;
}

take_more : (n : ℕ) (words piece : List ℕ) (m : ℕ) → piece ≡ take m (drop n words)
    → take n words ++ piece ≡ take (n + length piece) words
take_more n words piece m is =
    let rest = drop n words in
    let part : take (length piece) rest ≡ piece =
    ap (λ (x : List ℕ). take (length x) rest) is
    ∙ (ap (take (length (take m rest))) (sym (take-append-drop m rest)) ∙ (take-append_seam (take m rest) (drop m rest) ∙ sym is)) in
    sym (take-add n (length piece) words ∙ ap (λ (x : List ℕ). take n words ++ x) part)

read_told : (h : History) (c m : ℕ) (piece : List ℕ) (session : Session) → piece ≡ take m (left_of session) → IsTold h c session
    → IsTold (Read c piece ∷ h) c (wrote (length piece) session)
read_told h c m piece session is told = record {
  known = told.known;
  words = told.words;
  within = (
      let within = told.within in
      let short = ap length is in
      let some = length-take m (left_of session) in
      let rest = length-drop session.written session.words in
      omega (arith, within, short, some, rest));
  read =
      ap (λ (b : Bool). cond b (bytes_read c h ++ piece) (bytes_read c h)) (eq-eqb c c refl)
      ∙ (ap (λ (x : List ℕ). x ++ piece) told.read ∙ take_more session.written session.words piece m is);
  put = told.put;
  alive = told.alive;
}

read_other : (h : History) (n c : ℕ) (piece : List ℕ) (session : Session) → n ≢ c → IsTold h c session → IsTold (Read n piece ∷ h) c session
read_other h n c piece session other told = record {
  known = told.known;
  words = told.words;
  within = told.within;
  read = ap (λ (b : Bool). cond b (bytes_read c h ++ piece) (bytes_read c h)) (ne_eqb n c other) ∙ told.read;
  put = told.put;
  alive = told.alive;
}

-- ---- the sessions behind an entry of one
module _ (given n : ℕ) (h : History) (piece : List ℕ) (old new : List (ℕ × Session)) (kept : (c : ℕ) → IsKeptAt given h c (at c old)) where
  pub kept_put : Changes n (handed piece) old new → (c : ℕ) → IsKeptAt given (Put n piece ∷ h) c (at c new)
  kept_put puts c = go (cases_eq n c)
    where
      here : (o : Option Session) → IsKeptAt given h n o → IsKeptAt given (Put n piece ∷ h) n (option_map (handed piece) o)
      here None k = none_stays given n (Put n piece) h (λ e. e) (λ gone. gone_put h n gone n piece) k
      here (Some session) (drawn, told) = (drawn, put_told h n piece session told)

      other_at : n ≢ c → (o : Option Session) → IsKeptAt given h c o → IsKeptAt given (Put n piece ∷ h) c o
      other_at other None k = none_stays given c (Put n piece) h (λ e. e) (λ gone. gone_put h c gone n piece) k
      other_at other (Some session) (drawn, told) = (drawn, put_other h n c piece session other told)

      go : (n ≡ c) ⊎ (n ≢ c) → IsKeptAt given (Put n piece ∷ h) c (at c new)
      go (inl is) =
          subst (λ (k : ℕ). IsKeptAt given (Put n piece ∷ h) k (at k new)) is
          (subst (IsKeptAt given (Put n piece ∷ h) n) (sym puts.here) (here (at n old) (kept n)))
      go (inr other) =
          subst (IsKeptAt given (Put n piece ∷ h) c) (sym (puts.others c (λ same. other (sym same)))) (other_at other (at c old) (kept c))

  pub kept_read : (session : Session) → at n old ≡ Some session → (m : ℕ) → piece ≡ take m (left_of session)
      → Changes n (wrote (length piece)) old new → (c : ℕ) → IsKeptAt given (Read n piece ∷ h) c (at c new)
  kept_read session is m first puts c = go (cases_eq n c)
    where
      here : IsKeptAt given h n (Some session) → IsKeptAt given (Read n piece ∷ h) n (Some (wrote (length piece) session))
      here (drawn, told) = (drawn, read_told h n m piece session first told)

      there : at n new ≡ Some (wrote (length piece) session)
      there = puts.here ∙ ap (option_map (wrote (length piece))) is

      other_at : n ≢ c → (o : Option Session) → IsKeptAt given h c o → IsKeptAt given (Read n piece ∷ h) c o
      other_at other None k = none_stays given c (Read n piece) h (λ e. e) (λ gone. gone_read h c gone n piece) k
      other_at other (Some s) (drawn, told) = (drawn, read_other h n c piece s other told)

      go : (n ≡ c) ⊎ (n ≢ c) → IsKeptAt given (Read n piece ∷ h) c (at c new)
      go (inl same) =
          subst (λ (k : ℕ). IsKeptAt given (Read n piece ∷ h) k (at k new)) same
          (subst (IsKeptAt given (Read n piece ∷ h) n) (sym there) (here (subst (IsKeptAt given h n) is (kept n))))
      go (inr other) =
          subst (IsKeptAt given (Read n piece ∷ h) c) (sym (puts.others c (λ same. other (sym same)))) (other_at other (at c old) (kept c))
