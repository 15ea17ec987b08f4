-- What is known of a stream and its client, after one more entry by which the client asks nothing.
use Rattle.std.proofs.Common.{◌≡◌, ℕ, Bool, true, false, not, ◌&&◌, ◌||◌, List, ◌∷◌, refl, sym, ap, subst, ◌∙◌, eqb}
use Rattle.std.proofs.lemmas.Bool.{eq-eqb, eqb-true, eqb-false}
use Rattle.adb_outside.specs.declared.kinds.Cause.{Cause}
use Rattle.adb_capture.specs.declared.entry.Entry.{Entry}
use Rattle.adb_capture.specs.declared.entry.Entry.TheVariants.{Read, End, Recv, Detach}
use Rattle.adb_history.specs.Machine.{History, IsLegal}
use Rattle.adb_history.specs.Bytes.{has_joined, has_failed, is_orderly}
use Rattle.adb_history.specs.Book.{asked}
use Rattle.adb_history.specs.Births.{Birth}
use Rattle.adb_laws_answered.proofs.ShownHistories.{IsShownAt, IsStepped, finished, stepped_other, recv_apart, recv_here}

-- a client whose connection ends by a failure has failed
fails_now : (c n : ℕ) (cause : Cause) (older : History) → is_orderly cause ≡ false → n ≡ c → has_failed c (End n cause ∷ older) ≡ true
fails_now c n cause older orderly same =
    ap (λ (v : Bool). (v && not (is_orderly cause)) || has_failed c older) (eq-eqb n c same)
    ∙ ap (λ (v : Bool). not v || has_failed c older) orderly

module _ (l : ℕ) (b : Birth) where
  module _ (t : ℕ) (bytes : List ℕ) (older : History) where
    recv_either : (legal : IsLegal (Recv t bytes ∷ older)) (came : has_joined b.client older ≡ true)
        (n : IsShownAt l b older) → (here : Bool) → eqb t b.link ≡ here → IsStepped l b (Recv t bytes) older legal came n
    recv_either legal came n false e = recv_apart l b t bytes older legal came n (eqb-false t b.link e)
    recv_either legal came n true e = go t (eqb-true t b.link e) legal
      where
        go : (k : ℕ) → k ≡ b.link → (legal : IsLegal (Recv k bytes ∷ older)) → IsStepped l b (Recv k bytes) older legal came n
        go k same = subst (λ (m : ℕ). (legal : IsLegal (Recv m bytes ∷ older)) → IsStepped l b (Recv m bytes) older legal came n) (sym same)
            (λ legal. recv_here l b bytes older legal came n)

  stepped : (e : Entry) (older : History) (legal : IsLegal (e ∷ older)) (came : has_joined b.client older ≡ true) (n : IsShownAt l b older)
      → IsStepped l b e older legal came n
  stepped (Read m bytes) older legal came n = stepped_other l b (Read m bytes) older legal came n refl refl
  stepped (End m cause) older legal came n =
      stepped_other l b (End m cause) older legal came n refl (λ orderly same. fails_now b.client m cause older orderly same)
  stepped (Recv t bytes) older legal came n = recv_either t bytes older legal came n (eqb t b.link) refl
  stepped (Detach t cause) older legal came n = stepped_other l b (Detach t cause) older legal came n refl (λ same. refl)
  stepped e older legal came n = stepped_other l b e older legal came n refl tt

pub shown_step : (l : ℕ) (b : Birth) (e : Entry) (older : History) → IsLegal (e ∷ older) → has_joined b.client older ≡ true
    → (asked b.client (e ∷ older)).replies ≡ (asked b.client older).replies → IsShownAt l b older → IsShownAt l b (e ∷ older)
shown_step l b e older legal came replies n = finished l b e older legal came n replies (stepped l b e older legal came n)
