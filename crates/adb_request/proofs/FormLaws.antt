-- A text is one of the forms behind a prefix exactly where a row fits it.
use Rattle.std.proofs.Common.{ℕ, ◌≡◌, ◌||◌, ◌++◌, length, drop, Bool, true, false, cond, codes, List, Option, Some, None, is_some, refl}
use Rattle.std.proofs.Common.{◌∙◌, ap, nat_eq}
use Rattle.std.specs.Prelude.{Result, Ok, Err, IfOk}
use Rattle.std.specs.Option.{option_or, option_map}
use Rattle.std.specs.Str.{bytes_eq}
use Rattle.std.specs.List.{starts_with}
use Rattle.std.proofs.lemmas.Slice.Eq.{starts_is}
use Rattle.std.proofs.lemmas.Bool.Decides.{Decides-eqb}
use Rattle.adb_request.specs.Forms.{form, fixed_form, forward_form, forward_of, killed_at, local_in, is_fixed, is_form}
use Rattle.adb_request.specs.declared.request.Which.{Which}

module _ {A : Type 0} where
  -- a row more
  row_or : (b rest : Bool) (x : A) (o : Option A) → is_some o ≡ rest → is_some (option_or (cond b (Some x) None) o) ≡ (b || rest)
  row_or true rest x o e = refl
  row_or false rest x o e = e

  last_row : (b : Bool) (x : A) → is_some (cond b (Some x) None) ≡ b
  last_row true x = refl
  last_row false x = refl

  -- a row more, of those that take what is behind a word
  taken_or : {X : Type 0} (f : X → A) (b rest : Bool) (x : X) (o : Option A) → is_some o ≡ rest
      → is_some (option_or (option_map f (cond b (Some x) None)) o) ≡ (b || rest)
  taken_or f true rest x o e = refl
  taken_or f false rest x o e = e

  last_taken : {X : Type 0} (f : X → A) (b : Bool) (x : X) → is_some (option_map f (cond b (Some x) None)) ≡ b
  last_taken f true x = refl
  last_taken f false x = refl

  either : (o p : Option A) → is_some (option_or o p) ≡ (is_some o || is_some p)
  either (Some x) p = refl
  either None p = refl

  pub or_some : (o p : Option A) → is_some o ≡ true → o ≡ option_or o p
  or_some (Some x) p e = refl
  or_some None p e = cc

  pub or_none : (o p : Option A) → is_some o ≡ false → p ≡ option_or o p
  or_none (Some x) p e = cc
  or_none None p e = refl

pub fixed_fits : (on : Which) (text : List ℕ) → is_some (fixed_form on text) ≡ is_fixed text
fixed_fits on text =
    row_or (bytes_eq text (codes "get-serialno")) _ _ _
    (row_or (bytes_eq text (codes "get-devpath")) _ _ _
    (row_or (bytes_eq text (codes "get-state")) _ _ _
    (row_or (bytes_eq text (codes "features")) _ _ _
    (row_or (bytes_eq text (codes "killforward-all")) _ _ _ (last_row (bytes_eq text (codes "list-forward")) _)))))

abbrev norebind_word : List ℕ
norebind_word = codes "forward:norebind:"

absorbed : (a b c : Bool) → (a ≡ true → b ≡ true) → (a || (b || c)) ≡ (b || c)
absorbed true b c h = rw (h refl) refl
absorbed false b c h = refl

-- a text that begins with the longer word begins with the shorter one
norebind_is_forward : (text : List ℕ) → starts_with nat_eq text norebind_word ≡ true → starts_with nat_eq text (codes "forward:") ≡ true
norebind_is_forward text h =
    let is : text ≡ norebind_word ++ drop (length norebind_word) text =
    (starts_is Decides-eqb text norebind_word (starts_with nat_eq text norebind_word) refl).0 h in
    ap (λ t. starts_with nat_eq t (codes "forward:")) is

forward_fits : (on : Which) (text : List ℕ) → is_some (forward_form on text) ≡
    (starts_with nat_eq text (codes "forward:") || starts_with nat_eq text (codes "killforward:"))
forward_fits on text =
    let a = starts_with nat_eq text norebind_word in
    let b = starts_with nat_eq text (codes "forward:") in
    let c = starts_with nat_eq text (codes "killforward:") in
    taken_or (forward_of on true) a _ _ _ (taken_or (forward_of on false) b _ _ _ (last_taken (λ local. killed_at (local_in local)) c _))
    ∙ absorbed a b c (norebind_is_forward text)

-- a row fits a text exactly where it is a form
pub fits : (on : Which) (text : List ℕ) → is_some (form on text) ≡ is_form text
fits on text = either (fixed_form on text) (forward_form on text)
    ∙ (ap (λ a. a || is_some (forward_form on text)) (fixed_fits on text) ∙ ap (λ b. is_fixed text || b) (forward_fits on text))

-- a value that a call gives, under another name
pub if_ok_as : {T E : Type 0} (r : Result T E) (a b : T) → a ≡ b → IfOk r (λ x. x ≡ a) → IfOk r (λ x. x ≡ b)
if_ok_as (Ok x) a b e h = h ∙ e
if_ok_as (Err f) a b e h = tt
