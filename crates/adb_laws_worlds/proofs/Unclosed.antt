-- A stream of a server that lives was closed by neither end.
use Rattle.std.specs.Prelude.{ℕ, ◌+◌, ◌≡◌, ◌<◌, ◌&&◌, ◌||◌, Bool, true, false, cond, List, [], ◌∷◌, Option, Some, None, option_map}
use Rattle.std.proofs.Common.{zero, suc, refl, sym, ◌∙◌, ap, subst, arith, eqb}
use Rattle.adb_wire.specs.declared.packets.Packet.{Packet}
use Rattle.adb_stream.specs.declared.row.Stream.{Stream}
use Rattle.adb_history.specs.Machine.{History, state, told, IsLegal}
use Rattle.adb_history.specs.Births.{born, since, count_from, is_clse}
use Rattle.adb_history.specs.Lives.{packets_of}
use Rattle.adb_history.proofs.OrderlyStates.{orderly}
use Rattle.adb_laws_fifo_up.proofs.Shutting.{has_close, close_shut}
use Rattle.adb_laws_fifo_up.proofs.Shuts.{all_shut}
use Rattle.adb_laws_fifo_down.specs.Line.{SeenStream, View, seen}
use Rattle.adb_laws_fifo_down.specs.Life.{LivesAs, LivesIn, heard}
use Rattle.adb_laws_fifo_down.specs.Follows.{Follows, is_shut}
use Rattle.adb_laws_fifo_down.specs.Followed.{LifeOf}
use Rattle.adb_laws_fifo_down.proofs.Handed.{has_lives}
use Rattle.adb_laws_worlds.specs.Unclosed.{SentNoClose, IsUnclosed, HeardNoClose}

-- ---- towards its device
-- packets none of which closes a stream have no CLSE of it
none_closed : (l : ℕ) (ps : List Packet) → has_close l ps ≡ false → count_from is_clse l ps ≡ 0
none_closed l [] e = refl
none_closed l (p ∷ ps) e = go (is_clse p.command && eqb p.arg0 l) e (none_closed l ps)
  where
    go : (b : Bool) → (b || has_close l ps) ≡ false → (has_close l ps ≡ false → count_from is_clse l ps ≡ 0)
        → cond b (1 + count_from is_clse l ps) (count_from is_clse l ps) ≡ 0
    go true f later = let clash : true ≡ false = f in cc
    go false f later = later f

-- a stream that lives has an id that is not 0
some_id : (h : History) → IsLegal h → (l : ℕ) (x : Stream) → (state h).streams l ≡ Some x → 0 < l
some_id h legal zero x is = let clash : None ≡ Some x = sym (orderly h legal).streams.zero ∙ is in cc
some_id h legal (suc l) x is = omega arith

pub sent_no_close : (h : History) → IsLegal h → SentNoClose h
sent_no_close h legal l x is t = go (has_close l (packets_of t h)) refl
  where
    go : (b : Bool) → has_close l (packets_of t h) ≡ b → count_from is_clse l (packets_of t h) ≡ 0
    go true e =
        let gone = (all_shut l (some_id h legal l x is) h legal).gone (close_shut t l (told h) e) in
        absurd (let clash : None ≡ Some x = sym gone ∙ is in cc)
    go false e = none_closed l (packets_of t h) e

-- ---- by its device
pub heard_no_close : (h : History) → IsLegal h → HeardNoClose h
heard_no_close h legal l b x born live known =
    go x.part.orphan refl x.part.remote refl
    (subst (λ (o : Option SeenStream). LivesIn o l f.cradle (since b h) (is_shut b.link h) (heard f.holds.seen)) row f.holds.keeps.lives)
  where
    f : Follows LifeOf h l b
    f = has_lives h legal l b born

    row : f.holds.seen.stream ≡ Some (seen x)
    row = ap (λ (v : View). v.stream) (sym f.holds.shows.1) ∙ ap (λ (o : Option Stream). option_map seen o) live

    go : (orphan : Bool) → x.part.orphan ≡ orphan → (remote : ℕ) → x.part.remote ≡ remote
        → LivesAs orphan remote l f.cradle (since b h) (heard f.holds.seen) → IsUnclosed h l b x
    go true e remote g lives = absurd (known (g ∙ lives.remote_is))
    go false e zero g lives = absurd (known g)
    go false e (suc r) g lives = record {
      opening = lives.opening;
      opened = lives.opened;
      remote = lives.told_as ∙ sym g;
      unclosed = lives.unclosed;
      alive = e;
    }
