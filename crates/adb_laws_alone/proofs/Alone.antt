-- One stream alone, and echoes, at a model device.
use Rattle.std.specs.Prelude.{ℕ, ◌+◌, ◌≡◌, ◌⊎◌, ◌≤◌, ◌<◌, ◌&&◌, Bool, true, false, cond, nat_eq, List, [], ◌∷◌, ◌++◌, fold, Some, None}
use Rattle.std.proofs.Common.{refl, sym, ◌∙◌, ap, subst, arith, inl, inr}
use Rattle.std.specs.List.Sorted.{IsStrictlySortedBy}
use Rattle.std.proofs.lemmas.Bool.{eq-eqb}
use Rattle.adb_wire.specs.declared.command.Command.{Command}
use Rattle.adb_wire.specs.declared.command.Command.TheVariants as commands
use Rattle.adb_wire.specs.declared.packets.Packet.{Packet}
use Rattle.adb_files.specs.Entries.{Entry}
use Rattle.adb_history.specs.Births.{count_from, is_open}
use Rattle.adb_device_streams.specs.Asked.{Kind, Echoes}
use Rattle.adb_device_streams.specs.Service.{came_over, files_fed, files_opened}
use Rattle.adb_device_streams.specs.Stream.{Row, row_took}
use Rattle.adb_daemon.specs.Device.{Device, Setting, device_behind, first_device, step}
use Rattle.adb_daemon.specs.Serving.{Serving}
use Rattle.adb_daemon.proofs.Machines.{step_more}
use Rattle.adb_laws_alone.specs.Alone.{Every, AsksNone, IsOfOne, IsOfEchoes, RanAs, RanAlone, AllRanAlone, OneRunsAlone, EchoesLeaveFiles}
use Rattle.adb_laws_alone.proofs.Quiet.{fed_none}
use Rattle.adb_laws_alone.proofs.Watching.{Watch, KeptIn, HasNone, Allows, AllAllow, all_kept, step_keeps}

-- ---- ids that were not asked for
-- their rows: there is none
abbrev pub unasked : (ℕ → Type 0) → Watch
unasked Such = record {
  Such = Such;
  Place = λ own. Unit {0};
  Holds = λ files row. ⊥;
  OfFiles = λ files. Unit {0};
  Single = ⊥;
  same = λ files a b same none. none;
  one = λ none a b here there. absurd none;
}

module _ (setting : Setting) where
  first_kept : (w : Watch) → w.OfFiles setting.files → KeptIn w (first_device setting).serving
  unfolding IsStrictlySortedBy
  first_kept w files = record {
    rises = tt;
    sound = files;
    live = λ own row is so. absurd (let clash : None ≡ Some row = is in cc);
    over = λ own e is so. absurd (let clash : None ≡ Some e = is in cc);
    apart = λ single own row is so. absurd (let clash : None ≡ Some row = is in cc);
  }

  allow_unasked : (Such : ℕ → Type 0) (ps : List Packet) → Every (AsksNone Such) ps → AllAllow (unasked Such) setting ps
  allow_unasked Such [] every = tt
  allow_unasked Such (p ∷ ps) every = (λ s k. one p.command every.0 s, allow_unasked Such ps every.1)
    where
      one : (command : Command) → AsksNone Such command p → (s : Serving) → Allows (unasked Such) command p s
      one commands.Open none s = λ kind known. record {
        files = tt;
        stays = inl (λ row holds. holds);
        fresh = λ so. absurd (none so);
        place = λ so. tt;
        row = λ so. absurd (none so);
      }
      one commands.Wrte none s = λ row is host. record { files = tt; stays = inl (λ other holds. holds); took = λ so holds. holds }
      one commands.Okay none s = tt
      one commands.Clse none s = tt
      one commands.Cnxn none s = tt
      one commands.Auth none s = tt
      one commands.Stls none s = tt

  pub none_unasked : (Such : ℕ → Type 0) (ps : List Packet) → Every (AsksNone Such) ps
      → KeptIn (unasked Such) (device_behind setting ps).serving
  none_unasked Such ps every =
      all_kept (unasked Such) setting ps (first_device setting) (allow_unasked Such ps every) (first_kept (unasked Such) tt)

-- where there is none, all holds of each
from_none : (w : Watch) (s : Serving) → KeptIn (unasked w.Such) s → w.OfFiles s.files → KeptIn w s
from_none w s none files = record {
  rises = none.rises;
  sound = files;
  live = λ own row is so. absurd (none.live own row is so).1;
  over = λ own e is so. absurd (none.over own e is so);
  apart = λ single own row is so. absurd (none.live own row is so).1;
}

-- ---- a stream before its OPEN
-- packets of one id that do not ask for its stream
abbrev IsWriting : ℕ → Command → Packet → Type 0
IsWriting l commands.Open p = ⊥
IsWriting l commands.Wrte p = (p.payload ≡ []) ⊎ (p.arg0 ≡ l)
IsWriting l _ p = Unit {0}

-- there is no row of it, and the files are these
abbrev unopened : ℕ → List Entry → Watch
unopened l first = record {
  Such = λ host. host ≡ l;
  Place = λ own. Unit {0};
  Holds = λ files row. ⊥;
  OfFiles = λ files. files ≡ first;
  Single = ⊥;
  same = λ files a b same none. none;
  one = λ none a b here there. absurd none;
}

-- ---- and behind it
-- its row is at this id, and it ran alone
abbrev alone : ℕ → ℕ → List Entry → Watch
alone l id first = record {
  Such = λ host. host ≡ l;
  Place = λ own. own ≡ id;
  Holds = λ files row. RanAlone first files row;
  OfFiles = λ files. Unit {0};
  Single = Unit {0};
  same = λ files a b same ran.
      subst (λ (k : Kind). RanAs first files k b.first b.past) (sym same.kind)
      (subst (λ (x : List Entry). RanAs first files a.kind x b.past) (sym same.first)
      (subst (λ (past : _). RanAs first files a.kind a.first past) (sym same.past) ran));
  one = λ single a b here there. here ∙ sym there;
}

module _ (setting : Setting) (l : ℕ) where
  allow_unopened : (first : List Entry) (ps : List Packet) → Every (IsWriting l) ps → AllAllow (unopened l first) setting ps
  allow_unopened first [] every = tt
  allow_unopened first (p ∷ ps) every = (λ s k. one p.command every.0 s k, allow_unopened first ps every.1)
    where
      wrote : (p.payload ≡ []) ⊎ (p.arg0 ≡ l) → (s : Serving) → KeptIn (unopened l first) s → Allows (unopened l first) commands.Wrte p s
      wrote (inl none) s k = λ row is host. record {
        files = fed_none row.kind row.past p.payload s.files none ∙ k.sound;
        stays = inl (λ other holds. holds);
        took = λ so holds. holds;
      }
      wrote (inr own) s k = λ row is host. absurd (k.live p.arg1 row is (host ∙ own)).1

      one : (command : Command) → IsWriting l command p → (s : Serving) → KeptIn (unopened l first) s
          → Allows (unopened l first) command p s
      one commands.Open writes s k = absurd writes
      one commands.Wrte writes s k = wrote writes s k
      one _ writes s k = tt

  allow_alone : (id : ℕ) (first : List Entry) (ps : List Packet) → Every (IsWriting l) ps → AllAllow (alone l id first) setting ps
  allow_alone id first [] every = tt
  allow_alone id first (p ∷ ps) every = (λ s k. one p.command every.0 s, allow_alone id first ps every.1)
    where
      took : (s : Serving) (row : Row) → RanAlone first s.files row
          → RanAlone first (files_fed row.kind row.past (came_over p.payload s.files)) (row_took (came_over p.payload s.files) row)
      took s row ran = record { over = ran.over; turn = (ran.turn, ran.left); left = refl }

      wrote : (p.payload ≡ []) ⊎ (p.arg0 ≡ l) → (s : Serving) → Allows (alone l id first) commands.Wrte p s
      wrote (inl none) s = λ row is host. record {
        files = tt;
        stays = inl (λ other holds.
            subst (λ (files : List Entry). RanAlone first files other) (sym (fed_none row.kind row.past p.payload s.files none)) holds);
        took = λ so holds. took s row holds;
      }
      wrote (inr own) s = λ row is host. record { files = tt; stays = inr (tt, host ∙ own); took = λ so holds. took s row holds }

      one : (command : Command) → IsWriting l command p → (s : Serving) → Allows (alone l id first) command p s
      one commands.Open writes s = absurd writes
      one commands.Wrte writes s = wrote writes s
      one _ writes s = tt

  -- ---- the packet that asks for it
  asked_here : (p : Packet) (ps : List Packet) → p.command ≡ commands.Open → p.arg0 ≡ l
      → count_from is_open l (p ∷ ps) ≡ 1 + count_from is_open l ps
  asked_here p ps asks own =
      ap (λ (b : Bool). cond b (1 + count_from is_open l ps) (count_from is_open l ps)) (λ i. is_open (asks i) && eq-eqb p.arg0 l own i)

  asked_later : (p : Packet) (ps : List Packet) → count_from is_open l ps ≤ count_from is_open l (p ∷ ps)
  asked_later p ps = go (is_open p.command && nat_eq p.arg0 l)
    where
      go : (b : Bool) → count_from is_open l ps ≤ cond b (1 + count_from is_open l ps) (count_from is_open l ps)
      go true = omega arith
      go false = omega arith

  none_asks : (ps : List Packet) → Every (IsOfOne l) ps → count_from is_open l ps ≡ 0 → Every (IsWriting l) ps
  none_asks [] every zeroth = tt
  none_asks (p ∷ ps) every zeroth =
      (one p.command refl every.0, none_asks ps every.1 (let later = asked_later p ps in omega (arith, later, zeroth)))
    where
      one : (command : Command) → p.command ≡ command → IsOfOne l command p → IsWriting l command p
      one commands.Open asks own = (let here = asked_here p ps asks own in omega (arith, here, zeroth))
      one commands.Wrte writes own = own
      one _ _ own = tt

  -- All before it and behind it write.
  record Split (ps : List Packet) : Type 0 where
    front : List Packet
    asking : Packet
    rest : List Packet
    is : front ++ asking ∷ rest ≡ ps
    asks : asking.command ≡ commands.Open
    own : asking.arg0 ≡ l
    before : Every (IsWriting l) front
    behind : Every (IsWriting l) rest

  split : (ps : List Packet) → Every (IsOfOne l) ps → count_from is_open l ps ≤ 1 → Every (IsWriting l) ps ⊎ Split ps
  split [] every once = inl tt
  split (p ∷ ps) every once =
      one p.command refl every.0 (split ps every.1 (let later = asked_later p ps in omega (arith, later, once)))
    where
      next : IsWriting l p.command p → Every (IsWriting l) ps ⊎ Split ps → Every (IsWriting l) (p ∷ ps) ⊎ Split (p ∷ ps)
      next writes (inl none) = inl (writes, none)
      next writes (inr s) = inr (record {
        front = p ∷ s.front;
        asking = s.asking;
        rest = s.rest;
        is = ap (λ (x : List Packet). p ∷ x) s.is;
        asks = s.asks;
        own = s.own;
        before = (writes, s.before);
        behind = s.behind;
      })

      other : (command : Command) → p.command ≡ command → IsWriting l command p → Every (IsWriting l) ps ⊎ Split ps
          → Every (IsWriting l) (p ∷ ps) ⊎ Split (p ∷ ps)
      other command is writes later = next (subst (λ (c : Command). IsWriting l c p) (sym is) writes) later

      one : (command : Command) → p.command ≡ command → IsOfOne l command p → Every (IsWriting l) ps ⊎ Split ps
          → Every (IsWriting l) (p ∷ ps) ⊎ Split (p ∷ ps)
      one commands.Open asks own later = inr (record {
        front = [];
        asking = p;
        rest = ps;
        is = refl;
        asks = asks;
        own = own;
        before = tt;
        behind = none_asks ps every.1 (let here = asked_here p ps asks own in omega (arith, here, once));
      })
      one commands.Wrte is own later = other commands.Wrte is own later
      one commands.Okay is own later = other commands.Okay is tt later
      one commands.Clse is own later = other commands.Clse is tt later
      one commands.Cnxn is own later = other commands.Cnxn is tt later
      one commands.Auth is own later = other commands.Auth is tt later
      one commands.Stls is own later = other commands.Stls is tt later

  module _ (before : List Packet) (none : Every (AsksNone (λ (host : ℕ). host ≡ l)) before) where
    abbrev device_then : Device
    device_then = device_behind setting before

    abbrev files_then : List Entry
    files_then = (device_behind setting before).serving.files

    -- packets that write for it alone
    unopened_behind : (ps : List Packet) → Every (IsWriting l) ps
        → KeptIn (unopened l files_then) (fold (step setting) device_then ps).serving
    unopened_behind ps every =
        all_kept (unopened l files_then) setting ps device_then (allow_unopened files_then ps every)
        (from_none (unopened l files_then) device_then.serving (none_unasked setting (λ (host : ℕ). host ≡ l) before none) refl)

    -- they leave no row of it
    never_opened : (ps : List Packet) → Every (IsWriting l) ps → AllRanAlone l files_then (fold (step setting) device_then ps).serving
    never_opened ps every =
        let k = unopened_behind ps every in
        record { rows = λ own row is host. absurd (k.live own row is host).1; ended = λ own e is host. absurd (k.over own e is host) }

    -- it was opened, and ran alone
    opened_alone : (ps : List Packet) → Split ps → AllRanAlone l files_then (fold (step setting) device_then ps).serving
    opened_alone ps s =
        subst (λ (x : Device). AllRanAlone l files_then x.serving)
        (sym (step_more setting device_then s.front (s.asking ∷ s.rest))
        ∙ ap (λ (x : List Packet). fold (step setting) device_then x) s.is) ran
      where
        mid : Device
        mid = fold (step setting) device_then s.front

        k : KeptIn (unopened l files_then) mid.serving
        k = unopened_behind s.front s.before

        ran : AllRanAlone l files_then (fold (step setting) (fold (step setting) device_then s.front) (s.asking ∷ s.rest)).serving
        ran = record { rows = λ own row is host. (last.live own row is host).1; ended = last.over }
          where
            none_there : HasNone (alone l ((fold (step setting) device_then s.front).serving.drawn + 1) files_then)
                (fold (step setting) device_then s.front).serving
            none_there = record { live = λ own row is host. (k.live own row is host).1; over = λ own e is host. k.over own e is host }

            begins : KeptIn (alone l ((fold (step setting) device_then s.front).serving.drawn + 1) files_then)
                (fold (step setting) device_then s.front).serving
            begins = record {
              rises = k.rises;
              sound = tt;
              live = λ own row is host. absurd (k.live own row is host).1;
              over = λ own e is host. absurd (k.over own e is host);
              apart = λ single own row is host. absurd (k.live own row is host).1;
            }

            opens : Allows (alone l ((fold (step setting) device_then s.front).serving.drawn + 1) files_then) commands.Open s.asking
                (fold (step setting) device_then s.front).serving
            opens = λ kind known. record {
              files = tt;
              stays = inr none_there;
              fresh = λ host. inl none_there.over;
              place = λ host. refl;
              row = λ host. record { over = k.sound; turn = tt; left = ap (files_opened kind) k.sound };
            }

            last : KeptIn (alone l ((fold (step setting) device_then s.front).serving.drawn + 1) files_then)
                (fold (step setting) (step setting (fold (step setting) device_then s.front) s.asking) s.rest).serving
            last =
                all_kept (alone l ((fold (step setting) device_then s.front).serving.drawn + 1) files_then) setting s.rest
                (step setting (fold (step setting) device_then s.front) s.asking)
                (allow_alone ((fold (step setting) device_then s.front).serving.drawn + 1) files_then s.rest s.behind)
                (step_keeps (alone l ((fold (step setting) device_then s.front).serving.drawn + 1) files_then) setting
                (fold (step setting) device_then s.front) s.asking
                (subst (λ (c : Command). Allows
                (alone l ((fold (step setting) device_then s.front).serving.drawn + 1) files_then) c s.asking
                (fold (step setting) device_then s.front).serving) (sym s.asks) opens) begins)

pub one_runs_alone : (setting : Setting) → OneRunsAlone setting
one_runs_alone setting l before ps none every once =
    subst (λ (x : Device). AllRanAlone l (device_behind setting before).serving.files x.serving)
    (sym (step_more setting (first_device setting) before ps))
    (go (split setting l ps every once))
  where
    go : Every (IsWriting l) ps ⊎ Split setting l ps
        → AllRanAlone l (device_behind setting before).serving.files (fold (step setting) (device_behind setting before) ps).serving
    go (inl writes) = never_opened setting l before none ps writes
    go (inr s) = opened_alone setting l before none ps s

-- ---- echoes
-- rows of ids past another are echoes, and the files are these
abbrev echoing : ℕ → List Entry → Watch
echoing d first = record {
  Such = λ host. d < host;
  Place = λ own. Unit {0};
  Holds = λ files row. row.kind ≡ Echoes;
  OfFiles = λ files. files ≡ first;
  Single = ⊥;
  same = λ files a b same echoes. same.kind ∙ echoes;
  one = λ none a b here there. absurd none;
}

allow_echoing : (setting : Setting) (d : ℕ) (first : List Entry) (ps : List Packet) → Every (IsOfEchoes d) ps
    → AllAllow (echoing d first) setting ps
allow_echoing setting d first [] every = tt
allow_echoing setting d first (p ∷ ps) every = (λ s k. one p.command every.0 s k, allow_echoing setting d first ps every.1)
  where
    wrote : (p.payload ≡ []) ⊎ (d < p.arg0) → (s : Serving) → KeptIn (echoing d first) s → Allows (echoing d first) commands.Wrte p s
    wrote (inl none) s k = λ row is host. record {
      files = fed_none row.kind row.past p.payload s.files none ∙ k.sound;
      stays = inl (λ other holds. holds);
      took = λ so holds. holds;
    }
    wrote (inr past) s k = λ row is host.
        let echoes : row.kind ≡ Echoes = (k.live p.arg1 row is (subst (λ (n : ℕ). d < n) (sym host) past)).1 in
        record {
          files = ap (λ (kind : Kind). files_fed kind row.past (came_over p.payload s.files)) echoes ∙ k.sound;
          stays = inl (λ other holds. holds);
          took = λ so holds. holds;
        }

    one : (command : Command) → IsOfEchoes d command p → (s : Serving) → KeptIn (echoing d first) s → Allows (echoing d first) command p s
    one commands.Open asks s k = λ kind known.
        let both : Some kind ≡ Some Echoes = sym known ∙ asks in
        let echoes : kind ≡ Echoes = cc in
        record {
          files = ap (λ (x : Kind). files_opened x s.files) echoes ∙ k.sound;
          stays = inl (λ row holds. holds);
          fresh = λ so. inr (λ none. none);
          place = λ so. tt;
          row = λ so. echoes;
        }
    one commands.Wrte writes s k = wrote writes s k
    one _ writes s k = tt

pub echoes_leave : (setting : Setting) → EchoesLeaveFiles setting
echoes_leave setting d before ps none every =
    ap (λ (x : Device). x.serving.files) (step_more setting (first_device setting) before ps)
    ∙ (all_kept (echoing d (device_behind setting before).serving.files) setting ps (device_behind setting before)
    (allow_echoing setting d (device_behind setting before).serving.files ps every)
    (from_none (echoing d (device_behind setting before).serving.files) (device_behind setting before).serving
    (none_unasked setting (λ (host : ℕ). d < host) before none) refl)).sound
