-- A client that is done, or asked for a stream, is one that asks no more.
use Rattle.std.proofs.Common.{ℕ, ◌≤◌, Bool, List, Option, sym, ap, subst, ◌∙◌}
use Rattle.adb_stream.specs.declared.row.Stream.{Stream}
use Rattle.adb_client.specs.declared.phase.Phase.{Phase}
use Rattle.adb_client.specs.declared.phase.Phase.TheVariants.{Opening, Streaming, Closing}
use Rattle.adb_history.specs.Turns.{everywhere}
use Rattle.adb_laws_answered.specs.Served.{PhaseFor, IsDone}
use Rattle.adb_laws_answered.proofs.SteadyRows.{at_marked}
use Rattle.adb_laws_answered.proofs.ClientTurns.{IsBusy, IsOfClient}
use Rattle.adb_laws_answered.proofs.DoneMoves as done
use Rattle.adb_laws_answered.proofs.DoneMoves.{done_turns}
use Rattle.adb_laws_answered.proofs.ServedMoves as served
use Rattle.adb_laws_answered.proofs.ServedRules.{IsServedSo, served_turns}

pub served_busy : (p : Phase) (l : ℕ) (heard : Bool) → PhaseFor p l heard → IsBusy p
served_busy (Opening k) l heard h = tt
served_busy (Streaming k) l heard h = tt
served_busy Closing l heard h = tt
served_busy _ l heard h = h

-- a client whose stream was not drawn, or that asked for it and failed
pub done_client : (c : ℕ) (out : List ℕ) → IsOfClient everywhere c 0 (λ s w. IsDone c out s w)
done_client c out = record {
  turns = λ asker apart. done_turns c out asker apart;
  owned = λ s w h. h.owned;
  busy = λ s w client h is. subst IsBusy (sym (h.row client is)) tt;
  stays = λ s next w owned clients streams drawn links h.
      record { owned = owned; row = λ client is. h.row client (sym clients ∙ is); told = h.told };
  marks = λ s next w owned clients streams drawn links h. record {
    owned = owned;
    row = λ client is. at_marked done.steady c s.clients h.row client (sym clients ∙ is);
    told = h.told;
  };
}

-- a client that asked for a stream
pub served_client : (c l : ℕ) (replies : List ℕ) → IsOfClient everywhere c 0 (λ s w. IsServedSo c l replies s w)
served_client c l replies = record {
  turns = λ asker apart. served_turns c l replies asker apart;
  owned = λ s w (b, h). h.owned;
  busy = λ s w client (b, h) is. served_busy client.about.phase l b (h.row client is).phase;
  stays = λ s next w owned clients streams drawn links (b, h). (
    b,
    record {
      owned = owned;
      row = λ client is. h.row client (sym clients ∙ is);
      own = λ y at_l. h.own y (sym (ap (λ (f : ℕ → Option Stream). f l) streams) ∙ at_l);
      drawn = subst (λ (n : ℕ). l ≤ n) (sym drawn) h.drawn;
      out = h.out;
    },
  );
  marks = λ s next w owned clients streams drawn links (b, h). (
    b,
    record {
      owned = owned;
      row = λ client is. at_marked (served.steady l b) c s.clients h.row client (sym clients ∙ is);
      own = λ y at_l. h.own y (sym (ap (λ (f : ℕ → Option Stream). f l) streams) ∙ at_l);
      drawn = subst (λ (n : ℕ). l ≤ n) (sym drawn) h.drawn;
      out = h.out;
    },
  );
}
