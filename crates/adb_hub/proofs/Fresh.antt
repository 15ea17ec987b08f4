-- A hub to which nobody came.
use Rattle.std.proofs.Common.{ℕ, ◌≡◌, false, [], None, sym, ap, subst}
use Rattle.std.specs.Prelude.{option_map}
use Rattle.adb_outside.specs.Tables.{at}
use Rattle.adb_history.specs.Rows.{start}
use Rattle.adb_hub_tables.specs.declared.tables.Tables.{Tables}
use Rattle.adb_hub_tables.specs.Tables.{client_row, link_row, state_of}
use Rattle.adb_hub_tables.specs.Tracked.{IsListedAt}
use Rattle.adb_hub_tables.specs.Places.{LinkRoom, ClientRoom, IsCountedAt}
use Rattle.adb_hub_tables.specs.Fit.{IsReadOutAt}
use Rattle.adb_hub.specs.Sound.{IsSound}

pub record IsFresh (t : Tables) : Type 0 where
  pub joined : t.joined ≡ 0
  pub clients : t.clients.entries ≡ []
  pub links : t.links.entries ≡ []
  pub streams : t.streams ≡ record { drawn = 0; streams = [] }
  pub drawn : t.devices.drawn ≡ 0
  pub devices : t.devices.rows ≡ []
  pub forwards : t.forwards ≡ []
  pub stopped : t.stopped ≡ false

module _ (t : Tables) (h : IsFresh t) where
  none : (n : ℕ) → at n t.clients.entries ≡ None
  none n = ap (at n) h.clients

  no_link : (n : ℕ) → at n t.links.entries ≡ None
  no_link n = ap (at n) h.links

  pub fresh_state : state_of t ≡ start
  fresh_state i = record {
    joined = h.joined i;
    drawn = (h.streams i).drawn;
    clients = λ n. ap (option_map client_row) (none n) i;
    links = λ n. ap (option_map link_row) (no_link n) i;
    streams = λ n. at n (h.streams i).streams;
    devices = record { drawn = h.drawn i; rows = h.devices i };
    forwards = h.forwards i;
    stopped = h.stopped i;
  }

  pub fresh_sound : IsSound t
  fresh_sound = record {
    fit = record {
      provided = record {
        links = λ k. subst (LinkRoom 0) (sym (no_link k)) tt;
        clients = λ n. subst (ClientRoom 0) (sym (none n)) tt;
        counted = λ k. subst (IsCountedAt k t.streams.streams) (sym (no_link k)) tt;
        tracked = λ n. subst (IsListedAt n t.trackers.keys) (sym (none n)) tt;
      };
      read_out = λ k. subst IsReadOutAt (sym (no_link k)) tt;
    };
    reached = record { history = []; legal = tt; is = fresh_state };
  }
