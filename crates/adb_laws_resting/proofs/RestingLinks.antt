-- Rules of links by which no stream may send that could not send before.
use Rattle.std.proofs.Common.{ℕ, ◌+◌, ◌≡◌, ◌≢◌, Bool, true, false, List, [], ◌++◌, Option, Some, None, refl, sym, ◌∙◌, ap, subst, ◌⊎◌, inl}
use Rattle.std.proofs.Common.{inr}
use Rattle.std.specs.Prelude.{codes, unwrap_or, option_map}
use Rattle.std.proofs.lemmas.Bool.{cases_eq}
use Rattle.adb_outside.specs.Tables.{put_row, IsRising}
use Rattle.adb_outside.specs.Framing.{Cut}
use Rattle.adb_outside.specs.declared.kinds.Kind.{Kind}
use Rattle.adb_outside.proofs.TableLaws.{puts_put_at, puts_without}
use Rattle.adb_registry.specs.Row.{new_row}
use Rattle.adb_registry.specs.Registry.{DeviceTable, attached, detached}
use Rattle.adb_registry.specs.declared.row.Row.{Row}
use Rattle.adb_reply.specs.Strings.{failed}
use Rattle.adb_wire.specs.Cutting.{cut_packets}
use Rattle.adb_wire.specs.declared.packets.Packet.{Packet}
use Rattle.adb_wire.specs.declared.format.PacketFault.{PacketFault}
use Rattle.adb_wire.specs.declared.format.PacketFormat.{PacketFormat}
use Rattle.adb_stream.specs.declared.row.Stream.{Stream}
use Rattle.adb_client.specs.declared.phase.Phase.{Phase}
use Rattle.adb_client.specs.declared.phase.Phase.TheVariants.{Opening, Streaming}
use Rattle.adb_history.specs.Rows.{Client, Link, State, new_link, to_link, to_stream, none_kept}
use Rattle.adb_history.specs.declared.ending.Ending.{Ending}
use Rattle.adb_history.specs.declared.ending.Ending.TheVariants.{Lost}
use Rattle.adb_history.specs.Links.{maxdata_of}
use Rattle.adb_history.specs.Streams.{loses, client_loses, ends_row, all_end}
use Rattle.adb_history.specs.Losing.{forgets, link_ends}
use Rattle.adb_history.specs.Packets.{faulty, faulty_on, with_rest, treat_all, receives_cut, receives_on}
use Rattle.adb_history.specs.Reading.{plugs_in}
use Rattle.adb_history.specs.Machine.{unplugs_on}
use Rattle.adb_history.proofs.OwnedStep.{ends_state}
use Rattle.adb_history.proofs.StreamMoves.{all_end_kept}
use Rattle.adb_laws_resting.specs.Resting.{CompletesNone}
use Rattle.adb_laws_resting.proofs.RestingRows.{AllCalm, TakesNoMore, closes_calm, marks_calm, gone_calm, devices_calm}
use Rattle.adb_laws_resting.proofs.RestingClients.{closes_with_calm}

-- ---- streams end
loses_calm : (forwarded : Bool) (phase : Phase) (c : ℕ) (s : State) → AllCalm s → AllCalm (loses forwarded phase c s).state
loses_calm true (Streaming l) c s h = closes_calm c s h
loses_calm false (Streaming l) c s h = closes_calm c s h
loses_calm true (Opening l) c s h = closes_calm c s h
loses_calm false (Opening l) c s h = closes_with_calm c (failed (codes "closed")).bytes s h
loses_calm _ _ c s h = h

client_loses_calm : (o : Option Client) (c : ℕ) (s : State) → AllCalm s → AllCalm (client_loses o c s).state
client_loses_calm None c s h = h
client_loses_calm (Some client) c s h = loses_calm client.about.forwarded client.about.phase c s h

ends_calm : (l : ℕ) (ending : Ending) (stream : Stream) (s : State) → AllCalm s → AllCalm (ends_row l ending stream s).state
ends_calm l ending stream s h =
    subst AllCalm (sym (ends_state l ending stream s))
    (client_loses_calm (s.clients stream.client) stream.client (to_stream l none_kept s) (gone_calm l s h))

all_end_calm : (t : ℕ) (ending : Ending) (s : State) → AllCalm s → AllCalm (all_end t ending s).state
all_end_calm t ending s h = all_end_kept {P = λ s w. AllCalm s} (λ l ending stream s w is h. ends_calm l ending stream s h) t ending s [] h

-- ---- attach, and detach
taken : Option Row → ℕ
taken row = unwrap_or (option_map (λ (row : Row). row.maxdata) row) 0

attached_takes : (kind : Kind) (serial : List ℕ) (devices : DeviceTable) → TakesNoMore devices (attached kind serial devices)
unfolding taken
attached_takes kind serial devices t = by_place (cases_eq t (devices.drawn + 1))
  where
    by_place : ◌⊎◌ (t ≡ devices.drawn + 1) (t ≢ devices.drawn + 1)
        → (maxdata_of t (attached kind serial devices) ≡ maxdata_of t devices) ⊎ (maxdata_of t (attached kind serial devices) ≡ 0)
    by_place (inl same) =
        let puts = puts_put_at (devices.drawn + 1) (new_row (devices.drawn + 1) kind serial) devices.rows in
        inr (ap (λ n. maxdata_of n (attached kind serial devices)) same ∙ ap taken puts.here)
    by_place (inr apart) =
        let puts = puts_put_at (devices.drawn + 1) (new_row (devices.drawn + 1) kind serial) devices.rows in
        inl (ap taken (puts.others t apart))

detached_takes : (gone : ℕ) (devices : DeviceTable) → IsRising devices.rows → TakesNoMore devices (detached gone devices)
unfolding taken
detached_takes gone devices rises t = by_place (cases_eq t gone)
  where
    by_place : ◌⊎◌ (t ≡ gone) (t ≢ gone)
        → (maxdata_of t (detached gone devices) ≡ maxdata_of t devices) ⊎ (maxdata_of t (detached gone devices) ≡ 0)
    by_place (inl same) =
        inr (ap (λ n. maxdata_of n (detached gone devices)) same ∙ ap taken (puts_without gone devices.rows rises).here)
    by_place (inr apart) = inl (ap taken ((puts_without gone devices.rows rises).others t apart))

pub plugs_calm : (t : ℕ) (kind : Kind) (serial : List ℕ) (s : State) → AllCalm s → AllCalm (plugs_in t kind serial s).state
plugs_calm t kind serial s h = marks_calm (record s { devices = attached kind serial s.devices; links = put_row t (Some new_link) s.links })
    (devices_calm (attached kind serial s.devices) s (attached_takes kind serial s.devices) h)

link_ends_calm : (t : ℕ) (ending : Ending) (s : State) → IsRising s.devices.rows → AllCalm s → AllCalm (link_ends t ending s).state
link_ends_calm t ending s rises h = marks_calm (all_end t ending (forgets t s)).state
    (all_end_calm t ending (forgets t s) (devices_calm (detached t s.devices) s (detached_takes t s.devices rises) h))

pub unplugs_calm : (o : Option Link) (t : ℕ) (s : State) → IsRising s.devices.rows → AllCalm s → AllCalm (unplugs_on o t s).state
unplugs_calm None t s rises h = h
unplugs_calm (Some link) t s rises h = link_ends_calm t Lost s rises h

-- ---- receive
not_faulty : (o : Option Link) (t : ℕ) (s : State) → (faulty_on o t None s).state ≡ s
not_faulty None t s = refl
not_faulty (Some link) t s = refl

nothing_cut : (t : ℕ) (c : Cut PacketFormat Packet PacketFault) (s : State) → c.given ≡ [] → c.fault ≡ None
    → (receives_cut t c s).state ≡ to_link t (with_rest c.rest) s
nothing_cut t c s given sound =
    ap (λ ps. (faulty t c.fault (treat_all t ps (to_link t (with_rest c.rest) s)).state).state) given
    ∙ (ap (λ fault. (faulty t fault (to_link t (with_rest c.rest) s)).state) sound
    ∙ not_faulty ((to_link t (with_rest c.rest) s).links t) t (to_link t (with_rest c.rest) s))

module _ (s : State) (h : AllCalm s) where
  pub part_calm : (t : ℕ) (bytes : List ℕ) (link : Link) → s.links t ≡ Some link → CompletesNone link bytes
      → AllCalm (receives_on (s.links t) t bytes s).state
  part_calm t bytes link is none =
      let c = cut_packets (record { sums = link.sums }) (link.rest ++ bytes) in
      subst AllCalm (sym (ap (λ (o : Option Link). (receives_on o t bytes s).state) is ∙ nothing_cut t c s none.given none.sound)) h
