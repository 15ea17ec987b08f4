-- Taking the packets that a piece is cut to.
use Rattle.std.proofs.Common.{[], ◌∷◌, ◌++◌, List, sym, ◌∙◌, ap}
use Rattle.std.proofs.lemmas.List.{map-append, append_assoc}
use Rattle.std.proofs.lemmas.List.Elements.{All-append, All-cons, All-nil}
use Rattle.adb_wire.specs.declared.packets.Packet.{Packet}
use Rattle.adb_wire.specs.Deframing.{Deframing}
use Rattle.adb_hub_rules.specs.declared.came.Came.{Came}
use Rattle.adb_hub_rules.specs.Came.{IsCame, packet_of, packets_of}
use Rattle.adb_hub_links.specs.Cutting.{IsTaken, HasTaken}

-- a packet more was taken
pub takes_one : {old now new : Deframing} (packets : List Came) (came : Came) → HasTaken old packets now → IsTaken now new came
    → HasTaken old (packets ++ came ∷ []) new
takes_one {old} {now} {new} packets came h one = record {
  came = All-append IsCame packets (came ∷ []) h.came (All-cons IsCame came [] one.came (All-nil IsCame));
  given =
      ap (λ (ps : List Packet). ps ++ new.given) (map-append packet_of packets (came ∷ []))
      ∙ (append_assoc (packets_of packets) (packet_of came ∷ []) new.given
      ∙ (ap (λ (ps : List Packet). packets_of packets ++ ps) (sym (ap (λ (d : Deframing). d.given) one.was)) ∙ h.given));
  rest = ap (λ (d : Deframing). record d { given = new.given }) (sym one.was ∙ h.rest);
}
