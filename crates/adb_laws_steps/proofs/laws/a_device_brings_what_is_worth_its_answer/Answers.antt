use Rattle.adb_laws_steps.proofs.Worth.{brings_worth}
use Rattle.adb_laws_steps.proofs.laws.a_device_brings_what_is_worth_its_answer.Goals as goal

pub returns : goal.returns
returns c = λ setting history short legal tied one.
    brings_worth setting history legal (c.joined_bytes_are_paired_packets.ensures setting history short legal tied) one
