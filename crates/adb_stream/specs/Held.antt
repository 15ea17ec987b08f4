-- A credit in bytes, as it is held and as contracts see it.
use Rattle.adb_stream.specs.Credit.{ByteCredit}
use Rattle.adb_stream.specs.declared.credit.Credit.TheInside.{Inside}

abbrev pub seen : Inside → ByteCredit
seen c = record { to_send = c.to_send; left = c.left; to_hand = c.to_hand; gathered = c.gathered }

abbrev pub held : ByteCredit → Inside
held c = record { to_send = c.to_send; left = c.left; to_hand = c.to_hand; gathered = c.gathered }
