-- What is plain of a client, lent.
use Rattle.std.specs.Borrow.{Lends, MutBor, Fml}
use Rattle.adb_client.specs.Client.{SeenClient, with_about}
use Rattle.adb_client.specs.declared.about.About.{About}
use Rattle.adb_client.specs.contracts.client.Client.{the_row}
use Rattle.adb_client.specs.contracts.about.About.{the_row as about_row}

-- The client ends with what was last put behind the result, and its buffers as they were.
abbrev pub LendsAbout : MutBor SeenClient → MutBor About → Fml
LendsAbout client result = Lends the_row about_row client result (with_about client.now)
