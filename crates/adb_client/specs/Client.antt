-- What contracts see of a client.
use Rattle.std.specs.Prelude.{ℕ, List, Bool, false, None}
use Rattle.adb_client.specs.declared.about.About.{About}
use Rattle.adb_client.specs.declared.phase.Phase.TheVariants.{Asking}

-- What is plain of a client; what it sent that is held, in order; how many of the first of these bytes can be cut off
-- without memory, and in how many pieces;
-- what is due to it, in order; and how many bytes more, and how many slices more, can become due without memory.
pub record SeenClient : Type 0 where
  pub about : About
  pub held : List ℕ
  pub ready : ℕ
  pub cuts : ℕ
  pub due : List ℕ
  pub spare : ℕ
  pub places : ℕ

-- what is plain of a client that came: it asks, selected nothing and tracks nothing
abbrev pub new_about : ℕ → Bool → About
new_about number forwarded = record {
  number = number;
  forwarded = forwarded;
  phase = Asking;
  selected = None;
  ended = false;
  mark = false;
  long = false;
  want = None;
}

-- a client of which something else is plain
abbrev pub with_about : SeenClient → About → SeenClient
with_about client about = record client { about = about }
