use Rattle.std.proofs.Common.{◌≡◌, [], true, false, is_some, Option, Some, None, refl, sym, subst, ◌∙◌}
use Rattle.adb_history.specs.declared.ending.Ending.TheVariants.{Lost}
use Rattle.adb_capture.specs.declared.entry.Entry.TheVariants.{Detach}
use Rattle.adb_history.specs.Rows.{Link, State}
use Rattle.adb_history.specs.Events.{Made, quietly}
use Rattle.adb_history.specs.Losing.{link_ends}
use Rattle.adb_history.specs.Machine.{unplugs_on}
use Rattle.adb_hub_tables.specs.Tables.{state_of}
use Rattle.adb_hub_tables.specs.Endings.{Records}
use Rattle.adb_hub_tables.proofs.Reporting.{TellsSame, records_as}
use Rattle.adb_hub_rules.proofs.Rests.{rule_tells}
use Rattle.adb_hub_rules.proofs.Telling.{records_none}
use Rattle.adb_laws_resting.proofs.Reached.{sends_nothing}
use Rattle.adb_laws_resting.proofs.Turns.{unplugged, none_unplugged}
use Rattle.adb_hub_links.proofs.detaches.detach.Goals as goal

ends_there : (t : _) (s : State) (row : Option Link) → is_some row ≡ true → link_ends t Lost s ≡ unplugs_on row t s
ends_there t s None there = let clash : false ≡ true = there in cc
ends_there t s (Some link) there = refl

none_there : (t : _) (s : State) (row : Option Link) → is_some row ≡ false → quietly s ≡ unplugs_on row t s
none_there t s None gone = refl
none_there t s (Some link) gone = let clash : true ≡ false = gone in cc

pub returns-then-has_link : goal.returns-then-has_link
returns-then-has_link c =
    let old = c.args.tables.now in
    let s = state_of old in
    let link = c.args.link in
    let there = sym c.has_link.ensures ∙ c.if-has_link.true in
    record {
      made = unplugged old c.end_link.new.tables c.requires.fit c.requires.reached c.end_link.ensures.uses link there
          c.end_link.ensures.state;
      told = λ cause.
          records_as (rule_tells (Detach link cause) s ((sends_nothing s c.requires.reached).detach link cause))
          (subst (λ (m : Made). Records m.told c.args.ends.now old c.end_link.new.ends) (ends_there link s (s.links link) there)
          c.end_link.ensures.reports.log);
    }

pub returns-else-has_link : goal.returns-else-has_link
returns-else-has_link c =
    let old = c.args.tables.now in
    let s = state_of old in
    let link = c.args.link in
    let gone = sym c.has_link.ensures ∙ c.if-has_link.false in
    record {
      made = none_unplugged old c.requires.fit c.requires.reached link gone;
      told = λ cause.
          let quiet : TellsSame [] (unplugs_on (s.links link) link s).told =
          subst (λ (m : Made). TellsSame [] m.told) (none_there link s (s.links link) gone) (λ rows log. refl) in
          let rests = (sends_nothing s c.requires.reached).detach link cause in
          records_none c.args.ends.now old (λ rows log. quiet rows log ∙ rule_tells (Detach link cause) s rests rows log);
    }
