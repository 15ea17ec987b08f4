use Rattle.std.proofs.Common.{arith, sym, ◌∙◌, ◌≡◌, ap, subst, length, None}
use Rattle.adb_files.specs.Files.{IsFileMap, with_file, total, put_refusal}
use Rattle.adb_files.proofs.Rising.{total-with}
use Rattle.adb_files.proofs.Maps.{map-with}
use Rattle.adb_files.proofs.Lookups.{Granted, granted}
use Rattle.adb_files.proofs.files.Files.put.Goals as goal

stored : (c : goal.After-self-1) → c.store.new.slots.items ≡ with_file c.args.path.now c.args.file c.args.self.now
stored c = c.in_ok-store.ensures.list ∙ ap (with_file c.args.path.now c.args.file) c.self.view_is

kept : (c : goal.After-self-1) → IsFileMap c.store.new.slots.items
kept c =
    let size : c.len-size.result ≡ length c.args.file.bytes = c.len-size.ensures in
    let none : put_refusal c.args.self.now c.args.path.now c.len-size.result ≡ None = sym c.put_refusal.ensures ∙ c.in_default.is in
    let may = granted c.args.self.now c.args.path.now c.len-size.result none in
    subst IsFileMap (sym (stored c)) (map-with c.args.path.now c.args.file c.args.self.now c.used_without.ensures.files
    (subst (Granted c.args.self.now c.args.path.now) size may) c.requires c.have_32_bits.ensures.mode c.have_32_bits.ensures.mtime)

pub invariant_of-self-2 : goal.invariant_of-self-2
invariant_of-self-2 c =
    let size : c.len-size.result ≡ length c.args.file.bytes = c.len-size.ensures in
    (kept c, omega (arith, size, c.used_without.ensures.used, total-with c.args.path.now c.args.file c.args.self.now, ap total (stored c)))

pub returns-clause-files : goal.returns-clause-files
returns-clause-files c = kept c
