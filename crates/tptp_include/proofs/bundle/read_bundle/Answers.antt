use Rattle.std.proofs.Common.{◌∙◌, ◌+◌, sym, refl, subst, map}
use Rattle.tptp_include.specs.Files.{AreSmall}
use Rattle.tptp_include.specs.BundleViews.{entry_file}
use Rattle.tptp_include.proofs.Bundling.{no_file, repeated_line, small_all, read_more, read_all, none_left, some_left}
use Rattle.tptp_include.proofs.Mapping.{inserted, is_new, is_old, some_entry}
use Rattle.tptp_include.proofs.bundle.read_bundle.Goals as goal

pub returns-in_default-clause-broken : goal.returns-in_default-clause-broken
returns-in_default-clause-broken c = no_file c.args.bytes.now c.parts.left.now c.parts.line (map entry_file c.parts.files.entries) c.parts.invariant c.in_default.ensures.none

pub returns-in-Ok-Some-clause-broken : goal.returns-in-Ok-Some-clause-broken
returns-in-Ok-Some-clause-broken c =
    let part = c.in-Some.part in
    repeated_line c.args.bytes.now c.parts.left.now c.parts.line (map entry_file c.parts.files.entries) part.name.now part.contents.now part.behind.now part.lines c.parts.invariant c.in-Some.ensures.some
    (is_old c.parts.files.entries c.in_ok-name.name c.in-Ok-Some.field-0-0 part.name.now (sym c.in-Ok-Some.ensures.old ∙ c.in-Ok-Some.field-0-is) c.in_ok-name.ensures)

pub invariant_of-result : goal.invariant_of-result
invariant_of-result c =
    let part = c.in-Some.part in
    let old = map entry_file c.parts.files.entries in
    let none = sym c.in-Ok-None.ensures.old ∙ c.in-Ok-None.field-0-is in
    let same = inserted c.parts.files.entries c.insert.new.self.entries c.in_ok-name.name c.in_ok-contents.contents part.name.now part.contents.now none c.in-Ok-None.ensures.entries c.in_ok-name.ensures c.in_ok-contents.ensures in (
      some_entry c.insert.new.self.entries old (record { name = part.name.now; bytes = part.contents.now }) same,
      subst AreSmall (sym same) (small_all c.args.bytes.now c.parts.left.now c.parts.line old part.name.now part.contents.now part.behind.now part.lines c.requires c.parts.invariant c.in-Some.ensures.some
          (is_new c.parts.files.entries c.in_ok-name.name part.name.now none c.in_ok-name.ensures)),
    )

pub returns-then-is_empty-2-clause-files : goal.returns-then-is_empty-2-clause-files
returns-then-is_empty-2-clause-files c =
    let part = c.in-Some.part in
    let old = map entry_file c.parts.files.entries in
    let none = sym c.in-Ok-None.ensures.old ∙ c.in-Ok-None.field-0-is in
    let same = inserted c.parts.files.entries c.insert.new.self.entries c.in_ok-name.name c.in_ok-contents.contents part.name.now part.contents.now none c.in-Ok-None.ensures.entries c.in_ok-name.ensures c.in_ok-contents.ensures in
    read_all c.args.bytes.now c.parts.left.now c.parts.line old part.name.now part.contents.now part.behind.now part.lines c.requires c.parts.invariant c.in-Some.ensures.some
    (is_new c.parts.files.entries c.in_ok-name.name part.name.now none c.in_ok-name.ensures) (map entry_file c.insert.new.self.entries)
    (none_left part.behind.now c.is_empty-in-parts.result c.is_empty-in-parts.ensures c.if-is_empty-2.true) same

pub parts-preserved : goal.parts-preserved
parts-preserved c =
    let part = c.in-Some.part in
    let old = map entry_file c.parts.files.entries in
    let none = sym c.in-Ok-None.ensures.old ∙ c.in-Ok-None.field-0-is in
    let same = inserted c.parts.files.entries c.insert.new.self.entries c.in_ok-name.name c.in_ok-contents.contents part.name.now part.contents.now none c.in-Ok-None.ensures.entries c.in_ok-name.ensures c.in_ok-contents.ensures in
    read_more c.args.bytes.now c.parts.left.now c.parts.line old part.name.now part.contents.now part.behind.now part.lines c.requires c.parts.invariant c.in-Some.ensures.some
    (is_new c.parts.files.entries c.in_ok-name.name part.name.now none c.in_ok-name.ensures) (c.parts.line + part.lines) (map entry_file c.insert.new.self.entries)
    (some_left part.behind.now c.is_empty-in-parts.result c.is_empty-in-parts.ensures c.if-is_empty-2.false) refl same
