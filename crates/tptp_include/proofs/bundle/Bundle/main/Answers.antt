use Rattle.std.proofs.Common.{◌∙◌, sym, ap}
use Rattle.tptp_include.specs.Files.{main_name}
use Rattle.tptp_include.proofs.Mapping.{main_is}
use Rattle.tptp_include.proofs.bundle.Bundle.main.Goals as goal

pub returns : goal.returns
returns c = main_is c.self.inside.files.entries (c.in-Some.name.now, c.in-Some.field-0-1.now) (sym c.in-Some.ensures.entry) ∙ ap main_name c.self.view_is
