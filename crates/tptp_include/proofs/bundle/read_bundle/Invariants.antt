use Rattle.std.proofs.Common.{length, map}
use Rattle.tptp_include.specs.BundleViews.{entry_file}
use Rattle.tptp_include.proofs.Bundling.{ReadFiles}
use Rattle.tptp_include.proofs.bundle.read_bundle.Given as goal

abbrev pub invariant-parts : goal.invariant-parts
invariant-parts l = ReadFiles l.bytes l.left l.line (map entry_file l.files.entries)

abbrev pub decreases-parts : goal.decreases-parts
decreases-parts l = length l.left
