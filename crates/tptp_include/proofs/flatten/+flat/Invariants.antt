use Rattle.std.proofs.Common.{◌≡◌, ◌≤◌, ◌-◌, ◌*◌, ◌+◌, ℕ, List, [], map, drop, length, Some}
use Rattle.tptp_lines.specs.LineViews.{line_value}
use Rattle.tptp_include.specs.Files.{FileValue}
use Rattle.tptp_include.specs.Outcomes.{Outcome, FileGives, LinesGive}
use Rattle.tptp_include.specs.Views.{names_of}
use Rattle.tptp_include.specs.declared.limits.TheConstants.{MAX_CHAIN}
use Rattle.tptp_include.proofs.flatten.+flat.Given as goal

abbrev pub decreases-add_include : goal.decreases-add_include
decreases-add_include g l = 4 * (MAX_CHAIN - length (names_of l.chain.now)) + 1

abbrev pub decreases-add_line : goal.decreases-add_line
decreases-add_line g l = 4 * (MAX_CHAIN - length (names_of l.chain.now)) + 2

abbrev pub decreases-flat_lines : goal.decreases-flat_lines
decreases-flat_lines g l = 4 * (MAX_CHAIN - length (names_of l.chain.now)) + 3

abbrev pub decreases-flat_file : goal.decreases-flat_file
decreases-flat_file g l = 4 * (MAX_CHAIN - length (names_of l.chain.now)) + 4

-- what comes of the lines that are left, behind what was added, comes of all
abbrev pub invariant-flat_lines-lines : goal.invariant-flat_lines-lines
invariant-flat_lines-lines g l = record {
  held : g.L.Library.held l.library ≡ g.L.Library.held l.fn.library;
  later : g.L.Library.faults l.fn.library ≤ g.L.Library.faults l.library;
  goes : (files : List FileValue) (o : Outcome) (n : ℕ) → g.L.Library.held l.fn.library ≡ Some files
      → LinesGive (FileGives (MAX_CHAIN - length (names_of l.chain)) files) (names_of l.chain) l.bytes.items (map line_value (drop l.line-index l.line-items)) l.flat l.includes o n
      → LinesGive (FileGives (MAX_CHAIN - length (names_of l.chain)) files) (names_of l.chain) l.bytes.items (map line_value l.lines.items) [] l.fn.includes o n;
}
