-- The directory is unchanged, the name with each number that was tried is taken, and the next number follows them.
use Rattle.std.proofs.Common.{◌≡◌, ◌≤◌, List, Some}
use Rattle.mail_extract.specs.Directory.{File}
use Rattle.mail_extract.specs.Save.{AreTaken}
use Rattle.mail_extract.proofs.save.keep_numbered.Given as goal

abbrev pub invariant-loop-next : goal.invariant-loop-next
invariant-loop-next g l = record {
  above : l.fn.number ≤ l.next;
  after : l.next ≤ l.number;
  taken : (files : List File) → g.D.Directory.held l.fn.directory ≡ Some files
      → (g.D.Directory.held l.directory ≡ Some files) × AreTaken g.D.Directory.can_fail l.naming l.fn.name files l.fn.number l.next;
}
