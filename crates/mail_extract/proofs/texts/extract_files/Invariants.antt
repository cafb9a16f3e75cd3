-- What was saved is completed by the files that are left.
use Rattle.std.proofs.Common.{◌≡◌, option_map}
use Rattle.mail_extract.specs.ChoiceViews.{options_view}
use Rattle.mail_extract.specs.Input.{Saved}
use Rattle.mail_extract.specs.private.Blocks.{Before}
use Rattle.mail_extract.proofs.lemmas.Texts.{TextsFrom}
use Rattle.mail_extract.proofs.texts.extract_files.Given as goal

abbrev pub invariant-loop-file : goal.invariant-loop-file
invariant-loop-file g l =
    let options = options_view l.fn.source.options in
    let file = option_map (λ name. name.now) l.fn.source.file in
    let From = TextsFrom file g.D.Directory.can_fail options l.number l.path l.files in
    record {
      count : l.position ≡ l.file-index;
      saved : Saved (g.D.Directory.held l.fn.target.directory) (g.D.Directory.held l.target.directory) (g.W.Write.contents l.fn.out) (g.W.Write.contents l.out) l.fn.target.number l.target.number l.outcome
          (Before (λ later. From 0 0) (λ later. From l.file-index l.position));
    }
