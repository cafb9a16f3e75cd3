use Rattle.std.proofs.Common.{◌∙◌, ◌++◌, ◌+◌, List, ap, map, refl, sym, append-nil, arith}
use Rattle.std.proofs.lemmas.List.{drop_all}
use Rattle.mail_data.specs.TextFiles.{TextFile}
use Rattle.mail_data.specs.TextFileViews.{text_file_view}
use Rattle.mail_json.specs.TextFiles.{listed_files}
use Rattle.mail_json.specs.TextFileViews.{listed_view}
use Rattle.mail_json.proofs.lemmas.TextFiles.{listed_more}
use Rattle.mail_json.proofs.text_files.listed_files.Goals as goal

pub loop-file-preserved : goal.loop-file-preserved
loop-file-preserved c = record {
  count = omega (arith, c.loop-file.invariant.count);
  all =
      listed_more c.args.hashes c.args.path.now c.loop-file.number c.args.files.now c.loop-file.file-index _ c.loop-file.listed.items _ _ (omega arith) c.in_ok-push.ensures.items refl
      ∙ c.loop-file.invariant.all;
}

pub returns : goal.returns
returns c =
    sym (append-nil (map listed_view c.loop-file.listed.items))
    ∙ ap (λ (fs : List TextFile). map listed_view c.loop-file.listed.items ++ listed_files c.args.hashes c.args.path.now (c.loop-file.number + 1) fs)
    (sym (ap (map text_file_view) (drop_all c.loop-file.file-index c.args.files.now (omega arith))))
    ∙ c.loop-file.invariant.all
