use Rattle.std.proofs.Common.{List, map, sym, ap, subst, ◌∙◌, arith}
use Rattle.std.proofs.lemmas.List.{take_rest}
use Rattle.mail_codec.specs.Uuencode.{first_file}
use Rattle.mail_codec.specs.UuencodeViews.{file_view}
use Rattle.mail_data.specs.TextFiles.{TextFile}
use Rattle.mail_data.specs.TextFileViews.{text_file_view}
use Rattle.mail_data.proofs.lemmas.TextFiles.{Found, found-end, found-limit, found-pushed, found-start}
use Rattle.mail_data.proofs.text_files.text_files.Goals as goal

pub search-init : goal.search-init
search-init c =
    subst (λ (files : List TextFile). Found c.args.limit c.args.text.now c.args.limit 0 files) (sym (ap (map text_file_view) c.new-files.ensures.items))
    (found-start c.args.limit c.args.text.now)

pub search-preserved : goal.search-preserved
search-preserved c =
    found-pushed c.args.limit c.args.text.now c.search.left c.search.at (map text_file_view c.search.files.items) (map text_file_view c.push_file.new.files.items) (file_view c.in-Some.block)
    (text_file_view c.text_file.result) _ (take_rest c.args.text.now c.search.at) c.search.invariant (omega arith) c.in-Some.ensures.read c.in-Some.ensures.block.1
    c.text_file.ensures c.in_ok-push_file.ensures

pub returns-in_default : goal.returns-in_default
returns-in_default c =
    found-end c.args.limit c.args.text.now c.search.left c.search.at (map text_file_view c.search.files.items) c.search.invariant (c.in_default.ensures.read ∙ ap first_file (take_rest c.args.text.now c.search.at))

pub returns : goal.returns
returns c =
    found-limit c.args.limit c.args.text.now c.search.left c.search.at (map text_file_view c.search.files.items) c.search.invariant (omega arith)
