use Rattle.std.proofs.Common.{List, ◌+◌, [], map, option_map, string_bytes, refl, sym, subst, ap, arith}
use Rattle.std.proofs.lemmas.List.{drop_all}
use Rattle.mail_data.specs.TextFiles.{TextFile}
use Rattle.mail_data.specs.TextFileViews.{text_file_view}
use Rattle.mail_extract.specs.ChoiceViews.{options_view}
use Rattle.mail_extract.specs.Input.{AreFiles}
use Rattle.mail_extract.specs.Save.{Wanted, chosen, texts_wanted}
use Rattle.mail_extract.proofs.lemmas.Saves.{before_end, before_start}
use Rattle.mail_extract.proofs.lemmas.Texts.{TextsFrom, texts_more}
use Rattle.mail_extract.proofs.texts.extract_files.Goals as goal

pub loop-file-init : goal.loop-file-init
loop-file-init g c =
    let options = options_view c.args.source.options in
    let file = option_map (λ name. name.now) c.args.source.file in
    let All = TextsFrom file g.D.Directory.can_fail options c.args.number c.args.path.now c.args.files.now 0 0 in
    record { count = refl; saved = before_start _ _ _ (λ later. All) (λ later. All) (λ later before from lines next now h. h) }

pub loop-file-preserved : goal.loop-file-preserved
loop-file-preserved g c =
    let options = options_view c.args.source.options in
    let file = option_map (λ name. name.now) c.args.source.file in
    let items = c.args.files.now in
    record {
      count = omega (arith, c.loop-file.invariant.count);
      saved =
          texts_more file g.D.Directory.can_fail options c.args.number c.args.path.now items c.loop-file.file-index c.loop-file.position _ (string_bytes c.in_ok-path.path)
          (TextsFrom file g.D.Directory.can_fail options c.args.number c.args.path.now items 0 0) _ _ _ _ _ _ _ _ _ _ _ _ (omega arith) c.in_ok-path.ensures c.and-outcome.ensures
          c.in_ok-extract_file.ensures c.loop-file.invariant.saved;
    }

pub returns : goal.returns
returns g c =
    let options = options_view c.args.source.options in
    let file = option_map (λ name. name.now) c.args.source.file in
    let Files = AreFiles file g.D.Directory.can_fail options c.args.number in
    let items = c.args.files.now in
    let i = c.loop-file.file-index in
    let path = c.args.path.now in
    let position = c.loop-file.position in
    let none = ap (λ (fs : List TextFile). chosen options.choice (texts_wanted path (position + 1) fs)) (ap (map text_file_view) (drop_all i items (omega arith))) in
    before_end _ _ _ _ _ _ _ (λ later. TextsFrom file g.D.Directory.can_fail options c.args.number path items 0 0)
    (λ later. TextsFrom file g.D.Directory.can_fail options c.args.number path items i position) []
    (λ files from lines next now h. subst (λ (ws : List Wanted). Files ws files from lines next now) (sym none) h)
    c.loop-file.invariant.saved
