use Rattle.std.proofs.Common.{◌++◌, length, option_map, ◌∙◌}
use Rattle.std.proofs.KnownBytes.{Appends-trans}
use Rattle.std.proofs.lemmas.List.{take_rest}
use Rattle.mail_walk.specs.Kind.{format_of}
use Rattle.mail_json.specs.Options.{options_of}
use Rattle.mail_json.specs.Written.{is_clean}
use Rattle.mail_json.proofs.lemmas.Stream.{front_lines}
use Rattle.mail_json.proofs.stream.write_following.Goals as goal

pub returns : goal.returns
returns g c =
    let read = c.args.read.now in
    let front = c.in_ok-written.ensures in
    let bytes = c.front-front.result.now in
    let rest = c.in_ok-write_rest.ensures in (
      rest.0,
      rest.1,
      rest.2,
      rest.3,
      front.0 ++ rest.4,
      front_lines (options_of (g.K.KnownCharsets.known c.args.source.known.now) c.args.source.options) (format_of c.args.source.kind) (option_map (λ name. name.now) c.args.source.file) c.args.selection read bytes _ (is_clean c.in_ok-written.written)
          front.0 c.requires (c.front-front.ensures ∙ c.read_mailbox.ensures.front) (take_rest read (length bytes)) front.1 (rest.0 ++ rest.1) (is_clean c.in_ok-write_rest.field-0) (is_clean c.and.result) rest.4 c.and.ensures rest.5,
      Appends-trans _ _ _ front.0 rest.4 front.2 rest.6,
    )
