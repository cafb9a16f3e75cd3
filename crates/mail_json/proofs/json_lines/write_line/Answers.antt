use Rattle.std.proofs.Common.{true, refl, sym, subst}
use Rattle.std.proofs.KnownBytes.{Appends-trans}
use Rattle.mail_json.specs.Options.{options_of}
use Rattle.mailparse.specs.Mail.{Tree}
use Rattle.mailparse.specs.Refusal.{Reads}
use Rattle.mail_json.specs.JsonLines.{IsLineOf}
use Rattle.mail_json.specs.Origin.{origin_of}
use Rattle.mail_json_text.specs.Printed.{line_of}
use Rattle.mail_json.proofs.json_lines.write_line.Goals as goal

pub returns-in_ok-write_word-in-Ok : goal.returns-in_ok-write_word-in-Ok
returns-in_ok-write_word-in-Ok g c =
    let options = options_of (g.K.KnownCharsets.known c.args.known.now) c.args.options in
    let object = c.in_ok-write_mail-in-Ok.ensures in
    let line = line_of object.0 in (
      line,
      subst (λ (r : Reads Tree). IsLineOf options (origin_of c.args.origin.now) r true line) (sym c.in-Ok.ensures.read) (refl, object.0, object.1, refl),
      Appends-trans _ _ _ _ _ object.2 c.in_ok-write_word-in-Ok.ensures,
    )
