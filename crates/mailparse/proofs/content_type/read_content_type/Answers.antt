use Rattle.std.proofs.Common.{string_bytes}
use Rattle.mailparse.specs.Pairs.{text_at}
use Rattle.mailparse.proofs.lemmas.ContentType.{type_is}
use Rattle.mailparse.proofs.content_type.read_content_type.Goals as goal

pub returns : goal.returns
returns g c =
    type_is (g.K.KnownCharsets.known c.args.known.now) c.args.text.now c.in_ok-value.value.now (string_bytes c.in_ok-mimetype.mimetype) (string_bytes c.in_ok-charset.charset)
    (text_at c.in_ok-value.params) c.in_ok-value.ensures.value
    c.in_ok-mimetype.ensures
    c.in_ok-value.ensures.params c.in_ok-charset.ensures
