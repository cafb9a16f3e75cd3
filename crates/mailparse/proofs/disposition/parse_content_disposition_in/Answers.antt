use Rattle.mailparse.specs.Pairs.{text_at}
use Rattle.mailparse.specs.Views.{kind}
use Rattle.mailparse.proofs.lemmas.ContentType.{disposition_is}
use Rattle.mailparse.proofs.disposition.parse_content_disposition_in.Goals as goal

pub returns : goal.returns
returns g c =
    disposition_is (g.K.KnownCharsets.known c.args.known.now) c.args.text.now c.in_ok-value.value.now (kind c.in_ok-kind_named.field-0) (text_at c.in_ok-value.params)
    c.in_ok-value.ensures.value c.in_ok-kind_named.ensures c.in_ok-value.ensures.params
