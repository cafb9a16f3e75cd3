use Rattle.std.specs.Prelude.{string_bytes}
use Rattle.mailparse.specs.Pairs.{text_at}
use Rattle.mailparse.specs.Views.{content_type}
use Rattle.mail_read.proofs.lemmas.lenient.Manner.{type_made}
use Rattle.mail_read.proofs.lenient.manner.made_lenient.Goals as goal

pub returns : goal.returns
returns c =
    type_made (content_type c.args.ctype) (string_bytes c.in_ok-mimetype.mimetype) (text_at c.with_whole_boundary.result)
    c.in_ok-mimetype.ensures c.with_whole_boundary.ensures
