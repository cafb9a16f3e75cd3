use Rattle.std.proofs.Common.{Ok, ap, arith, drop}
use Rattle.std.proofs.lemmas.List.{drop_all}
use Rattle.std.specs.Prelude.{true}
use Rattle.mailparse.specs.Views.{tree_of}
use Rattle.mail_parts.specs.DecodedViews.{IsDecoded}
use Rattle.mail_parts.proofs.lemmas.Decoded.{all_at}
use Rattle.mail_json.proofs.lemmas.Decoded.{recipients_read}
use Rattle.mail_json.proofs.reports.recipients_in.Goals as goal

pub add_recipients-requires : goal.add_recipients-requires
add_recipients-requires g c =
    all_at (IsDecoded true) c.args.parts.now c.loop-part.part-index c.part-item.result (omega arith) c.part-item.is c.requires.decoded

pub returns : goal.returns
returns g c =
    let parts = c.args.parts.now in
    ap Ok (recipients_read (g.K.KnownCharsets.known c.args.known.now) (tree_of c.args.mail.now) parts (drop c.loop-part.part-index parts) _ _
    (drop_all c.loop-part.part-index parts (omega arith)) c.loop-part.invariant c.requires.whole c.in_ok-add_failed.ensures.written)
