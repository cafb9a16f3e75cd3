use Rattle.std.proofs.lemmas.List.{take_rest}
use Rattle.mail_html.proofs.lemmas.References.{text_byte, text_reference}
use Rattle.mail_html.proofs.references.push_front.Goals as goal

pub returns-then-bytes-eq38-clause-pushed : goal.returns-then-bytes-eq38-clause-pushed
returns-then-bytes-eq38-clause-pushed c = rw c.in_ok-push_referred.ensures (text_reference c.args.references.now c.args.text.now.items c.args.bytes.now _ c.requires c.if-bytes-eq38.true (rw take_rest at c.read_reference-reference.ensures.read))

pub returns-clause-pushed : goal.returns-clause-pushed
returns-clause-pushed c = rw c.in_ok-push.ensures.items (text_byte c.args.references.now c.args.text.now.items c.args.bytes.now c.requires c.if-bytes-eq38.false)
