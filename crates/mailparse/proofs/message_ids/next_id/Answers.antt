use Rattle.mailparse.proofs.lemmas.MessageIds.{message_ids-end, message_ids-next, message_ids-refused}
use Rattle.mailparse.proofs.message_ids.next_id.Goals as goal

pub returns-in_default : goal.returns-in_default
returns-in_default c = message_ids-end c.args.text.now c.in_default.ensures

pub returns-in-Some-opened_id : goal.returns-in-Some-opened_id
returns-in-Some-opened_id c =
    message_ids-next c.args.text.now c.in-Some.piece.now c.in-Some.after.now c.in-Some-opened_id.id.now c.in-Some.ensures c.in-Some-opened_id.ensures

pub returns-in-None : goal.returns-in-None
returns-in-None c = message_ids-refused c.args.text.now c.in-Some.piece.now c.in-Some.after.now c.in-Some.ensures c.in-None.ensures
