use Rattle.std.proofs.Common.{refl}
use Rattle.mail_read.proofs.lemmas.FileNames.{shortened-made}
use Rattle.mail_read.proofs.files.names.shortened.Goals as goal

pub returns : goal.returns
returns c =
    shortened-made c.args.characters.now _ _ _ _ c.kept_ending-ending.result.now c.front_len-front.result c.size.result c.new-text.ensures.bytes c.in_ok-push_characters.ensures
    c.in_ok-push_characters-2.ensures c.kept_ending-ending.ensures.value c.size.ensures.value c.front_len-front.ensures.value refl
