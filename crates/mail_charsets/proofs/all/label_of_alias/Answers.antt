use Rattle.std.proofs.Common.{refl}
use Rattle.std.proofs.lemmas.Str.Ascii.{trim_ascii_is}
use Rattle.mail_charsets.specs.Aliases.{label_of_alias}
use Rattle.mail_charsets.proofs.all.label_of_alias.Goals as goal

pub returns : goal.returns
unfolding label_of_alias
returns c = rw (c.trimmed_alias.ensures, trim_ascii_is c.args.name.now c.trim_ascii.result.now _ refl c.trim_ascii.ensures.value) refl
