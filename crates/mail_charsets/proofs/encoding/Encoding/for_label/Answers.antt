use Rattle.std.proofs.Common.{refl}
use Rattle.std.proofs.lemmas.Str.Ascii.{trim_ascii_is}
use Rattle.mail_charsets.specs.Encoding.{encoding_of_label}
use Rattle.mail_charsets.proofs.encoding.Encoding.for_label.Goals as goal

pub returns : goal.returns
unfolding encoding_of_label
returns c = rw (c.encoding_of.ensures, trim_ascii_is c.args.label.now c.trim_ascii.result.now _ refl c.trim_ascii.ensures.value) refl
