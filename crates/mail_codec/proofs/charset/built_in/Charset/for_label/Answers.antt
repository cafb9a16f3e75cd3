use Rattle.std.proofs.Common.{refl}
use Rattle.std.proofs.lemmas.Str.Ascii.{trim_ascii_is}
use Rattle.mail_codec.specs.Charset.{charset_of_label}
use Rattle.mail_codec.proofs.charset.built_in.Charset.for_label.Goals as goal

pub returns : goal.returns
unfolding charset_of_label
returns c = rw (c.charset_of.ensures, trim_ascii_is c.args.label.now c.trim_ascii.result.now _ refl c.trim_ascii.ensures.value) refl
