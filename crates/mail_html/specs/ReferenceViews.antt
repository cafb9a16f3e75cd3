-- What contracts see of references in the code.
use Rattle.std.specs.Prelude.{ℕ, List}
use Rattle.std.specs.Char.{encode_utf8}
use Rattle.mail_html.specs.References.{Referred}
use Rattle.mail_html.specs.declared.references.Reference.{Reference}
use Rattle.mail_html.specs.declared.references.Referred.{Referred as ReferredText}
use Rattle.mail_html.specs.declared.references.Referred.TheVariants.{Character, Text}

-- the text of a reference
abbrev pub referred_text : ReferredText → List ℕ
referred_text (Character character) = encode_utf8 character
referred_text (Text text) = text.now

-- the text of a reference, and how many bytes after the ampersand it takes
abbrev pub read_view : Reference → Referred
read_view reference = (referred_text reference.referred, reference.taken)
