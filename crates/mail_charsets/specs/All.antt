-- All charsets of the standard in which bytes can be read: the four, those of tables, and then the encodings of several bytes.
use Rattle.std.specs.Prelude.{option_and_then, option_map}
use Rattle.mail_codec.specs.Charset.{Charsets, known_by_either}
use Rattle.mail_codec.specs.Tables.{charsets_with}
use Rattle.mail_charsets.specs.Aliases.{label_of_alias}
use Rattle.mail_charsets.specs.Encoding.{readable_encoding, text_in}
use Rattle.mail_charsets.specs.declared.all.AllCharsets.{AllCharsets}
use Rattle.mail_charsets.specs.declared.indexes.Indexes.{Indexes}

-- the encodings under indexes, except for replacement
abbrev pub encodings_under : Indexes → Charsets
encodings_under indexes label = option_map (text_in indexes) (readable_encoding label)

-- the charsets of the standard: the four, then the tables, and then the encodings
abbrev pub standard_charsets : AllCharsets → Charsets
standard_charsets all = known_by_either (charsets_with all.known.0.now) (encodings_under all.known.1)

-- the same, by the labels of the standard, and then by other names that mail uses
abbrev pub all_known : AllCharsets → Charsets
all_known all =
    let by_label = standard_charsets all in
    known_by_either by_label (λ name. option_and_then by_label (label_of_alias name))
