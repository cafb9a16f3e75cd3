-- What a contract sees of a choice and of the options of saving.
use Rattle.std.specs.Prelude.{option_map}
use Rattle.mail_extract.specs.Choice as words
use Rattle.mail_extract.specs.Naming.{Options}
use Rattle.mail_extract.specs.declared.choice.Choice.{Choice}
use Rattle.mail_extract.specs.declared.options.SaveOptions.{SaveOptions}

-- the choice, seen as texts
abbrev pub choice_view : Choice → words.Choice
choice_view choice = record {
  path = option_map (λ text. text.now) choice.path;
  mimetype = option_map (λ text. text.now) choice.mimetype;
  name = option_map (λ text. text.now) choice.name;
}

-- the options, seen as the definitions name them
abbrev pub options_view : SaveOptions → Options
options_view options = record { limit = options.limit; most_bytes = options.most_bytes; hashing = options.hashing; naming = options.naming; choice = choice_view options.choice }
