-- A mail and its parts have no findings of some names exactly if they are of the grammar of strict mails.
use Rattle.std.specs.Prelude.{◌≡◌, ◌↔◌, ℕ, List, Ok}
use Rattle.mail_codec.specs.Charset.{Charsets}
use Rattle.mailparse.specs.Mail.{Tree, read_mail_in}
use Rattle.mailparse.specs.Placement.{placements}
use Rattle.mail_read.specs.PartPlaces.{Place, places}
use Rattle.mail_check.specs.Findings.{findings}
use Rattle.mail_grammar.specs.Levels.{IsSmall}
use Rattle.mail_check_laws.specs.Mail.{AreStrictBodies, AreStrictFields, AreStrictFileNames, AreStrictParameters, AreStrictParts}
use Rattle.mail_check_laws.specs.Mail.{AreStrictSenders, AreStrictTexts, AreStrictWords, HasStrictBlocks, IsStrict}
use Rattle.mail_check_laws.specs.Named.{Lacks, is_block_name, is_body_name, is_core, is_field_name, is_file_name, is_from_name}
use Rattle.mail_check_laws.specs.Named.{is_many_name, is_parameter_name, is_part_name, is_text_name, is_word_name}
use Rattle.mail_check_laws.proofs.lemmas.Levels.{found_small, small_found}
use Rattle.mail_check_laws.proofs.lemmas.Messages as messages
use Rattle.mail_check_laws.proofs.lemmas.Reading.{AreThere, mail-there}

module _ (known : Charsets) (greatest : ℕ) (bytes : List ℕ) (t : Tree) (read : read_mail_in known greatest bytes ≡ Ok t) where
  abbrev found : List Place
  found = places t (placements 0 t)

  are : AreThere bytes t found
  are = mail-there known greatest bytes t read

  pub blocks_strict : Lacks is_block_name (findings known t (placements 0 t)) ↔ HasStrictBlocks t
  unfolding findings
  blocks_strict = messages.blocks_strict known bytes t found are

  pub fields_are_of_grammar : Lacks is_field_name (findings known t (placements 0 t)) ↔ AreStrictFields t
  unfolding findings
  fields_are_of_grammar = messages.fields_are_of_grammar known bytes t found are

  pub parameters_are_of_grammar : Lacks is_parameter_name (findings known t (placements 0 t)) ↔ AreStrictParameters t
  unfolding findings
  parameters_are_of_grammar = messages.parameters_are_of_grammar known bytes t found are

  pub files_are_of_grammar : Lacks is_file_name (findings known t (placements 0 t)) ↔ (AreStrictParameters t × AreStrictFileNames t)
  unfolding findings
  files_are_of_grammar = messages.files_are_of_grammar known bytes t found are

  pub senders_are_of_grammar : Lacks is_from_name (findings known t (placements 0 t)) ↔ AreStrictSenders t
  unfolding findings
  senders_are_of_grammar = messages.senders_are_of_grammar known bytes t found are

  pub words_are_of_grammar : Lacks is_word_name (findings known t (placements 0 t)) ↔ AreStrictWords known t
  unfolding findings
  words_are_of_grammar = messages.words_are_of_grammar known bytes t found are

  pub parts_are_of_grammar : Lacks is_part_name (findings known t (placements 0 t)) ↔ AreStrictParts t
  unfolding findings
  parts_are_of_grammar = messages.parts_are_of_grammar known bytes t found are

  pub bodies_are_of_grammar : Lacks is_body_name (findings known t (placements 0 t)) ↔ AreStrictBodies t
  unfolding findings
  bodies_are_of_grammar = messages.bodies_are_of_grammar known bytes t found are

  pub texts_are_of_grammar : Lacks is_text_name (findings known t (placements 0 t)) ↔ AreStrictTexts known t
  unfolding findings
  texts_are_of_grammar = messages.texts_are_of_grammar known bytes t found are

  pub many_of_grammar : Lacks is_many_name (findings known t (placements 0 t)) ↔ IsSmall t
  unfolding findings
  many_of_grammar =
      let both = messages.many_of_grammar known bytes t found are in (
        λ h. small_found known greatest bytes t read (both.0 h),
        λ h. both.1 (found_small known greatest bytes t read h),
      )

  pub mail_strict : Lacks is_core (findings known t (placements 0 t)) ↔ IsStrict known bytes t
  unfolding findings
  mail_strict =
      let both = messages.messages_strict known bytes t found are in (
        λ h.
            let strict = both.0 h in
            record { messages = strict.0; small = small_found known greatest bytes t read strict.1 },
        λ h. both.1 (h.messages, found_small known greatest bytes t read h.small),
      )
