-- How mails are read and shown; the program's own form.
use Rattle.std.specs.Prelude.{ℕ, Bool, Option, option_map}
use Rattle.mail_codec.specs.Charset.{Charsets}
use Rattle.mail_html.specs.declared.references.References.{References}
use Rattle.mail_json.specs.declared.options.LineOptions as code

-- the charsets that are known, the limit on the messages, parts and headers of each mail, the chosen limit on the bytes
-- that are decoded for the mails inside a mail, whether bodies are decoded, whether files have their hashes, whether each
-- flowed paragraph of a text is one line, the references under which HTML has its text, or none, and whether a mail has
-- its findings
pub record Options : Type 0 where
  pub known : Charsets
  pub limit : ℕ
  pub most_bytes : Option ℕ
  pub decodes_bodies : Bool
  pub hashes : Bool
  pub joins_flowed : Bool
  pub html : Option References
  pub lists_findings : Bool

-- the same of the program's options, under these charsets
abbrev pub options_of : Charsets → code.LineOptions → Options
options_of known options =
    record {
      known = known;
      limit = options.limit;
      most_bytes = options.most_bytes;
      decodes_bodies = options.decodes_bodies;
      hashes = options.hashes;
      joins_flowed = options.joins_flowed;
      html = option_map (λ references. references.now) options.html;
      lists_findings = options.lists_findings;
    }

-- these options, under which bodies are decoded, or are not
abbrev pub decoding : Bool → Options → Options
decoding decodes options = record options { decodes_bodies = decodes }
