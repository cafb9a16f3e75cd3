-- The line of JSON that a call returns; the crate's own form.
use Rattle.std.specs.Prelude.{◌≡◌, true, false, List, ℕ, Some, None, Ok, Err}
use Rattle.mail_codec.specs.Charset.{Charsets}
use Rattle.mail_read.specs.Reading.{mail_reading}
use Rattle.mail_json.specs.JsonLines.{IsMailLine}
use Rattle.mail_json.specs.Options.{Options}
use Rattle.mail_records.specs.Buffer.{Found}
use Rattle.mail_records.specs.Results.{no_limit}

-- Under the charsets that are known.
module _ (known : Charsets) where
  -- bodies decoded, no hashes, no findings, texts as they are, and without the text of HTML
  abbrev pub plain_options : Options
  plain_options = record {
    known = known;
    limit = no_limit;
    most_bytes = None;
    decodes_bodies = true;
    hashes = false;
    joins_flowed = false;
    html = None;
    lists_findings = false;
  }

  -- the line of JSON of a mail
  abbrev pub IsJson : List ℕ → Found → Type 0
  IsJson raw (Ok (Some line)) = IsMailLine plain_options None raw true line
  IsJson raw (Ok None) = ⊥
  IsJson raw (Err refusal) = mail_reading known no_limit raw ≡ Err refusal
