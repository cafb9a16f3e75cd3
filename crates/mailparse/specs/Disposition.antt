-- How a part of a message is to be shown: RFC 2183, section 2, as this crate reads it.
use Rattle.std.specs.Prelude.{ℕ, ◌||◌, List, codes, if◌then◌else◌}
use Rattle.std.specs.Str.{bytes_eq, str_to_ascii_lowercase}
use Rattle.mail_codec.specs.Charset.{Charsets, four_charsets}
use Rattle.mail_codec.specs.Places.{is_empty}
use Rattle.mailparse.specs.Continuations.{parameters_in}
use Rattle.mailparse.specs.Pairs.{Texts, no_texts, pairs_of, value_of}

-- the kinds of dispositions: three that have names here, and any other text
pub data Kind : Type 0 where
  inline attachment form_data : Kind
  extension : List ℕ → Kind

-- the kind is not an extension
abbrev pub IsNamed : Kind → Type 0
IsNamed (extension name) = ⊥
IsNamed _ = Unit {0}

-- a disposition: its kind, and the parameters by name
pub record Disposition : Type 0 where
  pub kind : Kind
  pub params : Texts

-- the disposition if none is given
abbrev pub default_disposition : Disposition
default_disposition = record { kind = inline; params = no_texts }

-- the kind with this name, in lower case; an empty text means `inline`
abbrev pub disposition_named : List ℕ → Kind
disposition_named name =
    if is_empty name || bytes_eq name (codes "inline") then inline
    else (if bytes_eq name (codes "attachment") then attachment
    else (if bytes_eq name (codes "form-data") then form_data
    else extension name))

-- Under the charsets that are known.
module _ (known : Charsets) where
  -- the disposition in a text: its value in lower case is the name of the kind
  unfoldable pub disposition_in : List ℕ → Disposition
  disposition_in text =
      record { kind = disposition_named (str_to_ascii_lowercase (value_of text)); params = parameters_in known (pairs_of text) }

-- the same under the four charsets
abbrev pub disposition_of : List ℕ → Disposition
disposition_of text = disposition_in four_charsets text
