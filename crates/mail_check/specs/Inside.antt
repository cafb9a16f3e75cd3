-- The findings of the mails inside a mail (RFC 2046, section 5.2.1); this crate's own words.
use Rattle.std.specs.Prelude.{ℕ, zero, suc, List, [], ◌∷◌, ◌++◌, flat_map, length, map, Option, Some, None, Ok, Err, codes, if◌then◌else◌}
use Rattle.std.specs.Str.{bytes_eq}
use Rattle.mail_codec.specs.Charset.{Charsets}
use Rattle.mailparse.specs.Limit.{read_mail_within}
use Rattle.mailparse.specs.Mail.{Tree, root, strict}
use Rattle.mailparse.specs.Placement.{Placement, placements}
use Rattle.mailparse.specs.Ranges.{Range}
use Rattle.mailparse.specs.Refusal.{Reads}
use Rattle.mail_read.specs.InnerMails.{holds_mail, is_plain, places_under}
use Rattle.mail_read.specs.PartPlaces.{Place, places}
use Rattle.mail_read.specs.lenient.Encoding.{LenientKind, lenient_body_kind}
use Rattle.mail_check.specs.Findings.{Finding, finding_at, findings, findings_from, plus, spot_of_body}
use Rattle.mail_check.specs.declared.names.Name.TheVariants as name

-- the bytes of a body in this encoding, if it is not encoded
abbrev pub plain_bytes : LenientKind → List ℕ → Option (List ℕ)
plain_bytes kind body = if is_plain kind then Some body else None

-- the bytes of the mail that a message forwards, if it is not encoded
abbrev pub mail_in : Place → Option (List ℕ)
mail_in place =
    let node = root place.part in
    if holds_mail place then plain_bytes (lenient_body_kind node) node.body else None

-- a range of a mail that begins at an offset of another one, as it is in that one
abbrev pub moved_range : ℕ → Range → Range
moved_range start range = record {
  start = plus start range.start;
  end = plus start range.end;
}

-- the path of a part of a mail that is inside the part with the path `inside`, or in none: the mail inside, if it has parts, has the
-- path of that part and `.0`, so that no two parts have one path
abbrev pub path_shown : Option (List ℕ) → List ℕ → List ℕ
path_shown None path = path
path_shown (Some inside) path = if bytes_eq path inside then path ++ codes ".0" else path

-- a message of such a mail, which is in the body of this one
abbrev pub moved : Place → Place → Place
moved outer place = record {
  path = path_shown (Some outer.path) place.path;
  part = place.part;
  placement = record {
    whole = moved_range outer.placement.body.start place.placement.whole;
    body = moved_range outer.placement.body.start place.placement.body;
  };
}

-- the messages of a mail in the body of one
abbrev pub places_in : Place → Tree → List Place
places_in place mail = map (moved place) (places_under place.path mail (placements 0 mail))

-- Under the charsets that are known.
module _ (known : Charsets) where
  -- a mail inside, read as a whole mail is, but refused if it has more than 1,000,000 messages, parts and headers
  abbrev pub inner_mail : List ℕ → Reads Tree
  inner_mail raw = read_mail_within (strict known) 100 1000000 raw

  -- the findings of a mail in the body of a message: its own, as those of a whole mail, and then those of the mails inside it
  abbrev pub tree_findings : (Place → List Finding) → Place → Tree → List Finding
  tree_findings inside place mail =
      findings_from known 0 (places_in place mail) ++ flat_map inside (places_in place mail)

  -- those of a mail that was read there from these bytes, or its refusal
  abbrev pub read_findings : (Place → List Finding) → Place → List ℕ → Reads Tree → List Finding
  read_findings inside place raw (Ok mail) = tree_findings inside place mail
  read_findings inside place raw (Err refusal) =
      finding_at (spot_of_body place (length raw)) name.Refused 0 ∷ []

  -- those of the mail in these bytes, if a message forwards one
  abbrev pub forwarded_findings : (Place → List Finding) → Place → Option (List ℕ) → List Finding
  forwarded_findings inside place None = []
  forwarded_findings inside place (Some raw) = read_findings inside place raw (inner_mail raw)

  -- those of the mail that a message forwards and of the mails inside that, at most `most` mails deep
  abbrev pub inside_findings : ℕ → Place → List Finding
  inside_findings zero place = []
  inside_findings (suc most) place = forwarded_findings (inside_findings most) place (mail_in place)

-- all findings of a mail: its own, and then those of the mails inside it, in the order of the messages that forward them
unfoldable pub all_findings : Charsets → Tree → List Placement → List Finding
all_findings known mail found =
    findings known mail found ++ flat_map (inside_findings known 100) (places mail found)
