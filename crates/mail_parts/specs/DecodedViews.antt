-- What a contract sees of a part with its content.
use Rattle.std.specs.Prelude.{◌≡◌, Bool, true, false, Option, Some, None, option_map, if◌then◌else◌}
use Rattle.mailparse.specs.BodyViews.{content_of}
use Rattle.mailparse.specs.Mail.{Tree, root}
use Rattle.mailparse.specs.Views.{tree_of}
use Rattle.mail_read.specs.InnerMails.{holds_mail}
use Rattle.mail_read.specs.PartPlaces.{Place}
use Rattle.mail_read.specs.PlaceViews.{place_view}
use Rattle.mail_read.specs.lenient.Content.{Content, message_content}
use Rattle.mail_read.specs.lenient.ContentViews.{content_view}
use Rattle.mail_read.specs.lenient.Encoding.{lenient_body_kind}
use Rattle.mail_read.specs.lenient.EncodingViews.{IsLenientBody}
use Rattle.mail_parts.specs.Part.{content_if}
use Rattle.mail_parts.specs.declared.decoded.Decoded.{Decoded}

-- the place of a part, and the part
abbrev pub decoded_place : Decoded → Place
decoded_place part = place_view part.place.now

abbrev pub decoded_tree : Decoded → Tree
decoded_tree part = tree_of part.place.now.part.now

-- the content of a part that contains a mail that is read, if bodies are not decoded
abbrev pub mail_if : Bool → Place → Option Content
mail_if true place = None
mail_if false place = if holds_mail place then Some (message_content (root place.part)) else None

-- a part has its body, its content if bodies are decoded, and otherwise that of the mail that it contains
pub record IsDecoded (decodes : Bool) (part : Decoded) : Type 0 where
  pub body : IsLenientBody (lenient_body_kind (root (decoded_tree part))) (content_of (root (decoded_tree part))) part.body
  pub content : option_map content_view part.content ≡ content_if decodes (root (decoded_tree part))
  pub mail : option_map content_view part.mail ≡ mail_if decodes (decoded_place part)
