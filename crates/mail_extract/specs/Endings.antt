-- The endings of the names of files, by type (IANA, Media Types).
use Rattle.std.specs.Prelude.{ℕ, List, [], ◌∷◌, codes}
use Rattle.std.specs.Option.{unwrap_or}
use Rattle.mail_codec.specs.Names.{look_up}
use Rattle.mailparse.specs.Mail.{Node}

-- the endings of some types
abbrev pub endings : List (List ℕ × List ℕ)
endings =
    (codes "application/json", codes ".json")
    ∷ (codes "application/msword", codes ".doc")
    ∷ (codes "application/pdf", codes ".pdf")
    ∷ (codes "application/pkcs7-mime", codes ".p7m")
    ∷ (codes "application/pkcs7-signature", codes ".p7s")
    ∷ (codes "application/zip", codes ".zip")
    ∷ (codes "audio/mpeg", codes ".mp3")
    ∷ (codes "image/gif", codes ".gif")
    ∷ (codes "image/jpeg", codes ".jpg")
    ∷ (codes "image/png", codes ".png")
    ∷ (codes "image/svg+xml", codes ".svg")
    ∷ (codes "image/tiff", codes ".tiff")
    ∷ (codes "message/global", codes ".u8msg")
    ∷ (codes "message/rfc822", codes ".eml")
    ∷ (codes "text/calendar", codes ".ics")
    ∷ (codes "text/csv", codes ".csv")
    ∷ (codes "text/html", codes ".html")
    ∷ (codes "text/plain", codes ".txt")
    ∷ (codes "text/vcard", codes ".vcf")
    ∷ (codes "video/mp4", codes ".mp4")
    ∷ []

-- the ending for a type, ignoring ASCII case; empty if none is known
abbrev pub type_ending : List ℕ → List ℕ
type_ending mimetype = unwrap_or (look_up endings mimetype) []

-- the ending for the type of a message
abbrev pub ending_of : Node → List ℕ
ending_of node = type_ending node.ctype.mimetype
