-- The bytes of the text of a message are read in one way exactly if they are by the statement of strict messages.
use Rattle.std.proofs.Common.{◌≡◌, ℕ, Bool, true, false, List, inl, inr}
use Rattle.std.specs.Prelude.{◌↔◌, ◌==◌, is_some, codes}
use Rattle.std.proofs.lemmas.Bool.{and_left, and_right, cases_Bool, or_from, or_parts}
use Rattle.mail_codec.specs.Charset.{Charsets, mark_at_start}
use Rattle.mail_codec.specs.Places.{byte_place}
use Rattle.mailparse.specs.Mail.{Node}
use Rattle.mail_read.specs.lenient.Content.{message_content}
use Rattle.mail_check.specs.Charsets.{is_lacking}
use Rattle.mail_check.specs.Lines.{begins_type}
use Rattle.mail_check.specs.Texts.{has_bad_text, is_bad_text, is_binary}
use Rattle.mail_check_laws.specs.Texts.{IsReadableText}
use Rattle.mail_check_laws.proofs.lemmas.Charsets.{charset_has, in_charset, mark_none, none_marked, offset_none}
use Rattle.mail_check.proofs.lemmas.Booleans.{second_false}
use Rattle.mail_check.proofs.lemmas.Searched.{no_offset}

module _ (known : Charsets) where
  readable_text : (label octets : List ℕ) → is_bad_text known label octets ≡ false → IsReadableText known label octets
  readable_text label octets h =
      let both = or_parts (is_binary octets) (is_lacking known label octets) h in
      let binary = or_parts (is_some (byte_place octets 0)) (is_some (mark_at_start octets)) both.0 in
      record {
        no_nul = no_offset (λ b. b == 0) octets binary.0;
        mark = mark_none octets binary.1;
        charset = in_charset known label octets both.1;
      }

  text_readable : (label octets : List ℕ) → IsReadableText known label octets → is_bad_text known label octets ≡ false
  text_readable label octets h =
      or_from (is_binary octets) (is_lacking known label octets)
      (or_from (is_some (byte_place octets 0)) (is_some (mark_at_start octets)) (offset_none (λ b. b == 0) octets h.no_nul)
      (none_marked octets h.mark))
      (charset_has known label octets h.charset)

  module _ (node : Node) where
    abbrev is_text : Bool
    is_text = begins_type (codes "text/") node.ctype

    abbrev is_bad : Bool
    is_bad = is_bad_text known node.ctype.charset (message_content node).bytes

    by_type : (is_text ≡ true → IsReadableText known node.ctype.charset (message_content node).bytes)
        → has_bad_text known node ≡ false
    by_type h = elim (cases_Bool is_text) [
      | inl e ↦ and_right is_text is_bad (text_readable node.ctype.charset (message_content node).bytes (h e))
      | inr e ↦ and_left is_text is_bad e
    ]

    pub text_strict : (has_bad_text known node ≡ false)
        ↔ (begins_type (codes "text/") node.ctype ≡ true → IsReadableText known node.ctype.charset (message_content node).bytes)
    text_strict = (
      λ h e. readable_text node.ctype.charset (message_content node).bytes (second_false is_text is_bad e h),
      by_type,
    )
