-- Lemmas on texts that are read leniently.
use Rattle.std.proofs.Common.{◌≡◌, ℕ, Bool, List, Option, Some, None, option_map, Result, Ok, Err, refl, sym, ap, ◌∙◌}
use Rattle.std.proofs.lemmas.Str.{is_utf8-from_IsUtf8}
use Rattle.std.specs.Borrow.{Bor}
use Rattle.std.specs.Option.{is_some}
use Rattle.std.specs.Result.{MatchResult, is_ok}
use Rattle.std.specs.Str.{IsUtf8, is_utf8}
use Rattle.mail_codec.specs.Charset.{Charsets}
use Rattle.mailparse.specs.Mail.{Node}
use Rattle.mailparse.specs.Refusal.{Reads}
use Rattle.mail_read.specs.lenient.Content.{Content, message_content}
use Rattle.mail_read.specs.lenient.Texts.{BodyText, body_text, charset_used, lenient_text, text_read}
use Rattle.mail_read.proofs.lemmas.FileTexts.{is_utf8-false}

pub ok-same : {X : Type 0} (a b : X) → ◌≡◌ {A = Reads X} (Ok a) (Ok b) → a ≡ b
ok-same a b e = cc

-- whether bytes are UTF-8, as it was decided
pub utf8-decided : {E : Type 0} (P : E → Type 0) (bytes : List ℕ) (r : Result (Bor (List ℕ)) E)
    → MatchResult r (λ s. (s.now ≡ bytes) × IsUtf8 bytes) (λ e. (IsUtf8 bytes → ⊥) × P e) → is_ok r ≡ is_utf8 bytes
utf8-decided P bytes (Ok s) h = sym (is_utf8-from_IsUtf8 bytes h.1)
utf8-decided P bytes (Err e) h = sym (is_utf8-false bytes h.0)

pub some-mapped : {X Y : Type 0} (f : X → Y) (o : Option X) → is_some o ≡ is_some (option_map f o)
some-mapped f None = refl
some-mapped f (Some x) = refl

made : List ℕ → List ℕ → Bool → BodyText
made text charset is_damaged = record { text = text; charset = charset; is_damaged = is_damaged }

pub body_text-is : (known : Charsets) (node : Node) (content : Content) (text charset : List ℕ) (is_damaged : Bool) → message_content node ≡ content
    → lenient_text known node.ctype.charset content.bytes ≡ text → charset ≡ charset_used known node.ctype.charset content.bytes
    → is_damaged ≡ is_some content.fault
    → ◌≡◌ {A = BodyText} (body_text known node) (record { text = text; charset = charset; is_damaged = is_damaged })
unfolding made
body_text-is known node content text charset is_damaged whole is used damaged =
    ap (text_read known node.ctype.charset) whole
    ∙ ap (λ (t : List ℕ). made t (charset_used known node.ctype.charset content.bytes) (is_some content.fault)) is
    ∙ ap (λ (c : List ℕ). made text c (is_some content.fault)) (sym used) ∙ ap (made text charset) (sym damaged)
