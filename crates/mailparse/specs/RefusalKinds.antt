-- The kinds of refusals; the crate's own rule.
use Rattle.std.specs.Prelude.{ℕ, List, [], Option, Some, option_map, if◌then◌else◌}
use Rattle.std.specs.Str.{bytes_eq}
use Rattle.mailparse.specs.Outcome.{refusal_of}
use Rattle.mailparse.specs.Refusal.{Refusal, generic, encoding, base64_fault, leading_space, lone_carriage_return, recursion_limit, too_many_items}
use Rattle.mailparse.specs.declared.error.MailParseError.{MailParseError}
use Rattle.mailparse.specs.declared.error.MailParseError.TheVariants.{QuotedPrintableDecodeError}
use Rattle.mailparse.specs.declared.error.RefusalKind.{RefusalKind}
use Rattle.mailparse.specs.declared.error.RefusalKind.TheVariants.{LeadingSpace, LoneCarriageReturn, TooDeep, TooMany, NotBase64, NotText, Other}

-- the text of a refusal that is a plain text
abbrev pub plain_text : Refusal → List ℕ
plain_text (generic text) = text
plain_text (encoding text) = []
plain_text (base64_fault group) = []

-- the kind of a refusal with this plain text
abbrev pub text_kind : List ℕ → RefusalKind
text_kind text =
    if bytes_eq text (plain_text leading_space) then LeadingSpace
    else (if bytes_eq text (plain_text lone_carriage_return) then LoneCarriageReturn
    else (if bytes_eq text (plain_text recursion_limit) then TooDeep
    else (if bytes_eq text (plain_text too_many_items) then TooMany
    else Other)))

-- the kind of a refusal
abbrev pub kind_of : Refusal → RefusalKind
kind_of (generic text) = text_kind text
kind_of (encoding text) = NotText
kind_of (base64_fault group) = NotBase64

-- the kind of the refusal that an error is, or none if memory ran out
abbrev pub error_kind : MailParseError → Option RefusalKind
error_kind (QuotedPrintableDecodeError fault) = Some Other
error_kind e = option_map kind_of (refusal_of e)
