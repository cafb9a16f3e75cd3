-- Lemmas on headers whose values are not tested: only how they are written is reported.
use Rattle.std.proofs.Common.{◌≡◌, ◌∙◌, ℕ, Bool, false, List, [], ◌++◌, length, refl, sym, ap}
use Rattle.std.specs.Prelude.{◌==◌, ◌&&◌, ◌||◌, not, codes}
use Rattle.std.proofs.lemmas.Bool.{and_right, or_parts}
use Rattle.std.proofs.lemmas.List.{append-nil}
use Rattle.mail_codec.specs.Charset.{Charsets}
use Rattle.mailparse.specs.ContentType.{ContentType}
use Rattle.mailparse.specs.Mail.{root}
use Rattle.mail_read.specs.PartPlaces.{Place}
use Rattle.mail_check.specs.Findings.{Finding, Spot, header_findings, line_findings, listed_if, parameter_findings, sender_findings, spot_in, type_findings, worded_findings}
use Rattle.mail_check.specs.Lines.{HeaderLine, is_bad_encoding, is_named}
use Rattle.mail_check.specs.Parameters.{is_disposition, is_type}
use Rattle.mail_check.specs.Senders.{is_plain_sender}
use Rattle.mail_check.specs.Words.{is_worded}
use Rattle.mail_check.specs.declared.names.Name.TheVariants.{FromSyntax}
use Rattle.mail_check.specs.private.Tested.{has_tested_value}

no_parameters : (spot : Spot) (line : HeaderLine) → is_type line ≡ false → is_disposition line ≡ false → parameter_findings spot line ≡ []
no_parameters spot line t d = rw (t, d) refl

no_type : (spot : Spot) (ctype : ContentType) (line : HeaderLine) → is_type line ≡ false → is_named (codes "Content-Transfer-Encoding") line ≡ false
    → type_findings spot ctype line ≡ []
unfolding is_bad_encoding
no_type spot ctype line t e = rw (t, e) refl

no_sender : (number : ℕ) (spot : Spot) (line : HeaderLine) → is_named (codes "From") line ≡ false → sender_findings number spot line ≡ []
no_sender number spot line f =
    ap (listed_if spot FromSyntax)
    (ap (λ (s : Bool). (number == 0) && (s && not (is_plain_sender line.value))) f ∙ and_right (number == 0) false refl)

no_words : (known : Charsets) (spot : Spot) (line : HeaderLine) → is_worded line ≡ false → worded_findings known spot line ≡ []
no_words known spot line w = rw w refl

-- the findings of a header
nothing_more : (some a b c d : List Finding) → a ≡ [] → b ≡ [] → c ≡ [] → d ≡ [] → some ++ (a ++ (b ++ (c ++ d))) ≡ some
nothing_more some a b c d e f g h = rw (e, f, g, h) (append-nil some)

untested : (known : Charsets) (number : ℕ) (place : Place) (line : HeaderLine) → has_tested_value line ≡ false
    → header_findings known number place line ≡ line_findings (spot_in place line.start (length line.bytes)) (length (root place.part).block) line
unfolding has_tested_value
untested known number place line h =
    let spot = spot_in place line.start (length line.bytes) in
    let typed = or_parts (is_type line) _ h in
    let shown = or_parts (is_disposition line) _ typed.1 in
    let coded = or_parts (is_named (codes "Content-Transfer-Encoding") line) (is_worded line) shown.1 in
    let subject = or_parts (is_named (codes "Subject") line) (is_named (codes "From") line || is_named (codes "Sender") line) coded.1 in
    let from = or_parts (is_named (codes "From") line) (is_named (codes "Sender") line) subject.1 in
    nothing_more (line_findings spot (length (root place.part).block) line)
    (parameter_findings spot line) (type_findings spot (root place.part).ctype line) (sender_findings number spot line) (worded_findings known spot line)
    (no_parameters spot line typed.0 shown.0) (no_type spot (root place.part).ctype line typed.0 coded.0) (no_sender number spot line from.0) (no_words known spot line coded.1)

-- so nothing is added to what was found of how it is written
pub nothing_added : (known : Charsets) (number : ℕ) (place : Place) (line : HeaderLine) (old new : List Finding) (spot : Spot) (size : ℕ)
    → has_tested_value line ≡ false → spot ≡ spot_in place line.start (length line.bytes) → size ≡ length (root place.part).block
    → new ≡ old ++ line_findings spot size line → new ≡ old ++ header_findings known number place line
nothing_added known number place line old new spot size h at whole e =
    e ∙ ap (λ (s : Spot). old ++ line_findings s size line) at ∙ ap (λ (n : ℕ). old ++ line_findings (spot_in place line.start (length line.bytes)) n line) whole
    ∙ ap (λ (more : List Finding). old ++ more) (sym (untested known number place line h))
