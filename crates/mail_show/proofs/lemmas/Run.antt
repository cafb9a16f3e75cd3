-- Lemmas on what a run does to its reader and its writer.
use Rattle.std.proofs.Common.{◌≡◌, ℕ, List, Option, Some, None, Result, Ok, Err, IfSome, IfOk, OnOk, refl, sym, ap, ◌∙◌}
use Rattle.std.specs.Io.KnownBytes.{Keeps, Appends, IsAtEnd}
use Rattle.std.proofs.KnownBytes.{Keeps-refl}
use Rattle.mailparse.specs.Mail.{Tree, read_mail}
use Rattle.mailparse.specs.Refusal.{Refusal}
use Rattle.mailparse.specs.Outcome.{IsRefusal, IsRefusalOrMemory}
use Rattle.mailparse.proofs.lemmas.Outcome.{IsRefusal-along}
use Rattle.mailparse.specs.declared.error.MailParseError.{MailParseError}
use Rattle.mailparse.specs.declared.error.MailParseError.TheVariants.{QuotedPrintableDecodeError, Base64DecodeError, EncodingError, Generic, Memory}
use Rattle.mail_show.specs.Text.{mail_text, output_text}
use Rattle.mail_show.specs.Run.{HasWritten, RefusesInput}

-- the text for an input that is a message, and for one that is refused
output_text-ok : (input : List ℕ) (mail : Tree) → read_mail input ≡ Ok mail → output_text input ≡ Ok (mail_text mail)
unfolding output_text
output_text-ok input mail e = rw e refl

output_text-err : (input : List ℕ) (refusal : Refusal) → read_mail input ≡ Err refusal → output_text input ≡ Err refusal
unfolding output_text
output_text-err input refusal e = rw e refl

-- a message that is refused is the whole input
refused-output : (e : MailParseError) (input all : List ℕ) → input ≡ all → IsRefusal e (read_mail input) → IsRefusal e (output_text all)
refused-output e input all same refused = IsRefusal-along e (read_mail input) (output_text all) (λ r f. output_text-err all r (ap read_mail (sym same) ∙ f)) refused

refused-input : (left_before left : Option (List ℕ)) (input : List ℕ) (e : MailParseError)
    → IsAtEnd left × IfSome left_before (λ all. input ≡ all) → IsRefusal e (read_mail input) → IsAtEnd left × IfSome left_before (λ all. IsRefusal e (output_text all))
refused-input None left input e read refused = (read.0, tt)
refused-input (Some all) left input e read refused = (read.0, refused-output e input all read.1 refused)

pub run-refused : (left_before left held : Option (List ℕ)) (input : List ℕ) (e : MailParseError)
    → IsAtEnd left × IfSome left_before (λ all. input ≡ all) → IsRefusalOrMemory e (read_mail input)
    → Keeps held held × RefusesInput left_before left e
run-refused left_before left held input (QuotedPrintableDecodeError fault) read refused = absurd refused
run-refused left_before left held input (Base64DecodeError fault) read refused = (Keeps-refl held, refused-input left_before left input (Base64DecodeError fault) read refused)
run-refused left_before left held input (EncodingError text) read refused = (Keeps-refl held, refused-input left_before left input (EncodingError text) read refused)
run-refused left_before left held input (Generic text) read refused = (Keeps-refl held, refused-input left_before left input (Generic text) read refused)
run-refused left_before left held input (Memory e) read refused = (Keeps-refl held, tt)

-- the text that an exact result shows
pub text-of_ok : (text given : List ℕ) → ◌≡◌ {A = Result (List ℕ) Refusal} (Ok given) (Ok text) → text ≡ given
text-of_ok text given e = cc

-- a text that is written is that of the whole input
pub run-written : (left_before left held_before held : Option (List ℕ)) (input text : List ℕ) (mail : Tree)
    → IsAtEnd left × IfSome left_before (λ all. input ≡ all) → read_mail input ≡ Ok mail → text ≡ mail_text mail
    → Appends held_before held text → HasWritten left_before left held_before held
run-written None left held_before held input text mail read e is_text wrote = record { read = read.0; wrote = tt }
run-written (Some all) left held_before held input text mail read e is_text wrote =
    let same : output_text all ≡ Ok text = output_text-ok all mail (ap read_mail (sym read.1) ∙ e) ∙ ap (λ t. Ok t) (sym is_text) in
    record { read = read.0; wrote = (text, same, wrote) }

-- a property of a result that is not an error, and what follows from it
pub OnOk-to : {T E P Q : Type 0} (r : Result T E) → OnOk r P → (P → Q) → IfOk r (λ _. Q)
OnOk-to (Ok x) h f = f h
OnOk-to (Err d) h f = tt
