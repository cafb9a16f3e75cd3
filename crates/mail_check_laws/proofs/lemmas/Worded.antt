-- The findings of one header as a subject and as senders, and what its value is by the grammar of strict messages.
use Rattle.std.proofs.Common.{◌≡◌, ℕ, true, [], refl, inl, inr}
use Rattle.std.specs.Prelude.{◌↔◌, ◌&&◌, ◌==◌, codes}
use Rattle.std.specs.List.{list_any}
use Rattle.std.proofs.lemmas.Bool.{and_left, and_right, cases_Bool}
use Rattle.mail_codec.specs.Charset.{Charsets}
use Rattle.mail_check.specs.Findings.{Spot, sender_findings, word_findings, worded_findings}
use Rattle.mail_check.specs.Lines.{HeaderLine, is_named}
use Rattle.mail_check.specs.Senders.{is_bad_sender}
use Rattle.mail_check.specs.WordBytes.{has_bad_octets}
use Rattle.mail_check.specs.Words.{has_join, is_bad_name, is_bad_piece, is_worded, pieces}
use Rattle.mail_check.specs.declared.names.Name.TheVariants as name
use Rattle.mail_check_laws.specs.Named.{Lacks, is_from_name, is_word_name}
use Rattle.mail_check_laws.specs.Senders.{IsSenderValue}
use Rattle.mail_check_laws.specs.Worded.{is_worded_key, IsWordedField}
use Rattle.mail_check.proofs.lemmas.Booleans.{second_false}
use Rattle.mail_check_laws.proofs.lemmas.Joins.{joins_strict}
use Rattle.mail_check_laws.proofs.lemmas.Lists.{asked_if, both_say, chain, if_says}
use Rattle.mail_check_laws.proofs.lemmas.SenderNames.{names_strict}
use Rattle.mail_check_laws.proofs.lemmas.Senders.{sender_header}
use Rattle.mail_check_laws.proofs.lemmas.WordBytes.{word_bytes_strict}
use Rattle.mail_check_laws.proofs.lemmas.Words.{words_strict}

pub sender_names : (number : ℕ) (spot : Spot) (line : HeaderLine) → Lacks is_from_name (sender_findings number spot line)
    ↔ ((number == 0) ≡ true → is_named (codes "From") line ≡ true → IsSenderValue line.value)
sender_names number spot line =
    chain (asked_if is_from_name spot name.FromSyntax (number == 0 && is_bad_sender line) refl) (
      λ h e. (sender_header line).0 (second_false (number == 0) (is_bad_sender line) e h),
      λ f. elim (cases_Bool (number == 0)) [
        | inl e ↦ and_right (number == 0) (is_bad_sender line) ((sender_header line).1 (f e))
        | inr e ↦ and_left (number == 0) (is_bad_sender line) e
      ],
    )

pub worded_names : (known : Charsets) (spot : Spot) (line : HeaderLine) → Lacks is_word_name (worded_findings known spot line)
    ↔ (is_worded_key line.key ≡ true → IsWordedField known line.key line.value)
worded_names known spot line =
    let T = is_word_name in
    if_says T (is_worded line) (word_findings known spot line (pieces line.value))
    (chain (both_say T _ _ (chain (asked_if T spot name.WordSyntax (list_any is_bad_piece (pieces line.value)) refl) (words_strict line.value))
    (both_say T _ _ (chain (asked_if T spot name.WordJoin (has_join [] (pieces line.value)) refl) (joins_strict line.value))
    (both_say T _ _ (chain (asked_if T spot name.WordBytes (list_any (has_bad_octets known) (pieces line.value)) refl) (word_bytes_strict known line.value))
    (chain (asked_if T spot name.NameAddress (is_bad_name line (pieces line.value)) refl) (names_strict line))))) (
      λ h. record { words = h.0; apart = h.1.0; readable = h.1.1.0; names = h.1.1.1 },
      λ w. (w.words, (w.apart, (w.readable, w.names))),
    ))
