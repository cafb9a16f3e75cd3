-- Types that need no lenient reading, and the refusals of messages that were kept.
use Rattle.std.proofs.Common.{◌≡◌, ◌≢◌, ℕ, true, false, not, ◌&&◌, List, [], ◌∷◌, Some, Ok, Err, refl, sym, ap, ◌∙◌}
use Rattle.std.proofs.lemmas.Bool.{and_parts, cond-false, not-true}
use Rattle.std.proofs.lemmas.Slice.Eq.{bytes_eq-Decides}
use Rattle.std.specs.List.{list_any}
use Rattle.std.specs.Map.{update, update_all}
use Rattle.std.specs.Str.{bytes_eq, str_to_ascii_lowercase}
use Rattle.mail_codec.specs.Charset.{Charsets}
use Rattle.mailparse.specs.Block.{HeaderList, read_block}
use Rattle.mailparse.specs.ContentType.{content_type_in, type_with}
use Rattle.mailparse.specs.Continuations.{parameters_in}
use Rattle.mailparse.specs.Mail.{kept_message, root}
use Rattle.mailparse.specs.Pairs.{Texts, no_texts, pairs_of, value_of}
use Rattle.mailparse.specs.Refusal.{Reads, Refusal, recursion_limit}
use Rattle.mailparse.specs.Sections.{is_star}
use Rattle.mailparse.specs.Value.{lenient_value_in}
use Rattle.mailparse.specs.private.Continuations.{has_star}
use Rattle.mailparse.proofs.lemmas.StarFree.{another_key, parameters_are_pairs}
use Rattle.mail_read.specs.lenient.Agreement.{has_no_word, is_complete, is_named, is_star_free, is_strict, is_strict_value}
use Rattle.mail_read.specs.lenient.Comments.{without_comments}
use Rattle.mail_read.specs.lenient.Guess.{or_guessed}
use Rattle.mail_read.specs.lenient.Manner.{has_broken_boundary, lenient_name, lenient_type_from, lenient_type_in, made_lenient, with_whole_boundary, without_boundary}
use Rattle.mail_read.specs.lenient.Refused.{kept_for, refusal_with}
use Rattle.mail_read.specs.lenient.Repairs.{repaired}
use Rattle.mail_read.specs.lenient.Undecoded.{undecoded}

-- no pair is put at a name with a star
kept : (texts : Texts) (pairs : List (List ℕ × List ℕ)) (name : List ℕ) → is_star_free pairs ≡ true → has_star name ≡ true
    → update_all bytes_eq texts pairs name ≡ texts name
kept texts [] name free some = refl
kept texts (pair ∷ pairs) name free some =
    let parts = and_parts (not (list_any is_star pair.0)) (is_star_free pairs) free in
    kept (update bytes_eq texts pair.0 (Some pair.1)) pairs name parts.1 some
    ∙ cond-false _ _ _ (another_key pair.0 name (not-true (list_any is_star pair.0) parts.0) some)

-- so the parameters are the same under all charsets
same-parameters : (known other : Charsets) (pairs : List (List ℕ × List ℕ)) → is_star_free pairs ≡ true → parameters_in other pairs ≡ parameters_in known pairs
same-parameters known other pairs free = λ i name.
    (parameters_are_pairs other pairs (λ key some. kept no_texts pairs key free some) name
    ∙ sym (parameters_are_pairs known pairs (λ key some. kept no_texts pairs key free some) name)) i

same-type : (known other : Charsets) (text : List ℕ) → is_star_free (pairs_of text) ≡ true → content_type_in other text ≡ content_type_in known text
unfolding content_type_in
same-type known other text free = ap (type_with (str_to_ascii_lowercase (value_of text))) (same-parameters known other (pairs_of text) free)

named : (mimetype charset : List ℕ) (params : Texts) → lenient_name mimetype ≡ mimetype → has_broken_boundary params ≡ false
    → made_lenient (record { mimetype = mimetype; charset = charset; params = params }) ≡ record { mimetype = mimetype; charset = charset; params = params }
unfolding made_lenient with_whole_boundary
named mimetype charset params name whole = λ i. record {
  mimetype = name i;
  charset = charset;
  params = cond-false (has_broken_boundary params) (without_boundary params) params whole i;
}

pub types-agree : (known : Charsets) (text : List ℕ) → is_strict known text ≡ true → lenient_type_in known text ≡ content_type_in known text
unfolding lenient_type_in content_type_in
types-agree known text strict =
    let parts = and_parts (is_complete text) (is_star_free (pairs_of text) && is_named (content_type_in known text)) strict in
    let others = and_parts (is_star_free (pairs_of text)) (is_named (content_type_in known text)) parts.1 in
    let found = content_type_in known text in
    let last = and_parts (bytes_eq (lenient_name found.mimetype) found.mimetype) (not (has_broken_boundary found.params)) others.1 in
    ap (λ (t : List ℕ). made_lenient (content_type_in (or_guessed known) t)) ((bytes_eq-Decides (repaired (without_comments text)) text).0 parts.0)
    ∙ ap made_lenient (same-type known (or_guessed known) text others.0)
    ∙ named found.mimetype found.charset found.params ((bytes_eq-Decides (lenient_name found.mimetype) found.mimetype).0 last.0)
    (not-true (has_broken_boundary found.params) last.1)

-- the same of a raw value
pub values-agree : (known : Charsets) (value : List ℕ) → is_strict_value known value ≡ true
    → lenient_type_from known value ≡ content_type_in known (lenient_value_in known value)
values-agree known value strict =
    let parts = and_parts (has_no_word known value) (is_strict known (undecoded value)) strict in
    types-agree known (undecoded value) parts.1
    ∙ ap (content_type_in known) ((bytes_eq-Decides (undecoded value) (lenient_value_in known value)).0 parts.0)

-- ---- messages that were kept

pub kept-refused : (bytes : List ℕ) (refusal : Refusal) → bytes ≢ [] → read_block true bytes ≡ Err refusal
    → kept_for (root (kept_message bytes)) ≡ Some refusal
unfolding kept_for
kept-refused [] refusal some e = absurd (some refl)
kept-refused (b ∷ bytes) refusal some e = ap (λ (read : Reads HeaderList). Some (refusal_with read)) e

pub kept-deep : (bytes : List ℕ) (block : HeaderList) → bytes ≢ [] → read_block true bytes ≡ Ok block
    → kept_for (root (kept_message bytes)) ≡ Some recursion_limit
unfolding kept_for
kept-deep [] block some e = absurd (some refl)
kept-deep (b ∷ bytes) block some e = ap (λ (read : Reads HeaderList). Some (refusal_with read)) e
