-- Lemmas on the bytes that are decoded for the mails inside a mail.
use Rattle.std.proofs.Common.{◌≡◌, ◌≢◌, inl, inr, ℕ, zero, suc, ◌+◌, ◌-◌, ◌<◌, ◌≤◌, Bool, true, false, List, [], ◌∷◌, length, Option, Some, None, Result, Ok, Err, IfOk, sum_by, nat_lt, refl, sym, ap, ◌∙◌, arith}
use Rattle.std.proofs.lemmas.Bool.{cases_Bool, cond-true, cond-false, le-ltb, lt-ltb, ltb-true, ltb-false}
use Rattle.std.proofs.lemmas.List.Sums.{sum_by-cons}
use Rattle.std.specs.Option.{option_map_or}
use Rattle.std.specs.Prelude.{if◌then◌else◌}
use Rattle.std.specs.Result.{result_ok}
use Rattle.mail_codec.specs.Charset.{Charsets}
use Rattle.mailparse.specs.Mail.{Tree, root, trees_within}
use Rattle.mailparse.specs.Outcome.{IsMemory, IsRefusalOrMemory}
use Rattle.mailparse.specs.Refusal.{Reads}
use Rattle.mailparse.specs.declared.error.MailParseError.{MailParseError}
use Rattle.mail_parts.proofs.lemmas.Reading.{refused_or_memory}
use Rattle.mail_parts.specs.DecodedSize.{bounded, bounded_reading, bytes_left, decoded_size, mail_size, most_decoded, own_size, part_size, too_many_bytes}
use Rattle.mail_read.specs.InnerMails.{forwards}
use Rattle.mail_read.specs.lenient.Content.{message_content}
use Rattle.mail_parts.specs.Reading.{mail_reading}

-- what is left if there are enough, and if there are not
pub left_some : (left size : ℕ) → size ≤ left → bytes_left left size ≡ Some (left - size)
unfolding bytes_left
left_some left size h = cond-false (nat_lt left size) _ _ (le-ltb left size h)

pub left_none : (left size : ℕ) → left < size → bytes_left left size ≡ None
unfolding bytes_left
left_none left size h = cond-true (nat_lt left size) _ _ (lt-ltb left size h)

-- nothing is taken
pub left_all : (left : ℕ) → ◌≡◌ {A = Option ℕ} (Some left) (bytes_left left 0)
left_all left = let same : left ≡ left - 0 = omega arith in ap Some same ∙ sym (left_some left 0 (omega arith))

some≢none : {x : ℕ} → ◌≡◌ {A = Option ℕ} (Some x) None → ⊥
some≢none e = cc

some-is : (x y : ℕ) → ◌≡◌ {A = Option ℕ} (Some x) (Some y) → x ≡ y
some-is x y e = cc

-- what is left after two sizes is left after their sum
pub left_twice : (left size more : ℕ) → size ≤ left → bytes_left (left - size) more ≡ bytes_left left (size + more)
left_twice left size more h = elim (cases_Bool (nat_lt (left - size) more)) [
  | inl is_less ↦
      let less = ltb-true (left - size) more is_less in
      left_none (left - size) more less ∙ sym (left_none left (size + more) (omega (arith, less, h)))
  | inr is_enough ↦
      let enough = ltb-false (left - size) more is_enough in
      let same : left - size - more ≡ left - (size + more) = omega arith in
      left_some (left - size) more enough ∙ ap Some same ∙ sym (left_some left (size + more) (omega (arith, enough, h)))
]

-- after a size that left some, and after one that left none
pub left_more : (left size more after : ℕ) → ◌≡◌ {A = Option ℕ} (Some after) (bytes_left left size) → bytes_left after more ≡ bytes_left left (size + more)
left_more left size more after h = elim (cases_Bool (nat_lt left size)) [
  | inl is_less ↦ absurd (some≢none (h ∙ left_none left size (ltb-true left size is_less)))
  | inr is_enough ↦
      let within = ltb-false left size is_enough in
      let is = some-is after (left - size) (h ∙ left_some left size within) in
      ap (λ n. bytes_left n more) is ∙ left_twice left size more within
]

pub none_more : (left size more : ℕ) → ◌≡◌ {A = Option ℕ} None (bytes_left left size) → ◌≡◌ {A = Option ℕ} None (bytes_left left (size + more))
none_more left size more h = elim (cases_Bool (nat_lt left size)) [
  | inl is_less ↦ let less = ltb-true left size is_less in sym (left_none left (size + more) (omega (arith, less)))
  | inr is_enough ↦ absurd (some≢none (sym (h ∙ left_some left size (ltb-false left size is_enough))))
]

-- the size of a mail that is searched
pub decoded-some : (known : Charsets) (limit most : ℕ) (mail : Tree) → most ≢ 0
    → decoded_size known limit most mail ≡ sum_by (part_size known limit (decoded_size known limit (most - 1))) (trees_within mail)
decoded-some known limit zero mail h = absurd (h refl)
decoded-some known limit (suc most) mail h = let e : suc most - 1 ≡ most = omega arith in rw e refl

-- a step over a part that forwards a mail
pub step_mail : (known : Charsets) (limit : ℕ) (inside : Tree → ℕ) (left after : ℕ) (all : Option ℕ) (part : Tree) (parts rest : List Tree) → parts ≡ part ∷ rest → forwards (root part) ≡ true
    → ◌≡◌ {A = Option ℕ} (Some after) (bytes_left left (mail_size known limit inside part)) → bytes_left left (sum_by (part_size known limit inside) parts) ≡ all
    → bytes_left after (sum_by (part_size known limit inside) rest) ≡ all
step_mail known limit inside left after all part parts rest is h made here =
    let size = part_size known limit inside in
    let one : size part ≡ mail_size known limit inside part = cond-true (forwards (root part)) _ _ h in
    left_more left (size part) (sum_by size rest) after (made ∙ ap (bytes_left left) (sym one))
    ∙ ap (bytes_left left) (sym (sum_by-cons size part rest)) ∙ ap (λ (l : List Tree). bytes_left left (sum_by size l)) (sym is) ∙ here

-- a part after which nothing is left
pub step_over : (known : Charsets) (limit : ℕ) (inside : Tree → ℕ) (left : ℕ) (all : Option ℕ) (part : Tree) (parts rest : List Tree) → parts ≡ part ∷ rest → forwards (root part) ≡ true
    → ◌≡◌ {A = Option ℕ} None (bytes_left left (mail_size known limit inside part)) → bytes_left left (sum_by (part_size known limit inside) parts) ≡ all
    → ◌≡◌ {A = Option ℕ} None all
step_over known limit inside left all part parts rest is h made here =
    let size = part_size known limit inside in
    let one : size part ≡ mail_size known limit inside part = cond-true (forwards (root part)) _ _ h in
    none_more left (size part) (sum_by size rest) (made ∙ ap (bytes_left left) (sym one))
    ∙ ap (bytes_left left) (sym (sum_by-cons size part rest)) ∙ ap (λ (l : List Tree). bytes_left left (sum_by size l)) (sym is) ∙ here

-- what is left at the end
pub step_end : (known : Charsets) (limit : ℕ) (inside : Tree → ℕ) (left : ℕ) (all : Option ℕ) (parts : List Tree) → parts ≡ []
    → bytes_left left (sum_by (part_size known limit inside) parts) ≡ all → ◌≡◌ {A = Option ℕ} (Some left) all
step_end known limit inside left all parts is here =
    left_all left ∙ ap (λ (l : List Tree). bytes_left left (sum_by (part_size known limit inside) l)) (sym is) ∙ here

-- the mail in a part, of which some bytes are its own: it is too large, it is read, or it is refused
pub own_over : (known : Charsets) (limit : ℕ) (inside : Tree → ℕ) (left own : ℕ) (part : Tree) → own ≡ own_size (root part) → left < own
    → ◌≡◌ {A = Option ℕ} None (bytes_left left (mail_size known limit inside part))
own_over known limit inside left own part is less =
    none_more left (own_size (root part)) _ (sym (left_none left (own_size (root part)) (omega (arith, is, less))))

pub own_read : (known : Charsets) (limit : ℕ) (inside : Tree → ℕ) (left own : ℕ) (part mail : Tree) (bytes : List ℕ) (result : Option ℕ) → own ≡ own_size (root part) → own ≤ left
    → bytes ≡ (message_content (root part)).bytes → mail_reading known limit bytes ≡ Ok mail → result ≡ bytes_left (left - own) (inside mail)
    → result ≡ bytes_left left (mail_size known limit inside part)
own_read known limit inside left own part mail bytes result is enough same read made =
    let found : mail_reading known limit (message_content (root part)).bytes ≡ Ok mail = ap (mail_reading known limit) (sym same) ∙ read in
    made ∙ left_twice left own (inside mail) enough ∙ ap (λ n. bytes_left left (n + inside mail)) is
    ∙ ap (λ (r : Reads Tree). bytes_left left (own_size (root part) + option_map_or inside (result_ok r) 0)) (sym found)

pub own_refused : (known : Charsets) (limit : ℕ) (inside : Tree → ℕ) (left own : ℕ) (part : Tree) (bytes : List ℕ) (error : MailParseError) (result : Result (Option ℕ) MailParseError)
    → own ≡ own_size (root part) → own ≤ left → bytes ≡ (message_content (root part)).bytes → IsRefusalOrMemory error (mail_reading known limit bytes) → IfOk result (λ rest. IsMemory error → ⊥)
    → IfOk result (λ rest. rest ≡ Some (left - own)) → IfOk result (λ rest. rest ≡ bytes_left left (mail_size known limit inside part))
own_refused known limit inside left own part bytes error (Ok rest) is enough same read passed made =
    let refused = refused_or_memory error (mail_reading known limit bytes) passed read in
    let found : mail_reading known limit (message_content (root part)).bytes ≡ Err refused.0 = ap (mail_reading known limit) (sym same) ∙ refused.2 in
    let sum : own ≡ own_size (root part) + 0 = is ∙ omega arith in
    made ∙ sym (left_some left own enough) ∙ ap (bytes_left left) sum
    ∙ ap (λ (r : Reads Tree). bytes_left left (own_size (root part) + option_map_or inside (result_ok r) 0)) (sym found)
own_refused known limit inside left own part bytes error (Err e) is enough same read passed made = made

pub own_found : (known : Charsets) (limit : ℕ) (inside : Tree → ℕ) (left own : ℕ) (part mail : Tree) (bytes : List ℕ) (result : Result (Option ℕ) MailParseError) → own ≡ own_size (root part) → own ≤ left
    → bytes ≡ (message_content (root part)).bytes → mail_reading known limit bytes ≡ Ok mail → IfOk result (λ rest. rest ≡ bytes_left (left - own) (inside mail))
    → IfOk result (λ rest. rest ≡ bytes_left left (mail_size known limit inside part))
own_found known limit inside left own part mail bytes (Ok rest) is enough same read made = own_read known limit inside left own part mail bytes rest is enough same read made
own_found known limit inside left own part mail bytes (Err error) is enough same read made = made

-- a mail that is read is read without this limit
bounded-is : (known : Charsets) (limit most : ℕ) (reading : Reads Tree) (t : Tree) → bounded known limit most reading ≡ Ok t → reading ≡ Ok t
bounded-is known limit most (Err refusal) t e = absurd (cc)
bounded-is known limit most (Ok mail) t e = by_size (nat_lt most (decoded_size known limit 100 mail)) e
  where
    by_size : (many : Bool) → (if many then Err too_many_bytes else Ok mail) ≡ Ok t → ◌≡◌ {A = Reads Tree} (Ok mail) (Ok t)
    by_size true e = absurd (cc)
    by_size false e = e

pub bounded-read : (known : Charsets) (limit : ℕ) (chosen : Option ℕ) (bytes : List ℕ) (t : Tree) → bounded_reading known limit chosen bytes ≡ Ok t
    → mail_reading known limit bytes ≡ Ok t
unfolding bounded_reading
bounded-read known limit chosen bytes t e = bounded-is known limit (most_decoded chosen (length bytes)) (mail_reading known limit bytes) t e
