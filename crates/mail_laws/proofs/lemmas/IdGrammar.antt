-- The form of a list of message ids, and the function that reads it.
use Rattle.std.proofs.Common.{◌≡◌, ◌≢◌, ◌⊎◌, inl, inr, ℕ, true, false, cond, eqb, ◌||◌, List, [], ◌∷◌, ◌++◌, drop, Result, Ok, Err, refl, sym, ap, subst, ◌∙◌, ⊎_elim, append_assoc, append-nil}
use Rattle.std.specs.Str.{trim_start}
use Rattle.std.proofs.lemmas.Bool.{and_parts, cases_Bool, eqb-true, false≢true}
use Rattle.std.proofs.lemmas.List.Folds.{list_any-append}
use Rattle.mail_codec.specs.Places.{is_empty, has_prefix}
use Rattle.mailparse.specs.MessageIds.{id_not_closed, id_not_opened, id_of_piece, ids_at_end, ids_of_pieces, is_closing, message_ids, opens_id, with_id}
use Rattle.mailparse.specs.Refusal.{Refusal}
use Rattle.mailparse.proofs.lemmas.MessageIds.{pieces_step, split_none}
use Rattle.mail_laws.specs.Ids.{ContainsNoClosing}
use Rattle.mail_laws.specs.IdGrammar.{AreIds, no_ids, one_more, Breaks, not_opened, not_opened_before, not_closed, later}
use Rattle.mail_laws.proofs.lemmas.Ids.{split_at}

abbrev Ids : Type 0
Ids = Result (List (List ℕ)) Refusal

-- ---- from the form to the function

-- a text without `>`
read_last : (text : List ℕ) → ContainsNoClosing text → message_ids text ≡ ids_at_end text
unfolding message_ids
read_last text free = ap ids_of_pieces (split_none text free)

-- a text with a `>`
read_piece : (piece rest : List ℕ) → ContainsNoClosing piece
    → message_ids (piece ++ 62 ∷ rest) ≡ cond (opens_id piece) (with_id (id_of_piece piece) (message_ids rest)) (Err id_not_opened)
unfolding message_ids
read_piece piece rest free = ap ids_of_pieces (split_at piece rest free) ∙ pieces_step piece rest

read_opened : (piece rest : List ℕ) → ContainsNoClosing piece → opens_id piece ≡ true → message_ids (piece ++ 62 ∷ rest) ≡ with_id (id_of_piece piece) (message_ids rest)
read_opened piece rest free opens = read_piece piece rest free ∙ ap (λ t. cond t (with_id (id_of_piece piece) (message_ids rest)) (Err id_not_opened)) opens

read_not_opened : (piece rest : List ℕ) → ContainsNoClosing piece → opens_id piece ≡ false → message_ids (piece ++ 62 ∷ rest) ≡ Err id_not_opened
read_not_opened piece rest free shut = read_piece piece rest free ∙ ap (λ t. cond t (with_id (id_of_piece piece) (message_ids rest)) (Err id_not_opened)) shut

at_end_whitespace : (text : List ℕ) → trim_start text ≡ [] → ids_at_end text ≡ Ok []
at_end_whitespace text whitespace = ap (λ (t : List ℕ). cond (is_empty t) (Ok []) (cond (has_prefix (60 ∷ []) t) (Err id_not_closed) (Err id_not_opened))) whitespace

pub form_is_read : {text : List ℕ} {ids : List (List ℕ)} → AreIds text ids → message_ids text ≡ Ok ids
form_is_read {text = text} (no_ids free whitespace) = read_last text free ∙ at_end_whitespace text whitespace
form_is_read {text = text} (one_more opened id rest {ids = ids} cut free trimmed others) =
    let opens : opens_id opened ≡ true = ap (has_prefix (60 ∷ [])) trimmed in
    let is : id_of_piece opened ≡ id = ap (drop 1) trimmed in
    ap message_ids cut ∙ read_opened opened rest free opens ∙ ap (λ i. with_id i (message_ids rest)) is ∙ ap (with_id id) (form_is_read others)

filled : (text : List ℕ) → text ≢ [] → is_empty text ≡ false
filled [] some = absurd (some refl)
filled (b ∷ text) some = refl

-- the text after the last `>`
at_end_shut : (text : List ℕ) → trim_start text ≢ [] → opens_id text ≡ false → ids_at_end text ≡ Err id_not_opened
at_end_shut text some shut = rw (filled (trim_start text) some, shut) refl

opens_filled : (t : List ℕ) → has_prefix (60 ∷ []) t ≡ true → is_empty t ≡ false
opens_filled [] h = absurd (false≢true h)
opens_filled (b ∷ t) h = refl

at_end_open : (text : List ℕ) → opens_id text ≡ true → ids_at_end text ≡ Err id_not_closed
at_end_open text opens = rw (opens_filled (trim_start text) opens, opens) refl

pub break_is_refused : {text : List ℕ} {refusal : Refusal} → Breaks text refusal → message_ids text ≡ Err refusal
break_is_refused {text = text} (not_opened free some shut) = read_last text free ∙ at_end_shut text some shut
break_is_refused (not_opened_before piece rest cut free shut) = ap message_ids cut ∙ read_not_opened piece rest free shut
break_is_refused {text = text} (not_closed free opens) = read_last text free ∙ at_end_open text opens
break_is_refused (later opened rest cut free opens more) =
    ap message_ids cut ∙ read_opened opened rest free opens ∙ ap (with_id (id_of_piece opened)) (break_is_refused more)

ok_same : {a b : List (List ℕ)} → ◌≡◌ {A = Ids} (Ok a) (Ok b) → a ≡ b
ok_same e = cc

err_same : {a b : Refusal} → ◌≡◌ {A = Ids} (Err a) (Err b) → a ≡ b
err_same e = cc

-- ---- from the function to the form: each text is a list of ids or breaks the form

abbrev Form : List ℕ → Type 0
Form text = ((ids : List (List ℕ)) × AreIds text ids) ⊎ ((refusal : Refusal) × Breaks text refusal)

append_free : (piece : List ℕ) (b : ℕ) → ContainsNoClosing piece → is_closing b ≡ false → ContainsNoClosing (piece ++ b ∷ [])
append_free piece b h e = list_any-append is_closing piece (b ∷ []) ∙ ap (λ t. t || (is_closing b || false)) h ∙ ap (λ t. t || false) e

opened_is : (t : List ℕ) → has_prefix (60 ∷ []) t ≡ true → t ≡ 60 ∷ drop 1 t
opened_is [] h = absurd (false≢true h)
opened_is (b ∷ t) h = ap (λ x. x ∷ t) (sym (eqb-true 60 b (and_parts (eqb 60 b) true h).0))

-- the text without `>` that is left
form-last : (text : List ℕ) → ContainsNoClosing text → Form text
form-last text free = by_whitespace (trim_start text) refl
  where
    by_whitespace : (t : List ℕ) → trim_start text ≡ t → Form text
    by_whitespace [] e = inl ([], no_ids free e)
    by_whitespace (b ∷ t) e =
        let some : trim_start text ≢ [] = λ none. let f : b ∷ t ≡ [] = sym e ∙ none in absurd (cc) in
        ⊎_elim (λ e. inr (id_not_closed, not_closed free e)) (λ e. inr (id_not_opened, not_opened free some e)) (cases_Bool (opens_id text))

-- a piece up to a `>`, and the form of the text after it
form-piece : (piece rest : List ℕ) → ContainsNoClosing piece → Form rest → Form (piece ++ 62 ∷ rest)
form-piece piece rest free after = ⊎_elim
    (λ e. ⊎_elim (λ found. inl (id_of_piece piece ∷ found.0, one_more piece (id_of_piece piece) rest refl free (opened_is (trim_start piece) e) found.1))
    (λ broken. inr (broken.0, later piece rest refl free e broken.1)) after)
    (λ e. inr (id_not_opened, not_opened_before piece rest refl free e)) (cases_Bool (opens_id piece))

-- byte by byte, after a piece that contains no `>`
form-after : (text piece : List ℕ) → ContainsNoClosing piece → Form (piece ++ text)
form-after [] piece free = form-last (piece ++ []) (subst ContainsNoClosing (sym (append-nil piece)) free)
form-after (b ∷ text) piece free =
    ⊎_elim (λ e. subst (λ x. Form (piece ++ x ∷ text)) (sym (eqb-true b 62 e)) (form-piece piece text free (form-after text [] refl)))
    (λ e. subst Form (append_assoc piece (b ∷ []) text) (form-after text (piece ++ b ∷ []) (append_free piece b free e))) (cases_Bool (is_closing b))

form : (text : List ℕ) → Form text
form text = form-after text [] refl

-- so what is read has the form
pub read_is_form : (text : List ℕ) (ids : List (List ℕ)) → message_ids text ≡ Ok ids → AreIds text ids
read_is_form text ids e = ⊎_elim
    (λ found. let same : ◌≡◌ {A = Ids} (Ok found.0) (Ok ids) = sym (form_is_read found.1) ∙ e in subst (AreIds text) (ok_same same) found.1)
    (λ broken. let f : ◌≡◌ {A = Ids} (Err broken.0) (Ok ids) = sym (break_is_refused broken.1) ∙ e in absurd (cc)) (form text)

pub refused_is_break : (text : List ℕ) (refusal : Refusal) → message_ids text ≡ Err refusal → Breaks text refusal
refused_is_break text refusal e = ⊎_elim
    (λ found. let f : ◌≡◌ {A = Ids} (Ok found.0) (Err refusal) = sym (form_is_read found.1) ∙ e in absurd (cc))
    (λ broken. let same : ◌≡◌ {A = Ids} (Err broken.0) (Err refusal) = sym (break_is_refused broken.1) ∙ e in subst (Breaks text) (err_same same) broken.1) (form text)
