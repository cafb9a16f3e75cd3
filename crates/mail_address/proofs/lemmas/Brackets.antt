-- The address in angle brackets counts, and nothing before it.
use Rattle.std.proofs.Common.{◌≡◌, ℕ, suc, ◌-◌, Bool, true, ◌&&◌, eqb, List, [], ◌∷◌, ◌++◌, Option, Some, None, take, drop, option_map, refl, sym, ap, subst, ◌∙◌}
use Rattle.std.specs.Option.{option_or}
use Rattle.std.proofs.lemmas.Bool.{cond_both, cond-true}
use Rattle.std.proofs.lemmas.List.{append-nil, take-append-drop}
use Rattle.mail_codec.specs.Places.{begins}
use Rattle.mail_address.specs.declared.tokens.Span.TheVariants.{BeforeAngle, BeforeAt, BeforeColon}
use Rattle.mail_address.specs.Addresses.{EachElement, Single}
use Rattle.mail_address.specs.Brackets.{before_open, HasBracketsAlone, in_brackets, inside_front, IsAddressIn, IsInBrackets}
use Rattle.mail_address.specs.Grammar.{IsByGrammar}
use Rattle.mail_address.specs.Lenient.{after_any_route, angle_mailbox, closed_len, closed_mailbox, dots_end, has_brackets, has_no_opening, is_lenient_local, lenient_addresses, lenient_mailbox, lenient_name, lenient_parts, lenient_spec, with_comment, without_root}
use Rattle.mail_address.specs.Mailbox.{are_clean, is_domain, mailbox_of, Parts, within_ends}
use Rattle.mail_address.specs.Tokens.{far, front_token, run}
use Rattle.mail_address.proofs.lemmas.GrammarMade.{cut-around}
use Rattle.mail_address.proofs.lemmas.GrammarRead.{mailbox-read}
use Rattle.mail_address.proofs.lemmas.Lenient.{comment-domain, comment-local, IsKept, value-kept}

-- bytes with others after them are a text
record IsFront (front text : List ℕ) : Type 0 where
  after : List ℕ
  made : text ≡ front ++ after

-- bytes with others before them are a text
record IsEnd (end text : List ℕ) : Type 0 where
  before : List ℕ
  made : text ≡ before ++ end

root-front : (text : List ℕ) → IsFront (without_root text) text
unfolding without_root
root-front text =
    cond_both _ (take (dots_end text - 1) text) text (λ d. IsFront d text)
    (λ e. record { after = drop (dots_end text - 1) text; made = sym (take-append-drop (dots_end text - 1) text) })
    (λ e. record { after = []; made = sym (append-nil text) })

route-end : (text : List ℕ) → IsEnd (after_any_route text) text
unfolding after_any_route
route-end text =
    cond_both _ (drop (suc (run BeforeColon text)) text) text (λ d. IsEnd d text)
    (λ e. record { before = take (suc (run BeforeColon text)) text; made = sym (take-append-drop (suc (run BeforeColon text)) text) })
    (λ e. record { before = []; made = refl })

-- a mailbox, if there is one, has its address in these bytes
abbrev AllIn : List ℕ → Option Parts → Type 0
AllIn bytes None = Unit {0}
AllIn bytes (Some m) = IsAddressIn bytes m

parts-in : (bytes name local domain before after : List ℕ) → bytes ≡ before ++ (local ++ 64 ∷ (domain ++ after)) → AllIn bytes (lenient_parts name local domain)
unfolding lenient_parts
parts-in bytes name local domain before after made =
    cond_both (is_lenient_local local && (is_domain domain && are_clean local domain)) _ None (AllIn bytes)
    (λ e. record { before = before; after = after; made = made }) (λ e. tt)

spec-in : (bytes name before text : List ℕ) → bytes ≡ before ++ text → AllIn bytes (lenient_spec name text)
unfolding lenient_spec
spec-in bytes name before text made =
    let at = run BeforeAt text in
    let domain = drop (suc at) text in
    let root = root-front domain in
    cond_both (begins (λ b. eqb b 64) (drop at text)) _ None (AllIn bytes)
    (λ e. parts-in bytes name (take at text) (without_root domain) before root.after
    (made ∙ ap (λ (t : List ℕ). before ++ t) (cut-around 64 at text e ∙ ap (λ (t : List ℕ). take at text ++ 64 ∷ t) root.made))) (λ e. tt)

angle-in : (name rest : List ℕ) → AllIn (inside_front rest) (angle_mailbox name rest)
unfolding angle_mailbox
angle-in name rest =
    let inside = inside_front rest in
    let route = route-end inside in
    cond_both _ _ None (AllIn inside) (λ e. spec-in inside (lenient_name name) route.before (after_any_route inside) route.made) (λ e. tt)

closed-angle : (text : List ℕ) → has_brackets text ≡ true → closed_mailbox text ≡ angle_mailbox (take (run BeforeAngle text) text) (drop (run BeforeAngle text) text)
unfolding closed_mailbox
closed-angle text h = cond-true (has_brackets text) _ _ h

closed-in : (text : List ℕ) → has_brackets text ≡ true → AllIn (in_brackets text) (closed_mailbox text)
closed-in text h =
    let angle = run BeforeAngle text in
    subst (AllIn (in_brackets text)) (sym (closed-angle text h)) (angle-in (take angle text) (drop angle text))

comment-in : (bytes text : List ℕ) (m : Parts) → IsAddressIn bytes m → IsAddressIn bytes (with_comment text m)
comment-in bytes text m is = record {
  before = is.before;
  after = is.after;
  made = is.made ∙ ap (λ (l : List ℕ). is.before ++ (l ++ 64 ∷ (m.domain ++ is.after))) (sym (comment-local text m))
      ∙ ap (λ (d : List ℕ). is.before ++ ((with_comment text m).local_part ++ 64 ∷ (d ++ is.after))) (sym (comment-domain text m));
}

comments-in : (bytes text : List ℕ) (o : Option Parts) → AllIn bytes o → AllIn bytes (option_map (with_comment text) o)
comments-in bytes text None are = tt
comments-in bytes text (Some m) are = comment-in bytes text m are

lenient-in : (text : List ℕ) → mailbox_of (before_open text) ≡ None → has_brackets (before_open text) ≡ true
    → AllIn (in_brackets (before_open text)) (lenient_mailbox text)
unfolding lenient_mailbox before_open
lenient-in text none h =
    let head = take (far closed_len text) text in
    cond_both (has_no_opening (drop (far closed_len text) text)) _ None (AllIn (in_brackets head))
    (λ e. comments-in (in_brackets head) text _ (subst (λ (o : Option Parts). AllIn (in_brackets head) (option_or o (closed_mailbox head))) (sym none) (closed-in head h)))
    (λ e. tt)

pub brackets-count : (text : List ℕ) (m : Parts) → lenient_mailbox text ≡ Some m → mailbox_of (before_open text) ≡ None
    → has_brackets (before_open text) ≡ true → IsAddressIn (in_brackets (before_open text)) m
brackets-count text m e none h = subst (AllIn (in_brackets (before_open text))) e (lenient-in text none h)

no_mailbox : {m : Parts} → None ≡ Some m → ⊥
no_mailbox e = cc

brackets-kept : IsKept IsInBrackets
brackets-kept = record {
  by_grammar = λ s is m e alone. absurd (no_mailbox (sym alone.whole ∙ mailbox-read s.text m ((is m).0 e)));
  unknown = λ start text m e alone. absurd (no_mailbox e);
  commented = λ start text m has n e alone.
      subst (AllIn (in_brackets (before_open text))) e (comment-in (in_brackets (before_open text)) text m (has m refl alone));
  read = λ start text m e alone. brackets-count text m e alone.closed alone.brackets;
}

pub brackets-have : (raw : List ℕ) → EachElement IsInBrackets (lenient_addresses raw)
brackets-have raw = value-kept IsInBrackets brackets-kept raw
