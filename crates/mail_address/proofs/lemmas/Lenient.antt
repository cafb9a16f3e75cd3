-- What the lenient reading of addresses keeps of the reading by the grammar.
use Rattle.std.proofs.Common.{◌≡◌, ℕ, suc, ◌+◌, ◌≤◌, Bool, true, false, ◌&&◌, eqb, List, [], ◌∷◌, ◌++◌, Option, Some, None, length, map, option_map, take, drop, refl, sym, ap, subst, ◌∙◌, if◌then◌else◌}
use Rattle.std.specs.Prelude.{flat_map}
use Rattle.std.specs.Option.{option_or}
use Rattle.std.proofs.lemmas.Bool.{and_parts, cond_both, cond-false, cond-true}
use Rattle.std.proofs.lemmas.Grind.{flat_map-append}
use Rattle.std.proofs.lemmas.List.{map-append}
use Rattle.mailparse.specs.Header.{Header}
use Rattle.mailparse.specs.Map.{all_with_key}
use Rattle.mail_codec.specs.Places.{begins}
use Rattle.mail_address.specs.declared.tokens.Span.TheVariants.{BeforeAngle, BeforeAt, BeforeOpening}
use Rattle.mail_address.specs.Accepted.{IsAccepted}
use Rattle.mail_address.specs.Addresses.{addresses, after_name, EachElement, EachSingle, Element, Group, group, members_at, name_len, Single, single}
use Rattle.mail_address.specs.Grammar.{address, IsByGrammar, IsDomain, IsMailbox, named_address}
use Rattle.mail_address.specs.Lenient.{after_any_route, angle_mailbox, bare_mailbox, bare_name_len, closed_len, closed_mailbox, comment_name, has_brackets, has_no_opening, has_open_comment, is_lenient_local, is_named_in_comment, is_open_group, IsComplete, joined, lenient_addresses, lenient_addresses_in, lenient_addresses_of, lenient_element, lenient_elements, lenient_mailbox, lenient_members, lenient_name, lenient_parts, lenient_spec, open_group, opened, opened_as, opened_mailbox, parted, refined, refined_as, refined_element, refined_members, refined_single, reopened, with_comment, without_quote, without_root}
use Rattle.mail_address.specs.Mailbox.{are_clean, is_domain, mailbox_of, Parts, within_ends}
use Rattle.mail_address.specs.Order.{AreInOrder, start_of, text_of}
use Rattle.mail_address.specs.Safe.{IsSafe}
use Rattle.mail_address.specs.Text.{address_bytes}
use Rattle.mail_address.specs.Tokens.{far, front_token, run}
use Rattle.mail_address.proofs.lemmas.Accepted.{address-accepted}
use Rattle.mail_address.proofs.lemmas.Folding.{address-no_control, text-no_control}
use Rattle.mail_address.proofs.lemmas.GrammarLists.{elements-append, elements-follow, elements-have, members-follow, singles-have}
use Rattle.mail_address.proofs.lemmas.GrammarMade.{domain-made, mailbox-made}
use Rattle.mail_address.proofs.lemmas.LenientCommas.{joined-hold, joined-same}
use Rattle.mail_address.proofs.lemmas.LenientLists.{divided-hold, opened-are_in_order, opened-hold, parted-hold, parted-in_order}

-- ---- where the grammar suffices

with_comment-same : (text : List ℕ) (m : Parts) → is_named_in_comment text m ≡ false → with_comment text m ≡ m
unfolding with_comment
with_comment-same text m h = cond-false (is_named_in_comment text m) _ m h

pub comment-local : (text : List ℕ) (m : Parts) → (with_comment text m).local_part ≡ m.local_part
unfolding with_comment
comment-local text m =
    cond_both (is_named_in_comment text m) (record { display_name = comment_name text; local_part = m.local_part; domain = m.domain }) m
    (λ (n : Parts). n.local_part ≡ m.local_part) (λ e. refl) (λ e. refl)

pub comment-domain : (text : List ℕ) (m : Parts) → (with_comment text m).domain ≡ m.domain
unfolding with_comment
comment-domain text m =
    cond_both (is_named_in_comment text m) (record { display_name = comment_name text; local_part = m.local_part; domain = m.domain }) m
    (λ (n : Parts). n.domain ≡ m.domain) (λ e. refl) (λ e. refl)

single-same : (s : Single) → IsComplete s → refined_single s ≡ s
single-same s is =
    ap (refined_as s.start s.text) is.1.0
    ∙ ap (λ p. record { start = s.start; text = s.text; mailbox = Some p }) (with_comment-same s.text is.0 is.1.1)
    ∙ ap (λ o. record { start = s.start; text = s.text; mailbox = o }) (sym is.1.0)

-- members as elements
members-each : (P : Single → Type 0) (ss : List Single) → EachSingle P ss → EachElement P (map single ss)
members-each P [] are = tt
members-each P (s ∷ ss) are = (are.0, members-each P ss are.1)

each-same : (ss : List Single) → EachSingle IsComplete ss → lenient_members (map single ss) ≡ ss
each-same [] are = refl
each-same (s ∷ ss) are = ap (λ (x : Single). x ∷ lenient_members (map single ss)) (single-same s are.0) ∙ ap (λ (xs : List Single). s ∷ xs) (each-same ss are.1)

members-same : (raw : List ℕ) (ss : List Single) → EachSingle IsComplete ss → refined_members raw ss ≡ ss
members-same raw ss are = ap lenient_members (joined-same raw (map single ss) (members-each IsComplete ss are)) ∙ each-same ss are

element-same : (raw : List ℕ) (s : Single) → IsComplete s → lenient_element raw (single s) ≡ single s ∷ []
element-same raw s is =
    ap (λ o. flat_map parted (map (refined raw) (opened_as s.start s.text o))) is.1.0
    ∙ ap (λ p. single (record { start = s.start; text = s.text; mailbox = Some p }) ∷ []) (with_comment-same s.text is.0 is.1.1)
    ∙ ap (λ o. single (record { start = s.start; text = s.text; mailbox = o }) ∷ []) (sym is.1.0)

group-same : (raw : List ℕ) (g : Group) → EachSingle IsComplete g.members → lenient_element raw (group g) ≡ group g ∷ []
group-same raw g are =
    ap (λ ms. group (record { start = g.start; text = g.text; display_name = g.display_name; members = ms }) ∷ []) (members-same raw g.members are)

pub lenient-same : (raw : List ℕ) (es : List Element) → EachElement IsComplete es → lenient_elements raw es ≡ es
lenient-same raw [] are = refl
lenient-same raw (single s ∷ es) are =
    ap (λ (xs : List Element). xs ++ lenient_elements raw es) (element-same raw s are.0) ∙ ap (λ (xs : List Element). single s ∷ xs) (lenient-same raw es are.1)
lenient-same raw (group g ∷ es) are =
    ap (λ (xs : List Element). xs ++ lenient_elements raw es) (group-same raw g are.0) ∙ ap (λ (xs : List Element). group g ∷ xs) (lenient-same raw es are.1)

-- the elements are those of open comments first, then read leniently, and then divided
by_steps : (raw : List ℕ) (es : List Element) → flat_map parted (map (refined raw) (flat_map reopened es)) ≡ lenient_elements raw es
by_steps raw [] = refl
by_steps raw (e ∷ es) =
    ap (flat_map parted) (map-append (refined raw) (reopened e) (flat_map reopened es))
    ∙ flat_map-append parted (map (refined raw) (reopened e)) (map (refined raw) (flat_map reopened es))
    ∙ ap (λ (xs : List Element). lenient_element raw e ++ xs) (by_steps raw es)

-- ---- what every address that is read has

-- a domain by the grammar, and no control characters
pub record IsSound (m : Parts) : Type 0 where
  pub domain : IsDomain m.domain
  pub clean : are_clean m.local_part m.domain ≡ true

abbrev pub AllSound : Option Parts → Type 0
AllSound None = Unit {0}
AllSound (Some m) = IsSound m

parts-sound : (name local domain : List ℕ) → AllSound (lenient_parts name local domain)
unfolding lenient_parts
parts-sound name local domain =
    cond_both (is_lenient_local local && (is_domain domain && are_clean local domain)) _ None AllSound
    (λ e. let both = and_parts (is_domain domain) (are_clean local domain) (and_parts (is_lenient_local local) (is_domain domain && are_clean local domain) e).1 in
    record { domain = domain-made domain both.0; clean = both.1 }) (λ e. tt)

spec-sound : (name text : List ℕ) → AllSound (lenient_spec name text)
unfolding lenient_spec
spec-sound name text =
    cond_both (begins (λ b. eqb b 64) (drop (run BeforeAt text) text)) _ None AllSound
    (λ e. parts-sound name (take (run BeforeAt text) text) (without_root (drop (suc (run BeforeAt text)) text))) (λ e. tt)

angle-sound : (name rest : List ℕ) → AllSound (angle_mailbox name rest)
unfolding angle_mailbox
angle-sound name rest = cond_both _ _ None AllSound (λ e. spec-sound (lenient_name name) (after_any_route (within_ends (take (front_token rest).len rest)))) (λ e. tt)

opened-sound : (name rest : List ℕ) → AllSound (opened_mailbox name rest)
unfolding opened_mailbox
opened-sound name rest = spec-sound (without_quote name) (after_any_route (drop 1 rest))

bare-sound : (text : List ℕ) → AllSound (bare_mailbox text)
unfolding bare_mailbox
bare-sound text = cond_both _ _ None AllSound (λ e. spec-sound (take (bare_name_len text) text) (drop (bare_name_len text) text)) (λ e. tt)

closed-sound : (text : List ℕ) → AllSound (closed_mailbox text)
unfolding closed_mailbox
closed-sound text =
    let angle : ℕ = run BeforeAngle text in
    let opening : ℕ = run BeforeOpening text in
    let opens : Bool = begins (λ b. eqb b 60) (drop opening text) in
    let opened : Option Parts = opened_mailbox (take opening text) (drop opening text) in
    cond_both (has_brackets text) (angle_mailbox (take angle text) (drop angle text)) (if opens then opened else bare_mailbox text) AllSound
    (λ e. angle-sound (take angle text) (drop angle text))
    (λ e. cond_both opens opened (bare_mailbox text) AllSound (λ e. opened-sound (take opening text) (drop opening text)) (λ e. bare-sound text))

all-sound : (o : Option Parts) → ((m : Parts) → o ≡ Some m → IsSound m) → AllSound o
all-sound None given = tt
all-sound (Some m) given = given m refl

mailbox-sound : {text : List ℕ} {m : Parts} → IsMailbox text m → IsSound m
mailbox-sound (address _ is clean _) = record { domain = is; clean = clean }
mailbox-sound (named_address _ _ _ is clean _ _) = record { domain = is; clean = clean }

by_grammar-sound : (text : List ℕ) → AllSound (mailbox_of text)
by_grammar-sound text = all-sound (mailbox_of text) (λ m e. mailbox-sound (mailbox-made text m e))

or-sound : (first second : Option Parts) → AllSound first → AllSound second → AllSound (option_or first second)
or-sound None second a b = b
or-sound (Some m) second a b = a

comment-sound : (text : List ℕ) (m : Parts) → IsSound m → IsSound (with_comment text m)
unfolding with_comment
comment-sound text m is =
    cond_both (is_named_in_comment text m) (record { display_name = comment_name text; local_part = m.local_part; domain = m.domain }) m IsSound
    (λ e. record { domain = is.domain; clean = is.clean }) (λ e. is)

comments-sound : (text : List ℕ) (o : Option Parts) → AllSound o → AllSound (option_map (with_comment text) o)
comments-sound text None are = tt
comments-sound text (Some m) are = comment-sound text m are

lenient-sound : (text : List ℕ) → AllSound (lenient_mailbox text)
unfolding lenient_mailbox
lenient-sound text =
    cond_both (has_no_opening (drop (far closed_len text) text)) _ None AllSound
    (λ e. comments-sound text _ (or-sound _ _ (by_grammar-sound (take (far closed_len text) text)) (closed-sound (take (far closed_len text) text)))) (λ e. tt)

-- ---- so for each element

-- a property of each element without members in an element
abbrev HasElement : (Single → Type 0) → Element → Type 0
HasElement P (single s) = P s
HasElement P (group g) = EachSingle P g.members

element-then : (P : Single → Type 0) (e : Element) (es : List Element) → HasElement P e → EachElement P es → EachElement P (e ∷ es)
element-then P (single s) es is are = (is, are)
element-then P (group g) es is are = (is, are)

-- a property of elements without members that those by the grammar have, and those without a mailbox; which a name in a comment does
-- not change; and which those have that are read leniently
pub record IsKept (P : Single → Type 0) : Type 0 where
  pub by_grammar : (s : Single) → IsByGrammar s → P s
  pub unknown : (start : ℕ) (text : List ℕ) → P (record { start = start; text = text; mailbox = None })
  pub commented : (start : ℕ) (text : List ℕ) (m : Parts) → P (record { start = start; text = text; mailbox = Some m })
      → P (record { start = start; text = text; mailbox = Some (with_comment text m) })
  pub read : (start : ℕ) (text : List ℕ) → P (record { start = start; text = text; mailbox = lenient_mailbox text })

module _ (P : Single → Type 0) (is : IsKept P) where
  refined_as-kept : (start : ℕ) (text : List ℕ) (o : Option Parts) → P (record { start = start; text = text; mailbox = o }) → P (refined_as start text o)
  refined_as-kept start text None has = is.read start text
  refined_as-kept start text (Some m) has = is.commented start text m has

  each-kept : (es : List Element) → EachElement P es → EachSingle P (lenient_members es)
  each-kept [] are = tt
  each-kept (single s ∷ es) are = (refined_as-kept s.start s.text s.mailbox are.0, each-kept es are.1)
  each-kept (group g ∷ es) are = each-kept es are.1

  members-kept : (raw : List ℕ) (ss : List Single) → EachSingle P ss → EachSingle P (refined_members raw ss)
  members-kept raw ss are = each-kept (joined raw (map single ss)) (joined-hold P is.unknown raw (map single ss) (members-each P ss are))

  open_group-kept : (raw : List ℕ) (start : ℕ) (text : List ℕ) → EachSingle P (open_group raw start text).members
  unfolding open_group
  open_group-kept raw start text =
      members-kept raw (members_at (start + suc (name_len text)) (after_name text))
      (singles-have P is.by_grammar _ (members-follow (start + suc (name_len text)) (after_name text)))

  element-kept : (raw : List ℕ) (start : ℕ) (text : List ℕ) (o : Option Parts) → P (record { start = start; text = text; mailbox = o })
      → HasElement P (refined_element raw start text o)
  element-kept raw start text (Some m) has = is.commented start text m has
  element-kept raw start text None has =
      cond_both (is_open_group text) (group (open_group raw start text)) (single (refined_as start text None)) (HasElement P)
      (λ e. open_group-kept raw start text) (λ e. is.read start text)

  elements-kept : (raw : List ℕ) (es : List Element) → EachElement P es → EachElement P (map (refined raw) es)
  elements-kept raw [] are = tt
  elements-kept raw (single s ∷ es) are =
      element-then P (refined raw (single s)) (map (refined raw) es) (element-kept raw s.start s.text s.mailbox are.0) (elements-kept raw es are.1)
  elements-kept raw (group g ∷ es) are = (members-kept raw g.members are.0, elements-kept raw es are.1)

  opened_as-kept : (start : ℕ) (text : List ℕ) (o : Option Parts) → P (record { start = start; text = text; mailbox = o }) → EachElement P (opened_as start text o)
  opened_as-kept start text (Some m) has = (has, tt)
  opened_as-kept start text None has =
      cond_both (has_open_comment text) (opened start text) (single (record { start = start; text = text; mailbox = None }) ∷ []) (EachElement P)
      (λ e. elements-have P is.by_grammar (opened start text) (opened-hold start text)) (λ e. (has, tt))

  divided-kept : (raw : List ℕ) (es : List Element) → EachElement P es → EachElement P (lenient_elements raw es)
  divided-kept raw es are =
      let opened = flat_map reopened es in
      subst (EachElement P) (by_steps raw es)
      (parted-hold P is.read (map (refined raw) opened)
      (elements-kept raw opened (divided-hold P P opened_as opened_as-kept (λ g has. has) es are)))

  pub value-kept : (raw : List ℕ) → EachElement P (lenient_addresses raw)
  value-kept raw =
      divided-kept raw (joined raw (addresses raw))
      (joined-hold P is.unknown raw (addresses raw) (elements-have P is.by_grammar (addresses raw) (elements-follow raw)))

  pub values-kept : (headers : List Header) → EachElement P (lenient_addresses_in headers)
  values-kept [] = tt
  values-kept (h ∷ headers) = elements-append P (lenient_addresses h.value) (lenient_addresses_in headers) (value-kept h.value) (values-kept headers)

abbrev pub IsSingleSound : Single → Type 0
IsSingleSound s = AllSound s.mailbox

sound-kept : IsKept IsSingleSound
sound-kept = record {
  by_grammar = λ s is. all-sound s.mailbox (λ m e. mailbox-sound ((is m).0 e));
  unknown = λ start text. tt;
  commented = λ start text m are. comment-sound text m are;
  read = λ start text. lenient-sound text;
}

-- ---- what follows from that

sound-safe : (s : Single) → IsSingleSound s → IsSafe s
sound-safe s is m e =
    let sound : IsSound m = subst AllSound e is in
    text-no_control (address_bytes m.local_part m.domain) (address-no_control m.local_part m.domain sound.clean)

sound-accepted : (s : Single) → IsSingleSound s → IsAccepted s
sound-accepted s is m new e =
    let sound : IsSound m = subst AllSound e is in
    address-accepted m.display_name m.local_part m.domain sound.domain sound.clean new

module _ (P : Single → Type 0) (given : (s : Single) → IsSingleSound s → P s) where
  singles-then : (ss : List Single) → EachSingle IsSingleSound ss → EachSingle P ss
  singles-then [] are = tt
  singles-then (s ∷ ss) are = (given s are.0, singles-then ss are.1)

  elements-then : (es : List Element) → EachElement IsSingleSound es → EachElement P es
  elements-then [] are = tt
  elements-then (single s ∷ es) are = (given s are.0, elements-then es are.1)
  elements-then (group g ∷ es) are = (singles-then g.members are.0, elements-then es are.1)

  pub lenient-have : (raw : List ℕ) → EachElement P (lenient_addresses raw)
  lenient-have raw = elements-then (lenient_addresses raw) (value-kept IsSingleSound sound-kept raw)

  pub lenient_named-have : (name : List ℕ) (headers : List Header) → EachElement P (lenient_addresses_of name headers)
  unfolding lenient_addresses_of
  lenient_named-have name headers = elements-then (lenient_addresses_of name headers) (values-kept IsSingleSound sound-kept (all_with_key name headers))

pub all_safe : (s : Single) → IsSingleSound s → IsSafe s
all_safe = sound-safe

pub all_accepted : (s : Single) → IsSingleSound s → IsAccepted s
all_accepted = sound-accepted

-- ---- the order of the elements

-- an element begins where it did, and has the bytes that it had
record IsAt (start : ℕ) (text : List ℕ) (e : Element) : Type 0 where
  starts : start_of e ≡ start
  has : text_of e ≡ text

refined_element-at : (raw : List ℕ) (start : ℕ) (text : List ℕ) (o : Option Parts) → IsAt start text (refined_element raw start text o)
unfolding open_group
refined_element-at raw start text (Some m) = record { starts = refl; has = refl }
refined_element-at raw start text None =
    cond_both (is_open_group text) (group (open_group raw start text)) (single (refined_as start text None)) (IsAt start text)
    (λ e. record { starts = refl; has = refl }) (λ e. record { starts = refl; has = refl })

refined-at : (raw : List ℕ) (e : Element) → IsAt (start_of e) (text_of e) (refined raw e)
refined-at raw (single s) = refined_element-at raw s.start s.text s.mailbox
refined-at raw (group g) = record { starts = refl; has = refl }

in_order-refined : (place : ℕ) (raw : List ℕ) (es : List Element) → AreInOrder place raw es → AreInOrder place raw (map (refined raw) es)
in_order-refined place raw [] are = tt
in_order-refined place raw (e ∷ es) are =
    let at = refined-at raw e in
    let after = subst (λ (n : ℕ). AreInOrder n raw (map (refined raw) es)) (ap (λ n. n + length (text_of e)) (sym at.starts) ∙ ap (λ (t : List ℕ). start_of (refined raw e) + length t) (sym at.has))
    (in_order-refined (start_of e + length (text_of e)) raw es are.2) in (
      subst (λ (n : ℕ). place ≤ n) (sym at.starts) are.0,
      ap (λ (t : List ℕ). take (length t) (drop (start_of (refined raw e)) raw)) at.has ∙ ap (λ n. take (length (text_of e)) (drop n raw)) at.starts ∙ are.1 ∙ sym at.has,
      after,
    )

pub lenient-in_order : (place : ℕ) (raw : List ℕ) (es : List Element) → AreInOrder place raw es → AreInOrder place raw (lenient_elements raw es)
lenient-in_order place raw es are =
    subst (λ (xs : List Element). AreInOrder place raw xs) (by_steps raw es)
    (parted-in_order place raw (map (refined raw) (flat_map reopened es))
    (in_order-refined place raw (flat_map reopened es) (opened-are_in_order place raw es are)))
