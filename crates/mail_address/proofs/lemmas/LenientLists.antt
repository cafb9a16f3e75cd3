-- Several addresses in one element: what the elements of a list keep when some of them are divided.
use Rattle.std.proofs.Common.{◌≡◌, ℕ, zero, suc, ◌+◌, ◌<◌, ◌≤◌, Bool, true, false, List, [], ◌∷◌, ◌++◌, Option, Some, None, length, map, take, drop, refl, sym, ap, subst, ◌∙◌, arith, length-drop, append_assoc}
use Rattle.std.specs.Prelude.{flat_map, min}
use Rattle.std.proofs.lemmas.Bool.{cond_both}
use Rattle.std.proofs.lemmas.List.{drop_at, drop-drop, length-take, length-take-le, take_at, take-append-drop}
use Rattle.mail_address.specs.declared.tokens.Span.TheVariants.{BeforeAngle}
use Rattle.mail_address.specs.Addresses.{EachElement, EachSingle, Element, Group, group, items, items_within, Single, single, single_at}
use Rattle.mail_address.specs.Grammar.{IsByGrammar}
use Rattle.mail_address.specs.Lenient.{angle_end, are_several, at_end, divided, has_brackets, has_open_comment, opened, opened_as, opened_len, parted, parted_as, piece_at, piece_len, refined_as, reopened, separator_place, several, several_at, several_len, word_end}
use Rattle.mail_address.specs.Mailbox.{mailbox_of, Parts}
use Rattle.mail_address.specs.Order.{AreInOrder}
use Rattle.mail_address.specs.Tokens.{front_token, is_all_white, run}
use Rattle.mail_address.proofs.lemmas.Bounds.{token-fits}
use Rattle.mail_address.proofs.lemmas.GrammarLists.{elements-append, items-hold, single-follows, singles-follow}

-- ---- the length of the first of several addresses

pub several_len_within : (angles : Bool) (bytes : List ℕ) → several_len angles bytes ≤ length bytes
unfolding several_len
several_len_within angles bytes = omega arith

angle_end-some : (b : ℕ) (bytes : List ℕ) → 0 < angle_end (b ∷ bytes)
unfolding angle_end
angle_end-some b bytes = go (run BeforeAngle (b ∷ bytes))
  where
    go : (k : ℕ) → 0 < k + (front_token (drop k (b ∷ bytes))).len
    go zero = let some : 0 < (front_token (drop 0 (b ∷ bytes))).len = (token-fits b bytes).0 in omega (arith, some)
    go (suc k) = omega arith

pub several_len_some : (angles : Bool) (bytes : List ℕ) → 0 < length bytes → 0 < several_len angles bytes
unfolding several_len word_end at_end
several_len_some angles [] low = absurd (omega arith)
several_len_some true (b ∷ bytes) low = let some = angle_end-some b bytes in omega (arith, some)
several_len_some false (b ∷ bytes) low = omega arith

-- ---- the length of the first element in a comment that is not closed

pub piece_len_within : (bytes : List ℕ) → piece_len bytes ≤ length bytes
unfolding piece_len
piece_len_within bytes = omega arith

pub piece_len_some : (bytes : List ℕ) → 0 < length bytes → 0 < piece_len bytes
unfolding piece_len
piece_len_some bytes low = omega arith

-- ---- a property of every element that is read

-- elements with a property, of each of which some are made with another one
module _ (P Q : Single → Type 0) (make : ℕ → List ℕ → Option Parts → List Element)
    (each : (start : ℕ) (text : List ℕ) (o : Option Parts) → P (record { start = start; text = text; mailbox = o }) → EachElement Q (make start text o))
    (members : (g : Group) → EachSingle P g.members → EachSingle Q g.members) where
  pub divided-hold : (es : List Element) → EachElement P es → EachElement Q (flat_map (divided make) es)
  divided-hold [] are = tt
  divided-hold (single s ∷ es) are =
      elements-append Q (make s.start s.text s.mailbox) (flat_map (divided make) es) (each s.start s.text s.mailbox are.0) (divided-hold es are.1)
  divided-hold (group g ∷ es) are = (members g are.0, divided-hold es are.1)

module _ (P : Single → Type 0) (given : (start : ℕ) (text : List ℕ) → P (refined_as start text None)) where
  several-hold : (start : ℕ) (text : List ℕ) → EachElement P (several start text)
  unfolding several several_at
  several-hold start text =
      items-hold (several_at (has_brackets text)) (several_len (has_brackets text)) (EachElement P) tt (elements-append P)
      (λ at bytes. (given at (take (several_len (has_brackets text) bytes) bytes), tt)) start text

  parted_as-hold : (start : ℕ) (text : List ℕ) (o : Option Parts) → P (record { start = start; text = text; mailbox = o }) → EachElement P (parted_as start text o)
  parted_as-hold start text (Some m) is = (is, tt)
  parted_as-hold start text None is =
      cond_both (are_several text) (several start text) (single (record { start = start; text = text; mailbox = None }) ∷ []) (EachElement P)
      (λ e. several-hold start text) (λ e. (is, tt))

  pub parted-hold : (es : List Element) → EachElement P es → EachElement P (flat_map parted es)
  parted-hold es are = divided-hold P P parted_as parted_as-hold (λ g is. is) es are

pub opened-hold : (start : ℕ) (text : List ℕ) → EachElement IsByGrammar (opened start text)
unfolding opened piece_at
opened-hold start text =
    let len : ℕ = opened_len text in
    let after : ℕ = min (suc len) (length text) in
    elements-append IsByGrammar (map single (single_at start (take len text))) (items piece_at piece_len (start + after) (drop after text))
    (singles-follow (single_at start (take len text)) (single-follows start (take len text)))
    (items-hold piece_at piece_len (EachElement IsByGrammar) tt (elements-append IsByGrammar)
    (λ at bytes. singles-follow (single_at at (take (separator_place bytes) bytes)) (single-follows at (take (separator_place bytes) bytes))) (start + after) (drop after text))

-- ---- the order of the elements

-- the bytes from an offset on begin with these
abbrev pub From : List ℕ → ℕ → List ℕ → Type 0
From raw start bytes = (after : List ℕ) × (drop start raw ≡ bytes ++ after)

from-taken : (raw : List ℕ) (start : ℕ) (text : List ℕ) → take (length text) (drop start raw) ≡ text → From raw start text
from-taken raw start text e =
    (drop (length text) (drop start raw), sym (take-append-drop (length text) (drop start raw)) ∙ ap (λ (t : List ℕ). t ++ drop (length text) (drop start raw)) e)

pub taken-from : (raw : List ℕ) (start : ℕ) (text : List ℕ) → From raw start text → take (length text) (drop start raw) ≡ text
taken-from raw start text from = ap (take (length text)) from.1 ∙ take_at text from.0 (length text) refl

front-from : (raw : List ℕ) (start n : ℕ) (bytes : List ℕ) → From raw start bytes → From raw start (take n bytes)
front-from raw start n bytes from =
    (drop n bytes ++ from.0, from.1 ∙ ap (λ (t : List ℕ). t ++ from.0) (sym (take-append-drop n bytes)) ∙ append_assoc (take n bytes) (drop n bytes) from.0)

rest-from : (raw : List ℕ) (start n : ℕ) (bytes : List ℕ) → n ≤ length bytes → From raw start bytes → From raw (start + n) (drop n bytes)
unfolding front-from
rest-from raw start n bytes low from =
    (from.0, sym (drop-drop n start raw) ∙ ap (drop n) (front-from raw start n bytes from).1 ∙ drop_at (take n bytes) (drop n bytes ++ from.0) n (length-take-le n bytes low))

pub in_order-later : (first next : ℕ) (raw : List ℕ) (es : List Element) → first ≤ next → AreInOrder next raw es → AreInOrder first raw es
in_order-later first next raw [] low are = tt
in_order-later first next raw (e ∷ es) low are = let starts = are.0 in (omega (arith, low, starts), are.1, are.2)

-- pieces one after another in bytes that begin at an offset, and then more elements
module _ (at : ℕ → List ℕ → List Element) (len : List ℕ → ℕ) (raw : List ℕ) (within : (bytes : List ℕ) → len bytes ≤ length bytes)
    (front : (start : ℕ) (bytes : List ℕ) (after : List Element) → From raw start bytes → AreInOrder (start + len bytes) raw after → AreInOrder start raw (at start bytes ++ after)) where
  pieces-in_order : (most start : ℕ) (bytes : List ℕ) (after : List Element) → From raw start bytes → AreInOrder (start + length bytes) raw after
      → AreInOrder start raw (items_within at len most start bytes ++ after)
  pieces-in_order zero start bytes after from are = in_order-later start (start + length bytes) raw after (omega arith) are
  pieces-in_order (suc most) start [] after from are = in_order-later start (start + 0) raw after (omega arith) are
  pieces-in_order (suc most) start (b ∷ bytes) after from are =
      let all : List ℕ = b ∷ bytes in
      let low = within all in
      let cut = length-drop (len all) all in
      let whole : start + length all ≡ start + len all + length (drop (len all) all) = omega (arith, cut, low) in
      let rest : List Element = items_within at len most (start + len all) (drop (len all) all) in
      subst (λ (es : List Element). AreInOrder start raw es) (sym (append_assoc (at start all) rest after))
      (front start all (rest ++ after) from
      (pieces-in_order most (start + len all) (drop (len all) all) after (rest-from raw start (len all) all low from)
      (subst (λ k. AreInOrder k raw after) whole are)))

several_at-in_order : (angles : Bool) (raw : List ℕ) (start : ℕ) (bytes : List ℕ) (after : List Element) → From raw start bytes
    → AreInOrder (start + several_len angles bytes) raw after → AreInOrder start raw (several_at angles start bytes ++ after)
unfolding several_at
several_at-in_order angles raw start bytes after from are =
    let n : ℕ = several_len angles bytes in
    let len = length-take-le n bytes (several_len_within angles bytes) in (
      omega arith,
      taken-from raw start (take n bytes) (front-from raw start n bytes from),
      in_order-later (start + length (take n bytes)) (start + n) raw after (omega (arith, len)) are,
    )

several-in_order : (raw : List ℕ) (start : ℕ) (text : List ℕ) (after : List Element) → From raw start text
    → AreInOrder (start + length text) raw after → AreInOrder start raw (several start text ++ after)
unfolding several items
several-in_order raw start text after from are =
    let angles : Bool = has_brackets text in
    pieces-in_order (several_at angles) (several_len angles) raw (several_len_within angles) (several_at-in_order angles raw) (length text) start text after from are

single_at-in_order : (raw : List ℕ) (start : ℕ) (text : List ℕ) (after : List Element) → From raw start text
    → AreInOrder (start + length text) raw after → AreInOrder start raw (map single (single_at start text) ++ after)
unfolding single_at
single_at-in_order raw start text after from are =
    cond_both (is_all_white text) [] (record { start = start; text = text; mailbox = mailbox_of text } ∷ []) (λ ss. AreInOrder start raw (map single ss ++ after))
    (λ e. in_order-later start (start + length text) raw after (omega arith) are) (λ e. (omega arith, taken-from raw start text from, are))

piece_at-in_order : (raw : List ℕ) (start : ℕ) (bytes : List ℕ) (after : List Element) → From raw start bytes
    → AreInOrder (start + piece_len bytes) raw after → AreInOrder start raw (piece_at start bytes ++ after)
unfolding piece_at piece_len
piece_at-in_order raw start bytes after from are =
    let n : ℕ = separator_place bytes in
    let len = length-take n bytes in
    single_at-in_order raw start (take n bytes) after (front-from raw start n bytes from)
    (in_order-later (start + length (take n bytes)) (start + piece_len bytes) raw after (omega (arith, len)) are)

opened-in_order : (raw : List ℕ) (start : ℕ) (text : List ℕ) (after : List Element) → From raw start text
    → AreInOrder (start + length text) raw after → AreInOrder start raw (opened start text ++ after)
unfolding opened items
opened-in_order raw start text after from are =
    let len : ℕ = opened_len text in
    let next : ℕ = min (suc len) (length text) in
    let low : next ≤ length text = omega arith in
    let taken = length-take len text in
    let cut = length-drop next text in
    let whole : start + length text ≡ start + next + length (drop next text) = omega (arith, cut, low) in
    let rest : List Element = items_within piece_at piece_len (length (drop next text)) (start + next) (drop next text) in
    subst (λ (es : List Element). AreInOrder start raw es) (sym (append_assoc (map single (single_at start (take len text))) rest after))
    (single_at-in_order raw start (take len text) (rest ++ after) (front-from raw start len text from)
    (in_order-later (start + length (take len text)) (start + next) raw (rest ++ after) (omega (arith, taken))
    (pieces-in_order piece_at piece_len raw piece_len_within (piece_at-in_order raw) (length (drop next text)) (start + next) (drop next text) after
    (rest-from raw start next text low from) (subst (λ k. AreInOrder k raw after) whole are))))

module _ (make : ℕ → List ℕ → Option Parts → List Element) (raw : List ℕ)
    (front : (start : ℕ) (text : List ℕ) (o : Option Parts) (after : List Element) → From raw start text → AreInOrder (start + length text) raw after → AreInOrder start raw (make start text o ++ after)) where
  divided-in_order : (place : ℕ) (es : List Element) → AreInOrder place raw es → AreInOrder place raw (flat_map (divided make) es)
  divided-in_order place [] are = tt
  divided-in_order place (single s ∷ es) are =
      in_order-later place s.start raw (make s.start s.text s.mailbox ++ flat_map (divided make) es) are.0
      (front s.start s.text s.mailbox (flat_map (divided make) es) (from-taken raw s.start s.text are.1) (divided-in_order (s.start + length s.text) es are.2))
  divided-in_order place (group g ∷ es) are = (are.0, are.1, divided-in_order (g.start + length g.text) es are.2)

parted_as-in_order : (raw : List ℕ) (start : ℕ) (text : List ℕ) (o : Option Parts) (after : List Element) → From raw start text
    → AreInOrder (start + length text) raw after → AreInOrder start raw (parted_as start text o ++ after)
parted_as-in_order raw start text (Some m) after from are = (omega arith, taken-from raw start text from, are)
parted_as-in_order raw start text None after from are =
    cond_both (are_several text) (several start text) (single (record { start = start; text = text; mailbox = None }) ∷ []) (λ es. AreInOrder start raw (es ++ after))
    (λ e. several-in_order raw start text after from are) (λ e. (omega arith, taken-from raw start text from, are))

opened_as-in_order : (raw : List ℕ) (start : ℕ) (text : List ℕ) (o : Option Parts) (after : List Element) → From raw start text
    → AreInOrder (start + length text) raw after → AreInOrder start raw (opened_as start text o ++ after)
opened_as-in_order raw start text (Some m) after from are = (omega arith, taken-from raw start text from, are)
opened_as-in_order raw start text None after from are =
    cond_both (has_open_comment text) (opened start text) (single (record { start = start; text = text; mailbox = None }) ∷ []) (λ es. AreInOrder start raw (es ++ after))
    (λ e. opened-in_order raw start text after from are) (λ e. (omega arith, taken-from raw start text from, are))

pub parted-in_order : (place : ℕ) (raw : List ℕ) (es : List Element) → AreInOrder place raw es → AreInOrder place raw (flat_map parted es)
parted-in_order place raw es are = divided-in_order parted_as raw (parted_as-in_order raw) place es are

pub opened-are_in_order : (place : ℕ) (raw : List ℕ) (es : List Element) → AreInOrder place raw es → AreInOrder place raw (flat_map reopened es)
opened-are_in_order place raw es are = divided-in_order opened_as raw (opened_as-in_order raw) place es are
