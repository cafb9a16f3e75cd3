-- The elements of a list are the mailboxes that the grammar says they are.
use Rattle.std.proofs.Common.{ℕ, zero, suc, ◌+◌, List, [], ◌∷◌, ◌++◌, length, take, drop, map}
use Rattle.std.proofs.lemmas.Bool.{cond_both}
use Rattle.mailparse.specs.Header.{Header}
use Rattle.mailparse.specs.Map.{all_with_key}
use Rattle.mail_address.specs.declared.tokens.Span.TheVariants.{BeforeComma, BeforeSeparator}
use Rattle.mail_address.specs.Addresses.{addresses, after_name, EachElement, EachSingle, Element, element_at, element_len, group, group_at, inner_len, is_group, items, items_within, member_at, member_len, members_at, name_len, single, Single, single_at}
use Rattle.mail_address.specs.Grammar.{IsByGrammar}
use Rattle.mail_address.specs.Headers.{addresses_in, addresses_of}
use Rattle.mail_address.specs.Tokens.{is_all_white, run}
use Rattle.mail_address.proofs.lemmas.GrammarMade.{mailbox-made}
use Rattle.mail_address.proofs.lemmas.GrammarRead.{mailbox-read}

-- a property of the empty list, of the join of two lists with it, and of each piece is one of all pieces
items_within-hold : {A : Type 0} (at : ℕ → List ℕ → List A) (len : List ℕ → ℕ) (P : List A → Type 0) → P [] → ((xs ys : List A) → P xs → P ys → P (xs ++ ys))
    → ((start : ℕ) (bytes : List ℕ) → P (at start bytes)) → (most start : ℕ) (bytes : List ℕ) → P (items_within at len most start bytes)
items_within-hold at len P none both each zero start bytes = none
items_within-hold at len P none both each (suc most) start [] = none
items_within-hold at len P none both each (suc most) start (b ∷ bytes) =
    both (at start (b ∷ bytes)) (items_within at len most (start + len (b ∷ bytes)) (drop (len (b ∷ bytes)) (b ∷ bytes))) (each start (b ∷ bytes))
    (items_within-hold at len P none both each most (start + len (b ∷ bytes)) (drop (len (b ∷ bytes)) (b ∷ bytes)))

pub items-hold : {A : Type 0} (at : ℕ → List ℕ → List A) (len : List ℕ → ℕ) (P : List A → Type 0) → P [] → ((xs ys : List A) → P xs → P ys → P (xs ++ ys))
    → ((start : ℕ) (bytes : List ℕ) → P (at start bytes)) → (start : ℕ) (bytes : List ℕ) → P (items at len start bytes)
unfolding items
items-hold at len P none both each start bytes = items_within-hold at len P none both each (length bytes) start bytes

singles-append : (P : Single → Type 0) (xs ys : List Single) → EachSingle P xs → EachSingle P ys → EachSingle P (xs ++ ys)
singles-append P [] ys first second = second
singles-append P (x ∷ xs) ys first second = (first.0, singles-append P xs ys first.1 second)

pub elements-append : (P : Single → Type 0) (xs ys : List Element) → EachElement P xs → EachElement P ys → EachElement P (xs ++ ys)
elements-append P [] ys first second = second
elements-append P (single s ∷ xs) ys first second = (first.0, elements-append P xs ys first.1 second)
elements-append P (group g ∷ xs) ys first second = (first.0, elements-append P xs ys first.1 second)

pub single-follows : (start : ℕ) (text : List ℕ) → EachSingle IsByGrammar (single_at start text)
unfolding single_at
single-follows start text =
    cond_both (is_all_white text) _ _ (EachSingle IsByGrammar) (λ e. tt) (λ e. (λ m. (mailbox-made text m, mailbox-read text m), tt))

pub singles-follow : (ss : List Single) → EachSingle IsByGrammar ss → EachElement IsByGrammar (map single ss)
singles-follow [] are = tt
singles-follow (s ∷ ss) are = (are.0, singles-follow ss are.1)

member-follows : (start : ℕ) (bytes : List ℕ) → EachSingle IsByGrammar (member_at start bytes)
unfolding member_at
member-follows start bytes = single-follows start (take (run BeforeComma bytes) bytes)

pub members-follow : (start : ℕ) (bytes : List ℕ) → EachSingle IsByGrammar (members_at start bytes)
members-follow start bytes = items-hold member_at member_len (EachSingle IsByGrammar) tt (singles-append IsByGrammar) member-follows start bytes

group-follows : (start : ℕ) (bytes : List ℕ) → EachSingle IsByGrammar (group_at start bytes).members
unfolding group_at
group-follows start bytes = members-follow (start + suc (name_len bytes)) (take (inner_len bytes) (after_name bytes))

element-follows : (start : ℕ) (bytes : List ℕ) → EachElement IsByGrammar (element_at start bytes)
unfolding element_at
element-follows start bytes =
    let text : List ℕ = take (run BeforeSeparator bytes) bytes in
    cond_both (is_group bytes) _ _ (EachElement IsByGrammar) (λ e. (group-follows start bytes, tt)) (λ e. singles-follow (single_at start text) (single-follows start text))

pub elements-follow : (raw : List ℕ) → EachElement IsByGrammar (addresses raw)
elements-follow raw = items-hold element_at element_len (EachElement IsByGrammar) tt (elements-append IsByGrammar) element-follows 0 raw

-- a property that elements without members have by the grammar is one of each that is read
module _ (P : Single → Type 0) (given : (s : Single) → IsByGrammar s → P s) where
  pub singles-have : (ss : List Single) → EachSingle IsByGrammar ss → EachSingle P ss
  singles-have [] are = tt
  singles-have (s ∷ ss) are = (given s are.0, singles-have ss are.1)

  pub elements-have : (es : List Element) → EachElement IsByGrammar es → EachElement P es
  elements-have [] are = tt
  elements-have (single s ∷ es) are = (given s are.0, elements-have es are.1)
  elements-have (group g ∷ es) are = (singles-have g.members are.0, elements-have es are.1)

  pub addresses-have : (raw : List ℕ) → EachElement P (addresses raw)
  addresses-have raw = elements-have (addresses raw) (elements-follow raw)

  headers-have : (headers : List Header) → EachElement P (addresses_in headers)
  headers-have [] = tt
  headers-have (h ∷ headers) = elements-append P (addresses h.value) (addresses_in headers) (addresses-have h.value) (headers-have headers)

  pub named-have : (name : List ℕ) (headers : List Header) → EachElement P (addresses_of name headers)
  unfolding addresses_of
  named-have name headers = headers-have (all_with_key name headers)
