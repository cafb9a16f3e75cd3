-- The kit's parser reads the text of a value as the value.
use Rattle.std.proofs.Common.{◌≡◌, ℕ, ◌≤◌, Bool, true, false, cond, List, [], ◌∷◌, ◌++◌, Some, option_and_then, refl, sym, ap, ap₂, ◌∙◌, append_assoc, append-nil}
use Rattle.std.proofs.lemmas.Bool.{and_from}
use Rattle.std.proofs.lemmas.List.Folds.{list_all-append}
use Rattle.std.specs.List.{list_all}
use Rattle.std.specs.Prelude.{⊤}
use Rattle.json.proofs.Printed.Numbers.{lex-number, in_word-ended}
use Rattle.json.proofs.Printed.Trees.{value-json_tokens}
use Rattle.json.specs.Json.{Json, null, boolean, number, string, array, object, Items, no_items, item, Members, no_members, member, value, if_last, max_depth, document}
use Rattle.json.specs.Lex.{Lexeme, token, comma, colon, lex, between, Place, fresh, after_value, after_comma, after_key, begins_colon, may_begin, if_allowed, place_token, punctuate, tokens}
use Rattle.json.specs.Print.{IsNumber}
use Rattle.json.specs.Token.{Token}
use Rattle.json.specs.Tree.{json_tokens, items_tokens, members_tokens, depth, HasNumbers, ItemsHaveNumbers, MembersHaveNumbers}
use Rattle.json.specs.Word.{ends_word, word}
use Rattle.mail_json_text.specs.JsonText.{json_text}
use Rattle.mail_json_text.specs.Printed.{comma_if, items_text, members_text, text_of}
use Rattle.mail_json_text.specs.JsonLine.{is_within_line}
use Rattle.mail_json_text.proofs.lemmas.Escapes.{lex-json_text, one_line-json_text}

-- ---- how the lexer reads it

abbrev lexeme_if : Bool → List Lexeme → List Lexeme
lexeme_if true ls = comma ∷ ls
lexeme_if false ls = ls

abbrev mutual
  value_lexemes : Json → List Lexeme
  value_lexemes null = token Token.null ∷ []
  value_lexemes (boolean b) = token (Token.boolean b) ∷ []
  value_lexemes (number s) = token (Token.number s) ∷ []
  value_lexemes (string s) = token (Token.string s) ∷ []
  value_lexemes (array js) = token Token.begin_array ∷ items_lexemes false js
  value_lexemes (object ms) = token Token.begin_object ∷ members_lexemes false ms

  items_lexemes : Bool → Items → List Lexeme
  items_lexemes later no_items = token Token.end_array ∷ []
  items_lexemes later (item j js) = lexeme_if later (value_lexemes j ++ items_lexemes true js)

  members_lexemes : Bool → Members → List Lexeme
  members_lexemes later no_members = token Token.end_object ∷ []
  members_lexemes later (member k j ms) = lexeme_if later (token (Token.string k) ∷ colon ∷ (value_lexemes j ++ members_lexemes true ms))

-- a comma or a closing bracket follows a value
items_end : (js : Items) (r : List ℕ) → ends_word (items_text true js ++ r) ≡ true
unfolding items_text
items_end no_items r = refl
items_end (item j js) r = refl

members_end : (ms : Members) (r : List ℕ) → ends_word (members_text true ms ++ r) ≡ true
unfolding members_text
members_end no_members r = refl
members_end (member k j ms) r = refl

-- a value, and what follows it
both : (a b r : List ℕ) (m n : List Lexeme) → lex between (a ++ (b ++ r)) ≡ m ++ lex between (b ++ r) → lex between (b ++ r) ≡ n ++ lex between r
    → lex between ((a ++ b) ++ r) ≡ (m ++ n) ++ lex between r
both a b r m n first rest = ap (lex between) (append_assoc a b r) ∙ first ∙ ap (λ l. m ++ l) rest ∙ sym (append_assoc m n (lex between r))

after_comma_if : (later : Bool) (text r : List ℕ) (ls : List Lexeme) → lex between (text ++ r) ≡ ls ++ lex between r
    → lex between (comma_if later text ++ r) ≡ lexeme_if later ls ++ lex between r
unfolding lex
after_comma_if true text r ls e = ap (λ l. comma ∷ l) e
after_comma_if false text r ls e = e

key_first : (k rest r : List ℕ) (ls : List Lexeme) → lex between (rest ++ r) ≡ ls ++ lex between r
    → lex between ((json_text k ++ (58 ∷ rest)) ++ r) ≡ (token (Token.string k) ∷ colon ∷ ls) ++ lex between r
unfolding lex
key_first k rest r ls e =
    ap (lex between) (append_assoc (json_text k) (58 ∷ rest) r) ∙ lex-json_text k (58 ∷ (rest ++ r))
    ∙ ap (λ l. token (Token.string k) ∷ colon ∷ l) e

mutual
  unfolding lex word text_of items_text members_text

  lex-value : (j : Json) (r : List ℕ) → HasNumbers j → ends_word r ≡ true → lex between (text_of j ++ r) ≡ value_lexemes j ++ lex between r
  lex-value null r h ended = ap₂ (λ b l. token (cond b Token.null Token.bad) ∷ l) ended (in_word-ended r ended)
  lex-value (boolean true) r h ended = ap₂ (λ b l. token (cond b (Token.boolean true) Token.bad) ∷ l) ended (in_word-ended r ended)
  lex-value (boolean false) r h ended = ap₂ (λ b l. token (cond b (Token.boolean false) Token.bad) ∷ l) ended (in_word-ended r ended)
  lex-value (number s) r h ended = lex-number s r h ended
  lex-value (string s) r h ended = lex-json_text s r
  lex-value (array js) r h ended = ap (λ l. token Token.begin_array ∷ l) (lex-items false js r h)
  lex-value (object ms) r h ended = ap (λ l. token Token.begin_object ∷ l) (lex-members false ms r h)

  lex-items : (later : Bool) (js : Items) (r : List ℕ) → ItemsHaveNumbers js → lex between (items_text later js ++ r) ≡ items_lexemes later js ++ lex between r
  lex-items later no_items r h = refl
  lex-items later (item j js) r h =
      after_comma_if later (text_of j ++ items_text true js) r (value_lexemes j ++ items_lexemes true js)
      (both (text_of j) (items_text true js) r (value_lexemes j) (items_lexemes true js)
      (lex-value j (items_text true js ++ r) h.0 (items_end js r)) (lex-items true js r h.1))

  lex-members : (later : Bool) (ms : Members) (r : List ℕ) → MembersHaveNumbers ms
      → lex between (members_text later ms ++ r) ≡ members_lexemes later ms ++ lex between r
  lex-members later no_members r h = refl
  lex-members later (member k j ms) r h =
      after_comma_if later (json_text k ++ (58 ∷ (text_of j ++ members_text true ms))) r
      (token (Token.string k) ∷ colon ∷ (value_lexemes j ++ members_lexemes true ms))
      (key_first k (text_of j ++ members_text true ms) r (value_lexemes j ++ members_lexemes true ms)
      (both (text_of j) (members_text true ms) r (value_lexemes j) (members_lexemes true ms)
      (lex-value j (members_text true ms ++ r) h.0 (members_end ms r)) (lex-members true ms r h.1)))

-- ---- how the grammar reads it

allowed : (b : Bool) (t : Token) (k : Place → List Token) (next : Place) → b ≡ true → if_allowed b t k next ≡ t ∷ k next
allowed b t k next e = ap (λ x. if_allowed x t k next) e

items_no_colon : (js : Items) (ls : List Lexeme) → begins_colon (items_lexemes true js ++ ls) ≡ false
items_no_colon no_items ls = refl
items_no_colon (item j js) ls = refl

members_no_colon : (ms : Members) (ls : List Lexeme) → begins_colon (members_lexemes true ms ++ ls) ≡ false
members_no_colon no_members ls = refl
members_no_colon (member k j ms) ls = refl

-- a value, and what follows it
both_placed : (p : Place) (m n ls : List Lexeme) (ts us : List Token) → punctuate p (m ++ (n ++ ls)) ≡ ts ++ punctuate after_value (n ++ ls)
    → punctuate after_value (n ++ ls) ≡ us ++ punctuate after_value ls → punctuate p ((m ++ n) ++ ls) ≡ (ts ++ us) ++ punctuate after_value ls
both_placed p m n ls ts us first rest =
    ap (punctuate p) (append_assoc m n ls) ∙ first ∙ ap (λ l. ts ++ l) rest ∙ sym (append_assoc ts us (punctuate after_value ls))

key_placed : (p : Place) (k : List ℕ) (ls : List Lexeme) → may_begin p ≡ true → punctuate p (token (Token.string k) ∷ colon ∷ ls) ≡ Token.key k ∷ punctuate fresh ls
unfolding punctuate
key_placed p k ls e = allowed (may_begin p) (Token.key k) (λ n. punctuate n (colon ∷ ls)) after_key e

mutual
  unfolding punctuate

  placed-value : (p : Place) (j : Json) (ls : List Lexeme) → may_begin p ≡ true → begins_colon ls ≡ false
      → punctuate p (value_lexemes j ++ ls) ≡ json_tokens j ++ punctuate after_value ls
  placed-value p null ls e free = allowed (may_begin p) Token.null (λ n. punctuate n ls) after_value e
  placed-value p (boolean b) ls e free = allowed (may_begin p) (Token.boolean b) (λ n. punctuate n ls) after_value e
  placed-value p (number s) ls e free = allowed (may_begin p) (Token.number s) (λ n. punctuate n ls) after_value e
  placed-value p (string s) ls e free =
      ap (λ b. place_token p (Token.string s) b (λ n. punctuate n ls)) free ∙ allowed (may_begin p) (Token.string s) (λ n. punctuate n ls) after_value e
  placed-value p (array js) ls e free =
      allowed (may_begin p) Token.begin_array (λ n. punctuate n (items_lexemes false js ++ ls)) fresh e
      ∙ ap (λ l. Token.begin_array ∷ l) (placed-items false js ls)
  placed-value p (object ms) ls e free =
      allowed (may_begin p) Token.begin_object (λ n. punctuate n (members_lexemes false ms ++ ls)) fresh e
      ∙ ap (λ l. Token.begin_object ∷ l) (placed-members false ms ls)

  placed-items : (later : Bool) (js : Items) (ls : List Lexeme)
      → punctuate (cond later after_value fresh) (items_lexemes later js ++ ls) ≡ items_tokens js ++ punctuate after_value ls
  placed-items true no_items ls = refl
  placed-items false no_items ls = refl
  placed-items true (item j js) ls =
      both_placed after_comma (value_lexemes j) (items_lexemes true js) ls (json_tokens j) (items_tokens js)
      (placed-value after_comma j (items_lexemes true js ++ ls) refl (items_no_colon js ls)) (placed-items true js ls)
  placed-items false (item j js) ls =
      both_placed fresh (value_lexemes j) (items_lexemes true js) ls (json_tokens j) (items_tokens js)
      (placed-value fresh j (items_lexemes true js ++ ls) refl (items_no_colon js ls)) (placed-items true js ls)

  placed-members : (later : Bool) (ms : Members) (ls : List Lexeme)
      → punctuate (cond later after_value fresh) (members_lexemes later ms ++ ls) ≡ members_tokens ms ++ punctuate after_value ls
  placed-members true no_members ls = refl
  placed-members false no_members ls = refl
  placed-members true (member k j ms) ls =
      key_placed after_comma k ((value_lexemes j ++ members_lexemes true ms) ++ ls) refl
      ∙ ap (λ l. Token.key k ∷ l) (both_placed fresh (value_lexemes j) (members_lexemes true ms) ls (json_tokens j) (members_tokens ms)
      (placed-value fresh j (members_lexemes true ms ++ ls) refl (members_no_colon ms ls)) (placed-members true ms ls))
  placed-members false (member k j ms) ls =
      key_placed fresh k ((value_lexemes j ++ members_lexemes true ms) ++ ls) refl
      ∙ ap (λ l. Token.key k ∷ l) (both_placed fresh (value_lexemes j) (members_lexemes true ms) ls (json_tokens j) (members_tokens ms)
      (placed-value fresh j (members_lexemes true ms ++ ls) refl (members_no_colon ms ls)) (placed-members true ms ls))

nothing_left : (lex between [] ≡ []) × (punctuate after_value [] ≡ [])
unfolding lex punctuate
nothing_left = (refl, refl)

pub tokens-text_of : (j : Json) → HasNumbers j → tokens (text_of j) ≡ json_tokens j ++ []
tokens-text_of j h =
    ap (λ t. tokens t) (sym (append-nil (text_of j))) ∙ ap (punctuate fresh) (lex-value j [] h refl ∙ ap (λ l. value_lexemes j ++ l) nothing_left.0)
    ∙ placed-value fresh j [] refl refl ∙ ap (λ l. json_tokens j ++ l) nothing_left.1

-- the kit's parser reads the text as the value
pub document-text_of : (j : Json) → HasNumbers j → depth j ≤ max_depth → document (text_of j) ≡ Some j
document-text_of j numbers shallow =
    ap (option_and_then (λ p. if_last p.0 p.1)) (ap (value max_depth) (tokens-text_of j numbers) ∙ value-json_tokens j max_depth [] shallow)

-- ---- none of its bytes is a control

-- the numbers are numbers of JSON, without controls
abbrev pub IsLineNumber : List ℕ → Type 0
IsLineNumber s = IsNumber s × (list_all is_within_line s ≡ true)

abbrev mutual
  pub LineNumbers : Json → Type 0
  LineNumbers null = ⊤
  LineNumbers (boolean b) = ⊤
  LineNumbers (number s) = IsLineNumber s
  LineNumbers (string s) = ⊤
  LineNumbers (array js) = ItemsLineNumbers js
  LineNumbers (object ms) = MembersLineNumbers ms

  pub ItemsLineNumbers : Items → Type 0
  ItemsLineNumbers no_items = ⊤
  ItemsLineNumbers (item j js) = LineNumbers j × ItemsLineNumbers js

  pub MembersLineNumbers : Members → Type 0
  MembersLineNumbers no_members = ⊤
  MembersLineNumbers (member k j ms) = LineNumbers j × MembersLineNumbers ms

mutual
  pub HasNumbers-lines : (j : Json) → LineNumbers j → HasNumbers j
  HasNumbers-lines null h = tt
  HasNumbers-lines (boolean b) h = tt
  HasNumbers-lines (number s) h = h.0
  HasNumbers-lines (string s) h = tt
  HasNumbers-lines (array js) h = items_have_numbers js h
  HasNumbers-lines (object ms) h = members_have_numbers ms h

  items_have_numbers : (js : Items) → ItemsLineNumbers js → ItemsHaveNumbers js
  items_have_numbers no_items h = tt
  items_have_numbers (item j js) h = (HasNumbers-lines j h.0, items_have_numbers js h.1)

  members_have_numbers : (ms : Members) → MembersLineNumbers ms → MembersHaveNumbers ms
  members_have_numbers no_members h = tt
  members_have_numbers (member k j ms) h = (HasNumbers-lines j h.0, members_have_numbers ms h.1)

-- one text after another
line_then : (a b : List ℕ) → list_all is_within_line a ≡ true → list_all is_within_line b ≡ true → list_all is_within_line (a ++ b) ≡ true
line_then a b p q = list_all-append is_within_line a b ∙ and_from _ _ p q

line_comma : (later : Bool) (text : List ℕ) → list_all is_within_line text ≡ true → list_all is_within_line (comma_if later text) ≡ true
line_comma true text p = p
line_comma false text p = p

mutual
  unfolding text_of items_text members_text

  pub one_line-text_of : (j : Json) → LineNumbers j → list_all is_within_line (text_of j) ≡ true
  one_line-text_of null h = refl
  one_line-text_of (boolean true) h = refl
  one_line-text_of (boolean false) h = refl
  one_line-text_of (number s) h = h.1
  one_line-text_of (string s) h = one_line-json_text s
  one_line-text_of (array js) h = one_line-items false js h
  one_line-text_of (object ms) h = one_line-members false ms h

  one_line-items : (later : Bool) (js : Items) → ItemsLineNumbers js → list_all is_within_line (items_text later js) ≡ true
  one_line-items later no_items h = refl
  one_line-items later (item j js) h =
      line_comma later (text_of j ++ items_text true js) (line_then (text_of j) (items_text true js) (one_line-text_of j h.0) (one_line-items true js h.1))

  one_line-members : (later : Bool) (ms : Members) → MembersLineNumbers ms → list_all is_within_line (members_text later ms) ≡ true
  one_line-members later no_members h = refl
  one_line-members later (member k j ms) h =
      line_comma later (json_text k ++ (58 ∷ (text_of j ++ members_text true ms)))
      (line_then (json_text k) (58 ∷ (text_of j ++ members_text true ms)) (one_line-json_text k)
      (line_then (text_of j) (members_text true ms) (one_line-text_of j h.0) (one_line-members true ms h.1)))
