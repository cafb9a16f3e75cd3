-- The refusals of the library, which are all distinct; the crate's own rule.
use Rattle.std.specs.Prelude.{ℕ, List, codes, Result, Ok, Err}

-- a refusal: a plain text, a text about an encoding, or the index of the first invalid Base64 group
pub data Refusal : Type 0 where
  generic : List ℕ → Refusal
  encoding : List ℕ → Refusal
  base64_fault : ℕ → Refusal

-- no bytes where a header is expected
abbrev pub empty_string : Refusal
empty_string = generic (codes "Empty string provided")

-- a space where the key of a header is expected
abbrev pub leading_space : Refusal
leading_space = generic (codes "Header cannot start with a space; it is likely an overhanging line from a previous header")

-- a CR without LF where a header or the blank line is expected
abbrev pub lone_carriage_return : Refusal
lone_carriage_return = generic (codes "Headers were followed by an unexpected lone CR character!")

-- a value that is not UTF-8 where only UTF-8 is accepted
abbrev pub value_not_utf8 : Refusal
value_not_utf8 = encoding (codes "Invalid UTF-8 in header value")

-- a part at a level above the greatest allowed
abbrev pub recursion_limit : Refusal
recursion_limit = generic (codes "Recursion limit reached")

-- more messages and headers than the limit of the caller; not a refusal of the port
abbrev pub too_many_items : Refusal
too_many_items = generic (codes "Too many parts and headers")

-- the result of a reading, or the first refusal
abbrev pub Reads : Type 0 → Type 0
Reads A = Result A Refusal

-- the second reading after the first, unless that was refused
infixl 10 ◌>>=◌
abbrev pub ◌>>=◌ : {A B : Type 0} → Reads A → (A → Reads B) → Reads B
(Ok x) >>= f = f x
(Err refusal) >>= f = Err refusal
