-- What plain values of types and dispositions mean (RFC 2045, section 5.1; RFC 2183, section 2): a grammar of their bytes with
-- the names and texts that these give. It says nothing of how values are unfolded and searched.
use Rattle.std.specs.Prelude.{◌≡◌, ⊤, ℕ, Bool, true, false, ◌==◌, List, [], ◌∷◌, ◌++◌, Some, None, map, codes, if◌then◌else◌}
use Rattle.std.specs.Char.{is_ascii_alphanumeric}
use Rattle.std.specs.List.{AllByRecursion, list_all, list_any}
use Rattle.std.specs.Str.{bytes_eq, str_eq_ignore_ascii_case, str_to_ascii_lowercase}
use Rattle.mail_codec.specs.Ascii.{equals_sign, is_blank, quote, semicolon, slash, space}
use Rattle.mail_codec.specs.Charset.{Charsets}
use Rattle.mailparse.specs.ContentType.{ContentType, type_with}
use Rattle.mailparse.specs.Disposition.{Disposition, default_disposition, disposition_named}
use Rattle.mailparse.specs.Mail.{Node, Tree, tree, Forest, no_parts, part_and, is_digest, part_type, shown_as_in}
use Rattle.mailparse.specs.Pairs.{Texts}
use Rattle.mail_grammar.specs.Fields.{HasNone}
use Rattle.mail_grammar.specs.Parameters.{IsGap, is_name_character, is_token_character, main_types}
use Rattle.mail_grammar.specs.PlainParameters.{HasNoWord, IsPlainText}

-- ---- parameters

-- parameters, each with its name in lower case and its text
abbrev pub Parameters : Type 0
Parameters = List (List ℕ × List ℕ)

-- the text at a name: that of the first parameter with this name
abbrev pub text_named : Parameters → Texts
text_named [] name = None
text_named (parameter ∷ more) name = if bytes_eq parameter.0 name then Some parameter.1 else text_named more name

-- The value of a parameter, after its text. The cases:
pub data IsValueOf : List ℕ → List ℕ → Type 0 where
  -- a token, which is its own text
  token_of : {first : ℕ} {others : List ℕ} → list_all is_name_character (first ∷ others) ≡ true
      → IsValueOf (first ∷ others) (first ∷ others)
  -- quotes with nothing in them
  empty_of : IsValueOf [] (quote ∷ (quote ∷ []))
  -- the text in quotes, which neither begins nor ends with a space
  quotes_of : {first : ℕ} {others bytes : List ℕ} → (first == space) ≡ false → IsPlainText (first ∷ others)
      → bytes ≡ quote ∷ ((first ∷ others) ++ (quote ∷ [])) → IsValueOf (first ∷ others) bytes

-- Parameters, whose names are all different. There is a semicolon before each; after the last of them there may be a semicolon.
-- The cases:
pub data AreParametersOf : Parameters → List ℕ → Type 0 where
  -- no more bytes
  none_of : AreParametersOf [] []
  -- a semicolon at the end
  semicolon_of : AreParametersOf [] (semicolon ∷ [])
  -- a parameter, whose name has no asterisk
  parameter_of : {parameters : Parameters} {gap text value bytes : List ℕ} (first : ℕ) (others rest : List ℕ) → IsGap gap
      → list_all is_name_character (first ∷ others) ≡ true → IsValueOf text value
      → list_any (bytes_eq (str_to_ascii_lowercase (first ∷ others))) (map (λ p. p.0) parameters) ≡ false
      → AreParametersOf parameters rest
      → bytes ≡ semicolon ∷ (gap ++ ((first ∷ others) ++ (equals_sign ∷ (value ++ rest))))
      → AreParametersOf ((str_to_ascii_lowercase (first ∷ others), text) ∷ parameters) bytes

-- a subtype or a disposition, which in lower case is this name, and parameters
pub record IsPlainOf (name : List ℕ) (parameters : Parameters) (bytes : List ℕ) : Type 0 where
  pub first : ℕ
  pub others : List ℕ
  pub rest : List ℕ
  pub begins : is_ascii_alphanumeric first ≡ true
  pub characters : list_all is_token_character others ≡ true
  pub named : name ≡ str_to_ascii_lowercase (first ∷ others)
  pub parameters_of : AreParametersOf parameters rest
  pub made : bytes ≡ first ∷ (others ++ rest)
  pub word : HasNoWord bytes

-- ---- values

-- Blanks, and then a type with this name, in lower case. The cases:
pub data IsTypeOf (mimetype : List ℕ) (parameters : Parameters) : List ℕ → Type 0 where
  -- one more blank
  blank_before_type_of : {b : ℕ} {rest : List ℕ} → is_blank b ≡ true → IsTypeOf mimetype parameters rest
      → IsTypeOf mimetype parameters (b ∷ rest)
  -- the type
  type_of : {subtype text bytes : List ℕ} (main : List ℕ) → list_any (str_eq_ignore_ascii_case main) main_types ≡ true
      → IsPlainOf subtype parameters text → mimetype ≡ str_to_ascii_lowercase main ++ (slash ∷ subtype)
      → bytes ≡ main ++ (slash ∷ text) → IsTypeOf mimetype parameters bytes

-- Blanks, and then a disposition with this name, in lower case. The cases:
pub data IsDispositionOf (name : List ℕ) (parameters : Parameters) : List ℕ → Type 0 where
  -- one more blank
  blank_before_disposition_of : {b : ℕ} {rest : List ℕ} → is_blank b ≡ true → IsDispositionOf name parameters rest
      → IsDispositionOf name parameters (b ∷ rest)
  -- the disposition
  disposition_of : {bytes : List ℕ} → IsPlainOf name parameters bytes → IsDispositionOf name parameters bytes

-- ---- what they mean

-- the type with this name and these parameters
abbrev pub meant_type : List ℕ → Parameters → ContentType
meant_type mimetype parameters = type_with mimetype (text_named parameters)

-- the disposition with this name and these parameters
abbrev pub meant_disposition : List ℕ → Parameters → Disposition
meant_disposition name parameters = record { kind = disposition_named name; params = text_named parameters }

-- a value is of the grammar, and means this type
pub record MeansType (ctype : ContentType) (value : List ℕ) : Type 0 where
  pub mimetype : List ℕ
  pub parameters : Parameters
  pub is : IsTypeOf mimetype parameters value
  pub same : ctype ≡ meant_type mimetype parameters

-- a value is of the grammar, and means this disposition
pub record MeansDisposition (disposition : Disposition) (value : List ℕ) : Type 0 where
  pub name : List ℕ
  pub parameters : Parameters
  pub is : IsDispositionOf name parameters value
  pub same : disposition ≡ meant_disposition name parameters

-- The type of a message is what the value of its header of that name means, and without such a header the default type of a part;
-- it is given whether the message is a part of a digest. So is its disposition, whatever charsets are known, which is `inline` by
-- default.
pub record HasMeantValues (in_digest : Bool) (node : Node) : Type 0 where
  pub types : AllByRecursion
      (λ h. str_eq_ignore_ascii_case h.key (codes "Content-Type") ≡ true → MeansType node.ctype h.value)
      node.headers
  pub no_type : HasNone (codes "Content-Type") node.headers → node.ctype ≡ part_type in_digest
  pub dispositions : (known : Charsets) → AllByRecursion
      (λ h. str_eq_ignore_ascii_case h.key (codes "Content-Disposition") ≡ true
      → MeansDisposition (shown_as_in known node) h.value)
      node.headers
  pub no_disposition : (known : Charsets) → HasNone (codes "Content-Disposition") node.headers
      → shown_as_in known node ≡ default_disposition

-- so are those of a message and its parts
abbrev mutual
  pub IsMeant : Bool → Tree → Type 0
  IsMeant in_digest (tree node parts) = HasMeantValues in_digest node × AreMeant (is_digest node.ctype) parts

  -- the same of each of some parts
  pub AreMeant : Bool → Forest → Type 0
  AreMeant in_digest no_parts = ⊤
  AreMeant in_digest (part_and t parts) = IsMeant in_digest t × AreMeant in_digest parts
