-- The types and dispositions of a mail of the grammar are what the values of its headers mean.
use Rattle.std.proofs.Common.{◌≡◌, ◌∙◌, ℕ, Bool, true, false, cond, List, [], ◌∷◌, Option, Some, None, option_map, refl, sym}
use Rattle.std.proofs.Common.{ap, subst, arith}
use Rattle.std.specs.Prelude.{codes}
use Rattle.std.specs.List.{AllByRecursion}
use Rattle.std.specs.Option.{option_map_or}
use Rattle.std.specs.Str.{str_eq_ignore_ascii_case}
use Rattle.std.proofs.lemmas.Bool.{false≢true}
use Rattle.std.proofs.lemmas.Str.{encodes-IsAscii}
use Rattle.mail_codec.specs.Charset.{Charsets}
use Rattle.mailparse.specs.Disposition.{Disposition, default_disposition, disposition_in}
use Rattle.mailparse.specs.Header.{Header}
use Rattle.mailparse.specs.Mail.{Tree, tree, Forest, no_parts, is_digest, node_type, root, trees_in, trees_within}
use Rattle.mailparse.specs.Map.{first_with_key}
use Rattle.mailparse.specs.Value.{lenient_value_in}
use Rattle.mail_grammar.specs.Fields.{HasNone, another, HasAtMostOne, other_name, the_one}
use Rattle.mail_grammar.specs.PlainParameters.{HasPlainValue}
use Rattle.mail_check_laws.proofs.lemmas.Reading.{all_with}
use Rattle.mail_grammar.specs.PlainValues.{MeansDisposition, MeansType, HasMeantValues, IsMeant, AreMeant}
use Rattle.mail_clean.specs.StrictMails.{message_of, IsMessage, single, multipart, AreMessages, no_messages, message_and, IsMail}
use Rattle.mail_clean.proofs.lemmas.CleanMails.{IsClean, IsLow, all_clean, all_split, headers_low, no_header, type_found}
use Rattle.mail_grammar.proofs.lemmas.FlatPairs.{low_ascii}
use Rattle.mail_clean.proofs.lemmas.PlainValues.{disposition_meant, disposition_read, type_meant, type_read}
use Rattle.mail_clean.proofs.lemmas.WholeMails.{mail_is_read}

-- ---- the one header with a name

-- it is the first
abbrev IsFirst : List ℕ → List Header → Header → Type 0
IsFirst name headers h = str_eq_ignore_ascii_case h.key name ≡ true → first_with_key name headers ≡ Some h

-- a header with a name in ASCII, before others
here : (name : List ℕ) (h : Header) (headers : List Header) (t : Bool) → IsLow h → str_eq_ignore_ascii_case h.key name ≡ t
    → first_with_key name (h ∷ headers) ≡ cond t (Some h) (first_with_key name headers)
here name h headers t low e =
    ap (λ (k : List ℕ). cond (str_eq_ignore_ascii_case k name) (Some h) (first_with_key name headers))
    (encodes-IsAscii h.key (low_ascii h.key low.0))
    ∙ ap (λ (t : Bool). cond t (Some h) (first_with_key name headers)) e

none_found : (name : List ℕ) (headers : List Header) → HasNone name headers → AllByRecursion IsLow headers
    → first_with_key name headers ≡ None
none_found name [] none low = refl
none_found name (h ∷ headers) (another other more) low = here name h headers false low.0 other ∙ none_found name headers more low.1

none_first : (name : List ℕ) (all headers : List Header) → HasNone name headers → AllByRecursion (IsFirst name all) headers
none_first name all [] none = tt
none_first name all (h ∷ headers) (another other more) =
    ((λ e. absurd (false≢true (sym other ∙ e))), none_first name all headers more)

one_first : (name : List ℕ) (headers : List Header) → HasAtMostOne name headers → AllByRecursion IsLow headers
    → AllByRecursion (IsFirst name headers) headers
one_first name [] one low = tt
one_first name (h ∷ headers) (the_one same none) low =
    ((λ e. here name h headers true low.0 same), none_first name (h ∷ headers) headers none)
one_first name (h ∷ headers) (other_name other more) low =
    let later = one_first name headers more low.1 in (
      (λ e. absurd (false≢true (sym other ∙ e))),
      all_with (IsFirst name headers) (IsFirst name headers) (IsFirst name (h ∷ headers))
          (λ x first same e. here name h headers false low.0 other ∙ first e) headers later later,
    )

-- ---- messages

abbrev Plain : Header → Type 0
Plain h = IsLow h × HasPlainValue h

-- the disposition in a header that was found
abbrev found_disposition : Charsets → Option Header → Disposition
found_disposition known o =
    option_map_or (disposition_in known) (option_map (λ h. lenient_value_in known h.value) o) default_disposition

module _ (known : Charsets) where
  message_meant : (in_digest : Bool) (t : Tree) → IsClean known t
      → (root t).ctype ≡ node_type known in_digest (root t).headers → HasMeantValues in_digest (root t)
  message_meant in_digest t is typed =
      let node = root t in
      let headers : List Header = node.headers in
      let low = headers_low node is.read is.block in
      let plain = all_with IsLow HasPlainValue Plain (λ h a b. (a, b)) headers low is.parameters in
      record {
        types = all_with Plain (IsFirst (codes "Content-Type") headers)
            (λ h. str_eq_ignore_ascii_case h.key (codes "Content-Type") ≡ true → MeansType node.ctype h.value)
            (λ h plain first e.
            let meant = type_meant h.value (plain.1.type e) in
            record {
              mimetype = meant.mimetype;
              parameters = meant.parameters;
              is = meant.is;
              same = typed ∙ type_found known in_digest headers h (first e)
                  ∙ type_read known meant.mimetype meant.parameters h.value plain.0.1 meant.is;
            }) headers plain (one_first (codes "Content-Type") headers is.fields.once.0 low);
        no_type = λ none. typed ∙ no_header known in_digest headers (none_found (codes "Content-Type") headers none low);
        dispositions = λ other. all_with Plain (IsFirst (codes "Content-Disposition") headers)
            (λ h. str_eq_ignore_ascii_case h.key (codes "Content-Disposition") ≡ true
            → MeansDisposition (found_disposition other (first_with_key (codes "Content-Disposition") headers)) h.value)
            (λ h plain first e.
            let meant = disposition_meant h.value (plain.1.disposition e) in
            record {
              name = meant.name;
              parameters = meant.parameters;
              is = meant.is;
              same = ap (found_disposition other) (first e)
                  ∙ disposition_read other meant.name meant.parameters h.value plain.0.1 meant.is;
            }) headers plain (one_first (codes "Content-Disposition") headers is.fields.once.1.1.0 low);
        no_disposition = λ other none. ap (found_disposition other) (none_found (codes "Content-Disposition") headers none low);
      }

  -- ---- mails

  abbrev AllClean : Tree → Type 0
  AllClean t = AllByRecursion (IsClean known) (trees_within t)

  mutual
    tree_meant : (in_digest : Bool) (bytes : List ℕ) (t : Tree) → IsMessage known in_digest bytes t → AllClean t
        → IsMeant in_digest t
    tree_meant in_digest bytes t (single {block = block} {body = body} {headers = headers} are other made same) clean =
        let message = tree (message_of known in_digest bytes block headers body) no_parts in
        let all = subst AllClean same clean in
        subst (IsMeant in_digest) (sym same) (message_meant in_digest message all.0 refl, tt)
    tree_meant in_digest bytes t
        (multipart {block = block} {preamble = preamble} {headers = headers} {pieces = pieces} {parts = parts}
        are multi named boundary split messages made same) clean =
        let message = tree (message_of known in_digest bytes block headers preamble) parts in
        let all = subst AllClean same clean in
        subst (IsMeant in_digest) (sym same) (
          message_meant in_digest message all.0 refl,
          forest_meant (is_digest (node_type known in_digest headers)) pieces parts messages all.1,
        )

    forest_meant : (in_digest : Bool) (pieces : List (List ℕ)) (parts : Forest) → AreMessages known in_digest pieces parts
        → AllByRecursion (IsClean known) (trees_in parts) → AreMeant in_digest parts
    forest_meant in_digest pieces parts no_messages clean = tt
    forest_meant in_digest pieces parts (message_and {piece = piece} {pieces = others} {t = t} {parts = rest} is more) clean =
        let both = all_split known (trees_within t) (trees_in rest) clean in
        (tree_meant in_digest piece t is both.0, forest_meant in_digest others rest more both.1)

  pub mail_meant : (bytes : List ℕ) (t : Tree) → IsMail known bytes t → IsMeant false t
  mail_meant bytes t is =
      tree_meant false bytes t is.message
      (all_clean known 9 bytes t (mail_is_read known 9 bytes t (omega arith) is) is.strict)
