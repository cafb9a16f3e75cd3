-- Lemmas on the conditions of a well-formed outline, which are checked one after another.
use Rattle.std.proofs.Common.{◌≡◌, inl, inr, ℕ, suc, max, Bool, true, false, not, ◌&&◌, List, [], ◌∷◌, ◌++◌, length, take, drop, Option, Some, None, Result, Ok, Err, is_ok, refl, sym, ap, subst, ◌∙◌, arith}
use Rattle.std.specs.Prelude.{MatchResult, nat_eq, nat_le, option_map}
use Rattle.std.specs.Char.{is_ascii_alphanumeric}
use Rattle.std.specs.List.{list_all}
use Rattle.std.specs.Option.{option_map_or}
use Rattle.std.specs.Str.{IsUtf8, bytes_eq, is_utf8}
use Rattle.std.proofs.lemmas.Bool.{cond_both, and_parts, cases_Bool, false_from_ne_true, lt-leb, ne_eqb, false≢true}
use Rattle.std.proofs.lemmas.Option.{same_Some}
use Rattle.std.proofs.lemmas.Str.{IsUtf8-from_is_utf8, is_utf8-from_IsUtf8}
use Rattle.mail_codec.specs.Places.{is_empty}
use Rattle.mailparse.specs.Header.{Header}
use Rattle.mailparse.specs.ContentType.{ContentType}
use Rattle.mailparse.specs.Refusal.{Refusal}
use Rattle.mail_laws.specs.Boundaries.{boundary_type}
use Rattle.mail_laws.specs.Render.{OutlineTree, branch, forest_of, rendered, is_key, has_keys, has_texts, has_type_key, type_header, names_its_boundary, has_plain_boundary, has_some_part, contains_delimiter, contain_no_delimiter, depth, depth_of_parts, is_well_formed_within, are_well_formed_within}
use lib.Pointwise.{pointwise}

-- ---- the first `Content-Type`

-- what a test says of its value
pub by_value : (test : List ℕ → Bool) (otherwise : Bool) (found : Option Header)
    → option_map_or (λ h. test h.value) found otherwise ≡ option_map_or test (option_map (λ h. h.value) found) otherwise
by_value test otherwise None = refl
by_value test otherwise (Some h) = refl

-- a text that begins with a prefix is that prefix and a rest exactly if what follows is that rest
pub prefixed : (prefix text rest : List ℕ) → pointwise nat_eq (take (length prefix) text) prefix ≡ true
    → bytes_eq (drop (length prefix) text) rest ≡ bytes_eq text (prefix ++ rest)
prefixed [] text rest h = refl
prefixed (p ∷ prefix) [] rest h = absurd (false≢true h)
prefixed (p ∷ prefix) (t ∷ text) rest h =
    let parts = and_parts (nat_eq t p) (pointwise nat_eq (take (length prefix) text) prefix) h in
    prefixed prefix text rest parts.1 ∙ ap (λ v. v && bytes_eq text (prefix ++ rest)) (sym parts.0)

-- another text is not
pub not_prefixed : (prefix text rest : List ℕ) → pointwise nat_eq (take (length prefix) text) prefix ≡ false → false ≡ bytes_eq text (prefix ++ rest)
not_prefixed [] text rest h = absurd (false≢true (sym h))
not_prefixed (p ∷ prefix) [] rest h = refl
not_prefixed (p ∷ prefix) (t ∷ text) rest h = elim (cases_Bool (nat_eq t p)) [
  | inl e ↦ not_prefixed prefix text rest (sym (ap (λ v. v && pointwise nat_eq (take (length prefix) text) prefix) e) ∙ h) ∙ ap (λ v. v && bytes_eq text (prefix ++ rest)) (sym e)
  | inr e ↦ ap (λ v. v && bytes_eq text (prefix ++ rest)) (sym e)
]

-- UTF-8 by whether a call succeeds
pub utf8_told : {T E : Type 0} (P : T → Type 0) (Q : E → Type 0) (result : Result T E) (bytes : List ℕ)
    → MatchResult result (λ x. P x × IsUtf8 bytes) (λ e. (IsUtf8 bytes → ⊥) × Q e) → is_ok result ≡ is_utf8 bytes
utf8_told P Q (Ok x) bytes cases = sym (is_utf8-from_IsUtf8 bytes cases.1)
utf8_told P Q (Err e) bytes cases = sym (false_from_ne_true (is_utf8 bytes) (λ same. cases.0 (IsUtf8-from_is_utf8 bytes same)))

-- where the values are UTF-8, so is that of the first `Content-Type`
pub text_found : (headers : List Header) (value : List ℕ) → list_all (λ h. is_utf8 h.value) headers ≡ true
    → option_map (λ h. h.value) (type_header headers) ≡ Some value → is_utf8 value ≡ true
text_found [] value all found = let none : ◌≡◌ {A = Option (List ℕ)} None (Some value) = found in absurd (cc)
text_found (h ∷ headers) value all found =
    let each = and_parts (is_utf8 h.value) (list_all (λ h. is_utf8 h.value) headers) all in
    cond_both (has_type_key h) (Some h) (type_header headers) (λ o. option_map (λ (h : Header). h.value) o ≡ Some value → is_utf8 value ≡ true)
    (λ e found. subst (λ v. is_utf8 v ≡ true) (same_Some h.value value found) each.0) (λ e found. text_found headers value each.1 found) found

-- the mimetype of a type that was read
pub mimetype_read : (a b : ContentType) → ◌≡◌ {A = Result ContentType Refusal} (Ok a) (Ok b) → a.mimetype ≡ b.mimetype
mimetype_read a b e = let same : a ≡ b = cc in ap (λ c. c.mimetype) same

-- ---- the conditions left to check

pub ok_bool : (a b : Bool) → ◌≡◌ {A = Result Bool Refusal} (Ok a) (Ok b) → a ≡ b
ok_bool a b e = cc

-- the keys and the values are those of a well-formed outline
abbrev pub good_headers : List Header → Bool
good_headers headers = list_all (λ h. is_key h.key) headers && list_all (λ h. is_utf8 h.value) headers

-- the boundary is, and is named
abbrev pub good_boundary : List Header → List ℕ → Bool
good_boundary headers boundary =
    option_map_or (λ h. bytes_eq h.value (boundary_type boundary)) (type_header headers) false && (list_all is_ascii_alphanumeric boundary && not (is_empty boundary))

-- so are the parts, and none contains a delimiter
abbrev pub good_parts : List ℕ → List OutlineTree → Bool
good_parts boundary parts = contain_no_delimiter boundary (forest_of parts) && are_well_formed_within (forest_of parts)

-- an outline with parts is well formed if its headers, its boundary and its parts are, and there is a part
branch_well : (headers : List Header) (boundary : List ℕ) (parts : List OutlineTree) → is_well_formed_within (branch headers boundary (forest_of parts))
    ≡ good_headers headers && (good_boundary headers boundary && (has_some_part (branch headers boundary (forest_of parts)) && good_parts boundary parts))
branch_well headers boundary parts =
    let t = branch headers boundary (forest_of parts) in
    by_tests (has_keys t) (has_texts t) (names_its_boundary t) (has_plain_boundary t) (has_some_part t) (contain_no_delimiter boundary (forest_of parts))
    (are_well_formed_within (forest_of parts))
  where
    by_tests : (a b n p s c w : Bool) → (a && (b && (n && (p && (true && (s && c)))))) && w ≡ (a && b) && ((n && p) && (s && (c && w)))
    by_tests true true true true true c w = refl
    by_tests true true true true false c w = refl
    by_tests true true true false s c w = refl
    by_tests true true false p s c w = refl
    by_tests true false n p s c w = refl
    by_tests false b n p s c w = refl

-- where its headers are, by whether its boundary is
pub branch_by : (headers : List Header) (boundary : List ℕ) (parts : List OutlineTree) (v : Bool) → good_headers headers ≡ true → good_boundary headers boundary ≡ v
    → is_well_formed_within (branch headers boundary (forest_of parts)) ≡ v && (has_some_part (branch headers boundary (forest_of parts)) && good_parts boundary parts)
branch_by headers boundary parts v plain good =
    let rest = has_some_part (branch headers boundary (forest_of parts)) && good_parts boundary parts in
    branch_well headers boundary parts ∙ ap (λ g. g && (good_boundary headers boundary && rest)) plain ∙ ap (λ g. g && rest) good

-- there is a part, or none
pub some_part : (headers : List Header) (boundary : List ℕ) (parts : List OutlineTree) (v : Bool) → nat_eq (length parts) 0 ≡ v
    → has_some_part (branch headers boundary (forest_of parts)) ≡ not v
some_part headers boundary [] v e = ap not e
some_part headers boundary (part ∷ parts) v e =
    ap not (sym (ne_eqb (length (part ∷ parts)) 0 (λ (z : length (part ∷ parts) ≡ 0). absurd (omega arith))) ∙ e)

-- a part, and then the others
pub part_and_others : (boundary : List ℕ) (part : OutlineTree) (parts : List OutlineTree) (v : Bool) → not (contains_delimiter boundary (rendered part)) ≡ true
    → is_well_formed_within part ≡ v → good_parts boundary (part ∷ parts) ≡ v && good_parts boundary parts
part_and_others boundary part parts v clear e =
    ap (λ c. (c && contain_no_delimiter boundary (forest_of parts)) && are_well_formed_within (forest_of (part ∷ parts))) clear
    ∙ ap (λ w. contain_no_delimiter boundary (forest_of parts) && (w && are_well_formed_within (forest_of parts))) e
    ∙ by_tests (contain_no_delimiter boundary (forest_of parts)) v
  where
    by_tests : (c v : Bool) → c && (v && are_well_formed_within (forest_of parts)) ≡ v && (c && are_well_formed_within (forest_of parts))
    by_tests true v = refl
    by_tests false true = refl
    by_tests false false = refl

-- ---- the levels

-- parts are at most `levels` levels below their outline
abbrev pub parts_within : List OutlineTree → ℕ → Bool
parts_within parts levels = nat_le (depth_of_parts (forest_of parts)) levels

-- below the last level there is no part
pub none_within : (parts : List OutlineTree) → parts_within parts 0 ≡ nat_eq (length parts) 0
none_within [] = refl
none_within (part ∷ parts) =
    lt-leb (max (suc (depth part)) (depth_of_parts (forest_of parts))) 0 (omega arith)
    ∙ sym (ne_eqb (length (part ∷ parts)) 0 (λ (e : length (part ∷ parts) ≡ 0). absurd (omega arith)))
