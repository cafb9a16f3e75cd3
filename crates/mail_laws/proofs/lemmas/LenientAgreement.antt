-- Mails that need no lenient reading are read leniently as the port reads them.
use Rattle.std.proofs.Common.{◌≡◌, ℕ, Bool, true, not, ◌&&◌, List, [], ◌∷◌, length, drop, map, Option, Some, None, Ok, refl, ap, ◌∙◌}
use Rattle.std.specs.List.{list_all}
use Rattle.std.specs.Option.{option_map_or}
use Rattle.std.specs.Str.{bytes_eq}
use Rattle.std.specs.Prelude.{codes}
use Rattle.std.proofs.lemmas.Bool.{and_parts, cond-false, not-true}
use Rattle.std.proofs.lemmas.Slice.Eq.{bytes_eq-Decides}
use Rattle.mail_codec.specs.Charset.{Charsets}
use Rattle.mailparse.specs.Block.{bare_header, bare_key, before_dash_line, header_lines_end, is_dash_line}
use Rattle.mailparse.specs.ContentType.{content_type_in}
use Rattle.mailparse.specs.Delimiters.{Cut}
use Rattle.mailparse.specs.Header.{Header}
use Rattle.mailparse.specs.Mail.{Node, Tree, tree, Forest, no_parts, part_and, node_type, part_type, read_mail_as, read_mail_in, cut_of, cut_of_as}
use Rattle.mailparse.specs.Map.{first_with_key}
use Rattle.mailparse.specs.Ranges.{Range}
use Rattle.mailparse.specs.Value.{lenient_value_in}
use Rattle.mail_read.specs.lenient.Agreement.{is_strict_value}
use Rattle.mail_read.specs.lenient.Manner.{lenient, lenient_type_from, lenient_type_of}
use Rattle.mail_read.proofs.lemmas.lenient.Agreement.{values-agree}
use Rattle.mail_laws.specs.LenientAgreement.{offsets, is_same_cut, has_whole_delimiters, has_no_dash_line, has_bare_keys, has_strict_headers, has_strict_type, is_strict_message, is_strict_mail, are_strict}
use Rattle.mail_laws.specs.Manners.{IsReadAlike, AreReadAlike, AllReadAlike}
use Rattle.mail_laws.proofs.lemmas.Manners.{mails-agree}

-- ranges with the same offsets are the same
offsets-same : (xs ys : List Range) → offsets xs ≡ offsets ys → xs ≡ ys
offsets-same [] [] same = refl
offsets-same [] (y ∷ ys) same = absurd (cc)
offsets-same (x ∷ xs) [] same = absurd (cc)
offsets-same (x ∷ xs) (y ∷ ys) same =
    let start : x.start ≡ y.start = cc in
    let end : x.end ≡ y.end = cc in
    let rest : offsets xs ≡ offsets ys = cc in
    let more = offsets-same xs ys rest in
    λ i. record { start = start i; end = end i } ∷ more i

cuts-same : (one other : Cut) → is_same_cut one other ≡ true → one ≡ other
cuts-same one other same =
    let all = offsets-same (one.body ∷ one.parts) (other.body ∷ other.parts) ((bytes_eq-Decides (offsets (one.body ∷ one.parts)) (offsets (other.body ∷ other.parts))).0 same) in
    let body : one.body ≡ other.body = cc in
    let parts : one.parts ≡ other.parts = cc in
    λ i. record { body = body i; parts = parts i }

-- headers without a line that looks like a delimiter
undashed : (bytes : List ℕ) → not (is_dash_line (drop (header_lines_end bytes) bytes)) ≡ true → before_dash_line bytes ≡ bytes
unfolding before_dash_line
undashed bytes none = cond-false _ _ _ (not-true _ none)

-- headers whose keys end in no blank
keys-same : (headers : List Header) → has_bare_keys headers ≡ true → map bare_header headers ≡ headers
keys-same [] bare = refl
keys-same (h ∷ hs) bare =
    let both = and_parts (bytes_eq (bare_key h.key) h.key) (has_bare_keys hs) bare in
    ap (λ (key : List ℕ). let one : Header = record { key = key; value = h.value } in one ∷ map bare_header hs)
    ((bytes_eq-Decides (bare_key h.key) h.key).0 both.0)
    ∙ ap (λ (rest : List Header). h ∷ rest) (keys-same hs both.1)

module _ (known : Charsets) where
  types-same : (in_digest : Bool) (headers : List Header) → has_strict_type known headers ≡ true
      → lenient_type_of known in_digest headers ≡ node_type known in_digest headers
  unfolding lenient_type_of node_type
  types-same in_digest headers strict = by_header (first_with_key (codes "Content-Type") headers) strict
    where
      by_header : (found : Option Header) → option_map_or (λ h. is_strict_value known h.value) found true ≡ true
          → option_map_or (λ h. lenient_type_from known h.value) found (part_type in_digest)
          ≡ option_map_or (λ h. content_type_in known (lenient_value_in known h.value)) found (part_type in_digest)
      by_header None strict = refl
      by_header (Some h) strict = values-agree known h.value strict

  message-alike : (node : Node) → is_strict_message known node ≡ true → IsReadAlike (lenient known) known node
  message-alike node strict =
      let parts = and_parts (has_strict_type known node.headers) (has_whole_delimiters node && has_strict_headers node) strict in
      let others = and_parts (has_whole_delimiters node) (has_strict_headers node) parts.1 in
      let headers = and_parts (has_bare_keys node.headers) (has_no_dash_line node) others.1 in
      record {
        headers = undashed node.bytes headers.1;
        keys = keys-same node.headers headers.0;
        type = λ in_digest. types-same in_digest node.headers parts.0;
        cut = cuts-same (cut_of_as true node.ctype node.bytes (length node.block)) (cut_of node.ctype node.bytes (length node.block)) others.0;
      }

  mutual
    mail-alike : (t : Tree) → is_strict_mail known t ≡ true → AreReadAlike (lenient known) known t
    mail-alike (tree node parts) strict =
        let both = and_parts (is_strict_message known node) (are_strict known parts) strict in
        (message-alike node both.0, all-alike parts both.1)

    all-alike : (ts : Forest) → are_strict known ts ≡ true → AllReadAlike (lenient known) known ts
    all-alike no_parts strict = tt
    all-alike (part_and t ts) strict =
        let both = and_parts (is_strict_mail known t) (are_strict known ts) strict in
        (mail-alike t both.0, all-alike ts both.1)

  pub strict-mails-agree : (greatest : ℕ) (mail : List ℕ) (parsed : Tree) → read_mail_in known greatest mail ≡ Ok parsed
      → is_strict_mail known parsed ≡ true → read_mail_as (lenient known) greatest mail ≡ Ok parsed
  strict-mails-agree greatest mail parsed read strict = mails-agree (lenient known) known greatest mail parsed read (mail-alike parsed strict)
