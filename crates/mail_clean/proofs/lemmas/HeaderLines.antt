-- No line that looks like a delimiter is among the headers of a message whose header block is of the grammar.
use Rattle.std.proofs.Common.{◌≡◌, ◌∙◌, ◌⊎◌, ℕ, suc, Bool, true, false, not, List, [], ◌∷◌, ◌++◌, drop, refl, sym, ap, subst, inl}
use Rattle.std.proofs.Common.{inr, append_assoc}
use Rattle.std.specs.Prelude.{◌||◌, ◌==◌, nat_lt, codes}
use Rattle.std.specs.List.{list_all}
use Rattle.std.proofs.lemmas.Bool.{eqb-true}
use Rattle.std.proofs.lemmas.Bool.{and_left, and_parts, and_right, cases_Bool, not-true}
use Rattle.mail_codec.specs.Ascii.{colon, is_blank, line_feed}
use Rattle.mail_codec.specs.Places.{begins, first_place, has_prefix}
use Rattle.mail_codec.proofs.lemmas.Places.{first_place-here, first_place-past}
use Rattle.mailparse.specs.Block.{blank_line, ends_header_lines, header_lines_end, headers_end, is_dash_line}
use Rattle.mailparse.specs.Header.{has_colon, key_end, ends_key}
use Rattle.mail_grammar.specs.Headers.{is_name_byte, IsValue, value_ends, value_byte, value_folds, IsHeader}
use Rattle.mail_grammar.specs.Headers.{IsBlock, last_header, next_header}
use Rattle.mail_check_laws.proofs.lemmas.Headers.{name_parts}
use Rattle.mail_check_laws.proofs.lemmas.Headers.{no_feed}
use Rattle.mail_grammar.proofs.lemmas.Boundaries.{all_head, all_tail}

-- the line after the headers looks like no delimiter
abbrev Undashed : List ℕ → Type 0
Undashed bytes = is_dash_line (drop (header_lines_end bytes) bytes) ≡ false

-- the headers do not end before such a line after the first byte
step : (b : ℕ) (rest : List ℕ) → ((b == line_feed) ≡ true → is_dash_line rest ≡ false) → Undashed rest → Undashed (b ∷ rest)
unfolding header_lines_end
step b rest f more = elim (cases_Bool (ends_header_lines (b ∷ rest))) [
  | inl e ↦
      ap (λ (n : ℕ). is_dash_line (drop (suc n) (b ∷ rest))) (first_place-here ends_header_lines (b ∷ rest) e)
      ∙ f (and_parts (b == line_feed) (headers_end rest || is_dash_line rest) e).0
  | inr e ↦ ap (λ (n : ℕ). is_dash_line (drop (suc n) (b ∷ rest))) (first_place-past ends_header_lines b rest e) ∙ more
]

other : (b : ℕ) (rest : List ℕ) → (b == line_feed) ≡ false → Undashed rest → Undashed (b ∷ rest)
other b rest e more = step b rest (λ f. absurd (cc)) more

-- the blank line comes first
ended : (rest : List ℕ) → headers_end rest ≡ true → is_dash_line rest ≡ false → Undashed (line_feed ∷ rest)
unfolding header_lines_end
ended rest ends none =
    ap (λ (n : ℕ). is_dash_line (drop (suc n) (line_feed ∷ rest)))
    (first_place-here ends_header_lines (line_feed ∷ rest) (ap (λ (t : Bool). t || is_dash_line rest) ends)) ∙ none

-- what may follow a header
record Follows (rest : List ℕ) : Type 0 where
  look : is_dash_line rest ≡ false
  more : (headers_end rest ≡ true) ⊎ (Undashed rest)

after_feed : (rest : List ℕ) → Follows rest → Undashed (line_feed ∷ rest)
after_feed rest follows = elim follows.more [
  | inl e ↦ ended rest e follows.look
  | inr more ↦ step line_feed rest (λ e. follows.look) more
]

-- a line that begins with a blank
blank_look : (more rest : List ℕ) → begins is_blank more ≡ true → is_dash_line (more ++ rest) ≡ false
unfolding is_dash_line
blank_look [] rest h = absurd (cc)
blank_look (b ∷ more) rest h = and_left (has_prefix (codes "--") (b ∷ (more ++ rest))) _ (elim (cases_Bool (45 == b)) [
  | inr e ↦ and_left (45 == b) (has_prefix (codes "-") (more ++ rest)) e
  | inl e ↦ let no : is_blank 45 ≡ true = subst (λ (x : ℕ). is_blank x ≡ true) (sym (eqb-true 45 b e)) h in absurd (cc)
])

value_undashed : (value rest : List ℕ) → IsValue value → Follows rest → Undashed (value ++ rest)
value_undashed value rest value_ends follows = after_feed rest follows
value_undashed value rest (value_byte {b = b} {rest = more} is left) follows =
    other b (more ++ rest) (not-true (b == line_feed) (and_parts (nat_lt b 128) (not (b == line_feed)) is).1)
    (value_undashed more rest left follows)
value_undashed value rest (value_folds {rest = more} blank text left made) follows =
    subst (λ (xs : List ℕ). Undashed (xs ++ rest)) (sym made)
    (step line_feed (more ++ rest) (λ e. blank_look more rest blank) (value_undashed more rest left follows))

name_undashed : (name rest : List ℕ) → list_all is_name_byte name ≡ true → Undashed rest → Undashed (name ++ rest)
name_undashed [] rest all more = more
name_undashed (b ∷ name) rest all more =
    other b (name ++ rest) (no_feed b (name_parts b (all_head is_name_byte b name all)).0)
    (name_undashed name rest (all_tail is_name_byte b name all) more)

-- a line with a colon
key_there : (name rest : List ℕ) → list_all is_name_byte name ≡ true
    → begins (λ b. b == colon) (drop (first_place (begins ends_key) (name ++ colon ∷ rest)) (name ++ colon ∷ rest)) ≡ true
key_there [] rest all = refl
key_there (b ∷ name) rest all =
    let parts = name_parts b (all_head is_name_byte b name all) in
    let feed = no_feed b parts.0 in
    let neither : ends_key b ≡ false = rw (feed, parts.2) refl in
    ap (λ (n : ℕ). begins (λ b. b == colon) (drop n (b ∷ (name ++ colon ∷ rest))))
    (first_place-past (begins ends_key) b (name ++ colon ∷ rest) neither)
    ∙ key_there name rest (all_tail is_name_byte b name all)

colon_look : (name rest : List ℕ) → list_all is_name_byte name ≡ true → is_dash_line (name ++ colon ∷ rest) ≡ false
unfolding is_dash_line has_colon key_end
colon_look name rest all = and_right (has_prefix (codes "--") (name ++ colon ∷ rest)) _ (ap not (key_there name rest all))

header_undashed : (header rest : List ℕ) → IsHeader header → Follows rest → Undashed (header ++ rest)
header_undashed header rest is follows =
    let name : List ℕ = is.first ∷ is.others in
    subst Undashed (sym (ap (λ (xs : List ℕ). xs ++ rest) is.made ∙ append_assoc name (colon ∷ is.value) rest))
    (name_undashed name (colon ∷ (is.value ++ rest)) is.is_name
    (other colon (is.value ++ rest) refl (value_undashed is.value rest is.is_value follows)))

header_follows : (header rest : List ℕ) → IsHeader header → Follows rest → Follows (header ++ rest)
header_follows header rest is follows =
    let name : List ℕ = is.first ∷ is.others in
    record {
      look =
          subst (λ (xs : List ℕ). is_dash_line xs ≡ false)
          (sym (ap (λ (xs : List ℕ). xs ++ rest) is.made ∙ append_assoc name (colon ∷ is.value) rest))
          (colon_look name (is.value ++ rest) is.is_name);
      more = inr (header_undashed header rest is follows);
    }

line_follows : (line body : List ℕ) → (line ≡ codes "\n") ⊎ (line ≡ codes "\r\n") → Follows (line ++ body)
unfolding is_dash_line headers_end blank_line
line_follows line body (inl e) = subst (λ (xs : List ℕ). Follows (xs ++ body)) (sym e) (record { look = refl; more = inl refl })
line_follows line body (inr e) = subst (λ (xs : List ℕ). Follows (xs ++ body)) (sym e) (record { look = refl; more = inl refl })

block_follows : (part body : List ℕ) → IsBlock part → Follows (part ++ body)
block_follows part body (last_header {header = header} {line = line} is ends made) =
    subst Follows (sym (ap (λ (xs : List ℕ). xs ++ body) made ∙ append_assoc header line body))
    (header_follows header (line ++ body) is (line_follows line body ends))
block_follows part body (next_header {header = header} {rest = rest} is more made) =
    subst Follows (sym (ap (λ (xs : List ℕ). xs ++ body) made ∙ append_assoc header rest body))
    (header_follows header (rest ++ body) is (block_follows rest body more))

-- the bytes of a message that begins with such a block
pub block_undashed : (part body : List ℕ) → IsBlock part → Undashed (part ++ body)
block_undashed part body (last_header {header = header} {line = line} is ends made) =
    subst Undashed (sym (ap (λ (xs : List ℕ). xs ++ body) made ∙ append_assoc header line body))
    (header_undashed header (line ++ body) is (line_follows line body ends))
block_undashed part body (next_header {header = header} {rest = rest} is more made) =
    subst Undashed (sym (ap (λ (xs : List ℕ). xs ++ body) made ∙ append_assoc header rest body))
    (header_undashed header (rest ++ body) is (block_follows rest body more))
