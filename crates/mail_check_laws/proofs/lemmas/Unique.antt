-- A header block of the grammar of strict messages is read as it is, so there is only one at the front of a message.
use Rattle.std.proofs.Common.{◌≡◌, ◌∙◌, ◌+◌, ℕ, List, [], ◌∷◌, false, ◌++◌, length, drop, take, Result, Ok, refl, sym, ap, subst, inl, inr, append_assoc, length-append}
use Rattle.std.specs.Prelude.{◌⊎◌, IsOkAnd, codes}
use Rattle.mail_codec.specs.Ascii.{is_blank}
use Rattle.mail_codec.specs.Places.{begins}
use Rattle.mailparse.specs.Block.{HeaderList, blank_line, headers_end, read_headers}
use Rattle.mailparse.specs.Header.{Header, header_length, header_of}
use Rattle.mailparse.specs.Refusal.{Refusal}
use Rattle.mailparse.proofs.lemmas.Block.{end_at, read_headers-more, read_headers-none, with_front}
use Rattle.mail_grammar.specs.Headers.{IsHeader, IsBlock, last_header, next_header}
use Rattle.mail_check_laws.proofs.lemmas.Blocks.{block_start, header_size, index_in, line_start, no_header, starts}
use Rattle.mail_check_laws.proofs.lemmas.Headers.{front, past_name}

-- the headers of a block with these bytes and no others were read
pub record IsWhole (part body : List ℕ) : Type 0 where
  pub headers : List Header
  pub read : read_headers (part ++ body) ≡ Ok (record { headers = headers; index = length part })

line_ends_block : (line body : List ℕ) → (line ≡ codes "\n") ⊎ (line ≡ codes "\r\n") → end_at [] 0 (line ++ body) ≡ Ok (record { headers = []; index = length line })
unfolding headers_end blank_line
line_ends_block line body (inl e) = subst (λ (xs : List ℕ). end_at [] 0 (xs ++ body) ≡ Ok (record { headers = []; index = length xs })) (sym e) refl
line_ends_block line body (inr e) = subst (λ (xs : List ℕ). end_at [] 0 (xs ++ body) ≡ Ok (record { headers = []; index = length xs })) (sym e) refl

-- a header before others
whole_more : (header rest part body : List ℕ) → IsHeader header → begins is_blank (rest ++ body) ≡ false → part ≡ header ++ rest → IsWhole rest body → IsWhole part body
whole_more header rest part body is after made more =
    let whole : part ++ body ≡ header ++ (rest ++ body) = ap (λ (xs : List ℕ). xs ++ body) made ∙ append_assoc header rest body in
    let raw = header ++ (rest ++ body) in
    let size = header_size header (rest ++ body) is after in
    let left : drop (header_length raw) raw ≡ rest ++ body = ap (λ (n : ℕ). drop n raw) size ∙ past_name header (rest ++ body) in
    let total : header_length raw + length rest ≡ length part = ap (λ (n : ℕ). n + length rest) size ∙ sym (length-append header rest) ∙ sym (ap length made) in
    record {
      headers = header_of raw ∷ more.headers;
      read =
          ap read_headers whole
          ∙ read_headers-more raw (starts header (rest ++ body) is after)
          ∙ ap (λ (xs : List ℕ). with_front (header_of raw ∷ []) (header_length raw) (read_headers xs)) left
          ∙ ap (with_front (header_of raw ∷ []) (header_length raw)) more.read
          ∙ ap (λ (n : ℕ). Ok (record { headers = header_of raw ∷ more.headers; index = n })) total;
    }

pub block_is_whole : (part : List ℕ) → IsBlock part → (body : List ℕ) → IsWhole part body
block_is_whole part (last_header {header = header} {line = line} is empty made) body =
    whole_more header line part body is (line_start line body empty).0 made
    (record { headers = []; read = read_headers-none (line ++ body) (no_header line body empty) ∙ line_ends_block line body empty })
block_is_whole part (next_header {header = header} {rest = rest} is more made) body =
    whole_more header rest part body is (block_start rest body more).0 made (block_is_whole rest more body)

pub one_block : (block body other rest : List ℕ) → IsBlock block → IsBlock other → block ++ body ≡ other ++ rest → block ≡ other
one_block block body other rest is also same =
    let first = block_is_whole block is body in
    let second = block_is_whole other also rest in
    let size : length block ≡ length other = ap index_in (sym first.read ∙ ap read_headers same ∙ second.read) in
    sym (front block body) ∙ ap (λ (n : ℕ). take n (block ++ body)) size ∙ ap (take (length other)) same ∙ front other rest

-- so it is not refused, and its index is that of the block
pub block_is_read : (block body : List ℕ) → IsBlock block → IsOkAnd (read_headers (block ++ body)) (λ found. found.index ≡ length block)
block_is_read block body is =
    let whole = block_is_whole block is body in
    subst (λ (r : Result HeaderList Refusal). IsOkAnd r (λ found. found.index ≡ length block)) (sym whole.read) refl

-- that it is read, and the only one
pub ruleset block_readings = (block_is_read, one_block)
