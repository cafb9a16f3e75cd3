-- A grammar of whole strict mails on their bytes: messages, headers, bodies and parts, and the tree that these make (RFC 5322,
-- section 2.1; RFC 2046, section 5.1). It says nothing of how headers are searched and multiparts cut.
use Rattle.std.specs.Prelude.{◌≡◌, ℕ, Bool, true, false, ◌==◌, List, [], ◌∷◌, ◌++◌, Some, codes}
use Rattle.std.specs.List.{list_all}
use Rattle.mail_codec.specs.Ascii.{carriage_return, line_feed, space}
use Rattle.mail_codec.specs.Charset.{Charsets}
use Rattle.mail_codec.specs.Places.{begins, has_prefix}
use Rattle.mailparse.specs.Header.{Header, is_line_end}
use Rattle.mailparse.specs.Mail.{Node, Tree, tree, Forest, no_parts, part_and, is_digest, node_type}
use Rattle.mail_grammar.specs.Delimiters.{HasNoDash, IsClosed}
use Rattle.mail_grammar.specs.Fields.{IsBoundary}
use Rattle.mail_grammar.specs.Headers.{IsHeader}
use Rattle.mail_grammar.specs.LineEnds.{IsLineEnd}
use Rattle.mail_check_laws.specs.Mail.{IsStrict}

-- The last byte, if there is one, fails a test. The cases:
pub data EndsInOther (test : ℕ → Bool) : List ℕ → Type 0 where
  -- no bytes
  no_last : EndsInOther test []
  -- the last byte
  last_other : {b : ℕ} → test b ≡ false → EndsInOther test (b ∷ [])
  -- a byte before others
  before_others : {b c : ℕ} {rest : List ℕ} → EndsInOther test (c ∷ rest) → EndsInOther test (b ∷ (c ∷ rest))

-- ---- headers

-- a header: its key is the name, and its value is between the spaces after the colon and the bytes of line ends at its end
pub record IsHeaderOf (header : Header) (bytes : List ℕ) : Type 0 where
  pub is : IsHeader bytes
  pub spaces : List ℕ
  pub ends : List ℕ
  pub key : header.key ≡ is.first ∷ is.others
  pub value : is.value ≡ spaces ++ (header.value ++ (ends ++ line_feed ∷ []))
  pub all_spaces : list_all (λ b. b == space) spaces ≡ true
  pub all_ends : list_all is_line_end ends ≡ true
  pub no_space : begins (λ b. b == space) header.value ≡ false
  pub no_end : EndsInOther is_line_end header.value

-- One header or more, and the empty line. The cases:
pub data AreHeaders : List Header → List ℕ → Type 0 where
  -- the last header
  last_of_all : {header : Header} {part line bytes : List ℕ} → IsHeaderOf header part → IsLineEnd line → bytes ≡ part ++ line
      → AreHeaders (header ∷ []) bytes
  -- a header before others
  before_more : {header : Header} {headers : List Header} {part rest bytes : List ℕ} → IsHeaderOf header part
      → AreHeaders headers rest → bytes ≡ part ++ rest → AreHeaders (header ∷ headers) bytes

-- ---- multiparts

-- A preamble or part, and the line end between it and the delimiter after it. The cases:
pub data IsBreak (part line : List ℕ) : Type 0 where
  -- no bytes and no line end
  no_break : part ≡ [] → line ≡ [] → IsBreak part line
  -- a LF, which no CR precedes
  feed_break : EndsInOther (λ b. b == carriage_return) part → line ≡ codes "\n" → IsBreak part line
  -- a CR and a LF
  return_break : line ≡ codes "\r\n" → IsBreak part line

-- a preamble or part, a line end, and what follows, which begins with a delimiter; no dash-boundary occurs in the former
pub record IsPiece (dash part after bytes : List ℕ) : Type 0 where
  pub line : List ℕ
  pub no_dash : HasNoDash dash part
  pub break : IsBreak part line
  pub made : bytes ≡ part ++ (line ++ after)

-- Parts with delimiters between them, and a close-delimiter. The cases:
pub data HasPieces (dash : List ℕ) : List (List ℕ) → List ℕ → Type 0 where
  -- the last part, the close-delimiter and what follows
  last_piece : {part after bytes : List ℕ} → IsPiece dash part after bytes → IsClosed dash after
      → HasPieces dash (part ∷ []) bytes
  -- a part and its delimiter: a line that is the dash-boundary
  next_piece : {part line rest bytes : List ℕ} {parts : List (List ℕ)} → IsPiece dash part (dash ++ (line ++ rest)) bytes
      → IsLineEnd line → HasPieces dash parts rest → HasPieces dash (part ∷ parts) bytes

-- the text of a multipart with this dash-boundary: a preamble, a delimiter, and the parts as above
pub record IsSplitInto (dash preamble : List ℕ) (parts : List (List ℕ)) (bytes : List ℕ) : Type 0 where
  pub line : List ℕ
  pub rest : List ℕ
  pub opening : IsPiece dash preamble (dash ++ (line ++ rest)) bytes
  pub ends : IsLineEnd line
  pub pieces : HasPieces dash parts rest

-- ---- messages

-- Under the charsets that are known.
module _ (known : Charsets) where
  -- the message with this block, these headers and this body; its type is the one that the headers name
  abbrev pub message_of : Bool → List ℕ → List ℕ → List Header → List ℕ → Node
  message_of in_digest bytes block headers body = record {
    bytes = bytes;
    block = block;
    headers = headers;
    ctype = node_type known in_digest headers;
    body = body;
  }

mutual
  -- A message, as this tree; it is given whether it is a part of a digest. The cases:
  pub data IsMessage (known : Charsets) : Bool → List ℕ → Tree → Type 0 where
    -- a header block and a body
    single : {in_digest : Bool} {block body bytes : List ℕ} {headers : List Header} {t : Tree} → AreHeaders headers block
        → has_prefix (codes "multipart") (node_type known in_digest headers).mimetype ≡ false → bytes ≡ block ++ body
        → t ≡ tree (message_of known in_digest bytes block headers body) no_parts → IsMessage known in_digest bytes t
    -- the header block of a multipart, and a text with its boundary
    multipart : {in_digest : Bool} {block text boundary preamble bytes : List ℕ} {headers : List Header} {pieces : List (List ℕ)}
        {parts : Forest} {t : Tree} → AreHeaders headers block
        → has_prefix (codes "multipart/") (node_type known in_digest headers).mimetype ≡ true
        → (node_type known in_digest headers).params (codes "boundary") ≡ Some boundary → IsBoundary 70 boundary
        → IsSplitInto (codes "--" ++ boundary) preamble pieces text
        → AreMessages known (is_digest (node_type known in_digest headers)) pieces parts → bytes ≡ block ++ text
        → t ≡ tree (message_of known in_digest bytes block headers preamble) parts → IsMessage known in_digest bytes t

  -- Messages, each with its own bytes. The cases:
  pub data AreMessages (known : Charsets) : Bool → List (List ℕ) → Forest → Type 0 where
    -- no more messages
    no_messages : {in_digest : Bool} → AreMessages known in_digest [] no_parts
    -- one before others
    message_and : {in_digest : Bool} {piece : List ℕ} {pieces : List (List ℕ)} {t : Tree} {parts : Forest}
        → IsMessage known in_digest piece t → AreMessages known in_digest pieces parts
        → AreMessages known in_digest (piece ∷ pieces) (part_and t parts)

-- a mail: a message whose tree is that of a strict mail
pub record IsMail (known : Charsets) (bytes : List ℕ) (t : Tree) : Type 0 where
  pub message : IsMessage known false bytes t
  pub strict : IsStrict known bytes t
