-- Strict mails: those that have no findings but notes.
use Rattle.std.specs.Prelude.{ℕ, List}
use Rattle.std.specs.List.{AllByRecursion}
use Rattle.mail_codec.specs.Charset.{Charsets}
use Rattle.mailparse.specs.Mail.{Tree, nodes, root, trees_within}
use Rattle.mail_grammar.specs.Bodies.{HasStrictBody}
use Rattle.mail_grammar.specs.Delimiters.{HasStrictParts}
use Rattle.mail_grammar.specs.Fields.{HasStrictFields}
use Rattle.mail_grammar.specs.FileNames.{HasStrictFileName}
use Rattle.mail_grammar.specs.Headers.{IsBlock}
use Rattle.mail_grammar.specs.Levels.{IsSmall}
use Rattle.mail_grammar.specs.LineEnds.{IsText}
use Rattle.mail_grammar.specs.PlainParameters.{HasPlainValue}
use Rattle.mail_check_laws.specs.Texts.{HasStrictText}
use Rattle.mail_check_laws.specs.Worded.{HasSenderValue, HasWordedValue}

-- the header block of each message of a mail is one of the grammar
abbrev pub HasStrictBlocks : Tree → Type 0
HasStrictBlocks mail = AllByRecursion (λ node. IsBlock node.block) (nodes mail)

-- so are its headers, by their names and values, and its type
abbrev pub AreStrictFields : Tree → Type 0
AreStrictFields mail = AllByRecursion HasStrictFields (nodes mail)

-- so is the value of each of them that is a type or a disposition, and it is plain
abbrev pub AreStrictParameters : Tree → Type 0
AreStrictParameters mail = AllByRecursion (λ node. AllByRecursion HasPlainValue node.headers) (nodes mail)

-- so are the names of the file of each message
abbrev pub AreStrictFileNames : Tree → Type 0
AreStrictFileNames mail = AllByRecursion HasStrictFileName (nodes mail)

-- so is the value of each sender of the mail itself
abbrev pub AreStrictSenders : Tree → Type 0
AreStrictSenders mail = AllByRecursion HasSenderValue (root mail).headers

-- so are the words of the subjects and senders of each message, under the charsets that are known
abbrev pub AreStrictWords : Charsets → Tree → Type 0
AreStrictWords known mail = AllByRecursion (λ node. AllByRecursion (HasWordedValue known) node.headers) (nodes mail)

-- so is the text of each multipart
abbrev pub AreStrictParts : Tree → Type 0
AreStrictParts mail = AllByRecursion HasStrictParts (trees_within mail)

-- so is each body
abbrev pub AreStrictBodies : Tree → Type 0
AreStrictBodies mail = AllByRecursion HasStrictBody (trees_within mail)

-- so is each text, under the charsets that are known
abbrev pub AreStrictTexts : Charsets → Tree → Type 0
AreStrictTexts known mail = AllByRecursion (HasStrictText known) (trees_within mail)

-- and so are the lines of the bytes of the mail
pub record HasStrictMessages (known : Charsets) (bytes : List ℕ) (mail : Tree) : Type 0 where
  pub lines : IsText bytes
  pub blocks : HasStrictBlocks mail
  pub fields : AreStrictFields mail
  pub parameters : AreStrictParameters mail
  pub files : AreStrictFileNames mail
  pub senders : AreStrictSenders mail
  pub words : AreStrictWords known mail
  pub parts : AreStrictParts mail
  pub bodies : AreStrictBodies mail
  pub texts : AreStrictTexts known mail

-- and it has few levels and messages
pub record IsStrict (known : Charsets) (bytes : List ℕ) (mail : Tree) : Type 0 where
  pub messages : HasStrictMessages known bytes mail
  pub small : IsSmall mail
