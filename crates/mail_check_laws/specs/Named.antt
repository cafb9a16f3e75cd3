-- Lists of findings without some names, and the groups of names that the grammar of strict mails covers.
use Rattle.std.specs.Prelude.{◌≡◌, Bool, true, false, not, ◌||◌, List}
use Rattle.std.specs.List.{AllByRecursion}
use Rattle.mail_check.specs.Findings.{Finding}
use Rattle.mail_check.specs.Names.{class_of}
use Rattle.mail_check.specs.declared.names.Class.{Class}
use Rattle.mail_check.specs.declared.names.Class.TheVariants as class
use Rattle.mail_check.specs.declared.names.Name.{Name}
use Rattle.mail_check.specs.declared.names.Name.TheVariants as name

-- no finding has such a name
abbrev pub Lacks : (Name → Bool) → List Finding → Type 0
Lacks is_named found = AllByRecursion (λ finding. is_named finding.name ≡ false) found

-- one of these names
abbrev pub is_nul_name : Name → Bool
is_nul_name name.Nul = true
is_nul_name _ = false

abbrev pub is_lone_cr_name : Name → Bool
is_lone_cr_name name.LoneCr = true
is_lone_cr_name _ = false

abbrev pub is_mixed_name : Name → Bool
is_mixed_name name.MixedLineEnds = true
is_mixed_name _ = false

-- ---- groups of names

-- What a name is about. The cases:
pub data Group : Type 0 where
  -- what the bytes of the mail are as lines
  Lines : Group
  -- how a header block is written
  Blocks : Group
  -- which headers a message has, and what they say of its encoding and its type
  Fields : Group
  -- the syntax of types and dispositions
  Syntax : Group
  -- the parameters of those that have it
  Parameters : Group
  -- the names of files
  Files : Group
  -- the senders of the mail itself
  Senders : Group
  -- the words of subjects and senders
  Words : Group
  -- how a multipart is split
  Parts : Group
  -- how a body is encoded
  Bodies : Group
  -- the bytes of texts
  Texts : Group
  -- how many messages and levels there are
  Size : Group
  -- whether the mails inside are read, which no finding of a mail and its parts says
  Inside : Group
  -- the notes, which are not covered
  Notes : Group

-- the group of a name
abbrev pub group_of : Name → Group
group_of name.Nul = Lines
group_of name.LoneCr = Lines
group_of name.MixedLineEnds = Lines
group_of name.NoHeaders = Blocks
group_of name.NoBlankLine = Blocks
group_of name.BadKey = Blocks
group_of name.BlankFold = Blocks
group_of name.CommentFold = Blocks
group_of name.Header8bit = Blocks
group_of name.Duplicate = Fields
group_of name.EncodingSyntax = Fields
group_of name.EncodingOnComposite = Fields
group_of name.OtherMessage = Fields
group_of name.BadBoundary = Fields
group_of name.TypeSyntax = Syntax
group_of name.QuotedSpecial = Parameters
group_of name.QuotedPair = Parameters
group_of name.ExtendedParameter = Parameters
group_of name.TypeExtended = Parameters
group_of name.WordParameter = Parameters
group_of name.TypeWord = Parameters
group_of name.DuplicateParameter = Parameters
group_of name.NoType = Files
group_of name.TwoNames = Files
group_of name.FromSyntax = Senders
group_of name.WordSyntax = Words
group_of name.WordJoin = Words
group_of name.WordBytes = Words
group_of name.NameAddress = Words
group_of name.Preamble = Parts
group_of name.NoDelimiter = Parts
group_of name.DelimiterInside = Parts
group_of name.DelimiterTail = Parts
group_of name.NoClose = Parts
group_of name.LateDelimiter = Parts
group_of name.Base64Syntax = Bodies
group_of name.QpSyntax = Bodies
group_of name.QpBlank = Bodies
group_of name.Charset = Texts
group_of name.Many = Size
group_of name.Refused = Inside
group_of name.LongLine = Notes
group_of name.UnsafeName = Notes
group_of name.Base64Bits = Notes
group_of name.EightBitBody = Notes
group_of name.Uuencode = Notes

-- two groups are the same
abbrev pub same_group : Group → Group → Bool
same_group Lines Lines = true
same_group Blocks Blocks = true
same_group Fields Fields = true
same_group Syntax Syntax = true
same_group Parameters Parameters = true
same_group Files Files = true
same_group Senders Senders = true
same_group Words Words = true
same_group Parts Parts = true
same_group Bodies Bodies = true
same_group Texts Texts = true
same_group Size Size = true
same_group Inside Inside = true
same_group Notes Notes = true
same_group _ _ = false

-- a name of what the bytes of the mail are as lines
abbrev pub is_line_name : Name → Bool
is_line_name n = same_group Lines (group_of n)

-- a name of how a header block is written
abbrev pub is_block_name : Name → Bool
is_block_name n = same_group Blocks (group_of n)

-- a name of which headers a message has, of the syntax of its types and dispositions, and of what they say
abbrev pub is_field_name : Name → Bool
is_field_name n = same_group Fields (group_of n) || same_group Syntax (group_of n)

-- a name of the values of types and dispositions: their syntax, and their parameters
abbrev pub is_parameter_name : Name → Bool
is_parameter_name n = same_group Syntax (group_of n) || same_group Parameters (group_of n)

-- a name of these values, and of the names of files in them
abbrev pub is_file_name : Name → Bool
is_file_name n = same_group Syntax (group_of n) || (same_group Parameters (group_of n) || same_group Files (group_of n))

-- the name of a sender of the mail itself in another form
abbrev pub is_from_name : Name → Bool
is_from_name n = same_group Senders (group_of n)

-- a name of how the words of a subject and of senders are written
abbrev pub is_word_name : Name → Bool
is_word_name n = same_group Words (group_of n)

-- a name of how a multipart is split
abbrev pub is_part_name : Name → Bool
is_part_name n = same_group Parts (group_of n)

-- a name of how a body is encoded
abbrev pub is_body_name : Name → Bool
is_body_name n = same_group Bodies (group_of n)

-- the name of texts that are read in several ways
abbrev pub is_text_name : Name → Bool
is_text_name n = same_group Texts (group_of n)

-- the name of mails with many messages or levels
abbrev pub is_many_name : Name → Bool
is_many_name n = same_group Size (group_of n)

-- the class of the names that are not covered
abbrev pub is_note : Class → Bool
is_note class.Note = true
is_note _ = false

-- a name that is no note
abbrev pub is_core : Name → Bool
is_core n = not (is_note (class_of n))
