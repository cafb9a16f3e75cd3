-- Messages that have no parts although their type is a multipart: the boundary is missing, or no
-- delimiter has it (RFC 2046, section 5.1.1); the crate's own rule.
use Rattle.std.specs.Prelude.{ℕ, Bool, ◌&&◌, List, length, drop, codes}
use Rattle.mail_codec.specs.Places.{has_prefix}
use Rattle.mailparse.specs.Mail.{Node, Tree, root}
use Rattle.mail_read.specs.Files.{is_leaf}

-- a multipart has no parts
abbrev pub is_undivided : Tree → Bool
is_undivided t = is_leaf t && has_prefix (codes "multipart") (root t).ctype.mimetype

-- the bytes of a message after its block
abbrev pub after_block : Node → List ℕ
after_block node = drop (length node.block) node.bytes
