-- Why a message that a manner kept is refused by the strict reading; the crate's own rule.
use Rattle.std.specs.Prelude.{Bool, true, not, ◌&&◌, Option, Some, None, Ok, Err, if◌then◌else◌}
use Rattle.mail_codec.specs.Places.{is_empty}
use Rattle.mailparse.specs.Block.{HeaderList, read_block}
use Rattle.mailparse.specs.Mail.{Node}
use Rattle.mailparse.specs.Refusal.{Reads, Refusal, recursion_limit}

-- a message was kept: it has bytes but no block, while the block of each message that is read has
-- at least one byte
abbrev pub was_kept : Node → Bool
was_kept node = is_empty node.block && not (is_empty node.bytes)

-- the refusal of a message with this block: that of the block, otherwise the message is too deep
abbrev pub refusal_with : Reads HeaderList → Refusal
refusal_with (Ok block) = recursion_limit
refusal_with (Err refusal) = refusal

-- the refusal for which a message was kept, if it was
unfoldable pub kept_for : Node → Option Refusal
kept_for node = if was_kept node then Some (refusal_with (read_block true node.bytes)) else None
