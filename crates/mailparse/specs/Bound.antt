-- The sizes of a message and all its parts, nested ones included, compared with a number of bytes; the project's own terms.
use Rattle.std.specs.Prelude.{ℕ, ◌+◌, ◌-◌, ◌*◌, ◌≤◌, length}
use Rattle.std.specs.List.{sum_by}
use Rattle.mailparse.specs.Mail.{Tree, nodes}

-- the number of their headers
abbrev pub header_count_within : Tree → ℕ
header_count_within t = sum_by (λ node. length node.headers) (nodes t)

-- the number of bytes of their bodies
abbrev pub body_bytes_within : Tree → ℕ
body_bytes_within t = sum_by (λ node. length node.body) (nodes t)

-- the number of messages: the message itself and all parts
abbrev pub nodes_within : Tree → ℕ
nodes_within t = length (nodes t)

-- the number of messages and headers
abbrev pub items_within : Tree → ℕ
items_within t = nodes_within t + header_count_within t

-- one byte for each header, the bytes of the bodies, and three bytes for each part add up to at most `bytes`
abbrev pub IsBounded : Tree → ℕ → Type 0
IsBounded t bytes = header_count_within t + body_bytes_within t + 3 * (nodes_within t - 1) ≤ bytes
