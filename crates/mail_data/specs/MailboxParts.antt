-- The mails of a part of a mailbox: those whose separator begins in a range of places.
use Rattle.std.specs.Prelude.{ℕ, suc, ◌+◌, ◌*◌, ◌/◌, Bool, not, ◌&&◌, nat_lt, filter, List, [], ◌∷◌, length}
use Rattle.mail_data.specs.Mailbox.{Entry, entries, entry_bytes, front_length}

-- a mail, and the place at which its separator begins
pub record Placed : Type 0 where
  pub start : ℕ
  pub entry : Entry

-- mails with their places, the first of which begins at this place
abbrev pub placed_from : ℕ → List Entry → List Placed
placed_from start [] = []
placed_from start (entry ∷ rest) =
    record { start = start; entry = entry } ∷ placed_from (start + length (entry_bytes entry)) rest

-- the mails of a mailbox with their places
abbrev pub placed : List ℕ → List Placed
placed bytes = placed_from (front_length bytes) (entries bytes)

-- the mails of bytes of a mailbox that begin at this place, with their places
abbrev pub placed_at : ℕ → List ℕ → List Placed
placed_at start bytes = placed_from (start + front_length bytes) (entries bytes)

-- a mail begins in a range of places
abbrev pub begins_in : ℕ → ℕ → Placed → Bool
begins_in from to mail = not (nat_lt mail.start from) && nat_lt mail.start to

-- those mails that begin in a range, in order
abbrev pub in_range : ℕ → ℕ → List Placed → List Placed
in_range from to mails = filter (begins_in from to) mails

-- the place of the k-th of `count` equal parts of a mailbox, counted from 0
abbrev pub part_start : List ℕ → ℕ → ℕ → ℕ
part_start bytes count k = length bytes * k / count

-- the mails of that part
unfoldable pub part_mails : List ℕ → ℕ → ℕ → List Placed
part_mails bytes count k =
    in_range (part_start bytes count k) (part_start bytes count (suc k)) (placed bytes)
