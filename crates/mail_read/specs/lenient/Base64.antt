-- The front of a Base64 body that is cut off or damaged: the groups of four before the first
-- invalid one (RFC 4648, section 4). Bytes outside the alphabet are ignored (RFC 2045, section 6.8).
-- That a last group may lack its padding, and that such a byte after padding ends the data, are the
-- crate's own rules.
use Rattle.std.specs.Prelude.{ℕ, suc, ◌-◌, Bool, not, ◌||◌, ◌==◌, List, [], ◌∷◌, ◌++◌, length, take, drop, filter, Option, Some, None, Result, Ok, Err}
use Rattle.std.specs.Char.{is_ascii_alphanumeric}
use Rattle.std.specs.List.{prefix_len}
use Rattle.mail_codec.specs.Ascii.{slash}
use Rattle.mail_codec.specs.Base64.{base64, group_bytes, padding}
use Rattle.mail_codec.specs.Places.{without_ascii_whitespace}

-- the bytes that were read, and the index of the first invalid group, if there is one
pub record Front : Type 0 where
  pub bytes : List ℕ
  pub fault : Option ℕ

-- all was read
abbrev pub all_read : Front
all_read = record { bytes = []; fault = None }

-- the same with bytes before those
abbrev pub before : List ℕ → Front → Front
before bytes front = record { bytes = bytes ++ front.bytes; fault = front.fault }

-- the bytes of a group and then those after it; nothing from an invalid group onwards
abbrev pub group_then : ℕ → Option (List ℕ) → Front → Front
group_then n (Some bytes) more = before bytes more
group_then n None more = record { bytes = []; fault = Some n }

-- the front of a text without whitespace whose first group has index n; two or three letters at the
-- end are a group whose padding is missing
unfoldable pub front_from : ℕ → List ℕ → Front
front_from n [] = all_read
front_from n (p ∷ []) = group_then n None all_read
front_from n (p ∷ q ∷ []) = group_then n (group_bytes p q padding padding) all_read
front_from n (p ∷ q ∷ r ∷ []) = group_then n (group_bytes p q r padding) all_read
front_from n (p ∷ q ∷ r ∷ s ∷ rest) = group_then n (group_bytes p q r s) (front_from (suc n) rest)

-- the front of a text, whose ASCII whitespace is ignored
unfoldable pub text_front : List ℕ → Front
text_front text = front_from 0 (without_ascii_whitespace text)

-- `+`
abbrev pub plus : ℕ
plus = 43

-- a byte is a letter of the alphabet (RFC 4648, table 1)
abbrev pub is_letter : ℕ → Bool
is_letter b = is_ascii_alphanumeric b || (b == plus || b == slash)

-- a byte is a letter or padding
abbrev pub is_data : ℕ → Bool
is_data b = is_letter b || b == padding

-- the bytes before the first padding
abbrev pub unpadded_length : List ℕ → ℕ
unpadded_length text = prefix_len (λ b. not (b == padding)) text

-- the data of a text without whitespace: the letters before the first padding, and the padding and
-- what follows it, up to the first byte that is neither a letter nor padding
unfoldable pub data_of : List ℕ → List ℕ
data_of text =
    let rest = drop (unpadded_length text) text in
    filter is_letter (take (unpadded_length text) text) ++ take (prefix_len is_data rest) rest

-- the bytes that were read, the index of the first invalid group of the data, if there is one, and
-- the number of bytes that are no data
pub record Recovered : Type 0 where
  pub bytes : List ℕ
  pub fault : Option ℕ
  pub ignored : ℕ

-- the front of the data of a body
unfoldable pub recovered : List ℕ → Recovered
recovered body =
    let text = without_ascii_whitespace body in
    let front = text_front (data_of text) in
    record {
      bytes = front.bytes;
      fault = front.fault;
      ignored = length text - length (data_of text);
    }

-- a body that the strict reading accepts, or what can be recovered of one that it refuses
abbrev pub read_or_recovered : List ℕ → Result (List ℕ) ℕ → Recovered
read_or_recovered body (Ok bytes) = record { bytes = bytes; fault = None; ignored = 0 }
read_or_recovered body (Err group) = recovered body

unfoldable pub base64_front : List ℕ → Recovered
base64_front body = read_or_recovered body (base64 (without_ascii_whitespace body))
