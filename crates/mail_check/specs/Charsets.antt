-- Charsets that all programs know, and bytes that these lack; this crate's own words.
use Rattle.std.specs.Prelude.{ℕ, Bool, true, false, ◌&&◌, ◌||◌, not, ◌==◌, nat_lt, List, [], ◌∷◌, Option, Some, None, is_some, codes, if◌then◌else◌}
use Rattle.std.specs.List.{list_any}
use Rattle.std.specs.Str.{is_utf8, str_eq_ignore_ascii_case}
use Rattle.mail_codec.specs.Charset.{Charsets}
use Rattle.mail_codec.specs.Places.{text_place}
use Rattle.mail_check.specs.Bytes.{first_byte, is_high}
use Rattle.mail_check.specs.Disputed.{has_disputed}
use Rattle.mail_check.specs.declared.charsets.PairState.{PairState}
use Rattle.mail_check.specs.declared.charsets.PairState.TheVariants.{Whole, Half, Cut}

-- ---- labels

-- the labels of US-ASCII and of UTF-8
abbrev pub ascii_labels : List (List ℕ)
ascii_labels = codes "us-ascii" ∷ codes "ascii" ∷ []

abbrev pub utf_8_labels : List (List ℕ)
utf_8_labels = codes "utf-8" ∷ codes "utf8" ∷ []

-- the labels of the parts of ISO 8859 that all programs know
abbrev pub iso_8859_labels : List (List ℕ)
iso_8859_labels =
    codes "iso-8859-1" ∷ codes "iso-8859-2" ∷ codes "iso-8859-3" ∷ codes "iso-8859-4"
    ∷ codes "iso-8859-5" ∷ codes "iso-8859-6" ∷ codes "iso-8859-7" ∷ codes "iso-8859-8"
    ∷ codes "iso-8859-9" ∷ codes "iso-8859-11" ∷ codes "iso-8859-13" ∷ codes "iso-8859-15" ∷ []

-- those of other charsets that all programs know, in which bytes below 128 are ASCII
abbrev pub other_labels : List (List ℕ)
other_labels =
    codes "windows-1250" ∷ codes "windows-1251" ∷ codes "windows-1252" ∷ codes "windows-1253"
    ∷ codes "windows-1254" ∷ codes "windows-1255" ∷ codes "windows-1256" ∷ codes "windows-1257"
    ∷ codes "koi8-r" ∷ codes "koi8-u" ∷ codes "gbk" ∷ codes "gb18030" ∷ codes "big5" ∷ codes "euc-jp"
    ∷ codes "shift_jis" ∷ []

-- those of GB 2312 and KS X 1001, in which two bytes from A1 to FE are a character; larger charsets are read under these
-- labels too
abbrev pub pair_labels : List (List ℕ)
pair_labels = codes "gb2312" ∷ codes "euc-kr" ∷ codes "ks_c_5601-1987" ∷ []

-- a label is one of some, ignoring ASCII case
abbrev pub is_label_of : List ℕ → List (List ℕ) → Bool
is_label_of label labels = list_any (str_eq_ignore_ascii_case label) labels

-- ---- bytes

-- one of the bytes 80 to 9F: in ISO 8859 a control character
abbrev pub is_c1 : ℕ → Bool
is_c1 b = not (nat_lt b 128) && nat_lt b 160

-- the UTF-8 of one of the characters U+0080 to U+009F is among bytes, given the byte before them
abbrev pub has_c1_after : ℕ → List ℕ → Bool
has_c1_after before [] = false
has_c1_after before (b ∷ bytes) = (before == 0xC2 && is_c1 b) || has_c1_after b bytes

-- a byte of a pair: from A1 to FE
abbrev pub is_pair_byte : ℕ → Bool
is_pair_byte b = not (nat_lt b 0xA1) && nat_lt b 0xFF

-- the state after one more byte of ASCII and pairs
abbrev pub after_pair_byte : PairState → ℕ → PairState
after_pair_byte Whole b = if nat_lt b 128 then Whole else (if is_pair_byte b then Half else Cut)
after_pair_byte Half b = if is_pair_byte b then Whole else Cut
after_pair_byte Cut b = Cut

-- the state after some bytes
abbrev pub after_pair_bytes : PairState → List ℕ → PairState
after_pair_bytes state [] = state
after_pair_bytes state (b ∷ bytes) = after_pair_bytes (after_pair_byte state b) bytes

-- bytes are ASCII and pairs if they end in this state
abbrev pub is_whole : PairState → Bool
is_whole Whole = true
is_whole Half = false
is_whole Cut = false

-- a text in UTF-8 has U+FFFD, which replaces bytes that a charset lacks, or one of U+0080 to U+009F
abbrev pub has_replaced : List ℕ → Bool
has_replaced text = is_some (text_place text (0xEF ∷ 0xBF ∷ 0xBD ∷ [])) || has_c1_after 0 text

-- bytes are not read in this charset: there is no charset, or they are not ASCII and their text has such a character
abbrev pub is_unread : Option (List ℕ → List ℕ) → List ℕ → Bool
is_unread None octets = true
is_unread (Some reading) octets = is_some (first_byte is_high octets) && has_replaced (reading octets)

-- the label is that of a part of ISO 8859, and one of the bytes is from 80 to 9F; or it is that of a charset of pairs, and
-- they are not ASCII and pairs; or it is another label
abbrev pub is_foreign : List ℕ → List ℕ → Bool
is_foreign label octets =
    if is_label_of label iso_8859_labels then list_any is_c1 octets else
    (if is_label_of label pair_labels then not (is_whole (after_pair_bytes Whole octets)) else
    not (is_label_of label other_labels))

-- Bytes are not all text in the charset that a label names, under the charsets that are known: a byte is not ASCII, for a
-- label of US-ASCII; they are not UTF-8, for one of UTF-8; for any other, one of the two above, or one of their characters is disputed.
abbrev pub is_lacking : Charsets → List ℕ → List ℕ → Bool
is_lacking known label octets =
    if is_label_of label ascii_labels then is_some (first_byte is_high octets) else
    (if is_label_of label utf_8_labels then not (is_utf8 octets) else
    is_foreign label octets || (has_disputed label octets || is_unread (known label) octets))
