-- Characters of charsets that all programs know, which these read differently; this crate's own words. The codecs of Python, glibc,
-- Java, Perl, Ruby and Go were asked for each character. Where most characters of a block differ, all of it is disputed.
use Rattle.std.specs.Prelude.{ℕ, Bool, false, ◌&&◌, ◌||◌, not, nat_lt, List, [], ◌∷◌, Option, Some, None, is_some, codes, if◌then◌else◌}
use Rattle.std.specs.Int.{is_in_range}
use Rattle.std.specs.List.{list_any}
use Rattle.std.specs.Str.{str_eq_ignore_ascii_case}

-- ---- tables

-- Pairs of bytes: the first byte is from one to another, and so is the second.
abbrev pub Block : Type 0
Block = (ℕ × ℕ) × (ℕ × ℕ)

-- What is disputed in a charset. A byte from 80 on is a character by itself if it is one of `singles`, and otherwise the first byte of
-- a pair. A character of one byte is disputed if it is in one of the ranges `bytes`, and a pair if it is in a block.
pub record Table : Type 0 where
  pub singles : ℕ × ℕ
  pub bytes : List (ℕ × ℕ)
  pub pairs : List Block
  pub more_pairs : List Block

abbrev pub table_of : ℕ × ℕ → List (ℕ × ℕ) → List Block → List Block → Table
table_of singles bytes pairs more_pairs = record { singles = singles; bytes = bytes; pairs = pairs; more_pairs = more_pairs }

-- two letters of KOI8-U, which most programs read as line drawings
abbrev pub koi8_u_bytes : List (ℕ × ℕ)
koi8_u_bytes =
    (0xAE, 0xAE) ∷ (0xBE, 0xBE) ∷ []

-- points of windows-1255, which some programs lack or join with the letter before
abbrev pub windows_1255_bytes : List (ℕ × ℕ)
windows_1255_bytes =
    (0xC4, 0xD2) ∷ []

-- the backslash, the tilde and half-width katakana of Shift_JIS
abbrev pub shift_jis_bytes : List (ℕ × ℕ)
shift_jis_bytes =
    (0x5C, 0x5C) ∷ (0x7E, 0x7E) ∷ (0xA1, 0xDF) ∷ []

-- signs of Shift_JIS, and the characters of NEC and IBM
abbrev pub shift_jis_pairs : List Block
shift_jis_pairs =
    ((0x81, 0x81), (0x5C, 0x5C)) ∷ ((0x81, 0x81), (0x60, 0x61)) ∷ ((0x81, 0x81), (0x7C, 0x7C))
    ∷ ((0x81, 0x81), (0x91, 0x92)) ∷ ((0x81, 0x81), (0xCA, 0xCA)) ∷ ((0x87, 0x87), (0x40, 0xFC))
    ∷ ((0xED, 0xEE), (0x40, 0xFC)) ∷ ((0xF0, 0xFC), (0x40, 0xFC)) ∷ []

-- the byte of EUC-JP before a character of JIS X 0212
abbrev pub euc_jp_bytes : List (ℕ × ℕ)
euc_jp_bytes =
    (0x8F, 0x8F) ∷ []

-- half-width katakana and signs of EUC-JP, and the characters of NEC and IBM
abbrev pub euc_jp_pairs : List Block
euc_jp_pairs =
    ((0x8E, 0x8E), (0xA1, 0xDF)) ∷ ((0xA1, 0xA1), (0xBD, 0xBD)) ∷ ((0xA1, 0xA1), (0xC1, 0xC2))
    ∷ ((0xA1, 0xA1), (0xDD, 0xDD)) ∷ ((0xA1, 0xA1), (0xF1, 0xF2)) ∷ ((0xA2, 0xA2), (0xCC, 0xCC))
    ∷ ((0xAD, 0xAD), (0xA1, 0xFE)) ∷ ((0xF9, 0xFC), (0xA1, 0xFE)) ∷ []

-- signs of Big5, and the characters of Hong Kong and ETEN
abbrev pub big5_pairs : List Block
big5_pairs =
    ((0x81, 0xA0), (0x40, 0xFE)) ∷ ((0xA1, 0xA1), (0x45, 0x45)) ∷ ((0xA1, 0xA1), (0x4E, 0x4E))
    ∷ ((0xA1, 0xA1), (0x5A, 0x5A)) ∷ ((0xA1, 0xA1), (0xC2, 0xC5)) ∷ ((0xA1, 0xA1), (0xE3, 0xE3))
    ∷ ((0xA1, 0xA1), (0xF2, 0xF3)) ∷ ((0xA1, 0xA1), (0xFE, 0xFE)) ∷ ((0xA2, 0xA2), (0x40, 0x47))
    ∷ ((0xA2, 0xA2), (0xCC, 0xCE)) ∷ ((0xA3, 0xA3), (0xC0, 0xFE)) ∷ ((0xC2, 0xC2), (0x55, 0x55))
    ∷ ((0xC6, 0xC6), (0xA1, 0xFE)) ∷ ((0xC7, 0xC8), (0x40, 0xFE)) ∷ ((0xF9, 0xF9), (0xD6, 0xFE))
    ∷ ((0xFA, 0xFE), (0x40, 0xFE)) ∷ []

-- signs of EUC-KR, and a letter that Python joins with those after it
abbrev pub euc_kr_pairs : List Block
euc_kr_pairs =
    ((0xA2, 0xA2), (0xE6, 0xE7)) ∷ ((0xA4, 0xA4), (0xD4, 0xD4)) ∷ []

-- the euro sign of GBK
abbrev pub gb_bytes : List (ℕ × ℕ)
gb_bytes =
    (0x80, 0x80) ∷ []

-- areas of users in GBK, and what was added to it later
abbrev pub gb_pairs : List Block
gb_pairs =
    ((0xA1, 0xA7), (0x40, 0xA0)) ∷ ((0xA2, 0xA2), (0xAB, 0xB0)) ∷ ((0xA2, 0xA2), (0xE3, 0xE4))
    ∷ ((0xA2, 0xA2), (0xEF, 0xF0)) ∷ ((0xA2, 0xA2), (0xFD, 0xFE)) ∷ ((0xA4, 0xA4), (0xF4, 0xFE))
    ∷ ((0xA5, 0xA5), (0xF7, 0xFE)) ∷ ((0xA6, 0xA6), (0xB9, 0xC0)) ∷ ((0xA6, 0xA6), (0xD9, 0xFE))
    ∷ ((0xA7, 0xA7), (0xC2, 0xD0)) ∷ ((0xA7, 0xA7), (0xF2, 0xFE)) ∷ ((0xA8, 0xA8), (0x92, 0xA0))
    ∷ ((0xA8, 0xA8), (0xBC, 0xC4)) ∷ ((0xA8, 0xA8), (0xEA, 0xFE)) ∷ ((0xA9, 0xA9), (0x58, 0x5F))
    ∷ ((0xA9, 0xA9), (0x89, 0x95)) ∷ ((0xA9, 0xA9), (0x97, 0xA3)) ∷ ((0xA9, 0xA9), (0xF0, 0xFE))
    ∷ ((0xAA, 0xAF), (0xA1, 0xFE)) ∷ ((0xD7, 0xD7), (0xFA, 0xFE)) ∷ ((0xF8, 0xFD), (0xA1, 0xFE))
    ∷ ((0xFE, 0xFE), (0x50, 0xFE)) ∷ []

-- halves of the characters of four bytes, which GBK lacks
abbrev pub gbk_pairs : List Block
gbk_pairs =
    ((0x81, 0xFE), (0x30, 0x39)) ∷ []

-- first halves of the characters of four bytes that changed with the versions of GB 18030
abbrev pub gb18030_pairs : List Block
gb18030_pairs =
    ((0x81, 0x82), (0x35, 0x35)) ∷ ((0x84, 0x84), (0x31, 0x31)) ∷ []

-- what GBK has among the pairs of GB 2312, and two signs
abbrev pub gb_2312_pairs : List Block
gb_2312_pairs =
    ((0xA1, 0xA1), (0xA4, 0xA4)) ∷ ((0xA1, 0xA1), (0xAA, 0xAA)) ∷ ((0xA2, 0xA2), (0xA1, 0xAA))
    ∷ ((0xA8, 0xA8), (0xBB, 0xBB)) ∷ []

-- ---- labels

-- the table of a charset with this label, ignoring ASCII case, if anything is disputed in it
abbrev pub disputed_table : List ℕ → Option Table
disputed_table label =
    if str_eq_ignore_ascii_case label (codes "shift_jis") then Some (table_of (0xA0, 0xDF) shift_jis_bytes shift_jis_pairs []) else
    (if str_eq_ignore_ascii_case label (codes "koi8-u") then Some (table_of (0x80, 0xFF) koi8_u_bytes [] []) else
    (if str_eq_ignore_ascii_case label (codes "windows-1255") then Some (table_of (0x80, 0xFF) windows_1255_bytes [] []) else
    (if str_eq_ignore_ascii_case label (codes "euc-jp") then Some (table_of (0x8F, 0x8F) euc_jp_bytes euc_jp_pairs []) else
    (if str_eq_ignore_ascii_case label (codes "big5") then Some (table_of (0x80, 0x80) [] big5_pairs []) else
    (if str_eq_ignore_ascii_case label (codes "euc-kr") then Some (table_of (0x80, 0x80) [] euc_kr_pairs []) else
    (if str_eq_ignore_ascii_case label (codes "ks_c_5601-1987") then Some (table_of (0x80, 0x80) [] euc_kr_pairs []) else
    (if str_eq_ignore_ascii_case label (codes "gbk") then Some (table_of (0x80, 0x80) gb_bytes gb_pairs gbk_pairs) else
    (if str_eq_ignore_ascii_case label (codes "gb18030") then Some (table_of (0x80, 0x80) gb_bytes gb_pairs gb18030_pairs) else
    (if str_eq_ignore_ascii_case label (codes "gb2312") then Some (table_of (0x80, 0x80) gb_bytes gb_pairs gb_2312_pairs) else
    None)))))))))

-- ---- bytes

-- a byte is in a range
abbrev pub is_in : ℕ → ℕ × ℕ → Bool
is_in b range = is_in_range range.0 range.1 b

-- a pair is in a block
abbrev pub is_in_block : ℕ → ℕ → Block → Bool
is_in_block first second block = is_in first block.0 && is_in second block.1

-- a byte begins a pair: it is from 80 on, and no character by itself
abbrev pub is_first : ℕ × ℕ → ℕ → Bool
is_first singles b = not (nat_lt b 128) && not (is_in b singles)

-- a pair is disputed
abbrev pub is_disputed_pair : Table → ℕ → ℕ → Bool
is_disputed_pair table first second =
    list_any (is_in_block first second) table.pairs || list_any (is_in_block first second) table.more_pairs

-- a byte is the last one of a disputed character, after the first byte of a pair or none
abbrev pub is_disputed : Table → Option ℕ → ℕ → Bool
is_disputed table None b = not (is_first table.singles b) && list_any (is_in b) table.bytes
is_disputed table (Some first) b = is_disputed_pair table first b

-- the first byte of a pair that one more byte leaves
abbrev pub first_after : ℕ × ℕ → Option ℕ → ℕ → Option ℕ
first_after singles None b = if is_first singles b then Some b else None
first_after singles (Some first) b = None

-- bytes have a disputed character, or end in half a pair, after the first byte of a pair or none
abbrev pub has_disputed_after : Table → Option ℕ → List ℕ → Bool
has_disputed_after table before [] = is_some before
has_disputed_after table before (b ∷ bytes) =
    is_disputed table before b || has_disputed_after table (first_after table.singles before b) bytes

-- bytes have a disputed character by a table, if there is one
abbrev pub has_disputed_in : Option Table → List ℕ → Bool
has_disputed_in None octets = false
has_disputed_in (Some table) octets = has_disputed_after table None octets

-- Bytes have a character that programs read differently in the charset that a label names.
abbrev pub has_disputed : List ℕ → List ℕ → Bool
has_disputed label octets = has_disputed_in (disputed_table label) octets
