-- The encodings, their labels (the WHATWG Encoding Standard, section 4.2), and the text of bytes in each.
use Rattle.std.specs.Prelude.{ℕ, ◌+◌, ◌-◌, List, [], ◌∷◌, map, nat_lt, Option, None, option_map, find, codes, encode_utf8_all, if◌then◌else◌}
use Rattle.mail_codec.specs.Charset.{is_among_labels, replacement, trimmed_label}
use Rattle.mail_charsets.specs.EucKr.{euc_kr_text}
use Rattle.mail_charsets.specs.ShiftJis.{shift_jis_text}
use Rattle.mail_charsets.specs.Gb18030.{gb18030_text}
use Rattle.mail_charsets.specs.Big5.{big5_text}
use Rattle.mail_charsets.specs.EucJp.{euc_jp_text}
use Rattle.mail_charsets.specs.Iso2022Jp.{iso_2022_jp_text}
use Rattle.mail_charsets.specs.declared.encoding.Encoding.{Encoding}
use Rattle.mail_charsets.specs.declared.encoding.Encoding.TheVariants.{Gbk, Gb18030, Big5, EucJp, Iso2022Jp, ShiftJis, EucKr, Replacement, XUserDefined}
use Rattle.mail_charsets.specs.declared.indexes.Indexes.{Indexes}

-- the labels of GBK
abbrev pub gbk_labels : List (List ℕ)
gbk_labels = codes "chinese" ∷ codes "csgb2312" ∷ codes "csiso58gb231280" ∷ codes "gb2312" ∷ codes "gb_2312" ∷ codes "gb_2312-80" ∷ codes "gbk" ∷ codes "iso-ir-58" ∷ codes "x-gbk" ∷ []

-- the labels of gb18030
abbrev pub gb18030_labels : List (List ℕ)
gb18030_labels = codes "gb18030" ∷ []

-- the labels of Big5
abbrev pub big5_labels : List (List ℕ)
big5_labels = codes "big5" ∷ codes "big5-hkscs" ∷ codes "cn-big5" ∷ codes "csbig5" ∷ codes "x-x-big5" ∷ []

-- the labels of EUC-JP
abbrev pub euc_jp_labels : List (List ℕ)
euc_jp_labels = codes "cseucpkdfmtjapanese" ∷ codes "euc-jp" ∷ codes "x-euc-jp" ∷ []

-- the labels of ISO-2022-JP
abbrev pub iso_2022_jp_labels : List (List ℕ)
iso_2022_jp_labels = codes "csiso2022jp" ∷ codes "iso-2022-jp" ∷ []

-- the labels of Shift_JIS
abbrev pub shift_jis_labels : List (List ℕ)
shift_jis_labels = codes "csshiftjis" ∷ codes "ms932" ∷ codes "ms_kanji" ∷ codes "shift-jis" ∷ codes "shift_jis" ∷ codes "sjis" ∷ codes "windows-31j" ∷ codes "x-sjis" ∷ []

-- the labels of EUC-KR
abbrev pub euc_kr_labels : List (List ℕ)
euc_kr_labels = codes "cseuckr" ∷ codes "csksc56011987" ∷ codes "euc-kr" ∷ codes "iso-ir-149" ∷ codes "korean" ∷ codes "ks_c_5601-1987" ∷ codes "ks_c_5601-1989" ∷ codes "ksc5601" ∷ codes "ksc_5601" ∷ codes "windows-949" ∷ []

-- the labels of replacement
abbrev pub replacement_labels : List (List ℕ)
replacement_labels = codes "csiso2022kr" ∷ codes "hz-gb-2312" ∷ codes "iso-2022-cn" ∷ codes "iso-2022-cn-ext" ∷ codes "iso-2022-kr" ∷ codes "replacement" ∷ []

-- the labels of x-user-defined
abbrev pub x_user_defined_labels : List (List ℕ)
x_user_defined_labels = codes "x-user-defined" ∷ []

-- each encoding with its labels
abbrev pub labels_by_encoding : List (Encoding × List (List ℕ))
labels_by_encoding =
    (Gbk, gbk_labels)
    ∷ (Gb18030, gb18030_labels)
    ∷ (Big5, big5_labels)
    ∷ (EucJp, euc_jp_labels)
    ∷ (Iso2022Jp, iso_2022_jp_labels)
    ∷ (ShiftJis, shift_jis_labels)
    ∷ (EucKr, euc_kr_labels)
    ∷ (Replacement, replacement_labels)
    ∷ (XUserDefined, x_user_defined_labels) ∷ []

-- the encoding that has the label, after trimming it at both ends; ASCII case is ignored
unfoldable pub encoding_of_label : List ℕ → Option Encoding
encoding_of_label label =
    option_map (λ row. row.0) (find (λ row. is_among_labels row.1 (trimmed_label label)) labels_by_encoding)

-- the same, but none for the labels of replacement, in which nothing can be read
unfoldable pub readable_encoding : List ℕ → Option Encoding
readable_encoding label =
    if is_among_labels replacement_labels (trimmed_label label) then None else encoding_of_label label

-- the text of bytes in the replacement encoding: U+FFFD for all of them (section 14.1)
abbrev pub replacement_text : List ℕ → List ℕ
replacement_text [] = []
replacement_text (byte ∷ bytes) = encode_utf8_all (replacement ∷ [])

-- the character of a byte in x-user-defined: the bytes 80 to FF are the characters from U+F780 onwards (section 14.5)
abbrev pub x_user_defined_char : ℕ → ℕ
x_user_defined_char byte = if nat_lt byte 0x80 then byte else 0xF780 + (byte - 0x80)

-- the text of bytes in an encoding under indexes; a byte order mark is read like any other bytes
unfoldable pub text_in : Indexes → Encoding → List ℕ → List ℕ
text_in indexes Gbk bytes = gb18030_text indexes.gb18030.now indexes.gb18030_ranges.now bytes
text_in indexes Gb18030 bytes = gb18030_text indexes.gb18030.now indexes.gb18030_ranges.now bytes
text_in indexes Big5 bytes = big5_text indexes.big5.now indexes.big5_plane.now bytes
text_in indexes EucJp bytes = euc_jp_text indexes.jis_0208.now indexes.jis_0212.now bytes
text_in indexes Iso2022Jp bytes = iso_2022_jp_text indexes.jis_0208.now bytes
text_in indexes ShiftJis bytes = shift_jis_text indexes.jis_0208.now bytes
text_in indexes EucKr bytes = euc_kr_text indexes.euc_kr.now bytes
text_in indexes Replacement bytes = replacement_text bytes
text_in indexes XUserDefined bytes = encode_utf8_all (map x_user_defined_char bytes)
