-- Names of charsets that mail uses and that are no labels of the WHATWG Encoding Standard. Which they are is our own rule: each is a name of
-- a codec of Python for the charset.
use Rattle.std.specs.Prelude.{ℕ, List, [], ◌∷◌, Option, option_map, find, codes}
use Rattle.mail_codec.specs.Charset.{is_among_labels, trimmed_label}

-- a label of the standard, with other names of its charset
abbrev pub aliases_by_label : List (List ℕ × List (List ℕ))
aliases_by_label =
    (codes "utf-8", codes "cp65001" ∷ codes "utf_8" ∷ [])
    ∷ (codes "iso-8859-1", codes "iso8859_1" ∷ codes "iso_8859_1" ∷ codes "latin-1" ∷ codes "latin_1" ∷ [])
    ∷ (codes "iso-8859-2", codes "iso8859_2" ∷ codes "iso_8859_2" ∷ [])
    ∷ (codes "iso-8859-3", codes "iso8859_3" ∷ codes "iso_8859_3" ∷ [])
    ∷ (codes "iso-8859-4", codes "iso8859_4" ∷ codes "iso_8859_4" ∷ [])
    ∷ (codes "iso-8859-5", codes "iso8859_5" ∷ codes "iso_8859_5" ∷ [])
    ∷ (codes "iso-8859-6", codes "iso8859_6" ∷ codes "iso_8859_6" ∷ [])
    ∷ (codes "iso-8859-7", codes "iso8859_7" ∷ codes "iso_8859_7" ∷ [])
    ∷ (codes "iso-8859-8", codes "iso8859_8" ∷ codes "iso_8859_8" ∷ [])
    ∷ (codes "iso-8859-9", codes "iso8859_9" ∷ codes "iso_8859_9" ∷ [])
    ∷ (codes "iso-8859-10", codes "iso8859_10" ∷ codes "iso_8859_10" ∷ [])
    ∷ (codes "iso-8859-11", codes "iso8859_11" ∷ codes "iso_8859_11" ∷ [])
    ∷ (codes "iso-8859-13", codes "iso8859_13" ∷ codes "iso_8859_13" ∷ codes "latin7" ∷ [])
    ∷ (codes "iso-8859-14", codes "iso8859_14" ∷ codes "iso_8859_14" ∷ codes "latin8" ∷ [])
    ∷ (codes "iso-8859-15", codes "iso8859_15" ∷ codes "iso_8859_15" ∷ codes "latin9" ∷ [])
    ∷ (codes "iso-8859-16", codes "iso8859_16" ∷ codes "iso_8859_16" ∷ codes "latin10" ∷ [])
    ∷ (codes "windows-874", codes "cp874" ∷ codes "tis620" ∷ codes "tis_620" ∷ [])
    ∷ (codes "macintosh", codes "mac-roman" ∷ codes "mac_roman" ∷ codes "macroman" ∷ [])
    ∷ (codes "gbk", codes "cp936" ∷ codes "euc-cn" ∷ codes "euc_cn" ∷ codes "euccn" ∷ codes "ms936" ∷ [])
    ∷ (codes "big5", codes "big5_hkscs" ∷ codes "big5hkscs" ∷ codes "cp950" ∷ codes "ms950" ∷ [])
    ∷ (codes "euc-jp", codes "euc_jp" ∷ codes "eucjp" ∷ codes "ujis" ∷ [])
    ∷ (codes "iso-2022-jp", codes "iso2022_jp" ∷ codes "iso2022jp" ∷ codes "iso_2022_jp" ∷ [])
    ∷ (codes "shift_jis", codes "cp932" ∷ codes "shiftjis" ∷ [])
    ∷ (codes "euc-kr", codes "cp949" ∷ codes "euc_kr" ∷ codes "euckr" ∷ codes "ks-c-5601-1987" ∷ codes "ks_c_5601" ∷ codes "ks_c_5601_1987" ∷ codes "ms949" ∷ codes "uhc" ∷ []) ∷ []

-- the label of the charset that has this name, after trimming the name as a label; ASCII case is ignored
unfoldable pub label_of_alias : List ℕ → Option (List ℕ)
label_of_alias name =
    option_map (λ row. row.0) (find (λ row. is_among_labels row.1 (trimmed_label name)) aliases_by_label)
