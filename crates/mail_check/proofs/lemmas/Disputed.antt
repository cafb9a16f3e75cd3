-- Bytes of ASCII are disputed in Shift_JIS alone.
use Rattle.std.proofs.Common.{◌≡◌, ◌∙◌, ℕ, Bool, true, false, not, cond, List, [], ◌∷◌, refl, ap, arith}
use Rattle.std.specs.Prelude.{nat_lt, nat_le, Option, Some, None, is_some, codes}
use Rattle.std.specs.List.{list_all, list_any}
use Rattle.std.specs.Str.{str_eq_ignore_ascii_case}
use Rattle.std.proofs.lemmas.Bool.{leb-true, lt-leb, ltb-true}
use Rattle.mail_check.specs.Bytes.{first_byte, is_high}
use Rattle.mail_check.specs.Disputed.{Table, table_of, big5_pairs, euc_jp_bytes, euc_jp_pairs, euc_kr_pairs, first_after, gb_2312_pairs, gb_bytes, gb_pairs, gb18030_pairs, gbk_pairs, has_disputed, has_disputed_after, has_disputed_in, is_disputed, is_first, is_in, koi8_u_bytes, shift_jis_bytes, shift_jis_pairs, windows_1255_bytes}
use Rattle.mail_check.proofs.lemmas.Booleans.{both_true, is_so, left_false, nor, right_false}
use Rattle.mail_check.proofs.lemmas.Searched.{no_offset}

-- a byte of ASCII is in no range that begins from 80 on
in_none : (b : ℕ) → nat_lt b 128 ≡ true → (ranges : List (ℕ × ℕ)) → list_all (λ range. nat_le 128 range.0) ranges ≡ true
    → list_any (is_in b) ranges ≡ false
in_none b low [] h = refl
in_none b low (range ∷ ranges) h =
    let both = both_true (nat_le 128 range.0) (list_all (λ r. nat_le 128 r.0) ranges) h in
    nor (is_in b range) (list_any (is_in b) ranges)
    (left_false (nat_le range.0 b) (nat_le b range.1) (above range.0 b both.0 low))
    (in_none b low ranges both.1)
  where
    above : (n b : ℕ) → nat_le 128 n ≡ true → nat_lt b 128 ≡ true → nat_le n b ≡ false
    above n b h low = lt-leb n b (omega (arith, leb-true 128 n h, ltb-true b 128 low))

in_ascii : (table : Table) → list_all (λ range. nat_le 128 range.0) table.bytes ≡ true → (octets : List ℕ)
    → list_all (λ b. not (is_high b)) octets ≡ true
    → has_disputed_after table None octets ≡ false
in_ascii table h [] all = refl
in_ascii table h (b ∷ rest) all =
    let both = both_true (not (is_high b)) (list_all (λ x. not (is_high x)) rest) all in
    let low = low_of (nat_lt b 128) both.0 in
    nor (is_disputed table None b) (has_disputed_after table (first_after table.singles None b) rest)
    (right_false (not (is_first table.singles b)) (list_any (is_in b) table.bytes) (in_none b low table.bytes h))
    (ap (λ (t : Bool). has_disputed_after table (cond t (Some b) None) rest)
    (left_false (not (nat_lt b 128)) (not (is_in b table.singles)) (is_so (nat_lt b 128) low))
    ∙ in_ascii table h rest both.1)
  where
    low_of : (t : Bool) → not (not t) ≡ true → t ≡ true
    low_of true h = refl
    low_of false h = h

-- the table that is chosen among some
abbrev chosen : List (Bool × Table) → Option Table
chosen [] = None
chosen (one ∷ others) = cond one.0 (Some one.1) (chosen others)

in_chosen : (octets : List ℕ) → list_all (λ b. not (is_high b)) octets ≡ true → (choices : List (Bool × Table))
    → list_all (λ one. list_all (λ range. nat_le 128 range.0) one.1.bytes) choices ≡ true
    → has_disputed_in (chosen choices) octets ≡ false
in_chosen octets all [] h = refl
in_chosen octets all (one ∷ others) h =
    let both =
    both_true (list_all (λ range. nat_le 128 range.0) one.1.bytes)
    (list_all (λ x. list_all (λ range. nat_le 128 range.0) x.1.bytes) others) h in
    by_either one.0 (Some one.1) (chosen others) (in_ascii one.1 both.0 octets all) (in_chosen octets all others both.1)
  where
    by_either : (t : Bool) (x y : Option Table) → has_disputed_in x octets ≡ false → has_disputed_in y octets ≡ false
        → has_disputed_in (cond t x y) octets ≡ false
    by_either true x y h k = h
    by_either false x y h k = k

abbrev has_label : List ℕ → List ℕ → Bool
has_label label known = str_eq_ignore_ascii_case label known

-- the tables but for that of Shift_JIS
abbrev tables : List ℕ → List (Bool × Table)
tables label =
    (has_label label (codes "koi8-u"), table_of (0x80, 0xFF) koi8_u_bytes [] [])
    ∷ (has_label label (codes "windows-1255"), table_of (0x80, 0xFF) windows_1255_bytes [] [])
    ∷ (has_label label (codes "euc-jp"), table_of (0x8F, 0x8F) euc_jp_bytes euc_jp_pairs [])
    ∷ (has_label label (codes "big5"), table_of (0x80, 0x80) [] big5_pairs [])
    ∷ (has_label label (codes "euc-kr"), table_of (0x80, 0x80) [] euc_kr_pairs [])
    ∷ (has_label label (codes "ks_c_5601-1987"), table_of (0x80, 0x80) [] euc_kr_pairs [])
    ∷ (has_label label (codes "gbk"), table_of (0x80, 0x80) gb_bytes gb_pairs gbk_pairs)
    ∷ (has_label label (codes "gb18030"), table_of (0x80, 0x80) gb_bytes gb_pairs gb18030_pairs)
    ∷ (has_label label (codes "gb2312"), table_of (0x80, 0x80) gb_bytes gb_pairs gb_2312_pairs) ∷ []

pub none_in_ascii : (label octets : List ℕ) → str_eq_ignore_ascii_case label (codes "shift_jis") ≡ false
    → is_some (first_byte is_high octets) ≡ false
    → has_disputed label octets ≡ false
none_in_ascii label octets other none =
    ap (λ (t : Bool). has_disputed_in (cond t (Some (table_of (0xA0, 0xDF) shift_jis_bytes shift_jis_pairs [])) (chosen (tables label))) octets)
    other
    ∙ in_chosen octets (no_offset is_high octets none) (tables label) refl
