-- Tags: values, attributes, the rest of a tag, and where comments and contents end.
use Rattle.std.proofs.Common.{◌≡◌, ◌∙◌, ℕ, zero, suc, ◌+◌, ◌-◌, ◌<◌, ◌≤◌, Bool, true, false, cond, List, [], ◌∷◌, take, drop, length, get_or, refl, sym, ap, arith, Some, None}
use Rattle.std.specs.Prelude.{◌==◌, codes, ◌||◌, ◌&&◌}
use Rattle.std.proofs.lemmas.Bool.{and_parts}
use Rattle.std.proofs.lemmas.Bool.Decides.{nat_tests, Decides-eqb}
use Rattle.std.proofs.lemmas.List.{drop_more, drop-drop, length-drop}
use Rattle.std.specs.Str.{str_eq_ignore_ascii_case}
use Rattle.mail_codec.specs.Places.{begins, first_place, has_prefix, place}
use Rattle.mail_codec.proofs.lemmas.Places.{PassedTo}
use Rattle.mail_codec.proofs.lemmas.PlacesSearches.{PassedTo-weaker, place_none, place_some}
use Rattle.mail_html.specs.Tags.{Attribute, Value, assigned, attribute, attribute_name_length, close_length, closes_comment, comment_length, declaration_length, ends_name, ends_value, has_name, is_end_tag, is_quote, is_separator, name_length, past_byte, piece, quoted, tag_length, tag_rest_length, unquoted, value, value_from, value_named, white_length}

-- ---- values and attributes

pub value_quoted : (bytes : List ℕ) (v : Value) → begins is_quote bytes ≡ true → v ≡ quoted (get_or bytes 0 0) (drop 1 bytes) → v ≡ value bytes
unfolding value
value_quoted bytes v is same = same ∙ sym (ap (λ b. cond b (quoted (get_or bytes 0 0) (drop 1 bytes)) (unquoted bytes)) is)

pub value_unquoted : (bytes : List ℕ) (count : ℕ) → begins is_quote bytes ≡ false → count ≡ first_place (begins ends_value) bytes → (take count bytes, count) ≡ value bytes
unfolding value
value_unquoted bytes count is same =
    ap (λ (n : ℕ). (take n bytes, n)) same ∙ sym (ap (λ b. cond b (quoted (get_or bytes 0 0) (drop 1 bytes)) (unquoted bytes)) is)

pub value_moved : (bytes : List ℕ) (start : ℕ) (v : Value) → v ≡ value (drop start bytes) → (v.0, start + v.1) ≡ value_from start bytes
value_moved bytes start v same = ap (λ (w : Value). (w.0, start + w.1)) same

-- what follows the name, where an equals sign does and where not
assigned_by : Bool → List ℕ → Value
assigned_by b bytes = cond b (value_from (white_length bytes + 1 + white_length (drop (white_length bytes + 1) bytes)) bytes) ([], 0)

pub assigned_some : (bytes : List ℕ) (equals white : ℕ) (v : Value) → equals ≡ white_length bytes → white ≡ white_length (drop (equals + 1) bytes)
    → begins (λ b. b == 61) (drop equals bytes) ≡ true → v ≡ value_from (equals + 1 + white) bytes → v ≡ assigned bytes
unfolding assigned assigned_by
assigned_some bytes equals white v e w is same =
    same ∙ ap (λ (n : ℕ). value_from (equals + 1 + n) bytes) w
    ∙ ap (λ (n : ℕ). value_from (n + 1 + white_length (drop (n + 1) bytes)) bytes) e
    ∙ sym (ap (λ b. assigned_by b bytes) (ap (λ (n : ℕ). begins (λ b. b == 61) (drop n bytes)) (sym e) ∙ is))

pub assigned_none : (bytes : List ℕ) (equals : ℕ) → equals ≡ white_length bytes → begins (λ b. b == 61) (drop equals bytes) ≡ false → ([], 0) ≡ assigned bytes
unfolding assigned assigned_by
assigned_none bytes equals e is =
    sym (ap (λ b. assigned_by b bytes) (ap (λ (n : ℕ). begins (λ b. b == 61) (drop n bytes)) (sym e) ∙ is))

pub attribute_is : (bytes : List ℕ) (name : ℕ) (v : Value) → name ≡ attribute_name_length bytes → v ≡ assigned (drop name bytes)
    → (take name bytes, v.0, name + v.1) ≡ attribute bytes
unfolding attribute
attribute_is bytes name v is same =
    ap (λ (w : Value). (take name bytes, w.0, name + w.1)) same
    ∙ ap (λ (n : ℕ). (take n bytes, (assigned (drop n bytes)).0, n + (assigned (drop n bytes)).1)) is

pub piece_separator : (bytes : List ℕ) → begins is_separator bytes ≡ true → ([], [], 1) ≡ piece bytes
unfolding piece
piece_separator bytes is = sym (ap (λ b. cond b ([], [], 1) (attribute bytes)) is)

pub piece_attribute : (bytes : List ℕ) (a : Attribute) → begins is_separator bytes ≡ false → a ≡ attribute bytes → a ≡ piece bytes
unfolding piece
piece_attribute bytes a is same = same ∙ sym (ap (λ b. cond b ([], [], 1) (attribute bytes)) is)

-- ---- the rest of a tag

rest_skips : (n : ℕ) (bs : List ℕ) → n ≤ length bs → tag_rest_length n bs ≡ n + tag_rest_length 0 (drop n bs)
rest_skips zero bs h = omega arith
rest_skips (suc n) [] h = absurd (omega arith)
rest_skips (suc n) (b ∷ bs) h = let e = rest_skips n bs (omega arith) in omega arith

-- it ends with `>`
rest_closed : (bs : List ℕ) → 0 < length bs → get_or bs 0 0 ≡ 62 → tag_rest_length 0 bs ≡ 1
rest_closed [] some is = absurd (omega arith)
rest_closed (b ∷ bs) some is = let h : (b == 62) ≡ true = grind (arith, nat_tests) in rw h refl

-- or it goes on after a piece
rest_piece : (bs : List ℕ) (n : ℕ) → 0 < length bs → ¬ (get_or bs 0 0 ≡ 62) → 0 < n → n ≤ length bs → n ≡ (piece bs).2
    → tag_rest_length 0 bs ≡ n + tag_rest_length 0 (drop n bs)
rest_piece [] n some other takes within is = absurd (omega arith)
rest_piece (b ∷ bs) zero some other takes within is = absurd (omega arith)
rest_piece (b ∷ bs) (suc n) some other takes within is =
    let h : (b == 62) ≡ false = grind (arith, nat_tests) in
    let e : suc n - 1 ≡ n = omega arith in
    let on = rest_skips n bs (omega arith) in
    let step : tag_rest_length 0 (b ∷ bs) ≡ suc (tag_rest_length n bs) =
    rw h (ap (λ (m : ℕ). suc (tag_rest_length (m - 1) bs)) (sym is) ∙ ap (λ (m : ℕ). suc (tag_rest_length m bs)) e) in
    omega arith

-- the same from a place onwards
pub record RestFrom (bytes : List ℕ) (at : ℕ) : Type 0 where
  pub within : at ≤ length bytes
  pub later : at + tag_rest_length 0 (drop at bytes) ≡ tag_rest_length 0 bytes

first_at : (bytes : List ℕ) (at : ℕ) → at < length bytes → get_or (drop at bytes) 0 0 ≡ get_or bytes at 0
first_at bytes at h = ap (λ (xs : List ℕ). get_or xs 0 0) (drop_more bytes at 0 h)

pub rest_ends : (bytes : List ℕ) (at : ℕ) → RestFrom bytes at → at < length bytes → get_or bytes at 0 ≡ 62 → at + 1 ≡ tag_rest_length 0 bytes
rest_ends bytes at h low is =
    let e = rest_closed (drop at bytes) (omega (arith, length-drop at bytes)) (first_at bytes at low ∙ is) in
    let later = h.later in
    omega arith

pub rest_goes_on : (bytes : List ℕ) (at n : ℕ) → RestFrom bytes at → at < length bytes → ¬ (get_or bytes at 0 ≡ 62) → 0 < n → n ≤ length (drop at bytes)
    → n ≡ (piece (drop at bytes)).2 → RestFrom bytes (at + n)
rest_goes_on bytes at n h low other takes within is =
    let len = length-drop at bytes in
    let e = rest_piece (drop at bytes) n (omega arith) (λ f. other (sym (first_at bytes at low) ∙ f)) takes within is in
    let there = ap (tag_rest_length 0) (drop-drop n at bytes) in
    let later = h.later in
    record { within = omega arith; later = omega arith }

pub rest_all : (bytes : List ℕ) (at : ℕ) → RestFrom bytes at → length bytes ≤ at → length bytes ≡ tag_rest_length 0 bytes
rest_all bytes at h none =
    let later = h.later in
    let within = h.within in
    let e = empty_rest (drop at bytes) (omega (arith, length-drop at bytes)) in
    omega arith
  where
    empty_rest : (bs : List ℕ) → length bs ≡ 0 → tag_rest_length 0 bs ≡ 0
    empty_rest [] h = refl
    empty_rest (b ∷ bs) h = absurd (omega arith)

pub tag_is : (bytes : List ℕ) (name rest : ℕ) → name ≡ name_length bytes → rest ≡ tag_rest_length 0 (drop name bytes) → name + rest ≡ tag_length bytes
unfolding tag_length
tag_is bytes name rest is same =
    ap (λ (n : ℕ). name + n) same ∙ ap (λ (n : ℕ). n + tag_rest_length 0 (drop n bytes)) is

-- ---- the value of an attribute by its name

named_skips : (n : ℕ) (name bs : List ℕ) → value_named n name bs ≡ value_named 0 name (drop n bs)
named_skips zero name bs = refl
named_skips (suc n) name [] = refl
named_skips (suc n) name (b ∷ bs) = named_skips n name bs

named_closed : (name bs : List ℕ) → get_or bs 0 0 ≡ 62 → [] ≡ value_named 0 name bs
named_closed name [] is = refl
named_closed name (b ∷ bs) is = let h : (b == 62) ≡ true = grind (arith, nat_tests) in rw h refl

named_found : (name bs : List ℕ) (a : Attribute) → 0 < length bs → ¬ (get_or bs 0 0 ≡ 62) → a ≡ piece bs → str_eq_ignore_ascii_case a.0 name ≡ true
    → a.1 ≡ value_named 0 name bs
named_found name [] a some other is same = absurd (omega arith)
named_found name (b ∷ bs) a some other is same =
    let h : (b == 62) ≡ false = grind (arith, nat_tests) in
    ap (λ (p : Attribute). p.1) is
    ∙ sym (ap (λ t. cond t [] (cond (str_eq_ignore_ascii_case (piece (b ∷ bs)).0 name) (piece (b ∷ bs)).1 (value_named ((piece (b ∷ bs)).2 - 1) name bs))) h
    ∙ ap (λ t. cond t (piece (b ∷ bs)).1 (value_named ((piece (b ∷ bs)).2 - 1) name bs)) (ap (λ (p : Attribute). str_eq_ignore_ascii_case p.0 name) (sym is) ∙ same))

named_past : (name bs : List ℕ) (a : Attribute) → 0 < length bs → ¬ (get_or bs 0 0 ≡ 62) → 0 < a.2 → a ≡ piece bs → str_eq_ignore_ascii_case a.0 name ≡ false
    → value_named 0 name (drop a.2 bs) ≡ value_named 0 name bs
named_past name [] a some other takes is same = absurd (omega arith)
named_past name (b ∷ bs) a some other takes is same =
    let h : (b == 62) ≡ false = grind (arith, nat_tests) in
    let e : suc (a.2 - 1) ≡ a.2 = omega arith in
    ap (λ (n : ℕ). value_named 0 name (drop n (b ∷ bs))) (sym e)
    ∙ sym (named_skips (a.2 - 1) name bs)
    ∙ ap (λ (p : Attribute). value_named (p.2 - 1) name bs) is
    ∙ sym (ap (λ t. cond t [] (cond (str_eq_ignore_ascii_case (piece (b ∷ bs)).0 name) (piece (b ∷ bs)).1 (value_named ((piece (b ∷ bs)).2 - 1) name bs))) h
    ∙ ap (λ t. cond t (piece (b ∷ bs)).1 (value_named ((piece (b ∷ bs)).2 - 1) name bs)) (ap (λ (p : Attribute). str_eq_ignore_ascii_case p.0 name) (sym is) ∙ same))

module _ (name bytes value : List ℕ) (at : ℕ) (h : value_named 0 name (drop at bytes) ≡ value) where
  pub named_ends : at < length bytes → get_or bytes at 0 ≡ 62 → [] ≡ value
  named_ends low is = named_closed name (drop at bytes) (first_at bytes at low ∙ is) ∙ h

  pub named_here : (a : Attribute) → at < length bytes → ¬ (get_or bytes at 0 ≡ 62) → a ≡ piece (drop at bytes) → str_eq_ignore_ascii_case a.0 name ≡ true → a.1 ≡ value
  named_here a low other is same =
      named_found name (drop at bytes) a (omega (arith, length-drop at bytes)) (λ f. other (sym (first_at bytes at low) ∙ f)) is same ∙ h

  pub named_later : (a : Attribute) → at < length bytes → ¬ (get_or bytes at 0 ≡ 62) → 0 < a.2 → a ≡ piece (drop at bytes) → str_eq_ignore_ascii_case a.0 name ≡ false
      → value_named 0 name (drop (at + a.2) bytes) ≡ value
  named_later a low other takes is same =
      ap (value_named 0 name) (sym (drop-drop a.2 at bytes))
      ∙ named_past name (drop at bytes) a (omega (arith, length-drop at bytes)) (λ f. other (sym (first_at bytes at low) ∙ f)) takes is same ∙ h

  pub named_never : length bytes ≤ at → [] ≡ value
  named_never none = empty_named (drop at bytes) (omega (arith, length-drop at bytes)) ∙ h
    where
      empty_named : (bs : List ℕ) → length bs ≡ 0 → [] ≡ value_named 0 name bs
      empty_named [] e = refl
      empty_named (b ∷ bs) e = absurd (omega arith)

-- ---- a search by the first byte of what is searched

module _ (test : List ℕ → Bool) (byte : ℕ) (implies : (rest : List ℕ) → test rest ≡ true → begins (λ b. b == byte) rest ≡ true) (bytes rest : List ℕ) (answer at : ℕ)
    (h : PassedTo test bytes answer at) (there : rest ≡ drop at bytes) where
  pub candidate : (skipped : ℕ) → Some skipped ≡ place (begins (λ b. b == byte)) rest → PassedTo test bytes answer (at + skipped) × (at + skipped < length bytes)
  candidate skipped found =
      let p = place_some (begins (λ b. b == byte)) rest skipped found in
      let w = h.within in
      (PassedTo-weaker (begins (λ b. b == byte)) test implies bytes rest answer at skipped h there p.0, omega (arith, p.0, p.1, length-drop at bytes, ap length there))

  pub no_candidate : None ≡ place (begins (λ b. b == byte)) rest → length bytes ≡ answer
  no_candidate none =
      let p = place_none (begins (λ b. b == byte)) rest none in
      let w = h.within in
      let on = PassedTo-weaker (begins (λ b. b == byte)) test implies bytes rest answer at (length rest) h there (sym p) in
      let later = on.later in
      omega (arith, later, length-drop at bytes, ap length there, nothing (drop (at + length rest) bytes) (omega (arith, length-drop at bytes, length-drop (at + length rest) bytes, ap length there)))
    where
      nothing : (bs : List ℕ) → length bs ≡ 0 → first_place test bs ≡ 0
      nothing [] e = refl
      nothing (b ∷ bs) e = absurd (omega arith)

-- what closes a comment begins with a hyphen, and an end tag with `<`
both_hyphens : (rest : List ℕ) → (x y : Bool) → has_prefix (codes "-->") rest ≡ x → has_prefix (codes "--!>") rest ≡ y → (x || y) ≡ true → begins (λ b. b == 45) rest ≡ true
both_hyphens [] x y p q h = p_absurd x y p q h
  where
    p_absurd : (x y : Bool) → false ≡ x → false ≡ y → (x || y) ≡ true → false ≡ true
    p_absurd true y p q h = p
    p_absurd false true p q h = q
    p_absurd false false p q h = h
both_hyphens (b ∷ rest) true y p q h = (Decides-eqb b 45).1 (sym ((Decides-eqb 45 b).0 (and_parts (45 == b) _ p).0))
both_hyphens (b ∷ rest) false true p q h = (Decides-eqb b 45).1 (sym ((Decides-eqb 45 b).0 (and_parts (45 == b) _ q).0))
both_hyphens (b ∷ rest) false false p q h = absurd (cc)

pub closes_by_hyphen : (rest : List ℕ) → closes_comment rest ≡ true → begins (λ b. b == 45) rest ≡ true
closes_by_hyphen rest h = both_hyphens rest _ _ refl refl h

pub ends_by_less : (name rest : List ℕ) → is_end_tag name rest ≡ true → begins (λ b. b == 60) rest ≡ true
ends_by_less name [] h = h
ends_by_less name (b ∷ rest) h =
    let p = (and_parts (has_prefix (codes "</") (b ∷ rest)) _ h).0 in
    (Decides-eqb b 60).1 (sym ((Decides-eqb 60 b).0 (and_parts (60 == b) _ p).0))

-- ---- comments

pub comment_at_once : (bytes : List ℕ) → has_prefix (codes ">") bytes ≡ true → 1 ≡ comment_length bytes
unfolding comment_length
comment_at_once bytes is =
    let close = first_place closes_comment bytes in
    sym (ap (λ b. cond b 1 (cond (has_prefix (codes "->") bytes) 2 (close + close_length (drop close bytes)))) is)

pub comment_by_hyphen : (bytes : List ℕ) → has_prefix (codes ">") bytes ≡ false → has_prefix (codes "->") bytes ≡ true → 2 ≡ comment_length bytes
unfolding comment_length
comment_by_hyphen bytes other is =
    let close = first_place closes_comment bytes in
    sym (ap (λ b. cond b 1 (cond (has_prefix (codes "->") bytes) 2 (close + close_length (drop close bytes)))) other
    ∙ ap (λ b. cond b 2 (close + close_length (drop close bytes))) is)

pub comment_closed : (bytes : List ℕ) (close length : ℕ) → has_prefix (codes ">") bytes ≡ false → has_prefix (codes "->") bytes ≡ false
    → close ≡ first_place closes_comment bytes → length ≡ close_length (drop close bytes) → close + length ≡ comment_length bytes
unfolding comment_length
comment_closed bytes close length other more is same =
    let place = first_place closes_comment bytes in
    ap (λ (n : ℕ). close + n) same ∙ ap (λ (n : ℕ). n + close_length (drop n bytes)) is
    ∙ sym (ap (λ b. cond b 1 (cond (has_prefix (codes "->") bytes) 2 (place + close_length (drop place bytes)))) other
    ∙ ap (λ b. cond b 2 (place + close_length (drop place bytes))) more)

pub declared_comment : (bytes : List ℕ) (n : ℕ) → has_prefix (codes "!--") bytes ≡ true → n ≡ comment_length (drop 3 bytes) → 3 + n ≡ declaration_length bytes
unfolding declaration_length
declared_comment bytes n is same =
    ap (λ (m : ℕ). 3 + m) same ∙ sym (ap (λ b. cond b (3 + comment_length (drop 3 bytes)) (past_byte bytes 62)) is)

pub declared_other : (bytes : List ℕ) (n : ℕ) → has_prefix (codes "!--") bytes ≡ false → n ≡ past_byte bytes 62 → n ≡ declaration_length bytes
unfolding declaration_length
declared_other bytes n is same = same ∙ sym (ap (λ b. cond b (3 + comment_length (drop 3 bytes)) (past_byte bytes 62)) is)

-- ---- names of end tags

pub too_short : (name bytes : List ℕ) → length bytes < length name → false ≡ has_name name bytes
too_short name bytes h = ap (λ b. b && str_eq_ignore_ascii_case (take (length name) bytes) name) (sym (nothing (drop (length name) bytes) (omega (arith, length-drop (length name) bytes))))
  where
    nothing : (bs : List ℕ) → length bs ≡ 0 → begins ends_name bs ≡ false
    nothing [] e = refl
    nothing (b ∷ bs) e = absurd (omega arith)
