-- Objects and lists that are written piece by piece.
use Rattle.std.proofs.Common.{◌≡◌, ℕ, true, List, [], ◌∷◌, ◌++◌, drop, Option, Result, refl, sym, ap, ◌∙◌, append_assoc, append-nil}
use Rattle.std.proofs.KnownBytes.{Appends-trans}
use Rattle.std.proofs.lemmas.Grind.{flat_map-append}
use Rattle.std.specs.Prelude.{codes}
use Rattle.std.specs.Io.KnownBytes.{Appends}
use Rattle.json.specs.Json.{Json}
use Rattle.json.specs.Value.{items_of}
use Rattle.mail_program.specs.declared.fault.Fault.{Fault}
use Rattle.mail_json_text.specs.JsonText.{escaped, json_text}
use Rattle.mail_json_text.specs.Printed.{Member, after_commas, begun, items_text, line_of, list_of, listed, member_text, members_after, members_of, members_text, object_of, one, text_of}
use Rattle.mail_json_text.specs.Printed.{pair_value}
use Rattle.mail_program.specs.Streams.{Writes}
use Rattle.mail_json_text.proofs.lemmas.Plain.{are_plain, json_text-plain}
use Rattle.mail_json_text.proofs.lemmas.Written.{appends_as, writes_as, writes_then}

-- the text before the value of a member with a plain name: `,"name":`
abbrev pub before_value : List ℕ → List ℕ
before_value name = 44 ∷ 34 ∷ (name ++ (34 ∷ 58 ∷ []))

pub named : (name : List ℕ) (v : Json) → are_plain name ≡ true → before_value name ++ text_of v ≡ members_after (one name v)
unfolding members_after
named name v plain =
    ap (λ t. 44 ∷ 34 ∷ t) (append_assoc name (34 ∷ 58 ∷ []) (text_of v) ∙ sym (append_assoc name (34 ∷ []) (58 ∷ text_of v)))
    ∙ ap (λ t. 44 ∷ (t ++ (58 ∷ text_of v))) (sym (json_text-plain name plain)) ∙ sym (append-nil (44 ∷ (json_text name ++ (58 ∷ text_of v))))

members-append : (ms ns : List Member) → members_after ms ++ members_after ns ≡ members_after (ms ++ ns)
unfolding members_after
members-append ms ns = sym (flat_map-append (λ m. codes "," ++ member_text m) ms ns)

pub begun-one : (name : List ℕ) (v : Json) → are_plain name ≡ true → (123 ∷ 34 ∷ (name ++ (34 ∷ 58 ∷ []))) ++ text_of v ≡ begun (one name v)
unfolding begun
begun-one name v plain = ap (λ t. 123 ∷ drop 1 t) (named name v plain)

begun-more : (m : Member) (ms ns : List Member) → begun (m ∷ ms) ++ members_after ns ≡ begun ((m ∷ ms) ++ ns)
unfolding begun members_after
begun-more m ms ns = ap (λ t. 123 ∷ drop 1 t) (members-append (m ∷ ms) ns)

members_true : (ms : List Member) → members_text true (members_of ms) ≡ after_commas member_text ms ++ (125 ∷ [])
unfolding members_text
members_true [] = refl
members_true (m ∷ ms) =
    ap (λ t. 44 ∷ (json_text m.0 ++ (58 ∷ (text_of m.1 ++ t)))) (members_true ms)
    ∙ ap (λ t. 44 ∷ t) (sym (append_assoc (member_text m) (after_commas member_text ms) (125 ∷ [])
    ∙ append_assoc (json_text m.0) (58 ∷ text_of m.1) (after_commas member_text ms ++ (125 ∷ []))))

begun-closed : (ms : List Member) → begun ms ++ (125 ∷ []) ≡ text_of (object_of ms)
unfolding begun members_after text_of members_text
begun-closed [] = refl
begun-closed (m ∷ ms) = ap (λ t. 123 ∷ drop 1 t) (sym (members_true (m ∷ ms)))

-- ---- lists

items_true : (js : List Json) → items_text true (items_of js) ≡ after_commas text_of js ++ (93 ∷ [])
unfolding items_text
items_true [] = refl
items_true (j ∷ js) = ap (λ t. 44 ∷ (text_of j ++ t)) (items_true js) ∙ ap (λ t. 44 ∷ t) (sym (append_assoc (text_of j) (after_commas text_of js) (93 ∷ [])))

list-closed : (js : List Json) → ((91 ∷ []) ++ listed text_of [] js) ++ (93 ∷ []) ≡ text_of (list_of js)
unfolding text_of items_text
list-closed [] = refl
list-closed (j ∷ js) =
    ap (λ t. 91 ∷ t) (append_assoc (text_of j) (after_commas text_of js) (93 ∷ []) ∙ ap (λ t. text_of j ++ t) (sym (items_true js)))

-- a pair of strings
pub pair-text : (name value : List ℕ)
    → ((((91 ∷ 34 ∷ []) ++ escaped name) ++ (34 ∷ 44 ∷ 34 ∷ [])) ++ escaped value) ++ (34 ∷ 93 ∷ []) ≡ text_of (pair_value (name, value))
unfolding text_of items_text json_text
pair-text name value =
    append_assoc (((91 ∷ 34 ∷ []) ++ escaped name) ++ (34 ∷ 44 ∷ 34 ∷ [])) (escaped value) (34 ∷ 93 ∷ [])
    ∙ append_assoc ((91 ∷ 34 ∷ []) ++ escaped name) (34 ∷ 44 ∷ 34 ∷ []) (escaped value ++ (34 ∷ 93 ∷ []))
    ∙ sym (ap (λ (t : List ℕ). 91 ∷ 34 ∷ ((escaped name ++ 34 ∷ []) ++ (44 ∷ 34 ∷ t))) (append_assoc (escaped value) (34 ∷ []) (93 ∷ []))
    ∙ ap (λ (t : List ℕ). 91 ∷ 34 ∷ t) (append_assoc (escaped name) (34 ∷ []) (44 ∷ 34 ∷ (escaped value ++ (34 ∷ 93 ∷ [])))))

begun-listed : (ms : List Member) → (123 ∷ []) ++ listed member_text [] ms ≡ begun ms
unfolding begun members_after
begun-listed [] = refl
begun-listed (m ∷ ms) = refl

-- ---- what was written

-- a value by another name
pub value_as : {X : Type 0} (value : X → Json) (old new : Option (List ℕ)) (a b : X) → a ≡ b → Appends old new (text_of (value a))
    → Appends old new (text_of (value b))
value_as value old new a b e p = appends_as old new _ _ (ap (λ x. text_of (value x)) e) p

-- members after members
pub members_appended : (a b c : Option (List ℕ)) (ms ns : List Member) → Appends a b (members_after ms) → Appends b c (members_after ns)
    → Appends a c (members_after (ms ++ ns))
members_appended a b c ms ns p q = appends_as a c _ _ (members-append ms ns) (Appends-trans a b c _ _ p q)

pub object_listed : (a b c : Option (List ℕ)) (ms : List Member) → Appends a b (123 ∷ []) → Appends b c (listed member_text [] ms) → Appends a c (begun ms)
object_listed a b c ms p q = appends_as a c _ _ (begun-listed ms) (Appends-trans a b c _ _ p q)

pub object_appended : (a b c : Option (List ℕ)) (m : Member) (ms ns : List Member) → Appends a b (begun (m ∷ ms)) → Appends b c (members_after ns)
    → Appends a c (begun ((m ∷ ms) ++ ns))
object_appended a b c m ms ns p q = appends_as a c _ _ (begun-more m ms ns) (Appends-trans a b c _ _ p q)

pub object_written : {T : Type 0} (a b c : Option (List ℕ)) (r : Result T Fault) (ms : List Member) → Appends a b (begun ms) → Writes b c r (125 ∷ [])
    → Writes a c r (text_of (object_of ms))
object_written a b c r ms p q = writes_as a c r _ _ (begun-closed ms) (writes_then a b c r _ _ p q)

-- the line of an object
pub line_written : {T : Type 0} (a b c : Option (List ℕ)) (r : Result T Fault) (ms : List Member) → Appends a b (begun ms)
    → Writes b c r (codes "}\n") → Writes a c r (line_of (object_of ms))
line_written a b c r ms p q =
    writes_as a c r _ _ (sym (append_assoc (begun ms) (codes "}") (codes "\n")) ∙ ap (λ t. t ++ codes "\n") (begun-closed ms)) (writes_then a b c r _ _ p q)

-- a list between its brackets
pub list_appended : (a b c d : Option (List ℕ)) (js : List Json) → Appends a b (91 ∷ []) → Appends b c (listed text_of [] js) → Appends c d (93 ∷ [])
    → Appends a d (text_of (list_of js))
list_appended a b c d js p q s = appends_as a d _ _ (list-closed js) (Appends-trans a c d _ _ (Appends-trans a b c _ _ p q) s)

pub list_written : {T : Type 0} (a b c d : Option (List ℕ)) (r : Result T Fault) (js : List Json) → Appends a b (91 ∷ [])
    → Appends b c (listed text_of [] js) → Writes c d r (93 ∷ []) → Writes a d r (text_of (list_of js))
list_written a b c d r js p q s = writes_as a d r _ _ (list-closed js) (writes_then a c d r _ _ (Appends-trans a b c _ _ p q) s)
