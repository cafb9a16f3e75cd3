-- Members of an object that are written one after another.
use Rattle.std.proofs.Common.{◌≡◌, ℕ, Bool, true, false, List, [], ◌∷◌, ◌++◌, Option, Result, Ok, Err, refl, ap, subst}
use Rattle.std.proofs.KnownBytes.{Appends-trans, Appends-nil}
use Rattle.std.proofs.lemmas.Bool.{and_parts, eqb-true, false≢true}
use Rattle.std.proofs.lemmas.Slice.Eq.{bytes_eq-Decides}
use Rattle.std.specs.Prelude.{codes, ◌==◌, ◌||◌, if◌then◌else◌}
use Rattle.std.specs.Io.KnownBytes.{Appends}
use Rattle.std.specs.List.{list_all}
use Rattle.json.specs.Json.{Json}
use Rattle.mail_program.specs.declared.fault.Fault.{Fault}
use Rattle.mail_json_text.specs.Members.{Adds, AddsAt, AddsMember, is_key, is_plain_byte, members_at, name_in, position_in}
use Rattle.mail_json_text.specs.Printed.{Member, line_of, members_after, object_of, one, text_of}
use Rattle.mail_program.specs.Streams.{Writes}
use Rattle.mail_json_text.specs.declared.json_text.Position.{Position}
use Rattle.mail_json_text.specs.declared.json_text.Position.TheVariants.{First, Later}
use Rattle.mail_json_text.proofs.lemmas.Objects.{begun-one, line_written, members_appended, named, object_appended, object_written}
use Rattle.mail_json_text.proofs.lemmas.Written.{appends_as}

-- a key and a value are a member
keyed : (d : ℕ) (rest name : List ℕ) (v : Json) (is_later : Bool) → (d == 44) ≡ is_later → (is_later || (d == 123)) ≡ true
    → rest ≡ 34 ∷ (name ++ (34 ∷ 58 ∷ [])) → list_all is_plain_byte name ≡ true
    → (d ∷ rest) ++ text_of v ≡ members_at (if is_later then Later else First) (one name v)
keyed d rest name v true later is e plain = rw (eqb-true d 44 later, e) (named name v plain)
keyed d rest name v false later is e plain = rw (eqb-true d 123 is, e) (begun-one name v plain)

key_is : (key : List ℕ) (v : Json) → is_key key ≡ true → key ++ text_of v ≡ members_at (position_in key) (one (name_in key) v)
key_is [] v is = absurd (false≢true is)
key_is (d ∷ rest) v is =
    let parts = and_parts _ _ is in
    let name = and_parts _ _ parts.0 in
    keyed d rest (name_in (d ∷ rest)) v (d == 44) refl parts.1 ((bytes_eq-Decides _ _).0 name.1) name.0

-- a value after its key
pub valued : (a b c : Option (List ℕ)) (key : List ℕ) (v : Json) → is_key key ≡ true → Appends a b key → Appends b c (text_of v)
    → Adds (position_in key) a c (one (name_in key) v)
valued a b c key v is p q = record { text = appends_as a c _ _ (key_is key v is) (Appends-trans a b c _ _ p q) }

pub member : {T : Type 0} (a b c : Option (List ℕ)) (r : Result T Fault) (key : List ℕ) (v : Json) → is_key key ≡ true → Appends a b key → Writes b c r (text_of v)
    → AddsMember a c r key v
member a b c (Ok done) key v is p q = valued a b c key v is p q
member a b c (Err fault) key v is p q = q

after : (position : Position) (a b c : Option (List ℕ)) (m : Member) (ms ns : List Member) → Adds position a b (m ∷ ms) → Adds Later b c ns
    → Adds position a c ((m ∷ ms) ++ ns)
after First a b c m ms ns p q = record { text = object_appended a b c m ms ns p.text q.text }
after Later a b c m ms ns p q = record { text = members_appended a b c (m ∷ ms) ns p.text q.text }

infixl 50 ◌⨾◌
-- members after others
pub ◌⨾◌ : {position : Position} {a b c : Option (List ℕ)} {m : Member} {ms ns : List Member} → Adds position a b (m ∷ ms) → Adds Later b c ns
    → Adds position a c ((m ∷ ms) ++ ns)
p ⨾ q = after _ _ _ _ _ _ _ p q

-- the same, if those after them were written
pub then_added : {T : Type 0} {a b : Option (List ℕ)} {m : Member} {ms : List Member} (position : Position) (c : Option (List ℕ)) (r : Result T Fault) (ns : List Member)
    → Adds position a b (m ∷ ms) → AddsAt Later b c r ns → AddsAt position a c r ((m ∷ ms) ++ ns)
then_added position c (Ok done) ns p q = p ⨾ q
then_added position c (Err fault) ns p q = q

-- no members
pub none_added : (a : Option (List ℕ)) → Adds Later a a []
unfolding members_after
none_added a = record { text = Appends-nil a }

-- the same members by another name; the same value of a member; and the same members, if they were written
pub renamed : {position : Position} {a b : Option (List ℕ)} {ms ns : List Member} → Adds position a b ms → ms ≡ ns → Adds position a b ns
renamed {position} {a} {b} p e = subst (Adds position a b) e p

pub value_renamed : {X : Type 0} {position : Position} {a b : Option (List ℕ)} {name : List ℕ} (value : X → Json) (x y : X) → Adds position a b (one name (value x)) → x ≡ y
    → Adds position a b (one name (value y))
value_renamed {name = name} value x y p e = renamed p (ap (λ z. one name (value z)) e)

pub adds_as : {T : Type 0} (position : Position) (a b : Option (List ℕ)) (r : Result T Fault) (ms ns : List Member) → ms ≡ ns → AddsAt position a b r ms
    → AddsAt position a b r ns
adds_as position a b r ms ns e p = subst (λ ms. AddsAt position a b r ms) e p

-- the end of an object, and of its line, which have another name
pub closed : {T : Type 0} {a b : Option (List ℕ)} {ms : List Member} (c : Option (List ℕ)) (r : Result T Fault) (v : Json) → Adds First a b ms → Writes b c r (codes "}")
    → object_of ms ≡ v → Writes a c r (text_of v)
closed {a = a} {b = b} {ms = ms} c r v p q e = subst (λ v. Writes a c r (text_of v)) e (object_written a b c r ms p.text q)

pub line_closed : {T : Type 0} {a b : Option (List ℕ)} {ms : List Member} (c : Option (List ℕ)) (r : Result T Fault) (v : Json) → Adds First a b ms
    → Writes b c r (codes "}\n") → object_of ms ≡ v → Writes a c r (line_of v)
line_closed {a = a} {b = b} {ms = ms} c r v p q e = subst (λ v. Writes a c r (line_of v)) e (line_written a b c r ms p.text q)
