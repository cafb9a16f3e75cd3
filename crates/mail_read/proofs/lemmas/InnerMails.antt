-- Lemmas on the mails inside a mail.
use Rattle.std.proofs.Common.{◌≡◌, ◌≢◌, inl, inr, ℕ, zero, suc, ◌-◌, Bool, true, false, List, [], ◌∷◌, ◌++◌, Option, Some, None, Ok, Err, ◌<◌, length, drop, get_or, refl, sym, ap, ◌∙◌, arith, append_assoc, add-one, drop-cons}
use Rattle.std.specs.Prelude.{flat_map, min, ◌+◌, ◌^◌}
use Rattle.std.specs.Cow.{cow_str_bytes}
use Rattle.std.specs.Result.{result_err}
use Rattle.std.proofs.lemmas.Bool.{cases_Bool, cond-true, cond-false}
use Rattle.std.proofs.lemmas.List.{append-nil}
use Rattle.mail_codec.specs.Charset.{Charsets}
use Rattle.mailparse.specs.Mail.{Tree, root}
use Rattle.mailparse.specs.Outcome.{IsMemory, IsRefusalOrMemory, refusal_of}
use Rattle.mailparse.specs.Placement.{Placement}
use Rattle.mailparse.specs.Refusal.{Reads, Refusal, generic, encoding, base64_fault}
use Rattle.mailparse.specs.declared.error.MailParseError.{MailParseError}
use Rattle.mailparse.specs.declared.error.MailParseError.TheVariants.{QuotedPrintableDecodeError, Base64DecodeError, EncodingError, Generic, Memory}
use Rattle.mail_read.specs.InnerMails.{Forwarded, InnerMail, forwarded, holds_mail, inner_mails_by, is_plain, mail_bytes, mail_read_by, mail_start, mails_below, mails_below_by, mails_in_place, mails_in_place_by, places_under}
use Rattle.mail_read.specs.PartPlaces.{Place}
use Rattle.mail_read.specs.Reading.{mail_placements, mail_reading}
use Rattle.mail_read.specs.lenient.Encoding.{lenient_body_kind}

-- a mail inside, given its fields
abbrev pub inner_with : List ℕ → List ℕ → Option ℕ → Option Refusal → InnerMail
inner_with path bytes start refusal = record { path = path; bytes = bytes; start = start; refusal = refusal }

pub inner_mails-some : (reads : List ℕ → Reads Tree) (placed : Tree → List Placement) (most : ℕ) (path : List ℕ) (start : Option ℕ) (t : Tree) (found : List Placement) → most ≢ 0
    → inner_mails_by reads placed most path start t found ≡ flat_map (mails_in_place_by reads placed (most - 1) start) (places_under path t found)
inner_mails-some reads placed zero path start t found h = absurd (h refl)
inner_mails-some reads placed (suc most) path start t found h = let e : suc most - 1 ≡ most = omega arith in rw e refl

pub held-none : (reads : List ℕ → Reads Tree) (placed : Tree → List Placement) (most : ℕ) (start : Option ℕ) (place : Place) → holds_mail place ≡ false → mails_in_place_by reads placed most start place ≡ []
held-none reads placed most start place h = cond-false (holds_mail place) _ _ h

-- a mail that is held and was read so
held-read : (reads : List ℕ → Reads Tree) (placed : Tree → List Placement) (most : ℕ) (start at : Option ℕ) (place : Place) (bytes : List ℕ) (read : Reads Tree) → holds_mail place ≡ true
    → bytes ≡ mail_bytes place → at ≡ mail_start start place → reads bytes ≡ read
    → mails_in_place_by reads placed most start place ≡ inner_with place.path bytes at (result_err read) ∷ mails_below_by reads placed most place.path at read
held-read reads placed most start at place bytes read h same there e =
    let is : mail_read_by reads placed place ≡ read = ap reads (sym same) ∙ e in
    cond-true (holds_mail place) _ _ h
    ∙ ap (λ (r : Reads Tree). inner_with place.path (mail_bytes place) (mail_start start place) (result_err r) ∷ mails_below_by reads placed most place.path (mail_start start place) r) is
    ∙ ap (λ (b : List ℕ). inner_with place.path b (mail_start start place) (result_err read) ∷ mails_below_by reads placed most place.path (mail_start start place) read) (sym same)
    ∙ ap (λ (s : Option ℕ). inner_with place.path bytes s (result_err read) ∷ mails_below_by reads placed most place.path s read) (sym there)

some-is : {A : Type 0} (x y : A) → ◌≡◌ {A = Option A} (Some x) (Some y) → x ≡ y
some-is x y e = cc

none≢some : {A : Type 0} {x : A} → ◌≡◌ {A = Option A} None (Some x) → ⊥
none≢some e = cc

some≢none : {A : Type 0} {x : A} → ◌≡◌ {A = Option A} (Some x) None → ⊥
some≢none e = cc

-- the mail that a part forwards, given its fields
abbrev pub forwarded_with : List ℕ → Option ℕ → Forwarded
forwarded_with bytes start = record { bytes = bytes; start = start }

pub forwarded-is : (start at : Option ℕ) (place : Place) (bytes : List ℕ) → holds_mail place ≡ true → bytes ≡ mail_bytes place → at ≡ mail_start start place
    → ◌≡◌ {A = Option Forwarded} (Some (forwarded_with bytes at)) (forwarded start place)
forwarded-is start at place bytes h same there =
    ap (λ (b : List ℕ). Some (forwarded_with b at)) same ∙ ap (λ (s : Option ℕ). Some (forwarded_with (mail_bytes place) s)) there
    ∙ sym (cond-true (holds_mail place) _ _ h)

-- a part that forwards none, and one whose mail was read so
pub not_forwarded_by : (reads : List ℕ → Reads Tree) (placed : Tree → List Placement) (most : ℕ) (start : Option ℕ) (place : Place) → ◌≡◌ {A = Option Forwarded} None (forwarded start place)
    → mails_in_place_by reads placed most start place ≡ []
not_forwarded_by reads placed most start place h = elim (cases_Bool (holds_mail place)) [
  | inl holds ↦ absurd (none≢some (h ∙ cond-true (holds_mail place) _ _ holds))
  | inr holds ↦ held-none reads placed most start place holds
]

pub forwarded_read_by : (reads : List ℕ → Reads Tree) (placed : Tree → List Placement) (most : ℕ) (start at : Option ℕ) (place : Place) (bytes : List ℕ) (read : Reads Tree)
    → ◌≡◌ {A = Option Forwarded} (Some (forwarded_with bytes at)) (forwarded start place) → reads bytes ≡ read
    → mails_in_place_by reads placed most start place ≡ inner_with place.path bytes at (result_err read) ∷ mails_below_by reads placed most place.path at read
forwarded_read_by reads placed most start at place bytes read h e = elim (cases_Bool (holds_mail place)) [
  | inl holds ↦
      let same = some-is _ _ (h ∙ cond-true (holds_mail place) _ _ holds) in
      held-read reads placed most start at place bytes read holds (ap (λ (f : Forwarded). f.bytes) same) (ap (λ (f : Forwarded). f.start) same) e
  | inr holds ↦ absurd (some≢none (h ∙ cond-false (holds_mail place) _ _ holds))
]

-- the same as the programs read mails
pub not_forwarded : (known : Charsets) (limit most : ℕ) (start : Option ℕ) (place : Place) → ◌≡◌ {A = Option Forwarded} None (forwarded start place)
    → mails_in_place known limit most start place ≡ []
not_forwarded known limit = not_forwarded_by (mail_reading known limit) mail_placements

pub forwarded_read : (known : Charsets) (limit most : ℕ) (start at : Option ℕ) (place : Place) (bytes : List ℕ) (read : Reads Tree)
    → ◌≡◌ {A = Option Forwarded} (Some (forwarded_with bytes at)) (forwarded start place) → mail_reading known limit bytes ≡ read
    → mails_in_place known limit most start place ≡ inner_with place.path bytes at (result_err read) ∷ mails_below known limit most place.path at read
forwarded_read known limit = forwarded_read_by (mail_reading known limit) mail_placements

-- the refusal in an error that is not out of memory
refused-is : (e : MailParseError) (given : Reads Tree) → (IsMemory e → ⊥) → IsRefusalOrMemory e given
    → (r : Refusal) × (refusal_of e ≡ Some r) × (given ≡ Err r)
refused-is (QuotedPrintableDecodeError fault) given passed is = absurd is
refused-is (Base64DecodeError fault) given passed is = (base64_fault fault.group, refl, is)
refused-is (EncodingError text) given passed is = (encoding (cow_str_bytes text), refl, is)
refused-is (Generic text) given passed is = (generic text.now, refl, is)
refused-is (Memory e) given passed is = absurd (passed tt)

-- the mails that a step adds, before the remaining ones
pub next : {A B : Type 0} (f : A → List B) (done new all : List B) (x : A) (left rest : List A) (xs : List B) → left ≡ x ∷ rest → f x ≡ xs → new ≡ done ++ xs
    → done ++ flat_map f left ≡ all → new ++ flat_map f rest ≡ all
next {A = A} {B = B} f done new all x left rest xs is one made here =
    ap (λ (t : List B). t ++ flat_map f rest) (made ∙ ap (λ (t : List B). done ++ t) (sym one))
    ∙ append_assoc done (f x) (flat_map f rest) ∙ ap (λ (l : List A). done ++ flat_map f l) (sym is) ∙ here

-- a part without a mail
pub next-none : (reads : List ℕ → Reads Tree) (placed : Tree → List Placement) (most : ℕ) (start : Option ℕ) (place : Place) (left rest : List Place) (done all : List InnerMail) → left ≡ place ∷ rest
    → holds_mail place ≡ false → done ++ flat_map (mails_in_place_by reads placed most start) left ≡ all
    → done ++ flat_map (mails_in_place_by reads placed most start) rest ≡ all
next-none reads placed most start place left rest done all is h here =
    next (mails_in_place_by reads placed most start) done done all place left rest [] is (held-none reads placed most start place h) (sym (append-nil done)) here

-- a part with a mail that is read
pub next-read : (reads : List ℕ → Reads Tree) (placed : Tree → List Placement) (most : ℕ) (start at : Option ℕ) (place : Place) (left rest : List Place) (bytes : List ℕ) (t : Tree) (found : List Placement)
    (done mid new all : List InnerMail) → left ≡ place ∷ rest → holds_mail place ≡ true → bytes ≡ mail_bytes place → at ≡ mail_start start place
    → reads bytes ≡ Ok t → found ≡ placed t → mid ≡ done ++ inner_with place.path bytes at None ∷ []
    → new ≡ mid ++ inner_mails_by reads placed most place.path at t found → done ++ flat_map (mails_in_place_by reads placed most start) left ≡ all
    → new ++ flat_map (mails_in_place_by reads placed most start) rest ≡ all
next-read reads placed most start at place left rest bytes t found done mid new all is h same there e where_is one two here =
    next (mails_in_place_by reads placed most start) done new all place left rest _ is (held-read reads placed most start at place bytes (Ok t) h same there e)
    (two ∙ ap (λ (ps : List Placement). mid ++ inner_mails_by reads placed most place.path at t ps) where_is
    ∙ ap (λ (l : List InnerMail). l ++ inner_mails_by reads placed most place.path at t (placed t)) one
    ∙ append_assoc done (inner_with place.path bytes at None ∷ []) (inner_mails_by reads placed most place.path at t (placed t))) here

-- a part with a mail that is refused
pub next-refused : (reads : List ℕ → Reads Tree) (placed : Tree → List Placement) (most : ℕ) (start at : Option ℕ) (place : Place) (left rest : List Place) (bytes : List ℕ) (e : MailParseError)
    (done new all : List InnerMail) → left ≡ place ∷ rest → holds_mail place ≡ true → bytes ≡ mail_bytes place → at ≡ mail_start start place
    → IsRefusalOrMemory e (reads bytes) → (IsMemory e → ⊥) → new ≡ done ++ inner_with place.path bytes at (refusal_of e) ∷ []
    → done ++ flat_map (mails_in_place_by reads placed most start) left ≡ all → new ++ flat_map (mails_in_place_by reads placed most start) rest ≡ all
next-refused reads placed most start at place left rest bytes e done new all is h same there refused passed made here =
    let r = refused-is e (reads bytes) passed refused in
    next (mails_in_place_by reads placed most start) done new all place left rest _ is (held-read reads placed most start at place bytes (Err r.0) h same there r.2)
    (made ∙ ap (λ (o : Option Refusal). done ++ inner_with place.path bytes at o ∷ []) r.1) here

-- ---- the offset of a mail

-- the first of the items that are left
pub drop_next : {A : Type 0} (xs : List A) (i : ℕ) (x : A) → i < length xs → x ≡ get_or xs i x → drop i xs ≡ x ∷ drop (i + 1) xs
drop_next xs i x h e = drop-cons xs i x h ∙ ap (λ y. y ∷ drop (suc i) xs) (sym e) ∙ ap (λ n. x ∷ drop n xs) (sym (add-one i))

pub start-encoded : (start : ℕ) (place : Place) (plain : Bool) → plain ≡ is_plain (lenient_body_kind (root place.part)) → plain ≡ false
    → None ≡ mail_start (Some start) place
unfolding mail_start
start-encoded start place plain is h = sym (cond-false _ _ _ (sym is ∙ h))

pub start-plain : (start at : ℕ) (place : Place) (plain : Bool) → plain ≡ is_plain (lenient_body_kind (root place.part)) → plain ≡ true
    → at ≡ min (start + place.placement.body.start) (2 ^ 64 - 1) → Some at ≡ mail_start (Some start) place
unfolding mail_start
start-plain start at place plain is h sum = ap Some sum ∙ sym (cond-true _ _ _ (sym is ∙ h))
