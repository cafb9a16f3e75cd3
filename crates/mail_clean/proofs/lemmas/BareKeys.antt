-- No key ends in a blank in a header block of the grammar.
use Rattle.std.proofs.Common.{◌≡◌, ◌∙◌, ℕ, zero, suc, ◌-◌, ◌<◌, Bool, true, false, List, [], ◌∷◌, ◌++◌, length, take, get_or, Ok, Err}
use Rattle.std.proofs.Common.{refl, sym, ap, subst, inl, inr, arith}
use Rattle.std.specs.Prelude.{◌||◌, ◌==◌, Result, nat_lt}
use Rattle.std.specs.List.{list_all, suffix_len}
use Rattle.std.specs.Str.{bytes_eq}
use Rattle.std.proofs.lemmas.Bool.{eqb-true}
use Rattle.std.proofs.lemmas.Bool.{and_from, cases_Bool}
use Rattle.std.proofs.lemmas.List.{take_all}
use Rattle.std.proofs.lemmas.List.Sums.{suffix_len_is}
use Rattle.std.proofs.lemmas.Slice.Eq.{bytes_eq-Decides}
use Rattle.mail_codec.specs.Ascii.{is_blank, space}
use Rattle.mailparse.specs.Block.{HeaderList, bare_key, read_headers}
use Rattle.mailparse.specs.Header.{Header}
use Rattle.mailparse.specs.Refusal.{Reads}
use Rattle.mail_grammar.specs.Headers.{IsBlock, is_name_byte}
use Rattle.mail_check_laws.proofs.lemmas.Headers.{name_parts}
use Rattle.mail_laws.specs.LenientAgreement.{has_bare_keys}
use Rattle.mail_clean.specs.StrictMails.{AreHeaders, last_of_all, before_more, IsHeaderOf}
use Rattle.mail_clean.proofs.lemmas.StrictHeaderLists.{headers_read, headers_there}
use Rattle.mail_grammar.proofs.lemmas.Boundaries.{all_head, all_tail}

-- a byte of a name is no blank
unblank : (b : ℕ) → is_name_byte b ≡ true → is_blank b ≡ false
unblank b is = elim (cases_Bool (is_blank b)) [
  | inr e ↦ e
  | inl e ↦ absurd (low b e (name_parts b is).0)
]
  where
    low : (b : ℕ) → is_blank b ≡ true → nat_lt space b ≡ true → ⊥
    low b e above = elim (cases_Bool (b == 32)) [
      | inl f ↦ let no : nat_lt space 32 ≡ true = subst (λ (x : ℕ). nat_lt space x ≡ true) (eqb-true b 32 f) above in absurd (cc)
      | inr f ↦
          let tab : (b == 9) ≡ true = sym (ap (λ (t : Bool). t || b == 9) f) ∙ e in
          let no : nat_lt space 9 ≡ true = subst (λ (x : ℕ). nat_lt space x ≡ true) (eqb-true b 9 tab) above in absurd (cc)
    ]

byte_unblank : (name : List ℕ) (k : ℕ) → list_all is_name_byte name ≡ true → k < length name → is_blank (get_or name k 0) ≡ false
byte_unblank [] k all low = absurd (omega (arith, low))
byte_unblank (b ∷ name) zero all low = unblank b (all_head is_name_byte b name all)
byte_unblank (b ∷ name) (suc k) all low = byte_unblank name k (all_tail is_name_byte b name all) (omega (arith, low))

name_bare : (name : List ℕ) → list_all is_name_byte name ≡ true → bare_key name ≡ name
name_bare name all =
    let size = suffix_len_is is_blank name (length name) 0 (omega arith) (λ k low high. absurd (omega (arith, low, high)))
    (λ some. byte_unblank name (length name - 1) all (omega (arith, some))) in
    take_all (length name - suffix_len is_blank name) name (omega (arith, size))

header_bare : (header : Header) (part : List ℕ) → IsHeaderOf header part → bytes_eq (bare_key header.key) header.key ≡ true
header_bare header part of =
    (bytes_eq-Decides (bare_key header.key) header.key).1
    (subst (λ (key : List ℕ). bare_key key ≡ key) (sym of.key) (name_bare (of.is.first ∷ of.is.others) of.is.is_name))

headers_bare : (headers : List Header) (part : List ℕ) → AreHeaders headers part → has_bare_keys headers ≡ true
headers_bare headers part (last_of_all {header = header} {part = own} of ends made) =
    and_from (bytes_eq (bare_key header.key) header.key) true (header_bare header own of) refl
headers_bare headers part (before_more {header = header} {headers = others} {part = own} {rest = rest} of more made) =
    and_from (bytes_eq (bare_key header.key) header.key) (has_bare_keys others) (header_bare header own of)
    (headers_bare others rest more)

-- the headers that are read from bytes which begin with such a block
pub block_bare : (part body : List ℕ) (headers : List Header) (index : ℕ) → IsBlock part
    → read_headers (part ++ body) ≡ Ok (record { headers = headers; index = index }) → has_bare_keys headers ≡ true
block_bare part body headers index is read =
    let there = headers_there part is in
    let same : ◌≡◌ {A = Reads HeaderList} (Ok (record { headers = there.0; index = length part })) (Ok (record { headers = headers; index = index })) =
    sym (headers_read there.0 part there.1 body) ∙ read in
    subst (λ (hs : List Header). has_bare_keys hs ≡ true) (ap headers_in same) (headers_bare there.0 part there.1)
  where
    headers_in : Reads HeaderList → List Header
    headers_in (Ok block) = block.headers
    headers_in (Err refusal) = []
