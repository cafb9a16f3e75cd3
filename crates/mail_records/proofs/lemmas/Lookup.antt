-- Lemmas on looking up the headers of a part.
use Rattle.std.proofs.Common.{◌≡◌, ℕ, zero, suc, true, false, List, [], ◌∷◌, Option, Some, None, is_some, codes, refl, sym, ap, arith, option_map}
use Rattle.std.proofs.lemmas.Bool.{and_parts, false≢true, ltb-true}
use Rattle.std.specs.Borrow.{Bor}
use Rattle.std.specs.List.{list_all}
use Rattle.std.specs.Option.{option_copied}
use Rattle.std.specs.Prelude.{nat_lt}
use Rattle.std.specs.Str.{IsAscii}
use Rattle.mail_codec.specs.Charset.{Charsets}
use Rattle.mailparse.specs.Header.{Header}
use Rattle.mailparse.specs.Mail.{Node}
use Rattle.mailparse.specs.Map.{first_with_key}
use Rattle.mail_read.specs.lenient.Dispositions.{lenient_disposition, lenient_kind}
use Rattle.mail_read.specs.lenient.Values.{header_text}

-- a text is ASCII by a test of each byte
by_test : (text : List ℕ) → list_all (λ b. nat_lt b 128) text ≡ true → IsAscii text
by_test [] is i = omega arith
by_test (b ∷ text) is zero = ltb-true b 128 (and_parts _ _ is).0
by_test (b ∷ text) is (suc i) = by_test text (and_parts _ _ is).1 i

pub ascii-encoding : IsAscii (codes "Content-Transfer-Encoding")
ascii-encoding = by_test (codes "Content-Transfer-Encoding") refl

-- a part without such a header has no disposition
pub not-disposed : (known : Charsets) (node : Node) (found : Option (Bor Header)) → option_copied found ≡ first_with_key (codes "Content-Disposition") node.headers
    → is_some found ≡ false → lenient_disposition known node ≡ None
unfolding lenient_disposition
not-disposed known node (Some header) same none = absurd (false≢true (sym none))
not-disposed known node None same none = ap (λ (header : Option Header). option_map lenient_kind (option_map (λ h. header_text known h.value) header)) (sym same)
