-- A limit on messages and headers beside the tree of a mail.
use Rattle.std.proofs.Common.{◌≡◌, ℕ, suc, ◌<◌, ◌≤◌, Bool, true, false, List, Ok, Err, IsOk, refl, ◌∙◌, arith}
use Rattle.mailparse.specs.Bound.{items_within}
use Rattle.mailparse.specs.Limit.{items_met, read_mail_within}
use Rattle.mailparse.specs.Mail.{Tree, read_mail_as}
use Rattle.mailparse.specs.Manner.{Manner}
use Rattle.mailparse.specs.Refusal.{Reads, Refusal, too_many_items}
use Rattle.mailparse.proofs.lemmas.Limit.{limited-enough, limited-over, limited-read}
use Rattle.mailparse.proofs.lemmas.LimitItems.{items_met-within}
use Rattle.std.specs.Prelude.{Some, nat_lt, if◌then◌else◌}
use Rattle.mail_codec.specs.Charset.{Charsets}
use Rattle.mail_read.specs.Reading.{mail_reading}
use Rattle.mail_read.specs.lenient.Manner.{lenient}
use Rattle.mail_laws.proofs.lemmas.Manners.{nothing-refused}

-- In this manner.
module _ (manner : Manner) (greatest most : ℕ) (mail : List ℕ) (parsed : Tree) where
  met : read_mail_as manner greatest mail ≡ Ok parsed → items_met manner (suc greatest) false mail ≡ items_within parsed
  met read = items_met-within manner (suc greatest) false mail parsed read

  pub enough : read_mail_as manner greatest mail ≡ Ok parsed → items_within parsed ≤ most → read_mail_within manner greatest most mail ≡ Ok parsed
  unfolding read_mail_within
  enough read low =
      let same = met read in
      limited-enough most (items_met manner (suc greatest) false mail) (read_mail_as manner greatest mail) (omega (arith, same, low)) ∙ read

  pub over : read_mail_as manner greatest mail ≡ Ok parsed → most < items_within parsed → read_mail_within manner greatest most mail ≡ Err too_many_items
  unfolding read_mail_within
  over read high =
      let same = met read in
      limited-over most (items_met manner (suc greatest) false mail) (read_mail_as manner greatest mail) (omega (arith, same, high))

  pub read_without : read_mail_within manner greatest most mail ≡ Ok parsed → read_mail_as manner greatest mail ≡ Ok parsed
  unfolding read_mail_within
  read_without h = limited-read (Some most) (items_met manner (suc greatest) false mail) (read_mail_as manner greatest mail) parsed h

-- ---- a manner that keeps refused messages

only-limit : (is : Bool) (reading : Reads Tree) (refusal : Refusal) → IsOk reading → if is then Err too_many_items else reading ≡ Err refusal → refusal ≡ too_many_items
only-limit true reading refusal ok h = cc
only-limit false (Ok t) refusal ok h = absurd (cc)
only-limit false (Err r) refusal ok h = absurd (cc)

pub only_many : (manner : Manner) (greatest most : ℕ) (mail : List ℕ) (refusal : Refusal) → manner.keeps_refused ≡ true → read_mail_within manner greatest most mail ≡ Err refusal
    → refusal ≡ too_many_items
unfolding read_mail_within
only_many manner greatest most mail refusal keeps h =
    only-limit (nat_lt most (items_met manner (suc greatest) false mail)) (read_mail_as manner greatest mail) refusal (nothing-refused manner greatest mail keeps) h

pub programs_only_many : (known : Charsets) (limit : ℕ) (mail : List ℕ) (refusal : Refusal) → mail_reading known limit mail ≡ Err refusal → refusal ≡ too_many_items
unfolding mail_reading
programs_only_many known limit mail refusal h = only_many (lenient known) 100 limit mail refusal refl h
