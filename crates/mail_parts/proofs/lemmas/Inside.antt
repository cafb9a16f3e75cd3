-- Lemmas on the mails inside a mail.
use Rattle.std.proofs.Common.{◌≡◌, ◌≢◌, ℕ, zero, suc, ◌-◌, List, [], ◌∷◌, Option, Some, None, Ok, refl, sym, ap, ◌∙◌, arith}
use Rattle.std.proofs.lemmas.Fmt.{decimal_digit}
use Rattle.std.specs.Prelude.{flat_map}
use Rattle.mailparse.specs.Mail.{Tree, tree, no_parts, part_and}
use Rattle.mail_codec.specs.Charset.{Charsets}
use Rattle.mail_read.specs.InnerMails.{Forwarded, InnerMail, forwarded, path_within, places_under}
use Rattle.mail_read.specs.Files.{path_under, with_paths}
use Rattle.mail_read.specs.PartPlaces.{Place, placed, places}
use Rattle.mail_read.specs.Reading.{mail_placements}
use Rattle.mail_read.proofs.lemmas.InnerMails.{forwarded_with, inner_with}
use Rattle.mail_parts.specs.Inside.{mails_among, mails_inside}
use Rattle.mail_parts.specs.Reading.{inner_mails_within, mail_reading, mails_in_place}
use Rattle.mail_parts.proofs.lemmas.Reading.{forwarded_read}

-- ---- the mail in a part

-- the mails inside a mail are those among its parts
below_among : (known : Charsets) (limit most : ℕ) (path : List ℕ) (at : Option ℕ) (mail : Tree)
    → inner_mails_within known limit most path at mail (mail_placements mail) ≡ mails_among known limit most at (places_under path mail (mail_placements mail))
below_among known limit zero path at mail = refl
below_among known limit (suc most) path at mail = refl

-- the same in the part of a mail that is read
pub read_is : (known : Charsets) (limit most : ℕ) (start at : Option ℕ) (place : Place) (bytes : List ℕ) (mail : Tree)
    → ◌≡◌ {A = Option Forwarded} (Some (forwarded_with bytes at)) (forwarded start place) → mail_reading known limit bytes ≡ Ok mail
    → mails_in_place known limit most start place
    ≡ inner_with place.path bytes at None ∷ mails_among known limit most at (places_under place.path mail (mail_placements mail))
read_is known limit most start at place bytes mail h e =
    forwarded_read known limit most start at place bytes (Ok mail) h e
    ∙ ap (λ (mails : List InnerMail). inner_with place.path bytes at None ∷ mails) (below_among known limit most place.path at mail)

-- ---- the mails in parts

-- the mails among parts, if mails are searched any deeper
pub among_some : (known : Charsets) (limit most : ℕ) (start : Option ℕ) (found : List Place) → most ≢ 0
    → mails_among known limit most start found ≡ flat_map (mails_in_place known limit (most - 1) start) found
among_some known limit zero start found h = absurd (h refl)
among_some known limit (suc most) start found h = let e : suc most - 1 ≡ most = omega arith in rw e refl

pub among_none : (known : Charsets) (limit most : ℕ) (start : Option ℕ) (found : List Place) → most ≡ 0 → mails_among known limit most start found ≡ []
among_none known limit most start found e = rw e refl

-- ---- the whole mail

-- a whole mail and its parts are those below no path
places_whole : (mail : Tree) → places_under [] mail (mail_placements mail) ≡ places mail (mail_placements mail)
unfolding places_under path_within path_under
places_whole (tree node no_parts) =
    ap (λ (path : List ℕ). placed (with_paths path (tree node no_parts)) (mail_placements (tree node no_parts))) (decimal_digit 1 (omega arith))
places_whole (tree node (part_and first others)) = refl

pub among_whole : (known : Charsets) (limit : ℕ) (mail : Tree) → mails_among known limit 100 (Some 0) (places mail (mail_placements mail)) ≡ mails_inside known limit mail
among_whole known limit mail =
    ap (λ (xs : List Place). mails_among known limit 100 (Some 0) xs) (sym (places_whole mail)) ∙ sym (below_among known limit 100 [] (Some 0) mail)
