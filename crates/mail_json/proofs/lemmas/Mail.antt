-- Lemmas on the object of a mail.
use Rattle.std.proofs.Common.{◌≡◌, ℕ, List, [], ◌++◌, Option, Some, Ok, Err, sym, ap, subst, ◌∙◌, append_assoc}
use Rattle.std.proofs.lemmas.Grind.{flat_map-append}
use Rattle.std.specs.Prelude.{option_map, codes}
use Rattle.json.specs.Json.{Json, string, null}
use Rattle.mail_read.specs.lenient.Date.{Dated, Zoned, zoned_date_of}
use Rattle.mail_read.specs.declared.lenient.date.error.DateError.{DateError}
use Rattle.mail_read.specs.PartPlaces.{places}
use Rattle.mailparse.specs.Mail.{Tree, tree}
use Rattle.mail_read.specs.Reading.{mail_placements}
use Rattle.mail_json.specs.Fields.{date_fault_text}
use Rattle.mail_json.specs.Options.{Options}
use Rattle.mail_json_text.specs.Printed.{after_commas, listed, one, seconds_value, text_of}
use Rattle.mail_json.specs.Values.{AreValues, IsPartValue, date_members, zone_members}

-- a date that is refused
pub date_refused : (found : Option (List ℕ)) (date : List ℕ) (fault : DateError) → found ≡ Some date → zoned_date_of date ≡ Err fault
    → date_members (option_map zoned_date_of found) ≡ one (codes "date") null ++ one (codes "date_error") (string (date_fault_text fault))
date_refused found date fault e f = ap (λ (o : Option (List ℕ)). date_members (option_map zoned_date_of o)) e ∙ ap (λ (d : Dated Zoned). date_members (Some d)) f

-- a date that is read
pub date_read : (found : Option (List ℕ)) (date : List ℕ) (read : Zoned) → found ≡ Some date → zoned_date_of date ≡ Ok read
    → date_members (option_map zoned_date_of found) ≡ one (codes "date") (seconds_value read.0) ++ zone_members read.1
date_read found date read e f = ap (λ (o : Option (List ℕ)). date_members (option_map zoned_date_of o)) e ∙ ap (λ (d : Dated Zoned). date_members (Some d)) f

-- the list of the first parts, of which there is one, and of others
pub parts_first : (options : Options) (inside : Option (List ℕ)) (start : Option ℕ) (mail : Tree) (parts others : List Json) → AreValues (IsPartValue options inside start) (places mail (mail_placements mail)) parts
    → listed text_of [] parts ++ after_commas text_of others ≡ listed text_of [] (parts ++ others)
parts_first options inside start (tree node forest) parts others is =
    subst (λ ps. listed text_of [] ps ++ after_commas text_of others ≡ listed text_of [] (ps ++ others)) (sym is.4)
    (append_assoc (text_of is.0) (after_commas text_of is.1) (after_commas text_of others)
    ∙ ap (λ t. text_of is.0 ++ t) (sym (flat_map-append (λ (j : Json). codes "," ++ text_of j) is.1 others)))
