use Rattle.std.proofs.Common.{◌≡◌, ◌∙◌, ℕ, true, false, List, Option, None, Some, refl, ap}
use Rattle.std.specs.Option.{is_some, option_or}
use Rattle.std.proofs.lemmas.Bool.{false≢true}
use Rattle.mail_codec.specs.Charset.{four_charsets}
use Rattle.mail_codec.specs.Tables.{charsets_with}
use Rattle.mail_charsets.specs.All.{all_known}
use Rattle.mail_charsets.specs.declared.all.AllCharsets.{AllCharsets}
use Rattle.mail_charsets.proofs.laws.the_four_come_first.Goals as goal

first : {A : Type 0} (a b c d : Option A) → is_some a ≡ true → option_or (option_or (option_or a b) c) d ≡ a
first (Some x) b c d h = refl
first None b c d h = absurd (false≢true h)

pub returns : goal.returns
unfolding charsets_with
returns c = λ all label h. first (four_charsets label) _ _ _ h
