use Rattle.std.proofs.Common.{sym, subst}
use Rattle.std.proofs.lemmas.List.{nil_from_length}
use Rattle.std.proofs.lemmas.Str.{IsUtf8-past_char}
use Rattle.std.specs.String.{string_bytes}
use Rattle.mail_inputs.specs.Escape.{shown, shown_character}
use Rattle.mail_codec.specs.Hidden.{IsShown}
use Rattle.mail_program.proofs.lemmas.Characters.{made_past, made_end}
use Rattle.mail_inputs.proofs.lemmas.Escape.{text_shown}
use Rattle.mail_inputs.proofs.escape.shown.Goals as goal

pub loop-character-preserved : goal.loop-character-preserved
loop-character-preserved c =
    let rest = c.loop-character.character-iterator.rest.now in
    let next = c.next.new.self.rest.now in
    record {
      utf8 = IsUtf8-past_char rest next c.in-Some.character c.loop-character.invariant.utf8 c.in-Some.ensures.steps.0;
      written = made_past shown_character _ (string_bytes c.loop-character.shown) rest next _ c.in-Some.character c.loop-character.invariant.utf8
          c.in-Some.ensures.steps.0 c.in_ok-push_shown.ensures c.loop-character.invariant.written;
    }

pub returns-clause-value : goal.returns-clause-value
returns-clause-value c =
    made_end shown_character _ _ c.loop-character.character-iterator.rest.now (nil_from_length _ c.in-None.ensures.steps.0.0) c.loop-character.invariant.written

pub returns-clause-safe : goal.returns-clause-safe
returns-clause-safe c =
    subst IsShown
    (sym (made_end shown_character _ _ c.loop-character.character-iterator.rest.now (nil_from_length _ c.in-None.ensures.steps.0.0) c.loop-character.invariant.written))
    (text_shown c.args.text.now)
