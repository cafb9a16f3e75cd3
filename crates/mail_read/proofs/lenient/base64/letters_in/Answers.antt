use Rattle.std.proofs.Common.{List, ℕ, ◌++◌, cond, get_or, ◌∷◌, [], sym, ap, ◌∙◌, arith}
use Rattle.std.proofs.lemmas.List.Elements.{filter_more}
use Rattle.mail_read.specs.lenient.Base64.{is_letter}
use Rattle.mail_read.proofs.lenient.base64.letters_in.Goals as goal

pub loop-byte-preserved : goal.loop-byte-preserved
loop-byte-preserved c =
    let text = c.args.text.now in
    let i = c.loop-byte.byte-index in
    let b = get_or text i 0 in
    record {
      letters = c.in_ok-push_letter.ensures.written ∙ ap (λ (l : List ℕ). l ++ cond (is_letter b) (b ∷ []) []) c.loop-byte.invariant.letters
          ∙ sym (filter_more is_letter text i 0 (omega arith));
      bounds = omega (arith, c.in_ok-push_letter.ensures.bounds, c.loop-byte.invariant.bounds);
    }
