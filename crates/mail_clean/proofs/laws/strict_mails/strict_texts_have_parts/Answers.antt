use Rattle.std.proofs.Common.{◌∷◌}
use Rattle.mail_clean.proofs.lemmas.StrictPieces.{one_split, pieces_there, split_cut}
use Rattle.mail_clean.proofs.laws.strict_mails.strict_texts_have_parts.Goals as goal
use Rattle.mail_grammar.proofs.lemmas.Boundaries.{boundary_inner}

pub returns : goal.returns
returns c = record {
  there = λ boundary text is. pieces_there 45 (45 ∷ boundary) (boundary_inner 70 boundary is) text;
  only = λ boundary preamble other text parts others is.
      one_split 45 (45 ∷ boundary) (boundary_inner 70 boundary is) text preamble other parts others;
  read = λ boundary preamble bytes parts start is.
      split_cut 45 (45 ∷ boundary) (boundary_inner 70 boundary is) bytes preamble start parts;
}
