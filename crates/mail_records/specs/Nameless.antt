-- Headers that clearly give no file name. The parameters that give one are `name` and `filename`, with or without a star, so their
-- names contain `am`. A raw value with a `*`, with a `?`, which each encoded word contains, or with bytes that are not ASCII counts
-- as one that may give a name; the crate's own rule.
use Rattle.std.specs.Prelude.{ℕ, Bool, false, true, not, ◌&&◌, ◌||◌, ◌==◌, nat_lt, List, [], ◌∷◌, codes}
use Rattle.std.specs.Option.{option_map_or}
use Rattle.mail_codec.specs.Ascii.{asterisk, question_mark}
use Rattle.mailparse.specs.Mail.{Node}
use Rattle.mailparse.specs.Map.{first_with_key}

-- `a` or `A`
abbrev pub is_a : ℕ → Bool
is_a b = b == 97 || b == 65

-- `m` or `M`
abbrev pub is_m : ℕ → Bool
is_m b = b == 109 || b == 77

-- `*` or `?`, without which no parameter is extended and no word encoded
abbrev pub may_encode : ℕ → Bool
may_encode b = b == asterisk || b == question_mark

-- a byte may follow the byte `last`: it is ASCII and neither `*` nor `?`, and the two are not `am`
abbrev pub may_follow : ℕ → ℕ → Bool
may_follow last b = nat_lt b 128 && (not (may_encode b) && not (is_m b && is_a last))

-- the bytes contain `am`, where the byte before them is `last`
abbrev pub has_am_after : ℕ → List ℕ → Bool
has_am_after last [] = false
has_am_after last (b ∷ bytes) = (is_m b && is_a last) || has_am_after b bytes

-- each of the bytes may follow the one before it, and the first the byte `last`
abbrev pub is_nameless_after : ℕ → List ℕ → Bool
is_nameless_after last [] = true
is_nameless_after last (b ∷ bytes) = may_follow last b && is_nameless_after b bytes

-- a raw value, or its text, clearly gives no file name
abbrev pub is_nameless : List ℕ → Bool
is_nameless text = is_nameless_after 0 text

-- the first header of a message with this name clearly gives none, or there is no such header
abbrev pub lacks_name : List ℕ → Node → Bool
lacks_name header node = option_map_or (λ h. is_nameless h.value) (first_with_key header node.headers) true

-- neither the disposition of a message nor its type gives one
abbrev pub is_nameless_part : Node → Bool
is_nameless_part node = lacks_name (codes "Content-Disposition") node && lacks_name (codes "Content-Type") node
