-- Lemmas on what shows between two decoded words.
use Rattle.std.proofs.Common.{◌≡◌, ℕ, cond, not, ◌||◌, List, [], ◌∷◌, ◌++◌, Option, Some, None, refl, sym, ap, ◌∙◌}
use Rattle.std.proofs.lemmas.List.{map-append}
use Rattle.mailparse.specs.Tokens.{TokenKind, plain_text, whitespace, line_end, decoded_word}
use Rattle.mailparse.specs.Value.{Token, is_released, is_held, kinds, newline, shown_after, shown_tokens, shows, whitespace_token}
use Rattle.mail_address.specs.WordTokens.{word}

-- the tokens after a decoded word release nothing before it
released-same : (kind : TokenKind) (front a b : List TokenKind) → is_released kind (front ++ decoded_word ∷ a) ≡ is_released kind (front ++ decoded_word ∷ b)
released-same plain_text [] a b = refl
released-same whitespace [] a b = refl
released-same line_end [] a b = refl
released-same decoded_word [] a b = refl
released-same kind (plain_text ∷ front) a b = refl
released-same plain_text (whitespace ∷ front) a b = refl
released-same whitespace (whitespace ∷ front) a b = refl
released-same line_end (whitespace ∷ front) a b = refl
released-same decoded_word (whitespace ∷ front) a b = refl
released-same plain_text (decoded_word ∷ front) a b = refl
released-same whitespace (decoded_word ∷ front) a b = refl
released-same line_end (decoded_word ∷ front) a b = refl
released-same decoded_word (decoded_word ∷ front) a b = refl
released-same plain_text (line_end ∷ front) a b = refl
released-same line_end (line_end ∷ front) a b = refl
released-same decoded_word (line_end ∷ front) a b = refl
released-same whitespace (line_end ∷ []) a b = refl
released-same whitespace (line_end ∷ plain_text ∷ front) a b = refl
released-same whitespace (line_end ∷ whitespace ∷ front) a b = refl
released-same whitespace (line_end ∷ line_end ∷ front) a b = refl
released-same whitespace (line_end ∷ decoded_word ∷ front) a b = refl

-- the tokens before a decoded word hold nothing after it
held-same : (e f : Option TokenKind) (kind : TokenKind) → is_held e (Some decoded_word) kind ≡ is_held f (Some decoded_word) kind
held-same e f plain_text = refl
held-same e f whitespace = refl
held-same e f line_end = refl
held-same e f decoded_word = refl

shown-after_word : (e f : Option TokenKind) (rest : List Token) → shown_after e (Some decoded_word) rest ≡ shown_after f (Some decoded_word) rest
shown-after_word e f [] = refl
shown-after_word e f (token ∷ rest) =
    ap (λ held. cond (not held || is_released token.kind (kinds rest)) token.shown [] ++ shown_after (Some decoded_word) (Some token.kind) rest) (held-same e f token.kind)

-- so the shown text is the same if it is the same from the first word onwards
shown-same : (e b : Option TokenKind) (front : List Token) (text : List ℕ) (rest other : List Token)
    → ((f : Option TokenKind) → shown_after f (Some decoded_word) rest ≡ shown_after f (Some decoded_word) other)
    → shown_after e b (front ++ word text ∷ rest) ≡ shown_after e b (front ++ word text ∷ other)
shown-same e b [] text rest other same = ap (λ (shown : List ℕ). text ++ shown) (same b)
shown-same e b (token ∷ front) text rest other same =
    let after : is_released token.kind (kinds (front ++ word text ∷ rest)) ≡ is_released token.kind (kinds (front ++ word text ∷ other)) =
    ap (is_released token.kind) (map-append (λ (t : Token). t.kind) front (word text ∷ rest)) ∙ released-same token.kind (kinds front) (kinds rest) (kinds other) ∙ sym (ap (is_released token.kind) (map-append (λ (t : Token). t.kind) front (word text ∷ other))) in
    ap (λ released. cond (not (is_held e b token.kind) || released) token.shown [] ++ shown_after b (Some token.kind) (front ++ word text ∷ rest)) after
    ∙ ap (λ (shown : List ℕ). cond (shows e b token.kind (kinds (front ++ word text ∷ other))) token.shown [] ++ shown) (shown-same b (Some token.kind) front text rest other same)

pub whitespace-between : (before rest : List Token) (first gap second : List ℕ)
    → shown_tokens (before ++ word first ∷ whitespace_token gap ∷ word second ∷ rest) ≡ shown_tokens (before ++ word first ∷ word second ∷ rest)
whitespace-between before rest first gap second =
    shown-same None None before first (whitespace_token gap ∷ word second ∷ rest) (word second ∷ rest)
    (λ f. ap (λ (shown : List ℕ). second ++ shown) (shown-after_word (Some whitespace) (Some decoded_word) rest))

pub line_end-between : (before rest : List Token) (first gap second : List ℕ)
    → shown_tokens (before ++ word first ∷ whitespace_token gap ∷ newline ∷ whitespace_token [] ∷ word second ∷ rest) ≡ shown_tokens (before ++ word first ∷ word second ∷ rest)
line_end-between before rest first gap second =
    shown-same None None before first (whitespace_token gap ∷ newline ∷ whitespace_token [] ∷ word second ∷ rest) (word second ∷ rest)
    (λ f. ap (λ (shown : List ℕ). second ++ shown) (shown-after_word (Some whitespace) (Some decoded_word) rest))
