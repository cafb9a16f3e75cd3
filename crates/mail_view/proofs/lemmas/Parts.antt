-- The size of a part.
use Rattle.std.proofs.Common.{◌≡◌, ℕ, Bool, List, Option, Some, None, Ok, is_some, length, option_map, refl, ap, ◌∙◌}
use Rattle.mailparse.specs.Mail.{Node}
use Rattle.mailparse.specs.Refusal.{Reads}
use Rattle.mail_read.specs.lenient.Content.{Content, message_content}
use Rattle.mail_view.specs.Row.{size_text}
use Rattle.mail_view.specs.View.{decoded_size}

pub some_mapped : {X Y : Type 0} (f : X → Y) (o : Option X) → is_some o ≡ is_some (option_map f o)
some_mapped f None = refl
some_mapped f (Some x) = refl

pub size_made : (node : Node) (content : Content) (size : ℕ) (is_damaged : Bool) (text : List ℕ) → content ≡ message_content node
    → size ≡ length content.bytes → is_damaged ≡ is_some content.fault → text ≡ size_text size is_damaged → text ≡ decoded_size node
size_made node content size is_damaged text read size_is damaged_is made =
    made ∙ ap (λ n. size_text n is_damaged) size_is ∙ ap (size_text (length content.bytes)) damaged_is
    ∙ ap (λ (x : Content). size_text (length x.bytes) (is_some x.fault)) read

-- the same reading of an equal text
pub ok_as : (a b : List ℕ) → a ≡ b → ◌≡◌ {A = Reads (List ℕ)} (Ok a) (Ok b)
ok_as a b e = ap Ok e
