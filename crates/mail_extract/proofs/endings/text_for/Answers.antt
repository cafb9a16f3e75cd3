use Rattle.std.proofs.Common.{◌≡◌, Bor, List, [], ℕ, Option, map, option_map, sym, ap, ◌∙◌}
use Rattle.std.specs.Option.{unwrap_or}
use Rattle.mail_codec.specs.Names.{look_up, row_view}
use Rattle.mail_extract.proofs.lemmas.Endings.{look_up-view}
use Rattle.mail_extract.proofs.endings.text_for.Goals as goal

-- the text for a key, if `found` is the value found for the same key
text_is : (table : List (Bor (List ℕ) × Bor (List ℕ))) (word key : List ℕ) (found : Option (Bor (List ℕ))) → found ≡ look_up (map row_view table) word → word ≡ key
    → unwrap_or (option_map (λ (text : Bor (List ℕ)). text.now) found) []
    ≡ unwrap_or (look_up (map (λ (row : Bor (List ℕ) × Bor (List ℕ)). (row.0.now, row.1.now)) table) key) []
text_is table word key found e same =
    ap (λ (o : Option (List ℕ)). unwrap_or o [])
    (ap (option_map (λ (text : Bor (List ℕ)). text.now)) e
    ∙ sym (look_up-view (λ (row : Bor (List ℕ) × Bor (List ℕ)). row.0.now) (λ (row : Bor (List ℕ) × Bor (List ℕ)). row.1) (λ (text : Bor (List ℕ)). text.now) table word)
    ∙ ap (look_up (map (λ (row : Bor (List ℕ) × Bor (List ℕ)). (row.0.now, row.1.now)) table)) same)

pub returns-in-Some : goal.returns-in-Some
returns-in-Some c = text_is c.args.table.now c.as_bytes.result.now c.args.key.now _ (sym c.in-Some.is ∙ c.look_up.ensures) c.as_bytes.ensures.value

pub returns-in-None : goal.returns-in-None
returns-in-None c = text_is c.args.table.now c.as_bytes.result.now c.args.key.now _ (sym c.in-None.is ∙ c.look_up.ensures) c.as_bytes.ensures.value
