-- What the bytes of HTML, the texts of references and the separators have in common, the bytes of its text have.
use Rattle.std.proofs.Common.{◌≡◌, ℕ, zero, suc, ◌+◌, ◌-◌, ◌/◌, ◌%◌, ◌<◌, Bool, true, false, cond, List, [], ◌∷◌, ◌++◌, take, drop, length, get_or, refl, subst, arith, eqb-true}
use Rattle.std.specs.Prelude.{◌==◌, ◌||◌, codes, decimal}
use Rattle.std.specs.Fmt.{digit_glyph, digits, digits_onto}
use Rattle.std.specs.List.{All, fold, suffix_len, prefix_len}
use Rattle.std.specs.Char.{is_ascii_alphabetic, is_ascii_whitespace}
use Rattle.std.specs.Str.{str_eq_ignore_ascii_case}
use Rattle.std.proofs.lemmas.Bool.{agree_below, agree_below_at, cond_both}
use Rattle.std.proofs.lemmas.List.Elements.{All-append, All-drop, All-take}
use Rattle.mail_codec.specs.Places.{begins, first_place, is_empty}
use Rattle.mail_html.specs.Elements.{add_tag, kind_of}
use Rattle.mail_html.specs.Html.{Step, bracketed, end_step, front_step, literal_step, markup_step, reference_step, shown_for, start_step, state_after, text_length, text_step, trimmed}
use Rattle.mail_html.specs.Layout.{State, Written, add_text, wider, with_collapsed, with_gap, with_kept, with_text}
use Rattle.mail_html.specs.Links.{Linked, add_link, add_note, add_target, attribute_target, linked_after, mark, note_line, target_at, with_notes}
use Rattle.mail_html.specs.Plain.{link_digits, separators}
use Rattle.mail_html.specs.References.{reference, value_text}
use Rattle.mail_html.specs.Tags.{Attribute, Value, assigned, attribute, attribute_name_length, declaration_length, ends_value, has_name, is_quote, is_separator, name_length, past_byte, piece, quoted, tag_length, unquoted, value, value_from, value_named, white_length}
use Rattle.mail_html.specs.declared.elements.Kind.{Kind}
use Rattle.mail_html.specs.declared.elements.Kind.TheVariants.{Inline, Cell, Block, Paragraph, Break, Preformatted, Image, Hidden, Foreign}
use Rattle.mail_html.specs.declared.layout.Gap.{Gap}
use Rattle.mail_html.specs.declared.layout.Gap.TheVariants.{Nothing, Space, Tab, LineEnd, BlankLine}
use Rattle.mail_html.specs.Text.{written}
use Rattle.mail_html.specs.declared.links.Links.TheVariants.{Footnotes}
use Rattle.mail_html.specs.declared.references.References.{References}

module _ (P : ℕ → Type 0) where
  nothing : All P []
  nothing = λ k d low. absurd (omega arith)

  one : (b : ℕ) → P b → (k : ℕ) (d : ℕ) → k < length (b ∷ []) → P (get_or (b ∷ []) k d)
  one b p zero d low = p
  one b p (suc k) d low = absurd (omega arith)

  head : (b : ℕ) (bs : List ℕ) → All P (b ∷ bs) → P b
  head b bs h = h 0 b (omega arith)

  tail : (b : ℕ) (bs : List ℕ) → All P (b ∷ bs) → All P bs
  tail b bs h = All-drop P 1 (b ∷ bs) h

  begins_by : (n : ℕ) (bs : List ℕ) → begins (λ b. b == n) bs ≡ true → All P bs → P n
  begins_by n [] is h = absurd (cc)
  begins_by n (b ∷ bs) is h = subst P (eqb-true b n is) (head b bs h)

  -- ---- values of attributes

  value_bytes : (bs : List ℕ) → All P bs → All P (value bs).0
  unfolding value
  value_bytes bs h =
      cond_both {A = Value} (begins is_quote bs) (quoted (get_or bs 0 0) (drop 1 bs)) (unquoted bs) (λ (v : Value). All P v.0)
      (λ e. All-take P (first_place (begins (λ b. b == get_or bs 0 0)) (drop 1 bs)) (drop 1 bs) (All-drop P 1 bs h))
      (λ e. All-take P (first_place (begins ends_value) bs) bs h)

  assigned_bytes : (bs : List ℕ) → All P bs → All P (assigned bs).0
  unfolding assigned
  assigned_bytes bs h =
      let start = white_length bs + 1 + white_length (drop (white_length bs + 1) bs) in
      cond_both {A = Value} (begins (λ b. b == 61) (drop (white_length bs) bs)) (value_from start bs) ([], 0) (λ (v : Value). All P v.0)
      (λ e. value_bytes (drop start bs) (All-drop P start bs h)) (λ e. nothing)

  attribute_bytes : (bs : List ℕ) → All P bs → All P (attribute bs).1
  unfolding attribute
  attribute_bytes bs h = assigned_bytes (drop (attribute_name_length bs) bs) (All-drop P (attribute_name_length bs) bs h)

  piece_bytes : (bs : List ℕ) → All P bs → All P (piece bs).1
  unfolding piece
  piece_bytes bs h =
      cond_both {A = Attribute} (begins is_separator bs) ([], [], 1) (attribute bs) (λ (a : Attribute). All P a.1) (λ e. nothing) (λ e. attribute_bytes bs h)

  named_bytes : (n : ℕ) (name bs : List ℕ) → All P bs → All P (value_named n name bs)
  named_bytes n name [] h = nothing
  named_bytes (suc n) name (b ∷ bs) h = named_bytes n name bs (tail b bs h)
  named_bytes zero name (b ∷ bs) h =
      let rest = named_bytes ((piece (b ∷ bs)).2 - 1) name bs (tail b bs h) in
      cond_both {A = List ℕ} (b == 62) [] (cond (str_eq_ignore_ascii_case (piece (b ∷ bs)).0 name) (piece (b ∷ bs)).1 (value_named ((piece (b ∷ bs)).2 - 1) name bs)) (All P) (λ e. nothing)
      (λ e. cond_both {A = List ℕ} (str_eq_ignore_ascii_case (piece (b ∷ bs)).0 name) (piece (b ∷ bs)).1 (value_named ((piece (b ∷ bs)).2 - 1) name bs) (All P) (λ e. piece_bytes (b ∷ bs) h) (λ e. rest))

  module _ (refs : References) (of_refs : (in_value : Bool) (bs : List ℕ) → All P (reference refs in_value bs).0) where
    text_bytes : (n : ℕ) (bs : List ℕ) → All P bs → All P (value_text n refs bs)
    text_bytes n [] h = nothing
    text_bytes (suc n) (b ∷ bs) h = text_bytes n bs (tail b bs h)
    text_bytes zero (b ∷ bs) h =
        let after = text_bytes (reference refs true bs).1 bs (tail b bs h) in
        let next = text_bytes 0 bs (tail b bs h) in
        cond_both {A = List ℕ} (b == 38) ((reference refs true bs).0 ++ value_text (reference refs true bs).1 refs bs) (b ∷ value_text 0 refs bs) (All P)
        (λ e. All-append P (reference refs true bs).0 (value_text (reference refs true bs).1 refs bs) (of_refs true bs) after)
        (λ e. All-append P (b ∷ []) (value_text 0 refs bs) (one b (head b bs h)) next)

    trimmed_bytes : (t : List ℕ) → All P t → All P (trimmed t)
    trimmed_bytes t h =
        let front = drop (prefix_len is_ascii_whitespace t) t in
        All-take P (length front - suffix_len is_ascii_whitespace front) front (All-drop P (prefix_len is_ascii_whitespace t) t h)

    -- ---- layout

    module _ (space : P 32) (tab : P 9) (feed : P 10) (opening : P 91) (closing : P 93) where
      bracketed_bytes : (t : List ℕ) → All P t → All P (bracketed t)
      bracketed_bytes [] h = nothing
      bracketed_bytes (b ∷ t) h = All-append P (91 ∷ []) ((b ∷ t) ++ (93 ∷ [])) (one 91 opening) (All-append P (b ∷ t) (93 ∷ []) h (one 93 closing))

      shown_bytes : (kind : Kind) (bs : List ℕ) → All P bs → All P (shown_for refs kind bs)
      shown_bytes Image bs h =
          let named = named_bytes 0 (codes "alt") bs h in
          bracketed_bytes (trimmed (value_text 0 refs (value_named 0 (codes "alt") bs)))
          (trimmed_bytes (value_text 0 refs (value_named 0 (codes "alt") bs)) (text_bytes 0 (value_named 0 (codes "alt") bs) named))
      shown_bytes Inline bs h = nothing
      shown_bytes Cell bs h = nothing
      shown_bytes Block bs h = nothing
      shown_bytes Paragraph bs h = nothing
      shown_bytes Break bs h = nothing
      shown_bytes Preformatted bs h = nothing
      shown_bytes Hidden bs h = nothing
      shown_bytes Foreign bs h = nothing

      gap_bytes : (made : List ℕ) (gap : Gap) → All P made → All P (with_gap made gap)
      gap_bytes [] gap h = h
      gap_bytes (b ∷ made) Nothing h = All-append P (b ∷ made) [] h nothing
      gap_bytes (b ∷ made) Space h = All-append P (b ∷ made) (32 ∷ []) h (one 32 space)
      gap_bytes (b ∷ made) Tab h = All-append P (b ∷ made) (9 ∷ []) h (one 9 tab)
      gap_bytes (b ∷ made) LineEnd h = All-append P (b ∷ made) (10 ∷ []) h (one 10 feed)
      gap_bytes (b ∷ made) BlankLine h =
          All-append P (b ∷ made) (10 ∷ 10 ∷ []) h (All-append P (10 ∷ []) (10 ∷ []) (one 10 feed) (one 10 feed))

      pushed : (w : Written) (b : ℕ) → All P w.0 → P b → All P (with_gap w.0 w.1 ++ (b ∷ []))
      pushed w b h p = All-append P (with_gap w.0 w.1) (b ∷ []) (gap_bytes w.0 w.1 h) (one b p)

      collapsed_bytes : (w : Written) (b : ℕ) → All P w.0 → P b → All P (with_collapsed w b).0
      collapsed_bytes w b h p =
          cond_both {A = Written} (is_ascii_whitespace b) (w.0, wider w.1 Space) (with_gap w.0 w.1 ++ (b ∷ []), Nothing) (λ (v : Written). All P v.0) (λ e. h) (λ e. pushed w b h p)

      kept_bytes : (w : Written) (b : ℕ) → All P w.0 → P b → All P (with_kept w b).0
      kept_bytes w b h p =
          cond_both {A = Written} (b == 13) w (with_gap w.0 w.1 ++ (b ∷ []), Nothing) (λ (v : Written). All P v.0) (λ e. h) (λ e. pushed w b h p)

      folded : (f : Written → ℕ → Written) → ((w : Written) (b : ℕ) → All P w.0 → P b → All P (f w b).0)
          → (bs : List ℕ) (w : Written) → All P bs → All P w.0 → All P (fold f w bs).0
      folded f keeps [] w bytes h = h
      folded f keeps (b ∷ bs) w bytes h = folded f keeps bs (f w b) (tail b bs bytes) (keeps w b h (head b bs bytes))

      with_bytes : (is_kept : Bool) (t : List ℕ) (w : Written) → All P t → All P w.0 → All P (with_text is_kept t w).0
      unfolding with_text
      with_bytes true t w bytes h = folded with_kept kept_bytes t w bytes h
      with_bytes false t w bytes h = folded with_collapsed collapsed_bytes t w bytes h

      added : (t : List ℕ) (s : State) → All P t → All P s.0 → All P (add_text t s).0
      added t s bytes h = with_bytes s.2 t (s.0, s.1) bytes h

      -- ---- what is at the front

      start_bytes : (s : State) (bs : List ℕ) → All P bs → All P s.0 → All P (start_step refs s bs).0.0
      unfolding start_step
      start_bytes s bs bytes h =
          let kind = kind_of (take (name_length bs) bs) in
          let attributes = take (tag_length bs - name_length bs) (drop (name_length bs) bs) in
          added (shown_for refs kind attributes) (add_tag true kind s)
          (shown_bytes kind attributes (All-take P (tag_length bs - name_length bs) (drop (name_length bs) bs) (All-drop P (name_length bs) bs bytes))) h

      end_bytes : (s : State) (bs : List ℕ) → P 60 → P 47 → All P s.0 → All P (end_step s bs).0.0
      unfolding end_step
      end_bytes s bs less slash h =
          let itself : All P (60 ∷ 47 ∷ []) = All-append P (60 ∷ []) (47 ∷ []) (one 60 less) (one 47 slash) in
          cond_both {A = Step} (begins is_ascii_alphabetic bs) (add_tag false (kind_of (take (name_length bs) bs)) s, 2 + tag_length bs)
          (cond (is_empty bs) (literal_step (60 ∷ 47 ∷ []) s) (s, 2 + past_byte bs 62)) (λ (v : Step). All P v.0.0) (λ e. h)
          (λ e. cond_both {A = Step} (is_empty bs) (literal_step (60 ∷ 47 ∷ []) s) (s, 2 + past_byte bs 62) (λ (v : Step). All P v.0.0) (λ e. added (60 ∷ 47 ∷ []) s itself h) (λ e. h))

      markup_bytes : (s : State) (bs : List ℕ) → P 60 → All P bs → All P s.0 → All P (markup_step refs s bs).0.0
      unfolding markup_step
      markup_bytes s bs less bytes h =
          let slash = begins (λ b. b == 47) bs in
          let declares = begins (λ b. b == 0x21 || b == 0x3F) bs in
          cond_both {A = Step} (begins is_ascii_alphabetic bs) (start_step refs s bs)
          (cond slash (end_step s (drop 1 bs)) (cond declares (s, 1 + declaration_length bs) (literal_step (60 ∷ []) s))) (λ (v : Step). All P v.0.0) (λ e. start_bytes s bs bytes h)
          (λ e. cond_both {A = Step} slash (end_step s (drop 1 bs)) (cond declares (s, 1 + declaration_length bs) (literal_step (60 ∷ []) s)) (λ (v : Step). All P v.0.0)
          (λ e. end_bytes s (drop 1 bs) less (begins_by 47 bs e bytes) h)
          (λ e. cond_both {A = Step} declares (s, 1 + declaration_length bs) (literal_step (60 ∷ []) s) (λ (v : Step). All P v.0.0) (λ e. h) (λ e. added (60 ∷ []) s (one 60 less) h)))

      referred_bytes : (s : State) (bs : List ℕ) → All P s.0 → All P (reference_step refs s bs).0.0
      unfolding reference_step
      referred_bytes s bs h = added (reference refs false bs).0 s (of_refs false bs) h

      literal_bytes : (s : State) (bs : List ℕ) → All P bs → All P s.0 → All P (text_step s bs).0.0
      unfolding text_step
      literal_bytes s bs bytes h = added (take (text_length bs) bs) s (All-take P (text_length bs) bs bytes) h

      front_bytes : (s : State) (bs : List ℕ) → All P bs → All P s.0 → All P (front_step refs s bs).0.0
      unfolding front_step
      front_bytes s bs bytes h =
          let markup = begins (λ b. b == 60) bs in
          let ampersand = begins (λ b. b == 38) bs in
          cond_both {A = Step} markup (markup_step refs s (drop 1 bs)) (cond ampersand (reference_step refs s (drop 1 bs)) (text_step s bs)) (λ (v : Step). All P v.0.0)
          (λ e. markup_bytes s (drop 1 bs) (begins_by 60 bs e bytes) (All-drop P 1 bs bytes) h)
          (λ e. cond_both {A = Step} ampersand (reference_step refs s (drop 1 bs)) (text_step s bs) (λ (v : Step). All P v.0.0)
          (λ e. referred_bytes s (drop 1 bs) h) (λ e. literal_bytes s bs bytes h))

      pub state_bytes : (n : ℕ) (bs : List ℕ) (s : State) → All P bs → All P s.0 → All P (state_after n refs s bs).0
      state_bytes n [] s bytes h = h
      state_bytes (suc n) (b ∷ bs) s bytes h = state_bytes n bs s (tail b bs bytes) h
      state_bytes zero (b ∷ bs) s bytes h =
          let step = front_step refs s (b ∷ bs) in
          state_bytes (step.1 - 1) bs step.0 (tail b bs bytes) (front_bytes s (b ∷ bs) bytes h)

      -- ---- links

      module _ (digit : (d : ℕ) → d < 10 → P (digit_glyph false d)) where
        digits_bytes : (k n : ℕ) (acc : List ℕ) → All P acc → All P (digits_onto k 10 false n acc)
        digits_bytes zero n acc h = h
        digits_bytes (suc k) n acc h =
            let next : All P (digit_glyph false (n % 10) ∷ acc) = All-append P (digit_glyph false (n % 10) ∷ []) acc (one (digit_glyph false (n % 10)) (digit (n % 10) (omega arith))) h in
            cond_both {A = List ℕ} (n / 10 == 0) (digit_glyph false (n % 10) ∷ acc) (digits_onto k 10 false (n / 10) (digit_glyph false (n % 10) ∷ acc)) (All P)
            (λ e. next) (λ e. digits_bytes k (n / 10) (digit_glyph false (n % 10) ∷ acc) next)

        mark_bytes : (n : ℕ) → All P (mark n)
        unfolding digits
        mark_bytes n =
            All-append P (91 ∷ []) (decimal n ++ (93 ∷ [])) (one 91 opening) (All-append P (decimal n) (93 ∷ []) (digits_bytes 64 n [] nothing) (one 93 closing))

        note_bytes : (m target notes : List ℕ) → All P m → All P target → All P notes → All P (add_note m target notes)
        unfolding add_note
        note_bytes m target notes marked bytes h =
            with_bytes false (note_line m target) (notes, LineEnd) (All-append P (m ++ (32 ∷ [])) target (All-append P m (32 ∷ []) marked (one 32 space)) bytes) h

        abbrev IsMade : Linked → Type 0
        IsMade l = All P l.0.0 × All P l.1

        target_bytes : (t : List ℕ) (l : Linked) → All P t → IsMade l → IsMade (add_target t l)
        target_bytes [] l bytes h = h
        target_bytes (b ∷ t) l bytes h = (added (mark (suc l.2)) l.0 (mark_bytes (suc l.2)) h.0, note_bytes (mark (suc l.2)) (b ∷ t) l.1 (mark_bytes (suc l.2)) bytes h.1)

        link_bytes : (t : List ℕ) (l : Linked) → All P t → IsMade l → IsMade (add_link t l)
        unfolding add_link
        link_bytes t l bytes h = target_bytes (trimmed t) l (trimmed_bytes t bytes) h

        attribute_target_bytes : (bs : List ℕ) → All P bs → All P (attribute_target refs bs)
        unfolding attribute_target
        attribute_target_bytes bs bytes =
            cond_both {A = List ℕ} (has_name (codes "a") bs) (value_text 0 refs (value_named 0 (codes "href") (drop 1 bs))) [] (All P)
            (λ e. text_bytes 0 (value_named 0 (codes "href") (drop 1 bs)) (named_bytes 0 (codes "href") (drop 1 bs) (All-drop P 1 bs bytes))) (λ e. nothing)

        target_at_bytes : (bs : List ℕ) → All P bs → All P (target_at refs bs)
        unfolding target_at
        target_at_bytes bs bytes =
            cond_both {A = List ℕ} (begins (λ b. b == 60) bs) (attribute_target refs (drop 1 bs)) [] (All P) (λ e. attribute_target_bytes (drop 1 bs) (All-drop P 1 bs bytes)) (λ e. nothing)

        linked_bytes : (n : ℕ) (bs : List ℕ) (l : Linked) → All P bs → IsMade l → IsMade (linked_after n refs l bs)
        linked_bytes n [] l bytes h = h
        linked_bytes (suc n) (b ∷ bs) l bytes h = linked_bytes n bs l (tail b bs bytes) h
        linked_bytes zero (b ∷ bs) l bytes h =
            let step = front_step refs l.0 (b ∷ bs) in
            linked_bytes (step.1 - 1) bs (add_link (target_at refs (b ∷ bs)) (step.0, l.1, l.2)) (tail b bs bytes)
            (link_bytes (target_at refs (b ∷ bs)) (step.0, l.1, l.2) (target_at_bytes (b ∷ bs) bytes) (front_bytes l.0 (b ∷ bs) bytes h.0, h.1))

        pub notes_bytes : (t notes : List ℕ) → All P t → All P notes → All P (with_notes t notes)
        notes_bytes t [] h bytes = h
        notes_bytes t (b ∷ notes) h bytes = All-append P (with_gap t BlankLine) (b ∷ notes) (gap_bytes t BlankLine h) bytes

        pub written_bytes : (html : List ℕ) → All P html → All P (written Footnotes refs html)
        written_bytes html bytes =
            let l = linked_bytes 0 html (([], Nothing, false), [], 0) bytes (nothing, nothing) in
            let linked = linked_after 0 refs (([], Nothing, false), [], 0) html in
            notes_bytes linked.0.0 linked.1 l.0 l.1

pub made_of : (refs : References) (test : ℕ → Bool) (html : List ℕ) → All (λ b. test b ≡ true) html
    → ((in_value : Bool) (bs : List ℕ) → All (λ b. test b ≡ true) (reference refs in_value bs).0) → All (λ b. test b ≡ true) separators
    → All (λ b. test b ≡ true) (state_after 0 refs ([], Nothing, false) html).0
made_of refs test html bytes of_refs made =
    state_bytes (λ b. test b ≡ true) refs of_refs (made 0 0 (omega arith)) (made 1 0 (omega arith)) (made 2 0 (omega arith)) (made 3 0 (omega arith)) (made 4 0 (omega arith))
    0 html ([], Nothing, false) bytes (λ k d low. absurd (omega arith))

glyphs : agree_below (λ d. get_or link_digits d 0 == digit_glyph false d) (λ d. true) 10 ≡ true
glyphs = refl

pub linked_of : (refs : References) (test : ℕ → Bool) (html : List ℕ) → All (λ b. test b ≡ true) html
    → ((in_value : Bool) (bs : List ℕ) → All (λ b. test b ≡ true) (reference refs in_value bs).0) → All (λ b. test b ≡ true) separators
    → All (λ b. test b ≡ true) link_digits → All (λ b. test b ≡ true) (written Footnotes refs html)
linked_of refs test html bytes of_refs made numbers =
    written_bytes (λ b. test b ≡ true) refs of_refs (made 0 0 (omega arith)) (made 1 0 (omega arith)) (made 2 0 (omega arith)) (made 3 0 (omega arith)) (made 4 0 (omega arith))
    (λ d low. subst (λ b. test b ≡ true) (eqb-true _ _ (agree_below_at (λ d. get_or link_digits d 0 == digit_glyph false d) (λ d. true) 10 d glyphs low)) (numbers d 0 low))
    html bytes
