-- Lemmas on what is saved one after another, with the lines that are written.
use Rattle.std.proofs.Common.{◌≡◌, ℕ, List, [], ◌∷◌, ◌++◌, Option, Result, Ok, Err, IfSome, refl, sym, ap, subst, ◌∙◌, append_assoc}
use Rattle.std.proofs.KnownBytes.{Appends-nil, Appends-trans}
use Rattle.std.proofs.lemmas.Grind.{flat_map-append}
use Rattle.std.proofs.lemmas.List.{append-nil}
use Rattle.std.proofs.lemmas.List.Elements.{All-append, All-nil}
use Rattle.std.specs.Io.KnownBytes.{Appends}
use Rattle.std.specs.Prelude.{IfOk}
use Rattle.mail_program.specs.declared.fault.Fault.{Fault}
use Rattle.mail_read.specs.FileNames.{IsSafeName}
use Rattle.mail_extract.specs.FileLine.{FileLine}
use Rattle.mail_program.specs.Outcome.{worse}
use Rattle.mail_program.specs.declared.outcome.Outcome.{Outcome}
use Rattle.mail_program.specs.declared.outcome.Outcome.TheVariants.{Clean, Refused, Failed}
use Rattle.mail_extract.specs.Directory.{File}
use Rattle.mail_extract.specs.Input.{AreSafe, Each, Ends, Only, Saved, Saves, Then}
use Rattle.mail_extract.specs.Report.{WritesAll, judged, line_text, lines_text, worst}
use Rattle.mail_extract.specs.private.Blocks.{Before}

-- ---- lines and outcomes

worse-assoc : (a b c : Outcome) → worse (worse a b) c ≡ worse a (worse b c)
worse-assoc Clean b c = refl
worse-assoc Refused Clean c = refl
worse-assoc Refused Refused Clean = refl
worse-assoc Refused Refused Refused = refl
worse-assoc Refused Refused Failed = refl
worse-assoc Refused Failed c = refl
worse-assoc Failed b c = refl

worse-clean : (a : Outcome) → worse a Clean ≡ a
worse-clean Clean = refl
worse-clean Refused = refl
worse-clean Failed = refl

pub worst-append : (first others : List FileLine) → worst (first ++ others) ≡ worse (worst first) (worst others)
worst-append [] others = refl
worst-append (line ∷ first) others =
    ap (worse (judged line)) (worst-append first others) ∙ sym (worse-assoc (judged line) (worst first) (worst others))

-- the outcome of lines and others
worst_both : (a b both : Outcome) (first others : List FileLine) → both ≡ worse a b → a ≡ worst first → b ≡ worst others → both ≡ worst (first ++ others)
worst_both a b both first others e f h =
    e ∙ ap (λ (o : Outcome). worse o b) f ∙ ap (worse (worst first)) h ∙ sym (worst-append first others)

-- lines that were written, and others after them
appends_lines : (old mid new : Option (List ℕ)) (first others : List FileLine) → Appends old mid (lines_text first) → Appends mid new (lines_text others)
    → Appends old new (lines_text (first ++ others))
appends_lines old mid new first others p q =
    subst (λ (text : List ℕ). Appends old new text) (sym (flat_map-append line_text first others))
    (Appends-trans old mid new (lines_text first) (lines_text others) p q)

-- lines that were written and flushed
pub appends_flushed : (old mid new : Option (List ℕ)) (text : List ℕ) → Appends old mid text → Appends mid new [] → Appends old new text
appends_flushed old mid new text p q = subst (λ (t : List ℕ). Appends old new t) (append-nil text) (Appends-trans old mid new text [] p q)

-- ---- what is saved

-- whatever one does, the other does
abbrev pub Implies : Saves → Saves → Type 0
Implies First Second = (files : List File) (from : ℕ) (lines : List FileLine) (next : ℕ) (now : List File) → First files from lines next now → Second files from lines next now

pub nothing_then : (Second : Saves) → Implies (Then (Only []) Second) Second
nothing_then Second = λ files from lines next now h.
    subst (λ (ls : List FileLine). Second files from ls next now) (sym (h.6 ∙ ap (λ (ls : List FileLine). ls ++ h.3) h.4.0))
    (subst (λ (n : ℕ). Second files n h.3 next now) h.4.1 (subst (λ (fs : List File). Second fs h.1 h.3 next now) h.4.2 h.5))

pub then_nothing : (First : Saves) → Implies (Then First (Only [])) First
then_nothing First = λ files from lines next now h.
    subst (λ (ls : List FileLine). First files from ls next now) (sym (h.6 ∙ ap (λ (ls : List FileLine). h.2 ++ ls) h.5.0 ∙ append-nil h.2))
    (subst (λ (n : ℕ). First files from h.2 n now) (sym h.5.1) (subst (λ (fs : List File). First files from h.2 h.1 fs) (sym h.5.2) h.4))

then_after : (First Second Third : Saves) → Implies (Then (Then First Second) Third) (Then First (Then Second Third))
then_after First Second Third = λ files from lines next now h. (
  h.4.0,
  h.4.1,
  h.4.2,
  h.4.3 ++ h.3,
  h.4.4,
  (h.0, h.1, h.4.3, h.3, h.4.5, h.5, refl),
  h.6 ∙ ap (λ (ls : List FileLine). ls ++ h.3) h.4.6 ∙ append_assoc h.4.2 h.4.3 h.3,
)

-- these, and then those
pub each_then : {X : Type 0} (Is : X → Saves) (these those : List X) → Implies (Then (Each Is these) (Each Is those)) (Each Is (these ++ those))
each_then Is [] those = nothing_then (Each Is those)
each_then Is (x ∷ these) those = λ files from lines next now h.
    let all = then_after (Is x) (Each Is these) (Each Is those) files from lines next now h in
    (all.0, all.1, all.2, all.3, all.4, each_then Is these those all.0 all.1 all.3 next now all.5, all.6)

-- these, the first of which was done
pub each_first : {X : Type 0} (Is : X → Saves) (all first rest : List X) → all ≡ first ++ rest → Implies (Then (Each Is first) (Each Is rest)) (Each Is all)
each_first {X = X} Is all first rest e = λ files from lines next now h.
    subst (λ (xs : List X). Each Is xs files from lines next now) (sym e) (each_then Is first rest files from lines next now h)

-- ---- what was saved and written

-- nothing
pub saved_none : (held : Option (List File)) (old : Option (List ℕ)) (from : ℕ) → Saved held held old old from from Clean (Only [])
saved_none held old from = ([], Appends-nil old, refl, (All-nil (λ (line : FileLine). IfSome line.saved IsSafeName)), λ files e. (files, e, (refl, refl, refl)))

-- lines that name no file
pub saved_lines : (held : Option (List File)) (old new : Option (List ℕ)) (from : ℕ) (outcome : Outcome) (lines : List FileLine) → AreSafe lines
    → WritesAll old new (Ok outcome) lines → Saved held held old new from from outcome (Only lines)
saved_lines held old new from outcome lines safe h = (lines, h.0, h.1, safe, λ files e. (files, e, (refl, refl, refl)))

-- what was saved, if nothing failed
pub ends_saved : (held_old held_new : Option (List File)) (old new : Option (List ℕ)) (from next : ℕ) (r : Result Outcome Fault) (Are : Saves) → Ends held_old held_new old new from next r Are
    → IfOk r (λ outcome. Saved held_old held_new old new from next outcome Are)
ends_saved held_old held_new old new from next (Ok outcome) Are h = h
ends_saved held_old held_new old new from next (Err fault) Are h = tt

-- with other words
pub saved_as : (held_old held_new : Option (List File)) (old new : Option (List ℕ)) (from next : ℕ) (outcome : Outcome) (Are Those : Saves) → Implies Are Those
    → Saved held_old held_new old new from next outcome Are → Saved held_old held_new old new from next outcome Those
saved_as held_old held_new old new from next outcome Are Those same h =
    (h.0, h.1, h.2, h.3, λ files e. let after = h.4 files e in (after.0, after.1, same files from h.0 next after.0 after.2))

-- the same after a flush
pub saved_flushed : (held_old held_new : Option (List File)) (old mid new : Option (List ℕ)) (from next : ℕ) (outcome : Outcome) (Are : Saves) → Appends mid new []
    → Saved held_old held_new old mid from next outcome Are → Saved held_old held_new old new from next outcome Are
saved_flushed held_old held_new old mid new from next outcome Are p h = (h.0, appends_flushed old mid new (lines_text h.0) h.1 p, h.2, h.3, h.4)

-- this, and then that
pub saved_then : (held_old held_mid held_new : Option (List File)) (old mid new : Option (List ℕ)) (from number next : ℕ) (a b both : Outcome) (First Second : Saves) → both ≡ worse a b
    → Saved held_old held_mid old mid from number a First → Saved held_mid held_new mid new number next b Second
    → Saved held_old held_new old new from next both (Then First Second)
saved_then held_old held_mid held_new old mid new from number next a b both First Second e h k = (
  h.0 ++ k.0,
  appends_lines old mid new h.0 k.0 h.1 k.1,
  worst_both a b both h.0 k.0 e h.2 k.2,
  All-append (λ (line : FileLine). IfSome line.saved IsSafeName) h.0 k.0 h.3 k.3,
  λ files is.
      let one = h.4 files is in
      let two = k.4 one.0 one.1 in
      (two.0, two.1, (one.0, number, h.0, k.0, one.2, two.2, refl)),
)

-- ---- what was saved so far, and what is left

pub before_start : (held : Option (List File)) (old : Option (List ℕ)) (from : ℕ) (All Left : List ℕ → Saves) → ((later : List ℕ) → Implies (Left later) (All later))
    → Saved held held old old from from Clean (Before All Left)
before_start held old from All Left same =
    ([], Appends-nil old, refl, (All-nil (λ (line : FileLine). IfSome line.saved IsSafeName)), λ files e. (files, e, λ later others last now h. same later files from others last now h))

-- the next one of what was left
pub before_more : (held_old held_mid held_new : Option (List File)) (old mid new : Option (List ℕ)) (from number next : ℕ) (a b both : Outcome) (All Left Rest : List ℕ → Saves) (One : Saves)
    → both ≡ worse a b → ((later : List ℕ) → Implies (Then One (Rest later)) (Left later)) → Saved held_mid held_new mid new number next b One
    → Saved held_old held_mid old mid from number a (Before All Left) → Saved held_old held_new old new from next both (Before All Rest)
before_more held_old held_mid held_new old mid new from number next a b both All Left Rest One e left one here =
    saved_as held_old held_new old new from next both (Then (Before All Left) One) (Before All Rest)
    (λ files first lines end now h later others last final rest.
    subst (λ (ls : List FileLine). All later files first ls last final) (sym (ap (λ (ls : List FileLine). ls ++ others) h.6 ∙ append_assoc h.2 h.3 others))
    (h.4 later (h.3 ++ others) last final (left later h.0 h.1 (h.3 ++ others) last final (now, end, h.3, others, h.5, rest, refl))))
    (saved_then held_old held_mid held_new old mid new from number next a b both (Before All Left) One e here one)

-- nothing is left
pub before_end : (held_old held_new : Option (List File)) (old new : Option (List ℕ)) (from next : ℕ) (outcome : Outcome) (All Left : List ℕ → Saves) (later : List ℕ) → Implies (Only []) (Left later)
    → Saved held_old held_new old new from next outcome (Before All Left) → Saved held_old held_new old new from next outcome (All later)
before_end held_old held_new old new from next outcome All Left later none here =
    saved_as held_old held_new old new from next outcome (Before All Left) (All later)
    (λ files first lines end now h. subst (λ (ls : List FileLine). All later files first ls end now) (append-nil lines) (h later [] end now (none now end [] end now (refl, refl, refl))))
    here

-- all that was left
pub before_last : (held_old held_mid held_new : Option (List File)) (old mid new : Option (List ℕ)) (from number next : ℕ) (a b both : Outcome) (All Left : List ℕ → Saves) (later : List ℕ) (Last : Saves)
    → both ≡ worse a b → Implies Last (Left later) → Saved held_mid held_new mid new number next b Last → Saved held_old held_mid old mid from number a (Before All Left)
    → Saved held_old held_new old new from next both (All later)
before_last held_old held_mid held_new old mid new from number next a b both All Left later Last e left last here =
    saved_as held_old held_new old new from next both (Then (Before All Left) Last) (All later)
    (λ files first lines end now h. subst (λ (ls : List FileLine). All later files first ls end now) (sym h.6) (h.4 later h.3 end now (left h.0 h.1 h.3 end now h.5)))
    (saved_then held_old held_mid held_new old mid new from number next a b both (Before All Left) Last e here last)

-- with other words for what is left
pub before_as : (held_old held_new : Option (List File)) (old new : Option (List ℕ)) (from next : ℕ) (outcome : Outcome) (All Left Those Rest : List ℕ → Saves) (more : List ℕ → List ℕ)
    → ((later : List ℕ) → Implies (All (more later)) (Those later)) → ((later : List ℕ) → Implies (Rest later) (Left (more later)))
    → Saved held_old held_new old new from next outcome (Before All Left) → Saved held_old held_new old new from next outcome (Before Those Rest)
before_as held_old held_new old new from next outcome All Left Those Rest more all left here =
    saved_as held_old held_new old new from next outcome (Before All Left) (Before Those Rest)
    (λ files first lines end now h later others last final rest. all later files first (lines ++ others) last final (h (more later) others last final (left later now end others last final rest)))
    here

-- the first of what was left
pub before_then : (held_old held_mid held_new : Option (List File)) (old mid new : Option (List ℕ)) (from number next : ℕ) (a b both : Outcome) (All Left Rest : List ℕ → Saves) → both ≡ worse a b
    → Saved held_mid held_new mid new number next b (Before Left Rest) → Saved held_old held_mid old mid from number a (Before All Left)
    → Saved held_old held_new old new from next both (Before All Rest)
before_then held_old held_mid held_new old mid new from number next a b both All Left Rest e some here =
    saved_as held_old held_new old new from next both (Then (Before All Left) (Before Left Rest)) (Before All Rest)
    (λ files first lines end now h later others last final rest.
    subst (λ (ls : List FileLine). All later files first ls last final) (sym (ap (λ (ls : List FileLine). ls ++ others) h.6 ∙ append_assoc h.2 h.3 others))
    (h.4 later (h.3 ++ others) last final (h.5 later others last final rest)))
    (saved_then held_old held_mid held_new old mid new from number next a b both (Before All Left) (Before Left Rest) e here some)
