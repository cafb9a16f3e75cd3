-- Lemmas on the files in a text.
use Rattle.std.proofs.Common.{◌≡◌, ℕ, zero, suc, ◌+◌, ◌-◌, ◌<◌, ◌≤◌, List, [], ◌∷◌, ◌++◌, length, drop, Option, Some, None, refl, sym, ap, subst, ◌∙◌, arith, append_assoc, length-drop}
use Rattle.std.specs.Prelude.{filter}
use Rattle.std.specs.Option.{option_map_or}
use Rattle.std.proofs.lemmas.List.{append-nil, drop-drop}
use Rattle.std.proofs.lemmas.List.Elements.{filter-append}
use Rattle.mail_codec.specs.Uuencode.{File, first_file}
use Rattle.mail_data.specs.TextFiles.{TextFile, blocks_from, is_file, text_file, text_files}

-- the files so far, and those of the blocks after an offset, at most this many, are those of all
-- blocks up to the limit
pub record Found (limit : ℕ) (text : List ℕ) (left at : ℕ) (files : List TextFile) : Type 0 where
  pub within : at ≤ length text
  pub all : files ++ filter is_file (blocks_from left at (drop at text)) ≡ text_files limit text

pub found-start : (limit : ℕ) (text : List ℕ) → Found limit text limit 0 []
unfolding text_files
found-start limit text = record { within = omega arith; all = refl }

-- the blocks from the first one on, or none
abbrev first_and_rest : ℕ → ℕ → List ℕ → Option File → List TextFile
first_and_rest most offset rest found =
    option_map_or (λ file. text_file offset rest file ∷ blocks_from most (offset + file.block.end) (drop file.block.end rest)) found []

blocks-first : (most offset : ℕ) (rest : List ℕ) (found : Option File) → found ≡ first_file rest
    → blocks_from (suc most) offset rest ≡ first_and_rest most offset rest found
blocks-first most offset rest found is = ap (first_and_rest most offset rest) (sym is)

blocks-none : (most offset : ℕ) (rest : List ℕ) → None ≡ first_file rest → blocks_from most offset rest ≡ []
blocks-none zero offset rest is = refl
blocks-none (suc most) offset rest is = blocks-first most offset rest None is

module _ (limit : ℕ) (text : List ℕ) where
  -- no block is left to read, or no block follows
  found-nothing : (left at : ℕ) (files : List TextFile) → Found limit text left at files → blocks_from left at (drop at text) ≡ []
      → files ≡ text_files limit text
  found-nothing left at files found none =
      sym (ap (λ (blocks : List TextFile). files ++ filter is_file blocks) none ∙ append-nil files) ∙ found.all

  pub found-limit : (left at : ℕ) (files : List TextFile) → Found limit text left at files → left ≡ 0 → files ≡ text_files limit text
  found-limit left at files found is = found-nothing left at files found (ap (λ (n : ℕ). blocks_from n at (drop at text)) is)

  pub found-end : (left at : ℕ) (files : List TextFile) → Found limit text left at files → None ≡ first_file (drop at text)
      → files ≡ text_files limit text
  found-end left at files found is = found-nothing left at files found (blocks-none left at (drop at text) is)

module _ (limit : ℕ) (text : List ℕ) (at : ℕ) (files : List TextFile) (file : File) where
  -- the blocks after the first, of which one less may be read
  found-more : (most : ℕ) → Found limit text (suc most) at files → Some file ≡ first_file (drop at text)
      → file.block.end ≤ length (drop at text)
      → Found limit text most (at + file.block.end) (files ++ filter is_file (text_file at (drop at text) file ∷ []))
  found-more most found is low =
      let first = text_file at (drop at text) file in
      let later = λ (rest : List ℕ). filter is_file (blocks_from most (at + file.block.end) rest) in
      let on : drop file.block.end (drop at text) ≡ drop (at + file.block.end) text = drop-drop file.block.end at text ∙ ap (λ k. drop k text) (omega arith) in
      record {
        within = let inside = found.within in omega (arith, length-drop at text);
        all =
            append_assoc files (filter is_file (first ∷ [])) (later (drop (at + file.block.end) text))
            ∙ ap (λ (rest : List ℕ). files ++ (filter is_file (first ∷ []) ++ later rest)) (sym on)
            ∙ ap (λ (found : List TextFile). files ++ found) (sym (filter-append is_file (first ∷ []) (blocks_from most (at + file.block.end) (drop file.block.end (drop at text)))))
            ∙ ap (λ (blocks : List TextFile). files ++ filter is_file blocks) (sym (blocks-first most at (drop at text) (Some file) is))
            ∙ found.all;
      }

-- a block that was found in the rest of a text, and pushed
pub found-pushed : (limit : ℕ) (text : List ℕ) (left at : ℕ) (files new : List TextFile) (file : File) (pushed : TextFile) (rest : List ℕ)
    → rest ≡ drop at text → Found limit text left at files → 0 < left
    → Some file ≡ first_file rest → file.block.end ≤ length rest → pushed ≡ text_file at (drop at text) file
    → new ≡ files ++ filter is_file (pushed ∷ []) → Found limit text (left - 1) (at + file.block.end) new
found-pushed limit text left at files new file pushed rest rest_is found some is low pushed_is new_is =
    subst (λ (all : List TextFile). Found limit text (left - 1) (at + file.block.end) all) (sym (new_is ∙ ap (λ (p : TextFile). files ++ filter is_file (p ∷ [])) pushed_is))
    (found-more limit text at files file (left - 1) (subst (λ (n : ℕ). Found limit text n at files) (omega arith) found) (is ∙ ap first_file rest_is)
    (subst (λ (r : List ℕ). file.block.end ≤ length r) rest_is low))
