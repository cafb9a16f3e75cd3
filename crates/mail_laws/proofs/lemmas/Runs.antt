-- Sections join to what a walk over them makes, after no run and after an open one.
use Rattle.std.proofs.Common.{◌≡◌, ℕ, List, [], ◌∷◌, ◌++◌, append-nil, Some, None, refl, ap, ◌∙◌}
use Rattle.mailparse.specs.Continuations.{joined}
use Rattle.mailparse.specs.Sections.{Section, octets, text}
use Rattle.mailparse.proofs.lemmas.ContinuationsJoining.{joined_run}
use Rattle.mail_laws.specs.Runs.{walked_after}

pub walked : (sections : List Section) → (joined sections ≡ walked_after None [] sections)
    × ((reading : List ℕ → List ℕ) (bytes : List ℕ) → joined (octets reading bytes ∷ sections) ≡ walked_after (Some reading) bytes sections)
walked [] = (refl, λ reading bytes. append-nil (reading bytes))
walked (text t ∷ sections) =
    let h = walked sections in
    (ap (λ rest. t ++ rest) h.0, λ reading bytes. ap (λ rest. reading bytes ++ (t ++ rest)) h.0)
walked (octets last more ∷ sections) =
    let h = walked sections in
    (h.1 last more, λ reading bytes. joined_run reading last bytes more sections ∙ h.1 last (bytes ++ more))
