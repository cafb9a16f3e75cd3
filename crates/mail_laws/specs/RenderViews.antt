-- What a contract sees of an outline.
use Rattle.std.specs.Prelude.{ℕ, List, map}
use Rattle.std.specs.Global.{Vec}
use Rattle.mailparse.specs.Header.{Header}
use Rattle.mail_laws.specs.Render.{OutlineTree, leaf, branch, forest_of}
use Rattle.mail_laws.specs.declared.render.Outline.{Outline}
use Rattle.mail_laws.specs.declared.render.OutlineKind.TheOpen.{Outline-F, OutlineKind-F}
use Rattle.mail_laws.specs.declared.render.OutlineKind.TheFolds.{fold-Outline}

-- a header: its key and its value
abbrev pub header_seen : Vec ℕ × Vec ℕ → Header
header_seen pair = record { key = pair.0.items; value = pair.1.items }

-- headers, in order
abbrev pub headers_seen : Vec (Vec ℕ × Vec ℕ) → List Header
headers_seen pairs = map header_seen pairs.items

-- the body or the parts make an outline of the headers
abbrev pub kind_step : OutlineKind-F (List Header → OutlineTree) OutlineTree → List Header → OutlineTree
kind_step (OutlineKind-F.Leaf body) headers = leaf headers body.items
kind_step (OutlineKind-F.Branch boundary parts) headers = branch headers boundary.items (forest_of parts.items)

-- one outline, with its parts as trees
abbrev pub outline_step : Outline-F (List Header → OutlineTree) OutlineTree → OutlineTree
outline_step outline = outline.kind (headers_seen outline.headers)

-- an outline: its headers, and its body or its boundary and parts
abbrev pub outline_tree : Outline → OutlineTree
outline_tree = fold-Outline (List Header → OutlineTree) OutlineTree kind_step outline_step
