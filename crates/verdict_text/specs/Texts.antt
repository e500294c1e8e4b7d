-- The lines of a call and of what stands, as bytes.
use Rattle.std.specs.Prelude.{ℕ, List, ◌++◌, codes}
use Rattle.fields.specs.Certificates.{kind_text}
use Rattle.inputs.specs.Labels.{label_in}
use Rattle.docket.specs.declared.verdict.Verdict.{Verdict}
use Rattle.docket.specs.Calls.{Laid}
use Rattle.docket.specs.declared.standing.Standing.{Standing}
use Rattle.docket.specs.Texts.{label_text, verdict_text, stands_text}

-- its kind, its label and its verdict
abbrev pub line_text : Laid → Verdict → List ℕ
line_text c w = kind_text c.kind ++ (codes " " ++ (label_text (label_in c.bytes) ++ (codes " " ++ (verdict_text w ++ codes "\n"))))

-- the line of what stands
abbrev pub standing_text : Standing → List ℕ
standing_text s = codes "standing " ++ (stands_text s ++ codes "\n")
