-- Verdicts and what stands in words, as bytes.
use Rattle.std.specs.Prelude.{ℕ, List, [], ◌++◌, ℤ, Some, None, codes, decimal, Option}
use Rattle.std.specs.Fmt.{signed_decimal}
use Rattle.books.specs.Places.{place_text}
use Rattle.books.specs.ClauseTable.{NamedClause, clause_at}
use Rattle.docket.specs.declared.verdict.Verdict.{Verdict}
use Rattle.docket.specs.declared.verdict.Verdict.TheVariants.{Accepted, Refused}
use Rattle.docket.specs.declared.standing.Standing.{Standing}

-- a figure, or a dash where it is absent
abbrev pub figure_text : Option ℤ → List ℕ
figure_text None = codes "-"
figure_text (Some z) = signed_decimal z

-- a label, or a dash where it is absent
abbrev pub label_text : Option ℕ → List ℕ
label_text None = codes "-"
label_text (Some n) = decimal n

-- the words of a clause behind the place, where there is one
abbrev pub named_clause_text : Option NamedClause → List ℕ
named_clause_text None = []
named_clause_text (Some c) = codes " clause " ++ c.text

abbrev pub clause_text : Option ℕ → List ℕ
clause_text None = []
clause_text (Some code) = named_clause_text (clause_at code)

abbrev pub verdict_text : Verdict → List ℕ
verdict_text (Accepted v) = codes "accepted " ++ signed_decimal v
verdict_text (Refused n p c) = codes "refused " ++ (decimal n ++ (codes " " ++ (place_text p ++ clause_text c)))

-- a label and its figure
abbrev pub labelled_text : Option ℕ → Option ℤ → List ℕ
labelled_text l v = label_text l ++ (codes " " ++ figure_text v)

-- what stands: label and best net benefit, label and bound, and the gap
abbrev pub stands_text : Standing → List ℕ
stands_text s =
    labelled_text s.best_label s.best ++ (codes " " ++ (labelled_text s.bound_label s.bound ++ (codes " " ++ figure_text s.gap)))

-- what is there, or a dash
abbrev pub or_dash : {T : Type 0} → (T → Option (List ℕ)) → Option T → Option (List ℕ)
or_dash output None = Some (codes "-")
or_dash output (Some x) = output x
