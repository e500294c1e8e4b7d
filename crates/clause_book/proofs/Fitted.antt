-- What each record of a well formed case passes.
use Rattle.std.proofs.Common.{◌≡◌, Bool, true, not, ◌&&◌, eqb, ltb, List, [], ◌∷◌, ◌++◌, refl}
use Rattle.std.proofs.lemmas.Bool.{and_from}
use Rattle.fields.specs.Files.{Fit}
use Rattle.case_fields.specs.Entries.{Entry}
use Rattle.case_fields.specs.Entries.Entry.{period, node, line, energy_offer, bid, regulation_offer, requirement}
use Rattle.case_fields.specs.Tests.{in_range, refers, count}
use Rattle.case_fields.specs.Kinds.{both}
use Rattle.case_fields.specs.Cases.{case_format}
use Rattle.case_fields.proofs.Ranges.{parts}
use Rattle.books.specs.Conditions.{every}

-- a line joins two nodes
abbrev pub joins_two : Entry → Bool
joins_two (period p) = true
joins_two (node n) = true
joins_two (line l) = not (eqb l.start l.end)
joins_two (energy_offer o) = true
joins_two (bid b) = true
joins_two (regulation_offer o) = true
joins_two (requirement q) = true

-- numbers in range, and a line from one node to another
abbrev pub proper : Entry → Bool
proper e = in_range e && joins_two e

joined : (before : List Entry) (e : Entry) → refers before e ≡ true → joins_two e ≡ true
joined before (period p) h = refl
joined before (node n) h = refl
joined before (line l) h =
    let start = ltb l.start (count 2 before) in
    let end = ltb l.end (count 2 before) in
    let distinct = not (eqb l.start l.end) in
    (parts end distinct (parts start (both end distinct) h).1).1
joined before (energy_offer o) h = refl
joined before (bid b) h = refl
joined before (regulation_offer o) h = refl
joined before (requirement q) h = refl

pub each_proper : (before es : List Entry) → Fit case_format before es → every proper es ≡ true
unfolding case_format
each_proper before [] w = refl
each_proper before (e ∷ es) w =
    and_from (proper e) (every proper es) (and_from (in_range e) (joins_two e) w.0.in_range (joined before e w.0.refers))
    (each_proper (before ++ e ∷ []) es w.1)
