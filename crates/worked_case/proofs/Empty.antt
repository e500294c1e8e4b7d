-- The book of no columns and no rows.
use Rattle.std.proofs.Common.{◌≡◌, true, List, [], ◌∷◌, length, pos, Ok, refl, ap, arith, lit<}
use Rattle.fields.specs.Bytes.{four}
use Rattle.fields.specs.Fields.{field}
use Rattle.fields.specs.declared.certificate.CertificateKind.TheVariants.{Schedule, Multipliers}
use Rattle.books.specs.declared.part.Column.{Column}
use Rattle.books.specs.Conditions.{sound}
use Rattle.books.specs.Lists.{FullRow, Lists}
use Rattle.certificates.specs.Checks.{judged_schedule, judged_set}
use Rattle.docket.specs.Calls.{Judged}
use Rattle.listings.specs.Listed.{listing_of}
use Rattle.worked_case.specs.Certificates.{schedule, set}
use Rattle.worked_case.specs.Outcomes.{empty_lists}
use Rattle.worked_case.proofs.Judged.{judged}

pub empty_kept : sound empty_lists ≡ true
unfolding sound
empty_kept = refl

pub empty_listed : listing_of empty_lists ≡ []
unfolding listing_of
empty_listed = refl

-- a column or a row has a field, and so a byte
none_listed : (cs : List Column) (rs : List FullRow) → listing_of (record { columns = cs; rows = rs }) ≡ [] → ◌≡◌ {A = Lists} (record { columns = cs; rows = rs }) empty_lists
unfolding listing_of field
none_listed [] [] e = refl
none_listed [] (r ∷ rs) e = let z = ap length e in absurd (omega arith)
none_listed (c ∷ cs) rs e = let z = ap length e in absurd (omega arith)

pub empty_only : (b : Lists) → listing_of b ≡ [] → b ≡ empty_lists
empty_only b e = none_listed b.columns b.rows e

pub empty_schedule_judged : Judged empty_lists (schedule 1 []) 1 (Ok (pos 0))
unfolding judged_schedule four
empty_schedule_judged = judged empty_lists Schedule 1 [] (Ok (pos 0)) (lit< tt) (lit< tt) refl

pub empty_set_judged : Judged empty_lists (set 2 []) 2 (Ok (pos 0))
unfolding judged_set four
empty_set_judged = judged empty_lists Multipliers 2 [] (Ok (pos 0)) (lit< tt) (lit< tt) refl
