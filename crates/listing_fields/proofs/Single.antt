-- Tag and body determine the field of a listing.
use Rattle.std.proofs.Common.{◌≡◌, ◌++◌, arith}
use Rattle.fields.specs.Bytes.{signed_eight}
use Rattle.fields.specs.Lawful.{Lawful}
use Rattle.listing_fields.specs.Terms.{terms_bytes}
use Rattle.fields.proofs.Injective.{signed_four_one, signed_eight_one}
use Rattle.listing_fields.specs.Entries.{Entry}
use Rattle.listing_fields.specs.Entries.Entry.{column, row}
use Rattle.listing_fields.specs.Encoding.{tag, body, Written}
use Rattle.listing_fields.specs.Listings.{listing_format}
use Rattle.listing_fields.proofs.Sixes.{terms_one}
use Rattle.listing_fields.proofs.Ranges.{range_written}

one : (d e : Entry) → tag d ≡ tag e → body d ≡ body e → Written d → Written e → d ≡ e
one (column c) (column d) t b p q =
    let l = signed_four_one c.lower d.lower _ _ p.0 q.0 b in
    let u = signed_four_one c.upper d.upper _ _ p.1 q.1 l.1 in
    let k = signed_four_one c.price d.price _ _ p.2 q.2 u.1 in
    let s : c.switch ≡ d.switch = cc k.1 in
    λ i. column (record { lower = l.0 i; upper = u.0 i; price = k.0 i; switch = s i })
one (column c) (row d) t b p q = absurd (omega arith)
one (row c) (column d) t b p q = absurd (omega arith)
one (row c) (row d) t b p q =
    let code : c.code ≡ d.code = cc in
    let side : c.side ≡ d.side = cc in
    let numbers : signed_eight c.lower ++ (signed_eight c.upper ++ terms_bytes c.terms) ≡ signed_eight d.lower ++ (signed_eight d.upper ++ terms_bytes d.terms) = cc in
    let l = signed_eight_one c.lower d.lower _ _ p.2 q.2 numbers in
    let u = signed_eight_one c.upper d.upper _ _ p.3 q.3 l.1 in
    let terms = terms_one c.terms d.terms p.4 q.4 u.1 in
    λ i. row (record { code = code i; side = side i; lower = l.0 i; upper = u.0 i; terms = terms i })

pub lawful : Lawful listing_format
unfolding listing_format
lawful = record { one = one; written = range_written }
