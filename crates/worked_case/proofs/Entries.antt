-- The records of the worked case are well formed, and the bytes are theirs.
use Rattle.std.proofs.Common.{refl, lit<}
use Rattle.fields.specs.Bytes.{two, four, signed_four}
use Rattle.fields.specs.Fields.{field}
use Rattle.fields.specs.Files.{IsFile}
use Rattle.case_fields.specs.Cases.{case_format}
use Rattle.worked_case.specs.Case.{case_bytes, case_entries}

pub worked_file : IsFile case_format case_bytes case_entries
unfolding case_format field two four signed_four
worked_file = record {
  bytes = refl;
  each = (
    record { short = lit< tt; known = refl; follows = refl; sized = refl; in_range = refl; refers = refl; in_order = refl },
    (
      record { short = lit< tt; known = refl; follows = refl; sized = refl; in_range = refl; refers = refl; in_order = refl },
      (
        record { short = lit< tt; known = refl; follows = refl; sized = refl; in_range = refl; refers = refl; in_order = refl },
        (
          record { short = lit< tt; known = refl; follows = refl; sized = refl; in_range = refl; refers = refl; in_order = refl },
          (
            record { short = lit< tt; known = refl; follows = refl; sized = refl; in_range = refl; refers = refl; in_order = refl },
            (
              record { short = lit< tt; known = refl; follows = refl; sized = refl; in_range = refl; refers = refl; in_order = refl },
              (
                record { short = lit< tt; known = refl; follows = refl; sized = refl; in_range = refl; refers = refl; in_order = refl },
                (
                  record { short = lit< tt; known = refl; follows = refl; sized = refl; in_range = refl; refers = refl; in_order = refl },
                  tt,
                ),
              ),
            ),
          ),
        ),
      ),
    ),
  );
  complete = refl;
}
