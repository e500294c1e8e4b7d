use Rattle.std.proofs.Common.{map, vec_items}
use Rattle.fields.proofs.Laws.{accepts_only, refuses_only}
use Rattle.case_fields.specs.Cases.{case_format}
use Rattle.case_fields.specs.Meant.{meant}
use Rattle.case_fields.proofs.Lawful.{lawful}
use Rattle.case_fields.proofs.read.read_case.Goals as goal

pub returns : goal.returns
returns c =
    record {
      reads = c.read_records.ensures;
      accepts = accepts_only case_format lawful _ (λ v. map meant (vec_items v)) c.read_records.result c.read_records.ensures;
      refuses = refuses_only case_format lawful _ (λ v. map meant (vec_items v)) c.read_records.result c.read_records.ensures;
    }
