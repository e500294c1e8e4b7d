use Rattle.std.proofs.Common.{◌≡◌, ◌≤◌, [], ◌++◌, map, length, vec_items}
use Rattle.fields.specs.Files.{encoding, Fit}
use Rattle.case_fields.specs.Cases.{case_format}
use Rattle.case_fields.specs.Meant.{meant}
use Rattle.case_fields.specs.Summaries.{SumsUp}
use Rattle.case_fields.proofs.read.read_records.Given as goal

-- the records so far are well formed, and their bytes and the rest make the input
abbrev pub invariant-loop-offset : goal.invariant-loop-offset
invariant-loop-offset l =
    record {
      whole : l.offset-iterator.input.now ≡ l.input;
      bytes : l.input ≡ encoding case_format (map meant (vec_items l.records)) ++ l.offset-iterator.rest.now;
      each : Fit case_format [] (map meant (vec_items l.records));
      sums : SumsUp l.before (map meant (vec_items l.records));
      nodes : l.before.nodes ≤ length (encoding case_format (map meant (vec_items l.records)));
    }
