-- Settings of records whose places 64 bits have room for.
use Rattle.std.specs.Prelude.{◌<◌}
use Rattle.case_columns.specs.Kinds.{Few}
use Rattle.clauses.specs.declared.setting.Setting.{Setting}

pub record Small (s : Setting) : Type 0 where
  pub place : s.place < 9223372036854775808
  pub kinds : Few s.kinds
