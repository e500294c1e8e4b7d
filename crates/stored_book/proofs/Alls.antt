-- A test of each element of a list that is made of another.
use Rattle.std.proofs.lemmas.List.{length-map}
use Rattle.std.proofs.lemmas.List.Folds.{list_all-map}

pub ruleset mapped = (length-map, list_all-map)
