-- Places in words.
use Rattle.std.specs.Prelude.{ℕ, List, ◌++◌, codes, decimal}
use Rattle.books.specs.declared.part.Place.{Place}
use Rattle.books.specs.declared.part.Place.TheVariants.{Offset, Column, Row}

abbrev pub place_text : Place → List ℕ
place_text (Offset n) = codes "offset " ++ decimal n
place_text (Column n) = codes "column " ++ decimal n
place_text (Row n) = codes "row " ++ decimal n
