-- What a stored book means.
use Rattle.std.specs.Prelude.{◌≡◌, true, vec_items}
use Rattle.books.specs.Lists.{Lists}
use Rattle.books.specs.Conditions.{sound}
use Rattle.stored_book.specs.declared.book.StoredBook.{StoredBook}
use Rattle.stored_book.specs.Stored.{stored_lists}

abbrev pub book_lists : StoredBook → Lists
book_lists b = stored_lists (vec_items b.columns) (vec_items b.rows)

-- these keep the conditions
pub book_sound : (b : StoredBook) → sound (book_lists b) ≡ true
book_sound b = b.checked
