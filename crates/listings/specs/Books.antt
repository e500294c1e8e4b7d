-- What a book that was read from a listing means.
use Rattle.books.specs.Lists.{Lists}
use Rattle.stored_book.specs.Books.{book_lists}
use Rattle.listings.specs.declared.book.ListedBook.{ListedBook}

abbrev pub listed_lists : ListedBook → Lists
listed_lists b = book_lists b.book
