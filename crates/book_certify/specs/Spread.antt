-- What is known of the book over which a certificate spreads.
use Rattle.schedule.specs.Code.{settings_of}
use Rattle.book_read.specs.Code.{IsRead}
use Rattle.book_certify.specs.declared.spread.Spread.{Spread}

abbrev pub IsReadBy : Spread → Type 0
IsReadBy by = IsRead by.book.now (settings_of by.conf) by.end by.index.now
