-- The header that the program takes a word for.
use Rattle.std.specs.Prelude.{ℕ, cond}
use Rattle.model.specs.declared.Header.{Header}
use Rattle.model.specs.Header.{no_header}
use Rattle.model.specs.Word.{header_of, good_word}

-- none of a bad word
unfoldable pub header_or_none : ℕ → Header
header_or_none w = cond (good_word w) (header_of w) no_header
