-- REFERENCE 9. What `limits` prints where it is given a word: what it reads, its arguments, and an example, which is
-- document 01's.
use Rattle.std.specs.Prelude.{ℕ, List, ◌++◌}
use Rattle.lists.specs.Bytes.{bytes}

unfoldable pub usage_text : List ℕ
usage_text =
    bytes "limits reads a sheet and prints in plain text every limit, then the figures.\n"
    ++ (bytes "  limits < SHEET     the sheet stands on standard input\n"
    ++ (bytes "  limits help        this text; so does any other word, and nothing is read\n"
    ++ (bytes "A refused sheet prints 'refused', a number and a place, then its line and why.\n"
    ++ bytes "The first word printed tells which it was; the exit status tells nothing.\n")))

unfoldable pub sheet_text : List ℕ
sheet_text =
    bytes "A sheet is lines of 16 digits, 0 to 9 and a to f, each ended by a newline:\n"
    ++ (bytes "word one (inputs 2 digits, steps 2, zeros), a header for each input, the\n"
    ++ (bytes "coefficients of all inputs, the steps; examples/README.md says their bits.\n"
    ++ bytes "This one shifts 2, 3, 1 down by one; its answer is 5, 1:\n"))

unfoldable pub example_text : List ℕ
example_text =
    bytes "0101000000000000\n"
    ++ (bytes "2104000000000000\n"
    ++ (bytes "4000000000000000\n"
    ++ (bytes "4008000000000000\n"
    ++ (bytes "3ff0000000000000\n"
    ++ bytes "9000000000004000\n"))))

unfoldable pub help_text : List ℕ
help_text = usage_text ++ (sheet_text ++ example_text)
