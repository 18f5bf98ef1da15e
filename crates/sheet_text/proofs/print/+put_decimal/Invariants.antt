-- The measure is the number itself: what is put before the last digit is a tenth of it.
use Rattle.sheet_text.proofs.print.+put_decimal.Given as goal

abbrev pub decreases-put_decimal : goal.decreases-put_decimal
decreases-put_decimal l = l.n
