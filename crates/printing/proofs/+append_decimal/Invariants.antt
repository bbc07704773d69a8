-- The measure of `append_decimal`: the number falls with each call.
use Rattle.printing.proofs.+append_decimal.Given as goal

abbrev pub decreases-append_decimal : goal.decreases-append_decimal
decreases-append_decimal l = l.n
