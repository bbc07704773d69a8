-- `printing::append_decimal` meets its contract: the higher digits, and then the last one behind them. The number falls with each call.
-- Assumes nothing.
use mathlib.Core.Path.{sym}
use native.Mathlib.Omega.{arith}
use Rattle.printing.proofs.Digits.{decimal_one, decimal_more}
use Rattle.printing.proofs.Appending.{then, same_text}
use Rattle.printing.proofs.+append_decimal.Goals as goal

pub returns-then-n-lt10 : goal.returns-then-n-lt10
returns-then-n-lt10 t c =
    let n = c.args.n in
    same_text (sym (decimal_one n c.if-n-lt10.true)) c.append_byte.ensures

pub returns : goal.returns
returns t c =
    let n = c.args.n in
    same_text (sym (decimal_more n c.if-n-lt10.false)) (then (omega arith) c.append_decimal-next.ensures c.append_byte-2.ensures)
