-- The text that `print_written` prints.
use Rattle.printing.specs.Texts.{written_text}
use Rattle.printing.proofs.print_written.Given as goal

abbrev pub ghost-print : goal.ghost-print
ghost-print a = written_text a.append.0 a.append.1.now
