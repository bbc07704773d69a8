-- The text that `print_read` prints.
use Rattle.printing.specs.Texts.{read_text}
use Rattle.printing.proofs.print_read.Given as goal

abbrev pub ghost-print : goal.ghost-print
ghost-print a = read_text a.append.0 a.append.1 a.append.2.now
