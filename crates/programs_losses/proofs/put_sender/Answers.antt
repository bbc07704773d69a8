-- `programs_losses::put_sender` meets its contract: the row, the kind, the id and the counts behind one another, in a buffer that has room for them.
-- Assumes nothing.
use Prim.Native.Nat.{◌<◌, ◌^◌}
use mathlib.Core.Path.{◌≡◌}
use native.Mathlib.Omega.{arith}
use lib.ListN.{length}
use Rattle.printing.specs.Texts.{ascii}
use Rattle.printing.proofs.Appending.{then, same_text}
use Rattle.programs_losses.proofs.Lines.{sender_front, whole_id}
use borrow.Author.Rules.{rules}
use Rattle.programs_losses.proofs.put_sender.Goals as goal

pub returns : goal.returns
unfolding ascii
returns c = let h : length c.args.out.now < 2 ^ 64 = omega arith in let l : length c.args.sender.id ≡ 8 = search rules in let told = sender_front c.requires h c.args.row c.args.sender (omega arith) (record { first = omega arith; last = omega arith; received = omega arith; missed = omega arith; id = l }) (then h (then h (then h c.put_labelled-kind.ensures (same_text c.kind_word.ensures c.append-id.ensures)) (whole_id c.args.sender.id l c.append_hexadecimal-counts.ensures)) c.put_counts.ensures) in record { length = told.0; bytes = told.1 }
